-- What a closed map has in use.
use Rattle.std.specs.Prelude.{◌≡◌, ◌+◌, List, length}
use Rattle.oak_model.specs.declared.classes.Class.{Class}
use Rattle.oak_model.specs.declared.replies.Pair.{Pair}
use Rattle.oak_model.specs.Class.{blocks_of, class_number}
use Rattle.oak_core.specs.declared.closing.Closed.{Closed}
use Rattle.oak_core.specs.Closing.{closed_key, closed_map, closed_words}
use Rattle.oak_core.specs.Memory.{memory}
use Rattle.oak_core.specs.Usage.{used_blocks, used_headers}
use Rattle.lone_counts.specs.LoneTable.{retired_in}
use Rattle.lone_counts.specs.Maps.{IsMapOf}

-- The used blocks are exactly those of the map, and the used headers are its keys and those that are retired.
pub record UsesJustMap (c : Closed) : Type 0 where
  pub blocks : (m : List Pair) (k : Class) → IsMapOf (closed_map c) m → used_blocks (closed_key c) (memory (closed_key c) (closed_words c)) (class_number k) ≡ blocks_of m k
  pub headers : (m : List Pair) → IsMapOf (closed_map c) m → used_headers (closed_key c) (memory (closed_key c) (closed_words c)) ≡ length m + retired_in (closed_key c) (closed_words c)
