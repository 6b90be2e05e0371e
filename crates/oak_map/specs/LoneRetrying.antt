-- How a call that puts goes on, where its pass is alone. u is the state of the pass at the call, v the present one.
use Rattle.std.specs.Prelude.{◌≡◌, ℕ, ◌+◌, ◌/◌, ◌<◌, ◌⊎◌, Bool, true, List, Some, None}
use Rattle.oak_model.specs.declared.cells.CellCall.{CellCall}
use Rattle.oak_model.specs.declared.replies.Pair.{Pair}
use Rattle.oak_model.specs.Cell.{state_after}
use Rattle.oak_model.specs.KeyNumber.{key_number}
use Rattle.oak_model.specs.Limits.{Sizes}
use Rattle.chunk_core.specs.KeyWords.{high_number, low_number}
use Rattle.chunk_core.specs.LinkedEntries.{entries_in}
use Rattle.chunk_core.specs.Spans.{within}
use Rattle.oak_core.specs.declared.states.PassState.{PassState}
use Rattle.oak_core.specs.AloneWords.{Runs}
use Rattle.oak_core.specs.PassState.{IsAlone, seen_of}
use Rattle.oak_core.specs.Sweeping.{valueless}
use Rattle.lone_counts.specs.Lacks.{new_lack}
use Rattle.lone_counts.specs.LoneTable.{retired_in}
use Rattle.lone_counts.specs.Maps.{IsMapOf, last_states}
use Rattle.point_ops.specs.LoneReplies.{SeesWhole}
use Rattle.rebalance.specs.Copies.{AllLinked, copy_span}
use Rattle.rebalance.specs.LoneWords.{Divides, IsOpen, room_in}
use Rattle.oak_map.specs.LonePuts.{FirstRefused}

-- any two neighbours have more than half as many entries together as a room has
abbrev pub AreMany : Sizes → List ℕ → Type 0
AreMany z words = (r s : ℕ) → IsOpen z words r → IsOpen z words s → high_number (room_in z words r).high ≡ low_number (room_in z words s).low + 1 → z.entries / 2 < entries_in (room_in z words r).count + entries_in (room_in z words s).count

-- the key is absent, the map lacks nothing for it, and its room has an entry left
pub record FitsNow (z : Sizes) (key : List ℕ) (ask : CellCall) (u : PassState) (words : List ℕ) : Type 0 where
  pub absent : last_states u key ≡ None
  pub value : List ℕ
  pub makes : state_after None ask ≡ Some value
  pub lacks : (m : List Pair) → IsMapOf (last_states u) m → new_lack z m (retired_in z words) key value ≡ None
  pub room : ℕ
  pub is_open : IsOpen z words room
  pub covers : within (copy_span (room_in z words room)) (key_number key) ≡ 1
  pub left : entries_in (room_in z words room).count < z.entries

-- The open rooms divide the keys among them, and each entry is linked and has a value; and neighbours are as settling leaves them, but where the chunk of the key was halved since, and then the next try of a pass that is alone is not refused.
pub record StaysSettled (z : Sizes) (key : List ℕ) (ask : CellCall) (u : PassState) (words : List ℕ) : Type 0 where
  pub divides : Divides z words
  pub valued : (r : ℕ) → IsOpen z words r → valueless (room_in z words r) ≡ 0
  pub linked : (r : ℕ) → IsOpen z words r → AllLinked (room_in z words r)
  pub rooms : AreMany z words ⊎ (IsAlone u → FitsNow z key ask u words)

-- of the words at the call and the present ones: no header more is retired, and once the call has settled the table stays so
pub record Retries (z : Sizes) (key : List ℕ) (ask : CellCall) (settled : Bool) (u : PassState) (before after : List ℕ) : Type 0 where
  pub retired : retired_in z after ≡ retired_in z before
  pub settled_stays : settled ≡ true → StaysSettled z key ask u after

-- the call goes on: it made no step yet or had seen all of each history at its begin, and no history changed
pub record LoneGoing (z : Sizes) (key : List ℕ) (ask : CellCall) (settled : Bool) (u v : PassState) : Type 0 where
  pub begun : (v ≡ u) ⊎ (IsAlone u → SeesWhole z u)
  pub seen : IsAlone u → (q : ℕ) → seen_of q v.knowledge ≡ seen_of q u.knowledge
  pub runs : Runs (Retries z key ask settled u) u v

-- of the words at the call: its first try was refused
abbrev pub WasRefused : Sizes → List ℕ → CellCall → PassState → (before after : List ℕ) → Type 0
WasRefused z key ask u before after = FirstRefused z key ask (last_states u key) before

-- it made no try yet, or its first one was refused
abbrev pub FirstTry : Sizes → List ℕ → CellCall → (u v : PassState) → Type 0
FirstTry z key ask u v = (v ≡ u) ⊎ Runs (WasRefused z key ask u) u v
