-- What stands under the pins of passes, at every moment of a schedule.
use Rattle.std.specs.Prelude.{◌≡◌, ℕ, ◌/◌, ◌%◌, map, Some}
use Rattle.std.specs.Int.{bit_at}
use mathlib.Core.Option.{some}
use lib.ListN.{get_elem?}
use Rattle.oak_model.specs.Limits.{Sizes}
use Rattle.oak_model.specs.Counts.{total}
use Rattle.arena_core.specs.Blocks.{holds}
use Rattle.arena_core.specs.Place.{class_in, block_in, content}
use Rattle.header_core.specs.declared.holds.PinnedHeader.{PinnedHeader}
use Rattle.header_core.specs.HeaderStep.{unpin_header}
use Rattle.oak_core.specs.declared.states.PassState.{PassState}
use Rattle.oak_core.specs.Memory.{memory}
use Rattle.oak_core.specs.EntryOwners.{entry_owners}
use Rattle.oak_core.specs.Owners.{has_block, other_owners}
use Rattle.oak_core.specs.PassState.{blocks_of, rooms_held}
use Rattle.oak_core.specs.Schedule.{Event, steps}
use Rattle.oak_core.specs.Step.{Step, on_headers}
use Rattle.oak_core.specs.TableState.{TableState}

-- the pass in this seat has the pin
abbrev pub StandsAt : ℕ → PinnedHeader → TableState → Type 0
StandsAt seat p s = (v : PassState) × (get_elem? s.states seat ≡ some v) × (v.headers.pin ≡ Some p)

-- The bit of the block that the pin's place names is set. No pass holds the block, of the headers one has it, the pinned one, and no entry has it. Its words are those that the pin recorded.
pub record KeepsBlock (z : Sizes) (p : PinnedHeader) (s : TableState) : Type 0 where
  pub taken : bit_at ((memory z s.words).arena.bits (class_in p.place) (block_in p.place / 64)) (block_in p.place % 64) ≡ 1
  pub unheld : total (holds (class_in p.place) (block_in p.place)) (map blocks_of s.states) ≡ 0
  pub owned : has_block (memory z s.words).headers (class_in p.place) (block_in p.place) p.header ≡ 1
  pub alone : other_owners z (memory z s.words).headers (class_in p.place) (block_in p.place) ≡ 1
  pub unkeyed : entry_owners z (memory z s.words).rooms (content (memory z s.words).arena.bytes) (map rooms_held s.states) (class_in p.place) (block_in p.place) ≡ 0
  pub words : content (memory z s.words).arena.bytes p.place ≡ p.words

abbrev pub IsUnpin : Step → Type 0
IsUnpin (on_headers (unpin_header h)) = Unit {0}
IsUnpin _ = ⊥

-- the event is the step by which the pass in this seat undoes its pin
abbrev pub Undoes : ℕ → Event → Type 0
Undoes seat (steps other call x) = (other ≡ seat) × IsUnpin x
Undoes seat _ = ⊥
