-- The room that a search tries first.
use Rattle.std.specs.Prelude.{◌≡◌, ℕ, nat_lt, if◌then◌else◌, Option, None, Some}
use Rattle.pin_word.specs.PinWord.{state_of}
use Rattle.oak_model.specs.Limits.{Sizes}
use Rattle.oak_model.specs.declared.replies.Hint.{Hint}
use Rattle.chunk_core.specs.declared.states.TheConstants.{OPEN}
use Rattle.chunk_core.specs.PinnedRooms.{span_of}
use Rattle.chunk_core.specs.Spans.{Span}
use Rattle.oak_core.specs.declared.table.Pass.{Pass}
use Rattle.oak_core.specs.Passes.{state, tries}
use Rattle.oak_core.specs.Tries.{raised}
use Rattle.chunk_ops.specs.PinRecords.{room_pin}
use Rattle.chunk_ops.specs.RoomPins.{PinsFirst}

-- the room, where there is one and the table has it, and else room 0
abbrev pub room_or_lowest : Sizes → Option ℕ → ℕ
room_or_lowest z None = 0
room_or_lowest z (Some r) = if nat_lt r z.chunks then r else 0

-- the room that the hint names, where the table has it, and else room 0
abbrev pub first_room : Sizes → Hint → ℕ
first_room z h = room_or_lowest z h.room

-- The first step of the call pinned the room. Where that found it open, with a range that has P, the tries were raised by 1.
pub record TriesFirst (z : Sizes) (call r : ℕ) (P : Span → Type 0) (p q : Pass) : Type 0 where
  pub step : PinsFirst z call r (state p) (state q)
  pub once : state_of step.number ≡ OPEN → P (span_of (room_pin step.to)) → tries q ≡ raised (tries p) 1
