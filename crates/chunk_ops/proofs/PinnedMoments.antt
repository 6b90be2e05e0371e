-- A good pin of a pass, at a moment at which the rule holds: it stands, so what it found is as it is to be, and a step that keeps the pin leaves it so.
use Rattle.std.proofs.Common.{◌≡◌, ℕ, ◌<◌, List, length, ap, ◌∙◌, sym, subst, Some}
use Rattle.std.specs.Prelude.{slice_index}
use Rattle.pin_word.specs.PinWord.{state_of}
use Rattle.oak_model.specs.Limits.{Sizes}
use Rattle.chunk_core.specs.declared.holds.PinnedRoom.{PinnedRoom}
use Rattle.chunk_core.specs.MayOnRooms.{PinsRoom}
use Rattle.chunk_core.specs.RoomRule.{AreBounds}
use Rattle.oak_core.specs.declared.states.PassState.{PassState}
use Rattle.oak_core.specs.AloneWords.{Moment}
use Rattle.oak_core.specs.Step.{Step, Told}
use Rattle.oak_core.specs.TableState.{TableState}
use Rattle.oak_core.proofs.seats.AloneRuns.{moment_after}
use Rattle.chunk_ops.specs.ClaimLaws.{pin_stands}
use Rattle.chunk_ops.specs.PinRecords.{HasBounds, HasRoomPin, PinStays, room_pin}
use Rattle.chunk_ops.proofs.FoundWell.{found_alike, found_well}

module _ (z : Sizes) (r : ℕ) (words : List ℕ) (v : PassState) (t : Moment z words v) (pin : PinsRoom r v.rooms (room_pin v)) where
  abbrev s : TableState
  s = record { words = words; states = t.states }

  pub moment_pinned : r < z.chunks → HasBounds (room_pin v) → HasRoomPin z r v
  moment_pinned inside bounds = record {
    inside = inside;
    pin = pin;
    bounds = bounds;
    few = t.rule.sizes.entries_greatest;
    found = found_well z s t.rule (room_pin v) (pin_stands z r words v t pin);
    alike = found_alike z s t.rule (room_pin v) (pin_stands z r words v t pin);
  }

-- bounds that stay
bounds_stay : (p q : PinnedRoom) → PinStays p q → HasBounds p → HasBounds q
bounds_stay p q s b = record {
  fit = subst (λ (ws : List ℕ). AreBounds (slice_index ws 0) (slice_index q.high 0)) (sym s.low) (subst (λ (ws : List ℕ). AreBounds (slice_index p.low 0) (slice_index ws 0)) (sym s.high) b.fit);
  low = ap length s.low ∙ b.low;
  high = ap length s.high ∙ b.high;
}

-- a step of any kind that keeps the pin leaves it so
pub step_pinned : (z : Sizes) (call r : ℕ) (x : Step) (v : PassState) (n : ℕ) (w : PassState) → Told z call x v n w → HasRoomPin z r v → w.rooms.pin ≡ Some (room_pin w) → PinStays (room_pin v) (room_pin w) → HasRoomPin z r w
step_pinned z call r x v n w t p is s = moment_pinned z r _ w (moment_after z call x v n w t) (record { is = is; room = s.room ∙ p.pin.room; good = ap state_of s.found ∙ p.pin.good }) p.inside (bounds_stay (room_pin v) (room_pin w) s p.bounds)
