-- What is read of a chunk under a pin that is undone then.
use Rattle.std.proofs.Common.{◌≡◌, ℕ, ◌<◌, Bool, cond, ne_eqb, Option, Some, None, List, [], drop, get_or, sym, ap, ◌∙◌, arith}
use Rattle.std.proofs.lemmas.List.{length-drop}
use Rattle.pin_word.specs.PinWord.{state_of, count_of}
use Rattle.oak_model.specs.Key.{IsKey}
use Rattle.oak_model.specs.Limits.{Sizes}
use Rattle.chunk_core.specs.declared.holds.PinnedRoom.{PinnedRoom}
use Rattle.chunk_core.specs.declared.holds.RoomHolds.{RoomHolds}
use Rattle.chunk_core.specs.declared.states.TheConstants.{OPEN}
use Rattle.chunk_core.specs.PinnedRooms.{span_of}
use Rattle.chunk_core.specs.Spans.{Span}
use Rattle.oak_core.specs.declared.states.PassState.{PassState}
use Rattle.oak_core.specs.PassState.{HoldsNothing}
use Rattle.oak_core.specs.QuietSteps.{IsQuiet}
use Rattle.oak_core.proofs.seats.AloneRuns.{Then, runs_as, runs_then}
use Rattle.oak_core.proofs.calls.CallSteps.{stands_both}
use Rattle.oak_core.proofs.calls.QuietCalls as steps
use Rattle.chunk_ops.specs.AskedRanges.{CoversKey}
use Rattle.chunk_ops.specs.PinRecords.{HasRoomPin, OnlyMeets, WordsStay, room_pin, with_room_pin}
use Rattle.chunk_ops.specs.PinnedBounds.{high_bound, low_bound, low_length}
use Rattle.chunk_ops.specs.RoomPins.{AddsRoomPin, DropsRoomPin, PinsOpen, Unpins}
use Rattle.chunk_ops.proofs.MeetingCalls.{stays_then}
use Rattle.chunk_ops.proofs.PinSteps.{undone}
use Rattle.chunk_ops.proofs.WordParts.{part_long}
use Rattle.rebalance.proofs.SweptKeys.{high_is_key}

-- ---- the bounds are keys

pub low_is_key : (z : Sizes) (r : ℕ) (v : PassState) → HasRoomPin z r v → 0 < low_length (room_pin v) → IsKey (low_bound (room_pin v))
low_is_key z r v has some = let p = room_pin v in let fits = has.bounds.fit.low_fits in let words = has.bounds.low in let behind = length-drop 1 p.low in
    let long = part_long (low_length p) (drop 1 p.low) (omega arith) in (omega arith, omega arith)

-- a range with a key has it below its high bound, so that this is not empty
pub end_is_key : (z : Sizes) (r : ℕ) (v : PassState) (key : List ℕ) → HasRoomPin z r v → CoversKey key (span_of (room_pin v)) → 0 < get_or (room_pin v).high 0 0 → IsKey (high_bound (room_pin v))
end_is_key z r v key has covers some = let p = room_pin v in let fits = has.bounds.fit.high_fits in
    high_is_key (record { base = p.base; count = 0; latch = 0; first = 0; low = p.low; high = p.high; entries = [] }) key (high_bound p) fits covers
    (ap (λ (b : Bool). cond b None (Some (high_bound p))) (ne_eqb (get_or p.high 0 0) 0 (λ e. omega arith)))

-- ---- the pass only met more

-- the pass held nothing before, the room was pinned until w, and its bounds were loaded until x
pub read_only : (z : Sizes) (call r : ℕ) (P : Span → Type 0) (v w x u : PassState) → HoldsNothing v → PinsOpen z call r P v w → OnlyMeets call w x → Unpins z call r x u → OnlyMeets call v u
read_only z call r P v w x u idle p a b = record {
  stands = stands_both call v w u p.stands (stands_both call w x u a.stands b.stands);
  quiet = steps.only_both IsQuiet v w u p.quiet (steps.only_both IsQuiet w x u a.quiet b.quiet);
  blocks = b.blocks ∙ (a.blocks ∙ p.blocks);
  headers = b.headers ∙ (a.headers ∙ p.headers);
  rooms = b.rooms ∙ (ap (with_room_pin None) (a.rooms ∙ p.rooms) ∙ ap (λ (o : Option PinnedRoom). with_room_pin o v.rooms) (sym (ap (λ (h : RoomHolds). h.pin) idle.rooms)));
  still = runs_as (Then (AddsRoomPin z r) (DropsRoomPin z r)) WordsStay v u (λ c d s. undone z r p.has.inside c s.0 d (λ n. state_of n ≡ OPEN) (λ n. 0 < count_of n) s.1 s.2)
      (runs_then (AddsRoomPin z r) (DropsRoomPin z r) v w u p.still (stays_then (DropsRoomPin z r) w x u a.still b.still));
}
