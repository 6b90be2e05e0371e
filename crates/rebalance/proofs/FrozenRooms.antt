-- A pass freezes a room on which it has a pin, or finds it frozen.
use Rattle.std.proofs.Common.{◌≡◌, ◌≢◌, ℕ, ◌+◌, map, sym, refl, ap, ◌∙◌, subst, arith, inl, List, get_or, inr}
use Rattle.pin_word.specs.PinWord.{state_of}
use Rattle.oak_model.specs.Limits.{Sizes}
use Rattle.oak_model.proofs.Counting.{one_at-same, one_at-other, one_at-true, total_at}
use Rattle.oak_model.proofs.Lists.{at_map}
use Rattle.chunk_core.specs.declared.holds.RoomHeldAs.TheVariants.{Frozen}
use Rattle.chunk_core.specs.declared.holds.RoomHolds.{RoomHolds}
use Rattle.chunk_core.specs.declared.states.TheConstants.{OPEN, FROZEN}
use Rattle.chunk_core.specs.CoverSums.{weight}
use Rattle.chunk_core.specs.RoomRule.{in_room_state}
use Rattle.chunk_core.specs.RoomStep.{freeze_room}
use Rattle.chunk_core.specs.Rooms.{at_room_pin}
use Rattle.chunk_core.proofs.HeldRooms.{room_rows, row_here}
use Rattle.chunk_core.proofs.Weights.{open_none}
use Rattle.oak_core.specs.declared.states.PassState.{PassState}
use Rattle.oak_core.specs.AloneWords.{Runs}
use Rattle.oak_core.specs.Memory.{in_rooms, memory, Memory, index}
use Rattle.oak_core.specs.PassState.{rooms_held}
use Rattle.oak_core.specs.RoomCalls.{NamesRoomPin, FreezesRoom}
use Rattle.oak_core.specs.Splitting.{Loads}
use Rattle.oak_core.specs.Step.{Step, load, on_rooms, Told}
use Rattle.oak_core.proofs.seats.AloneRuns.{moment_after, runs_as, DoesStep, Then, load_runs, runs_then, step_runs}
use Rattle.oak_core.proofs.calls.CallSteps.{met_none, step_alone, step_since, step_met}
use Rattle.chunk_ops.specs.PinRecords.{HasRoomPin, RoomPinned, pin_or, room_pin}
use Rattle.chunk_ops.proofs.MeetingCalls.{stays_then}
use Rattle.chunk_ops.proofs.PinSteps.{pin_found}
use Rattle.chunk_ops.proofs.WordLoads.{load_at, load_reads, only_loaded, pin_holds}
use Rattle.rebalance.specs.Holding.{Freezes, with_frozen, FindsChanged, LeavesUnfrozen}
use Rattle.rebalance.specs.LoneWords.{FreezesWords, room_in}
use Rattle.rebalance.specs.Repeating.{Repeats}
use Rattle.rebalance.proofs.LoneChunks.{lone_divides, none_frozen}
use Rattle.rebalance.proofs.LoneSteps.{StepAt, moment_at, moves_at, step_at}
use Rattle.rebalance.proofs.RoomExchanges.{beside_since, exchanged_state, freeze_beside, freeze_takes}
use Rattle.rebalance.specs.Resting.{OnlyRests, only_rests, resting_both}
use Rattle.chunk_ops.specs.AddsAlone.{Never}
use Rattle.chunk_ops.specs.LoneRooms.{NeverUnfrozen}
use Rattle.chunk_core.specs.Covers.{span_in}
use Rattle.chunk_core.specs.KeyWords.{low_number, high_number}
use Rattle.chunk_core.specs.PinnedRooms.{span_of}
use Rattle.rebalance.specs.Copies.{copy_span}
use Rattle.rebalance.proofs.NeverRuns.{never_so}

-- the load of a room's pin word
pub pin_load : (z : Sizes) (call r word n : ℕ) (v w : PassState) → NamesRoomPin z r word → Loads z call word v n w → Told z call (load (in_rooms (at_room_pin r))) v n w
pin_load z call r word n v w names l = load_at z call word n v w (in_rooms (at_room_pin r)) (names.inside, omega arith) names.word_is l

pub pin_load_only : (z : Sizes) (call r word n : ℕ) (v w : PassState) → NamesRoomPin z r word → Loads z call word v n w → OnlyRests call v w
pin_load_only z call r word n v w names l = only_rests call v w (only_loaded z call word n v w (in_rooms (at_room_pin r)) (names.inside, omega arith) tt names.word_is l)

-- a pin stays where the pass only met more
pub pinned_still : (z : Sizes) (call r : ℕ) (v w : PassState) → OnlyRests call v w → HasRoomPin z r v → HasRoomPin z r w
pinned_still z call r v w o p = subst (λ (a : RoomHolds). RoomPinned z r a) (sym o.rooms) p

-- a room that is a cover, and not open, is frozen
not_open : (w : ℕ) → weight w ≡ 1 → state_of w ≢ OPEN → state_of w ≡ FROZEN
not_open w weighs ne = let o = one_at-other (state_of w) OPEN ne in one_at-true (state_of w) FROZEN (omega arith)

-- a pinned room that is found not open
module _ (z : Sizes) (call looks r word n : ℕ) (u v w : PassState) (names : NamesRoomPin z r word) (pin : HasRoomPin z r v) (only : OnlyRests call u v) (l : Loads z call word v n w) (shut : state_of n ≢ OPEN) where
  told : Told z call (load (in_rooms (at_room_pin r))) v n w
  told = pin_load z call r word n v w names l

  frozen : state_of n ≡ FROZEN
  frozen = not_open n (subst (λ (k : ℕ). weight k ≡ 1) (ap (memory z told.table.words).rooms.pin pin.pin.room ∙ load_reads z call n v w (in_rooms (at_room_pin r)) told) (pin_holds z call r (load (in_rooms (at_room_pin r))) v n w pin told).cover) shut

  -- no room is frozen where the pass is alone and has none so
  never_frozen : (a b : List ℕ) → StepAt z call (load (in_rooms (at_room_pin r))) v n w told a b → NeverUnfrozen u a b
  never_frozen a b s none = none_frozen z a v (moment_at z call (load (in_rooms (at_room_pin r))) v n w told a b s) s.alone (λ q. ap (in_room_state q FROZEN) only.rooms ∙ none q) r
      (ap state_of (ap (λ (ws : List ℕ). (memory z ws).rooms.pin r) s.was ∙ load_reads z call n v w (in_rooms (at_room_pin r)) told) ∙ frozen)

  pub finds_frozen : LeavesUnfrozen z call looks r u w
  finds_frozen = record {
    why = inl record { step = step_since z call (load (in_rooms (at_room_pin r))) u v w only.stands.met (step_alone z call (load (in_rooms (at_room_pin r))) v n w told); frozen = frozen };
    only = resting_both call u v w only (pin_load_only z call r word n v w names l);
    alone = stays_then (NeverUnfrozen u) u v w only.still (runs_as (StepAt z call (load (in_rooms (at_room_pin r))) v n w told) (NeverUnfrozen u) v w never_frozen (step_at z call (load (in_rooms (at_room_pin r))) v n w tt told));
  }

-- an exchange behind a look finds what that found
pub never_changed : (z : Sizes) (call r old n k : ℕ) (u v w : PassState) → Told z call (load (in_rooms (at_room_pin r))) u k v → k ≡ old → FreezesRoom z call r old v n w → n ≢ old → Runs Never u w
never_changed z call r old n k u v w l found t ne = let i : ℕ = index z (in_rooms (at_room_pin r)) in
    runs_as (Then (λ a b. (k ≡ get_or a i 0) × (b ≡ a)) (DoesStep z (on_rooms (freeze_room r old)) n)) Never u w (λ a b d. ne (d.2.0 ∙ (ap (λ (ws : List ℕ). get_or ws i 0) d.1.1 ∙ (sym d.1.0 ∙ found))))
    (runs_then (λ a b. (k ≡ get_or a i 0) × (b ≡ a)) (DoesStep z (on_rooms (freeze_room r old)) n) u v w (load_runs z call (in_rooms (at_room_pin r)) u k v l) (step_runs z call (on_rooms (freeze_room r old)) v n w tt t))

-- or another word
pub finds_changed : (z : Sizes) (call r old n k : ℕ) (v x w : PassState) → Told z call (load (in_rooms (at_room_pin r))) v k x → FreezesRoom z call r old x n w → n ≢ old → FindsChanged z call r v w
finds_changed z call r old n k v x w l t ne = record {
  word = old;
  step = step_since z call (on_rooms (freeze_room r old)) v x w (step_met z call (load (in_rooms (at_room_pin r))) v k x l) (step_alone z call (on_rooms (freeze_room r old)) x n w t);
  changed = ne;
}

-- the pass gives up behind so many that did
pub leaves_changed : (z : Sizes) (call looks r : ℕ) (v w : PassState) → Repeats (FindsChanged z call r) v looks w → Runs Never v w → OnlyRests call v w → LeavesUnfrozen z call looks r v w
leaves_changed z call looks r v w c never only = record { why = inr record { from = v; to = w; begun = met_none call v; parts = c; ended = met_none call w }; only = only; alone = never_so (NeverUnfrozen v) v w never }

-- a room that is found open is frozen once
frozen_once : (z : Sizes) (call r old n : ℕ) (v w : PassState) → (t : FreezesRoom z call r old v n w) → n ≡ old → in_room_state r FROZEN (with_frozen r v.rooms) ≡ 1
unfolding room_rows
frozen_once z call r old n v w t e = let is_open : state_of ((memory z t.table.words).rooms.pin r) ≡ OPEN = ap state_of (pin_found z call r (freeze_room r old) refl v n w t t.may.inside.0 ∙ e) ∙ t.may.rooms in
    let l = total_at (in_room_state r FROZEN) (map rooms_held t.table.states) t.seat v.rooms (at_map rooms_held t.table.states t.seat v t.here) in let s = t.rule.rooms.held r FROZEN (inl refl) in
    let none = open_none ((memory z t.table.words).rooms.pin r) FROZEN is_open (inl refl) in
    let more = row_here r r FROZEN (record { room = r; held_as = Frozen }) v.rooms.held refl refl in let one = one_at-same FROZEN FROZEN refl in omega arith

-- at each step of its pass the pinned room has the range that the pin found
pinned_span : (z : Sizes) (call r : ℕ) (x : Step) (v : PassState) (n : ℕ) (w : PassState) → HasRoomPin z r v → (t : Told z call x v n w) → copy_span (room_in z t.table.words r) ≡ span_of (room_pin v)
pinned_span z call r x v n w p t = let h = pin_holds z call r x v n w p t in let m : Memory = memory z t.table.words in
    ap (λ (k : ℕ). span_in m.rooms k) (sym p.pin.room) ∙ (λ i. record { low = low_number (h.low i); high = high_number (h.high i); base = h.base i })

-- what it does to the words, where the pass is alone
freezes_alone : (z : Sizes) (call r old n : ℕ) (u v w : PassState) → HasRoomPin z r u → OnlyRests call u v → (t : FreezesRoom z call r old v n w) → n ≡ old → Runs (FreezesWords z u r) u w
freezes_alone z call r old n u v w pin only t e = stays_then (FreezesWords z u r) u v w only.still (runs_as (StepAt z call x v n w t) (FreezesWords z u r) v w (λ a b s. record {
  moves = moves_at z call r (freeze_room r old) refl v n w t t.may.inside.0 OPEN FROZEN (ap state_of e ∙ t.may.rooms) (exchanged_state n old 1 e (let o = t.may.rooms in omega arith) ∙ ap (λ (k : ℕ). k + 1) t.may.rooms) a b s;
  ranged = ap (λ (ws : List ℕ). copy_span (room_in z ws r)) s.was ∙ (pinned_span z call r x v n w (pinned_still z call r u v only pin) t ∙ ap (λ (h : RoomHolds). span_of (pin_or h.pin)) only.rooms);
  divided = λ bare. lone_divides z a v (moment_at z call x v n w t a b s) s.alone record { held = ap (λ (h : RoomHolds). h.held) only.rooms ∙ bare.held; moving = ap (λ (h : RoomHolds). h.moving) only.rooms ∙ bare.moving };
}) (step_at z call x v n w tt t))
  where
    x : Step
    x = on_rooms (freeze_room r old)

-- a step of the call that froze the room
pub freezes : (z : Sizes) (call r old n : ℕ) (u v w : PassState) → HasRoomPin z r u → OnlyRests call u v → FreezesRoom z call r old v n w → n ≡ old → Freezes z call r u w
freezes z call r old n u v w pin only t e = record {
  word = old;
  step = step_since z call (on_rooms (freeze_room r old)) u v w only.stands.met (step_alone z call (on_rooms (freeze_room r old)) v n w t);
  was = e;
  opened = t.may.rooms;
  before = only;
  last = refl;
  beside = beside_since call u v w only (freeze_beside z call r old n v w t);
  rooms = freeze_takes z call r old n v w t e ∙ ap (with_frozen r) only.rooms;
  frozen = subst (λ (a : RoomHolds). in_room_state r FROZEN a ≡ 1) (sym (freeze_takes z call r old n v w t e)) (frozen_once z call r old n v w t e);
  ended = (_, moment_after z call (on_rooms (freeze_room r old)) v n w t);
  alone = freezes_alone z call r old n u v w pin only t e;
}
