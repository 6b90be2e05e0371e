-- Rooms that were tried one behind another.
use Rattle.std.proofs.Common.{◌≡◌, ◌≢◌, ℕ, ◌+◌, ◌<◌, ⊎_elim, inl, inr, sym, refl, ap, ◌∙◌, subst, arith, Some, None}
use mathlib.Core.Logic.{dite}
use native.Mathlib.Decide.{dec_lt}
use Rattle.pin_word.specs.PinWord.{state_of}
use Rattle.oak_model.specs.Limits.{Sizes}
use Rattle.chunk_core.specs.declared.states.TheConstants.{OPEN}
use Rattle.chunk_core.specs.declared.holds.PinnedRoom.{PinnedRoom}
use Rattle.chunk_core.specs.declared.holds.RoomHolds.{RoomHolds}
use Rattle.chunk_core.specs.PinnedRooms.{span_of}
use Rattle.chunk_core.specs.RoomStep.{pin_room}
use Rattle.chunk_core.specs.Rooms.{at_room_pin}
use Rattle.chunk_core.specs.Spans.{Span}
use Rattle.oak_core.specs.declared.states.PassState.{PassState}
use Rattle.oak_core.specs.AloneWords.{Runs}
use Rattle.oak_core.specs.declared.table.Pass.{Pass}
use Rattle.oak_core.specs.CallSteps.{MetMore}
use Rattle.oak_core.specs.Memory.{in_rooms}
use Rattle.oak_core.specs.QuietSteps.{IsQuiet}
use Rattle.oak_core.specs.Passes.{state}
use Rattle.oak_core.specs.RoomCalls.{PinsRoomWord}
use Rattle.oak_core.specs.Step.{load, on_rooms}
use Rattle.oak_core.proofs.seats.AloneRuns.{runs_as}
use Rattle.oak_core.proofs.calls.CallSteps.{met_both, met_none, step_alone, step_in, step_since, step_until, stands_both}
use Rattle.oak_core.proofs.calls.QuietCalls as steps
use Rattle.chunk_ops.specs.LoneRooms.{IsOff, IsShut, LoneTry}
use Rattle.chunk_ops.specs.PinRecords.{HasRoomPin, RoomPinned, OnlyMeets, pin_or, room_pin, with_room_pin}
use Rattle.chunk_ops.specs.Hints.{TriesFirst}
use Rattle.chunk_ops.specs.RoomPins.{AddsRoomPin, HadMoment, PinsFirst, PinsNow, FoundShut, PinsOpen, LoadsShut, PinsOff, FoundOff, FoundMoved, MissesFirst, Unpins}
use Rattle.chunk_ops.proofs.BoundWords.{same_pin}
use Rattle.chunk_ops.proofs.LoneRoomLaws.{tried_alone}
use Rattle.chunk_ops.proofs.MeetingCalls.{only_none, stays_then, then_stays, round}
use Rattle.chunk_ops.proofs.PinSteps.{pin_stands, pin_blocks, pin_headers, pin_rooms, made, pin_on, pin_good, pin_runs, pin_found}

-- before a step the rule held
had_moment : (z : Sizes) (call r n : ℕ) (v w : PassState) → PinsRoomWord z call r v n w → HadMoment z v
had_moment z call r n v w t = (t.table.words, record { states = t.table.states; rule = t.rule; seat = t.seat; here = t.here })

-- the step that pinned a room as the first one

abbrev pins_first : (z : Sizes) (call r n : ℕ) (v w : PassState) → PinsRoomWord z call r v n w → PinsFirst z call r v w
pins_first z call r n v w t = record { number = n; to = w; told = t; ended = met_none call w }

abbrev first_until : (z : Sizes) (call r : ℕ) (v w x : PassState) → MetMore call w x → PinsFirst z call r v w → PinsFirst z call r v x
first_until z call r v w x a f = record { number = f.number; to = f.to; told = f.told; ended = met_both call f.to w x f.ended a }

module _ (z : Sizes) (call r : ℕ) (v w : PassState) (n : PinsNow z call r v w) where
  pub has_pin : HasRoomPin z r w
  has_pin = pin_good z call r n.number v w n.told n.opened

  pub now_begun : HadMoment z v
  now_begun = had_moment z call r n.number v w n.told

  -- which the pass may undo
  pub no_claim_then : w.rooms.claim ≡ None
  no_claim_then = (pin_on z call r n.number v w n.told).claim

  -- loads show that the range is what is asked
  pub pins_asked : (x : PassState) (P : Span → Type 0) → OnlyMeets call w x → P (span_of (room_pin w)) → PinsOpen z call r P v x
  pins_asked x P only p = record {
    step = step_until z call (on_rooms (pin_room r)) v w x only.stands.met (step_alone z call (on_rooms (pin_room r)) v n.number w n.told);
    opened = n.opened;
    stands = stands_both call v w x (pin_stands z call r n.number v w n.told) only.stands;
    quiet = steps.only_both IsQuiet v w x (steps.quiet_pin_room z call r v n.number w n.told) only.quiet;
    blocks = only.blocks ∙ pin_blocks z call r n.number v w n.told;
    headers = only.headers ∙ pin_headers z call r n.number v w n.told;
    has = subst (RoomPinned z r) (sym only.rooms) has_pin;
    rooms = only.rooms ∙ (pin_rooms z call r n.number v w n.told ∙ ap (λ (q : PinnedRoom). with_room_pin (Some q) v.rooms) (sym made_is));
    made = same_pin call w x only;
    range = subst (λ (q : PinnedRoom). P (span_of q)) (sym (same_pin call w x only)) p;
    begun = now_begun;
    still = then_stays (AddsRoomPin z r) v w x (pin_runs z call r n.number v w n.told (λ (k : ℕ). state_of k ≡ OPEN) n.opened) only.still;
  }
    where
      made_is : room_pin x ≡ made z call r n.number v w n.told
      made_is = ap (λ (a : RoomHolds). pin_or a.pin) (only.rooms ∙ pin_rooms z call r n.number v w n.told)

  abbrev pub pinned_first : (x : PassState) → OnlyMeets call w x → PinsFirst z call r v x
  pinned_first x only = first_until z call r v w x only.stands.met (pins_first z call r n.number v w n.told)

  -- or that it is not, and the pin is undone
  pub off_then : (x u : PassState) (P : Span → Type 0) → OnlyMeets call w x → (P (span_of (room_pin w)) → ⊥) → Unpins z call r x u → MissesFirst z call r P v u
  off_then x u P only other e = record { step = first_until z call r v x u e.stands.met (pinned_first x only); off = inr other }

  pub only_then : (x u : PassState) → OnlyMeets call w x → Unpins z call r x u → OnlyMeets call v u
  only_then x u only e = round z call r v w x u n.number n.told only e

pub found_shut : (z : Sizes) (call r n : ℕ) (v w u : PassState) → PinsRoomWord z call r v n w → state_of n ≢ OPEN → Unpins z call r w u → FoundShut z call r v u
found_shut z call r n v w u t shut b = record {
  step = first_until z call r v w u b.stands.met (pins_first z call r n v w t);
  shut = shut;
  only = round z call r v w w u n t (only_none call w) b;
  begun = had_moment z call r n v w t;
  ended = b.ended;
  still = tried_alone z call r n v w w u t (IsShut z r) (only_none call w) b (λ e. shut (ap state_of (sym (pin_found z call r (pin_room r) refl v n w t t.may.inside.0)) ∙ e));
}

pub off_shut : (z : Sizes) (call r : ℕ) (P : Span → Type 0) (v w : PassState) → FoundShut z call r v w → MissesFirst z call r P v w
off_shut z call r P v w f = record { step = f.step; off = inl f.shut }

-- to a pass that is alone it is off

pub shut_alone : (z : Sizes) (call r : ℕ) (P : Span → Type 0) (v w : PassState) → FoundShut z call r v w → Runs (LoneTry z (IsOff z r P) v.rooms) v w
shut_alone z call r P v w f = runs_as (LoneTry z (IsShut z r) v.rooms) (LoneTry z (IsOff z r P) v.rooms) v w
    (λ a b t. record { stay = t.stay; at = record { says = inl t.at.says; state = t.at.state; rooms = t.at.rooms; alone = t.at.alone; moment = t.at.moment } }) f.still

pub off_alone : (z : Sizes) (call r : ℕ) (v w x u : PassState) (n : PinsNow z call r v w) (P : Span → Type 0) → OnlyMeets call w x → (P (span_of (room_pin w)) → ⊥) → Unpins z call r x u → Runs (LoneTry z (IsOff z r P) v.rooms) v u
off_alone z call r v w x u n P only other e = tried_alone z call r n.number v w x u n.told (IsOff z r P) only e
    (inr (λ p. other (subst (λ (q : PinnedRoom). P (span_of q)) (sym (ap (λ (a : RoomHolds). pin_or a.pin) (pin_rooms z call r n.number v w n.told))) p)))

-- what the first step found is found in the call

pub off_first : (z : Sizes) (call r : ℕ) (P : Span → Type 0) (v w : PassState) → MissesFirst z call r P v w → FoundOff z call r P v w
off_first z call r P v w m = inr record { step = record { from = v; to = m.step.to; number = m.step.number; told = m.step.told; begun = met_none call v; ended = m.step.ended }; off = m.off }

pub misses_until : (z : Sizes) (call r : ℕ) (P : Span → Type 0) (v w x : PassState) → MetMore call w x → MissesFirst z call r P v w → MissesFirst z call r P v x
misses_until z call r P v w x a m = record { step = first_until z call r v w x a m.step; off = m.off }

pub missed_first : (z : Sizes) (call r : ℕ) (P : Span → Type 0) (p q : Pass) → MissesFirst z call r P (state p) (state q) → TriesFirst z call r P p q
missed_first z call r P p q m = record { step = m.step; once = λ opened has. ⊎_elim (λ (n : state_of m.step.number ≢ OPEN). absurd (n opened)) (λ (n : P (span_of (room_pin m.step.to)) → ⊥). absurd (n has)) m.off }

-- what a part of a call found, from v to w, is found in the call from u to x

pub off_within : (z : Sizes) (call r : ℕ) (P : Span → Type 0) (u v w x : PassState) → MetMore call u v → MetMore call w x → FoundOff z call r P v w → FoundOff z call r P u x
off_within z call r P u v w x a b = ⊎_elim
    (λ (f : LoadsShut z call r v w). inl record { step = step_in z call (load (in_rooms (at_room_pin r))) u v w x a b f.step; shut = f.shut })
    (λ (f : PinsOff z call r P v w). inr record { step = step_in z call (on_rooms (pin_room r)) u v w x a b f.step; off = f.off })

pub moved_within : (z : Sizes) (call : ℕ) (P : Span → Type 0) (u v w x : PassState) → MetMore call u v → MetMore call w x → FoundMoved z call P v w → FoundMoved z call P u x
moved_within z call P u v w x a b f r inside = off_within z call r P u v w x a b (f r inside)

-- a call that began earlier

pub off_since : (z : Sizes) (call r : ℕ) (P : Span → Type 0) (u v w : PassState) → OnlyMeets call u v → FoundOff z call r P v w → FoundOff z call r P u w
off_since z call r P u v w a = off_within z call r P u v w w a.stands.met (met_none call w)

pub off_until : (z : Sizes) (call r : ℕ) (P : Span → Type 0) (v w x : PassState) → OnlyMeets call w x → FoundOff z call r P v w → FoundOff z call r P v x
off_until z call r P v w x a = off_within z call r P v v w x (met_none call v) a.stands.met

pub opens_since : (z : Sizes) (call r : ℕ) (P : Span → Type 0) (u v w : PassState) → OnlyMeets call u v → HadMoment z u → PinsOpen z call r P v w → PinsOpen z call r P u w
opens_since z call r P u v w a m f = record {
  step = step_since z call (on_rooms (pin_room r)) u v w a.stands.met f.step;
  opened = f.opened;
  stands = stands_both call u v w a.stands f.stands;
  quiet = steps.only_both IsQuiet u v w a.quiet f.quiet;
  blocks = f.blocks ∙ a.blocks;
  headers = f.headers ∙ a.headers;
  has = f.has;
  rooms = f.rooms ∙ ap (with_room_pin (Some (room_pin w))) a.rooms;
  made = f.made;
  range = f.range;
  begun = m;
  still = stays_then (AddsRoomPin z r) u v w a.still f.still;
}

-- in the call's own number

pub opens_in : (z : Sizes) (first now r : ℕ) (P : Span → Type 0) (v w : PassState) → now ≡ first → PinsOpen z now r P v w → PinsOpen z first r P v w
opens_in z first now r P v w e f = subst (λ (k : ℕ). PinsOpen z k r P v w) e f

pub off_in : (z : Sizes) (first now r : ℕ) (P : Span → Type 0) (v w : PassState) → now ≡ first → FoundOff z now r P v w → FoundOff z first r P v w
off_in z first now r P v w e f = subst (λ (k : ℕ). FoundOff z k r P v w) e f

-- one room more was tried
pub off_more : (z : Sizes) (call k : ℕ) (P : Span → Type 0) (v w x : PassState) → OnlyMeets call w x → ((r : ℕ) → r < k → FoundOff z call r P v w) → FoundOff z call k P v x → (r : ℕ) → r < k + 1 → FoundOff z call r P v x
off_more z call k P v w x a before now r lt = dite (dec_lt r k) (λ l. off_until z call r P v w x a (before r l)) (λ n. subst (λ (j : ℕ). FoundOff z call j P v x) (let e : k ≡ r = omega arith in e) now)
