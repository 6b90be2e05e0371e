use Rattle.std.proofs.Common.{◌≡◌, ℕ, ◌+◌, subst, arith}
use Rattle.oak_model.specs.Limits.{Sizes}
use Rattle.oak_core.specs.AloneWords.{Runs}
use Rattle.oak_core.specs.Passes.{state, key, call_of}
use Rattle.oak_core.proofs.seats.SamePass.{stays_both}
use Rattle.chunk_ops.specs.declared.ranges.Asked.{Asked}
use Rattle.chunk_ops.specs.AskedRanges.{IsAsked}
use Rattle.chunk_ops.specs.Hints.{TriesFirst}
use Rattle.chunk_ops.specs.LoneRooms.{LoneTries}
use Rattle.chunk_ops.proofs.FoundRooms.{opens_since, opens_in, off_since, off_in, off_more, misses_until, missed_first}
use Rattle.chunk_ops.proofs.LoneRoomLaws.{tries_none, tries_more, never_elsewhere, never_off}
use Rattle.chunk_ops.proofs.MeetingCalls.{only_both, only_in}
use Rattle.chunk_ops.proofs.RoomTries.{pins_both}
use Rattle.chunk_ops.proofs.pin_search.pin_asked.Goals as goal

pub returns-in-Some-try_if_open-clause-pinned : goal.returns-in-Some-try_if_open-clause-pinned
returns-in-Some-try_if_open-clause-pinned c = let z : Sizes = key c.args.table.now in let call = call_of c.args.pass.now in let v = state c.args.pass.now in let i = c.loop-room.invariant in let w = state c.loop-room.pass in let x = state c.try_if_open.new.pass in let r = c.in-Some-try_if_open.pin.room in
    let p = opens_in z call (call_of c.loop-room.pass) r (IsAsked c.args.asked c.args.key.now) w x i.stays.call c.in-Some-try_if_open.ensures.pinned in
    opens_since z call r (IsAsked c.args.asked c.args.key.now) v w x i.only i.begun p

pub loop-room-preserved : goal.loop-room-preserved
loop-room-preserved c = let z : Sizes = key c.args.table.now in let call = call_of c.args.pass.now in let v = state c.args.pass.now in let i = c.loop-room.invariant in let w = state c.loop-room.pass in let x = state c.try_if_open.new.pass in let k = c.loop-room.room in
    let e = c.in_default-try_if_open.ensures in let only = only_in call (call_of c.loop-room.pass) w x i.stays.call e.only in record {
      stays = stays_both i.stays e.own;
      only = only_both call v w x i.only only;
      off = off_more z call k (IsAsked c.args.asked c.args.key.now) v w x only i.off (off_since z call k (IsAsked c.args.asked c.args.key.now) v w x i.only (off_in z call (call_of c.loop-room.pass) k (IsAsked c.args.asked c.args.key.now) w x i.stays.call e.off));
      first = misses_until z call c.first_room-first.result (IsAsked c.args.asked c.args.key.now) v w x only.stands.met i.first;
      tries = (i.tries.0 + e.tries.0, pins_both z i.tries.0 e.tries.0 c.args.pass.now c.loop-room.pass c.try_if_open.new.pass i.tries.1 e.tries.1);
      begun = i.begun;
      ended = e.ended;
      alone = tries_more z k (IsAsked c.args.asked c.args.key.now) v.rooms w.rooms v w x i.only.rooms i.alone e.alone;
    }

-- the room that the index names now

pub returns-in-Some-try_anew-clause-pinned : goal.returns-in-Some-try_anew-clause-pinned
returns-in-Some-try_anew-clause-pinned c = let z : Sizes = key c.args.table.now in let call = call_of c.args.pass.now in let v = state c.args.pass.now in let w = state c.try_room.new.pass in let x = state c.try_anew.new.pass in let r = c.in-Some-try_anew.pin.room in let e = c.in_default.ensures in
    let p = opens_in z call (call_of c.try_room.new.pass) r (IsAsked c.args.asked c.args.key.now) w x e.own.call c.in-Some-try_anew.ensures.pinned in
    opens_since z call r (IsAsked c.args.asked c.args.key.now) v w x e.only e.begun p

pub returns-in-Some-try_anew-clause-tries : goal.returns-in-Some-try_anew-clause-tries
returns-in-Some-try_anew-clause-tries c = let n = c.in-Some-try_anew.ensures.tries in (1 + n.0, pins_both (key c.args.table.now) 1 n.0 c.args.pass.now c.try_room.new.pass c.try_anew.new.pass c.in_default.ensures.tries n.1)

pub returns-in-Some-try_anew-clause-first : goal.returns-in-Some-try_anew-clause-first
returns-in-Some-try_anew-clause-first c = let z : Sizes = key c.args.table.now in let call = call_of c.args.pass.now in let P = IsAsked c.args.asked c.args.key.now in let v = state c.args.pass.now in let w = state c.try_room.new.pass in let x = state c.try_anew.new.pass in let e = c.in_default.ensures in
    let p = opens_in z call (call_of c.try_room.new.pass) c.in-Some-try_anew.pin.room P w x e.own.call c.in-Some-try_anew.ensures.pinned in
    subst (λ (k : ℕ). TriesFirst z call k P c.args.pass.now c.try_anew.new.pass) c.first_room-first.ensures.first
    (missed_first z call c.first_room-first.result P c.args.pass.now c.try_anew.new.pass (misses_until z call c.first_room-first.result P v w x p.stands.met e.off))

pub loop-room-init : goal.loop-room-init
loop-room-init c = let z : Sizes = key c.args.table.now in let call = call_of c.args.pass.now in let P = IsAsked c.args.asked c.args.key.now in let v = state c.args.pass.now in let w = state c.try_room.new.pass in let x = state c.try_anew.new.pass in let e = c.in_default.ensures in let a = c.in_default-try_anew.ensures in
    let only = only_in call (call_of c.try_room.new.pass) w x e.own.call a.only in let both = only_both call v w x e.only only in record {
      stays = stays_both e.own a.own;
      only = both;
      off = λ r lt. absurd (omega arith);
      first = misses_until z call c.first_room-first.result P v w x only.stands.met e.off;
      tries = (1 + a.tries.0, pins_both z 1 a.tries.0 c.args.pass.now c.try_room.new.pass c.try_anew.new.pass e.tries a.tries.1);
      begun = e.begun;
      ended = a.ended;
      alone = tries_none z P v.rooms v x both.still;
    }

pub returns-clause-alone : goal.returns-clause-alone
returns-clause-alone c = let z : Sizes = key c.args.table.now in let v = state c.args.pass.now in let w = state c.loop-room.pass in let i = c.loop-room.invariant in let is = c.rooms-room-end.ensures.is in let some_room = c.rooms-room-end.ensures.some in let over = c.loop-room-test.false in let most = c.loop-room.auto.room-end in
    never_off z c.args.asked c.args.key.now v w (omega arith) c.requires.askable (subst (λ (k : ℕ). Runs (LoneTries z k (IsAsked c.args.asked c.args.key.now) v.rooms) v w) (let e : c.loop-room.room ≡ z.chunks = omega arith in e) i.alone)

pub returns-clause-elsewhere : goal.returns-clause-elsewhere
returns-clause-elsewhere c covering = let z : Sizes = key c.args.table.now in let v = state c.args.pass.now in let w = state c.loop-room.pass in let i = c.loop-room.invariant in let is = c.rooms-room-end.ensures.is in let some_room = c.rooms-room-end.ensures.some in let over = c.loop-room-test.false in let most = c.loop-room.auto.room-end in
    never_elsewhere z c.args.key.now v w (omega arith) (subst (λ (p : ℕ × Asked). Runs (LoneTries z p.0 (IsAsked p.1 c.args.key.now) v.rooms) v w) (λ j. ((let e : c.loop-room.room ≡ z.chunks = omega arith in e) j, covering j)) i.alone)

pub returns-in-Some-clause-tries : goal.returns-in-Some-clause-tries
returns-in-Some-clause-tries c = (1, c.in-Some.ensures.tries)

pub returns-in-Some-clause-first : goal.returns-in-Some-clause-first
returns-in-Some-clause-first c = let z : Sizes = key c.args.table.now in let call = call_of c.args.pass.now in let P = IsAsked c.args.asked c.args.key.now in
    let t : TriesFirst z call c.first_room-first.result P c.args.pass.now c.try_room.new.pass = record { step = c.in-Some.ensures.first; once = λ opened has. c.in-Some.ensures.tries.tries } in
    subst (λ (k : ℕ). TriesFirst z call k P c.args.pass.now c.try_room.new.pass) c.first_room-first.ensures.first t

pub returns-in-Some-try_if_open-clause-tries : goal.returns-in-Some-try_if_open-clause-tries
returns-in-Some-try_if_open-clause-tries c = let t = c.loop-room.invariant.tries in let n = c.in-Some-try_if_open.ensures.tries in (t.0 + n.0, pins_both (key c.args.table.now) t.0 n.0 c.args.pass.now c.loop-room.pass c.try_if_open.new.pass t.1 n.1)

pub returns-in-Some-try_if_open-clause-first : goal.returns-in-Some-try_if_open-clause-first
returns-in-Some-try_if_open-clause-first c = let z : Sizes = key c.args.table.now in let call = call_of c.args.pass.now in let P = IsAsked c.args.asked c.args.key.now in let v = state c.args.pass.now in let i = c.loop-room.invariant in let w = state c.loop-room.pass in let x = state c.try_if_open.new.pass in
    let p = opens_in z call (call_of c.loop-room.pass) c.in-Some-try_if_open.pin.room P w x i.stays.call c.in-Some-try_if_open.ensures.pinned in
    subst (λ (k : ℕ). TriesFirst z call k P c.args.pass.now c.try_if_open.new.pass) c.first_room-first.ensures.first
    (missed_first z call c.first_room-first.result P c.args.pass.now c.try_if_open.new.pass (misses_until z call c.first_room-first.result P v w x p.stands.met i.first))

pub returns-clause-first : goal.returns-clause-first
returns-clause-first c = let z : Sizes = key c.args.table.now in let call = call_of c.args.pass.now in let P = IsAsked c.args.asked c.args.key.now in
    subst (λ (k : ℕ). TriesFirst z call k P c.args.pass.now c.loop-room.pass) c.first_room-first.ensures.first (missed_first z call c.first_room-first.result P c.args.pass.now c.loop-room.pass c.loop-room.invariant.first)

pub returns-clause-moved : goal.returns-clause-moved
returns-clause-moved c r lt = let is = c.rooms-room-end.ensures.is in let over = c.loop-room-test.false in let most = c.loop-room.auto.room-end in c.loop-room.invariant.off r (omega arith)
