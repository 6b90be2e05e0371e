-- A pass claims a free room, or finds it not free.
use Rattle.std.proofs.Common.{◌≡◌, ◌≢◌, ℕ, ◌+◌, ◌<◌, ◌≤◌, ◌==◌, false, nat_lt, List, [], ◌∷◌, ◌++◌, length, map, sym, refl, ap, ◌∙◌, subst, arith, inr, Some, eqb-true, length-append}
use mathlib.Core.Logic.{dite}
use mathlib.Core.Option.{some}
use lib.ListN.{get_elem?}
use native.Mathlib.Decide.{dec_lt}
use Rattle.pin_word.specs.PinWord.{generation_of, state_of, count_of, HasNoPin}
use Rattle.pin_word.proofs.Laws.{parts_equal}
use Rattle.oak_model.specs.Counts.{one_at, one_if, total, Each}
use Rattle.oak_model.specs.Limits.{Sizes}
use Rattle.oak_model.proofs.Counting.{one_at-same, one_at-other, total_at, test-cases, both_true}
use Rattle.oak_model.proofs.Lists.{at_map, at_last, at_longer}
use Rattle.chunk_core.specs.declared.holds.HeldRoom.{HeldRoom}
use Rattle.chunk_core.specs.declared.holds.RoomCopy.{RoomCopy}
use Rattle.chunk_core.specs.declared.holds.RoomHeldAs.TheVariants.{Held}
use Rattle.chunk_core.specs.declared.holds.RoomHolds.{RoomHolds}
use Rattle.chunk_core.specs.declared.states.TheConstants.{FREE, HELD}
use Rattle.chunk_core.specs.RoomHolds.{had_room, pins_of}
use Rattle.chunk_core.specs.RoomReads.{copy_at}
use Rattle.chunk_core.specs.RoomRule.{in_room_state}
use Rattle.chunk_core.specs.RoomStep.{claim_room, room_effect}
use Rattle.chunk_core.specs.Rooms.{at_room_pin}
use Rattle.chunk_core.proofs.HeldRooms.{room_rows, row_here}
use Rattle.chunk_core.proofs.RoomKinds.{whole_copy}
use Rattle.chunk_core.proofs.Weights.{free_none}
use Rattle.oak_core.specs.declared.states.Finding.{Finding}
use Rattle.oak_core.specs.declared.states.PassState.{PassState}
use Rattle.oak_core.specs.CallSteps.{MetMore}
use Rattle.oak_core.specs.Finding.{finding}
use Rattle.oak_core.specs.Memory.{Memory, in_rooms, memory}
use Rattle.oak_core.specs.PassState.{rooms_held}
use Rattle.oak_core.specs.RoomCalls.{ClaimsRoom}
use Rattle.oak_core.specs.Step.{load, on_rooms, Told}
use Rattle.oak_core.specs.Usage.{is_free}
use Rattle.oak_core.proofs.seats.AloneRuns.{moment_after}
use Rattle.oak_core.proofs.calls.CallSteps.{step_alone, step_since}
use Rattle.chunk_ops.proofs.MeetingCalls.{stays_then}
use Rattle.chunk_ops.proofs.PinSteps.{pin_found}
use Rattle.chunk_ops.proofs.WordLoads.{load_reads}
use Rattle.rebalance.specs.Holding.{Claims, FindsTaken, FindsUsed, HasHeld, HasOnly, with_claimed}
use Rattle.rebalance.specs.LoneWords.{MovesWith}
use Rattle.rebalance.proofs.HeldAlone.{copy_first}
use Rattle.rebalance.proofs.LoneSteps.{room_moves_with}
use Rattle.rebalance.proofs.RoomExchanges.{exchanged_state, claim_beside, claim_takes, trying_since}
use Rattle.rebalance.specs.Resting.{OnlyRests, OnlyTries, only_tries, trying_both}

-- ---- what is not free

not_free : (n : ℕ) → (state_of n ≡ FREE → count_of n ≡ 0 → ⊥) → is_free n ≡ false
not_free n none = test-cases (is_free n) (λ b. b ≡ false) (λ e. absurd (let p = both_true (state_of n == FREE) (count_of n == 0) e in none (eqb-true (state_of n) FREE p.0) (eqb-true (count_of n) 0 p.1))) (λ _. refl)

-- a word of no generation that is not the free one
another_word : (n old : ℕ) → generation_of n ≡ 0 → generation_of old ≡ 0 → HasNoPin FREE old → n ≢ old → is_free n ≡ false
another_word n old g first free ne = not_free n (λ s k. ne (parts_equal n old (g ∙ sym first) (s ∙ sym free.state) (k ∙ sym free.count)))

-- a pass that has nothing but one room has nothing at another

none_held : (r but : ℕ) (hs : List HeldRoom) → r ≢ but → Each (λ (h : HeldRoom). h.room ≡ but) hs → total (λ (h : HeldRoom). one_at h.room r) hs ≡ 0
unfolding total
none_held r but [] ne e = refl
none_held r but (h ∷ hs) ne e = let t = none_held r but hs ne e.1 in let o = one_at-other h.room r (λ q. ne (sym q ∙ e.0)) in omega arith

pub had_none : (r but : ℕ) (a : RoomHolds) → HasOnly but a → r ≢ but → had_room r a ≡ 0
had_none r but a only ne = ap (λ (n : ℕ). one_if (nat_lt 0 n)) (let p = ap (pins_of r) only.pin in let h = none_held r but a.held ne only.held in both p h)
  where
    both : pins_of r a.pin ≡ 0 → total (λ (h : HeldRoom). one_at h.room r) a.held ≡ 0 → pins_of r a.pin + total (λ (h : HeldRoom). one_at h.room r) a.held ≡ 0
    both p h = omega arith

-- ---- what shows that a room was used

-- a finding at its pin word
met_used : (z : Sizes) (call r n left : ℕ) (words : List ℕ) (u v w : PassState) → length u.findings.met ≤ length v.findings.met → w.findings.met ≡ v.findings.met ++ finding z call (in_rooms (at_room_pin r)) (Some n) left words v ∷ []
    → is_free n ≡ false → had_room r v.rooms ≡ 0 → FindsUsed z u w r
met_used z call r n left words u v w from is used none = let f : Finding = finding z call (in_rooms (at_room_pin r)) (Some n) left words v in record {
  place = length v.findings.met;
  from = from;
  to = subst (λ (l : List Finding). length v.findings.met < length l) (sym is) (longer v.findings.met f);
  finding = f;
  there = subst (λ (l : List Finding). get_elem? l (length v.findings.met) ≡ some f) (sym is) (at_last v.findings.met f);
  word_is = refl;
  number = n;
  found_is = refl;
  shows = (used, none);
}
  where
    longer : (l : List Finding) (f : Finding) → length l < length (l ++ f ∷ [])
    longer l f = let e = length-append l (f ∷ []) in omega arith

-- by a load of another word than the free one
pub load_used : (z : Sizes) (call r old n : ℕ) (v w : PassState) → Told z call (load (in_rooms (at_room_pin r))) v n w → generation_of old ≡ 0 → HasNoPin FREE old → n ≢ old → had_room r v.rooms ≡ 0 → FindsUsed z v w r
load_used z call r old n v w t first free ne none = met_used z call r n n t.table.words v v w (omega arith)
    (ap (λ (y : PassState). y.findings.met) t.after ∙ ap (λ (k : ℕ). v.findings.met ++ finding z call (in_rooms (at_room_pin r)) (Some k) k t.table.words v ∷ []) t.finds)
    (another_word n old (ap generation_of (sym (load_reads z call n v w (in_rooms (at_room_pin r)) t)) ∙ t.rule.rooms.generations r) first free ne) none

-- by an exchange that finds another
pub exchange_used : (z : Sizes) (call r old n : ℕ) (u v w : PassState) → MetMore call u v → generation_of old ≡ 0 → ClaimsRoom z call r old v n w → n ≢ old → had_room r v.rooms ≡ 0 → FindsUsed z u w r
exchange_used z call r old n u v w more first t ne none = met_used z call r n (room_effect (claim_room r old) n) t.table.words u v w (let e = ap length more.met in let l = length-append u.findings.met more.more in omega arith)
    (ap (λ (y : PassState). y.findings.met) t.after ∙ ap (λ (k : ℕ). v.findings.met ++ finding z call (in_rooms (at_room_pin r)) (Some k) (room_effect (claim_room r old) k) t.table.words v ∷ []) t.finds)
    (another_word n old (ap generation_of (sym (pin_found z call r (claim_room r old) refl v n w t t.may.inside.0)) ∙ t.rule.rooms.generations r) first t.may.rooms ne) none

-- it is so of a longer part
pub used_longer : (z : Sizes) (call r : ℕ) (u v w : PassState) → MetMore call v w → FindsUsed z u v r → FindsUsed z u w r
used_longer z call r u v w more f = record {
  place = f.place;
  from = f.from;
  to = let e = ap length more.met in let l = length-append v.findings.met more.more in let t = f.to in omega arith;
  finding = f.finding;
  there = subst (λ (l : List Finding). get_elem? l f.place ≡ some f.finding) (sym more.met) (at_longer v.findings.met more.more f.place f.finding f.there);
  word_is = f.word_is;
  number = f.number;
  found_is = f.found_is;
  shows = f.shows;
}

pub used_since : (z : Sizes) (call r : ℕ) (u v w : PassState) → MetMore call u v → FindsUsed z v w r → FindsUsed z u w r
used_since z call r u v w more f = record {
  place = f.place;
  from = let e = ap length more.met in let l = length-append u.findings.met more.more in let t = f.from in omega arith;
  to = f.to;
  finding = f.finding;
  there = f.there;
  word_is = f.word_is;
  number = f.number;
  found_is = f.found_is;
  shows = f.shows;
}

-- one room more was found used
pub used_more : (z : Sizes) (call but from k : ℕ) (u v w : PassState) → MetMore call v w → ((r : ℕ) → from ≤ r → r < k → r ≢ but → FindsUsed z u v r) → (k ≢ but → FindsUsed z u w k) → (r : ℕ) → from ≤ r → r < k + 1 → r ≢ but → FindsUsed z u w r
used_more z call but from k u v w more before now r ge lt ne = dite (dec_lt r k) (λ l. used_longer z call r u v w more (before r ge l ne)) (λ n. let e : k ≡ r = omega arith in subst (λ (j : ℕ). FindsUsed z u w j) e (now (λ q. ne (sym e ∙ q))))

-- each other room was found used, those from one on first
pub used_round : (z : Sizes) (call but first : ℕ) (u v w : PassState) → FindsTaken z call but first z.chunks u v → FindsTaken z call but 0 first v w → (r : ℕ) → r < z.chunks → r ≢ but → FindsUsed z u w r
used_round z call but first u v w upper lower r lt ne = dite (dec_lt r first) (λ l. used_since z call r u v w upper.only.stands.met (lower.used r (omega arith) l ne))
    (λ n. used_longer z call r u v w lower.only.stands.met (upper.used r (omega arith) lt ne))

-- ---- the claim

-- the pass holds a room once that was free
claimed_once : (z : Sizes) (call r old n : ℕ) (v w : PassState) → (t : ClaimsRoom z call r old v n w) → n ≡ old → (c : RoomCopy) → in_room_state r HELD (with_claimed r c v.rooms) ≡ 1
unfolding room_rows
claimed_once z call r old n v w t e c = let was_free : state_of ((memory z t.table.words).rooms.pin r) ≡ FREE = ap state_of (pin_found z call r (claim_room r old) refl v n w t t.may.inside.0 ∙ e) ∙ t.may.rooms.state in
    let l = total_at (in_room_state r HELD) (map rooms_held t.table.states) t.seat v.rooms (at_map rooms_held t.table.states t.seat v t.here) in let s = t.rule.rooms.held r HELD (inr refl) in
    let none = free_none ((memory z t.table.words).rooms.pin r) HELD was_free (inr refl) in
    let more = row_here r r HELD (record { room = r; held_as = Held c }) v.rooms.held refl refl in let one = one_at-same HELD HELD refl in omega arith

-- a step of the call that claimed the room
pub claims : (z : Sizes) (call r old n : ℕ) (u v w : PassState) → OnlyRests call u v → (t : ClaimsRoom z call r old v n w) → n ≡ old → (c : RoomCopy) × Claims z call r c u w
claims z call r old n u v w only t e = let m : Memory = memory z t.table.words in let copy : RoomCopy = copy_at z m.rooms r in let takes = claim_takes z call r old n v w t e in (
  copy,
  record {
    inside = t.may.inside.0;
    word = old;
    step = step_since z call (on_rooms (claim_room r old)) u v w only.stands.met (step_alone z call (on_rooms (claim_room r old)) v n w t);
    was = e;
    unpinned = t.may.rooms;
    before = only_tries call u v only;
    last = refl;
    beside = trying_since call u v w (only_tries call u v only) (claim_beside z call r old n v w t);
    rooms = takes ∙ ap (with_claimed r copy) only.rooms;
    has = subst (HasHeld z r copy) (sym takes) (record { held = claimed_once z call r old n v w t e copy; copy = copy_first r copy v.rooms.held; whole = whole_copy z m.rooms r });
    latch = t.rule.rooms.latches r;
    ended = (_, moment_after z call (on_rooms (claim_room r old)) v n w t);
    alone = stays_then (MovesWith z r FREE HELD copy) u v w only.still (room_moves_with z call r (claim_room r old) refl v n w t t.may.inside.0 FREE HELD copy (ap state_of e ∙ t.may.rooms.state)
        (exchanged_state n old HELD e (let o = t.may.rooms.state in omega arith) ∙ ap (λ (k : ℕ). k + HELD) t.may.rooms.state) refl);
  },
)

-- the same of a call that began earlier
pub claims_since : (z : Sizes) (call r : ℕ) (u v w : PassState) → OnlyTries call u v → (c : RoomCopy) × Claims z call r c v w → (c : RoomCopy) × Claims z call r c u w
claims_since z call r u v w only f = let p = f.1 in (
  f.0,
  record {
    inside = p.inside;
    word = p.word;
    step = step_since z call (on_rooms (claim_room r p.word)) u v w only.stands.met p.step;
    was = p.was;
    unpinned = p.unpinned;
    before = trying_both call u v p.step.from only p.before;
    last = p.last;
    beside = trying_since call u v w only p.beside;
    rooms = p.rooms ∙ ap (with_claimed r f.0) only.rooms;
    has = p.has;
    latch = p.latch;
    ended = p.ended;
    alone = stays_then (MovesWith z r FREE HELD f.0) u v w only.still p.alone;
  },
)
