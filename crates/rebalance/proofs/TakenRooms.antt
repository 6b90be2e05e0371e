-- Rooms that a pass which is alone finds not free: by a load, and not by an exchange behind it, which finds what the load found.
use Rattle.std.proofs.Common.{◌≡◌, ◌≢◌, ℕ, ◌+◌, ◌<◌, ◌≤◌, List, get_or, set, sym, ap, ◌∙◌, subst, arith, None}
use mathlib.Core.Logic.{dite}
use lib.Seq.{set-get_or}
use native.Mathlib.Decide.{dec_lt}
use Rattle.pin_word.specs.PinWord.{generation_of, state_of, count_of, HasNoPin}
use Rattle.pin_word.proofs.Laws.{parts_equal}
use Rattle.oak_model.specs.Limits.{Sizes}
use Rattle.chunk_core.specs.declared.states.TheConstants.{FREE}
use Rattle.chunk_core.specs.RoomStep.{claim_room}
use Rattle.chunk_core.specs.Rooms.{at_room_pin}
use Rattle.oak_core.specs.declared.states.PassState.{PassState}
use Rattle.oak_core.specs.AloneWords.{Runs}
use Rattle.oak_core.specs.Memory.{in_rooms, index, memory}
use Rattle.oak_core.specs.RoomCalls.{ClaimsRoom}
use Rattle.oak_core.specs.Step.{load, on_rooms, Told}
use Rattle.oak_core.proofs.seats.AloneRuns.{DoesStep, Then, load_runs, runs_as, runs_then, step_runs}
use Rattle.chunk_ops.proofs.WordLoads.{load_reads}
use Rattle.rebalance.specs.Holding.{FindsNoneFree, FindsTaken}
use Rattle.rebalance.specs.LoneWords.{IsTaken, NoneFree, TakenBetween, state_in}
use Rattle.rebalance.specs.Resting.{trying_both}
use Rattle.rebalance.proofs.ClaimedRooms.{used_round}
use Rattle.rebalance.proofs.LoneChunks.{lone_count}
use Rattle.rebalance.proofs.LoneSteps.{StepAt, moment_at, step_at}

-- a load of another word than the free one
pub load_taken : (z : Sizes) (call r old n : ℕ) (v w : PassState) → Told z call (load (in_rooms (at_room_pin r))) v n w → generation_of old ≡ 0 → HasNoPin FREE old → n ≢ old → v.rooms.pin ≡ None → Runs (IsTaken z r) v w
load_taken z call r old n v w t first free ne none = runs_as (StepAt z call (load (in_rooms (at_room_pin r))) v n w t) (IsTaken z r) v w (λ a b s. (stays a b s, taken a b s)) (step_at z call (load (in_rooms (at_room_pin r))) v n w tt t)
  where
    stays : (a b : List ℕ) → StepAt z call (load (in_rooms (at_room_pin r))) v n w t a b → b ≡ a
    stays a b s = let i : ℕ = index z (in_rooms (at_room_pin r)) in s.is ∙ (ap (set a i) (sym t.finds ∙ ap (λ (ws : List ℕ). get_or ws i 0) (sym s.was)) ∙ set-get_or a i 0)

    taken : (a b : List ℕ) → StepAt z call (load (in_rooms (at_room_pin r))) v n w t a b → state_in z a r ≢ FREE
    taken a b s f = let m = moment_at z call (load (in_rooms (at_room_pin r))) v n w t a b s in
        let is : (memory z a).rooms.pin r ≡ n = ap (λ (ws : List ℕ). (memory z ws).rooms.pin r) s.was ∙ load_reads z call n v w (in_rooms (at_room_pin r)) t in
        ne (parts_equal n old (ap generation_of (sym is) ∙ (m.rule.rooms.generations r ∙ sym first)) (ap state_of (sym is) ∙ (f ∙ sym free.state)) (ap count_of (sym is) ∙ (lone_count z a v m s.alone none r ∙ sym free.count)))

-- an exchange behind a load finds what the load found
pub exchange_taken : (z : Sizes) (call r old n k : ℕ) (u v w : PassState) → Told z call (load (in_rooms (at_room_pin r))) u k v → k ≡ old → ClaimsRoom z call r old v n w → n ≢ old → Runs (IsTaken z r) u w
exchange_taken z call r old n k u v w l found t ne = let i : ℕ = index z (in_rooms (at_room_pin r)) in
    runs_as (Then (λ a b. (k ≡ get_or a i 0) × (b ≡ a)) (DoesStep z (on_rooms (claim_room r old)) n)) (IsTaken z r) u w (λ a b d. absurd (ne (d.2.0 ∙ (ap (λ (ws : List ℕ). get_or ws i 0) d.1.1 ∙ (sym d.1.0 ∙ found)))))
    (runs_then (λ a b. (k ≡ get_or a i 0) × (b ≡ a)) (DoesStep z (on_rooms (claim_room r old)) n) u v w (load_runs z call (in_rooms (at_room_pin r)) u k v l) (step_runs z call (on_rooms (claim_room r old)) v n w tt t))

-- ---- one room behind another

-- one room more
pub taken_more : (z : Sizes) (but from k : ℕ) (u v w : PassState) → Runs (TakenBetween z but from k) u v → Runs (IsTaken z k) v w → Runs (TakenBetween z but from (k + 1)) u w
taken_more z but from k u v w before now = runs_as (Then (TakenBetween z but from k) (IsTaken z k)) (TakenBetween z but from (k + 1)) u w
    (λ a c d. (d.2.0 ∙ d.1.0, λ r ge lt ne. dite (dec_lt r k) (λ l. d.1.1 r ge l ne) (λ n. let e : k ≡ r = omega arith in subst (λ (j : ℕ). state_in z a j ≢ FREE) e (subst (λ (ws : List ℕ). state_in z ws k ≢ FREE) d.1.0 d.2.1))))
    (runs_then (TakenBetween z but from k) (IsTaken z k) u v w before now)

-- the one is passed over
pub taken_but : (z : Sizes) (but from k : ℕ) (u v : PassState) → k ≡ but → Runs (TakenBetween z but from k) u v → Runs (TakenBetween z but from (k + 1)) u v
taken_but z but from k u v is before = runs_as (TakenBetween z but from k) (TakenBetween z but from (k + 1)) u v (λ a b d. (d.0, λ r ge lt ne. d.1 r ge (past r lt ne) ne)) before
  where
    past : (r : ℕ) → r < k + 1 → r ≢ but → r < k
    past r lt ne = dite (dec_lt r k) (λ l. l) (λ n. let e : r ≡ k = omega arith in absurd (ne (e ∙ is)))

-- at most so many were looked at
pub taken_upto : (z : Sizes) (but from to k : ℕ) (u v : PassState) → to ≤ k → Runs (TakenBetween z but from k) u v → Runs (TakenBetween z but from to) u v
taken_upto z but from to k u v all t = runs_as (TakenBetween z but from k) (TakenBetween z but from to) u v (λ a b d. (d.0, λ r ge lt ne. d.1 r ge (omega arith) ne)) t

-- all were looked at, those from one on first
pub none_free : (z : Sizes) (but first : ℕ) (u v w : PassState) → Runs (TakenBetween z but first z.chunks) u v → Runs (TakenBetween z but 0 first) v w → Runs (NoneFree z but) u w
none_free z but first u v w upper lower = runs_as (Then (TakenBetween z but first z.chunks) (TakenBetween z but 0 first)) (NoneFree z but) u w
    (λ a c d. record {
      stay = d.2.0 ∙ d.1.0;
      used = λ r lt ne. dite (dec_lt r first) (λ l. subst (λ (ws : List ℕ). state_in z ws r ≢ FREE) d.1.0 (d.2.1 r (omega arith) l ne)) (λ n. d.1.1 r (omega arith) lt ne);
    })
    (runs_then (TakenBetween z but first z.chunks) (TakenBetween z but 0 first) u v w upper lower)

-- so each other room was found used
pub none_round : (z : Sizes) (call but first : ℕ) (u v w : PassState) → FindsTaken z call but first z.chunks u v → FindsTaken z call but 0 first v w → FindsNoneFree z call but u w
none_round z call but first u v w upper lower = record {
  used = used_round z call but first u v w upper lower;
  only = trying_both call u v w upper.only lower.only;
  moment = λ h. lower.moment (upper.moment h);
  alone = none_free z but first u v w upper.alone lower.alone;
}
