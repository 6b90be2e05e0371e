-- Each step of a rebalance is kept by its pass, and none is lost before the pass is spent. So a pass that has kept as many behind some events as before them made none of them.
use Rattle.std.proofs.Common.{true, false, true≢false, ◌≡◌, ℕ, ◌<◌, ◌≤◌, ◌⊎◌, inl, inr, ⊎_elim, cond, Bool, List, [], ◌∷◌, ◌++◌, length, set, sym, refl, ap, ◌∙◌, subst, arith}
use Rattle.std.proofs.lemmas.List.{length-append}
use Rattle.std.proofs.Math.Option.{some-injective}
use mathlib.Core.Option.{some}
use mathlib.Core.Logic.{dite}
use native.Mathlib.Decide.{ℕ_discrete}
use lib.ListN.{get_elem?}
use Rattle.oak_model.specs.Counts.{Each}
use Rattle.oak_model.specs.Limits.{Sizes}
use Rattle.oak_model.proofs.Lists.{at_longer, set_else, set_there}
use Rattle.chunk_core.specs.RoomStep.{RoomStep, pin_room, unpin_room, claim_entry, own_entry, link_entry, set_value, unlink_entry, freeze_room, thaw_room, hold_room, claim_room, store_room, open_room, retire_room}
use Rattle.oak_core.specs.declared.states.PassState.{PassState}
use Rattle.oak_core.specs.declared.states.Rebalanced.{Rebalanced}
use Rattle.oak_core.specs.PassState.{both_state, left_state, right_state, spent_state}
use Rattle.oak_core.specs.RebalanceSteps.{is_rebalance, rebalances_by, KeepsRooms}
use Rattle.oak_core.specs.Rebalancing.{IsRebalance, MovesRooms, RebalancesAt}
use Rattle.oak_core.specs.Schedule.{Event, steps, splits, joins, Goes, IsSchedule}
use Rattle.oak_core.specs.Step.{Step, load, give_number, on_arena, on_headers, on_rooms, store_locked, note_full, state_after}
use Rattle.oak_core.specs.TableState.{TableState}

-- how many the pass has kept
abbrev kept : PassState → ℕ
kept v = length v.findings.rebalances.steps

-- ---- one step

longer : (l : List ℕ) (n : ℕ) → length l < length (l ++ n ∷ [])
longer l n = let e = length-append l (n ∷ []) in omega arith

room_kept : (b : Bool) (v : PassState) → kept v ≤ length (cond b (v.findings.rebalances.steps ++ length v.findings.met ∷ []) v.findings.rebalances.steps)
room_kept true v = let e = longer v.findings.rebalances.steps (length v.findings.met) in omega arith
room_kept false v = omega arith

-- of a step of a rebalance it is how many findings were met before it
pub room_kept_by : (x : RoomStep) (v : PassState) → IsRebalance x → (rebalances_by x v).steps ≡ v.findings.rebalances.steps ++ length v.findings.met ∷ []
room_kept_by (freeze_room r old) v is = refl
room_kept_by (thaw_room r) v is = refl
room_kept_by (hold_room r old) v is = refl
room_kept_by (claim_room r old) v is = refl
room_kept_by (store_room p x) v is = refl
room_kept_by (open_room r) v is = refl
room_kept_by (retire_room r) v is = refl
room_kept_by (pin_room r) v is = absurd is
room_kept_by (unpin_room r) v is = absurd is
room_kept_by (claim_entry r old) v is = absurd is
room_kept_by (own_entry f r i x) v is = absurd is
room_kept_by (link_entry r from i old) v is = absurd is
room_kept_by (set_value r i old new kind) v is = absurd is
room_kept_by (unlink_entry r i x) v is = absurd is

room_won : (x : RoomStep) (v : PassState) → IsRebalance x → kept v < length (rebalances_by x v).steps
room_won x v is = subst (λ (l : List ℕ). kept v < length l) (sym (room_kept_by x v is)) (longer v.findings.rebalances.steps (length v.findings.met))

at_least : (n : ℕ) → n ≤ n
at_least n = omega arith

step_kept : (z : Sizes) (call : ℕ) (x : Step) (s : TableState) (v : PassState) → kept v ≤ kept (state_after z call x s v)
step_kept z call (load p) s v = at_least (kept v)
step_kept z call (give_number k) s v = at_least (kept v)
step_kept z call (on_arena a) s v = at_least (kept v)
step_kept z call (on_headers x) s v = at_least (kept v)
step_kept z call (on_rooms x) s v = room_kept (is_rebalance x) v
step_kept z call (store_locked h c b k x) s v = at_least (kept v)
step_kept z call (note_full lack began) s v = at_least (kept v)

step_won : (z : Sizes) (call : ℕ) (x : Step) (s : TableState) (v : PassState) → MovesRooms x → kept v < kept (state_after z call x s v)
step_won z call (load p) s v is = absurd is
step_won z call (give_number k) s v is = absurd is
step_won z call (on_arena a) s v is = absurd is
step_won z call (on_headers x) s v is = absurd is
step_won z call (on_rooms x) s v is = room_won x v is
step_won z call (store_locked h c b k x) s v is = absurd is
step_won z call (note_full lack began) s v is = absurd is

-- ---- one event

-- the pass v of the seat is u behind the event: spent where v is; else it lost none, and won one where the event is its step of a rebalance
record Follows (seat : ℕ) (e : Event) (v : PassState) (m : TableState) : Type 0 where
  next : PassState
  here : get_elem? m.states seat ≡ some next
  spent : v.numbers.spent ≡ true → next.numbers.spent ≡ true
  wins : (next.numbers.spent ≡ true) ⊎ ((kept v ≤ kept next) × (RebalancesAt seat e → kept v < kept next))

some_same : (a b : PassState) → some a ≡ some b → a ≡ b
some_same a b e = some-injective a b e

going_on : (v : PassState) → v.numbers.spent ≡ false → v.numbers.spent ≡ true → (w : PassState) → w.numbers.spent ≡ true
going_on v going spent w = absurd (true≢false (sym spent ∙ going))

-- another seat's event
else_follows : (seat : ℕ) (e : Event) (v : PassState) (m : TableState) → (RebalancesAt seat e → ⊥) → get_elem? m.states seat ≡ some v → Follows seat e v m
else_follows seat e v m none at = record { next = v; here = at; spent = λ s. s; wins = inr (at_least (kept v), λ r. absurd (none r)) }

event_follows : (z : Sizes) (e : Event) (s m : TableState) → Goes z e s m → (seat : ℕ) (v : PassState) → get_elem? s.states seat ≡ some v → Follows seat e v m
event_follows z (steps j call x) s m g seat v at = dite (ℕ_discrete seat j)
    (λ e. let same : g.state ≡ v = some_same g.state v (sym g.here ∙ (ap (get_elem? s.states) (sym e) ∙ at)) in let w : PassState = state_after z call x s g.state in
    subst (λ (u : PassState). Follows seat (steps j call x) u m) same (record {
      next = w;
      here = subst (λ (t : TableState). get_elem? t.states seat ≡ some w) (sym g.after) (subst (λ (i : ℕ). get_elem? (set s.states j w) i ≡ some w) (sym e) (set_there s.states j g.state w g.here));
      spent = λ q. going_on g.state g.going q w;
      wins = inr (step_kept z call x s g.state, λ r. step_won z call x s g.state r.1);
    }))
    (λ ne. else_follows seat (steps j call x) v m (λ r. ne (sym r.0)) (subst (λ (t : TableState). get_elem? t.states seat ≡ some v) (sym g.after) (set_else s.states j seat (state_after z call x s g.state) ne ∙ at)))
event_follows z (splits j) s m g seat v at = dite (ℕ_discrete seat j)
    (λ e. let same : g.state ≡ v = some_same g.state v (sym g.here ∙ (ap (get_elem? s.states) (sym e) ∙ at)) in let w : PassState = left_state g.state in
    subst (λ (u : PassState). Follows seat (splits j) u m) same (record {
      next = w;
      here = subst (λ (t : TableState). get_elem? t.states seat ≡ some w) (sym g.after) (at_longer (set s.states j w) (right_state g.state ∷ []) seat w (subst (λ (i : ℕ). get_elem? (set s.states j w) i ≡ some w) (sym e) (set_there s.states j g.state w g.here)));
      spent = λ q. going_on g.state g.may.going q w;
      wins = inr (at_least (kept g.state), λ r. absurd r);
    }))
    (λ ne. else_follows seat (splits j) v m (λ r. r) (subst (λ (t : TableState). get_elem? t.states seat ≡ some v) (sym g.after) (at_longer (set s.states j (left_state g.state)) (right_state g.state ∷ []) seat v (set_else s.states j seat (left_state g.state) ne ∙ at))))
event_follows z (joins j other) s m g seat v at = let both : PassState = both_state g.state g.taken in dite (ℕ_discrete seat other)
    (λ e. record {
      next = spent_state;
      here = subst (λ (t : TableState). get_elem? t.states seat ≡ some spent_state) (sym g.after)
          (subst (λ (i : ℕ). get_elem? (set (set s.states j both) other spent_state) i ≡ some spent_state) (sym e) (set_there (set s.states j both) other g.taken spent_state (set_else s.states j other both g.apart ∙ g.there)));
      spent = λ q. refl;
      wins = inl refl;
    })
    (λ ne. dite (ℕ_discrete seat j)
    (λ e. let same : g.state ≡ v = some_same g.state v (sym g.here ∙ (ap (get_elem? s.states) (sym e) ∙ at)) in
    subst (λ (u : PassState). Follows seat (joins j other) u m) same (record {
      next = both;
      here = subst (λ (t : TableState). get_elem? t.states seat ≡ some both) (sym g.after)
          (set_else (set s.states j both) other seat spent_state ne ∙ subst (λ (i : ℕ). get_elem? (set s.states j both) i ≡ some both) (sym e) (set_there s.states j g.state both g.here));
      spent = λ q. going_on g.state g.going q both;
      wins = inr (at_least (kept g.state), λ r. absurd r);
    }))
    (λ apart. else_follows seat (joins j other) v m (λ r. r) (subst (λ (t : TableState). get_elem? t.states seat ≡ some v) (sym g.after) (set_else (set s.states j both) other seat spent_state ne ∙ (set_else s.states j seat both apart ∙ at)))))

-- ---- a schedule

record Ends (seat : ℕ) (es : List Event) (v w : PassState) : Type 0 where
  spent : v.numbers.spent ≡ true → w.numbers.spent ≡ true
  wins : (w.numbers.spent ≡ true) ⊎ ((kept v ≤ kept w) × (kept w ≤ kept v → Each (λ (e : Event). RebalancesAt seat e → ⊥) es))

then_ends : (seat : ℕ) (e : Event) (es : List Event) (v : PassState) (m : TableState) (f : Follows seat e v m) (w : PassState) → Ends seat es f.next w → Ends seat (e ∷ es) v w
then_ends seat e es v m f w r = record {
  spent = λ q. r.spent (f.spent q);
  wins = ⊎_elim (λ (q : f.next.numbers.spent ≡ true). inl (r.spent q))
      (λ (a : (kept v ≤ kept f.next) × (RebalancesAt seat e → kept v < kept f.next)). ⊎_elim (λ (q : w.numbers.spent ≡ true). inl q)
      (λ (b : (kept f.next ≤ kept w) × (kept w ≤ kept f.next → Each (λ (o : Event). RebalancesAt seat o → ⊥) es)).
      inr (let p = a.0 in let q = b.0 in omega arith, λ le. ((λ is. let p = a.1 is in let q = b.0 in absurd (omega arith)), b.1 (let p = a.0 in omega arith))))
      r.wins)
      f.wins;
}

schedule_ends : (z : Sizes) (es : List Event) (s t : TableState) → IsSchedule z s es t → (seat : ℕ) (v w : PassState) → get_elem? s.states seat ≡ some v → get_elem? t.states seat ≡ some w → Ends seat es v w
schedule_ends z [] s t g seat v w here there = subst (λ (u : PassState). Ends seat [] v u) (some_same v w (sym here ∙ (ap (λ (a : TableState). get_elem? a.states seat) (sym g) ∙ there))) (record { spent = λ q. q; wins = inr (at_least (kept v), λ le. tt) })
schedule_ends z (e ∷ es) s t g seat v w here there = let f = event_follows z e s g.0 g.1 seat v here in then_ends seat e es v g.0 f w (schedule_ends z es g.0 t g.2 seat f.next w f.here there)

-- where the pass that is not spent has kept as many, none of the events is its step of a rebalance
pub none_rebalances : (z : Sizes) (es : List Event) (s t : TableState) (seat : ℕ) (v w : PassState) → IsSchedule z s es t → get_elem? s.states seat ≡ some v → get_elem? t.states seat ≡ some w → w.numbers.spent ≡ false → KeepsRooms v w → Each (λ (e : Event). RebalancesAt seat e → ⊥) es
none_rebalances z es s t seat v w g here there going same = ⊎_elim (λ (q : w.numbers.spent ≡ true). absurd (true≢false (sym q ∙ going)))
    (λ (a : (kept v ≤ kept w) × (kept w ≤ kept v → Each (λ (e : Event). RebalancesAt seat e → ⊥) es)). a.1 (let e = ap (λ (r : Rebalanced). length r.steps) same in omega arith)) (schedule_ends z es s t g seat v w here there).wins
