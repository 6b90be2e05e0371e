-- What was seen of a key before a life of it was found removed: no more than the key's writes up to the removal. A lesson up to there is then all that is seen.
use Rattle.std.proofs.Common.{◌≡◌, ◌≢◌, ℕ, suc, ◌≤◌, ◌⊎◌, List, [], ◌∷◌, ◌++◌, length, sym, ap, ◌∙◌, subst, inl, inr, ⊎_elim, arith, None}
use Rattle.std.proofs.lemmas.List.{length-map}
use mathlib.Core.Option.{some}
use lib.ListN.{get_elem?}
use Rattle.oak_model.specs.Counts.{total, Has, Begins}
use Rattle.oak_model.specs.History.{StampsRise, state_at}
use Rattle.oak_model.proofs.Counting.{one_at-same}
use Rattle.oak_model.proofs.HistoryLaws.{Extends-self, state_at-end}
use Rattle.oak_core.specs.declared.states.KeyedWrite.{KeyedWrite}
use Rattle.oak_core.specs.declared.states.Knowledge.{Knowledge}
use Rattle.oak_core.specs.declared.states.Taught.{Taught}
use Rattle.oak_core.specs.Callers.{begins}
use Rattle.oak_core.specs.KeyHistories.{writes_of, home_behind, state_behind, before, IsKeyHistory, IsRemovedAt, LivesFollow, homes_in}
use Rattle.oak_core.specs.Learning.{lessons, reach_of, taught_by}
use Rattle.oak_core.specs.PassState.{seen_of, history}
use Rattle.oak_core.specs.Rule.{HistoriesStand}
use Rattle.oak_core.proofs.histories.Histories.{seen_later}
use Rattle.oak_core.proofs.known.KnownPlaces.{place_length}
use Rattle.oak_core.proofs.known.KnownReads.{same_state}
use Rattle.oak_core.proofs.lessons.LessonLaws.{heard_taught}
use Rattle.oak_core.proofs.known.RemovedReads.{removal_behind}
use Rattle.oak_core.proofs.histories.Removals.{removed_state, stamp_above}
use Rattle.oak_core.proofs.histories.WritesBelow.{before-cases, before_first}

-- at the end of what is written is the state behind it
pub state_at_end : (h : List KeyedWrite) → state_at (writes_of h) (length h) ≡ state_behind h
state_at_end h = ap (state_at (writes_of h)) (sym (length-map h (λ (w : KeyedWrite). w.write))) ∙ state_at-end (writes_of h) (writes_of h) (Extends-self (writes_of h))

-- writes without one of a life are all before its removal
none_of_life : (home n s : ℕ) (a more : List KeyedWrite) → StampsRise s (writes_of (a ++ more)) → homes_in home a ≡ 0 → (w : KeyedWrite) → Has w (a ++ more) → w.home ≡ home → w.write.stamp ≡ n → length a ≤ length (before (suc n) (a ++ more))
unfolding before total
none_of_life home n s [] more rise none w there of_life stamp = omega arith
none_of_life home n s (x ∷ xs) more rise none w (inl same) of_life stamp = absurd (let o = one_at-same x.home home (ap (λ (y : KeyedWrite). y.home) (sym same) ∙ of_life) in omega arith)
none_of_life home n s (x ∷ xs) more rise none w (inr there) of_life stamp = let rest = none_of_life home n x.write.stamp xs more rise.1 (omega arith) w there of_life stamp in let above = stamp_above x.write.stamp (xs ++ more) w rise.1 there in
    before-cases (suc n) x (xs ++ more) (λ l. suc (length xs) ≤ length l) (λ low. omega arith) (λ high. absurd (omega arith))

module _ (k home n : ℕ) (h : List KeyedWrite) (legal : IsKeyHistory k h) (removed : IsRemovedAt home n h) where
  -- a beginning of the history that does not go past the life is no longer than what is written up to its removal
  pub seen_within : home ≢ 0 → total (begins home) h ≤ 1 → (a : List KeyedWrite) → Begins a h → (home_behind a ≡ home) ⊎ (homes_in home a ≡ 0) → length a ≤ length (before (suc n) h)
  seen_within ne once a begins_so = subst (λ (l : List KeyedWrite). IsRemovedAt home n l → StampsRise 0 (writes_of l) → (home_behind a ≡ home) ⊎ (homes_in home a ≡ 0) → length a ≤ length (before (suc n) l)) (sym begins_so.1)
      (λ x rise past. ⊎_elim (λ (last : home_behind a ≡ home). let p = place_length n (a ++ begins_so.0) in
      let r = removal_behind home n a begins_so.0 ne (subst (λ (l : List KeyedWrite). LivesFollow None 0 l) begins_so.1 legal.lives) rise (subst (λ (l : List KeyedWrite). total (begins home) l ≤ 1) begins_so.1 once) last x in omega arith)
      (λ (none : homes_in home a ≡ 0). none_of_life home n 0 a begins_so.0 rise none x.write x.there x.home_is x.stamp_is) past) removed legal.legal.stamps

  -- behind these the key is absent
  pub absent_behind : state_behind (before (suc n) h) ≡ None
  absent_behind = sym (state_at_end (before (suc n) h))
      ∙ (sym (same_state (before (suc n) h) h (length (before (suc n) h)) (before_first (suc n) 0 h legal.legal.stamps) (omega arith)) ∙ (ap (state_at (writes_of h)) (sym (place_length n h)) ∙ removed_state home n h legal.legal.stamps removed))

-- where a pass has seen no more of a key than a lesson has, it has then seen just what the lesson has
pub taught_just : (x : Taught) (qs : List Knowledge) (rule : HistoriesStand qs) (rise : (k : ℕ) → StampsRise 0 (writes_of (history k qs))) (i : ℕ) (q : Knowledge) → get_elem? qs i ≡ some q → (w : Knowledge) → w.seen ≡ (taught_by x qs q).seen → (k : ℕ)
    → length (seen_of k q) ≤ length (before (reach_of x k) (history k qs)) → seen_of k w ≡ before (reach_of x k) (history k qs)
taught_just x qs rule rise i q here w seen k few = let heard = heard_taught x qs rule rise i q here k in
    seen_later k q (record q { seen = lessons (reach_of x) qs }) w seen (let l = ap length heard in omega arith) ∙ heard
