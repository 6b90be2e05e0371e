-- A key of which a life was removed was read absent at the stamp of the removal, since every moment up to which what was seen of the key does not go past the life.
use Rattle.std.proofs.Common.{◌≡◌, ◌≢◌, ℕ, suc, ◌≤◌, ◌⊎◌, List, [], ◌∷◌, ◌++◌, map, length, sym, ap, ◌∙◌, subst, inl, inr, ⊎_elim, arith, None}
use mathlib.Core.Option.{some}
use lib.ListN.{get_elem?}
use Rattle.oak_model.specs.Counts.{total, Has, Begins}
use Rattle.oak_model.specs.History.{StampsRise, place_of}
use Rattle.oak_model.specs.Limits.{Sizes}
use Rattle.oak_model.proofs.Counting.{one_at-same}
use Rattle.oak_model.proofs.Lists.{at_map, begins_trans}
use Rattle.chunk_core.specs.ValueWord.{names_header}
use Rattle.chunk_core.proofs.ValueWords.{none_named}
use Rattle.oak_core.specs.declared.states.KeyedWrite.{KeyedWrite}
use Rattle.oak_core.specs.declared.states.Knowledge.{Knowledge}
use Rattle.oak_core.specs.declared.states.PassState.{PassState}
use Rattle.oak_core.specs.AloneWords.{Moment}
use Rattle.oak_core.specs.Callers.{begins}
use Rattle.oak_core.specs.KeyHistories.{writes_of, home_behind, before, IsKeyHistory, IsRemovedAt, homes_in}
use Rattle.oak_core.specs.KeyReads.{history_now, level_now}
use Rattle.oak_core.specs.KnownPlaces.{ReadAt}
use Rattle.oak_core.specs.LastReads.{NotPast}
use Rattle.oak_core.specs.Lessons.{KnowsRemoval, LessonsStand}
use Rattle.oak_core.specs.Memory.{memory}
use Rattle.oak_core.specs.PassState.{Extends, knowledge_of, seen_of}
use Rattle.oak_core.proofs.histories.Histories.{seen_stands}
use Rattle.oak_core.proofs.known.KnownPlaces.{each_is, place_length}
use Rattle.oak_core.proofs.histories.LivesOnce.{begins_once}
use Rattle.oak_core.proofs.known.RemovalsKnown.{known_removal}
use Rattle.oak_core.proofs.known.RemovedReads.{removal_behind, removal_read}
use Rattle.oak_core.proofs.histories.Removals.{stamp_above}
use Rattle.oak_core.proofs.histories.WritesBelow.{before-cases}

-- writes without one of a life are all before its removal
none_of_life : (home n s : ℕ) (a more : List KeyedWrite) → StampsRise s (writes_of (a ++ more)) → homes_in home a ≡ 0 → (w : KeyedWrite) → Has w (a ++ more) → w.home ≡ home → w.write.stamp ≡ n → length a ≤ length (before (suc n) (a ++ more))
unfolding before total
none_of_life home n s [] more rise none w there of_life stamp = omega arith
none_of_life home n s (x ∷ xs) more rise none w (inl same) of_life stamp = absurd (let o = one_at-same x.home home (ap (λ (y : KeyedWrite). y.home) (sym same) ∙ of_life) in omega arith)
none_of_life home n s (x ∷ xs) more rise none w (inr there) of_life stamp = let rest = none_of_life home n x.write.stamp xs more rise.1 (omega arith) w there of_life stamp in let above = stamp_above x.write.stamp (xs ++ more) w rise.1 there in
    before-cases (suc n) x (xs ++ more) (λ l. suc (length xs) ≤ length l) (λ low. omega arith) (λ high. absurd (omega arith))

-- a beginning of a history that does not go past a life is no longer than what is written up to its removal
module _ (k home n : ℕ) (ne : home ≢ 0) (a more : List KeyedWrite) (legal : IsKeyHistory k (a ++ more)) (removed : IsRemovedAt home n (a ++ more)) (once : total (begins home) (a ++ more) ≤ 1) where
  seen_within : (home_behind a ≡ home) ⊎ (homes_in home a ≡ 0) → length a ≤ place_of (writes_of (a ++ more)) n
  seen_within past = ⊎_elim
      (λ (last : home_behind a ≡ home). removal_behind home n a more ne legal.lives legal.legal.stamps once last removed)
      (λ (none : homes_in home a ≡ 0). let p = place_length n (a ++ more) in let l = none_of_life home n 0 a more legal.legal.stamps none removed.write removed.there removed.home_is removed.stamp_is in omega arith)
      past

module _ (z : Sizes) (words : List ℕ) (w : PassState) (mo : Moment z words w) (k home n : ℕ) (names : names_header home ≡ 1) (removal : KnowsRemoval k home n w.knowledge) where
  abbrev qs : List Knowledge
  qs = map knowledge_of mo.states

  abbrev level : ℕ → ℕ
  level = level_now z (memory z words) mo.states

  abbrev hist : ℕ → List KeyedWrite
  hist = history_now mo.states

  q_here : get_elem? qs mo.seat ≡ some w.knowledge
  q_here = at_map knowledge_of mo.states mo.seat w mo.here

  lessons : LessonsStand level hist w.knowledge
  lessons = mo.rule.heard.lessons mo.seat w.knowledge q_here

  begun : Begins (seen_of k w.knowledge) (hist k)
  begun = seen_stands qs mo.rule.histories k mo.seat w.knowledge q_here

  removed : IsRemovedAt home n (hist k)
  removed = known_removal level hist k home n w.knowledge lessons removal

  pub removed_read : (u : PassState) → Extends u w → NotPast k home u.knowledge → ReadAt k n None u w
  removed_read u later past = removal_read level hist k n home u w removal.lesson removal.there removal.covers (each_is level hist w.knowledge w.knowledge.heard removal.lesson lessons removal.there)
      (mo.rule.keys.legal k).legal.stamps begun removed within
    where
      first : Begins (seen_of k u.knowledge) (hist k)
      first = begins_trans (seen_of k u.knowledge) (seen_of k w.knowledge) (hist k) (later k) begun

      within : length (seen_of k u.knowledge) ≤ place_of (writes_of (hist k)) n
      within = subst (λ (l : List KeyedWrite). length (seen_of k u.knowledge) ≤ place_of (writes_of l) n) (sym first.1)
          (seen_within k home n (λ e. none_named home names e) (seen_of k u.knowledge) first.0 (subst (IsKeyHistory k) first.1 (mo.rule.keys.legal k)) (subst (IsRemovedAt home n) first.1 removed)
          (subst (λ (l : List KeyedWrite). total (begins home) l ≤ 1) first.1 (begins_once mo.states mo.rule.callers home k names)) past)
