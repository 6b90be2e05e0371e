-- What a load teaches of a key is a read of it: at the place of the number, which is the end of what its pass has seen of the key then.
use Rattle.std.proofs.Common.{◌≡◌, ℕ, suc, ◌<◌, ◌≤◌, List, [], ◌∷◌, ◌++◌, map, length, set, sym, refl, ap, ◌∙◌, subst, arith}
use Rattle.std.specs.Prelude.{take, drop}
use Rattle.std.proofs.lemmas.List.{take_at, take-append-le, take-append-drop}
use mathlib.Core.Option.{some}
use lib.ListN.{get_elem?}
use Rattle.oak_model.specs.Counts.{Has, Begins, longest}
use Rattle.oak_model.specs.History.{StampsRise}
use Rattle.oak_model.proofs.Lists.{begins_whole, set_there}
use Rattle.oak_core.specs.declared.states.KeyedWrite.{KeyedWrite}
use Rattle.oak_core.specs.declared.states.Knowledge.{Knowledge}
use Rattle.oak_core.specs.declared.states.PassState.{PassState}
use Rattle.oak_core.specs.declared.states.Taught.{Taught}
use Rattle.oak_core.specs.KeyHistories.{writes_of, stamp_behind, state_behind, before}
use Rattle.oak_core.specs.KnownPlaces.{ReadAt}
use Rattle.oak_core.specs.Learning.{reach_of, lesson_by, taught_by}
use Rattle.oak_core.specs.Lessons.{IsAbsentBehind, LessonStands}
use Rattle.oak_core.specs.PassState.{of_key, seen_of, history}
use Rattle.oak_core.specs.Rule.{HistoriesStand}
use Rattle.oak_core.proofs.histories.Histories.{seen_stands}
use Rattle.oak_core.proofs.known.KnownReads.{read_heard}
use Rattle.oak_core.proofs.lessons.LessonLaws.{lesson_taught}
use Rattle.oak_core.proofs.lessons.Teaching.{taught_more, taught_much, taught_same, taught_stand}
use Rattle.oak_core.proofs.histories.WritesBelow.{before_whole}

-- of two beginnings of one list the shorter begins the longer
pub begins_shorter : {A : Type 0} (a b l : List A) → Begins a l → Begins b l → length a ≤ length b → Begins a b
begins_shorter a b l f g le = (drop (length a) b, sym (take-append-drop (length a) b) ∙ ap (λ t. t ++ drop (length a) b) (sym first))
  where
    first : a ≡ take (length a) b
    first = sym (take_at a f.0 (length a) refl) ∙ (ap (take (length a)) (sym f.1 ∙ g.1) ∙ take-append-le (length a) b g.0 le)

module _ (x : Taught) (qs : List Knowledge) (rule : HistoriesStand qs) (rise : (k : ℕ) → StampsRise 0 (writes_of (history k qs))) (i : ℕ) (q : Knowledge) (here : get_elem? qs i ≡ some q) (w : PassState) (seen : w.knowledge.seen ≡ (taught_by x qs q).seen) where
  same : (k : ℕ) → seen_of k w.knowledge ≡ seen_of k (taught_by x qs q)
  same k = ap (λ (l : List (List KeyedWrite)). longest (map (of_key k) l)) seen

  -- all that the pass has seen then begins the history
  pub taught_begins : (k : ℕ) → Begins (seen_of k w.knowledge) (history k qs)
  taught_begins k = subst (λ (s : List KeyedWrite). Begins s (history k qs)) (sym (same k)) (subst (Begins (seen_of k (taught_by x qs q))) (taught_same (reach_of x) (lesson_by x qs ∷ []) qs rule rise i q here k)
      (seen_stands (set qs i (taught_by x qs q)) (taught_stand (reach_of x) (lesson_by x qs ∷ []) qs rule rise i q here) k i (taught_by x qs q) (set_there qs i q (taught_by x qs q) here)))

  -- and goes on from what it had seen
  pub taught_extends : (k : ℕ) → Begins (seen_of k q) (seen_of k w.knowledge)
  taught_extends k = begins_shorter (seen_of k q) (seen_of k w.knowledge) (history k qs) (seen_stands qs rule k i q here) (taught_begins k)
      (let m = taught_more (reach_of x) (lesson_by x qs ∷ []) qs rule rise i q here k in let e = ap length (same k) in omega arith)

  -- of a key all of whose writes are below the reach it has seen them all
  pub taught_whole : (k : ℕ) → stamp_behind (history k qs) < reach_of x k → seen_of k w.knowledge ≡ history k qs
  taught_whole k last = begins_whole (seen_of k w.knowledge) (history k qs) (taught_begins k)
      (let m = taught_much (reach_of x) (lesson_by x qs ∷ []) qs rule rise i q here k in let e = ap length (same k) in let b = ap length (before_whole (reach_of x k) 0 (history k qs) (rise k) last).1 in omega arith)

  -- then the lesson reads it
  module _ (level : ℕ → ℕ) (upto : (k : ℕ) → reach_of x k ≤ suc (level k)) (absent : (k : ℕ) → IsAbsentBehind x k (before (reach_of x k) (history k qs))) (there : Has (lesson_by x qs) w.knowledge.heard) where
    stands : LessonStands level (λ j. history j qs) w.knowledge (lesson_by x qs)
    stands = let first = lesson_taught x qs rule rise i q here level upto absent in record { upto = first.upto; writes = first.writes; absent = first.absent; seen = λ j. let a = first.seen j in let e = ap length (same j) in omega arith }

    pub read_taught : (k at : ℕ) → reach_of x k ≡ suc at → stamp_behind (history k qs) ≤ at → (v : PassState) → length (seen_of k v.knowledge) ≤ length (history k qs) → (r : ReadAt k at (state_behind (history k qs)) v w) × (r.place ≡ length (seen_of k w.knowledge))
    read_taught k at reach last v from = read_heard level (λ j. history j qs) k at v w (lesson_by x qs) there (omega arith) stands (rise k) last (taught_begins k) (let e = ap length (taught_whole k (omega arith)) in omega arith) from
