-- What a step teaches its pass names no header that no pass knew before.
use Rattle.std.proofs.Common.{◌≡◌, ℕ, ◌+◌, ◌≤◌, nat_lt, cond, Bool, true, false, List, [], ◌∷◌, ◌++◌, map, set, sym, refl, ap, ◌∙◌, arith}
use Rattle.std.proofs.lemmas.Bool.{lt-ltb}
use mathlib.Core.Logic.{dite}
use mathlib.Core.Option.{some}
use native.Mathlib.Decide.{dec_lt}
use lib.ListN.{get_elem?}
use Rattle.oak_model.specs.Counts.{one_if, total}
use Rattle.oak_model.specs.KeyNumber.{key_number}
use Rattle.oak_model.proofs.Counting.{test-cases, total_append, total_set}
use Rattle.oak_model.proofs.Lists.{set_again}
use Rattle.chunk_core.specs.ValueWord.{names_life}
use Rattle.oak_core.specs.declared.states.KeyedWrite.{KeyedWrite}
use Rattle.oak_core.specs.declared.states.Knowledge.{Knowledge}
use Rattle.oak_core.specs.declared.states.Taught.{Taught}
use Rattle.oak_core.specs.Known.{lives_in, is_life, knows_life, known}
use Rattle.oak_core.specs.Learning.{lesson, all_logs, lessons, reach_of, taught_by, taught_where}

-- a part of a log has no more
lesson_less : (f : KeyedWrite → ℕ) (T : ℕ → ℕ) (l : List KeyedWrite) → total f (lesson T l) ≤ total f l
unfolding total lesson
lesson_less f T [] = omega arith
lesson_less f T (w ∷ ws) = let t = lesson_less f T ws in test-cases (nat_lt w.write.stamp (T (key_number w.key))) (λ b. total f (cond b (w ∷ lesson T ws) (lesson T ws)) ≤ f w + total f ws) (λ _. omega arith) (λ _. omega arith)

parts_less : (h g : ℕ) (T : ℕ → ℕ) (ls : List (List KeyedWrite)) → total (lives_in h g) (map (lesson T) ls) ≤ total (lives_in h g) ls
unfolding total
parts_less h g T [] = omega arith
parts_less h g T (l ∷ ls) = let a = lesson_less (λ (w : KeyedWrite). names_life h g w.home) T l in let t = parts_less h g T ls in omega arith

-- all logs are of what the passes know
logs_less : (h g : ℕ) (qs : List Knowledge) → total (lives_in h g) (all_logs qs) ≤ total (knows_life h g) qs
unfolding total all_logs
logs_less h g [] = omega arith
logs_less h g (q ∷ qs) = let a = total_append (lives_in h g) q.seen (all_logs qs) in let t = logs_less h g qs in omega arith

-- a pass that sees parts of logs more, and loads no life, knows no less, and what it knows more the passes knew
module _ (qs : List Knowledge) (q : Knowledge) (T : ℕ → ℕ) (w : Knowledge) (seen : w.seen ≡ q.seen ++ lessons T qs) (loaded : w.loaded ≡ q.loaded) (h g : ℕ) where
  now : knows_life h g w ≡ knows_life h g q + total (lives_in h g) (lessons T qs)
  now = let a = ap (total (lives_in h g)) seen in let b = ap (total (is_life h g)) loaded in let c = total_append (lives_in h g) q.seen (lessons T qs) in omega arith

  pub knows_more : knows_life h g q ≤ knows_life h g w
  knows_more = let n = now in omega arith

  few : knows_life h g w ≤ knows_life h g q + total (knows_life h g) qs
  few = let n = now in let a = parts_less h g T (all_logs qs) in let b = logs_less h g qs in omega arith

pub taught_knows : (x : Taught) (qs : List Knowledge) (q : Knowledge) (h g : ℕ) → knows_life h g q ≤ knows_life h g (taught_by x qs q)
taught_knows x qs q = knows_more qs q (reach_of x) (taught_by x qs q) refl refl

module _ (qs : List Knowledge) (seat : ℕ) (q : Knowledge) (here : get_elem? qs seat ≡ some q) where
  pub known_told : (T : ℕ → ℕ) (w : Knowledge) → w.seen ≡ q.seen ++ lessons T qs → w.loaded ≡ q.loaded → (h g : ℕ) → known (set qs seat w) h g ≡ known qs h g
  known_told T w seen loaded h g = let s = total_set (knows_life h g) qs seat q w here in let m = knows_more qs q T w seen loaded h g in dite (dec_lt 0 (total (knows_life h g) qs))
      (λ l. ap one_if (lt-ltb 0 (total (knows_life h g) (set qs seat w)) (omega arith) ∙ sym (lt-ltb 0 (total (knows_life h g) qs) l)))
      (λ no. ap (λ (n : ℕ). one_if (nat_lt 0 n)) (let f = few qs q T w seen loaded h g in omega arith))

  pub known_taught : (x : Taught) (h g : ℕ) → known (set qs seat (taught_by x qs q)) h g ≡ known qs h g
  known_taught x = known_told (reach_of x) (taught_by x qs q) refl refl

  pub known_taught_where : (b : Bool) (x : Taught) (h g : ℕ) → known (set qs seat (taught_where b x qs q)) h g ≡ known qs h g
  known_taught_where true x h g = known_taught x h g
  known_taught_where false x h g = ap (λ (ks : List Knowledge). known ks h g) (set_again qs seat q here)
