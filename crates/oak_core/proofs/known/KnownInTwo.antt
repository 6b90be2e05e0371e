-- What the passes know of headers is the same after a split and after a join.
use Rattle.std.proofs.Common.{◌≡◌, ◌≢◌, ℕ, ◌+◌, ◌<◌, ◌≤◌, nat_lt, List, [], ◌∷◌, ◌++◌, map, set, sym, ap, ◌∙◌, arith}
use Rattle.std.proofs.lemmas.Bool.{lt-ltb}
use mathlib.Core.Logic.{dite}
use mathlib.Core.Option.{some}
use native.Mathlib.Decide.{dec_lt}
use lib.ListN.{get_elem?}
use Rattle.oak_model.specs.Counts.{one_if, total}
use Rattle.oak_model.proofs.Counting.{total_append, total_at}
use Rattle.oak_model.proofs.Changes.{divided, joined, change_parts, change_level}
use Rattle.oak_model.proofs.Lists.{at_map}
use Rattle.oak_core.specs.declared.states.PassState.{PassState}
use Rattle.oak_core.specs.Known.{lives_in, is_life, knows_life, known}
use Rattle.oak_core.specs.PassState.{knowledge_of, left_state, right_state, both_state, spent_state}

-- both counts are positive, or neither is
some_alike : (a b : ℕ) → (0 < a → 0 < b) → (0 < b → 0 < a) → one_if (nat_lt 0 a) ≡ one_if (nat_lt 0 b)
some_alike a b to back = dite (dec_lt 0 a) (λ l. ap one_if (lt-ltb 0 a l ∙ sym (lt-ltb 0 b (to l)))) (λ no. ap (λ (n : ℕ). one_if (nat_lt 0 n)) (let same : a ≡ b = dite (dec_lt 0 b) (λ l. absurd (no (back l))) (λ none. omega arith) in same))

-- the pass that is split off knows no more than the other
right_knows : (h g : ℕ) (v : PassState) → knows_life h g (right_state v).knowledge ≤ knows_life h g v.knowledge
unfolding total
right_knows h g v = let a : ℕ = total (lives_in h g) v.knowledge.seen in let b : ℕ = total (is_life h g) v.knowledge.loaded in let l : a + 0 ≤ a + b = omega arith in l

-- the two together know what each knows
pub both_knows : (h g : ℕ) (v w : PassState) → knows_life h g (both_state v w).knowledge ≡ knows_life h g v.knowledge + knows_life h g w.knowledge
both_knows h g v w = let a = total_append (lives_in h g) v.knowledge.seen w.knowledge.seen in let b = total_append (is_life h g) v.knowledge.loaded w.knowledge.loaded in
    let p : ℕ = total (lives_in h g) v.knowledge.seen in let q : ℕ = total (lives_in h g) w.knowledge.seen in let x : ℕ = total (is_life h g) v.knowledge.loaded in let y : ℕ = total (is_life h g) w.knowledge.loaded in
    let c : ℕ = total (lives_in h g) (v.knowledge.seen ++ w.knowledge.seen) in let d : ℕ = total (is_life h g) (v.knowledge.loaded ++ w.knowledge.loaded) in
    let a' : c ≡ p + q = a in let b' : d ≡ x + y = b in let e : c + d ≡ (p + x) + (q + y) = omega arith in e

module _ (vs : List PassState) (seat : ℕ) (v : PassState) (here : get_elem? vs seat ≡ some v) where
  pub known_split : (h g : ℕ) → known (map knowledge_of (set vs seat (left_state v) ++ right_state v ∷ [])) h g ≡ known (map knowledge_of vs) h g
  unfolding total
  known_split h g = let s = (change_parts knowledge_of (divided vs seat v (left_state v) (right_state v) here)).sums (knows_life h g) in
      let most = right_knows h g v in let t = total_at (knows_life h g) (map knowledge_of vs) seat v.knowledge (at_map knowledge_of vs seat v here) in
      some_alike (total (knows_life h g) (map knowledge_of (set vs seat (left_state v) ++ right_state v ∷ []))) (total (knows_life h g) (map knowledge_of vs)) (λ l. omega arith) (λ l. omega arith)

  pub known_join : (other : ℕ) (w : PassState) → get_elem? vs other ≡ some w → other ≢ seat → (h g : ℕ) → known (map knowledge_of (set (set vs seat (both_state v w)) other spent_state)) h g ≡ known (map knowledge_of vs) h g
  unfolding total
  known_join other w there ne h g = ap (λ (n : ℕ). one_if (nat_lt 0 n))
      (change_level (change_parts knowledge_of (joined vs seat other v w (both_state v w) spent_state here there ne)) (knows_life h g) (let b = both_knows h g v w in omega arith))
