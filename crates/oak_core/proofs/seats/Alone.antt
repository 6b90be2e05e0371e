-- A pass that is alone: every other is spent, and the histories are what it has seen.
use Rattle.std.proofs.Common.{[], ◌∷◌, ◌≡◌, ◌≢◌, ℕ, zero, suc, ◌*◌, ◌<◌, Bool, true, false, cond, List, map, sym, refl, ap, ◌∙◌, subst, arith}
use Rattle.std.specs.Int.{bit_at}
use Rattle.std.proofs.lemmas.Nat.Bits.{bit_at-lt}
use mathlib.Core.Option.{some, some-injective}
use mathlib.Core.Logic.{dite}
use native.Mathlib.Decide.{ℕ_discrete}
use lib.ListN.{get_elem?}
use Rattle.oak_model.specs.Limits.{Sizes}
use Rattle.oak_model.specs.Counts.{one_at, total, below, Begins, longest}
use Rattle.oak_model.proofs.Counting.{one_at-same, total_at, total_two, total_some, below_some}
use Rattle.oak_model.proofs.Lists.{at_map, at_unmap, begins_self, begins_whole, longest_begins, longest_le}
use Rattle.oak_core.specs.declared.states.KeyedWrite.{KeyedWrite}
use Rattle.oak_core.specs.declared.states.Numbers.{Numbers}
use Rattle.oak_core.specs.declared.states.PassState.{PassState}
use Rattle.oak_core.specs.Memory.{memory}
use Rattle.oak_core.specs.PassState.{bare_state, both_state, numbers_of, knowledge_of, rooted, has_number, is_parent, IsAlone, seen_of, history, spent_state}
use Rattle.oak_core.specs.Opening.{first_state}
use Rattle.oak_core.specs.TableState.{TableState}
use Rattle.oak_core.specs.Rule.{Rule}
use Rattle.oak_core.specs.Splitting.{SplitsOff, Ends}
use Rattle.oak_core.specs.Owing.{Owes}
use Rattle.oak_core.proofs.histories.Histories.{each_of_every}
use Rattle.oak_core.proofs.seats.Owing.{alone_owing, owing_alone, split_rooted, split_owes, new_owes, new_rooted, both_rooted, join_one}

product_some : (a b : ℕ) → 0 < a * b → (0 < a) × (0 < b)
product_some a b h = (dec a b h, dec b a (subst (λ (n : ℕ). 0 < n) (grind arith) h))
  where
    dec : (a b : ℕ) → 0 < a * b → 0 < a
    dec a b h = grind arith

module _ (z : Sizes) (s : TableState) (r : Rule z s) (seat : ℕ) (v : PassState) (here : get_elem? s.states seat ≡ some v) (alone : IsAlone v) where
  abbrev ns : List Numbers
  ns = map numbers_of s.states

  abbrev g : ℕ
  g = (memory z s.words).given

  at : get_elem? ns seat ≡ some v.numbers
  at = at_map numbers_of s.states seat v here

  is_given : (k j : ℕ) (u : Numbers) → get_elem? ns j ≡ some u → 0 < has_number k u → bit_at g k ≡ 1
  is_given k j u e has = let t = total_at (has_number k) ns j u e in let o = r.numbers.owned k in let l = bit_at-lt g k in omega arith

  -- no two passes have a number
  one_has : (k j : ℕ) (u : Numbers) → get_elem? ns j ≡ some u → 0 < has_number k u → 0 < has_number k v.numbers → j ≡ seat
  one_has k j u e has mine = dite (ℕ_discrete j seat) (λ q. q) (λ ne. let t = total_two (has_number k) ns j seat u v.numbers ne e at in let o = r.numbers.owned k in let l = bit_at-lt g k in absurd (omega arith))

  -- each given number is the pass's own, or of one joined
  all_own : (n k : ℕ) → k < n → bit_at g k ≡ 1 → 0 < rooted k v.numbers
  all_own zero k lt e = absurd (omega arith)
  all_own (suc n) k lt e = dite (ℕ_discrete k 0) (λ q. subst (λ (i : ℕ). 0 < rooted i v.numbers) (sym q) alone.first)
      (λ ne. let p = total_some (is_parent k) ns (r.numbers.parents k (omega arith) e) in let u : Numbers = p.1 in
      let both = product_some (below (λ m. rooted m u) k) (total (λ (m : ℕ). one_at m k) u.made) p.3 in
      let m = below_some (λ m. rooted m u) k both.0 in let small = m.1 in let root = m.2 in
      let mine = all_own n m.0 (omega arith) (is_given m.0 p.0 u p.2 (omega arith)) in
      let same : p.0 ≡ seat = one_has m.0 p.0 u p.2 (omega arith) (omega arith) in
      let is_v : u ≡ v.numbers = some-injective u v.numbers (sym p.2 ∙ (ap (get_elem? ns) same ∙ at)) in
      alone.others k (subst (λ (a : Numbers). 0 < total (λ (m : ℕ). one_at m k) a.made) is_v both.1))

  pub others_spent : (j : ℕ) (u : PassState) → j ≢ seat → get_elem? s.states j ≡ some u → u.numbers.spent ≡ true
  others_spent j u ne e = spent u.numbers.spent refl
    where
      spent : (b : Bool) → u.numbers.spent ≡ b → b ≡ true
      spent true q = refl
      spent false q = let k : ℕ = u.numbers.number in
          let own : cond u.numbers.spent 0 (one_at k k) ≡ 1 = ap (λ (t : Bool). cond t 0 (one_at k k)) q ∙ one_at-same k k refl in
          let there = at_map numbers_of s.states j u e in
          let mine = all_own (suc k) k (omega arith) (is_given k j u.numbers there (omega arith)) in
          absurd (ne (one_has k j u.numbers there (omega arith) (omega arith)))

  pub others_are : (j : ℕ) (u : PassState) → j ≢ seat → get_elem? s.states j ≡ some u → u ≡ spent_state
  others_are j u ne e = r.spent j u e (others_spent j u ne e)

  pub history_seen : (k : ℕ) → history k (map knowledge_of s.states) ≡ seen_of k v.knowledge
  unfolding longest
  history_seen k = begins_whole (history k (map knowledge_of s.states)) (seen_of k v.knowledge)
      (longest_begins (seen_of k v.knowledge) (map (seen_of k) (map knowledge_of s.states)) (each_of_every (λ l. Begins l (seen_of k v.knowledge)) (map (seen_of k) (map knowledge_of s.states)) each))
      (longest_le (map (seen_of k) (map knowledge_of s.states)) seat (seen_of k v.knowledge) (at_map (seen_of k) (map knowledge_of s.states) seat v.knowledge (at_map knowledge_of s.states seat v here)))
    where
      each : (j : ℕ) (l : List KeyedWrite) → get_elem? (map (seen_of k) (map knowledge_of s.states)) j ≡ some l → Begins l (seen_of k v.knowledge)
      each j l e = let a = at_unmap (seen_of k) (map knowledge_of s.states) j l e in let b = at_unmap knowledge_of s.states j a.0 a.1 in
          let is_l : seen_of k b.0.knowledge ≡ l = ap (seen_of k) b.2 ∙ a.2 in
          dite (ℕ_discrete j seat)
          (λ q. let same : b.0 ≡ v = some-injective b.0 v (sym b.1 ∙ (ap (get_elem? s.states) q ∙ here)) in subst (λ (x : List KeyedWrite). Begins x (seen_of k v.knowledge)) (ap (λ (y : PassState). seen_of k y.knowledge) (sym same) ∙ is_l) (begins_self (seen_of k v.knowledge)))
          (λ ne. let gone : b.0 ≡ spent_state = others_are j b.0 ne b.1 in subst (λ (x : List KeyedWrite). Begins x (seen_of k v.knowledge)) (ap (λ (y : PassState). seen_of k y.knowledge) (sym gone) ∙ is_l) (seen_of k v.knowledge, refl))

  pub ends : (words : List ℕ) → s.words ≡ words → Ends z words v
  ends words e = record { table = s; rule = r; words_are = e; seat = seat; here = here; others = others_are; histories = history_seen }

-- A pass that was alone, that was split once, and into which what was split off is joined, is alone again. What the two met and learned between is of no matter.
pub alone_again : (z : Sizes) (call : ℕ) (v w x w' x' : PassState) → IsAlone v → SplitsOff z call v w x → w'.numbers ≡ w.numbers → x'.numbers ≡ x.numbers → IsAlone (both_state w' x')
alone_again z call v w x w' x' alone off same_w same_x =
    let owes = subst (Owes (off.number ∷ [])) (sym same_w) (split_owes z call v w x off [] (owing_alone v alone)) in
    let its = subst (Owes []) (sym same_x) (new_owes z call v w x off) in
    let has = subst (λ (a : Numbers). 0 < rooted off.number a) (sym same_x) (new_rooted z call v w x off) in
    let live : x'.numbers.spent ≡ false = (λ i. (same_x i).spent) ∙ (λ i. (off.new i).numbers.spent) in
    let both = both_rooted w' x' live 0 in
    let stays : rooted 0 w'.numbers ≡ rooted 0 v.numbers = ap (rooted 0) same_w ∙ split_rooted z call v w x off 0 in
    let a = alone.first in
    alone_owing (both_state w' x') (omega arith) (join_one w' x' live off.number [] owes its has)

-- a pass with the number 0 that split nothing off is alone
pub numbers_alone : (v : PassState) → v.numbers ≡ bare_state.numbers → IsAlone v
unfolding total
numbers_alone v e = record {
  first = subst (λ (a : Numbers). 0 < rooted 0 a) (sym e) (let o = one_at-same 0 0 refl in omega arith);
  others = λ k made. absurd (let none : 0 < total (λ (m : ℕ). one_at m k) bare_state.numbers.made = subst (λ (a : Numbers). 0 < total (λ (m : ℕ). one_at m k) a.made) e made in omega arith);
}

-- so the first pass is
pub first_alone : (z : Sizes) (g : ℕ) → IsAlone (first_state z g)
first_alone z g = numbers_alone (first_state z g) refl
