-- The numbers of word 0: passes hand them to one another, and a pass takes one that was free.
use Rattle.std.proofs.Common.{◌≡◌, ◌≢◌, ℕ, zero, suc, ◌+◌, ◌*◌, ◌^◌, ◌<◌, ◌≤◌, Bool, true, false, cond, eqb, List, [], ◌∷◌, ◌++◌, set, sym, refl, ap, ◌∙◌, subst, arith, eq-eqb, ne_eqb, Some, None}
use Rattle.std.specs.Prelude.{bit_or}
use Rattle.std.specs.Int.{bit_at}
use Rattle.std.proofs.lemmas.Nat.Bits.{bit_at_or, bit_at-pow_same, bit_at-pow_other, bit_at-lt}
use mathlib.Core.Option.{some}
use mathlib.Core.Logic.{dite}
use native.Mathlib.Decide.{ℕ_discrete, dec_lt}
use lib.ListN.{get_elem?}
use Rattle.oak_model.specs.Limits.{Sizes}
use Rattle.oak_model.specs.Counts.{one_at, total, below}
use Rattle.oak_model.proofs.Changes.{Change, change_level, change_more}
use Rattle.oak_model.proofs.Counting.{one_at-same, one_at-other, total_set, total_at, total_append, below_at}
use Rattle.oak_core.specs.declared.states.Numbers.{Numbers}
use Rattle.oak_core.specs.PassState.{rooted, in_hand, has_number, is_parent, splits_of}
use Rattle.oak_core.specs.Step.{numbered}
use Rattle.oak_core.specs.Rule.{NumbersStand}

-- word 0 stays, and those that come have the numbers of those that go
pub numbers_frame : (z : Sizes) (g : ℕ) {before after gone fresh : List Numbers} (c : Change before after gone fresh) → ((k : ℕ) → total (has_number k) fresh ≡ total (has_number k) gone)
    → ((k : ℕ) → total (is_parent k) gone ≤ total (is_parent k) fresh) → ((k : ℕ) → total (splits_of k) fresh ≡ total (splits_of k) gone) → NumbersStand z g before → NumbersStand z g after
numbers_frame z g c level more splits r = record {
  owned = λ k. r.owned k ∙ sym (change_level c (has_number k) (level k));
  lowest = r.lowest;
  few = r.few;
  parents = λ k pos set_bit. let p = r.parents k pos set_bit in let m = change_more c (is_parent k) (more k) in omega arith;
  made = λ k some. let e = change_level c (splits_of k) (splits k) in r.made k (omega arith);
}

-- the given numbers are the lowest
pub all_lower : (g : ℕ) → ((k : ℕ) → bit_at g (suc k) ≡ 1 → bit_at g k ≡ 1) → (m k : ℕ) → k ≤ m → bit_at g m ≡ 1 → bit_at g k ≡ 1
all_lower g low zero k le e = subst (λ (n : ℕ). bit_at g n ≡ 1) (let q : zero ≡ k = omega arith in q) e
all_lower g low (suc m) k le e = dite (ℕ_discrete k (suc m)) (λ q. subst (λ (n : ℕ). bit_at g n ≡ 1) (sym q) e) (λ ne. all_lower g low m k (omega arith) (low m e))

product_more : (a b c d : ℕ) → a ≤ c → b ≤ d → a * b ≤ c * d
product_more a b c d h g = grind arith

product_pos : (a b : ℕ) → 0 < a → 0 < b → 0 < a * b
product_pos a b h g = grind arith

module _ (z : Sizes) (g k : ℕ) (ns : List Numbers) (seat : ℕ) (a : Numbers) (here : get_elem? ns seat ≡ some a) (r : NumbersStand z g ns)
    (few : k < z.passes) (hand : a.hand ≡ None) (going : a.spent ≡ false) (lower : (j : ℕ) → j < k → bit_at g j ≡ 1) where
  abbrev x : ℕ
  x = bit_or g (2 ^ k)

  abbrev b : Numbers
  b = numbered g k a

  set_there : bit_at x k ≡ 1
  set_there = let e = bit_at_or g (2 ^ k) k in let f = bit_at-pow_same k in let l = bit_at-lt g k in omega arith

  others : (j : ℕ) → j ≢ k → bit_at x j ≡ bit_at g j
  others j ne = let e = bit_at_or g (2 ^ k) j in let f = bit_at-pow_other k j ne in omega arith

  pub bits_stay : (j : ℕ) → bit_at g j ≡ 1 → bit_at x j ≡ 1
  bits_stay j e = dite (ℕ_discrete j k) (λ q. subst (λ (n : ℕ). bit_at x n ≡ 1) (sym q) set_there) (λ ne. others j ne ∙ e)

  -- the numbers of the pass after: the same, and k if it was clear
  has_other : (j : ℕ) → j ≢ k → has_number j b ≡ has_number j a
  has_other j ne = elim (eqb (bit_at g k) 0) as (λ t. rooted j a + in_hand j (cond t (Some k) a.hand) ≡ rooted j a + in_hand j a.hand)
      [ true ↦ (let o = one_at-other k j (λ q. ne (sym q)) in let h : in_hand j a.hand ≡ 0 = ap (in_hand j) hand in omega arith) | false ↦ refl ]

  has_here : bit_at g k + has_number k b ≡ bit_at x k + has_number k a
  has_here = let there = set_there in let l = bit_at-lt g k in let h : in_hand k a.hand ≡ 0 = ap (in_hand k) hand in dite (ℕ_discrete (bit_at g k) 0)
      (λ e. let t : in_hand k b.hand ≡ 1 = ap (λ (t : Bool). in_hand k (cond t (Some k) a.hand)) (eq-eqb (bit_at g k) 0 e) ∙ one_at-same k k refl in omega arith)
      (λ ne. let t : in_hand k b.hand ≡ in_hand k a.hand = ap (λ (t : Bool). in_hand k (cond t (Some k) a.hand)) (ne_eqb (bit_at g k) 0 ne) in omega arith)

  made_more : (j : ℕ) → total (λ (m : ℕ). one_at m j) a.made ≤ total (λ (m : ℕ). one_at m j) b.made
  made_more j = elim (eqb (bit_at g k) 0) as (λ t. total (λ (m : ℕ). one_at m j) a.made ≤ total (λ (m : ℕ). one_at m j) (cond t (a.made ++ k ∷ []) a.made))
      [ true ↦ (let t = total_append (λ (m : ℕ). one_at m j) a.made (k ∷ []) in omega arith) | false ↦ omega arith ]

  parent_more : (j : ℕ) → is_parent j a ≤ is_parent j b
  parent_more j = product_more (below (λ m. rooted m a) j) (total (λ (m : ℕ). one_at m j) a.made) (below (λ m. rooted m a) j) (total (λ (m : ℕ). one_at m j) b.made) (omega arith) (made_more j)

  own : 0 < rooted a.number a
  own = let o = one_at-same a.number a.number refl in let e : cond a.spent 0 (one_at a.number a.number) ≡ one_at a.number a.number = ap (λ (t : Bool). cond t 0 (one_at a.number a.number)) going in omega arith

  just_one : total (λ (m : ℕ). one_at m k) (k ∷ []) ≡ 1
  unfolding total
  just_one = let s = one_at-same k k refl in omega arith

  -- where k was clear, the pass is the one that split it off, with a smaller number of its own
  parent_new : bit_at g k ≡ 0 → 0 < is_parent k b
  parent_new e = let o = own in
      let smaller : a.number < k = dite (dec_lt a.number k) (λ l. l) (λ no. let t = total_at (has_number a.number) ns seat a here in let w = r.owned a.number in let l = bit_at-lt g a.number in
      let d = all_lower g r.lowest a.number k (omega arith) (omega arith) in absurd (omega arith)) in
      let roots = below_at (λ m. rooted m a) k a.number smaller in
      let made : total (λ (m : ℕ). one_at m k) b.made ≡ total (λ (m : ℕ). one_at m k) a.made + total (λ (m : ℕ). one_at m k) (k ∷ []) =
      ap (λ (t : Bool). total (λ (m : ℕ). one_at m k) (cond t (a.made ++ k ∷ []) a.made)) (eq-eqb (bit_at g k) 0 e) ∙ total_append (λ (m : ℕ). one_at m k) a.made (k ∷ []) in
      product_pos (below (λ m. rooted m a) k) (total (λ (m : ℕ). one_at m k) b.made) (omega arith) (let s = just_one in omega arith)

  splits_other : (j : ℕ) → j ≢ k → splits_of j b ≡ splits_of j a
  unfolding total
  splits_other j ne = elim (eqb (bit_at g k) 0) as (λ t. total (λ (m : ℕ). one_at m j) (cond t (a.made ++ k ∷ []) a.made) ≡ total (λ (m : ℕ). one_at m j) a.made)
      [ true ↦ (let t = total_append (λ (m : ℕ). one_at m j) a.made (k ∷ []) in let o = one_at-other k j (λ q. ne (sym q)) in omega arith) | false ↦ refl ]

  pub number_given : NumbersStand z x (set ns seat b)
  number_given = record {
    owned = λ j. let t = total_set (has_number j) ns seat a b here in let w = r.owned j in dite (ℕ_discrete j k)
        (λ q. subst (λ (n : ℕ). bit_at x n ≡ total (has_number n) (set ns seat b)) (sym q) (let t = total_set (has_number k) ns seat a b here in let w = r.owned k in let h = has_here in omega arith))
        (λ ne. let o = others j ne in let h = has_other j ne in omega arith);
    lowest = λ j e. dite (ℕ_discrete (suc j) k) (λ q. bits_stay j (lower j (omega arith))) (λ ne. bits_stay j (r.lowest j (sym (others (suc j) ne) ∙ e)));
    few = λ j le. others j (λ q. omega arith) ∙ r.few j le;
    parents = λ j pos e. let t = total_set (is_parent j) ns seat a b here in dite (ℕ_discrete (bit_at g j) 1)
        (λ was. let p = r.parents j pos was in let m = parent_more j in omega arith)
        (λ ne. let is_k : j ≡ k = dite (ℕ_discrete j k) (λ q. q) (λ q. absurd (ne (sym (others j q) ∙ e))) in let l = bit_at-lt g j in
        let p : 0 < is_parent j b = subst (λ (n : ℕ). 0 < is_parent n b) (sym is_k) (parent_new (subst (λ (n : ℕ). bit_at g n ≡ 0) is_k (omega arith))) in let u = total_at (is_parent j) ns seat a here in omega arith);
    made = λ j some. dite (ℕ_discrete j k) (λ q. subst (λ (n : ℕ). bit_at x n ≡ 1) (sym q) set_there)
        (λ ne. bits_stay j (r.made j (let t = total_set (splits_of j) ns seat a b here in let s = splits_other j ne in omega arith)));
  }
