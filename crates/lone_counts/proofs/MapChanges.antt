-- How a map changes with one key, and its blocks and keys with it.
use Rattle.std.proofs.Common.{◌≡◌, ℕ, ◌+◌, Bool, cond, false, List, ◌∷◌, length, map, Some, None, sym, ap, ◌∙◌, subst, arith, inl, inr}
use Rattle.std.specs.Prelude.{count_by}
use Rattle.std.proofs.lemmas.Bool.{cases_Bool}
use Rattle.std.proofs.lemmas.List.{length-map}
use Rattle.oak_model.specs.declared.classes.Class.{Class}
use Rattle.oak_model.specs.declared.replies.Pair.{Pair}
use Rattle.oak_model.specs.Class.{has_class, blocks_of}
use Rattle.oak_model.specs.Counts.{one_if, total}
use Rattle.oak_model.specs.Key.{same_key}
use Rattle.oak_model.specs.State.{State}
use Rattle.oak_model.proofs.Counting.{total_map}
use Rattle.oak_model.proofs.Lists.{at_unmap}
use Rattle.oak_model.proofs.KeyLaws.{same_is}
use Rattle.lone_counts.specs.Maps.{IsMapOf}
use Rattle.lone_counts.proofs.MapSums as sums
pub use Rattle.lone_counts.proofs.RisingPairs.{rising_map}
use Rattle.lone_counts.proofs.Sums.{total_plus, total_count}

-- what is a map of one state is one of each that agrees with it
pub map_agrees : (s t : List ℕ → State) (m : List Pair) → IsMapOf s m → ((q : List ℕ) → s q ≡ t q) → IsMapOf t m
map_agrees s t m is same = record { each = λ i p at. sym (same p.key) ∙ is.each i p at; once = λ q b e. is.once q b (same q ∙ e) }

-- with a new key
pub with_key : (s t : List ℕ → State) (m : List Pair) (k v : List ℕ) → IsMapOf s m → s k ≡ None → t k ≡ Some v → ((q : List ℕ) → same_key q k ≡ false → t q ≡ s q) → IsMapOf t (record { key = k; value = v; at = 0 } ∷ m)
with_key s t m k v is absent now others = sums.key_added s t m k v is absent now others

-- the blocks of the class of a key and its value
abbrev both : Class → List ℕ → List ℕ → ℕ
both c k v = one_if (has_class c (length k)) + one_if (has_class c (length v))

blocks-total : (c : Class) (ps : List Pair) → blocks_of ps c ≡ total (λ (p : Pair). both c p.key p.value) ps
blocks-total c ps =
    let a = total_count (λ (p : Pair). has_class c (length p.key)) ps in
    let b = total_count (λ (p : Pair). has_class c (length p.value)) ps in
    let s = total_plus (λ (p : Pair). one_if (has_class c (length p.key))) (λ (p : Pair). one_if (has_class c (length p.value))) ps in
    ap (λ (n : ℕ). n + count_by (λ (p : Pair). has_class c (length p.value)) ps) a ∙ (ap (λ (n : ℕ). total (λ (p : Pair). one_if (has_class c (length p.key))) ps + n) b ∙ sym s)

-- the blocks of a map with one pair more
pub key_blocks : (m : List Pair) (p : Pair) (c : Class) → blocks_of (p ∷ m) c ≡ blocks_of m c + one_if (has_class c (length p.key)) + one_if (has_class c (length p.value))
unfolding total
key_blocks m p c = let a = blocks-total c (p ∷ m) in let b = blocks-total c m in
    let x : ℕ = blocks_of (p ∷ m) c in let y : ℕ = blocks_of m c in let y1 : ℕ = total (λ (q : Pair). both c q.key q.value) m in
    let k : ℕ = one_if (has_class c (length p.key)) in let v : ℕ = one_if (has_class c (length p.value)) in
    let a' : x ≡ (k + v) + y1 = a in let b' : y ≡ y1 = b in let r : x ≡ y + k + v = omega arith in r

-- the pair with another value, where its key is k
abbrev renewed : List ℕ → List ℕ → Pair → Pair
renewed k v p = record p { value = cond (same_key p.key k) v p.value }

module _ (s t : List ℕ → State) (m : List Pair) (k old v : List ℕ) (is : IsMapOf s m) (present : s k ≡ Some old) (now : t k ≡ Some v) (others : (q : List ℕ) → same_key q k ≡ false → t q ≡ s q) where
  one_now : (p : Pair) → s p.key ≡ Some p.value → t p.key ≡ Some (cond (same_key p.key k) v p.value)
  one_now p e = elim (cases_Bool (same_key p.key k)) [
    | inl same ↦ ap t (same_is p.key k same) ∙ (now ∙ ap (λ (b : Bool). Some (cond b v p.value)) (sym same))
    | inr other ↦ others p.key other ∙ (e ∙ ap (λ (b : Bool). Some (cond b v p.value)) (sym other))
  ]

  renewed_map : IsMapOf t (map (renewed k v) m)
  renewed_map = record {
    each = λ i p at. let a = at_unmap (renewed k v) m i p at in subst (λ (x : Pair). t x.key ≡ Some x.value) a.2 (one_now a.0 (is.each i a.0 a.1));
    once = λ q b e. total_map (renewed k v) (λ (p : Pair). one_if (same_key q p.key)) m ∙ (let w = sums.was_there s t k old present others q b e in is.once q w.0 w.1);
  }

-- with another value for a key
pub with_value : (s t : List ℕ → State) (m : List Pair) (k old v : List ℕ) → IsMapOf s m → s k ≡ Some old → t k ≡ Some v → ((q : List ℕ) → same_key q k ≡ false → t q ≡ s q) → (n : List Pair) × IsMapOf t n × (length n ≡ length m) × ((c : Class) → blocks_of n c + one_if (has_class c (length old)) ≡ blocks_of m c + one_if (has_class c (length v)))
with_value s t m k old v is present now others =
    let n : List Pair = map (renewed k v) m in
    let after = renewed_map s t m k old v is present now others in (
      n,
      after,
      length-map m (renewed k v),
      λ c.
          let i = sums.overwritten s t k old v m n is after present now others (both c) in let a = blocks-total c n in let b = blocks-total c m in
          let x : ℕ = blocks_of n c in let y : ℕ = blocks_of m c in let x1 : ℕ = total (λ (p : Pair). both c p.key p.value) n in let y1 : ℕ = total (λ (p : Pair). both c p.key p.value) m in
          let a' : x ≡ x1 = a in let b' : y ≡ y1 = b in let i' : x1 + both c k old ≡ y1 + both c k v = i in
          let r : x + one_if (has_class c (length old)) ≡ y + one_if (has_class c (length v)) = omega arith in r,
    )
