-- What changes of words leave the others: one store, several in a row, and one change behind another.
use Rattle.std.proofs.Common.{◌≡◌, ℕ, suc, ◌+◌, ◌<◌, ◌⊎◌, List, [], ◌∷◌, length, set, length-set, sym, refl, ◌∙◌, subst, arith, inl, inr, ⊎_elim, get_or-set_same}
use Rattle.oak_model.specs.Limits.{Sizes}
use Rattle.oak_model.proofs.Counting.{test-cases}
use Rattle.oak_core.specs.Memory.{Spot, IsInside, index, memory, number_at, read, same_spot, word_count}
use Rattle.oak_core.proofs.memory.Words.{index_below, memory_read, read-of, same_spot-is}
use Rattle.arena_ops.specs.PutWords.{put_from}
use Rattle.chunk_ops.proofs.KeptKeys.{number_other}
use Rattle.point_ops.specs.LoneInserts.{KeepsBut}

module _ (z : Sizes) (P : Spot → Type 0) where
  pub but_none : (a : List ℕ) → KeepsBut z P a a
  but_none a = record { size = refl; same = λ p. inr refl }

  pub but_set : (a : List ℕ) (q : Spot) (x : ℕ) → IsInside z q → P q → KeepsBut z P a (set a (index z q) x)
  but_set a q x inside is = record {
    size = length-set a (index z q) x;
    same = λ p. test-cases (same_spot p q) (λ t. same_spot p q ≡ t → P p ⊎ (read (memory z (set a (index z q) x)) p ≡ read (memory z a) p))
        (λ t _. inl (subst P (sym (same_spot-is p q t)) is))
        (λ f _. inr (read-of (number_at z (set a (index z q) x)) p ∙ (number_other z a q x inside p f ∙ sym (read-of (number_at z a) p)))) refl;
  }

  pub but_both : (a b c : List ℕ) → KeepsBut z P a b → KeepsBut z P b c → KeepsBut z P a c
  but_both a b c f g = record {
    size = g.size ∙ f.size;
    same = λ p. ⊎_elim (λ (i : P p). inl i) (λ (e : read (memory z b) p ≡ read (memory z a) p). ⊎_elim (λ (i : P p). inl i) (λ (d : read (memory z c) p ≡ read (memory z b) p). inr (d ∙ e)) (g.same p)) (f.same p);
  }

  -- stores in a row, of which each goes to a word with P
  pub but_put : (us : List ℕ) (q : ℕ → Spot) (first : ℕ) → ((k : ℕ) → k < length us → (first + k ≡ index z (q k)) × IsInside z (q k) × P (q k)) → (a : List ℕ) → KeepsBut z P a (put_from first us a)
  but_put [] q first h a = but_none a
  but_put (u ∷ us) q first h a = let t = h 0 (omega arith) in let at : first ≡ index z (q 0) = (let e : first ≡ first + 0 = omega arith in e ∙ t.0) in
      but_both a (set a first u) (put_from (suc first) us (set a first u)) (subst (λ (i : ℕ). KeepsBut z P a (set a i u)) (sym at) (but_set a (q 0) u t.1 t.2))
      (but_put us (λ k. q (suc k)) (suc first) (λ k lt. let s = h (suc k) (omega arith) in ((let e : suc first + k ≡ first + suc k = omega arith in e ∙ s.0), s.1, s.2)) (set a first u))

-- what does not have P is as it was
pub but_same : (z : Sizes) (P : Spot → Type 0) (a b : List ℕ) → KeepsBut z P a b → (p : Spot) → (P p → ⊥) → read (memory z b) p ≡ read (memory z a) p
but_same z P a b k p out = ⊎_elim (λ (i : P p). absurd (out i)) (λ (e : read (memory z b) p ≡ read (memory z a) p). e) (k.same p)

pub but_as : (z : Sizes) (P Q : Spot → Type 0) (a b : List ℕ) → ((p : Spot) → P p → Q p) → KeepsBut z P a b → KeepsBut z Q a b
but_as z P Q a b f k = record { size = k.size; same = λ p. ⊎_elim (λ (i : P p). inl (f p i)) (λ (e : read (memory z b) p ≡ read (memory z a) p). inr e) (k.same p) }

-- what was stored is read
pub read_stored : (z : Sizes) (a : List ℕ) (q : Spot) (x : ℕ) → length a ≡ word_count z → IsInside z q → read (memory z (set a (index z q) x)) q ≡ x
read_stored z a q x wide inside = memory_read z (set a (index z q) x) q inside ∙ get_or-set_same a (index z q) x 0 (let b = index_below z q inside in omega arith)
