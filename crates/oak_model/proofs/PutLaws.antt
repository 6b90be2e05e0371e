-- A function in which one value is exchanged.
use Rattle.std.proofs.Common.{◌≡◌, ◌≢◌, ℕ, ◌+◌, cond, Bool, sym, refl, ap, ◌∙◌, subst, eq-eqb, ne_eqb}
use mathlib.Core.Path.{fun_ext}
use Rattle.oak_model.specs.Counts.{put}
use Rattle.oak_model.proofs.Counting.{decided}

module _ {A : Type 0} where
  pub put-here : (f : ℕ → A) (i : ℕ) (x : A) (k : ℕ) → k ≡ i → put f i x k ≡ x
  put-here f i x k e = ap (λ (t : Bool). cond t x (f k)) (eq-eqb k i e)

  pub put-else : (f : ℕ → A) (i : ℕ) (x : A) (k : ℕ) → k ≢ i → put f i x k ≡ f k
  put-else f i x k n = ap (λ (t : Bool). cond t x (f k)) (ne_eqb k i n)

  -- what holds of the new value at i, and of the old ones elsewhere, holds of put f i x
  pub put-cases : (f : ℕ → A) (i : ℕ) (x : A) (k : ℕ) (P : A → Type 0) → (k ≡ i → P x) → (k ≢ i → P (f k)) → P (put f i x k)
  put-cases f i x k P here other = decided k i (λ t. P (cond t x (f k))) here other

  -- what g says of the value at i stays, so it stays of each
  pub put-same : {B : Type 0} (f : ℕ → A) (i : ℕ) (x : A) (g : A → B) → g x ≡ g (f i) → (k : ℕ) → g (put f i x k) ≡ g (f k)
  put-same f i x g same k = put-cases f i x k (λ y. g y ≡ g (f k)) (λ e. same ∙ ap (λ (j : ℕ). g (f j)) (sym e)) (λ _. refl)

  -- b and what g says of the values are level with a before, where they are at i, and b is a elsewhere
  pub put-level : (f : ℕ → A) (i : ℕ) (x : A) (g : A → ℕ) (a b : ℕ → ℕ) → b i + g (f i) ≡ a i + g x → ((k : ℕ) → k ≢ i → b k ≡ a k) → (k : ℕ) → b k + g (f k) ≡ a k + g (put f i x k)
  put-level f i x g a b here other k = put-cases f i x k (λ y. b k + g (f k) ≡ a k + g y) (λ e. subst (λ (j : ℕ). b j + g (f j) ≡ a j + g x) (sym e) here) (λ n. ap (λ (t : ℕ). t + g (f k)) (other k n))

  -- the value that it had
  pub put-again : (f : ℕ → A) (i : ℕ) → put f i (f i) ≡ f
  put-again f i = fun_ext (λ k. put-same f i (f i) (λ y. y) refl k)
