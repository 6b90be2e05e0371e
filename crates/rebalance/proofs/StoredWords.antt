-- What stands at a place after a store to one.
use Rattle.std.proofs.Common.{◌≡◌, ◌≢◌, ℕ, ◌==◌, ◌&&◌, ◌⊎◌, inl, inr, Bool, cond, sym, subst, eq-eqb, ne_eqb}
use mathlib.Core.Logic.{dite}
use native.Mathlib.Decide.{ℕ_discrete}

-- what stands at j of q after a store at i of r
pub at_one : (j i q r x y : ℕ) (P : ℕ → Type 0) → (j ≡ i → q ≡ r → P x) → ((j ≢ i) ⊎ (q ≢ r) → P y) → P (cond ((j == i) && (q == r)) x y)
at_one j i q r x y P here else = dite (ℕ_discrete j i)
    (λ a. dite (ℕ_discrete q r)
    (λ b. subst (λ (t : Bool). P (cond t x y)) (sym ((λ k. eq-eqb j i a k && eq-eqb q r b k))) (here a b))
    (λ b. subst (λ (t : Bool). P (cond t x y)) (sym ((λ k. eq-eqb j i a k && ne_eqb q r b k))) (else (inr b))))
    (λ a. subst (λ (t : Bool). P (cond t x y)) (sym (λ k. ne_eqb j i a k && (q == r))) (else (inl a)))

-- and of a word that a room has once
pub at_room : (q r x y : ℕ) (P : ℕ → Type 0) → (q ≡ r → P x) → (q ≢ r → P y) → P (cond (q == r) x y)
at_room q r x y P here else = dite (ℕ_discrete q r) (λ b. subst (λ (t : Bool). P (cond t x y)) (sym (eq-eqb q r b)) (here b)) (λ b. subst (λ (t : Bool). P (cond t x y)) (sym (ne_eqb q r b)) (else b))
