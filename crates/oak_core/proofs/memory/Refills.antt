-- What is written over the front of a list.
use Rattle.std.proofs.Common.{◌≡◌, ℕ, zero, suc, List, [], ◌∷◌, ◌++◌, length, take, drop, refl, ap, sym, arith}
use Rattle.std.proofs.lemmas.List.{take-take}
use Rattle.std.specs.List.{refill}

-- it counts only up to the cut
pub refill_of_front : {A : Type 0} (w ys : List A) (n : ℕ) → take n (w ++ drop (length w) ys) ≡ refill n (take n ys) w
refill_of_front [] ys n = sym (take-take n n ys (omega arith))
refill_of_front (x ∷ w) ys zero = refl
refill_of_front (x ∷ w) [] (suc n) = refl
refill_of_front (x ∷ w) (y ∷ ys) (suc n) = ap (λ l. x ∷ l) (refill_of_front w ys n)
