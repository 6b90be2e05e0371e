-- A key as a number whose order is that of the bytes: the digits to the base 257 are the bytes plus one, and 0 behind the last.
use Rattle.std.specs.Prelude.{ℕ, zero, suc, ◌+◌, ◌*◌, ◌^◌, List, [], ◌∷◌}
use Rattle.oak_model.specs.declared.limits.TheConstants.{GREATEST_KEY}

unfoldable pub digits_number : ℕ → List ℕ → ℕ
digits_number zero xs = 0
digits_number (suc n) [] = 0
digits_number (suc n) (x ∷ xs) = (x + 1) * 257 ^ n + digits_number n xs

unfoldable pub key_number : List ℕ → ℕ
key_number k = digits_number GREATEST_KEY k
