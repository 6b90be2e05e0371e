-- Words that spell decimal numbers.
use Rattle.std.specs.Prelude.{ℕ, ◌^◌, ◌==◌, ◌&&◌, not, nat_le, nat_lt, Bool, false, List, [], ◌∷◌}
use Rattle.std.specs.Char.{is_ascii_digit}
use Rattle.std.specs.List.{list_all}
use Rattle.std.specs.Str.Parse.{digits_value}

-- digits without a sign and without a leading zero; zero is `0`
abbrev pub is_decimal : List ℕ → Bool
is_decimal [] = false
is_decimal (b ∷ []) = list_all is_ascii_digit (b ∷ [])
is_decimal (b ∷ c ∷ more) = not (b == 48) && list_all is_ascii_digit (b ∷ c ∷ more)

-- from 0 to 18446744073709551615
abbrev pub is_number : List ℕ → Bool
is_number w = is_decimal w && nat_lt (digits_value 10 w) (2 ^ 64)

-- a number of this range
abbrev pub is_number_in : ℕ → ℕ → List ℕ → Bool
is_number_in least greatest w = is_number w && (nat_le least (digits_value 10 w) && nat_le (digits_value 10 w) greatest)
