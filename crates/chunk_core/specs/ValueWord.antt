-- Value words of entries: a header with its generation, or a floor.
use Rattle.std.specs.Prelude.{ℕ, ◌*◌, ◌/◌, ◌%◌, ◌^◌}
use Rattle.oak_model.specs.Counts.{one_at}

-- 1 where the top bit says that the word names a header, and else 0
unfoldable pub names_header : ℕ → ℕ
names_header word = one_at (word / 2 ^ 63) 1

unfoldable pub header_in : ℕ → ℕ
header_in word = word / 2 ^ 32 % 2 ^ 31

unfoldable pub generation_in : ℕ → ℕ
generation_in word = word % 2 ^ 32

-- 1 where the word names the header at the generation
abbrev pub names_life : ℕ → ℕ → ℕ → ℕ
names_life h g word = names_header word * one_at (header_in word) h * one_at (generation_in word) g
