-- Place words: a block of the arena, and the length of the bytes that stand in it.
use Rattle.std.specs.Prelude.{◌≡◌, ℕ, zero, suc, ◌+◌, ◌*◌, ◌/◌, ◌%◌, ◌^◌, List, Some}
use Rattle.oak_model.specs.declared.classes.Class.{Class}
use Rattle.oak_model.specs.declared.classes.Class.TheVariants.{B16, B64, B256, B1024}
use Rattle.oak_model.specs.Class.{class_number, class_of}
use Rattle.oak_model.specs.Counts.{one_at, rows}
use Rattle.arena_core.specs.Arena.{block_words}

unfoldable pub place_word : ℕ → ℕ → ℕ → ℕ
place_word c b n = c * 2 ^ 48 + b * 2 ^ 16 + n

unfoldable pub class_in : ℕ → ℕ
class_in word = word / 2 ^ 48

unfoldable pub block_in : ℕ → ℕ
block_in word = word / 2 ^ 16 % 2 ^ 32

unfoldable pub length_in : ℕ → ℕ
length_in word = word % 2 ^ 16

-- the class of this number
abbrev pub class_from : ℕ → Class
class_from zero = B16
class_from (suc zero) = B64
class_from (suc (suc zero)) = B256
class_from (suc (suc (suc n))) = B1024

-- the word names a block of the class that its length has
pub record IsPlace (word : ℕ) : Type 0 where
  pub class : Class
  pub is_in : class_in word ≡ class_number class
  pub fits : class_of (length_in word) ≡ Some class

-- 1 where the word names the block
abbrev pub names_block : ℕ → ℕ → ℕ → ℕ
names_block c b word = one_at (class_in word) c * one_at (block_in word) b

-- the words of the block that the word names
abbrev pub content : (ℕ → ℕ → ℕ → ℕ) → ℕ → List ℕ
content bytes word = rows 0 (block_words (class_in word)) (bytes (class_in word) (block_in word))
