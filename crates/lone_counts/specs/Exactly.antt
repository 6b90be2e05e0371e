-- How many blocks and headers are used, exactly, as the words say which are free.
use Rattle.std.specs.Prelude.{◌≡◌, ◌≢◌, ℕ, ◌+◌, ◌/◌, ◌%◌, ◌<◌, ◌≤◌, true, false, List}
use Rattle.std.specs.Int.{bit_at}
use Rattle.oak_model.specs.declared.classes.Class.{Class}
use Rattle.oak_model.specs.Class.{class_number}
use Rattle.oak_model.specs.Limits.{Sizes}
use Rattle.arena_core.specs.Arena.{blocks}
use Rattle.oak_core.specs.Memory.{memory}
use Rattle.oak_core.specs.Usage.{is_free}

-- the bit of the block
abbrev pub block_bit : Sizes → List ℕ → Class → ℕ → ℕ
block_bit z words c b = bit_at ((memory z words).arena.bits (class_number c) (b / 64)) (b % 64)

-- So many blocks of the class are used.
pub record BlocksExactly (z : Sizes) (words : List ℕ) (c : Class) (used : ℕ) : Type 0 where
  pub fits : used ≤ blocks z (class_number c)
  pub all : ((b : ℕ) → b < blocks z (class_number c) → block_bit z words c b ≡ 1) → used ≡ blocks z (class_number c)
  pub one : (b : ℕ) → b < blocks z (class_number c) → block_bit z words c b ≡ 0 → used + 1 ≤ blocks z (class_number c)
  pub two : (b d : ℕ) → b ≢ d → b < blocks z (class_number c) → d < blocks z (class_number c) → block_bit z words c b ≡ 0 → block_bit z words c d ≡ 0 → used + 2 ≤ blocks z (class_number c)
  pub but_one : (b : ℕ) → b < blocks z (class_number c) → block_bit z words c b ≡ 0 → ((d : ℕ) → d < blocks z (class_number c) → d ≢ b → block_bit z words c d ≡ 1) → used + 1 ≡ blocks z (class_number c)

-- So many headers are.
pub record HeadersExactly (z : Sizes) (words : List ℕ) (used : ℕ) : Type 0 where
  pub fits : used ≤ z.headers
  pub all : ((h : ℕ) → h < z.headers → is_free ((memory z words).headers.pin h) ≡ false) → used ≡ z.headers
  pub one : (h : ℕ) → h < z.headers → is_free ((memory z words).headers.pin h) ≡ true → used + 1 ≤ z.headers
