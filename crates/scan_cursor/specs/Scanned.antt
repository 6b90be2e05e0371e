-- What a scan has read so far: each key between two numbers once, and the pairs are those of the keys that were present.
use Rattle.std.specs.Prelude.{◌≡◌, ℕ, suc, ◌&&◌, nat_le, nat_lt, Bool, true, false, List, [], ◌∷◌, Option, Some, None}
use Rattle.std.specs.List.{AllByRecursion}
use Rattle.oak_model.specs.declared.replies.Pair.{Pair}
use Rattle.oak_model.specs.Key.{is_key}
use Rattle.oak_model.specs.KeyNumber.{key_number}
use Rattle.oak_model.specs.Scan.{IsFalling, IsRising, value_in}
use Rattle.oak_core.specs.AloneWords.{Runs}
use Rattle.chunk_ops.specs.PinRecords.{WordsStay}
use Rattle.scan_cursor.specs.declared.ways.Way.{Way}
use Rattle.scan_cursor.specs.declared.ways.Way.TheVariants.{Up, Down}
use Rattle.scan_cursor.specs.Holding.{greatest_key}
use Rattle.scan_cursor.specs.Views.{Later, ReadsKey, View}

-- a key whose number is from this one on and below that one
abbrev pub within : ℕ → ℕ → List ℕ → Bool
within from past k = is_key k && (nat_le from (key_number k) && nat_lt (key_number k) past)

-- each key between the two numbers was read at the place of its number, no pair is of another key, and each pair has its key's number
pub record Scanned (before now : View) (from past : ℕ) (pairs : List Pair) : Type 0 where
  pub ats : List ℕ → ℕ
  pub each : (q : List ℕ) → within from past q ≡ true → ReadsKey before now q (ats q) (value_in pairs q)
  pub others : (q : List ℕ) → within from past q ≡ false → value_in pairs q ≡ None
  pub told : AllByRecursion (λ (p : Pair). (within from past p.key ≡ true) × (p.at ≡ ats p.key)) pairs

-- the pairs are in the order of the scan
abbrev pub IsInOrder : Way → List Pair → Type 0
IsInOrder Up pairs = IsRising pairs
IsInOrder Down pairs = IsFalling pairs

abbrev pub least_key : List ℕ
least_key = 0 ∷ []

-- the number of the least key that a bound allows, and of the greatest

abbrev pub least_of : Option (List ℕ) → ℕ
least_of None = key_number least_key
least_of (Some low) = key_number low

abbrev pub greatest_of : Option (List ℕ) → ℕ
greatest_of None = key_number greatest_key
greatest_of (Some high) = key_number high

-- each key between the bounds was read once, by loads, pins and their undoing alone, and the pairs are those of the present ones, in order; to a pass that is alone the words stay
pub record HasScanned (way : Way) (low high : Option (List ℕ)) (before now : View) (pairs : List Pair) : Type 0 where
  pub later : Later before now
  pub scanned : Scanned before now (least_of low) (suc (greatest_of high)) pairs
  pub ordered : IsInOrder way pairs
  pub still : Runs WordsStay before.state now.state
