-- What reading a source to its end gives.
use Rattle.std.specs.Prelude.{◌≡◌, ℕ, ◌+◌, ◌≤◌, List, length, ⊤, Option, Result, Ok, Err}
use Rattle.std.specs.Io.KnownBytes.{Consumes, IsAtEnd}
use Rattle.std.specs.Global.{Vec}
use Rattle.outside.specs.Cause.{Rose}
use Rattle.outside.specs.declared.whole.ReadStop.{ReadStop}
use Rattle.outside.specs.declared.whole.ReadStop.TheVariants.{Failed, TooLong, OutOfMemory}

-- these bytes came, no more than there may be, and then the end
pub record ReadsToEnd (old new : Option (List ℕ)) (most : ℕ) (bytes : List ℕ) : Type 0 where
  pub took : Consumes old new bytes
  pub ended : IsAtEnd new
  pub short : length bytes ≤ most

-- these bytes came, one more than there may be
pub record ReadsPast (old new : Option (List ℕ)) (most : ℕ) (bytes : List ℕ) : Type 0 where
  pub took : Consumes old new bytes
  pub long : length bytes ≡ most + 1

-- some bytes came, so many at most
abbrev pub ConsumesUpTo : Option (List ℕ) → Option (List ℕ) → ℕ → Type 0
ConsumesUpTo old new most = (bytes : List ℕ) × Consumes old new bytes × (length bytes ≤ most)

-- what was read of a source, by the answer: a fault is told only where no more came than there may be
abbrev pub ReadsWhole :
    Option (List ℕ) → Option (List ℕ) → ℕ → ℕ → ℕ → Result (Vec ℕ) ReadStop → Type 0
ReadsWhole old new before now most (Ok all) = ReadsToEnd old new most all.items
ReadsWhole old new before now most (Err Failed) = Rose before now × ConsumesUpTo old new most
ReadsWhole old new before now most (Err TooLong) = (bytes : List ℕ) × ReadsPast old new most bytes
ReadsWhole old new before now most (Err OutOfMemory) = ⊤
