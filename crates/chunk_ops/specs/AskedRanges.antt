-- Which room a call looks for, by its range.
use Rattle.std.specs.Prelude.{◌≡◌, ℕ, ◌-◌, ◌<◌, ◌⊎◌, ◌==◌, cond, List, Option, Some, None}
use Rattle.std.specs.Ordering.{nat_cmp}
use Rattle.std.specs.declared.cmp.Ordering.{Ordering}
use Rattle.std.specs.declared.cmp.Ordering.TheVariants.{Less}
use denote.Ref.{Bor}
use Rattle.oak_model.specs.Key.{IsKey}
use Rattle.oak_model.specs.KeyNumber.{key_number}
use Rattle.chunk_core.specs.Spans.{Span, within}
use Rattle.chunk_ops.specs.declared.ranges.Asked.{Asked}
use Rattle.chunk_ops.specs.declared.ranges.Asked.TheVariants.{Covering, Under, Last}

-- the range has the key
abbrev pub CoversKey : List ℕ → Span → Type 0
CoversKey key s = within s (key_number key) ≡ 1

-- the range has the keys next below the bound: its low bound is below it, and its high bound is none or not below it
pub record EndsUnder (bound : List ℕ) (s : Span) : Type 0 where
  pub low : s.low < key_number bound
  pub high : (s.high ≡ 0) ⊎ (key_number bound < s.high)

-- the range has no high bound
abbrev pub IsLast : Span → Type 0
IsLast s = s.high ≡ 0

-- the same where there may be no bound: then the range has the last keys
abbrev pub IsLastFor : Option (List ℕ) → Span → Type 0
IsLastFor None s = IsLast s
IsLastFor (Some b) s = EndsUnder b s

-- what the one loop asks for
abbrev pub IsAsked : Asked → List ℕ → Span → Type 0
IsAsked Covering key s = CoversKey key s
IsAsked Under key s = EndsUnder key s
IsAsked Last key s = IsLast s

-- a key or a bound is a key
abbrev pub IsAskable : Asked → List ℕ → Type 0
IsAskable Covering key = IsKey key
IsAskable Under key = IsKey key
IsAskable Last key = Unit {0}

-- the bytes that an optional slice has
abbrev pub bytes_in_option : Option (Bor (List ℕ)) → Option (List ℕ)
bytes_in_option None = None
bytes_in_option (Some b) = Some b.now

abbrev pub IsKeyOrNone : Option (List ℕ) → Type 0
IsKeyOrNone None = Unit {0}
IsKeyOrNone (Some b) = IsKey b

-- how a key's number compares with a high bound as a range has it, below which each key is where there is none
abbrev pub high_cmp : ℕ → ℕ → Ordering
high_cmp k h = cond (h == 0) Less (nat_cmp k (h - 1))
