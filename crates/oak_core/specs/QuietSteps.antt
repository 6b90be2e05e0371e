-- What the steps of a part of a call were, told by their findings.
use Rattle.std.specs.Prelude.{◌≡◌, ◌≢◌, ℕ, ◌+◌, ◌-◌, ◌%◌, ◌^◌, ◌⊎◌, List, ◌++◌, Some, None}
use Rattle.oak_model.specs.Counts.{Each}
use Rattle.oak_core.specs.declared.states.Finding.{Finding}
use Rattle.oak_core.specs.declared.states.PassState.{PassState}

-- the pass met more, and each of these findings has P
pub record MetOnly (P : Finding → Type 0) (v w : PassState) : Type 0 where
  pub more : List Finding
  pub met : w.findings.met ≡ v.findings.met ++ more
  pub each : Each P more

-- the step took no block
abbrev pub TookNone : Finding → Type 0
TookNone f = f.took ≡ None

-- the step made a number one more, or one less
abbrev pub CountsByOne : ℕ → ℕ → Type 0
CountsByOne n m = (m ≡ (n + 1) % 2 ^ 64) ⊎ (m ≡ (n + (2 ^ 64 - 1)) % 2 ^ 64)

-- The step was a load, a pin, or the end of a pin: it took no block, and left its word as it found it, or with a count that is one more or one less.
abbrev pub IsQuiet : Finding → Type 0
IsQuiet f = (f.took ≡ None) × ((f.found ≡ Some f.left) ⊎ ((n : ℕ) × (f.found ≡ Some n) × CountsByOne n f.left))

-- the pass only loaded words, and pinned or undid pins
abbrev pub Quiet : PassState → PassState → Type 0
Quiet v w = MetOnly IsQuiet v w

-- the step was no plain store to the word
abbrev pub StoredNone : ℕ → Finding → Type 0
StoredNone word f = f.word ≡ word → f.found ≢ None
