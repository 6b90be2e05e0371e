-- Numbers that a state keeps for words that no other may change. P names the words.
use Rattle.std.specs.Prelude.{◌≡◌, ℕ, ◌≤◌, cond, Bool, List, map}
use Rattle.oak_model.specs.Counts.{one_if, total, Each, Every}

pub record KeptWord (P : Type 0) : Type 0 where
  pub spot : P
  pub number : ℕ

-- how often the word is kept
abbrev pub keeps : {P : Type 0} → (P → P → Bool) → P → List (KeptWord P) → ℕ
keeps same p ws = total (λ w. one_if (same w.spot p)) ws

abbrev pub AreTrueTo : {P : Type 0} → (P → ℕ) → List (KeptWord P) → Type 0
AreTrueTo read ws = Each (λ w. read w.spot ≡ w.number) ws

-- each number that a state keeps for a word is that word's, and no word is kept twice
pub record KeptNumbersStand {P : Type 0} (same : P → P → Bool) (read : P → ℕ) (kept : List (List (KeptWord P))) : Type 0 where
  pub true_to : Every (AreTrueTo read) kept
  pub once : (p : P) → total (keeps same p) kept ≤ 1

-- the same words under other names
abbrev pub renamed : {P Q : Type 0} → (P → Q) → List (KeptWord P) → List (KeptWord Q)
renamed f ws = map (λ w. record { spot = f w.spot; number = w.number }) ws

-- the words with x at one of them
abbrev pub restored : {P : Type 0} → (P → P → Bool) → P → ℕ → List (KeptWord P) → List (KeptWord P)
restored same p x ws = map (λ w. record { spot = w.spot; number = cond (same w.spot p) x w.number }) ws
