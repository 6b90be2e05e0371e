-- What a call found at words of the table, by the findings that its pass met in it: v is its state at the call, w the one at its end.
use Rattle.std.specs.Prelude.{◌≡◌, ◌≢◌, ℕ, ◌<◌, ◌++◌, List, Some}
use mathlib.Core.Option.{some}
use lib.ListN.{get_elem?}
use Rattle.oak_model.specs.Limits.{Sizes}
use Rattle.oak_core.specs.declared.states.Finding.{Finding}
use Rattle.oak_core.specs.declared.states.PassState.{PassState}
use Rattle.oak_core.specs.Finding.{FoundThere}
use Rattle.oak_core.specs.Memory.{Spot, index}
use Rattle.oak_core.specs.PassState.{bare_state}

-- The word was found with a number that has P, where the pass had nothing: what a call did itself is no cause, and it began with nothing held.
pub record FoundWord (z : Sizes) (call : ℕ) (p : Spot) (P : ℕ → Type 0) (v w : PassState) : Type 0 where
  pub more : List Finding
  pub met : w.findings.met ≡ v.findings.met ++ more
  pub found : FoundThere z call p bare_state more P

-- It was so where the pass had there what it has in the state x.
pub record FoundWith (z : Sizes) (call : ℕ) (p : Spot) (x : PassState) (P : ℕ → Type 0) (v w : PassState) : Type 0 where
  pub more : List Finding
  pub met : w.findings.met ≡ v.findings.met ++ more
  pub found : FoundThere z call p x more P

-- The word was found with a number that has P with what the pass had there.
pub record FoundHad (z : Sizes) (call : ℕ) (p : Spot) (P : ℕ → ℕ → Type 0) (v w : PassState) : Type 0 where
  pub more : List Finding
  pub met : w.findings.met ≡ v.findings.met ++ more
  pub place : ℕ
  pub finding : Finding
  pub there : get_elem? more place ≡ some finding
  pub call_is : finding.call ≡ call
  pub word_is : finding.word ≡ index z p
  pub number : ℕ
  pub found_is : finding.found ≡ Some number
  pub shows : P number finding.had

-- The word was found twice: first with a number that has P, and later with one that has Q.
pub record FoundChanged (z : Sizes) (call : ℕ) (p : Spot) (P Q : ℕ → Type 0) (v w : PassState) : Type 0 where
  pub more : List Finding
  pub met : w.findings.met ≡ v.findings.met ++ more
  pub first : FoundThere z call p bare_state more P
  pub second : FoundThere z call p bare_state more Q
  pub order : first.place < second.place

-- The word was found with two numbers that f tells apart.
pub record FoundApart (z : Sizes) (call : ℕ) (p : Spot) (f : ℕ → ℕ) (v w : PassState) : Type 0 where
  pub more : List Finding
  pub met : w.findings.met ≡ v.findings.met ++ more
  pub one : FoundThere z call p bare_state more (λ _. Unit {0})
  pub other : FoundThere z call p bare_state more (λ _. Unit {0})
  pub apart : f one.number ≢ f other.number
