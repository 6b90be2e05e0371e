-- A number that was found at a word in a part of what a pass met.
use Rattle.std.specs.Prelude.{◌≡◌, ℕ, ◌<◌, ◌≤◌, List, Some}
use mathlib.Core.Option.{some}
use lib.ListN.{get_elem?}
use Rattle.oak_core.specs.declared.states.Finding.{Finding}

-- one of the findings from the place `behind` on and before `ended` is of the word, and its number found has P with what the pass had there
pub record FoundBehind (behind ended : ℕ) (met : List Finding) (word : ℕ) (P : ℕ → ℕ → Type 0) : Type 0 where
  pub place : ℕ
  pub from : behind ≤ place
  pub to : place < ended
  pub finding : Finding
  pub there : get_elem? met place ≡ some finding
  pub word_is : finding.word ≡ word
  pub number : ℕ
  pub found_is : finding.found ≡ Some number
  pub shows : P number finding.had
