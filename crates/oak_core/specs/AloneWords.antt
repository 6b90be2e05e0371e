-- What the table holds for a pass that is alone: between its steps nothing changes, so what its calls do is a sequence of changes to one list of words.
use Rattle.std.specs.Prelude.{◌≡◌, ℕ, true, ◌⊎◌, List, [], ◌∷◌, ◌++◌}
use mathlib.Core.Option.{some}
use lib.ListN.{get_elem?}
use Rattle.oak_model.specs.Limits.{Sizes}
use Rattle.oak_core.specs.declared.states.Finding.{Finding}
use Rattle.oak_core.specs.declared.states.PassState.{PassState}
use Rattle.oak_core.specs.PassState.{IsAlone}
use Rattle.oak_core.specs.Rule.{Rule}

-- the pass was alone at its last step, which left these words
pub record LeavesWords (words : List ℕ) (v : PassState) : Type 0 where
  pub met : List Finding
  pub finding : Finding
  pub last : v.findings.met ≡ met ++ finding ∷ []
  pub alone : finding.alone ≡ true
  pub are : finding.words ≡ words

-- the pass leaves words that come of those before, as P says
pub record RunsTo (P : List ℕ → List ℕ → Type 0) (before : List ℕ) (w : PassState) : Type 0 where
  pub after : List ℕ
  pub leaves : LeavesWords after w
  pub does : P before after

-- What the steps that brought a pass from the state v to w did to the words, if it was alone: P says it of the words before and those after. There may be none of them.
pub record Runs (P : List ℕ → List ℕ → Type 0) (v w : PassState) : Type 0 where
  -- where it was alone at its last step before
  pub goes : (before : List ℕ) → LeavesWords before v → RunsTo P before w
  -- where it is alone: it made no step, or it was so from its first step on
  pub starts : IsAlone v → ((v ≡ w) × ((words : List ℕ) → P words words)) ⊎ ((before : List ℕ) × RunsTo P before w)

-- a moment at which the rule held, the table had these words, and the pass was in this state
pub record Moment (z : Sizes) (words : List ℕ) (v : PassState) : Type 0 where
  pub states : List PassState
  pub rule : Rule z record { words = words; states = states }
  pub seat : ℕ
  pub here : get_elem? states seat ≡ some v
