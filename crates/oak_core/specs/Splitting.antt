-- What a load, a split, a join and a close tell.
use Rattle.std.specs.Prelude.{◌≡◌, ◌≢◌, ℕ, ◌^◌, ◌<◌, ◌≤◌, List, [], ◌∷◌, ◌++◌, map, length, slice_index, slice_set, Some, bit_or}
use Rattle.std.specs.Int.{bit_at}
use mathlib.Core.Option.{some}
use lib.ListN.{get_elem?}
use Rattle.oak_model.specs.Counts.{Each}
use Rattle.oak_model.specs.Limits.{Sizes}
use Rattle.oak_core.specs.declared.states.Finding.{Finding}
use Rattle.oak_core.specs.declared.states.PassState.{PassState}
use Rattle.oak_core.specs.AloneWords.{LeavesWords}
use Rattle.oak_core.specs.Memory.{Spot, index, IsInside}
use Rattle.oak_core.specs.Finding.{finding, grown, Shows}
use Rattle.oak_core.specs.PassState.{has_number, knowledge_of, seen_of, history, bare_state, spent_state}
use Rattle.oak_core.specs.TableState.{TableState}
use Rattle.oak_core.specs.Rule.{Rule}
use Rattle.oak_core.specs.Step.{load, Told}
use Rattle.oak_core.specs.Loading.{IsPlain}

-- the word was loaded, in one step, and what was found is met; a word that teaches nothing changes nothing else
pub record Loads (z : Sizes) (call word : ℕ) (v : PassState) (n : ℕ) (w : PassState) : Type 0 where
  pub spot : Spot
  pub inside : IsInside z spot
  pub at : index z spot ≡ word
  pub told : Told z call (load spot) v n w
  pub met : IsPlain spot → w ≡ grown (finding z call spot (Some n) n told.table.words v ∷ []) v

-- the finding is of the call, at word 0
abbrev pub IsAtGiven : ℕ → Finding → Type 0
IsAtGiven call f = (f.call ≡ call) × (f.word ≡ 0)

-- the pass only met more, all of it in the call and at word 0
pub record LooksAtGiven (call : ℕ) (v w : PassState) : Type 0 where
  pub more : List Finding
  pub at : Each (IsAtGiven call) more
  pub after : w ≡ grown more v

-- word 0 was loaded, and k is the least number that is not given there, or 64 where all of 64 are
pub record FindsLeast (z : Sizes) (call : ℕ) (v : PassState) (k : ℕ) (w : PassState) : Type 0 where
  pub number : ℕ
  pub loads : Loads z call 0 v number w
  pub lower : (j : ℕ) → j < k → bit_at number j ≡ 1
  pub free : k < 64 → bit_at number k ≡ 0

-- the new pass x has the number, which was the least that no pass had at its step, so none of v's, and above all that v split off before, and has seen what v has seen; all that was met was met in the call and at word 0
pub record SplitsOff (z : Sizes) (call : ℕ) (v w x : PassState) : Type 0 where
  pub number : ℕ
  pub few : number < z.passes
  pub more : List Finding
  pub at : Each (IsAtGiven call) more
  pub old : w ≡ record (grown more v) { numbers = record v.numbers { made = v.numbers.made ++ number ∷ [] } }
  pub new : x ≡ record bare_state { numbers = record bare_state.numbers { number = number }; knowledge = record { seen = v.knowledge.seen; heard = v.knowledge.heard; loaded = []; mine = [] } }
  pub unowned : has_number number v.numbers ≡ 0
  pub above : Each (λ (m : ℕ). m < number) v.numbers.made
  pub least : Shows more 0 (λ n. (bit_at n number ≡ 0) × ((j : ℕ) → j < number → bit_at n j ≡ 1))

-- these words with the bit of the number set in word 0
abbrev pub with_given : ℕ → List ℕ → List ℕ
with_given k words = slice_set words 0 (bit_or (slice_index words 0) (2 ^ k))

-- the pass's last step left these words, whether or not it was alone behind that
pub record LastWords (words : List ℕ) (v : PassState) : Type 0 where
  pub met : List Finding
  pub finding : Finding
  pub last : v.findings.met ≡ met ++ finding ∷ []
  pub are : finding.words ≡ words

-- Where the pass was alone at its last step before, the words that it left stood until its own last step, which set the bit of the number in word 0 and changed no other word.
abbrev pub GivesWords : ℕ → PassState → PassState → Type 0
GivesWords k v w = (words : List ℕ) → LeavesWords words v → LastWords (with_given k words) w

-- where it was so, it left the same words
abbrev pub LeavesSame : PassState → PassState → Type 0
LeavesSame v w = (words : List ℕ) → LeavesWords words v → LeavesWords words w

-- all numbers were found given at one step, and all that was met was met in the call and at word 0
pub record FindsAllGiven (z : Sizes) (call : ℕ) (v w : PassState) : Type 0 where
  pub more : List Finding
  pub at : Each (IsAtGiven call) more
  pub after : w ≡ grown more v
  pub given : Shows more 0 (λ n. (k : ℕ) → k < z.passes → bit_at n k ≡ 1)

-- of each key the longer of what the two have seen
pub record SeesLonger (v w both : PassState) (k : ℕ) : Type 0 where
  pub other : length (seen_of k v.knowledge) ≤ length (seen_of k w.knowledge) → seen_of k both.knowledge ≡ seen_of k w.knowledge
  pub own : length (seen_of k w.knowledge) < length (seen_of k v.knowledge) → seen_of k both.knowledge ≡ seen_of k v.knowledge

-- at the last moment the rule holds, every other pass is spent, and the histories are what this one has seen
pub record Ends (z : Sizes) (words : List ℕ) (v : PassState) : Type 0 where
  pub table : TableState
  pub rule : Rule z table
  pub words_are : table.words ≡ words
  pub seat : ℕ
  pub here : get_elem? table.states seat ≡ some v
  pub others : (j : ℕ) (u : PassState) → j ≢ seat → get_elem? table.states j ≡ some u → u ≡ spent_state
  pub histories : (k : ℕ) → history k (map knowledge_of table.states) ≡ seen_of k v.knowledge
