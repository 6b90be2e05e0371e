-- What a split does to the words, where its pass is alone.
use Rattle.std.proofs.Common.{◌≡◌, ℕ, ◌^◌, ◌<◌, get_or, set, List, [], ◌∷◌, ◌++◌, sym, ap, ◌∙◌, subst, arith, Some}
use Rattle.std.specs.Prelude.{bit_or}
use Rattle.std.specs.Int.{bit_at}
use Rattle.oak_model.specs.Limits.{Sizes}
use Rattle.oak_core.specs.declared.states.Finding.{Finding}
use Rattle.oak_core.specs.declared.states.PassState.{PassState}
use Rattle.oak_core.specs.AloneWords.{LeavesWords}
use Rattle.oak_core.specs.Finding.{finding, leaving}
use Rattle.oak_core.specs.Memory.{at_given}
use Rattle.oak_core.specs.PassState.{left_state, right_state}
use Rattle.oak_core.specs.Splitting.{FindsLeast, GivesWords, LeavesSame}
use Rattle.oak_core.specs.Step.{give_number, Told}
use Rattle.oak_core.proofs.seats.AloneRuns.{loads_run, words_stand}
use Rattle.oak_core.proofs.seats.Splits.{Tried, now_in_hand}
use Rattle.oak_core.proofs.memory.Words.{first_word}

-- the pass left the same words, in which the number is not given
pub record StaysUngiven (k : ℕ) (v w : PassState) (words : List ℕ) : Type 0 where
  pub leaves : LeavesWords words w
  pub clear : k < 64 → bit_at (get_or words 0 0) k ≡ 0

-- where it was alone at its last step
abbrev pub Ungiven : ℕ → PassState → PassState → Type 0
Ungiven k v w = (words : List ℕ) → LeavesWords words v → StaysUngiven k v w words

-- it loaded word 0
pub least_stays : (z : Sizes) (call k : ℕ) (v w : PassState) → FindsLeast z call v k w → Ungiven k v w
least_stays z call k v w f words l = let r = (loads_run z call 0 v f.number w f.loads).goes words l in record {
  leaves = subst (λ (ws : List ℕ). LeavesWords ws w) r.does.1 r.leaves;
  clear = λ few. subst (λ (n : ℕ). bit_at n k ≡ 0) r.does.0 (f.free few);
}

module _ (z : Sizes) (call k : ℕ) (v w x : PassState) (n : ℕ) (s : Ungiven k v w) (told : Told z call (give_number k) w n x) where
  -- then the words stand at the next step, which finds the number not given
  stood : (words : List ℕ) → LeavesWords words v → told.table.words ≡ words
  stood words l = words_stand z call (give_number k) w n x words (s words l).leaves told

  found_is : (words : List ℕ) → LeavesWords words v → n ≡ get_or words 0 0
  found_is words l = let a = stood words l in let b = first_word z in sym told.finds ∙ (λ i. get_or (a i) (b i) 0)

  pub not_given : k < 64 → bit_at n k ≡ 1 → (y : PassState) (j : ℕ) → Ungiven j v y
  not_given few one y j words l = let a = ap (λ (m : ℕ). bit_at m k) (found_is words l) in let b = (s words l).clear few in absurd (omega arith)

  abbrev met_now : Finding
  met_now = leaving (finding z call at_given (Some n) (bit_or n (2 ^ k)) told.table.words w)

  met_is : x.findings.met ≡ w.findings.met ++ met_now ∷ []
  met_is = ap (λ (y : PassState). y.findings.met) told.after ∙ ap (λ (i : ℕ). w.findings.met ++ leaving (finding z call at_given (Some i) (bit_or i (2 ^ k)) told.table.words w) ∷ []) told.finds

  pub gives_words : (y : PassState) → y ≡ left_state x → GivesWords k v y
  gives_words y e words l = let a = stood words l in let b = first_word z in let c = found_is words l in record {
    met = w.findings.met;
    finding = met_now;
    last = ap (λ (t : PassState). t.findings.met) e ∙ met_is;
    are = λ i. set (a i) (b i) (bit_or (c i) (2 ^ k));
  }

pub leaves_same : (k : ℕ) (v w : PassState) → Ungiven k v w → LeavesSame v w
leaves_same k v w s words l = (s words l).leaves

-- the number that was given is that of the new pass
pub number_is : (z : Sizes) (call k : ℕ) (v w x r : PassState) (n : ℕ) → Tried call k v w → Told z call (give_number k) w n x → bit_at n k ≡ 0 → r ≡ right_state x → r.numbers.number ≡ k
number_is z call k v w x r n t told e is = ap (λ (y : PassState). y.numbers.number) (is ∙ ap right_state (now_in_hand z call k v w x n t told e))
