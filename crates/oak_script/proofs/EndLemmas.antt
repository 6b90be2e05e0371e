-- What is told at the end of a text, and of a stop before it.
use Rattle.std.proofs.Common.{◌≡◌, ℕ, ◌+◌, List, [], ◌∷◌, length, Option, Some, None, Err, refl, ap, ◌∙◌, inl, inr, arith}
use Rattle.oak_model.specs.Limits.{Sizes}
use Rattle.oak_script.specs.declared.faults.What.TheVariants as what
use Rattle.oak_script.specs.declared.scripts.Call.{Call}
use Rattle.oak_script.specs.declared.scripts.Script.{Script}
use Rattle.oak_script.specs.declared.stops.Stop.{Stop}
use Rattle.oak_script.specs.declared.stops.Stop.TheVariants as stops
use Rattle.oak_script.specs.declared.faults.NoScript.{NoScript}
use Rattle.oak_script.specs.declared.faults.NoScript.TheVariants.{Fault, OutOfMemory}
use Rattle.oak_script.specs.declared.stages.Stage.{Stage}
use Rattle.oak_script.specs.declared.stages.Stage.TheVariants.{Start, Headed, Shaped, Opened, Ended}
use Rattle.oak_script.specs.Lines.{Words}
use Rattle.oak_script.specs.Faults.{Past, faults, IsFirstAt, HasNoFault}
use Rattle.oak_script.specs.Grammar.{AreLinesOf}
use Rattle.oak_script.specs.Reading.{so_far, past_at, sizes_for, AreFine, StopsAt}
use Rattle.oak_script.specs.Answers.{Tells, IsTold}
use Rattle.oak_script.proofs.PastLemmas.{past_so_far}
use Rattle.oak_script.proofs.PlaceLemmas.{Goes, stops_at, fine_to_end, faulty_end}

pub told_exact : (r : NoScript) (stop : Stop) (all before : List Words) (left : List (List ℕ)) (n : ℕ) → IsTold r stop (n + 1) → Goes all before left n → StopsAt stop before left → Tells (Err r) all
told_exact (Fault f) (stops.Fault w) all before left n t g s = rw (t.0, t.1) (stops_at all before left n w g s)
told_exact OutOfMemory (stops.Fault w) all before left n t g s = absurd t
told_exact (Fault f) stops.OutOfMemory all before left n t g s = absurd t
told_exact OutOfMemory stops.OutOfMemory all before left n t g s = tt

pub no_line : IsFirstAt [] 1 what.Head
no_line = record { at = 0; within = omega arith; number_is = refl; before = λ k h. absurd (omega arith); others = what.NoEnd ∷ []; first = refl }

pub ended_fine : (shape : Option Sizes) (threads : List (List Call)) → AreFine (so_far (Ended shape) threads) → HasNoFault (so_far (Ended shape) threads)
ended_fine shape threads fine = fine_to_end (so_far (Ended shape) threads) fine (ap (λ (p : Past). faults p None) (past_so_far (Ended shape) threads))

-- a text that ends before `end`
pub unfinished : (stage : Stage) (threads : List (List Call)) (r : NoScript) (n : ℕ) → (stage ≡ Start → ⊥) → ((shape : Option Sizes) → stage ≡ Ended shape → ⊥) → n ≡ length (so_far stage threads) → AreFine (so_far stage threads) → IsTold r (stops.Fault what.NoEnd) (n + 1) → Tells (Err r) (so_far stage threads)
unfinished stage threads OutOfMemory n a b e fine t = absurd t
unfinished stage threads (Fault f) n a b e fine t = rw (t.0, t.1, e) (faulty_end (so_far stage threads) what.NoEnd [] fine (ap (λ (p : Past). faults p None) (past_so_far stage threads) ∙ lacks stage threads a b))
  where
    lacks : (stage : Stage) (threads : List (List Call)) → (stage ≡ Start → ⊥) → ((shape : Option Sizes) → stage ≡ Ended shape → ⊥) → faults (past_at stage threads) None ≡ what.NoEnd ∷ []
    lacks Start threads a b = absurd (a refl)
    lacks Headed threads a b = refl
    lacks (Shaped s) threads a b = refl
    lacks (Opened shape) threads a b = refl
    lacks (Ended shape) threads a b = absurd (b shape refl)

-- the lines that were taken up to `end` are those of the script that is made of them
pub ended_lines : (shape : Option Sizes) (threads : List (List Call)) (s : Script) → s.threads ≡ threads → s.shape ≡ sizes_for shape (length threads) → AreLinesOf (so_far (Ended shape) threads) s
ended_lines None threads s are sizes = inr (rw are refl, rw are sizes)
ended_lines (Some z) threads s are sizes = inl (rw (are, sizes) refl)
