-- One step of a reader.
use Rattle.std.proofs.Common.{◌≡◌, ℕ, List, [], ◌∷◌, ◌++◌, take, Some, sym, ap, ◌∙◌}
use Rattle.oak_script.specs.declared.scripts.Call.{Call}
use Rattle.oak_script.specs.declared.stops.Stop.{Stop}
use Rattle.oak_script.specs.declared.stops.Stop.TheVariants.{Fault, OutOfMemory}
use Rattle.oak_script.specs.declared.stages.Stage.{Stage}
use Rattle.oak_script.specs.Lines.{Words, words_of}
use Rattle.oak_script.specs.Faults.{Past, faults, past_of}
use Rattle.oak_script.specs.Stops.{Stops}
use Rattle.oak_script.specs.Reading.{so_far, past_at, Took, StopsAt}
use Rattle.oak_script.proofs.CutLemmas.{faults_cut, cut_same}
use Rattle.oak_script.proofs.PastLemmas.{past_so_far}

pub cut_faults : (stage : Stage) (threads : List (List Call)) (line : List ℕ) (words : Words) → words ≡ take 9 (words_of line) → faults (past_at stage threads) (Some words) ≡ faults (past_of (so_far stage threads)) (Some (words_of line))
cut_faults stage threads line words e =
    ap (λ (l : Words). faults (past_at stage threads) (Some l)) e
    ∙ faults_cut (past_at stage threads) (words_of line)
    ∙ ap (λ (p : Past). faults p (Some (words_of line))) (sym (past_so_far stage threads))

pub step_stops : (stage : Stage) (threads : List (List Call)) (left rest : List (List ℕ)) (line : List ℕ) (words : Words) (e : Stop)
    → left ≡ line ∷ rest → words ≡ take 9 (words_of line) → Stops e (faults (past_at stage threads) (Some words)) → StopsAt e (so_far stage threads) left
step_stops stage threads left rest line words OutOfMemory first cut h = tt
step_stops stage threads left rest line words (Fault w) first cut h = rw first (rw (cut_faults stage threads line words cut) at h)

pub step_took : (stage : Stage) (threads : List (List Call)) (left rest : List (List ℕ)) (line : List ℕ) (words : Words) (after : List Words)
    → left ≡ line ∷ rest → words ≡ take 9 (words_of line) → faults (past_at stage threads) (Some words) ≡ [] → after ≡ so_far stage threads ++ words ∷ [] → Took (so_far stage threads) left after rest
step_took stage threads left rest line words after first cut none grown =
    let fine : faults (past_of (so_far stage threads)) (Some (words_of line)) ≡ [] = sym (cut_faults stage threads line words cut) ∙ none in
    let same : words ≡ words_of line = cut ∙ cut_same (past_of (so_far stage threads)) (words_of line) fine in
    record { line = line; first = first; fine = fine; grown = rw same at grown }
