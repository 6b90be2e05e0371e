-- The faults at each place of a text.
use Rattle.std.proofs.Common.{◌≡◌, ℕ, ◌+◌, ◌<◌, List, [], ◌∷◌, ◌++◌, length, map, Some, None, refl, sym, ap, ◌∙◌, arith, inl, inr, append_assoc}
use Rattle.std.specs.Prelude.{slice_get}
use Rattle.std.proofs.Math.Seq.{take-append_seam, take-length, get_or-append_seam}
use Rattle.std.proofs.lemmas.Bool.{cases_lt}
use Rattle.std.proofs.lemmas.List.{length-append, append-nil, length_push}
use Rattle.std.proofs.lemmas.Option.{slice_get_read, slice_get_past}
use Rattle.oak_script.specs.declared.faults.What.{What}
use Rattle.oak_script.specs.declared.stops.Stop.TheVariants.{Fault}
use Rattle.oak_script.specs.Lines.{Words, words_of}
use Rattle.oak_script.specs.Faults.{faults, faults_at, past_of, IsFirstAt, HasNoFault}
use Rattle.oak_script.specs.Stops.{Stops}
use Rattle.oak_script.specs.Reading.{Took, StopsAt}

pub faults_here : (before : List Words) (line : Words) (more : List Words) → faults_at (before ++ line ∷ more) (length before) ≡ faults (past_of before) (Some line)
faults_here before line more =
    let here : slice_get (before ++ line ∷ more) (length before) ≡ Some line = slice_get_read (before ++ line ∷ more) (length (before ++ line ∷ more)) (length before) line refl (omega (arith, length-append before (line ∷ more))) (sym (get_or-append_seam before line more line)) in
    rw (take-append_seam before (line ∷ more), here) refl

pub faults_behind : (lines : List Words) → faults_at lines (length lines) ≡ faults (past_of lines) None
faults_behind lines = rw (take-length lines, slice_get_past lines (length lines) (omega arith)) refl

-- one line more without a fault
pub fine_more : (all before : List Words) (line : Words) (more : List Words) → before ++ line ∷ more ≡ all → ((k : ℕ) → k < length before → faults_at all k ≡ []) → faults (past_of before) (Some line) ≡ []
    → (k : ℕ) → k < length (before ++ line ∷ []) → faults_at all k ≡ []
fine_more all before line more split fine none k h =
    let here : faults_at all (length before) ≡ faults (past_of before) (Some line) = rw split at (faults_here before line more) in
    elim (cases_lt k (length before)) [
      | inl lt ↦ fine k lt
      | inr ge ↦ let is : k ≡ length before = omega (arith, length_push before line) in rw is (here ∙ none)
    ]

-- the lines before and the lines left are all of them, and none of those before has a fault
pub record Goes (all before : List Words) (left : List (List ℕ)) (number : ℕ) : Type 0 where
  pub whole : before ++ map words_of left ≡ all
  pub fine : (k : ℕ) → k < length before → faults_at all k ≡ []
  pub count : number ≡ length before

pub begins : (left : List (List ℕ)) → Goes (map words_of left) [] left 0
begins left = record { whole = refl; fine = λ k h. absurd (omega arith); count = refl }

pub goes_on : (all before after : List Words) (left rest : List (List ℕ)) (n : ℕ) → Goes all before left n → Took before left after rest → Goes all after rest (n + 1)
goes_on all before after left rest n g t =
    let split : before ++ words_of t.line ∷ map words_of rest ≡ all = rw t.first at g.whole in
    record {
      whole = rw (t.grown, append_assoc) split;
      fine = rw t.grown (fine_more all before (words_of t.line) (map words_of rest) split g.fine t.fine);
      count = rw (t.grown, length_push before (words_of t.line)) (omega (arith, g.count));
    }

-- a stop at the next line tells the first fault
pub stops_at : (all before : List Words) (left : List (List ℕ)) (n : ℕ) (w : What) → Goes all before left n → StopsAt (Fault w) before left → IsFirstAt all (n + 1) w
stops_at all before [] n w g s = absurd s
stops_at all before (line ∷ more) n w g s =
    let here : faults_at all (length before) ≡ faults (past_of before) (Some (words_of line)) = rw g.whole at (faults_here before (words_of line) (map words_of more)) in
    by (faults (past_of before) (Some (words_of line))) here s
  where
    by : (fs : List What) → faults_at all (length before) ≡ fs → Stops (Fault w) fs → IsFirstAt all (n + 1) w
    by [] e h = absurd h
    by (x ∷ fs) e h = record {
      at = length before;
      within = omega (arith, ap length g.whole, length-append before (map words_of (line ∷ more)));
      number_is = omega (arith, g.count);
      before = g.fine;
      others = fs;
      first = rw h e;
    }

pub ends_whole : (all before : List Words) (n : ℕ) → Goes all before [] n → before ≡ all
ends_whole all before n g = sym (append-nil before) ∙ g.whole

-- a text without a fault, up to its end
pub fine_to_end : (all : List Words) → ((k : ℕ) → k < length all → faults_at all k ≡ []) → faults (past_of all) None ≡ [] → HasNoFault all
fine_to_end all fine none k h =
    elim (cases_lt k (length all)) [
      | inl lt ↦ fine k lt
      | inr ge ↦ let is : k ≡ length all = omega arith in rw is (faults_behind all ∙ none)
    ]

-- a fault at the end
pub faulty_end : (all : List Words) (w : What) (others : List What) → ((k : ℕ) → k < length all → faults_at all k ≡ []) → faults (past_of all) None ≡ w ∷ others → IsFirstAt all (length all + 1) w
faulty_end all w others fine e = record { at = length all; within = omega arith; number_is = refl; before = fine; others = others; first = faults_behind all ∙ e }
