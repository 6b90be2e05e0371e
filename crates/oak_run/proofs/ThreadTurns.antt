-- From the turns of each thread to those of all threads of a run.
use Rattle.std.proofs.Common.{◌≡◌, ℕ, suc, true, false, List, [], ◌∷◌, ◌++◌, length, map, refl, sym, ap, ◌∙◌, subst, inl, inr}
use Rattle.std.specs.Prelude.{⊤}
use Rattle.std.specs.List.Sorted.{IsPermutation}
use Rattle.std.proofs.lemmas.Bool.{cases_Bool}
use Rattle.std.proofs.lemmas.List.Sorted.{IsPermutation-map, IsPermutation-refl}
use Rattle.oak_model.specs.declared.writes.Write.{Write}
use Rattle.oak_model.specs.Key.{is_key}
use Rattle.oak_model.specs.KeyNumber.{key_number}
use Rattle.oak_model.specs.Limits.{Sizes}
use Rattle.oak_core.specs.declared.states.Findings.{Findings}
use Rattle.oak_core.specs.declared.states.KeyedWrite.{KeyedWrite}
use Rattle.oak_core.specs.Callers.{of_caller}
use Rattle.oak_core.specs.KeyHistories.{writes_of}
use Rattle.oak_core.specs.PassState.{of_key}
use Rattle.oak_script.specs.Text.{RepliesAnswer}
use Rattle.oak_run.specs.Answers.{AnswersFit, Mark, all_marks, mark_of, marks}
use Rattle.oak_run.specs.Behind.{GoesBehind, histories}
use Rattle.oak_run.specs.MapThreads.{ThreadFits}
use Rattle.oak_run.specs.RunFits.{EachThread, calls_of, replies_of}
use Rattle.oak_run.specs.Shown.{FindsMore}
use Rattle.oak_run.specs.ThreadsRun.{ThreadEnd}
use Rattle.oak_run.specs.Turn.{Turn}
use Rattle.oak_run.proofs.CallerParts.{parts}
use Rattle.oak_run.proofs.ClosedRuns.{at_key, at_other}
use Rattle.oak_run.proofs.ForeignMarks.{no_marks}
use Rattle.oak_run.proofs.MapThreadLaws.{marked-append, writes-append}

-- The thread has the number n, over a map of these sizes. The histories go on from what its pass saw, the findings by its number from what it found, and the writes with its number are its own.
pub record IsThread (z : Sizes) (hs : ℕ → List KeyedWrite) (by : ℕ → Findings) (n : ℕ) (t : ThreadEnd) : Type 0 where
  pub fits : ThreadFits z t.state t.calls t.replies
  pub number : t.state.numbers.number ≡ n
  pub behind : GoesBehind t.state hs
  pub found : FindsMore t.state.findings (by t.state.numbers.number)
  pub mine : (k : ℕ) → of_key k t.state.knowledge.mine ≡ of_caller n (hs k)

module _ (z : Sizes) (hs : ℕ → List KeyedWrite) (by : ℕ → Findings) where
  -- from the number n on
  abbrev pub AreThreads : ℕ → List ThreadEnd → Type 0
  AreThreads n [] = ⊤
  AreThreads n (t ∷ ts) = IsThread z hs by n t × AreThreads (suc n) ts

  abbrev pub turns_of : (n : ℕ) (ts : List ThreadEnd) → AreThreads n ts → List (List Turn)
  turns_of n [] are = []
  turns_of n (t ∷ ts) are = are.0.fits.turns ∷ turns_of (suc n) ts are.1

  pub each_thread : (P : ℕ → List Turn → Type 0) → ((n : ℕ) (t : ThreadEnd) (x : IsThread z hs by n t) → P n x.fits.turns) → (n : ℕ) (ts : List ThreadEnd) (are : AreThreads n ts) → EachThread P n (turns_of n ts are)
  each_thread P f n [] are = tt
  each_thread P f n (t ∷ ts) are = (f n t are.0, each_thread P f (suc n) ts are.1)

  pub calls_are : (n : ℕ) (ts : List ThreadEnd) (are : AreThreads n ts) → calls_of (turns_of n ts are) ≡ map (λ (t : ThreadEnd). t.calls) ts
  calls_are n [] are = refl
  calls_are n (t ∷ ts) are = λ i. are.0.fits.of_calls i ∷ calls_are (suc n) ts are.1 i

  pub replies_are : (n : ℕ) (ts : List ThreadEnd) (are : AreThreads n ts) → replies_of (turns_of n ts are) ≡ map (λ (t : ThreadEnd). t.replies) ts
  replies_are n [] are = refl
  replies_are n (t ∷ ts) are = λ i. are.0.fits.of_replies i ∷ replies_are (suc n) ts are.1 i

  pub all_answered : (n : ℕ) (ts : List ThreadEnd) → AreThreads n ts → RepliesAnswer (map (λ (t : ThreadEnd). t.calls) ts) (map (λ (t : ThreadEnd). t.replies) ts)
  all_answered n [] are = tt
  all_answered n (t ∷ ts) are = (are.0.fits.answered, all_answered (suc n) ts are.1)

  pub its_answers : (n : ℕ) (t : ThreadEnd) (x : IsThread z hs by n t) → AnswersFit (histories hs) n 1 x.fits.turns
  its_answers n t x = subst (λ (i : ℕ). AnswersFit (histories hs) i 1 x.fits.turns) x.number (x.fits.answers hs x.behind)

  -- ---- the writes that the turns tell

  abbrev marks_in : List KeyedWrite → List Mark
  marks_in l = map mark_of (writes_of l)

  marks-append : (g h : List KeyedWrite) → marks_in (g ++ h) ≡ marks_in g ++ marks_in h
  marks-append g h = ap (map mark_of) (writes-append g h) ∙ marked-append (writes_of g) (writes_of h)

  its_marks : (q : List ℕ) → is_key q ≡ true → (n : ℕ) (t : ThreadEnd) (x : IsThread z hs by n t) → marks q n 1 x.fits.turns ≡ marks_in (of_caller n (hs (key_number q)))
  its_marks q is n t x = subst (λ (i : ℕ). marks q i 1 x.fits.turns ≡ marks_in (of_key (key_number q) t.state.knowledge.mine)) x.number (x.fits.once q is)
      ∙ ap marks_in (x.mine (key_number q))

  marks_are : (q : List ℕ) → is_key q ≡ true → (n : ℕ) (ts : List ThreadEnd) (are : AreThreads n ts) → all_marks q n (turns_of n ts are) ≡ marks_in (parts n (length ts) (hs (key_number q)))
  marks_are q is n [] are = refl
  marks_are q is n (t ∷ ts) are =
      ap (λ (l : List Mark). l ++ all_marks q (suc n) (turns_of (suc n) ts are.1)) (its_marks q is n t are.0)
      ∙ (ap (λ (l : List Mark). marks_in (of_caller n (hs (key_number q))) ++ l) (marks_are q is (suc n) ts are.1)
      ∙ sym (marks-append (of_caller n (hs (key_number q))) (parts (suc n) (length ts) (hs (key_number q)))))

  none_marked : (q : List ℕ) → is_key q ≡ false → (n : ℕ) (ts : List ThreadEnd) (are : AreThreads n ts) → all_marks q n (turns_of n ts are) ≡ []
  none_marked q is n [] are = refl
  none_marked q is n (t ∷ ts) are =
      ap (λ (l : List Mark). l ++ all_marks q (suc n) (turns_of (suc n) ts are.1)) (no_marks (histories hs) q n 1 are.0.fits.turns (at_other hs q is) (its_answers n t are.0))
      ∙ none_marked q is (suc n) ts are.1

  -- where all writes are the threads', each is told once
  pub all_once : (n : ℕ) (ts : List ThreadEnd) (are : AreThreads n ts) → ((k : ℕ) → IsPermutation (parts n (length ts) (hs k)) (hs k)) → (q : List ℕ) → IsPermutation (all_marks q n (turns_of n ts are)) (map mark_of (histories hs q))
  all_once n ts are whole q = elim (cases_Bool (is_key q)) [
    | inl e ↦ subst (λ (l : List Mark × List Write). IsPermutation l.0 (map mark_of l.1)) (λ i. (sym (marks_are q e n ts are) i, sym (at_key hs q e) i))
        (IsPermutation-map mark_of (writes_of (parts n (length ts) (hs (key_number q)))) (writes_of (hs (key_number q)))
        (IsPermutation-map (λ (w : KeyedWrite). w.write) (parts n (length ts) (hs (key_number q))) (hs (key_number q)) (whole (key_number q))))
    | inr e ↦ subst (λ (l : List Mark × List Write). IsPermutation l.0 (map mark_of l.1)) (λ i. (sym (none_marked q e n ts are) i, sym (at_other hs q e) i)) (IsPermutation-refl [])
  ]
