-- What the run of a workload comes to.
use Rattle.std.proofs.Common.{◌≡◌, ℕ, zero, suc, ◌+◌, ◌*◌, ◌^◌, ◌<◌, Bool, true, cond, List, [], ◌∷◌, length, Some, refl, sym, ap, subst, ◌∙◌, arith}
use Rattle.std.specs.Prelude.{count_by}
use Rattle.std.specs.Int.{w64, from_be_bytes}
use Rattle.std.specs.List.{AllByRecursion, list_any}
use Rattle.std.proofs.lemmas.List.Sums.{sum_by-cons}
use Rattle.oak_model.specs.declared.classes.Class.TheVariants.{B16}
use Rattle.oak_model.specs.declared.replies.Pair.{Pair}
use Rattle.oak_model.specs.declared.replies.Reply.{Reply}
use Rattle.oak_model.specs.Class.{has_class}
use Rattle.oak_model.specs.Counts.{one_if}
use Rattle.oak_model.specs.Key.{same_key}
use Rattle.oak_model.specs.Limits.{Sizes}
use Rattle.oak_model.specs.Scan.{value_in}
use Rattle.oak_model.specs.State.{State}
use Rattle.oak_script.specs.declared.limits.TheConstants.{GREATEST_CALLS}
use Rattle.oak_script.specs.declared.scripts.Call.{Call}
use Rattle.oak_script.specs.Grammar.{all_calls}
use Rattle.oak_script.specs.Summary.{fulls_of, pair_number, values_sum}
use Rattle.oak_script.specs.Text.{RepliesAnswer}
use Rattle.oak_script.specs.Workload.{IsWorkload, drawn_threads}
use Rattle.oak_script.proofs.WorkloadLemmas.{length-all}
use Rattle.oak_run.specs.Answers.{Mark, all_marks}
use Rattle.oak_run.specs.Closing.{Closing}
use Rattle.oak_run.specs.RunFits.{RunFits, calls_of, replies_of}
use Rattle.oak_run.specs.WorkloadFits.{WorkloadFits, keys_of}
use Rattle.oak_run.proofs.PairKeys.{as-many, is_among, once-in, over, own-values, times_in}
use Rattle.oak_run.proofs.DrawnTurns.{AreDrawn, all-counted, all_marks-few, are-drawn, written_in}
use Rattle.oak_run.proofs.DrawnSums.{Written, all-drawn, all-over, long-named, named-all, unrefused, written-all}
use Rattle.oak_run.proofs.DrawnValues.{Counts, last-counted}

limit : GREATEST_CALLS < 2 ^ 64
limit = omega arith

each-so : (P Q : Pair → Type 0) (ps : List Pair) → ((p : Pair) → P p → Q p) → AllByRecursion P ps → AllByRecursion Q ps
each-so P Q [] so all = tt
each-so P Q (p ∷ ps) so all = (so p all.0, each-so P Q ps so all.1)

count-all : (f : Pair → Bool) (ps : List Pair) → AllByRecursion (λ (p : Pair). f p ≡ true) ps → count_by f ps ≡ length ps
count-all f [] all = refl
count-all f (p ∷ ps) all = let here = ap one_if all.0 in omega (arith, here, sum_by-cons (λ p. cond (f p) 1 0) p ps, count-all f ps all.1)

sum-over : (f : Pair → ℕ) (ps : List Pair) → AllByRecursion (λ (p : Pair). pair_number p ≡ f p) ps → values_sum ps ≡ over f ps
sum-over f [] all = refl
sum-over f (p ∷ ps) all = omega (arith, all.0, sum-over f ps all.1)

-- a value that counts so many writes
pub record IsCount (n : ℕ) (value : List ℕ) : Type 0 where
  pub long : length value ≡ 8
  pub number : from_be_bytes w64 value ≡ n
  pub some : 0 < n

is-count : (n : ℕ) (value : List ℕ) → Counts n (Some value) → IsCount n value
is-count zero value c = absurd cc
is-count (suc n) value c =
    let same : c.0 ≡ value = (let e = c.1 in cc) in
    record {
      long = subst (λ (b : List ℕ). length b ≡ 8) same c.2;
      number = subst (λ (b : List ℕ). from_be_bytes w64 b ≡ suc n) same c.3;
      some = omega arith;
    }

counted-some : (n : ℕ) (s : State) → 0 < n → Counts n s → (b : List ℕ) × (s ≡ Some b)
counted-some zero s some c = absurd (omega arith)
counted-some (suc n) s some c = (c.0, c.1)

module _ (c : Closing) (shape : Sizes) (calls threads start : ℕ) (said : List (List Reply)) (finals : List Pair) (w : IsWorkload calls threads start) (fits : RunFits c shape (drawn_threads calls start threads) said finals) where
  abbrev named : List (List Call)
  named = drawn_threads calls start threads

  abbrev marks_on : List ℕ → List Mark
  marks_on q = all_marks q 1 fits.threads

  answered : RepliesAnswer (calls_of fits.threads) (replies_of fits.threads)
  answered = subst (λ (cs : List (List Call)). RepliesAnswer cs (replies_of fits.threads)) (sym fits.of_calls) (subst (λ (rs : List (List Reply)). RepliesAnswer named rs) (sym fits.of_replies) fits.answered)

  drawn : AreDrawn fits.threads
  drawn = are-drawn fits.threads calls start threads fits.of_calls answered

  all-calls : length (all_calls (calls_of fits.threads)) ≡ threads * calls
  all-calls = ap (λ (cs : List (List Call)). length (all_calls cs)) fits.of_calls ∙ length-all calls start threads

  refused-or-written : fulls_of said + written_in fits.threads ≡ calls * threads
  refused-or-written =
      let counted = all-counted fits.threads drawn in
      let same = ap fulls_of fits.of_replies in
      omega (arith, counted, same, all-calls)

  few : (q : List ℕ) → length (marks_on q) < 2 ^ 64
  few q = omega (arith, all_marks-few q 1 fits.threads, all-calls, w.few, limit)

  counts : (q : List ℕ) → Counts (length (marks_on q)) (value_in finals q)
  counts q = subst (Counts (length (marks_on q))) (sym (fits.ending.final.states q))
      (last-counted c.history fits.distinct q (marks_on q) (all-drawn c.history q 1 fits.threads drawn fits.replies.each) (fits.replies.once q) (few q))

  -- ---- each pair at the end counts the marks of its key

  finals-count : AllByRecursion (λ (p : Pair). IsCount (length (marks_on p.key)) p.value) finals
  finals-count = each-so (λ p. value_in finals p.key ≡ Some p.value) (λ p. IsCount (length (marks_on p.key)) p.value) finals
      (λ p e. is-count (length (marks_on p.key)) p.value (subst (Counts (length (marks_on p.key))) e (counts p.key))) (own-values finals fits.ending.final.ordered)

  once : (q : List ℕ) → 0 < length (marks_on q) → times_in q finals ≡ 1
  once q some = let b = counted-some (length (marks_on q)) (value_in finals q) some (counts q) in once-in q b.0 finals fits.ending.final.ordered b.1

  written : AllByRecursion (λ ts. AllByRecursion (Written (λ k. times_in k finals ≡ 1)) ts) fits.threads
  written = written-all (λ k. times_in k finals ≡ 1) 1 fits.threads once

  summed : values_sum finals ≡ written_in fits.threads
  summed =
      sum-over (λ p. length (marks_on p.key)) finals (each-so (λ p. IsCount (length (marks_on p.key)) p.value) (λ p. pair_number p ≡ length (marks_on p.key)) finals (λ p i. i.number) finals-count)
      ∙ all-over finals 1 fits.threads drawn written

  -- ---- the keys at the end

  key-named : (q : List ℕ) → 0 < length (marks_on q) → list_any (same_key q) (keys_of named) ≡ true
  key-named q some = subst (λ (cs : List (List Call)). list_any (same_key q) (keys_of cs) ≡ true) fits.of_calls (named-all q 1 fits.threads drawn some)

  all-named : AllByRecursion (λ (p : Pair). is_among (keys_of named) p ≡ true) finals
  all-named = each-so (λ p. IsCount (length (marks_on p.key)) p.value) (λ p. is_among (keys_of named) p ≡ true) finals (λ p i. key-named p.key i.some) finals-count

  different-keys : fulls_of said ≡ 0 → AllByRecursion (λ k. times_in k finals ≡ 1) (keys_of named)
  different-keys none = subst (λ (cs : List (List Call)). AllByRecursion (λ k. times_in k finals ≡ 1) (keys_of cs)) fits.of_calls
      (unrefused (λ k. times_in k finals ≡ 1) fits.threads drawn written (ap fulls_of fits.of_replies ∙ none))

  -- ---- the blocks

  key-blocks : count_by (λ (p : Pair). has_class B16 (length p.key)) finals ≡ length finals
  key-blocks = count-all (λ p. has_class B16 (length p.key)) finals
      (each-so (λ p. is_among (keys_of named) p ≡ true) (λ p. has_class B16 (length p.key) ≡ true) finals (λ p e. ap (has_class B16) (long-named p.key calls start threads e)) all-named)

  value-blocks : count_by (λ (p : Pair). has_class B16 (length p.value)) finals ≡ length finals
  value-blocks = count-all (λ p. has_class B16 (length p.value)) finals
      (each-so (λ p. IsCount (length (marks_on p.key)) p.value) (λ p. has_class B16 (length p.value) ≡ true) finals (λ p i. ap (has_class B16) i.long) finals-count)

  pub workload-fits : WorkloadFits calls threads named said finals c.usage
  workload-fits = record {
    numbers = record {
      long = each-so (λ p. IsCount (length (marks_on p.key)) p.value) (λ p. length p.value ≡ 8) finals (λ p i. i.long) finals-count;
      small = omega (arith, summed, refused-or-written, w.few, limit);
    };
    sum = omega (arith, summed, refused-or-written);
    blocks = fits.ending.usage.blocks.0.0 ∙ omega (arith, key-blocks, value-blocks);
    keys = λ none. as-many (keys_of named) finals (different-keys none) all-named;
  }
