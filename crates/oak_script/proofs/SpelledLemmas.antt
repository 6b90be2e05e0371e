-- A text that spells a script has no fault.
use Rattle.std.proofs.Common.{◌≡◌, ℕ, zero, suc, ◌+◌, ◌<◌, ◌≤◌, Bool, true, false, ◌&&◌, cond, eqb, List, [], ◌∷◌, ◌++◌, length, map, Option, Some, None, refl, ap, sym, subst, ◌∙◌, arith, append_assoc}
use Rattle.std.specs.List.{AllByRecursion, flat_map}
use Rattle.std.specs.Prelude.{IfSome}
use Rattle.std.proofs.lemmas.Bool.Decides.{nat_tests}
use Rattle.std.proofs.lemmas.List.{append-nil, length_push, length-append}
use Rattle.std.proofs.lemmas.List.Sums.{sum_by-cons, sum_by-append}
use Rattle.oak_script.specs.declared.faults.What.TheVariants as what
use Rattle.oak_script.specs.declared.scripts.Call.{Call}
use Rattle.oak_script.specs.declared.stages.Stage.TheVariants.{Opened, Ended}
use Rattle.oak_script.specs.declared.limits.TheConstants.{GREATEST_THREADS, GREATEST_CALLS, GREATEST_SCANS}
use Rattle.oak_script.specs.Lines.{Words}
use Rattle.oak_model.specs.Limits.{Sizes}
use Rattle.oak_script.specs.ShapeLine.{shape_line, SizesFit}
use Rattle.oak_script.specs.Grammar.{oak_line, thread_line, end_line, call_words, thread_lines, CallFits, is_scan, scans_in, all_calls}
use Rattle.oak_script.specs.Faults.{Past, past_of, faults, faults_at, where_so, HasNoFault}
use Rattle.oak_script.specs.Reading.{opening, so_far, past_at, with_call, AreCalls}
use Rattle.oak_script.proofs.CallLemmas.{call-spelled}
use Rattle.oak_script.proofs.ShapeLemmas.{line-spelled}
use Rattle.oak_script.proofs.SecondLemmas.{shape-fine}
use Rattle.oak_script.proofs.PastLemmas.{past_so_far, call-thread, call-end, call-call, call-scan}
use Rattle.oak_script.proofs.OpenLemmas.{line_counts, open-thread, open-end, open-line}
use Rattle.oak_script.proofs.ThreadLemmas.{scans-push, begun-lines, begun-calls, called-lines, called-calls, called-length}
use Rattle.oak_script.proofs.PlaceLemmas.{fine_more}
use Rattle.oak_script.proofs.EndLemmas.{ended_fine}

pub grown-by : (shape : Option Sizes) (threads next : List (List Call)) (line : Words) → flat_map thread_lines next ≡ flat_map thread_lines threads ++ line ∷ [] → so_far (Opened shape) threads ++ line ∷ [] ≡ so_far (Opened shape) next
grown-by shape threads next line e = append_assoc (opening shape) (flat_map thread_lines threads) (line ∷ []) ∙ ap (λ (ls : List Words). opening shape ++ ls) (sym e)

scans-cons : (c : Call) (calls : List Call) → scans_in (c ∷ calls) ≡ cond (is_scan c) 1 0 + scans_in calls
scans-cons c calls = sum_by-cons (λ (d : Call). cond (is_scan d) 1 0) c calls

scans-append : (a b : List Call) → scans_in (a ++ b) ≡ scans_in a + scans_in b
scans-append a b = sum_by-append (λ (d : Call). cond (is_scan d) 1 0) a b

not-equal : (m n : ℕ) → m < n → eqb m n ≡ false
not-equal m n h = grind (arith, nat_tests)

counts-fine : (done : List (List Call)) (c : Call) → length (all_calls done) < GREATEST_CALLS → scans_in (all_calls done) + cond (is_scan c) 1 0 ≤ GREATEST_SCANS → line_counts done (call_words c) ≡ []
counts-fine done c few scans =
    rw (call-scan c, call-call c, not-equal (length (all_calls done)) GREATEST_CALLS few) (by (is_scan c) scans)
  where
    by : (b : Bool) → scans_in (all_calls done) + cond b 1 0 ≤ GREATEST_SCANS → where_so (b && eqb (scans_in (all_calls done)) GREATEST_SCANS) what.Scans ≡ []
    by true h = rw (not-equal (scans_in (all_calls done)) GREATEST_SCANS (omega arith)) refl
    by false h = refl

-- the lines up to the ones that are left have no fault, and have so many `thread` lines and these calls
record Reached (shape : Option Sizes) (all left : List Words) (threads : ℕ) (calls : List Call) : Type 0 where
  done : List (List Call)
  split : so_far (Opened shape) done ++ left ≡ all
  fine : (k : ℕ) → k < length (so_far (Opened shape) done) → faults_at all k ≡ []
  some : 0 < length done
  threads_are : length done ≡ threads
  calls_are : all_calls done ≡ calls

-- one line more
line-reached : (shape : Option Sizes) (all left : List Words) (line : Words) (n m : ℕ) (calls more : List Call) (r : Reached shape all (line ∷ left) n calls) (next : List (List Call))
    → faults (past_at (Opened shape) r.done) (Some line) ≡ [] → flat_map thread_lines next ≡ flat_map thread_lines r.done ++ line ∷ [] → 0 < length next → length next ≡ m → all_calls next ≡ more → Reached shape all left m more
line-reached shape all left line n m calls more r next none lines some threads_are calls_are =
    let before = so_far (Opened shape) r.done in
    let grown = grown-by shape r.done next line lines in
    let fine : faults (past_of before) (Some line) ≡ [] = ap (λ (p : Past). faults p (Some line)) (past_so_far (Opened shape) r.done) ∙ none in
    record {
      done = next;
      split = subst (λ (ls : List Words). ls ++ left ≡ all) grown (append_assoc before (line ∷ []) left ∙ r.split);
      fine = λ k h. fine_more all before line left r.split r.fine fine k (subst (λ (ls : List Words). k < length ls) (sym grown) h);
      some = some;
      threads_are = threads_are;
      calls_are = calls_are;
    }

thread-reached : (shape : Option Sizes) (all left : List Words) (n : ℕ) (calls : List Call) → Reached shape all (thread_line ∷ left) n calls → n < GREATEST_THREADS → Reached shape all left (n + 1) calls
thread-reached shape all left n calls r few =
    let none : faults (past_at (Opened shape) r.done) (Some thread_line) ≡ [] =
    open-thread shape r.done r.some ∙ rw (not-equal (length r.done) GREATEST_THREADS (omega (arith, r.threads_are))) refl in
    line-reached shape all left thread_line n (n + 1) calls calls r (r.done ++ [] ∷ []) none (begun-lines r.done)
    (omega (arith, length_push r.done [])) (omega (arith, length_push r.done [], r.threads_are)) (begun-calls r.done ∙ r.calls_are)

call-reached : (shape : Option Sizes) (all left : List Words) (n : ℕ) (calls : List Call) (c : Call) → Reached shape all (call_words c ∷ left) n calls → CallFits c → length calls < GREATEST_CALLS → scans_in calls + cond (is_scan c) 1 0 ≤ GREATEST_SCANS
    → Reached shape all left n (calls ++ c ∷ [])
call-reached shape all left n calls c r is few scans =
    let none : faults (past_at (Opened shape) r.done) (Some (call_words c)) ≡ [] =
    open-line shape r.done (call_words c) r.some (call-thread c) (call-end c)
    ∙ rw (call-spelled c is) (counts-fine r.done c (rw r.calls_are few) (rw r.calls_are scans)) in
    line-reached shape all left (call_words c) n n calls (calls ++ c ∷ []) r (with_call r.done c) none (called-lines r.done c r.some)
    (omega (arith, called-length r.done c, r.some)) (called-length r.done c ∙ r.threads_are) (called-calls r.done c r.some ∙ ap (λ (cs : List Call). cs ++ c ∷ []) r.calls_are)

calls-reached : (shape : Option Sizes) (all left : List Words) (n : ℕ) (calls more : List Call) → Reached shape all (map call_words more ++ left) n calls → AllByRecursion CallFits more
    → length calls + length more ≤ GREATEST_CALLS → scans_in calls + scans_in more ≤ GREATEST_SCANS → Reached shape all left n (calls ++ more)
calls-reached shape all left n calls [] r each few scans = subst (λ (cs : List Call). Reached shape all left n cs) (sym (append-nil calls)) r
calls-reached shape all left n calls (c ∷ more) r each few scans =
    let sum = scans-cons c more in
    let one = call-reached shape all (map call_words more ++ left) n calls c r each.0 (omega arith) (omega (arith, sum)) in
    subst (λ (cs : List Call). Reached shape all left n cs) (append_assoc calls (c ∷ []) more)
    (calls-reached shape all left n (calls ++ c ∷ []) more one each.1 (omega (arith, length_push calls c)) (omega (arith, sum, scans-push calls c)))

threads-reached : (shape : Option Sizes) (all left : List Words) (n : ℕ) (calls : List Call) (more : List (List Call)) → Reached shape all (flat_map thread_lines more ++ left) n calls → AllByRecursion (AllByRecursion CallFits) more
    → n + length more ≤ GREATEST_THREADS → length calls + length (all_calls more) ≤ GREATEST_CALLS → scans_in calls + scans_in (all_calls more) ≤ GREATEST_SCANS → Reached shape all left (n + length more) (calls ++ all_calls more)
threads-reached shape all left n calls [] r each threads_few few scans =
    let m : n ≡ n + 0 = omega arith in
    subst (λ (cs : List Call). Reached shape all left (n + 0) cs) (sym (append-nil calls)) (subst (λ (k : ℕ). Reached shape all left k calls) m r)
threads-reached shape all left n calls (t ∷ ts) r each threads_few few scans =
    let count = length-append t (all_calls ts) in
    let sum = scans-append t (all_calls ts) in
    let rest = flat_map thread_lines ts ++ left in
    let here : Reached shape all (thread_line ∷ (map call_words t ++ rest)) n calls =
    subst (λ (ls : List Words). Reached shape all (thread_line ∷ ls) n calls) (append_assoc (map call_words t) (flat_map thread_lines ts) left) r in
    let begun = thread-reached shape all (map call_words t ++ rest) n calls here (omega arith) in
    let one = calls-reached shape all rest (n + 1) calls t begun each.0 (omega (arith, count)) (omega (arith, sum)) in
    let m : (n + 1) + length ts ≡ n + suc (length ts) = omega arith in
    subst (λ (cs : List Call). Reached shape all left (n + suc (length ts)) cs) (append_assoc calls t (all_calls ts))
    (subst (λ (k : ℕ). Reached shape all left k ((calls ++ t) ++ all_calls ts)) m
    (threads-reached shape all left (n + 1) (calls ++ t) ts one each.1 (omega arith) (omega (arith, count, length-append calls t)) (omega (arith, sum, scans-append calls t))))

end-reached : (shape : Option Sizes) (all : List Words) (n : ℕ) (calls : List Call) → Reached shape all (end_line ∷ []) n calls → HasNoFault all
end-reached shape all n calls r =
    let before = so_far (Opened shape) r.done in
    let none : faults (past_of before) (Some end_line) ≡ [] = ap (λ (p : Past). faults p (Some end_line)) (past_so_far (Opened shape) r.done) ∙ open-end shape r.done r.some in
    let more = fine_more all before end_line [] r.split r.fine none in
    subst HasNoFault r.split (ended_fine shape r.done (λ k h. subst (λ (ls : List Words). faults_at ls k ≡ []) (sym r.split) (more k h)))

-- the lines up to the first `thread` line
opening-fine : (shape : Option Sizes) (threads : List (List Call)) (t : List Call) → IfSome shape SizesFit → (k : ℕ) → k < length (so_far (Opened shape) ([] ∷ [])) → faults_at (so_far (Ended shape) (t ∷ threads)) k ≡ []
opening-fine None threads t fit zero h = refl
opening-fine None threads t fit (suc zero) h = refl
opening-fine None threads t fit (suc (suc k)) h = absurd (omega arith)
opening-fine (Some s) threads t fit zero h = refl
opening-fine (Some s) threads t fit (suc zero) h =
    let line = line-spelled s fit in
    shape-fine (shape_line s) (record { words = line.words; first = refl; count = line.count }) line.sizes
opening-fine (Some s) threads t fit (suc (suc zero)) h = refl
opening-fine (Some s) threads t fit (suc (suc (suc k))) h = absurd (omega arith)

begun : (shape : Option Sizes) (t : List Call) (ts : List (List Call)) → so_far (Opened shape) ([] ∷ []) ++ (map call_words t ++ (flat_map thread_lines ts ++ end_line ∷ [])) ≡ so_far (Ended shape) (t ∷ ts)
begun None t ts = ap (λ (ls : List Words). oak_line ∷ thread_line ∷ ls) (sym (append_assoc (map call_words t) (flat_map thread_lines ts) (end_line ∷ [])))
begun (Some s) t ts = ap (λ (ls : List Words). oak_line ∷ shape_line s ∷ thread_line ∷ ls) (sym (append_assoc (map call_words t) (flat_map thread_lines ts) (end_line ∷ [])))

pub no_fault : (shape : Option Sizes) (threads : List (List Call)) → 0 < length threads → IfSome shape SizesFit → AreCalls threads → HasNoFault (so_far (Ended shape) threads)
no_fault shape [] some fit are = absurd (omega arith)
no_fault shape (t ∷ ts) some fit are =
    let all = so_far (Ended shape) (t ∷ ts) in
    let rest = flat_map thread_lines ts ++ end_line ∷ [] in
    let count = length-append t (all_calls ts) in
    let sum = scans-append t (all_calls ts) in
    let first : Reached shape all (map call_words t ++ rest) 1 [] = record { done = [] ∷ []; split = begun shape t ts; fine = opening-fine shape ts t fit; some = omega arith; threads_are = refl; calls_are = refl } in
    let one = calls-reached shape all rest 1 [] t first are.each.0 (omega (arith, are.few, count)) (omega (arith, are.scans, sum)) in
    end-reached shape all (1 + length ts) (t ++ all_calls ts)
    (threads-reached shape all (end_line ∷ []) 1 t ts one are.each.1 (omega (arith, are.threads_few)) (omega (arith, are.few, count)) (omega (arith, are.scans, sum)))
