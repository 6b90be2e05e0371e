-- What the rows ask of the lines that a reader has taken.
use Rattle.std.proofs.Common.{◌≡◌, ℕ, suc, ◌+◌, ◌≤◌, Bool, true, false, cond, List, [], ◌∷◌, ◌++◌, length, map, Option, Some, None, refl, sym, ◌∙◌, arith}
use Rattle.std.specs.Prelude.{count_by}
use Rattle.std.specs.List.{flat_map}
use Rattle.std.proofs.lemmas.List.{length-map, length_push, length-append}
use Rattle.std.proofs.lemmas.List.Sums.{sum_by-cons, sum_by_push, sum_by-append}
use Rattle.oak_model.specs.Limits.{Sizes}
use Rattle.oak_model.specs.declared.recipes.RecipeKind.TheVariants.{Add, Xor, Rev}
use Rattle.oak_script.specs.declared.limits.TheConstants.{GREATEST_CALLS, GREATEST_THREADS}
use Rattle.oak_script.specs.declared.scripts.Call.{Call}
use Rattle.oak_script.specs.declared.scripts.Call.TheVariants.{Put, Get, PutNew, Compute, Upsert, Remove, Hold, Look, Scan, Back}
use Rattle.oak_script.specs.declared.stages.Stage.{Stage}
use Rattle.oak_script.specs.declared.stages.Stage.TheVariants.{Start, Headed, Shaped, Opened, Ended}
use Rattle.oak_script.specs.Lines.{Words}
use Rattle.oak_script.specs.Grammar.{thread_line, end_line, call_words, thread_lines, is_scan, scans_in, all_calls}
use Rattle.oak_script.specs.Forms.{is_thread, is_end, is_call, is_scan_line}
use Rattle.oak_script.specs.Faults.{Past, past_of}
use Rattle.oak_script.specs.Reading.{opening, shapes_in, lines_in, so_far, past_at, CallsFit}

pub call-thread : (c : Call) → is_thread (call_words c) ≡ false
call-thread (Put k v) = refl
call-thread (Get k) = refl
call-thread (PutNew k v) = refl
call-thread (Compute k r n) = refl
call-thread (Upsert k v r n) = refl
call-thread (Remove k) = refl
call-thread (Hold a k) = refl
call-thread (Look a) = refl
call-thread (Scan low high) = refl
call-thread (Back low high) = refl

pub call-end : (c : Call) → is_end (call_words c) ≡ false
call-end (Put k v) = refl
call-end (Get k) = refl
call-end (PutNew k v) = refl
call-end (Compute k r n) = refl
call-end (Upsert k v r n) = refl
call-end (Remove k) = refl
call-end (Hold a k) = refl
call-end (Look a) = refl
call-end (Scan low high) = refl
call-end (Back low high) = refl

pub call-call : (c : Call) → is_call (call_words c) ≡ true
call-call (Put k v) = refl
call-call (Get k) = refl
call-call (PutNew k v) = refl
call-call (Compute k Add n) = refl
call-call (Compute k Xor n) = refl
call-call (Compute k Rev n) = refl
call-call (Upsert k v Add n) = refl
call-call (Upsert k v Xor n) = refl
call-call (Upsert k v Rev n) = refl
call-call (Remove k) = refl
call-call (Hold a k) = refl
call-call (Look a) = refl
call-call (Scan low high) = refl
call-call (Back low high) = refl

pub call-scan : (c : Call) → is_scan_line (call_words c) ≡ is_scan c
call-scan (Put k v) = refl
call-scan (Get k) = refl
call-scan (PutNew k v) = refl
call-scan (Compute k Add n) = refl
call-scan (Compute k Xor n) = refl
call-scan (Compute k Rev n) = refl
call-scan (Upsert k v Add n) = refl
call-scan (Upsert k v Xor n) = refl
call-scan (Upsert k v Rev n) = refl
call-scan (Remove k) = refl
call-scan (Hold a k) = refl
call-scan (Look a) = refl
call-scan (Scan low high) = refl
call-scan (Back low high) = refl

-- a count over the lines of calls is a count over the calls
count-calls : (p : Words → Bool) (q : Call → Bool) → ((c : Call) → p (call_words c) ≡ q c) → (calls : List Call) → count_by p (map call_words calls) ≡ count_by q calls
count-calls p q same [] = refl
count-calls p q same (c ∷ calls) =
    sum_by-cons (λ (l : Words). cond (p l) 1 0) (call_words c) (map call_words calls)
    ∙ rw (same c, count-calls p q same calls) (sym (sum_by-cons (λ (d : Call). cond (q d) 1 0) c calls))

count-none : {X : Type 0} (xs : List X) → count_by (λ _. false) xs ≡ 0
count-none [] = refl
count-none (x ∷ xs) = sum_by-cons (λ _. 0) x xs ∙ omega (arith, count-none xs)

count-all : {X : Type 0} (xs : List X) → count_by (λ _. true) xs ≡ length xs
count-all [] = refl
count-all (x ∷ xs) = sum_by-cons (λ _. 1) x xs ∙ omega (arith, count-all xs)

-- a count over the lines of threads is one over the `thread` lines and one over the calls
count-threads : (p : Words → Bool) (q : Call → Bool) → ((c : Call) → p (call_words c) ≡ q c) → (threads : List (List Call)) → count_by p (flat_map thread_lines threads) ≡ count_by (λ _. p thread_line) threads + count_by q (all_calls threads)
count-threads p q same [] = refl
count-threads p q same (t ∷ ts) =
    let whole : count_by p (thread_lines t ++ flat_map thread_lines ts) ≡ count_by p (thread_lines t) + count_by p (flat_map thread_lines ts) = sum_by-append (λ (l : Words). cond (p l) 1 0) (thread_lines t) (flat_map thread_lines ts) in
    let first : count_by p (thread_lines t) ≡ cond (p thread_line) 1 0 + count_by p (map call_words t) = sum_by-cons (λ (l : Words). cond (p l) 1 0) thread_line (map call_words t) in
    let marks : count_by (λ (_ : List Call). p thread_line) (t ∷ ts) ≡ cond (p thread_line) 1 0 + count_by (λ (_ : List Call). p thread_line) ts = sum_by-cons (λ (_ : List Call). cond (p thread_line) 1 0) t ts in
    let calls : count_by q (t ++ all_calls ts) ≡ count_by q t + count_by q (all_calls ts) = sum_by-append (λ (c : Call). cond (q c) 1 0) t (all_calls ts) in
    whole ∙ omega (arith, first, marks, calls, count-calls p q same t, count-threads p q same ts)

length-threads : (threads : List (List Call)) (n : ℕ) → length (flat_map thread_lines threads) + n ≡ lines_in threads n
length-threads [] n = omega arith
length-threads (t ∷ ts) n =
    let whole : length (flat_map thread_lines (t ∷ ts)) ≡ suc (length t) + length (flat_map thread_lines ts) = omega (arith, length-append (thread_lines t) (flat_map thread_lines ts), length-map t call_words) in
    omega (arith, whole, length-threads ts n)

-- a line for each thread, and one for each call
lines-counted : (threads : List (List Call)) (n : ℕ) → lines_in threads n ≡ (length threads + length (all_calls threads)) + n
lines-counted [] n = omega arith
lines-counted (t ∷ ts) n = omega (arith, length-append t (all_calls ts), lines-counted ts n)

count-opened : (p : Words → Bool) (shape : Option Sizes) (threads : List (List Call)) → count_by p (so_far (Opened shape) threads) ≡ count_by p (opening shape) + count_by p (flat_map thread_lines threads)
count-opened p shape threads = sum_by-append (λ (l : Words). cond (p l) 1 0) (opening shape) (flat_map thread_lines threads)

count-ended : (p : Words → Bool) (shape : Option Sizes) (threads : List (List Call)) → count_by p (so_far (Ended shape) threads) ≡ count_by p (so_far (Opened shape) threads) + cond (p end_line) 1 0
count-ended p shape threads = sum_by_push (λ (l : Words). cond (p l) 1 0) (so_far (Opened shape) threads) end_line

-- what the lines before the first `thread` line count
opening-length : (shape : Option Sizes) → length (opening shape) ≡ suc (shapes_in shape)
opening-length None = refl
opening-length (Some s) = refl

opening-threads : (shape : Option Sizes) → count_by is_thread (opening shape) ≡ 0
opening-threads None = refl
opening-threads (Some s) = refl

opening-ends : (shape : Option Sizes) → count_by is_end (opening shape) ≡ 0
opening-ends None = refl
opening-ends (Some s) = refl

opening-calls : (shape : Option Sizes) → count_by is_call (opening shape) ≡ 0
opening-calls None = refl
opening-calls (Some s) = refl

opening-scans : (shape : Option Sizes) → count_by is_scan_line (opening shape) ≡ 0
opening-scans None = refl
opening-scans (Some s) = refl

length-opened : (shape : Option Sizes) (threads : List (List Call)) → length (so_far (Opened shape) threads) ≡ suc (lines_in threads (shapes_in shape))
length-opened shape threads = omega (arith, length-append (opening shape) (flat_map thread_lines threads), opening-length shape, length-threads threads (shapes_in shape))

threads-opened : (shape : Option Sizes) (threads : List (List Call)) → count_by is_thread (so_far (Opened shape) threads) ≡ length threads
threads-opened shape threads = omega (arith, count-opened is_thread shape threads, opening-threads shape, count-threads is_thread (λ _. false) call-thread threads, count-all threads, count-none (all_calls threads))

ends-opened : (shape : Option Sizes) (threads : List (List Call)) → count_by is_end (so_far (Opened shape) threads) ≡ 0
ends-opened shape threads = omega (arith, count-opened is_end shape threads, opening-ends shape, count-threads is_end (λ _. false) call-end threads, count-none threads, count-none (all_calls threads))

calls-opened : (shape : Option Sizes) (threads : List (List Call)) → count_by is_call (so_far (Opened shape) threads) ≡ length (all_calls threads)
calls-opened shape threads = omega (arith, count-opened is_call shape threads, opening-calls shape, count-threads is_call (λ _. true) call-call threads, count-none threads, count-all (all_calls threads))

scans-opened : (shape : Option Sizes) (threads : List (List Call)) → count_by is_scan_line (so_far (Opened shape) threads) ≡ scans_in (all_calls threads)
scans-opened shape threads = omega (arith, count-opened is_scan_line shape threads, opening-scans shape, count-threads is_scan_line is_scan call-scan threads, count-none threads)

same_past : (a b c d e a2 b2 c2 d2 e2 : ℕ) → a ≡ a2 → b ≡ b2 → c ≡ c2 → d ≡ d2 → e ≡ e2
    → (let p : Past = record { lines = a; threads = b; ends = c; calls = d; scans = e } in let q : Past = record { lines = a2; threads = b2; ends = c2; calls = d2; scans = e2 } in p ≡ q)
same_past a b c d e a2 b2 c2 d2 e2 p q r s t = rw (p, q, r, s, t) refl

pub past_so_far : (stage : Stage) (threads : List (List Call)) → past_of (so_far stage threads) ≡ past_at stage threads
past_so_far Start threads = refl
past_so_far Headed threads = refl
past_so_far (Shaped s) threads = refl
past_so_far (Opened shape) threads =
    same_past _ _ _ _ _ _ _ _ _ _ (length-opened shape threads) (threads-opened shape threads) (ends-opened shape threads) (calls-opened shape threads) (scans-opened shape threads)
past_so_far (Ended shape) threads =
    same_past _ _ _ _ _ _ _ _ _ _
    (omega (arith, length-opened shape threads, length_push (so_far (Opened shape) threads) end_line))
    (omega (arith, count-ended is_thread shape threads, threads-opened shape threads))
    (omega (arith, count-ended is_end shape threads, ends-opened shape threads))
    (omega (arith, count-ended is_call shape threads, calls-opened shape threads))
    (omega (arith, count-ended is_scan_line shape threads, scans-opened shape threads))

-- a reader has taken so many lines at most
pub lines-few : (stage : Stage) (threads : List (List Call)) → CallsFit stage threads → length (so_far stage threads) ≤ GREATEST_CALLS + GREATEST_THREADS + 3
lines-few Start threads fit = omega arith
lines-few Headed threads fit = omega arith
lines-few (Shaped s) threads fit = omega arith
lines-few (Opened None) threads fit = omega (arith, length-opened None threads, lines-counted threads 0, fit.1.few, fit.1.threads_few)
lines-few (Opened (Some s)) threads fit = omega (arith, length-opened (Some s) threads, lines-counted threads 1, fit.1.few, fit.1.threads_few)
lines-few (Ended None) threads fit = omega (arith, length-opened None threads, lines-counted threads 0, length_push (so_far (Opened None) threads) end_line, fit.1.few, fit.1.threads_few)
lines-few (Ended (Some s)) threads fit = omega (arith, length-opened (Some s) threads, lines-counted threads 1, length_push (so_far (Opened (Some s)) threads) end_line, fit.1.few, fit.1.threads_few)
