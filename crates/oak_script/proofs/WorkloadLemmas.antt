-- A workload is a script.
use Rattle.std.proofs.Common.{◌≡◌, ℕ, zero, suc, ◌+◌, ◌*◌, ◌%◌, ◌<◌, List, ◌++◌, length, refl, sym, ap, ◌∙◌, arith}
use Rattle.std.specs.List.{AllByRecursion}
use Rattle.std.proofs.lemmas.List.{length-append}
use Rattle.hex.specs.Hex.{IsBytes}
use Rattle.oak_script.specs.declared.limits.TheConstants.{DRAWN_NUMBERS}
use Rattle.oak_script.specs.declared.scripts.Call.{Call}
use Rattle.oak_script.specs.Grammar.{IsScript, CallFits, all_calls, scans_in, default_sizes}
use Rattle.oak_script.specs.ShapeLine.{SizesFit}
use Rattle.oak_script.specs.Workload.{IsWorkload, next_number, drawn_key, drawn_call, drawn_calls, drawn_threads, one_value, workload}

pub next-small : (x : ℕ) → next_number x < DRAWN_NUMBERS
next-small x = omega arith

pub length-drawn : (x n : ℕ) → length (drawn_calls x n) ≡ n
length-drawn x zero = refl
length-drawn x (suc n) = ap suc (length-drawn (next_number x) n)

pub length-threads : (calls start n : ℕ) → length (drawn_threads calls start n) ≡ n
length-threads calls start zero = refl
length-threads calls start (suc n) = ap suc (length-threads calls (suc start) n)

-- the calls of all threads together
pub length-all : (calls start n : ℕ) → length (all_calls (drawn_threads calls start n)) ≡ n * calls
length-all calls start zero = omega arith
length-all calls start (suc n) =
    omega (arith, length-append (drawn_calls (start % DRAWN_NUMBERS) calls) (all_calls (drawn_threads calls (suc start) n)), length-drawn (start % DRAWN_NUMBERS) calls, length-all calls (suc start) n)

scans-drawn : (x n : ℕ) (more : List Call) → scans_in (drawn_calls x n ++ more) ≡ scans_in more
scans-drawn x zero more = refl
scans-drawn x (suc n) more = scans-drawn (next_number x) n more

scans-all : (calls start n : ℕ) → scans_in (all_calls (drawn_threads calls start n)) ≡ 0
scans-all calls start zero = refl
scans-all calls start (suc n) = scans-drawn (start % DRAWN_NUMBERS) calls (all_calls (drawn_threads calls (suc start) n)) ∙ scans-all calls (suc start) n

-- the parts of each call are lawful

key-bytes : (x : ℕ) → x < DRAWN_NUMBERS → IsBytes (drawn_key x)
key-bytes x l zero = omega arith
key-bytes x l (suc zero) = omega arith
key-bytes x l (suc (suc i)) = omega arith

one-bytes : IsBytes one_value
one-bytes zero = omega arith
one-bytes (suc zero) = omega arith
one-bytes (suc (suc zero)) = omega arith
one-bytes (suc (suc (suc zero))) = omega arith
one-bytes (suc (suc (suc (suc zero)))) = omega arith
one-bytes (suc (suc (suc (suc (suc zero))))) = omega arith
one-bytes (suc (suc (suc (suc (suc (suc zero)))))) = omega arith
one-bytes (suc (suc (suc (suc (suc (suc (suc zero))))))) = omega arith
one-bytes (suc (suc (suc (suc (suc (suc (suc (suc i)))))))) = omega arith

call-fits : (x : ℕ) → x < DRAWN_NUMBERS → CallFits (drawn_call x)
call-fits x l = (((omega arith, omega arith), key-bytes x l), (omega arith, one-bytes), omega arith)

calls-fit : (x n : ℕ) → AllByRecursion CallFits (drawn_calls x n)
calls-fit x zero = tt
calls-fit x (suc n) = (call-fits (next_number x) (next-small x), calls-fit (next_number x) n)

threads-fit : (calls start n : ℕ) → AllByRecursion (λ (cs : List Call). AllByRecursion CallFits cs) (drawn_threads calls start n)
threads-fit calls start zero = tt
threads-fit calls start (suc n) = (calls-fit (start % DRAWN_NUMBERS) calls, threads-fit calls (suc start) n)

pub is-script : (calls threads start : ℕ) → IsWorkload calls threads start → SizesFit (default_sizes threads) → IsScript (workload calls threads start)
is-script calls threads start w fit = record {
  some = rw length-threads w.some_threads;
  threads_few = rw length-threads w.few_threads;
  passes = ap (λ (n : ℕ). n + 1) (sym (length-threads calls start threads));
  shape = fit;
  each = threads-fit calls start threads;
  few = rw length-all (omega (arith, w.few));
  scans = rw scans-all (omega arith);
}
