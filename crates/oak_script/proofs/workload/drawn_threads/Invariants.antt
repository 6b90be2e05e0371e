use Rattle.std.proofs.Common.{◌≡◌, ℕ, ◌+◌, ◌++◌, map}
use Rattle.oak_script.specs.Workload.{drawn_threads}
use Rattle.oak_script.proofs.workload.drawn_threads.Given as goal

abbrev pub invariant-loop-i : goal.invariant-loop-i
invariant-loop-i l = (n : ℕ) → l.i + n ≡ l.threads → map (λ c. c.items) l.drawn.items ++ drawn_threads l.calls (l.start + l.i) n ≡ drawn_threads l.calls l.start l.threads
