use Rattle.std.proofs.Common.{◌≡◌, ◌+◌, ◌*◌, ◌≤◌, ◌^◌, map, drop}
use Rattle.oak_script.specs.Summary.{fulls_of}
use Rattle.oak_script.proofs.summary.fulls_of.Given as goal

abbrev pub invariant-loop-of_thread : goal.invariant-loop-of_thread
invariant-loop-of_thread l = record {
  rest : l.fulls + fulls_of (map (λ v. v.items) (drop l.of_thread-index l.replies)) ≡ fulls_of (map (λ v. v.items) l.replies);
  few : l.fulls ≤ l.of_thread-index * 2 ^ 63;
}
