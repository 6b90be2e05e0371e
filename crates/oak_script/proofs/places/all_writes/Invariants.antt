use Rattle.std.proofs.Common.{◌≡◌, ◌++◌, map, drop}
use Rattle.oak_script.specs.Stamps.{writes_of, as_pair}
use Rattle.oak_script.proofs.places.all_writes.Given as goal

abbrev pub invariant-loop-i : goal.invariant-loop-i
invariant-loop-i l =
    map as_pair l.writes.items ++ writes_of (map (λ v. v.items) (drop l.i l.threads)) (map (λ v. v.items) (drop l.i l.replies)) ≡ writes_of (map (λ v. v.items) l.threads) (map (λ v. v.items) l.replies)
