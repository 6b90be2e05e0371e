use Rattle.std.proofs.Common.{◌≡◌, ◌++◌, map, drop}
use Rattle.oak_script.specs.Stamps.{writes_along, as_pair}
use Rattle.oak_script.proofs.places.add_writes.Given as goal

abbrev pub invariant-loop-i : goal.invariant-loop-i
invariant-loop-i l =
    map as_pair l.writes.items ++ writes_along (drop l.i l.calls) (drop l.i l.replies) ≡ map as_pair l.initial.writes.items ++ writes_along l.calls l.replies
