use Rattle.std.proofs.Common.{◌≡◌, ◌≤◌, ◌++◌, [], drop}
use Rattle.oak_script.specs.Stamps.{places_along}
use Rattle.oak_script.proofs.places.places_along.Given as goal

abbrev pub invariant-loop-write : goal.invariant-loop-write
invariant-loop-write l = record {
  small : l.place ≤ l.write-index;
  rest : l.places.items ++ places_along l.last l.place (drop l.write-index l.writes) ≡ places_along [] 0 l.writes;
}
