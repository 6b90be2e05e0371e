-- The first of several faults.
use Rattle.std.proofs.Common.{◌≡◌, List, [], ◌∷◌, ◌++◌}
use Rattle.oak_script.specs.declared.faults.What.{What}
use Rattle.oak_script.specs.declared.stops.Stop.{Stop}
use Rattle.oak_script.specs.declared.stops.Stop.TheVariants.{Fault, OutOfMemory}
use Rattle.oak_script.specs.Stops.{Stops}

-- what comes first stays first
pub stops_more : (e : Stop) (fs gs : List What) → Stops e fs → Stops e (fs ++ gs)
stops_more OutOfMemory fs gs h = tt
stops_more (Fault w) [] gs h = absurd h
stops_more (Fault w) (x ∷ fs) gs h = h

-- what has no fault is passed over
pub stops_behind : (e : Stop) (fs gs : List What) → fs ≡ [] → Stops e gs → Stops e (fs ++ gs)
stops_behind e fs gs none h = rw none h
