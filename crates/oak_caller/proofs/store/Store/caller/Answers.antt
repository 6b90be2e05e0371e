use Rattle.std.proofs.Common.{rules}
use Rattle.oak_map.specs.Maps.{state}
use Rattle.oak_caller.proofs.store.Store.caller.Goals as goal

pub returns-in-Ok-clause-split : goal.returns-in-Ok-clause-split
returns-in-Ok-clause-split g c = (state c.split.new.pass, search rules)
