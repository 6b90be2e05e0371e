use Rattle.oak_model.specs.declared.cells.CellCall.TheVariants.{Put}
use Rattle.oak_core.specs.Passes.{call_of, state}
use Rattle.oak_map.proofs.NeverDone.{never_counted, never_fed, put_never}
use Rattle.oak_map.proofs.asking.PutOverAsking.try_once.Goals as goal

pub returns-clause-counted : goal.returns-clause-counted
returns-clause-counted c = never_counted (call_of c.hint-hint.new.self) c.args.key.now (Put c.args.value.now) (state c.hint-hint.new.self) (state c.try_put.new.pass) (put_never c.args.value.now) c.try_put.result c.try_put.ensures.wrote

pub returns-clause-fed : goal.returns-clause-fed
returns-clause-fed c = never_fed (call_of c.hint-hint.new.self) c.args.key.now (Put c.args.value.now) (state c.hint-hint.new.self) (state c.try_put.new.pass) (put_never c.args.value.now) c.try_put.result c.try_put.ensures.wrote
