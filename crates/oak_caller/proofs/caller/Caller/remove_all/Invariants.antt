use Rattle.std.proofs.Common.{take}
use Rattle.oak_caller.specs.Callers.{KeepsViews}
use Rattle.oak_caller.specs.Clearing.{CallsMany, RemovesAll, at_count}
use Rattle.oak_caller.proofs.caller.Caller.remove_all.Given as goal

abbrev pub invariant-loop-key : goal.invariant-loop-key
invariant-loop-key g l = record {
  on : CallsMany l.fn.self l.self;
  views : KeepsViews l.fn.self l.self;
  removes : RemovesAll (at_count l.fn.removed l.fn.self) (take l.key-index l.keys) (at_count l.removed l.self);
}
