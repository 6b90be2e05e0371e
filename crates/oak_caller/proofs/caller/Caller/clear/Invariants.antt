use Rattle.chunk_ops.specs.AskedRanges.{bytes_in_option}
use Rattle.oak_caller.specs.Callers.{KeepsViews}
use Rattle.oak_caller.specs.Clearing.{CallsMany, ClearsSoFar, at_count}
use Rattle.oak_caller.proofs.caller.Caller.clear.Given as goal

abbrev pub invariant-loop : goal.invariant-loop
invariant-loop g l = record {
  on : CallsMany l.fn.self l.self;
  views : KeepsViews l.fn.self l.self;
  done : ClearsSoFar l.last (bytes_in_option l.fn.low) (bytes_in_option l.fn.high) (at_count 0 l.fn.self) (at_count l.removed l.self);
}
