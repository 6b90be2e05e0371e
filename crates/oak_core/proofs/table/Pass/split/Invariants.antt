use Rattle.std.proofs.Common.{◌-◌}
use Rattle.oak_core.specs.Passes.{Stays, SearchesStay, TriesStay, state, call_of}
use Rattle.oak_core.proofs.seats.LoneSplits.{Ungiven}
use Rattle.oak_core.proofs.seats.Splits.{Tried}
use Rattle.oak_core.proofs.table.Pass.split.Given as goal

abbrev pub invariant-loop-number : goal.invariant-loop-number
invariant-loop-number l = record {
  stays : Stays l.fn.self l.self;
  searches : SearchesStay l.fn.self l.self;
  tries : TriesStay l.fn.self l.self;
  alone : Ungiven l.number (state l.fn.self) (state l.self);
  tried : Tried (call_of l.fn.self) l.number (state l.fn.self) (state l.self);
}

abbrev pub decreases-loop-number : goal.decreases-loop-number
decreases-loop-number l = l.passes - l.number
