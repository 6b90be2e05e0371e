use Rattle.oak_core.specs.Passes.{Stays, call_of, state}
use Rattle.chunk_ops.specs.PinRecords.{OnlyMeets}
use Rattle.scan_cursor.proofs.loading_ahead.load_all.Given as goal

abbrev pub invariant-loop-word : goal.invariant-loop-word
invariant-loop-word l = record {
  own : Stays l.fn.pass l.pass;
  only : OnlyMeets (call_of l.fn.pass) (state l.fn.pass) (state l.pass);
}
