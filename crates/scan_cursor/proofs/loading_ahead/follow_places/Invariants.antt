use Rattle.std.proofs.Common.{◌≡◌, length}
use Rattle.oak_core.specs.Passes.{Stays, call_of, key as sizes, state}
use Rattle.chunk_ops.specs.PinRecords.{OnlyMeets}
use Rattle.scan_cursor.specs.LoadingAhead.{AreBlocks, ArePlainWords}
use Rattle.scan_cursor.proofs.loading_ahead.follow_places.Given as goal

abbrev pub invariant-loop-i : goal.invariant-loop-i
invariant-loop-i l = record {
  own : Stays l.fn.pass l.pass;
  only : OnlyMeets (call_of l.fn.pass) (state l.fn.pass) (state l.pass);
  blocks : AreBlocks (sizes l.table) l.near;
  long : length l.words ≡ length l.fn.words;
  words : ArePlainWords (sizes l.table) l.words;
}
