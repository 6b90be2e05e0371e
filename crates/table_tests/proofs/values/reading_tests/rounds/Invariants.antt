use Rattle.std.proofs.Common.{◌≡◌}
use Rattle.arena_core.specs.HeldBlocks.{no_blocks}
use Rattle.header_core.specs.HeaderHolds.{no_headers}
use Rattle.oak_core.specs.Passes.{Stays, state}
use Rattle.value_ops.specs.OneHeader.{KeepsElse}
use Rattle.table_tests.proofs.values.reading_tests.rounds.Given as goal

abbrev pub invariant-loop-i : goal.invariant-loop-i
invariant-loop-i g l = record {
  stays : Stays l.fn.pass l.pass;
  rest : KeepsElse (state l.fn.pass) (state l.pass);
  blocks : (state l.pass).blocks ≡ no_blocks;
  headers : (state l.pass).headers ≡ no_headers;
}
