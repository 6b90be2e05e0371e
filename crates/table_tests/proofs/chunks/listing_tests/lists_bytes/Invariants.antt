use Rattle.std.proofs.Common.{List, ℕ, MatchOption}
use Rattle.oak_core.specs.Passes.{Stays, state, key as sizes}
use Rattle.chunk_ops.specs.PinRecords.{HasEntry}
use Rattle.chunk_ops.specs.TestStates.{StillPinned}
use Rattle.table_tests.proofs.chunks.listing_tests.lists_bytes.Given as goal

abbrev pub invariant-loop-byte : goal.invariant-loop-byte
invariant-loop-byte g l = record {
  own : Stays l.fn.pass l.pass;
  still : StillPinned (sizes l.table) l.pin.room (state l.fn.pass) (state l.pass);
  from : MatchOption l.from Unit (λ i. (k : List ℕ) × HasEntry l.pin.room i.0 k (state l.pass));
}
