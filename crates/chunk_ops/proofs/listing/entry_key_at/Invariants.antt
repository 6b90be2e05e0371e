use Rattle.std.proofs.Common.{List, ℕ}
use Rattle.oak_core.specs.Passes.{Stays, state, call_of}
use Rattle.chunk_ops.specs.PinRecords.{HasEntry, OnlyMeets}
use Rattle.chunk_ops.proofs.StoredLaws.{Filled}
use Rattle.chunk_ops.proofs.listing.entry_key_at.Given as goal

abbrev pub invariant-loop-i : goal.invariant-loop-i
invariant-loop-i l = record {
  own : Stays l.fn.pass l.pass;
  only : OnlyMeets (call_of l.fn.pass) (state l.fn.pass) (state l.pass);
  words : (k : List ℕ) → HasEntry l.pin.room l.fn.entry.0 k (state l.fn.pass) → Filled k l.i l.words;
}
