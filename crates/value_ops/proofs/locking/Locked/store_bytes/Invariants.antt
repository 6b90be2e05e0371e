use Rattle.oak_core.specs.AloneWords.{Runs}
use Rattle.arena_ops.proofs.PutWords.{PutsSome}
use Rattle.oak_core.specs.Passes.{Stays, state, key, call_of}
use Rattle.value_ops.proofs.RewriteFacts.{StoredSoFar}
use Rattle.value_ops.proofs.locking.Locked.store_bytes.Given as goal

abbrev pub invariant-loop-i : goal.invariant-loop-i
invariant-loop-i l = record {
  stays : Stays l.fn.pass l.pass;
  stored : StoredSoFar (key l.table) (call_of l.fn.pass) l.fn.self.header l.bytes l.i (state l.fn.pass) (state l.pass);
  alone : Runs (PutsSome l.first l.bytes l.i) (state l.fn.pass) (state l.pass);
}
