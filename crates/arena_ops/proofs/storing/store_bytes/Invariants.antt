use Rattle.oak_core.specs.Passes.{Stays, state, key, call_of}
use Rattle.arena_ops.proofs.StoredBytes.{BytesStored}
use Rattle.arena_ops.proofs.storing.store_bytes.Given as goal

abbrev pub invariant-loop-i : goal.invariant-loop-i
invariant-loop-i l = record {
  stays : Stays l.fn.pass l.pass;
  stored : BytesStored (key l.table) (call_of l.fn.pass) l.block.class l.block.number l.bytes l.i (state l.fn.pass) (state l.pass);
}
