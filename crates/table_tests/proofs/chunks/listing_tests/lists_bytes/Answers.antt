use Rattle.oak_core.proofs.seats.SamePass.{stays_both}
use Rattle.oak_core.specs.Passes.{state, key as sizes, call_of}
use Rattle.chunk_ops.proofs.FoundEntries.{entry_still}
use Rattle.chunk_ops.proofs.PinsKept.{under_only}
use Rattle.table_tests.proofs.FoundEntries.{step_has}
use Rattle.table_tests.proofs.StillPinned.{still_under}
use Rattle.table_tests.proofs.chunks.listing_tests.lists_bytes.Goals as goal

pub entry_key-key-requires-clause-entry : goal.entry_key-key-requires-clause-entry
entry_key-key-requires-clause-entry g c = step_has (sizes c.args.table.now) (call_of c.loop-byte.pass) c.args.pin.now.room c.loop-byte.from c.in-Some.entry (state c.loop-byte.pass) (state c.next_entry.new.pass) c.in-Some.ensures.steps

pub loop-byte-preserved : goal.loop-byte-preserved
loop-byte-preserved g c = let z = sizes c.args.table.now in let r = c.args.pin.now.room in let s = c.loop-byte.invariant in let n = c.in-Some.ensures in let e = c.entry_key-key.ensures in
    let now = call_of c.loop-byte.pass in let u = state c.args.pass.now in let v = state c.loop-byte.pass in let w = state c.next_entry.new.pass in let x = state c.entry_key-key.new.pass in
    let later = call_of c.next_entry.new.pass in let h = step_has z now r c.loop-byte.from c.in-Some.entry v w n.steps in record {
      own = stays_both (stays_both s.own n.own) e.own;
      still = still_under z later r u w x (still_under z now r u v w s.still n.steps.under) (under_only z later r w x n.steps.under.pin.has e.only);
      from = (h.0, entry_still later r c.in-Some.entry.0 h.0 w x e.only h.1);
    }
