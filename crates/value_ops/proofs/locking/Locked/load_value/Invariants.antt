use Rattle.std.proofs.Common.{◌≡◌, ◌*◌, length, take}
use Rattle.oak_core.specs.AloneWords.{Runs}
use Rattle.oak_core.specs.Passes.{state, key, call_of, scratch_of}
use Rattle.oak_core.specs.Scratch.{StaysButScratch}
use Rattle.value_ops.specs.Pinning.{WordsStay}
use Rattle.value_ops.specs.HeldValue.{value_held}
use Rattle.oak_core.specs.Finding.{LoadsMore}
use Rattle.value_ops.proofs.locking.Locked.load_value.Given as goal

abbrev pub invariant-loop-i : goal.invariant-loop-i
invariant-loop-i l = record {
  stays : StaysButScratch l.fn.pass l.pass;
  met : LoadsMore (key l.table) (call_of l.fn.pass) (state l.fn.pass) (state l.pass);
  alone : Runs WordsStay (state l.fn.pass) (state l.pass);
  long : length (scratch_of l.pass) ≡ l.len;
  loaded : take (8 * l.i) (scratch_of l.pass) ≡ take (8 * l.i) (value_held l.fn.self.header (state l.fn.pass).headers.held);
}
