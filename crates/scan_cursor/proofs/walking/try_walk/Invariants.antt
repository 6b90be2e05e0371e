use Rattle.std.proofs.Common.{◌≡◌, ◌<◌, false}
use Rattle.oak_model.specs.KeyNumber.{key_number}
use Rattle.oak_core.specs.AloneWords.{Runs}
use Rattle.oak_core.specs.PassState.{HoldsNothing}
use Rattle.oak_core.specs.Passes.{key as sizes, state}
use Rattle.oak_core.specs.Scratch.{StaysButSlots}
use Rattle.chunk_ops.specs.AddsAlone.{Never}
use Rattle.chunk_ops.specs.PinRecords.{WordsStay}
use Rattle.scan_cursor.specs.Busy.{AreInVain}
use Rattle.scan_cursor.specs.Walks.{WalkPasses, course_of, view_at}
use Rattle.scan_cursor.proofs.walking.try_walk.Given as goal

abbrev pub invariant-loop : goal.invariant-loop
invariant-loop l = let z = sizes l.fn.table in record {
  stays : StaysButSlots l.fn.pass l.pass;
  idle : HoldsNothing (state l.pass);
  going : l.walk.mark.ended ≡ false;
  passes : WalkPasses l.fn.way (key_number l.fn.low) (key_number l.fn.high) (course_of l.fn.way z l.fn.walk l.fn.pass) (course_of l.fn.way z l.walk l.pass);
  still : Runs WordsStay (state l.fn.pass) (state l.pass);
  vain : AreInVain l.counter (key_number l.fn.low) (key_number l.fn.high) (view_at z l.fn.pass) (view_at z l.pass);
  never : 0 < l.counter → Runs Never (state l.fn.pass) (state l.pass);
}
