use Rattle.std.proofs.Common.{◌≢◌, ◌<◌, ◌≤◌, ℕ}
use Rattle.oak_core.specs.AloneWords.{Runs}
use Rattle.oak_core.specs.Passes.{Stays, state, key, call_of}
use Rattle.chunk_ops.specs.RoomPins.{HadMoment}
use Rattle.rebalance.specs.Holding.{ClaimsOthers, FindsUsed}
use Rattle.rebalance.specs.LoneWords.{TakenBetween}
use Rattle.rebalance.specs.Resting.{OnlyTries}
use Rattle.rebalance.proofs.room_steps.claim_between.Given as goal

abbrev pub invariant-loop-room : goal.invariant-loop-room
invariant-loop-room l = record {
  stays : Stays l.fn.pass l.pass;
  only : OnlyTries (call_of l.fn.pass) (state l.fn.pass) (state l.pass);
  others : ClaimsOthers (key l.table) l.but (state l.fn.pass) (state l.pass);
  moment : HadMoment (key l.table) (state l.fn.pass) → HadMoment (key l.table) (state l.pass);
  used : (r : ℕ) → l.from ≤ r → r < l.room → r ≢ l.but → FindsUsed (key l.table) (state l.fn.pass) (state l.pass) r;
  alone : Runs (TakenBetween (key l.table) l.but l.from l.room) (state l.fn.pass) (state l.pass);
}
