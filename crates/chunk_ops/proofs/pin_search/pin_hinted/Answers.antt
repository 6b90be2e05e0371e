use Rattle.std.proofs.Common.{ℕ, subst}
use Rattle.std.specs.Prelude.{IfNone}
use Rattle.oak_core.specs.AloneWords.{Runs}
use Rattle.oak_core.specs.Passes.{call_of, key as sizes, state}
use Rattle.chunk_ops.specs.AskedRanges.{CoversKey}
use Rattle.chunk_ops.specs.LoneRooms.{IsOff, LoneTry}
use Rattle.chunk_ops.specs.RoomPins.{MissesFirst}
use Rattle.chunk_ops.proofs.pin_search.pin_hinted.Goals as goal

pub returns-clause-off : goal.returns-clause-off
returns-clause-off c = let p = c.args.pass.now in
    subst (λ (r : ℕ). IfNone c.try_room.result (MissesFirst (sizes c.args.table.now) (call_of p) r (CoversKey c.args.key.now) (state p) (state c.try_room.new.pass))) c.first_room-room.ensures.first c.try_room.ensures.off

pub returns-clause-alone : goal.returns-clause-alone
returns-clause-alone c = let z = sizes c.args.table.now in let v = state c.args.pass.now in
    subst (λ (r : ℕ). IfNone c.try_room.result (Runs (LoneTry z (IsOff z r (CoversKey c.args.key.now)) v.rooms) v (state c.try_room.new.pass))) c.first_room-room.ensures.first c.try_room.ensures.alone
