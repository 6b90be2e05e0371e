use Rattle.std.proofs.Common.{ℕ}
use Rattle.oak_core.specs.RoomCalls.{NamesRoomPin}
use Rattle.oak_core.specs.Passes.{state, key, call_of}
use Rattle.oak_core.specs.Thawing.{ThawsRoom}
use Rattle.oak_core.proofs.room_steps.thaw_room.Given as goal

abbrev pub ghosts-sub_said : goal.ghosts-sub_said
ghosts-sub_said a = record { told = λ n w. (r : ℕ) → NamesRoomPin (key a.table.now) r a.word → ThawsRoom (key a.table.now) (call_of a.pass.now) r (state a.pass.now) n w }
