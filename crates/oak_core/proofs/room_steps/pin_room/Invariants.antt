use Rattle.std.proofs.Common.{ℕ}
use Rattle.oak_core.specs.RoomCalls.{NamesRoomPin, PinsRoomWord}
use Rattle.oak_core.specs.Passes.{state, key, call_of}
use Rattle.oak_core.proofs.room_steps.pin_room.Given as goal

abbrev pub ghosts-add_said : goal.ghosts-add_said
ghosts-add_said a = record { told = λ n w. (r : ℕ) → NamesRoomPin (key a.table.now) r a.word → PinsRoomWord (key a.table.now) (call_of a.pass.now) r (state a.pass.now) n w }
