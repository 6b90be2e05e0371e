use Rattle.chunk_core.specs.Rooms.{RoomSpot}
use Rattle.oak_core.specs.RoomCalls.{NamesRoomWord, StoresRoom}
use Rattle.oak_core.specs.Passes.{state, key, call_of}
use Rattle.oak_core.proofs.room_steps.store_room.Given as goal

abbrev pub ghosts-store_said : goal.ghosts-store_said
ghosts-store_said a = record { told = λ _ w. (p : RoomSpot) → NamesRoomWord (key a.table.now) p a.word → StoresRoom (key a.table.now) (call_of a.pass.now) p a.value (state a.pass.now) w }
