-- A step on a word of a room leaves the pass's pin on a header.
use Rattle.std.proofs.Common.{◌≡◌, refl}
use Rattle.chunk_core.specs.RoomStep.{RoomStep, pin_room, unpin_room, claim_entry, own_entry, link_entry, set_value, unlink_entry, freeze_room, thaw_room, hold_room, claim_room, store_room, open_room, retire_room}
use Rattle.oak_core.specs.declared.states.PassState.{PassState}
use Rattle.oak_core.specs.Memory.{Memory}
use Rattle.oak_core.specs.RoomTeaching.{headers_by_room}

pub pin_by_room : (x : RoomStep) (m : Memory) (v : PassState) → (headers_by_room x m v).pin ≡ v.headers.pin
pin_by_room (pin_room r) m v = refl
pin_by_room (unpin_room r) m v = refl
pin_by_room (claim_entry r old) m v = refl
pin_by_room (own_entry f r i x) m v = refl
pin_by_room (link_entry r from i old) m v = refl
pin_by_room (set_value r i old new kind) m v = refl
pin_by_room (unlink_entry r i x) m v = refl
pin_by_room (freeze_room r old) m v = refl
pin_by_room (thaw_room r) m v = refl
pin_by_room (hold_room r old) m v = refl
pin_by_room (claim_room r old) m v = refl
pin_by_room (store_room q x) m v = refl
pin_by_room (open_room r) m v = refl
pin_by_room (retire_room r) m v = refl
