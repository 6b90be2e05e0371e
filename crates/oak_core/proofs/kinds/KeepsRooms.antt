-- A step on a word of a room keeps the rule.
use Rattle.std.proofs.Common.{◌≡◌, ℕ, false}
use mathlib.Core.Option.{some}
use lib.ListN.{get_elem?}
use Rattle.oak_model.specs.Limits.{Sizes}
use Rattle.chunk_core.specs.RoomStep.{RoomStep, pin_room, unpin_room, claim_entry, own_entry, link_entry, set_value, unlink_entry, freeze_room, thaw_room, hold_room, claim_room, store_room, open_room, retire_room}
use Rattle.oak_core.specs.declared.states.PassState.{PassState}
use Rattle.oak_core.specs.Rule.{Rule}
use Rattle.oak_core.specs.Step.{on_rooms, MayOnRooms, table_after}
use Rattle.oak_core.specs.TableState.{TableState}
use Rattle.oak_core.proofs.kinds.KeepsFreezes.{freeze_keeps, claim_keeps}
use Rattle.oak_core.proofs.kinds.KeepsThaws.{thaw_keeps}
use Rattle.oak_core.proofs.kinds.KeepsHolds.{hold_keeps}
use Rattle.oak_core.proofs.kinds.KeepsOpens.{open_keeps}
use Rattle.oak_core.proofs.kinds.KeepsRetires.{retire_keeps}
use Rattle.oak_core.proofs.kinds.KeepsStores.{store_room_keeps}
use Rattle.oak_core.proofs.kinds.KeepsClaims.{claim_entry_keeps}
use Rattle.oak_core.proofs.kinds.KeepsOwns.{own_entry_keeps}
use Rattle.oak_core.proofs.kinds.KeepsLinks.{link_entry_keeps}
use Rattle.oak_core.proofs.kinds.KeepsRoomPins.{pin_keeps, unpin_keeps}
use Rattle.oak_core.proofs.kinds.KeepsValues.{set_keeps, unlink_keeps}

-- one clause for each kind
pub room_keeps : (z : Sizes) (s : TableState) (call seat : ℕ) (v : PassState) → Rule z s → get_elem? s.states seat ≡ some v → v.numbers.spent ≡ false → (x : RoomStep) → MayOnRooms z call x v → Rule z (table_after z call (on_rooms x) seat v s)
room_keeps z s call seat v r here going (pin_room k) may = pin_keeps z s seat v r here call going k may
room_keeps z s call seat v r here going (unpin_room k) may = unpin_keeps z s seat v r here call going k may
room_keeps z s call seat v r here going (claim_entry k old) may = claim_entry_keeps z s seat v r here call going k old may
room_keeps z s call seat v r here going (own_entry f k i x) may = own_entry_keeps z s seat v r here call going f k i x may
room_keeps z s call seat v r here going (link_entry k from i old) may = link_entry_keeps z s seat v r here k from i old may call going
room_keeps z s call seat v r here going (set_value k i old new kind) may = set_keeps z s seat v r here call going k i old new kind may
room_keeps z s call seat v r here going (unlink_entry k i x) may = unlink_keeps z s seat v r here call going k i x may
room_keeps z s call seat v r here going (freeze_room k old) may = freeze_keeps z s seat v r here call going k old may
room_keeps z s call seat v r here going (thaw_room k) may = thaw_keeps z s seat v r here call going k may
room_keeps z s call seat v r here going (hold_room k old) may = hold_keeps z s seat v r here call going k old may
room_keeps z s call seat v r here going (claim_room k old) may = claim_keeps z s seat v r here call going k old may
room_keeps z s call seat v r here going (store_room p x) may = store_room_keeps z s seat v r here call going p x may
room_keeps z s call seat v r here going (open_room k) may = open_keeps z s seat v r here call going k may
room_keeps z s call seat v r here going (retire_room k) may = retire_keeps z s seat v r here call going k may
