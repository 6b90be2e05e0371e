-- What the tests keep of a pass that added a key to a pinned room.
use Rattle.std.proofs.Common.{◌≡◌, ℕ, List, IfOk, IfErr, Result, Ok, Err, None, ap, ◌∙◌}
use Rattle.oak_model.specs.declared.classes.Class.{Class}
use Rattle.oak_model.specs.Limits.{Sizes}
use Rattle.arena_core.specs.declared.blocks.HeldBlocks.{HeldBlocks}
use Rattle.arena_ops.specs.Storing.{given}
use Rattle.arena_ops.specs.Taking.{Gives}
use Rattle.chunk_core.specs.declared.holds.RoomHolds.{RoomHolds}
use Rattle.oak_core.specs.declared.states.Numbers.{Numbers}
use Rattle.oak_core.specs.declared.states.PassState.{PassState}
use Rattle.chunk_ops.specs.declared.entries.EntryNo.{EntryNo}
use Rattle.chunk_ops.specs.declared.entries.NotAdded.{NotAdded}
use Rattle.chunk_ops.specs.Adds.{AddsEntry, KeepsBlock, MayAdd}
use Rattle.chunk_ops.specs.ClaimLaws.{add_still}
use Rattle.chunk_ops.specs.PinRecords.{HasRoomPin, UnderPin, room_pin, with_room_pin}
use Rattle.chunk_ops.specs.RoomPins.{Unpins}
use Rattle.chunk_ops.proofs.LeadsOver.{span_stays}
use Rattle.chunk_ops.specs.TestStates.{HoldsAPin, IsIdleAgain, but_block}

-- whatever the addition answered, the pin stands
pub added_pinned : (z : Sizes) (call r : ℕ) (c : Class) (b : ℕ) (k : List ℕ) (v w : PassState) (o : Result EntryNo NotAdded) → IfOk o (λ i. AddsEntry z call r i.0 c b k v w) → IfErr o (λ _. KeepsBlock z call r c b k v w) → HasRoomPin z r w
added_pinned z call r c b k v w (Ok i) ok err = ok.pin.has
added_pinned z call r c b k v w (Err n) ok err = err.pin.has

-- ---- a search under the pin leaves what the pass had

-- but for the block it had a pin alone
pub rest_under : (z : Sizes) (call r : ℕ) (c : Class) (b : ℕ) (u v : PassState) → UnderPin z call r u v → HoldsAPin (but_block c b u) → HoldsAPin (but_block c b v)
rest_under z call r c b u v a rest = record {
  hand = ap (λ (n : Numbers). n.hand) a.learns.all.numbers ∙ rest.hand;
  blocks = ap (given c b) a.blocks ∙ rest.blocks;
  headers = a.headers ∙ rest.headers;
  rooms = ap (with_room_pin None) a.pin.rooms ∙ rest.rooms;
}

pub claim_under : (z : Sizes) (call r : ℕ) (c : Class) (b : ℕ) (u v : PassState) → UnderPin z call r u v → HoldsAPin (but_block c b u) → v.rooms.claim ≡ None
claim_under z call r c b u v a rest = ap (λ (h : RoomHolds). h.claim) a.pin.rooms ∙ ap (λ (h : RoomHolds). h.claim) rest.rooms

pub may_under : (z : Sizes) (call r : ℕ) (c : Class) (b : ℕ) (k : List ℕ) (u v : PassState) → UnderPin z call r u v → MayAdd z c b k u → MayAdd z c b k v
may_under z call r c b k u v a may = add_still z c b k u v a.blocks (span_stays (room_pin u) (room_pin v) a.pin.stays) may

pub idle_under : (z : Sizes) (call r : ℕ) (u v x : PassState) → UnderPin z call r u v → IsIdleAgain v x → IsIdleAgain u x
idle_under z call r u v x a i = record { numbers = i.numbers ∙ a.learns.all.numbers; idle = i.idle }

-- the entry has the block, and the pass holds nothing
pub added_idle : (z : Sizes) (call r i : ℕ) (c : Class) (b : ℕ) (k : List ℕ) (u v w : PassState) (later : ℕ) → HoldsAPin (but_block c b u) → AddsEntry z call r i c b k u v → Unpins z later r v w → IsIdleAgain u w
added_idle z call r i c b k u v w later rest added undone = let numbers : w.numbers ≡ u.numbers = undone.stands.numbers ∙ added.learns.all.numbers in record {
  numbers = numbers;
  idle = record {
    hand = ap (λ (n : Numbers). n.hand) numbers ∙ rest.hand;
    blocks = undone.blocks ∙ (added.blocks ∙ rest.blocks);
    headers = undone.headers ∙ (added.headers ∙ rest.headers);
    rooms = undone.rooms ∙ (ap (with_room_pin None) added.pin.rooms ∙ rest.rooms);
  };
}

-- the block that was handed back is given back, and the pass holds nothing
pub refused_idle : (z : Sizes) (call r : ℕ) (c : Class) (b : ℕ) (k : List ℕ) (u v w x : PassState) (later last : ℕ) → HoldsAPin (but_block c b u)
    → KeepsBlock z call r c b k u v → Unpins z later r v w → Gives z last c b w x → IsIdleAgain u x
refused_idle z call r c b k u v w x later last rest kept undone gave = let numbers : x.numbers ≡ u.numbers = ap (λ (y : PassState). y.numbers) gave.after ∙ (undone.stands.numbers ∙ kept.learns.all.numbers) in record {
  numbers = numbers;
  idle = record {
    hand = ap (λ (n : Numbers). n.hand) numbers ∙ rest.hand;
    blocks = ap (λ (y : PassState). y.blocks) gave.after ∙ (ap (λ (a : HeldBlocks). given c b a) undone.blocks ∙ (kept.blocks ∙ rest.blocks));
    headers = ap (λ (y : PassState). y.headers) gave.after ∙ (undone.headers ∙ (kept.headers ∙ rest.headers));
    rooms = ap (λ (y : PassState). y.rooms) gave.after ∙ (undone.rooms ∙ (ap (with_room_pin None) kept.pin.rooms ∙ rest.rooms));
  };
}
