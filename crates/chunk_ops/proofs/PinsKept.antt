-- A pin that a call keeps is kept over several calls.
use Rattle.std.proofs.Common.{◌≡◌, ℕ, ◌-◌, List, sym, refl, ap, ◌∙◌, subst, Option, Some, None}
use Rattle.oak_model.specs.Limits.{Sizes}
use Rattle.chunk_core.specs.declared.holds.PinnedRoom.{PinnedRoom}
use Rattle.chunk_core.specs.declared.holds.RoomHolds.{RoomHolds}
use Rattle.chunk_core.specs.MayOnRooms.{FindsEntry}
use Rattle.oak_core.specs.declared.states.PassState.{PassState}
use Rattle.oak_core.proofs.calls.CallSteps.{learns_both, stands_learns}
use Rattle.chunk_ops.specs.declared.entries.EntryNo.{EntryNo}
use Rattle.chunk_ops.specs.Finds.{BelongsBehind, LiesBefore, LiesBehind}
use Rattle.chunk_ops.specs.PinRecords.{HasEntry, HasRoomPin, RoomPinned, PinKept, PinStays, OnlyMeets, UnderPin, pin_or, with_room_pin}

pub pins_same : (p : PinnedRoom) → PinStays p p
pins_same p = record { room = refl; found = refl; base = refl; low = refl; high = refl; entries = λ e has. has }

pub kept_same : (z : Sizes) (r : ℕ) (a : RoomHolds) → RoomPinned z r a → PinKept z r a a
kept_same z r a p = record { has = p; stays = pins_same (pin_or a.pin); rooms = ap (λ (o : Option PinnedRoom). with_room_pin o a) p.pin.is }

pub pins_both : (p q s : PinnedRoom) → PinStays p q → PinStays q s → PinStays p s
pins_both p q s a b = record {
  room = b.room ∙ a.room;
  found = b.found ∙ a.found;
  base = b.base ∙ a.base;
  low = b.low ∙ a.low;
  high = b.high ∙ a.high;
  entries = λ e has. b.entries e (a.entries e has);
}

pub kept_both : (z : Sizes) (r : ℕ) (a b d : RoomHolds) → PinKept z r a b → PinKept z r b d → PinKept z r a d
kept_both z r a b d k l = record { has = l.has; stays = pins_both (pin_or a.pin) (pin_or b.pin) (pin_or d.pin) k.stays l.stays; rooms = l.rooms ∙ ap (with_room_pin (Some (pin_or d.pin))) k.rooms }

-- loads that leave the rooms keep it
pub under_only : (z : Sizes) (call r : ℕ) (v w : PassState) → HasRoomPin z r v → OnlyMeets call v w → UnderPin z call r v w
under_only z call r v w p o = record {
  learns = stands_learns call v w o.stands;
  blocks = o.blocks;
  headers = o.headers;
  pin = subst (λ (a : RoomHolds). PinKept z r v.rooms a) (sym o.rooms) (kept_same z r v.rooms p);
}

pub under_both : (z : Sizes) (call r : ℕ) (u v w : PassState) → UnderPin z call r u v → UnderPin z call r v w → UnderPin z call r u w
under_both z call r u v w a b = record {
  learns = learns_both call u v w a.learns b.learns;
  blocks = b.blocks ∙ a.blocks;
  headers = b.headers ∙ a.headers;
  pin = kept_both z r u.rooms v.rooms w.rooms a.pin b.pin;
}

-- what a pin found is found while the pass has the same of rooms: an entry, and the place of a key
pub entry_kept : (r i : ℕ) (key : List ℕ) (v w : PassState) → w.rooms ≡ v.rooms → HasEntry r i key v → HasEntry r i key w
entry_kept r i key v w same h = record { entry = h.entry; finds = subst (λ (a : RoomHolds). FindsEntry r i a (pin_or a.pin) h.entry) (sym same) h.finds; key_is = h.key_is }

pub lies_kept : (r : ℕ) (behind : Option EntryNo) (key : List ℕ) (v w : PassState) → w.rooms ≡ v.rooms → LiesBehind r behind key v → LiesBehind r behind key w
lies_kept r None key v w same h = tt
lies_kept r (Some i) key v w same h = (h.0, entry_kept r i.0 h.0 v w same h.1, h.2)

pub before_kept : (r link : ℕ) (key : List ℕ) (v w : PassState) → w.rooms ≡ v.rooms → LiesBefore r link key v → LiesBefore r link key w
before_kept r link key v w same h ne = let l = h ne in (l.0, entry_kept r (link - 1) l.0 v w same l.1, l.2)

pub belongs_kept : (r : ℕ) (behind : Option EntryNo) (key : List ℕ) (v w : PassState) → w.rooms ≡ v.rooms → BelongsBehind r behind key v → BelongsBehind r behind key w
belongs_kept r behind key v w same b = record { above = lies_kept r behind key v w same b.above; next = λ i other e l before. b.next i other (entry_kept r i other w v (sym same) e) (lies_kept r behind other w v (sym same) l) before }
