-- What a pass has of rooms stays, where another room comes or goes.
use Rattle.std.proofs.Common.{◌≡◌, ◌≢◌, ℕ, ◌==◌, cond, Bool, List, [], ◌∷◌, sym, refl, ap, ◌∙◌, subst, ne_eqb, Option, None}
use Rattle.oak_model.specs.Limits.{Sizes}
use Rattle.oak_model.proofs.Counting.{decided}
use Rattle.chunk_core.specs.declared.holds.HeldRoom.{HeldRoom}
use Rattle.chunk_core.specs.declared.holds.MovingRange.{MovingRange}
use Rattle.chunk_core.specs.declared.holds.RoomCopy.{RoomCopy}
use Rattle.chunk_core.specs.declared.holds.RoomHeldAs.TheVariants.{Held}
use Rattle.chunk_core.specs.declared.holds.RoomHolds.{RoomHolds}
use Rattle.chunk_core.specs.declared.states.TheConstants.{FROZEN, HELD}
use Rattle.chunk_core.specs.RoomCopies.{copy_in, copy_of, without_room}
use Rattle.chunk_core.specs.RoomRule.{in_room_state}
use Rattle.chunk_core.proofs.HeldRooms.{room_rows, row_else, without_else, each_without}
use Rattle.oak_core.specs.declared.states.PassState.{PassState}
use Rattle.chunk_ops.specs.PinRecords.{HasRoomPin, RoomPinned}
use Rattle.chunk_ops.specs.RoomPins.{Unpins}
use Rattle.rebalance.specs.Holding.{HasHeld, HasOnly, Freezes, with_moving, with_claimed, with_opened, with_retired}

-- the pin of a room that was frozen under it
pub frozen_pin : (z : Sizes) (call r : ℕ) (v w : PassState) → HasRoomPin z r v → Freezes z call r v w → HasRoomPin z r w
frozen_pin z call r v w p f = subst (RoomPinned z r) (sym f.rooms) (record {
  inside = p.inside;
  pin = record { is = p.pin.is; room = p.pin.room; good = p.pin.good };
  bounds = record { fit = p.bounds.fit; low = p.bounds.low; high = p.bounds.high };
  few = p.few;
  found = p.found;
  alike = p.alike;
})

-- once the pin is undone, the room is frozen still
pub unpinned_frozen : (z : Sizes) (call r : ℕ) (v w : PassState) → Unpins z call r v w → in_room_state r FROZEN v.rooms ≡ 1 → (w.rooms.pin ≡ None) × (in_room_state r FROZEN w.rooms ≡ 1)
unpinned_frozen z call r v w u e = (ap (λ (a : RoomHolds). a.pin) u.rooms, subst (λ (a : RoomHolds). in_room_state r FROZEN a ≡ 1) (sym u.rooms) e)

-- the words of a room, where another one is the first, or is gone

pub copy_behind : (j : ℕ) (h : HeldRoom) (hs : List HeldRoom) → h.room ≢ j → copy_of j (h ∷ hs) ≡ copy_of j hs
unfolding copy_of
copy_behind j h hs ne = ap (λ (b : Bool). cond b (copy_in h.held_as) (copy_of j hs)) (ne_eqb h.room j ne)

copy_without : (j r : ℕ) (hs : List HeldRoom) → j ≢ r → copy_of j (without_room r hs) ≡ copy_of j hs
unfolding without_room copy_of
copy_without j r [] ne = refl
copy_without j r (h ∷ hs) ne = decided h.room r (λ b. copy_of j (cond b (without_room r hs) (h ∷ without_room r hs)) ≡ copy_of j (h ∷ hs))
    (λ e. copy_without j r hs ne ∙ sym (copy_behind j h hs (λ q. ne (sym q ∙ e))))
    (λ _. ap (λ (o : Option RoomCopy). cond (h.room == j) (copy_in h.held_as) o) (copy_without j r hs ne))

-- a room that the pass holds, while it comes to hold another, or gives another up

module _ (z : Sizes) (j r : ℕ) (ne : j ≢ r) (c : RoomCopy) (a : RoomHolds) (has : HasHeld z j c a) where
  pub held_claimed : (w : RoomCopy) → HasHeld z j c (with_claimed r w a)
  unfolding room_rows
  held_claimed w = record {
    held = row_else r j HELD (record { room = r; held_as = Held w }) a.held refl ne ∙ has.held;
    copy = copy_behind j (record { room = r; held_as = Held w }) a.held (λ e. ne (sym e)) ∙ has.copy;
    whole = has.whole;
  }

  gone : (moving : List MovingRange) → HasHeld z j c (record a { held = without_room r a.held; moving = moving })
  unfolding room_rows
  gone moving = record { held = without_else r j HELD a.held ne ∙ has.held; copy = copy_without j r a.held ne ∙ has.copy; whole = has.whole }

  pub held_moving : (w : RoomCopy) (g : MovingRange) → HasHeld z j c (with_moving r w g a)
  unfolding room_rows
  held_moving w g = record {
    held = row_else r j HELD (record { room = r; held_as = Held w }) (without_room r a.held) refl ne ∙ (gone a.moving).held;
    copy = copy_behind j (record { room = r; held_as = Held w }) (without_room r a.held) (λ e. ne (sym e)) ∙ (gone a.moving).copy;
    whole = has.whole;
  }

  pub held_opened : HasHeld z j c (with_opened r a)
  held_opened = gone (with_opened r a).moving

  pub held_retired : HasHeld z j c (with_retired r a)
  held_retired = gone (with_retired r a).moving

-- a pass that has but one room, and comes to hold it, has but that one
pub only_moving : (r : ℕ) (w : RoomCopy) (g : MovingRange) (a : RoomHolds) → HasOnly r a → HasOnly r (with_moving r w g a)
only_moving r w g a only = record { pin = only.pin; held = (refl, each_without (λ (h : HeldRoom). h.room ≡ r) r a.held only.held) }
