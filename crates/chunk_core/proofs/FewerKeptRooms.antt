-- The numbers that passes keep of rooms, behind a step by which one holds a room no more.
use Rattle.std.proofs.Common.{◌≡◌, ℕ, ◌≤◌, cond, List, [], ◌∷◌, ◌++◌, map, set, sym, ◌∙◌, subst, arith}
use mathlib.Core.Option.{some}
use lib.ListN.{get_elem?}
use Rattle.oak_model.specs.Counts.{one_if, total}
use Rattle.oak_model.specs.Kept.{KeptWord, keeps, AreTrueTo, KeptNumbersStand}
use Rattle.oak_model.proofs.Counting.{decided, total_append, total_map, total_zero}
use Rattle.oak_model.proofs.KeptLaws.{kept_put, kept_unkept}
use Rattle.oak_model.proofs.Lists.{at_map, each_append, map_set}
use Rattle.oak_model.proofs.RowLaws.{each_first, each_rest}
use Rattle.chunk_core.specs.declared.holds.HeldRoom.{HeldRoom}
use Rattle.chunk_core.specs.declared.holds.MovingRange.{MovingRange}
use Rattle.chunk_core.specs.declared.holds.RoomHolds.{RoomHolds}
use Rattle.chunk_core.specs.KeptRooms.{kept_of_claim, kept_of_held, kept_of_rooms, kept_of_rooms_held}
use Rattle.chunk_core.specs.RoomCopies.{without_room}
use Rattle.chunk_core.specs.RoomStep.{put_room}
use Rattle.chunk_core.specs.Rooms.{RoomMemory, RoomSpot, at_room_pin, read_room, same_room_spot}
use Rattle.chunk_core.proofs.RoomWords.{read_room-of}
use Rattle.chunk_core.proofs.UnkeptRooms.{pin_unkept}

-- among the rooms that are left no word is kept more often
keeps_fewer : (q : RoomSpot) (r : ℕ) (hs : List HeldRoom) → keeps same_room_spot q (kept_of_rooms_held (without_room r hs)) ≤ keeps same_room_spot q (kept_of_rooms_held hs)
unfolding total without_room kept_of_rooms_held
keeps_fewer q r [] = omega arith
keeps_fewer q r (h ∷ hs) = let f = (λ (w : KeptWord RoomSpot). one_if (same_room_spot w.spot q)) in let t = keeps_fewer q r hs in
    let a = total_append f (kept_of_held h.room h.held_as) (kept_of_rooms_held hs) in let b = total_append f (kept_of_held h.room h.held_as) (kept_of_rooms_held (without_room r hs)) in
    decided h.room r (λ c. keeps same_room_spot q (kept_of_rooms_held (cond c (without_room r hs) (h ∷ without_room r hs))) ≤ keeps same_room_spot q (kept_of_held h.room h.held_as ++ kept_of_rooms_held hs)) (λ _. omega arith) (λ _. omega arith)

-- and their numbers are true
true_fewer : (read : RoomSpot → ℕ) (r : ℕ) (hs : List HeldRoom) → AreTrueTo read (kept_of_rooms_held hs) → AreTrueTo read (kept_of_rooms_held (without_room r hs))
unfolding without_room kept_of_rooms_held
true_fewer read r [] e = e
true_fewer read r (h ∷ hs) e = let P : KeptWord RoomSpot → Type 0 = (λ (w : KeptWord RoomSpot). read w.spot ≡ w.number) in
    let t = true_fewer read r hs (each_rest P (kept_of_held h.room h.held_as) (kept_of_rooms_held hs) e) in
    decided h.room r (λ c. AreTrueTo read (kept_of_rooms_held (cond c (without_room r hs) (h ∷ without_room r hs)))) (λ _. t)
    (λ _. each_append P (kept_of_held h.room h.held_as) (kept_of_rooms_held (without_room r hs)) (each_first P (kept_of_held h.room h.held_as) (kept_of_rooms_held hs) e) t)

module _ (m : RoomMemory) (hs : List RoomHolds) (kept : KeptNumbersStand same_room_spot (read_room m) (map kept_of_rooms hs)) (seat : ℕ) (a : RoomHolds) (here : get_elem? hs seat ≡ some a) (r : ℕ) (gs : List MovingRange) where
  -- what the pass has of rooms then
  abbrev b : RoomHolds
  b = record a { held = without_room r a.held; moving = gs }

  mine : get_elem? (map kept_of_rooms hs) seat ≡ some (kept_of_rooms a)
  mine = at_map kept_of_rooms hs seat a here

  still_true : AreTrueTo (read_room m) (kept_of_rooms b)
  still_true = let P : KeptWord RoomSpot → Type 0 = (λ (w : KeptWord RoomSpot). read_room m w.spot ≡ w.number) in let e = kept.true_to seat (kept_of_rooms a) mine in
      each_append P (kept_of_claim a.claim) (kept_of_rooms_held (without_room r a.held)) (each_first P (kept_of_claim a.claim) (kept_of_rooms_held a.held) e) (true_fewer (read_room m) r a.held (each_rest P (kept_of_claim a.claim) (kept_of_rooms_held a.held) e))

  no_more : (q : RoomSpot) → keeps same_room_spot q (kept_of_rooms b) ≤ keeps same_room_spot q (kept_of_rooms a)
  no_more q = let f = (λ (w : KeptWord RoomSpot). one_if (same_room_spot w.spot q)) in let t = keeps_fewer q r a.held in
      let y = total_append f (kept_of_claim a.claim) (kept_of_rooms_held a.held) in let w = total_append f (kept_of_claim a.claim) (kept_of_rooms_held (without_room r a.held)) in omega arith

  -- the pass holds the room no more, and the pin word of any room becomes x
  pub fewer_kept : (k x : ℕ) → KeptNumbersStand same_room_spot (read_room (put_room m (at_room_pin k) x)) (map kept_of_rooms (set hs seat (record a { held = without_room r a.held; moving = gs })))
  fewer_kept k x = kept_unkept same_room_spot (read_room m) (read_room (put_room m (at_room_pin k) x)) (at_room_pin k) x (read_room-of _) (map kept_of_rooms (set hs seat b)) none
      (subst (KeptNumbersStand same_room_spot (read_room m)) (sym (map_set kept_of_rooms hs seat b))
      (kept_put same_room_spot (read_room m) (map kept_of_rooms hs) seat (kept_of_rooms a) (kept_of_rooms b) mine still_true (λ q. let o = kept.once q in let n = no_more q in omega arith) kept))
    where
      none : total (keeps same_room_spot (at_room_pin k)) (map kept_of_rooms (set hs seat (record a { held = without_room r a.held; moving = gs }))) ≡ 0
      none = total_map kept_of_rooms (keeps same_room_spot (at_room_pin k)) (set hs seat b) ∙ total_zero (λ (u : RoomHolds). keeps same_room_spot (at_room_pin k) (kept_of_rooms u)) (set hs seat b) (λ j u _. pin_unkept k u)
