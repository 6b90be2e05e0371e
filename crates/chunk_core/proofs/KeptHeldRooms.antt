-- The numbers that passes keep of rooms, behind a step by which one freezes a room, opens it again, or comes to hold it.
use Rattle.std.proofs.Common.{◌≡◌, ℕ, ◌+◌, ◌*◌, ◌≤◌, List, [], ◌∷◌, ◌++◌, map, set, cond, refl, sym, ap, ◌∙◌, subst, inr, arith}
use mathlib.Core.Logic.{dite}
use mathlib.Core.Option.{some}
use native.Mathlib.Decide.{ℕ_discrete}
use lib.ListN.{get_elem?}
use Rattle.pin_word.specs.PinWord.{state_of, count_of}
use Rattle.oak_model.specs.Counts.{one_at, one_if, total}
use Rattle.oak_model.specs.Kept.{KeptWord, KeptNumbersStand, AreTrueTo, keeps}
use Rattle.oak_model.specs.Limits.{Sizes}
use Rattle.oak_model.proofs.Counting.{decided, one_at-same, one_at-other, total_append, total_at, total_map, total_zero}
use Rattle.oak_model.proofs.KeptLaws.{kept_put, kept_unkept}
use Rattle.oak_model.proofs.Lists.{at_map, each_append, map_set, map_set_same}
use Rattle.oak_model.proofs.RowLaws.{each_first, each_rest}
use Rattle.oak_model.proofs.SumLaws.{times-one}
use Rattle.chunk_core.specs.declared.states.TheConstants.{FREE, FROZEN, HELD}
use Rattle.chunk_core.specs.declared.holds.HeldRoom.{HeldRoom}
use Rattle.chunk_core.specs.declared.holds.MovingRange.{MovingRange}
use Rattle.chunk_core.specs.declared.holds.RoomHeldAs.{RoomHeldAs}
use Rattle.chunk_core.specs.declared.holds.RoomHeldAs.TheVariants.{Frozen, Held}
use Rattle.chunk_core.specs.declared.holds.RoomHolds.{RoomHolds}
use Rattle.chunk_core.specs.KeptRooms.{kept_of_claim, kept_of_copy, kept_of_held, kept_of_rooms, kept_of_rooms_held}
use Rattle.chunk_core.specs.RoomCopies.{without_room}
use Rattle.chunk_core.specs.RoomHolds.{claims_on}
use Rattle.chunk_core.specs.RoomReads.{copy_at}
use Rattle.chunk_core.specs.RoomRule.{in_room_state, room_state, RoomsStand}
use Rattle.chunk_core.specs.RoomStep.{put_room}
use Rattle.chunk_core.specs.Rooms.{RoomMemory, RoomSpot, at_room_pin, read_room, room_at, part_at, same_room_spot}
use Rattle.chunk_core.proofs.Claims.{unclaimed_free}
use Rattle.chunk_core.proofs.KeptCopies.{copy_once, copy_read}
use Rattle.chunk_core.proofs.RoomWords.{read_room-of}
use Rattle.chunk_core.proofs.UnkeptRooms.{copy_of_room, none_kept, of_other, pin_unkept}

-- of a frozen room a pass keeps nothing, so it keeps the same without it
pub without_kept : (r : ℕ) (hs : List HeldRoom) → total (λ (h : HeldRoom). one_at h.room r * one_at (room_state h.held_as) HELD) hs ≡ 0 → kept_of_rooms_held (without_room r hs) ≡ kept_of_rooms_held hs
unfolding total without_room kept_of_rooms_held
without_kept r [] none = refl
without_kept r (h ∷ hs) none = let t = without_kept r hs (omega arith) in
    decided h.room r (λ b. kept_of_rooms_held (cond b (without_room r hs) (h ∷ without_room r hs)) ≡ kept_of_held h.room h.held_as ++ kept_of_rooms_held hs)
    (λ e. t ∙ ap (λ (ws : List (KeptWord RoomSpot)). ws ++ kept_of_rooms_held hs) (sym (frozen h.held_as (let o = one_at-same h.room r e in let q = times-one (one_at h.room r) (one_at (room_state h.held_as) HELD) o in omega arith))))
    (λ _. ap (λ (ws : List (KeptWord RoomSpot)). kept_of_held h.room h.held_as ++ ws) t)
  where
    frozen : (s : RoomHeldAs) → one_at (room_state s) HELD ≡ 0 → kept_of_held h.room s ≡ []
    frozen Frozen e = refl
    frozen (Held w) e = absurd (let o = one_at-same HELD HELD refl in omega arith)

module _ (z : Sizes) (m : RoomMemory) (content : ℕ → List ℕ) (hs : List RoomHolds) (rule : RoomsStand z m content hs) (kept : KeptNumbersStand same_room_spot (read_room m) (map kept_of_rooms hs)) (seat : ℕ) (a : RoomHolds) (here : get_elem? hs seat ≡ some a) (r x : ℕ) where
  abbrev m' : RoomMemory
  m' = put_room m (at_room_pin r) x

  -- no pass keeps the pin word
  pin_put : KeptNumbersStand same_room_spot (read_room (put_room m (at_room_pin r) x)) (map kept_of_rooms hs)
  pin_put = kept_unkept same_room_spot (read_room m) (read_room m') (at_room_pin r) x (read_room-of _) (map kept_of_rooms hs)
      (total_map kept_of_rooms (keeps same_room_spot (at_room_pin r)) hs ∙ total_zero (λ (u : RoomHolds). keeps same_room_spot (at_room_pin r) (kept_of_rooms u)) hs (λ j u _. pin_unkept r u)) kept

  -- a pass that freezes a room keeps nothing more
  pub freeze_kept : KeptNumbersStand same_room_spot (read_room (put_room m (at_room_pin r) x)) (map kept_of_rooms (set hs seat (record a { held = record { room = r; held_as = Frozen } ∷ a.held })))
  unfolding kept_of_rooms_held
  freeze_kept = subst (KeptNumbersStand same_room_spot (read_room m')) (sym (map_set_same kept_of_rooms hs seat a (record a { held = record { room = r; held_as = Frozen } ∷ a.held }) here refl)) pin_put

  -- a pass that opens a room again that it froze kept nothing of it
  pub thaw_kept : state_of (m.pin r) ≡ FROZEN → KeptNumbersStand same_room_spot (read_room (put_room m (at_room_pin r) x)) (map kept_of_rooms (set hs seat (record a { held = without_room r a.held })))
  thaw_kept frozen = subst (KeptNumbersStand same_room_spot (read_room m')) (sym (map_set_same kept_of_rooms hs seat a (record a { held = without_room r a.held }) here
      (ap (λ (ws : List (KeptWord RoomSpot)). kept_of_claim a.claim ++ ws) (without_kept r a.held unheld)))) pin_put
    where
      unheld : in_room_state r HELD a ≡ 0
      unheld = let t = total_at (in_room_state r HELD) hs seat a here in let h = rule.held r HELD (inr refl) in let o = one_at-other (state_of (m.pin r)) HELD (λ e. absurd (omega arith)) in omega arith

  -- the room has no pin, and no pass holds it
  module _ (unpinned : count_of (m.pin r) ≡ 0) (unheld : one_at (state_of (m.pin r)) HELD ≡ 0) where
    none_held : (j : ℕ) (u : RoomHolds) → get_elem? hs j ≡ some u → in_room_state r HELD u ≡ 0
    none_held j u at = let t = total_at (in_room_state r HELD) hs j u at in let h = rule.held r HELD (inr refl) in omega arith

    none_claimed : (i j : ℕ) (u : RoomHolds) → get_elem? hs j ≡ some u → claims_on r i u ≡ 0
    none_claimed i j u at = let n = unclaimed_free z m content hs rule r i unpinned in let t = total_at (claims_on r i) hs j u at in omega arith

    -- so no pass keeps a word of it
    none_keeps : (q : RoomSpot) → room_at q ≡ r → total (keeps same_room_spot q) (map kept_of_rooms hs) ≡ 0
    none_keeps q is = total_map kept_of_rooms (keeps same_room_spot q) hs ∙ total_zero (λ (u : RoomHolds). keeps same_room_spot q (kept_of_rooms u)) hs
        (λ j u at. none_kept q u (subst (λ (t : ℕ). claims_on t (part_at q) u ≡ 0) (sym is) (none_claimed (part_at q) j u at)) (subst (λ (t : ℕ). in_room_state t HELD u ≡ 0) (sym is) (none_held j u at)))

    -- the pass comes to hold it, beside rooms of which it keeps what it kept
    module _ (rest : List HeldRoom) (moving : List MovingRange) (same : kept_of_rooms_held rest ≡ kept_of_rooms_held a.held) where
      abbrev copied : List (KeptWord RoomSpot)
      copied = kept_of_copy r (copy_at z m r)

      abbrev held_now : List (KeptWord RoomSpot)
      held_now = copied ++ kept_of_rooms_held rest

      true_now : AreTrueTo (read_room (put_room m (at_room_pin r) x)) (kept_of_claim a.claim ++ (kept_of_copy r (copy_at z m r) ++ kept_of_rooms_held rest))
      true_now = let P : KeptWord RoomSpot → Type 0 = (λ (t : KeptWord RoomSpot). read_room m' t.spot ≡ t.number) in let mine = pin_put.true_to seat (kept_of_rooms a) (at_map kept_of_rooms hs seat a here) in
          let cs : List (KeptWord RoomSpot) = kept_of_claim a.claim in let ws : List (KeptWord RoomSpot) = kept_of_rooms_held a.held in
          each_append P cs held_now (each_first P cs ws mine) (each_append P copied (kept_of_rooms_held rest) (copy_read z m' r) (subst (AreTrueTo (read_room m')) (sym same) (each_rest P cs ws mine)))

      more : (q : RoomSpot) → keeps same_room_spot q (kept_of_claim a.claim ++ (kept_of_copy r (copy_at z m r) ++ kept_of_rooms_held rest)) ≡ keeps same_room_spot q (kept_of_copy r (copy_at z m r)) + keeps same_room_spot q (kept_of_rooms a)
      more q = let f = (λ (w : KeptWord RoomSpot). one_if (same_room_spot w.spot q)) in let cs : List (KeptWord RoomSpot) = kept_of_claim a.claim in let ws : List (KeptWord RoomSpot) = kept_of_rooms_held a.held in
          let e2 = total_append f cs held_now in let e3 = total_append f copied (kept_of_rooms_held rest) in let e5 = total_append f cs ws in let e6 = ap (total f) same in omega arith

      few : (q : RoomSpot) → total (keeps same_room_spot q) (map kept_of_rooms hs) + keeps same_room_spot q (kept_of_claim a.claim ++ (kept_of_copy r (copy_at z m r) ++ kept_of_rooms_held rest)) ≤ 1 + keeps same_room_spot q (kept_of_rooms a)
      few q = let e = more q in dite (ℕ_discrete (room_at q) r)
          (λ is. let n = none_keeps q is in let o = copy_once q r (copy_at z m r) in omega arith)
          (λ ne. let n = of_other q r (λ s. ne (sym s)) copied (copy_of_room r (copy_at z m r)) in let o = kept.once q in omega arith)

      -- then it keeps all words of the room besides
      pub held_kept : KeptNumbersStand same_room_spot (read_room (put_room m (at_room_pin r) x)) (map kept_of_rooms (set hs seat (record a { held = record { room = r; held_as = Held (copy_at z m r) } ∷ rest; moving = moving })))
      unfolding kept_of_rooms_held
      held_kept = subst (KeptNumbersStand same_room_spot (read_room m')) (sym (map_set kept_of_rooms hs seat (record a { held = record { room = r; held_as = Held (copy_at z m r) } ∷ rest; moving = moving })))
          (kept_put same_room_spot (read_room m') (map kept_of_rooms hs) seat (kept_of_rooms a) (kept_of_claim a.claim ++ held_now) (at_map kept_of_rooms hs seat a here) true_now few pin_put)

  -- a pass that claims a free room keeps all of its words
  pub claim_kept : count_of (m.pin r) ≡ 0 → state_of (m.pin r) ≡ FREE → KeptNumbersStand same_room_spot (read_room (put_room m (at_room_pin r) x)) (map kept_of_rooms (set hs seat (record a { held = record { room = r; held_as = Held (copy_at z m r) } ∷ a.held })))
  claim_kept unpinned free = held_kept unpinned (one_at-other (state_of (m.pin r)) HELD (λ e. absurd (omega arith))) a.held a.moving refl

  -- so does one that comes to hold a room that it froze
  pub hold_kept : count_of (m.pin r) ≡ 0 → state_of (m.pin r) ≡ FROZEN → (moving : List MovingRange) → KeptNumbersStand same_room_spot (read_room (put_room m (at_room_pin r) x)) (map kept_of_rooms (set hs seat (record a { held = record { room = r; held_as = Held (copy_at z m r) } ∷ without_room r a.held; moving = moving })))
  hold_kept unpinned frozen moving = let none : one_at (state_of (m.pin r)) HELD ≡ 0 = one_at-other (state_of (m.pin r)) HELD (λ e. absurd (omega arith)) in
      held_kept unpinned none (without_room r a.held) moving (without_kept r a.held (none_held unpinned none seat a here))
