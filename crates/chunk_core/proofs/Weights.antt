-- Which rooms are covers, by their states, and which pass has a room in a state.
use Rattle.std.proofs.Common.{◌≡◌, ℕ, ◌<◌, ◌≤◌, ◌⊎◌, zero, suc, List, sym, ◌∙◌, subst, ⊎_elim, arith}
use mathlib.Core.Option.{some}
use lib.ListN.{get_elem?}
use Rattle.pin_word.specs.PinWord.{state_of}
use Rattle.oak_model.specs.Counts.{one_at}
use Rattle.oak_model.specs.Limits.{Sizes}
use Rattle.oak_model.proofs.Counting.{one_at-same, one_at-other, one_at-le, one_at-true, total_at}
use Rattle.chunk_core.specs.declared.states.TheConstants.{FREE, OPEN, FROZEN, HELD}
use Rattle.chunk_core.specs.declared.holds.RoomHolds.{RoomHolds}
use Rattle.chunk_core.specs.CoverSums.{weight}
use Rattle.chunk_core.specs.RoomRule.{in_room_state, RoomsStand}
use Rattle.chunk_core.specs.Rooms.{RoomMemory}
use Rattle.chunk_core.proofs.HeldRooms.{room_rows}

pub weight_open : (w : ℕ) → state_of w ≡ OPEN → weight w ≡ 1
weight_open w e = let a = one_at-same (state_of w) OPEN e in let b = one_at-other (state_of w) FROZEN (λ q. absurd (omega arith)) in omega arith

pub weight_frozen : (w : ℕ) → state_of w ≡ FROZEN → weight w ≡ 1
weight_frozen w e = let a = one_at-other (state_of w) OPEN (λ q. absurd (omega arith)) in let b = one_at-same (state_of w) FROZEN e in omega arith

pub weight_held : (w : ℕ) → state_of w ≡ HELD → weight w ≡ 0
weight_held w e = let a = one_at-other (state_of w) OPEN (λ q. absurd (omega arith)) in let b = one_at-other (state_of w) FROZEN (λ q. absurd (omega arith)) in omega arith

pub weight_free : (w : ℕ) → state_of w ≡ FREE → weight w ≡ 0
weight_free w e = let a = one_at-other (state_of w) OPEN (λ q. absurd (omega arith)) in let b = one_at-other (state_of w) FROZEN (λ q. absurd (omega arith)) in omega arith

-- an open room, and a free one, are in neither state that a pass has rooms in

pub open_none : (w s : ℕ) → state_of w ≡ OPEN → (s ≡ FROZEN) ⊎ (s ≡ HELD) → one_at (state_of w) s ≡ 0
open_none w s e is = one_at-other (state_of w) s (λ q. ⊎_elim (λ (f : s ≡ FROZEN). absurd (omega arith)) (λ (f : s ≡ HELD). absurd (omega arith)) is)

pub free_none : (w s : ℕ) → state_of w ≡ FREE → (s ≡ FROZEN) ⊎ (s ≡ HELD) → one_at (state_of w) s ≡ 0
free_none w s e is = one_at-other (state_of w) s (λ q. ⊎_elim (λ (f : s ≡ FROZEN). absurd (omega arith)) (λ (f : s ≡ HELD). absurd (omega arith)) is)

-- a pass that has a room in a state: the room is in that state, and the pass has it so once and not otherwise
module _ (z : Sizes) (m : RoomMemory) (content : ℕ → List ℕ) (hs : List RoomHolds) (rule : RoomsStand z m content hs) (seat : ℕ) (a : RoomHolds) (here : get_elem? hs seat ≡ some a) (r t : ℕ) (of_two : (t ≡ FROZEN) ⊎ (t ≡ HELD)) (mine : 0 < in_room_state r t a) where
  pub is_so : state_of (m.pin r) ≡ t
  is_so = let l = total_at (in_room_state r t) hs seat a here in let s = rule.held r t of_two in one_at-true (state_of (m.pin r)) t (omega arith)

  pub rows_are : (s : ℕ) → (s ≡ FROZEN) ⊎ (s ≡ HELD) → room_rows r s a.held ≡ one_at (state_of (m.pin r)) s
  unfolding room_rows
  rows_are s is = let l = total_at (in_room_state r s) hs seat a here in let o = rule.held r s is in let one = one_at-le (state_of (m.pin r)) s in
      one_at_of (in_room_state r s a) (one_at (state_of (m.pin r)) s) (omega arith) one (λ p. let q : s ≡ t = sym (one_at-true (state_of (m.pin r)) s p) ∙ is_so in subst (λ (y : ℕ). 0 < in_room_state r y a) (sym q) mine)
    where
      one_at_of : (x y : ℕ) → x ≤ y → y ≤ 1 → (0 < y → 0 < x) → x ≡ y
      one_at_of x y l u f = cases y u f l
        where
          cases : (y : ℕ) → y ≤ 1 → (0 < y → 0 < x) → x ≤ y → x ≡ y
          cases zero u f l = omega arith
          cases (suc zero) u f l = let p = f (omega arith) in omega arith
          cases (suc (suc n)) u f l = absurd (omega arith)
