-- Who owns the blocks of keys in rooms: the entries in use of open and frozen ones, and carried entries. What changes of rooms and of moving ranges leave of that.
use Rattle.std.proofs.Common.{◌≡◌, ◌≢◌, ℕ, ◌+◌, ◌*◌, ◌<◌, List, [], ◌∷◌, map, set, ap, arith}
use mathlib.Core.Option.{some}
use lib.ListN.{get_elem?}
use Rattle.oak_model.specs.Counts.{total}
use Rattle.oak_model.specs.Limits.{Sizes}
use Rattle.oak_model.proofs.Changes.{Change}
use Rattle.oak_model.proofs.Lists.{map_set_same}
use Rattle.oak_model.proofs.SumLaws.{times-none, times-one}
use Rattle.chunk_core.specs.declared.holds.MovingRange.{MovingRange}
use Rattle.chunk_core.specs.declared.holds.RoomHolds.{RoomHolds}
use Rattle.chunk_core.specs.Covers.{Cover, cover_at, cover_from, moving_of, used_at}
use Rattle.chunk_core.specs.CoverSums.{covers, each, owners_in_rooms, owning, weight}
use Rattle.chunk_core.specs.RoomReads.{moving_at}
use Rattle.chunk_core.specs.Rooms.{RoomMemory}
use Rattle.chunk_core.proofs.CoverLaws.{covers_step, moves}
use Rattle.chunk_core.proofs.RangeMoves.{moving_cover}

-- a pass's step that leaves its moving ranges, and the words of rooms
pub owners_idle : (z : Sizes) (m : RoomMemory) (content : ℕ → List ℕ) (hs : List RoomHolds) (seat : ℕ) (a b : RoomHolds) → get_elem? hs seat ≡ some a → b.moving ≡ a.moving → (names_it : ℕ → ℕ) → owners_in_rooms z m content (set hs seat b) names_it ≡ owners_in_rooms z m content hs names_it
owners_idle z m content hs seat a b here moving names_it = ap (λ (ms : List (List Cover)). covers z.chunks m.pin (used_at m content) ms (each (owning names_it))) (map_set_same moving_of hs seat a b here (ap (map cover_from) moving))

-- the room r changes, and what some passes hold
module _ (z : Sizes) (m m' : RoomMemory) (content : ℕ → List ℕ) (hs hs' gone fresh : List RoomHolds) (c : Change hs hs' gone fresh) (r : ℕ) (l : r < z.chunks) (pins : (j : ℕ) → j ≢ r → m'.pin j ≡ m.pin j) (same : (j : ℕ) → j ≢ r → used_at m' content j ≡ used_at m content j) (names_it : ℕ → ℕ) where
  step : owners_in_rooms z m' content hs' names_it + weight (m.pin r) * each (owning names_it) (used_at m content r) + total (moves (each (owning names_it))) gone
      ≡ owners_in_rooms z m content hs names_it + weight (m'.pin r) * each (owning names_it) (used_at m' content r) + total (moves (each (owning names_it))) fresh
  step = covers_step z.chunks m.pin m'.pin (used_at m content) (used_at m' content) hs hs' gone fresh c r (each (owning names_it)) l pins same

  -- it is a cover before
  pub owners_out : weight (m.pin r) ≡ 1 → weight (m'.pin r) ≡ 0 → owners_in_rooms z m' content hs' names_it + each (owning names_it) (used_at m content r) + total (moves (each (owning names_it))) gone ≡ owners_in_rooms z m content hs names_it + total (moves (each (owning names_it))) fresh
  owners_out e e' = let s = step in let x = times-one (weight (m.pin r)) (each (owning names_it) (used_at m content r)) e in let y = times-none (weight (m'.pin r)) (each (owning names_it) (used_at m' content r)) e' in omega arith

  -- it is one behind
  pub owners_in : weight (m.pin r) ≡ 0 → weight (m'.pin r) ≡ 1 → owners_in_rooms z m' content hs' names_it + total (moves (each (owning names_it))) gone ≡ owners_in_rooms z m content hs names_it + each (owning names_it) (used_at m' content r) + total (moves (each (owning names_it))) fresh
  owners_in e e' = let s = step in let x = times-none (weight (m.pin r)) (each (owning names_it) (used_at m content r)) e in let y = times-one (weight (m'.pin r)) (each (owning names_it) (used_at m' content r)) e' in omega arith

  -- it is none
  pub owners_aside : weight (m.pin r) ≡ 0 → weight (m'.pin r) ≡ 0 → owners_in_rooms z m' content hs' names_it + total (moves (each (owning names_it))) gone ≡ owners_in_rooms z m content hs names_it + total (moves (each (owning names_it))) fresh
  owners_aside e e' = let s = step in let x = times-none (weight (m.pin r)) (each (owning names_it) (used_at m content r)) e in let y = times-none (weight (m'.pin r)) (each (owning names_it) (used_at m' content r)) e' in omega arith

-- a room's range comes to move with a pass, where its linked entries own the blocks that its entries in use own
pub owners_held : (z : Sizes) (m m' : RoomMemory) (content : ℕ → List ℕ) (hs hs' : List RoomHolds) (a b : RoomHolds) (c : Change hs hs' (a ∷ []) (b ∷ [])) (r : ℕ) → r < z.chunks → ((j : ℕ) → j ≢ r → m'.pin j ≡ m.pin j) → ((j : ℕ) → j ≢ r → used_at m' content j ≡ used_at m content j)
    → weight (m.pin r) ≡ 1 → weight (m'.pin r) ≡ 0 → b.moving ≡ moving_at m content r ∷ a.moving → (names_it : ℕ → ℕ) → each (owning names_it) (used_at m content r) ≡ each (owning names_it) (cover_at m content r) → owners_in_rooms z m' content hs' names_it ≡ owners_in_rooms z m content hs names_it
unfolding total
owners_held z m m' content hs hs' a b c r l pins same w w' moving names_it used = let s = owners_out z m m' content hs hs' (a ∷ []) (b ∷ []) c r l pins same names_it w w' in
    let e = ap (λ (gs : List MovingRange). total (each (owning names_it)) (map cover_from gs)) moving in let f = ap (each (owning names_it)) (moving_cover m content r) in omega arith
