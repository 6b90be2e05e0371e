-- A store to a word of a room that is no cover changes no cover.
use Rattle.std.proofs.Common.{◌≡◌, ◌≢◌, ℕ, ◌+◌, ◌*◌, ◌==◌, ◌&&◌, cond, Bool, List, map, ap, ◌∙◌, arith, ne_eqb}
use Rattle.std.proofs.lemmas.Bool.{and_right}
use mathlib.Core.Logic.{dite}
use mathlib.Core.Path.{fun_ext}
use native.Mathlib.Decide.{ℕ_discrete}
use Rattle.chunk_core.specs.declared.layout.TheConstants.{BOUND_WORDS}
use Rattle.chunk_core.specs.declared.holds.RoomHolds.{RoomHolds}
use Rattle.oak_model.specs.Counts.{total, rows}
use Rattle.oak_model.specs.Limits.{Sizes}
use Rattle.oak_model.proofs.Changes.{Change}
use Rattle.oak_model.proofs.SumLaws.{times-none}
use Rattle.chunk_core.specs.CoverSums.{weight, covers, each, all_of, owners_in_rooms, owning}
use Rattle.chunk_core.specs.Covers.{Cover, cover_at, entry_at, key_at, moving_of, span_in, used_at}
use Rattle.chunk_core.specs.KeyWords.{low_number, high_number}
use Rattle.chunk_core.specs.LinkedEntries.{entries_in, first_numbers, in_use, linked}
use Rattle.chunk_core.specs.RoomStep.{put_room}
use Rattle.chunk_core.specs.Rooms.{RoomMemory, RoomSpot, at_base, at_count, at_first, at_low, at_high, at_key, at_value, at_next, room_at, part_at, kind_at, same_room_spot, read_room}
use Rattle.chunk_core.proofs.CoverLaws.{moves, covers_parts, covers_same}
use Rattle.chunk_core.proofs.RoomLinks.{linked_same}

-- a word of another room stays
pub read_else : (m : RoomMemory) (p : RoomSpot) (x : ℕ) (q : RoomSpot) → room_at q ≢ room_at p → cond (same_room_spot q p) x (read_room m q) ≡ read_room m q
read_else m p x q ne = ap (λ (t : Bool). cond t x (read_room m q)) (and_right (kind_at q == kind_at p) ((part_at q == part_at p) && (room_at q == room_at p)) (and_right (part_at q == part_at p) (room_at q == room_at p) (ne_eqb (room_at q) (room_at p) ne)))

-- nor does another room get other linked entries
pub linked_else : (m : RoomMemory) (p : RoomSpot) (x j : ℕ) → j ≢ room_at p → linked (put_room m p x) j ≡ linked m j
linked_else m p x j ne = linked_same m (put_room m p x) j (read_else m p x (at_first j) ne) (fun_ext (λ n. read_else m p x (at_next j n) ne))

-- a room's range, with the entries of these numbers
abbrev numbered_at : RoomMemory → (ℕ → List ℕ) → ℕ → List ℕ → Cover
numbered_at m content j ns = record { span = span_in m j; entries = map (entry_at m content j) ns }

numbered_else : (m : RoomMemory) (p : RoomSpot) (x : ℕ) (content : ℕ → List ℕ) (j : ℕ) → j ≢ room_at p → (ns ns' : List ℕ) → ns' ≡ ns → numbered_at (put_room m p x) content j ns' ≡ numbered_at m content j ns
numbered_else m p x content j ne ns ns' same = λ i. record {
  span = record {
    low = low_number (rows 0 BOUND_WORDS (fun_ext (λ n. read_else m p x (at_low j n) ne) i));
    high = high_number (rows 0 BOUND_WORDS (fun_ext (λ n. read_else m p x (at_high j n) ne) i));
    base = read_else m p x (at_base j) ne i;
  };
  entries = map (λ n. record { word = read_else m p x (at_key j n) ne i; value = read_else m p x (at_value j n) ne i; key = key_at content (read_else m p x (at_key j n) ne i) }) (same i);
}

pub cover_else : (m : RoomMemory) (p : RoomSpot) (x : ℕ) (content : ℕ → List ℕ) (j : ℕ) → j ≢ room_at p → cover_at (put_room m p x) content j ≡ cover_at m content j
cover_else m p x content j ne = numbered_else m p x content j ne (linked m j) (linked (put_room m p x) j) (linked_else m p x j ne)

used_else : (m : RoomMemory) (p : RoomSpot) (x : ℕ) (content : ℕ → List ℕ) (j : ℕ) → j ≢ room_at p → used_at (put_room m p x) content j ≡ used_at m content j
used_else m p x content j ne = numbered_else m p x content j ne (in_use m j) (in_use (put_room m p x) j) (ap (λ (n : ℕ). first_numbers (entries_in n)) (read_else m p x (at_count j) ne))

-- a store to a word of a room that is no cover, and other moving ranges of its pass
module _ (z : Sizes) (m : RoomMemory) (content : ℕ → List ℕ) (hs hs' gone fresh : List RoomHolds) (c : Change hs hs' gone fresh) (p : RoomSpot) (x : ℕ) (none : weight (m.pin (room_at p)) ≡ 0) (pins : (j : ℕ) → (put_room m p x).pin j ≡ m.pin j) where
  stored : (cover cover' : ℕ → Cover) → ((j : ℕ) → j ≢ room_at p → cover' j ≡ cover j) → (F : Cover → ℕ)
      → covers z.chunks (put_room m p x).pin cover' (map moving_of hs') F + total (moves F) gone ≡ covers z.chunks m.pin cover (map moving_of hs) F + total (moves F) fresh
  stored cover cover' same F = let s = c.sums (moves F) in let a = covers_parts z.chunks m.pin cover hs F in let b = covers_parts z.chunks m.pin cover hs' F in
      let w = covers_same z.chunks m.pin (put_room m p x).pin cover cover' (map moving_of hs') F (λ j _. dite (ℕ_discrete j (room_at p))
      (λ e. let n : weight (m.pin j) ≡ 0 = ap (λ (t : ℕ). weight (m.pin t)) e ∙ none in let q = times-none (weight ((put_room m p x).pin j)) (F (cover' j)) (ap weight (pins j) ∙ n) in let y = times-none (weight (m.pin j)) (F (cover j)) n in omega arith)
      (λ ne. ap (λ (t : ℕ × Cover). weight t.0 * F t.1) (λ i. (pins j i, same j ne i)))) in omega arith

  pub store_step : (F : Cover → ℕ) → all_of z (put_room m p x) content hs' F + total (moves F) gone ≡ all_of z m content hs F + total (moves F) fresh
  store_step = stored (cover_at m content) (cover_at (put_room m p x) content) (cover_else m p x content)

  -- and the owners of blocks
  pub store_owners : (names_it : ℕ → ℕ) → owners_in_rooms z (put_room m p x) content hs' names_it + total (moves (each (owning names_it))) gone ≡ owners_in_rooms z m content hs names_it + total (moves (each (owning names_it))) fresh
  store_owners names_it = stored (used_at m content) (used_at (put_room m p x) content) (used_else m p x content) (each (owning names_it))
