-- The bounds of a pinned room, as the pin recorded them.
use Rattle.std.specs.Prelude.{ℕ, ◌-◌, ◌<◌, ◌==◌, cond, List, drop, take, slice_index, Option, Some, None}
use Rattle.oak_model.specs.WordBytes.{bytes_of}
use Rattle.chunk_core.specs.declared.holds.PinnedRoom.{PinnedRoom}
use Rattle.chunk_core.specs.Rooms.{RoomSpot, at_low, at_high}
use Rattle.chunk_ops.specs.declared.bounds.Bound.{Bound}
use Rattle.chunk_ops.specs.declared.bounds.Bound.TheVariants.{Low, High}

abbrev pub bound_spot : Bound → (r j : ℕ) → RoomSpot
bound_spot Low r j = at_low r j
bound_spot High r j = at_high r j

abbrev pub bound_words : Bound → PinnedRoom → List ℕ
bound_words Low p = p.low
bound_words High p = p.high

-- the length of a low bound, and of a high bound where there is one
abbrev pub low_length : PinnedRoom → ℕ
low_length p = slice_index p.low 0

abbrev pub high_length : PinnedRoom → Option ℕ
high_length p = cond (slice_index p.high 0 == 0) None (Some (slice_index p.high 0 - 1))

abbrev pub bound_length : Bound → PinnedRoom → ℕ
bound_length Low p = low_length p
bound_length High p = slice_index p.high 0 - 1

abbrev pub bound_bytes : Bound → PinnedRoom → List ℕ
bound_bytes b p = take (bound_length b p) (bytes_of (drop 1 (bound_words b p)))

abbrev pub low_bound : PinnedRoom → List ℕ
low_bound p = bound_bytes Low p

-- the bytes that a high bound has, if the room has one
abbrev pub high_bound : PinnedRoom → List ℕ
high_bound p = bound_bytes High p

-- i is a place of the bound, which there is
abbrev pub IsBelow : ℕ → Option ℕ → Type 0
IsBelow i None = ⊥
IsBelow i (Some n) = i < n
