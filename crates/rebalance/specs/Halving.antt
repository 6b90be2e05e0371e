-- Two rooms that a pass holds, one of them claimed for the upper half of the entries of the other, which are stored into both; and that both are opened.
use Rattle.std.specs.Prelude.{◌≡◌, ◌≢◌, ℕ, ◌+◌, ◌-◌, ◌/◌, ◌<◌, ◌⊎◌, List, [], ◌∷◌, length, take}
use Rattle.oak_model.specs.Counts.{total}
use Rattle.oak_model.specs.Key.{AreBytes, IsKey}
use Rattle.oak_model.specs.KeyNumber.{key_number}
use Rattle.oak_model.specs.Limits.{Sizes}
use Rattle.chunk_core.specs.declared.holds.EntryWords.{EntryWords}
use Rattle.chunk_core.specs.declared.holds.MovingRange.{MovingRange}
use Rattle.chunk_core.specs.declared.holds.RoomCopy.{RoomCopy}
use Rattle.chunk_core.specs.KeyWords.{low_bytes, high_bytes, low_number, high_number}
use Rattle.chunk_core.specs.MayOnRooms.{MayOpenRoom}
use Rattle.chunk_core.specs.MovingRanges.{ranges_left}
use Rattle.chunk_core.specs.RoomCopies.{entries_held}
use Rattle.chunk_core.specs.RoomRule.{IsWholeCopy}
use Rattle.chunk_core.specs.Spans.{within}
use Rattle.oak_core.specs.declared.sorting.SortSlot.{SortSlot}
use Rattle.oak_core.specs.declared.states.PassState.{PassState}
use Rattle.oak_core.specs.declared.states.Swept.{Swept}
use Rattle.oak_core.specs.AloneWords.{Runs}
use Rattle.oak_core.specs.Lack.{InSwept}
use Rattle.oak_core.specs.Sweeping.{valueless}
use Rattle.chunk_ops.specs.RoomPins.{HadMoment}
use Rattle.rebalance.specs.declared.reading.Read.{Read}
use Rattle.rebalance.specs.Calls.{IsSorted, OpensWith, SweepsKey}
use Rattle.rebalance.specs.Copies.{AllLinked, copy_span}
use Rattle.rebalance.specs.Chunks.{WorksBeside, held_row, keys_in}
use Rattle.rebalance.specs.Compacted.{ReadsSorted, linked_in}
use Rattle.rebalance.specs.Entries.{dropped}
use Rattle.rebalance.specs.HeldTables.{HoldsOnlyRooms, WorksOnRooms}
use Rattle.rebalance.specs.LoneWords.{OpensBoth}
use Rattle.rebalance.specs.Mirrors.{Mirrors, held_memory}
use Rattle.rebalance.specs.Slots.{AllNamed}

-- The pass holds the room r, which has the words w, over the range g, and the room q, which it claimed. It holds nothing else.
pub record HoldsPair (z : Sizes) (r q : ℕ) (w c : RoomCopy) (g : MovingRange) (v : PassState) : Type 0 where
  pub inside : r < z.chunks
  pub inside_upper : q < z.chunks
  pub apart : r ≢ q
  pub held : v.rooms.held ≡ held_row q c ∷ held_row r w ∷ []
  pub moving : v.rooms.moving ≡ g ∷ []
  pub only : HoldsOnlyRooms v
  pub whole : IsWholeCopy z w
  pub whole_upper : IsWholeCopy z c
  pub free : c.latch ≡ 0
  pub mirrors : Mirrors z w g
  pub moment : HadMoment z v

-- The first slots have all entries of the room, which are as many as a room has, each linked and with a value, in the order of their keys.
pub record HasWhole (z : Sizes) (r : ℕ) (slots : List SortSlot) (x : Read) (v : PassState) : Type 0 where
  pub read : ReadsSorted (keys_in v.rooms.moving) (held_memory v.rooms.held) r slots x
  pub named : AllNamed (take x.kept slots)
  pub full : x.kept ≡ z.entries
  pub none : dropped (linked_in (held_memory v.rooms.held) r) ≡ []

-- the range of a room's words, as one that was swept
abbrev pub swept_with : RoomCopy → ℕ → Swept
swept_with w met = record { low = low_bytes w.low; high = high_bytes w.high; met = met }

-- The words w of a full room were parted into those of two: the lower half of its entries, up to the bound between them, and the upper half from there on.
pub record IsHalved (z : Sizes) (w low_copy high_copy : RoomCopy) : Type 0 where
  pub cut : high_number low_copy.high ≡ low_number high_copy.low + 1
  pub low : low_copy.low ≡ w.low
  pub high : high_copy.high ≡ w.high
  pub bases : (low_copy.base ≡ w.base) × (high_copy.base ≡ w.base)
  pub kept : (f : ℕ → ℕ → ℕ) → total (λ (e : EntryWords). f e.word e.value) (entries_held low_copy) + total (λ (e : EntryWords). f e.word e.value) (entries_held high_copy) ≡ total (λ (e : EntryWords). f e.word e.value) (entries_held w)
  pub linked : AllLinked low_copy × AllLinked high_copy
  pub lower : IsSorted (z.entries / 2) low_copy
  pub higher : IsSorted (z.entries - z.entries / 2) high_copy
  pub valued : (valueless low_copy ≡ 0) × (valueless high_copy ≡ 0)
  pub keys : (key : List ℕ) (met one other : ℕ) → InSwept (swept_with w met) key → InSwept (swept_with low_copy one) key ⊎ InSwept (swept_with high_copy other) key

-- The pass stored the halves: the room q may be opened over the upper part of the range, and then r over what is left, and nothing is left of the range then.
pub record StoresHalves (z : Sizes) (call r q : ℕ) (w : RoomCopy) (g : MovingRange) (v u : PassState) : Type 0 where
  pub works : WorksOnRooms z call v u
  pub low_copy : RoomCopy
  pub high_copy : RoomCopy
  pub halved : IsHalved z w low_copy high_copy
  pub held : u.rooms.held ≡ held_row q high_copy ∷ held_row r low_copy ∷ []
  pub moving : u.rooms.moving ≡ g ∷ []
  pub opens_upper : MayOpenRoom z high_copy (g ∷ [])
  pub opens_lower : MayOpenRoom z low_copy (ranges_left high_copy (g ∷ []))
  pub nothing : ranges_left low_copy (ranges_left high_copy (g ∷ [])) ≡ []

-- It stored them and opened the two, the upper one first, and has no room any more.
pub record OpensHalves (z : Sizes) (call r q : ℕ) (w : RoomCopy) (v u : PassState) : Type 0 where
  pub low_copy : RoomCopy
  pub high_copy : RoomCopy
  pub halved : IsHalved z w low_copy high_copy
  pub opens_upper : OpensWith z call q high_copy v u
  pub opens_lower : OpensWith z call r low_copy v u
  pub first : length opens_upper.step.from.findings.met < length opens_lower.step.from.findings.met
  pub sweeps : (key : List ℕ) → IsKey key → AreBytes key → within (copy_span w) (key_number key) ≡ 1 → SweepsKey key v u
  pub beside : WorksBeside call v u
  pub claims : u.findings.rebalances.claims ≡ v.findings.rebalances.claims
  pub rooms : u.rooms ≡ record v.rooms { held = []; moving = [] }
  pub moment : HadMoment z u
  -- to a pass that is alone
  pub alone : Runs (OpensBoth z r q low_copy high_copy) v u
