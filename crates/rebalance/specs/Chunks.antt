-- A chunk that a pass holds alone, as the last one that it came to hold, and what the parts of a rebalance do to it.
use Rattle.std.specs.Prelude.{◌≡◌, ℕ, ◌+◌, ◌*◌, ◌<◌, List, [], ◌∷◌, ◌++◌, length, take, None}
use Rattle.oak_model.specs.Counts.{one_at, total, Begins}
use Rattle.oak_model.specs.Key.{AreBytes, IsKey}
use Rattle.oak_model.specs.KeyNumber.{key_number}
use Rattle.oak_model.specs.Limits.{Sizes}
use Rattle.chunk_core.specs.declared.holds.EntryWords.{EntryWords}
use Rattle.chunk_core.specs.declared.holds.HeldRoom.{HeldRoom}
use Rattle.chunk_core.specs.declared.holds.MovingRange.{MovingRange}
use Rattle.chunk_core.specs.declared.holds.RoomCopy.{RoomCopy}
use Rattle.chunk_core.specs.declared.holds.RoomHeldAs.TheVariants.{Held}
use Rattle.chunk_core.specs.declared.states.TheConstants.{HELD, OPEN}
use Rattle.chunk_core.specs.KeyWords.{low_bytes, high_bytes}
use Rattle.chunk_core.specs.LinkedEntries.{entries_in}
use Rattle.chunk_core.specs.PinnedRooms.{span_of}
use Rattle.chunk_core.specs.RoomCopies.{entries_held}
use Rattle.chunk_core.specs.RoomReads.{copy_at}
use Rattle.chunk_core.specs.RoomRule.{IsWholeCopy}
use Rattle.chunk_core.specs.Spans.{within}
use Rattle.chunk_core.specs.ValueWord.{names_header}
use Rattle.oak_core.specs.declared.states.PassState.{PassState}
use Rattle.oak_core.specs.AloneWords.{Runs}
use Rattle.oak_core.specs.CallSteps.{MetMore}
use Rattle.oak_core.specs.Memory.{memory}
use Rattle.oak_core.specs.Sweeping.{valueless}
use Rattle.chunk_ops.specs.LoneRooms.{NeverUnfrozen}
use Rattle.chunk_ops.specs.PinRecords.{room_pin}
use Rattle.chunk_ops.specs.RoomPins.{HadMoment}
use Rattle.rebalance.specs.Calls.{ComesToHold, IsSorted, OpensWith, SweepsKey}
use Rattle.rebalance.specs.Copies.{AllLinked, base_without, copy_span, linked_held, values_in}
use Rattle.rebalance.specs.declared.reading.Read.{Read}
use Rattle.rebalance.specs.Compacted.{ReadsSorted, linked_in}
use Rattle.rebalance.specs.Dropping.{DropsKeys, dropped_ranges}
use Rattle.rebalance.specs.Entries.{dropped}
use Rattle.rebalance.specs.Filled.{IsFilled}
use Rattle.rebalance.specs.HeldTables.{AwayFromPins, HoldsOnlyRooms, WorksOnRooms, key_of_entry, valued, with_word}
use Rattle.rebalance.specs.Holding.{IsBusy, StandsBeside}
use Rattle.rebalance.specs.Resting.{RestsUnpinned}
use Rattle.rebalance.specs.LoneWords.{MovesWith, TakesRoom}
use Rattle.rebalance.specs.Mirrors.{Mirrors, held_memory}
use Rattle.rebalance.specs.SlotRanges.{SlotsHave}
use Rattle.rebalance.specs.Slots.{AllNamed}
use Rattle.oak_core.specs.declared.sorting.SortSlot.{SortSlot}

-- the room, with these words, as a pass holds it
abbrev pub held_row : ℕ → RoomCopy → HeldRoom
held_row r w = record { room = r; held_as = Held w }

-- The pass only met more, all in the call, but for what it has of rooms, and may have swept ranges.
pub record WorksBeside (call : ℕ) (v w : PassState) : Type 0 where
  pub met : MetMore call v w
  pub numbers : w.numbers ≡ v.numbers
  pub knowledge : w.knowledge ≡ v.knowledge
  pub fulls : w.findings.fulls ≡ v.findings.fulls
  pub swept : Begins v.findings.swept w.findings.swept
  pub sights : w.findings.sights ≡ v.findings.sights
  pub gones : w.findings.gones ≡ v.findings.gones
  pub blocks : w.blocks ≡ v.blocks
  pub headers : w.headers ≡ v.headers

-- The pass holds the room r, which has the words w, over the range g, and beside it the rooms hs with the ranges gs, which it held before. It holds nothing else.
pub record HoldsFront (z : Sizes) (r : ℕ) (w : RoomCopy) (g : MovingRange) (hs : List HeldRoom) (gs : List MovingRange) (v : PassState) : Type 0 where
  pub inside : r < z.chunks
  pub held : v.rooms.held ≡ held_row r w ∷ hs
  pub moving : v.rooms.moving ≡ g ∷ gs
  pub apart : total (λ (h : HeldRoom). one_at h.room r) hs ≡ 0
  pub only : HoldsOnlyRooms v
  pub whole : IsWholeCopy z w
  pub mirrors : Mirrors z w g
  pub moment : HadMoment z v

-- The call came to hold the room r, whose range has the key, and met nothing at a pin word of a room from there on. It only met more else, and may have swept ranges of rooms that it held before and opened again.
pub record HoldsFor (z : Sizes) (call : ℕ) (key : List ℕ) (r : ℕ) (w : RoomCopy) (g : MovingRange) (v u : PassState) : Type 0 where
  pub came : ComesToHold z call r w v u
  pub copied : w ≡ copy_at z (memory z came.step.told.table.words).rooms r
  pub still : AwayFromPins z came.step.to u
  pub inside : within (copy_span w) (key_number key) ≡ 1
  pub beside : WorksBeside call v u
  pub claims : u.findings.rebalances.claims ≡ v.findings.rebalances.claims
  pub front : HoldsFront z r w g v.rooms.held v.rooms.moving u
  pub origin : g.room ≡ r
  -- to a pass that is alone
  pub alone : Runs (TakesRoom z v r w) v u

-- The pass had a pin of the room. It froze the room and undid the pin, and holds the room since the last step of the call, in front of the rooms that it held, of which that is none. It only met more else.
pub record HoldsPinned (z : Sizes) (call r : ℕ) (w : RoomCopy) (g : MovingRange) (v u : PassState) : Type 0 where
  pub came : ComesToHold z call r w v u
  pub last : came.step.to ≡ u
  pub copied : w ≡ copy_at z (memory z came.step.told.table.words).rooms r
  pub beside : StandsBeside call v u
  pub rooms : u.rooms ≡ record v.rooms { pin = None; held = held_row r w ∷ v.rooms.held; moving = g ∷ v.rooms.moving }
  pub apart : total (λ (h : HeldRoom). one_at h.room r) v.rooms.held ≡ 0
  pub whole : IsWholeCopy z w
  pub mirrors : Mirrors z w g
  pub origin : g.room ≡ r
  pub moment : HadMoment z u
  -- to a pass that is alone
  pub alone : Runs (TakesRoom z v r w) v u
  -- the room has the range that the pin found
  pub ranged : Runs (λ _ _. copy_span w ≡ span_of (room_pin v)) v u

-- The pass had a pin of the room, which it found busy, and undid it. It only met more else.
pub record LosesPinned (z : Sizes) (call looks r : ℕ) (v u : PassState) : Type 0 where
  pub why : IsBusy z call looks r v u
  pub unpins : RestsUnpinned z call r v u
  -- to a pass that is alone
  pub alone : Runs (NeverUnfrozen v) v u

-- The pass has of rooms what it had. It only met more else, and may have swept ranges.
pub record ComesBack (z : Sizes) (call : ℕ) (v u : PassState) : Type 0 where
  pub beside : WorksBeside call v u
  pub claims : u.findings.rebalances.claims ≡ v.findings.rebalances.claims
  pub rooms : u.rooms ≡ v.rooms
  pub ended : HadMoment z u

-- The call opened the front room, which had the words w, over all of its range, and the pass has the rooms and ranges behind it. The range is swept where each of its entries has a value.
pub record OpensFront (z : Sizes) (call r : ℕ) (w : RoomCopy) (hs : List HeldRoom) (gs : List MovingRange) (v u : PassState) : Type 0 where
  pub opens : OpensWith z call r w v u
  pub beside : WorksBeside call v u
  pub claims : u.findings.rebalances.claims ≡ v.findings.rebalances.claims
  pub rooms : u.rooms ≡ record v.rooms { held = hs; moving = gs }
  pub swept : valueless w ≡ 0 → u.findings.swept ≡ v.findings.swept ++ record { low = low_bytes w.low; high = high_bytes w.high; met = length v.findings.met } ∷ []
  pub sweeps : valueless w ≡ 0 → (key : List ℕ) → IsKey key → AreBytes key → within (copy_span w) (key_number key) ≡ 1 → SweepsKey key v u
  pub moment : HadMoment z u
  -- to a pass that is alone
  pub alone : Runs (MovesWith z r HELD OPEN w) v u

-- The words w became w', by which the linked entries that had a value are the sorted prefix, with nothing behind it, over the same range, with the greatest of the base and the dropped floors.
pub record IsRewritten (w w' : RoomCopy) : Type 0 where
  pub low : w'.low ≡ w.low
  pub high : w'.high ≡ w.high
  pub base : w'.base ≡ base_without w
  pub kept : (f : ℕ → ℕ → ℕ) → total (λ (e : EntryWords). f e.word e.value) (entries_held w') ≡ total (λ (e : EntryWords). names_header e.value * f e.word e.value) (linked_held w)
  pub linked : AllLinked w'
  pub sorted : IsSorted (values_in w) w'

-- the key of the carried entry with a value that has the key word, in these ranges
abbrev pub keys_in : List MovingRange → ℕ → List ℕ
keys_in gs w = key_of_entry (with_word w (valued gs))

-- So did the words of the front room, by which it has the entries of the slots, those that were kept, while so many were dropped.
pub record CompactsFront (z : Sizes) (call r dropped : ℕ) (slots : List SortSlot) (w : RoomCopy) (hs : List HeldRoom) (gs : List MovingRange) (v u : PassState) : Type 0 where
  pub words : RoomCopy
  pub range : MovingRange
  pub front : HoldsFront z r words range hs gs u
  pub origin : (g : MovingRange) → v.rooms.moving ≡ g ∷ gs → range.room ≡ g.room
  pub works : WorksOnRooms z call v u
  pub rewritten : IsRewritten w words
  pub kept_is : length slots ≡ values_in w
  pub count_is : entries_in w.count ≡ length slots + dropped
  pub has : SlotsHave (keys_in u.rooms.moving) slots range
  pub filled : IsFilled z.entries r slots words.base (held_memory u.rooms.held)
  pub named : AllNamed slots

-- The room was read: its linked entries with a value are in the first slots, in the order of their keys, and the others were dropped.
pub record ReadsFront (z : Sizes) (call r : ℕ) (slots : List SortSlot) (x : Read) (v u : PassState) : Type 0 where
  pub works : WorksOnRooms z call v u
  pub drops : DropsKeys r (entries_in ((held_memory v.rooms.held).count r)) (held_memory v.rooms.held) (held_memory u.rooms.held)
  pub ranges : u.rooms.moving ≡ dropped_ranges (dropped (linked_in (held_memory v.rooms.held) r)) v.rooms.moving
  pub read : ReadsSorted (keys_in v.rooms.moving) (held_memory v.rooms.held) r slots x
  pub named : AllNamed (take x.kept slots)
