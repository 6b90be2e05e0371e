-- A chunk that is taken, and merged with the one above it.
use Rattle.std.specs.Prelude.{◌≡◌, ◌≢◌, ℕ, ◌+◌, ◌<◌, ◌≤◌, true, List, [], ◌∷◌, length, Option, Some}
use Rattle.std.specs.declared.cmp.Ordering.TheVariants.{Less}
use Rattle.oak_model.specs.Counts.{Each, Has}
use Rattle.oak_model.specs.Key.{IsKey, IsKeyBefore, key_cmp}
use Rattle.oak_model.specs.KeyNumber.{key_number}
use Rattle.oak_model.specs.Limits.{Sizes}
use Rattle.chunk_core.specs.declared.holds.Carried.{Carried}
use Rattle.chunk_core.specs.declared.holds.MovingRange.{MovingRange}
use Rattle.chunk_core.specs.declared.holds.RoomCopy.{RoomCopy}
use Rattle.chunk_core.specs.ChainedRooms.{IsChained}
use Rattle.chunk_core.specs.KeyWords.{high_bytes}
use Rattle.chunk_core.specs.LinkedEntries.{entries_in}
use Rattle.chunk_core.specs.MovingRanges.{is_below, joined_by}
use Rattle.chunk_core.specs.RoomRule.{IsWholeCopy}
use Rattle.chunk_core.specs.RoomStep.{retire_room}
use Rattle.chunk_core.specs.Spans.{within}
use Rattle.chunk_core.specs.ValueWord.{names_header}
use Rattle.oak_core.specs.declared.sorting.SortSlot.{SortSlot}
use Rattle.oak_core.specs.declared.states.PassState.{PassState}
use Rattle.oak_core.specs.AloneWords.{Runs}
use Rattle.oak_core.specs.CallSteps.{StepOfCall}
use Rattle.oak_core.specs.Lack.{IsBelow}
use Rattle.oak_core.specs.Step.{on_rooms}
use Rattle.rebalance.specs.declared.chunk_pairs.Taken.{Taken}
use Rattle.rebalance.specs.Calls.{ComesToHold, IsSorted, StaysApart, SweepsKey}
use Rattle.rebalance.specs.Copies.{AllLinked, copy_span, values_in}
use Rattle.rebalance.specs.Chunks.{HoldsFront, IsRewritten, WorksBeside, held_row, keys_in}
use Rattle.rebalance.specs.Filled.{IsFilled}
use Rattle.rebalance.specs.HeldRooms.{AllValued}
use Rattle.rebalance.specs.HeldTables.{Apart, HoldsOnlyRooms, IsHeldRow}
use Rattle.rebalance.specs.LoneWords.{FreesUpper, TakesRoom}
use Rattle.rebalance.specs.Mirrors.{Mirrors, held_memory}
use Rattle.rebalance.specs.SlotRanges.{SlotsHave}
use Rattle.rebalance.specs.Slots.{AllNamed}

-- The pass holds nothing but rooms, no two the same, each with its words, and each entry of their ranges has a value.
pub record HoldsCompacted (z : Sizes) (v : PassState) : Type 0 where
  pub only : HoldsOnlyRooms v
  pub valued : Each AllValued v.rooms.moving
  pub rows : Each (IsHeldRow z) v.rooms.held
  pub apart : Apart v.rooms.held

-- The call came to hold the chunk of the key, in front of the rooms that it held, and compacted it. The slots have its entries.
pub record TakesChunk (z : Sizes) (call : ℕ) (key : List ℕ) (t : Taken) (slots : List SortSlot) (v u : PassState) : Type 0 where
  pub held : RoomCopy
  pub words : RoomCopy
  pub range : MovingRange
  pub dropped : ℕ
  pub came : ComesToHold z call t.room held v u
  pub inside : within (copy_span held) (key_number key) ≡ 1
  pub beside : WorksBeside call v u
  pub claims : u.findings.rebalances.claims ≡ v.findings.rebalances.claims
  pub front : HoldsFront z t.room words range v.rooms.held v.rooms.moving u
  pub origin : range.room ≡ t.room
  pub rewritten : IsRewritten held words
  pub kept_is : t.kept ≡ values_in held
  pub count_is : entries_in held.count ≡ values_in held + dropped
  pub many : length slots ≡ t.kept
  pub base_is : t.base ≡ words.base
  pub has : SlotsHave (keys_in u.rooms.moving) slots range
  pub filled : IsFilled z.entries t.room slots words.base (held_memory u.rooms.held)
  pub named : AllNamed slots
  -- to a pass that is alone
  pub alone : Runs (TakesRoom z v t.room held) v u

-- The pass holds two rooms with neighbouring ranges, the upper one in front. Their entries, sorted, fit into one room, and the slots have those of the upper one.
pub record HoldsPair (z : Sizes) (low up : Taken) (slots : List SortSlot) (v : PassState) : Type 0 where
  pub lower : RoomCopy
  pub upper : RoomCopy
  pub below : MovingRange
  pub above : MovingRange
  pub front : HoldsFront z up.room upper above (held_row low.room lower ∷ []) (below ∷ []) v
  pub inside : low.room < z.chunks
  pub whole : IsWholeCopy z lower
  pub mirrors : Mirrors z lower below
  pub lower_origin : below.room ≡ low.room
  pub upper_origin : above.room ≡ up.room
  pub neighbours : is_below above below ≡ true
  pub lower_base : low.base ≡ lower.base
  pub upper_base : up.base ≡ upper.base
  pub own : List SortSlot
  pub own_many : length own ≡ low.kept
  pub own_has : SlotsHave (keys_in v.rooms.moving) own below
  pub own_filled : IsFilled z.entries low.room own lower.base (held_memory v.rooms.held)
  pub many : length slots ≡ up.kept
  pub has : SlotsHave (keys_in v.rooms.moving) slots above
  pub named : AllNamed slots
  pub few : low.kept + up.kept ≤ z.entries

-- The upper room was retired, and the lower one has the entries of both, over both ranges.
pub record JoinsPair (z : Sizes) (call : ℕ) (low up : Taken) (below above : MovingRange) (v u : PassState) : Type 0 where
  pub opened : RoomCopy
  pub front : HoldsFront z low.room opened (joined_by above below) [] [] u
  pub valued : (c : Carried) → Has c (joined_by above below).carried → names_header c.value ≡ 1
  pub retires : StepOfCall z call (on_rooms (retire_room up.room)) v u
  pub beside : WorksBeside call v u
  pub claims : u.findings.rebalances.claims ≡ v.findings.rebalances.claims
  pub sorted : IsSorted (low.kept + up.kept) opened
  pub chained : IsChained z opened
  pub linked : AllLinked opened
  -- to a pass that is alone
  pub alone : Runs (FreesUpper z low.room up.room) v u

-- Each key that is not below this one, and below the high bound, is in a range that was swept in the call. That bound is a key.
pub record SweepsUpTo (key : List ℕ) (high : Option (List ℕ)) (v w : PassState) : Type 0 where
  pub swept : (k : List ℕ) → IsKey k → key_cmp k key ≢ Less → IsBelow high k → SweepsKey k v w
  pub is_key : (h : List ℕ) → high ≡ Some h → IsKey h

-- The chunk stays apart from the one above it, and it ends at the high bound, up to which each key that is not below this one is in a range that was swept in the call.
pub record ApartUpTo (z : Sizes) (call : ℕ) (key : List ℕ) (high : Option (List ℕ)) (v w : PassState) : Type 0 where
  pub stays : StaysApart z call key v w
  pub ends : high_bytes stays.held.high ≡ high
  pub sweeps : SweepsUpTo key high v w

-- Each key below this one is in a range that was swept in the call.
abbrev pub SweepsBelow : List ℕ → PassState → PassState → Type 0
SweepsBelow key v w = (k : List ℕ) → IsKey k → IsKeyBefore k key → SweepsKey k v w
