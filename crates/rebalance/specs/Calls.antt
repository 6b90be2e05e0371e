-- What the rebalancing calls did and found, and that they leave all else as it was.
use Rattle.std.specs.Prelude.{◌≡◌, ℕ, ◌+◌, ◌-◌, ◌*◌, ◌/◌, ◌<◌, ◌≤◌, ◌⊎◌, List, ◌++◌, length, Some}
use mathlib.Core.Option.{some}
use lib.ListN.{get_elem?}
use Rattle.oak_model.specs.Counts.{Begins, total}
use Rattle.oak_model.specs.Key.{IsKey}
use Rattle.oak_model.specs.KeyNumber.{key_number}
use Rattle.oak_model.specs.Limits.{Sizes}
use Rattle.chunk_core.specs.declared.holds.EntryWords.{EntryWords}
use Rattle.chunk_core.specs.declared.holds.RoomCopy.{RoomCopy}
use Rattle.chunk_core.specs.KeyWords.{high_bytes, low_number, high_number}
use Rattle.chunk_core.specs.LinkedEntries.{entries_in, prefix_in}
use Rattle.chunk_core.specs.MovingRanges.{greater}
use Rattle.chunk_core.specs.RoomCopies.{copy_of, entries_held}
use Rattle.chunk_core.specs.RoomStep.{hold_room, open_room, retire_room}
use Rattle.chunk_core.specs.Spans.{within}
use Rattle.chunk_core.specs.ValueWord.{names_header}
use Rattle.oak_core.specs.declared.states.PassState.{PassState}
use Rattle.oak_core.specs.declared.states.Swept.{Swept}
use Rattle.oak_core.specs.AloneWords.{Runs}
use Rattle.oak_core.specs.CallSteps.{MetMore, StepOfCall}
use Rattle.oak_core.specs.Lack.{InSwept}
use Rattle.oak_core.specs.RoomLacks.{ClaimsFull, RoomLackFound}
use Rattle.oak_core.specs.Step.{on_rooms}
use Rattle.chunk_ops.specs.RoomPins.{HadMoment}
use Rattle.rebalance.specs.Copies.{AllLinked, LinksReach, base_without, copy_span, linked_held, values_in}
use Rattle.rebalance.specs.LoneCalls.{AllOpen, Divided, HalvesRoom, JoinsRooms, RewritesBoth, RewritesRoom, SettlesWords}

-- The pass met more, all of it in the call, and may have swept ranges. It learned and wrote nothing, noted no call, and holds what it held.
pub record Leaves (call : ℕ) (v w : PassState) : Type 0 where
  pub met : MetMore call v w
  pub numbers : w.numbers ≡ v.numbers
  pub knowledge : w.knowledge ≡ v.knowledge
  pub fulls : w.findings.fulls ≡ v.findings.fulls
  pub swept : Begins v.findings.swept w.findings.swept
  pub sights : w.findings.sights ≡ v.findings.sights
  pub gones : w.findings.gones ≡ v.findings.gones
  pub blocks : w.blocks ≡ v.blocks
  pub headers : w.headers ≡ v.headers
  pub rooms : w.rooms ≡ v.rooms

-- the pass came to hold the room in the call: the step found it frozen and without a pin, and `copy` is what its words were, in which links reach the entries that have a key word
pub record ComesToHold (z : Sizes) (call r : ℕ) (copy : RoomCopy) (v w : PassState) : Type 0 where
  pub old : ℕ
  pub step : StepOfCall z call (on_rooms (hold_room r old)) v w
  pub found_is : step.number ≡ old
  pub copy_is : copy_of r step.to.rooms.held ≡ Some copy
  pub linked : LinksReach copy

-- the room was opened in the call, with these words
pub record OpensWith (z : Sizes) (call r : ℕ) (copy : RoomCopy) (v w : PassState) : Type 0 where
  pub step : StepOfCall z call (on_rooms (open_room r)) v w
  pub copy_is : copy_of r step.from.rooms.held ≡ Some copy

-- n entries are in use, all of them in the sorted prefix
pub record IsSorted (n : ℕ) (w : RoomCopy) : Type 0 where
  pub count : entries_in w.count ≡ n
  pub prefix : prefix_in w.count ≡ n

-- a range with the key was swept in the call, by a step whose finding is one of those that it met
pub record SweepsKey (key : List ℕ) (v w : PassState) : Type 0 where
  pub more : List Swept
  pub swept : w.findings.swept ≡ v.findings.swept ++ more
  pub place : ℕ
  pub range : Swept
  pub there : get_elem? more place ≡ some range
  pub from : length v.findings.met ≤ range.met
  pub to : range.met < length w.findings.met
  pub inside : InSwept range key

-- The call held the room of the key, whose words were `held`, and opened it with the words `opened`, over the same range: the linked entries that had a value are its sorted prefix, nothing is behind it, and the base is the greatest of the old one and the dropped floors.
pub record Rewrites (z : Sizes) (call : ℕ) (key : List ℕ) (r : ℕ) (held opened : RoomCopy) (v w : PassState) : Type 0 where
  pub holds : ComesToHold z call r held v w
  pub inside : within (copy_span held) (key_number key) ≡ 1
  pub opens : OpensWith z call r opened v w
  pub low : opened.low ≡ held.low
  pub high : opened.high ≡ held.high
  pub kept : (f : ℕ → ℕ → ℕ) → total (λ (e : EntryWords). f e.word e.value) (entries_held opened) ≡ total (λ (e : EntryWords). names_header e.value * f e.word e.value) (linked_held held)
  pub linked : AllLinked opened
  pub base : opened.base ≡ base_without held
  pub sorted : IsSorted (values_in held) opened
  pub swept : SweepsKey key v w

-- compact: so many entries were dropped, those that had no value or were unlinked while the chunk was held
pub record Compacts (z : Sizes) (call : ℕ) (key : List ℕ) (dropped : ℕ) (v w : PassState) : Type 0 where
  pub room : ℕ
  pub held : RoomCopy
  pub opened : RoomCopy
  pub rewrites : Rewrites z call key room held opened v w
  pub count_is : entries_in held.count ≡ values_in held + dropped
  pub leaves : Leaves call v w
  -- it claimed rooms, and tried to, only while it held a full chunk
  pub claims : ClaimsFull z v w
  -- to a pass that is alone
  pub alone : Runs (Divided z (RewritesRoom z room held opened)) v w

-- split, where the chunk had fewer entries with a value than a room has entries
pub record Loosens (z : Sizes) (call : ℕ) (key : List ℕ) (v w : PassState) : Type 0 where
  pub dropped : ℕ
  pub compacts : Compacts z call key dropped v w
  pub fewer : values_in compacts.held < z.entries
  -- it claimed no room, nor tried to
  pub unclaimed : w.findings.rebalances.claims ≡ v.findings.rebalances.claims

-- split, where each entry of the chunk was linked and had a value, and another room was free: its range was opened as two, the upper one in that room, and before the lower one
pub record Halves (z : Sizes) (call : ℕ) (key : List ℕ) (upper : ℕ) (v w : PassState) : Type 0 where
  pub room : ℕ
  pub held : RoomCopy
  pub holds : ComesToHold z call room held v w
  pub inside : within (copy_span held) (key_number key) ≡ 1
  pub full : values_in held ≡ z.entries
  pub low_copy : RoomCopy
  pub high_copy : RoomCopy
  pub opens_upper : OpensWith z call upper high_copy v w
  pub opens_lower : OpensWith z call room low_copy v w
  pub first : length opens_upper.step.from.findings.met < length opens_lower.step.from.findings.met
  pub cut : high_number low_copy.high ≡ low_number high_copy.low + 1
  pub low : low_copy.low ≡ held.low
  pub high : high_copy.high ≡ held.high
  pub bases : (low_copy.base ≡ held.base) × (high_copy.base ≡ held.base)
  pub kept : (f : ℕ → ℕ → ℕ) → total (λ (e : EntryWords). f e.word e.value) (entries_held low_copy) + total (λ (e : EntryWords). f e.word e.value) (entries_held high_copy) ≡ total (λ (e : EntryWords). f e.word e.value) (entries_held held)
  pub linked : AllLinked low_copy × AllLinked high_copy
  pub lower : IsSorted (z.entries / 2) low_copy
  pub higher : IsSorted (z.entries - z.entries / 2) high_copy
  pub swept : SweepsKey key v w
  pub leaves : Leaves call v w
  -- it claimed rooms, and tried to, only while it held a full chunk
  pub claims : ClaimsFull z v w
  -- to a pass that is alone
  pub alone : Runs (Divided z (HalvesRoom z room upper held low_copy high_copy)) v w

-- split, where each entry of the chunk was linked and had a value, and every other room was found not free in the call: the chunk is opened again with its entries, which are its sorted prefix, and its base
pub record FindsNoRoom (z : Sizes) (call : ℕ) (key : List ℕ) (v w : PassState) : Type 0 where
  pub compacts : Compacts z call key 0 v w
  pub full : values_in compacts.held ≡ z.entries
  pub base : compacts.opened.base ≡ compacts.held.base
  pub lacks : RoomLackFound z (length v.findings.met) (length w.findings.met) w.findings.met (key_number key)
  -- to a pass that is alone
  pub all_open : Runs (AllOpen z) v w

-- merge, where the range and the one above it were opened as one
pub record Merges (z : Sizes) (call : ℕ) (key : List ℕ) (v w : PassState) : Type 0 where
  pub room : ℕ
  pub other : ℕ
  pub held : RoomCopy
  pub next : RoomCopy
  pub holds : ComesToHold z call room held v w
  pub holds_next : ComesToHold z call other next v w
  pub inside : within (copy_span held) (key_number key) ≡ 1
  pub above : high_number held.high ≡ low_number next.low + 1
  pub few : values_in held + values_in next ≤ z.entries / 2
  pub retires : StepOfCall z call (on_rooms (retire_room other)) v w
  pub opened : RoomCopy
  pub opens : OpensWith z call room opened v w
  pub low : opened.low ≡ held.low
  pub high : opened.high ≡ next.high
  pub base : opened.base ≡ greater (base_without next) (base_without held)
  pub kept : (f : ℕ → ℕ → ℕ) → total (λ (e : EntryWords). f e.word e.value) (entries_held opened) ≡ total (λ (e : EntryWords). names_header e.value * f e.word e.value) (linked_held held) + total (λ (e : EntryWords). names_header e.value * f e.word e.value) (linked_held next)
  pub linked : AllLinked opened
  pub sorted : IsSorted (values_in held + values_in next) opened
  pub swept : SweepsKey key v w
  pub leaves : Leaves call v w
  -- it claimed no room, nor tried to
  pub unclaimed : w.findings.rebalances.claims ≡ v.findings.rebalances.claims
  pub claims : ClaimsFull z v w
  -- to a pass that is alone
  pub alone : Runs (Divided z (JoinsRooms z room other held next opened)) v w

-- the call rewrote the chunk, which has no neighbour above
pub record IsLast (z : Sizes) (room : ℕ) (held opened : RoomCopy) (v w : PassState) : Type 0 where
  pub last : high_number held.high ≡ 0
  -- to a pass that is alone
  pub alone : Runs (Divided z (RewritesRoom z room held opened)) v w

-- the call rewrote the chunk and its neighbour above, and the two, held alone, had too many entries with a value
pub record HasMuchAbove (z : Sizes) (call room : ℕ) (held opened : RoomCopy) (v w : PassState) : Type 0 where
  pub other : ℕ
  pub next : RoomCopy
  pub reopened : RoomCopy
  pub key : List ℕ
  pub begins : high_bytes held.high ≡ Some key
  pub rewrites : Rewrites z call key other next reopened v w
  pub above : high_number held.high ≡ low_number next.low + 1
  pub many : z.entries / 2 < values_in held + values_in next
  -- to a pass that is alone
  pub alone : Runs (Divided z (RewritesBoth z room other held opened next reopened)) v w

-- merge, where it has no neighbour above, or too many entries with that
pub record StaysApart (z : Sizes) (call : ℕ) (key : List ℕ) (v w : PassState) : Type 0 where
  pub room : ℕ
  pub held : RoomCopy
  pub opened : RoomCopy
  pub rewrites : Rewrites z call key room held opened v w
  pub leaves : Leaves call v w
  -- it claimed no room, nor tried to
  pub unclaimed : w.findings.rebalances.claims ≡ v.findings.rebalances.claims
  pub claims : ClaimsFull z v w
  pub ended : HadMoment z w
  pub why : IsLast z room held opened v w ⊎ HasMuchAbove z call room held opened v w

-- settle: ranges swept in the call cover every key, and at its end the rule held with the pass as it is then
pub record Settles (z : Sizes) (call : ℕ) (v w : PassState) : Type 0 where
  pub leaves : Leaves call v w
  -- it claimed no room, nor tried to
  pub unclaimed : w.findings.rebalances.claims ≡ v.findings.rebalances.claims
  pub claims : ClaimsFull z v w
  pub ended : HadMoment z w
  pub covered : (key : List ℕ) → IsKey key → SweepsKey key v w
  -- to a pass that is alone
  pub alone : Runs (SettlesWords z) v w
