-- What a pass has of the rooms that it freezes, holds, claims, opens and retires, and what it finds of those that it does not come to have.
use Rattle.std.specs.Prelude.{◌≡◌, ◌≢◌, ℕ, ◌<◌, ◌≤◌, ◌⊎◌, List, ◌∷◌, ◌++◌, length, Some, None}
use Rattle.pin_word.specs.PinWord.{state_of, count_of, HasNoPin}
use Rattle.oak_model.specs.Limits.{Sizes}
use Rattle.oak_model.specs.Counts.{Each}
use Rattle.arena_core.specs.Place.{content}
use Rattle.chunk_core.specs.declared.holds.HeldRoom.{HeldRoom}
use Rattle.chunk_core.specs.declared.holds.MovingRange.{MovingRange}
use Rattle.chunk_core.specs.declared.holds.RoomCopy.{RoomCopy}
use Rattle.chunk_core.specs.declared.holds.RoomHeldAs.TheVariants.{Frozen, Held}
use Rattle.chunk_core.specs.declared.holds.RoomHolds.{RoomHolds}
use Rattle.chunk_core.specs.declared.states.TheConstants.{FREE, OPEN, FROZEN, HELD}
use Rattle.chunk_core.specs.MovingRanges.{ranges_opened, ranges_joined}
use Rattle.chunk_core.specs.RoomCopies.{copy_of, without_room}
use Rattle.chunk_core.specs.RoomReads.{copy_at, moving_at}
use Rattle.chunk_core.specs.RoomRule.{in_room_state, IsWholeCopy}
use Rattle.chunk_core.specs.RoomStep.{freeze_room, thaw_room, hold_room, claim_room, open_room, retire_room}
use Rattle.chunk_core.specs.Rooms.{at_room_pin}
use Rattle.oak_core.specs.declared.states.Finding.{Finding}
use Rattle.oak_core.specs.declared.states.PassState.{PassState}
use Rattle.oak_core.specs.AloneWords.{Runs}
use Rattle.oak_core.specs.CallSteps.{MetMore, StepOfCall}
use Rattle.oak_core.specs.Memory.{in_rooms, index, memory}
use Rattle.oak_core.specs.QuietSteps.{MetOnly}
use Rattle.oak_core.specs.RoomLacks.{FoundUsed}
use Rattle.oak_core.specs.Step.{load, on_rooms}
use Rattle.oak_core.specs.Sweeping.{swept_by}
use Rattle.chunk_ops.specs.AddsAlone.{Never}
use Rattle.chunk_ops.specs.LoneRooms.{NeverUnfrozen}
use Rattle.chunk_ops.specs.RoomPins.{HadMoment}
use Rattle.rebalance.specs.Copies.{LinksReach}
use Rattle.rebalance.specs.LoneWords.{FreezesWords, MovesRoom, MovesWith, NoneFree, TakenBetween}
use Rattle.rebalance.specs.Mirrors.{Mirrors, RangeStands}
use Rattle.rebalance.specs.Repeating.{RepeatsIn}
use Rattle.rebalance.specs.Resting.{OnlyRests, OnlyTries, Rests, Tries}

-- The pass only met more, all in the call, but for what it has of rooms. It claimed none.
pub record StandsBeside (call : ℕ) (v w : PassState) : Type 0 where
  pub stands : Rests call v w
  pub blocks : w.blocks ≡ v.blocks
  pub headers : w.headers ≡ v.headers

-- so it is of a part of a call that may have claimed rooms
pub record TriesBeside (call : ℕ) (v w : PassState) : Type 0 where
  pub stands : Tries call v w
  pub blocks : w.blocks ≡ v.blocks
  pub headers : w.headers ≡ v.headers

-- The pass holds the room alone, with these words in it.
pub record HasHeld (z : Sizes) (r : ℕ) (w : RoomCopy) (a : RoomHolds) : Type 0 where
  pub held : in_room_state r HELD a ≡ 1
  pub copy : copy_of r a.held ≡ Some w
  pub whole : IsWholeCopy z w

-- ---- freezing

-- what a pass has of rooms, with one more frozen
abbrev pub with_frozen : ℕ → RoomHolds → RoomHolds
with_frozen r a = record a { held = record { room = r; held_as = Frozen } ∷ a.held }

-- The last step of the call froze the room, which it found open.
pub record Freezes (z : Sizes) (call r : ℕ) (v w : PassState) : Type 0 where
  pub word : ℕ
  pub step : StepOfCall z call (on_rooms (freeze_room r word)) v w
  pub was : step.number ≡ word
  pub opened : state_of word ≡ OPEN
  pub before : OnlyRests call v step.from
  pub last : step.to ≡ w
  pub beside : StandsBeside call v w
  pub rooms : w.rooms ≡ with_frozen r v.rooms
  pub frozen : in_room_state r FROZEN w.rooms ≡ 1
  pub ended : HadMoment z w
  -- to a pass that is alone
  pub alone : Runs (FreezesWords z v r) v w

-- a step of the call found the room frozen
pub record FindsFrozen (z : Sizes) (call r : ℕ) (v w : PassState) : Type 0 where
  pub step : StepOfCall z call (load (in_rooms (at_room_pin r))) v w
  pub frozen : state_of step.number ≡ FROZEN

-- a step of the call by which it would have frozen the room found another word than the look before it
pub record FindsChanged (z : Sizes) (call r : ℕ) (v w : PassState) : Type 0 where
  pub word : ℕ
  pub step : StepOfCall z call (on_rooms (freeze_room r word)) v w
  pub changed : step.number ≢ word

-- a step of the call found the room frozen, as its pass had it, with a pin
pub record FindsPinned (z : Sizes) (call r : ℕ) (v w : PassState) : Type 0 where
  pub word : ℕ
  pub step : StepOfCall z call (on_rooms (hold_room r word)) v w
  pub frozen : state_of step.number ≡ FROZEN
  pub pinned : 0 < count_of step.number

-- The pass could not have the room alone: another one had frozen it, or at each of so many looks its word had changed before it was frozen, or pins stood on it once it was.
abbrev pub IsBusy : Sizes → ℕ → ℕ → ℕ → PassState → PassState → Type 0
IsBusy z call looks r v w = FindsFrozen z call r v w ⊎ (RepeatsIn (FindsChanged z call r) call looks v w ⊎ RepeatsIn (FindsPinned z call r) call looks v w)

-- The pass did not freeze the room, of which it has a pin, and only met more.
pub record LeavesUnfrozen (z : Sizes) (call looks r : ℕ) (v w : PassState) : Type 0 where
  pub why : FindsFrozen z call r v w ⊎ RepeatsIn (FindsChanged z call r) call looks v w
  pub only : OnlyRests call v w
  -- to a pass that is alone
  pub alone : Runs (NeverUnfrozen v) v w

-- ---- holding

-- what a pass has of rooms, with a frozen one held that has these words, and its range
abbrev pub with_moving : ℕ → RoomCopy → MovingRange → RoomHolds → RoomHolds
with_moving r w g a = record a { held = record { room = r; held_as = Held w } ∷ without_room r a.held; moving = g ∷ a.moving }

-- The last step of the call found the frozen room without a pin, and the pass holds it from there on. The copy has the words of the room; its range is in order, and moves with the pass.
pub record Holds (z : Sizes) (call r : ℕ) (copy : RoomCopy) (range : MovingRange) (v w : PassState) : Type 0 where
  pub word : ℕ
  pub step : StepOfCall z call (on_rooms (hold_room r word)) v w
  pub was : step.number ≡ word
  pub unpinned : HasNoPin FROZEN word
  pub before : OnlyRests call v step.from
  pub last : step.to ≡ w
  pub copy_is : copy ≡ copy_at z (memory z step.told.table.words).rooms r
  pub range_is : range ≡ moving_at (memory z step.told.table.words).rooms (content (memory z step.told.table.words).arena.bytes) r
  pub beside : StandsBeside call v w
  pub rooms : w.rooms ≡ with_moving r copy range v.rooms
  pub has : HasHeld z r copy w.rooms
  pub mirrors : Mirrors z copy range
  pub linked : LinksReach copy
  pub stands : RangeStands range
  pub ended : HadMoment z w
  -- to a pass that is alone
  pub alone : Runs (MovesWith z r FROZEN HELD copy) v w

-- The room, which the pass had frozen, and which was pinned at each of so many looks, is open again, and the pass has it no more. It only met more else.
pub record Thaws (z : Sizes) (call looks r : ℕ) (v w : PassState) : Type 0 where
  pub pinned : RepeatsIn (FindsPinned z call r) call looks v w
  pub step : StepOfCall z call (on_rooms (thaw_room r)) v w
  pub last : step.to ≡ w
  pub beside : StandsBeside call v w
  pub rooms : w.rooms ≡ record v.rooms { held = without_room r v.rooms.held }
  pub ended : HadMoment z w
  -- to a pass that is alone
  pub alone : Runs Never v w

-- ---- claiming

-- the pass has no pin of a room, and has no room but this one
pub record HasOnly (but : ℕ) (a : RoomHolds) : Type 0 where
  pub pin : a.pin ≡ None
  pub held : Each (λ (h : HeldRoom). h.room ≡ but) a.held

-- what a pass has of rooms, with a free one held that has these words
abbrev pub with_claimed : ℕ → RoomCopy → RoomHolds → RoomHolds
with_claimed r w a = record a { held = record { room = r; held_as = Held w } ∷ a.held }

-- the step was at the pin word of a room that is not this one
abbrev pub IsAtAnother : Sizes → ℕ → Finding → Type 0
IsAtAnother z but f = (r : ℕ) × (r < z.chunks) × (r ≢ but) × (f.word ≡ index z (in_rooms (at_room_pin r)))

-- The pass met nothing but pin words of rooms that are not this one, and each step by which it claimed a room, or tried to, was one of these.
pub record ClaimsOthers (z : Sizes) (but : ℕ) (v w : PassState) : Type 0 where
  pub met : MetOnly (IsAtAnother z but) v w
  pub more : List ℕ
  pub claims : w.findings.rebalances.claims ≡ v.findings.rebalances.claims ++ more
  pub places : Each (λ (n : ℕ). (length v.findings.met ≤ n) × (n < length w.findings.met)) more

-- The last step of the call found the room free, and the pass holds it from there on. No range came with it.
pub record Claims (z : Sizes) (call r : ℕ) (copy : RoomCopy) (v w : PassState) : Type 0 where
  pub inside : r < z.chunks
  pub word : ℕ
  pub step : StepOfCall z call (on_rooms (claim_room r word)) v w
  pub was : step.number ≡ word
  pub unpinned : HasNoPin FREE word
  pub before : OnlyTries call v step.from
  pub last : step.to ≡ w
  pub beside : TriesBeside call v w
  pub rooms : w.rooms ≡ with_claimed r copy v.rooms
  pub has : HasHeld z r copy w.rooms
  pub latch : copy.latch ≡ 0
  pub ended : HadMoment z w
  -- to a pass that is alone
  pub alone : Runs (MovesWith z r FREE HELD copy) v w

-- the room was found not free in the call, and the pass had nothing of it
abbrev pub FindsUsed : Sizes → PassState → PassState → ℕ → Type 0
FindsUsed z v w r = FoundUsed z (length v.findings.met) (length w.findings.met) w.findings.met r

-- so was each room from one on and below another, but one, and the pass only met more; where there was a moment of the rule before, there is one behind
pub record FindsTaken (z : Sizes) (call but from to : ℕ) (v w : PassState) : Type 0 where
  pub used : (r : ℕ) → from ≤ r → r < to → r ≢ but → FindsUsed z v w r
  pub only : OnlyTries call v w
  pub moment : HadMoment z v → HadMoment z w
  -- to a pass that is alone
  pub alone : Runs (TakenBetween z but from to) v w

-- so was each room but one
pub record FindsNoneFree (z : Sizes) (call but : ℕ) (v w : PassState) : Type 0 where
  pub used : (r : ℕ) → r < z.chunks → r ≢ but → FindsUsed z v w r
  pub only : OnlyTries call v w
  pub moment : HadMoment z v → HadMoment z w
  -- to a pass that is alone
  pub alone : Runs (NoneFree z but) v w

-- ---- opening and retiring

-- what a pass has of rooms once it opened one that it held
abbrev pub with_opened : ℕ → RoomHolds → RoomHolds
with_opened r a = record a { held = without_room r a.held; moving = ranges_opened (copy_of r a.held) a.moving }

-- The pass only met more, all in the call, but for what it has of rooms, and what the opening swept. It claimed none.
pub record SweepsBeside (call r : ℕ) (v w : PassState) : Type 0 where
  pub met : MetMore call v w
  pub numbers : w.numbers ≡ v.numbers
  pub knowledge : w.knowledge ≡ v.knowledge
  pub fulls : w.findings.fulls ≡ v.findings.fulls
  pub swept : w.findings.swept ≡ swept_by (open_room r) v
  pub sights : w.findings.sights ≡ v.findings.sights
  pub gones : w.findings.gones ≡ v.findings.gones
  pub claims : w.findings.rebalances.claims ≡ v.findings.rebalances.claims
  pub blocks : w.blocks ≡ v.blocks
  pub headers : w.headers ≡ v.headers

-- The one step of the call opened the room, which the pass held.
pub record Opens (z : Sizes) (call r : ℕ) (v w : PassState) : Type 0 where
  pub step : StepOfCall z call (on_rooms (open_room r)) v w
  pub first : step.from ≡ v
  pub last : step.to ≡ w
  pub beside : SweepsBeside call r v w
  pub rooms : w.rooms ≡ with_opened r v.rooms
  pub ended : HadMoment z w
  -- to a pass that is alone
  pub alone : (copy : RoomCopy) → copy_of r v.rooms.held ≡ Some copy → Runs (MovesWith z r HELD OPEN copy) v w

-- what a pass has of rooms once it retired one that it held
abbrev pub with_retired : ℕ → RoomHolds → RoomHolds
with_retired r a = record a { held = without_room r a.held; moving = ranges_joined r a.moving }

-- The one step of the call retired the room, which the pass held.
pub record Retires (z : Sizes) (call r : ℕ) (v w : PassState) : Type 0 where
  pub step : StepOfCall z call (on_rooms (retire_room r)) v w
  pub first : step.from ≡ v
  pub last : step.to ≡ w
  pub beside : StandsBeside call v w
  pub rooms : w.rooms ≡ with_retired r v.rooms
  pub ended : HadMoment z w
  -- to a pass that is alone
  pub alone : Runs (MovesRoom z r HELD FREE) v w
