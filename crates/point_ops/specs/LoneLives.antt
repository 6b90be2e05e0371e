-- What looks at a key and at its life do where their pass is alone: the words of the table stay, and in them stands what was found.
use Rattle.std.specs.Prelude.{◌≡◌, ℕ, false, List, length, Option, Result, Ok, Err, Some, None}
use Rattle.oak_model.specs.Class.{class_of}
use Rattle.oak_model.specs.Limits.{Sizes}
use Rattle.arena_ops.specs.Looking.{AllSet}
use Rattle.header_core.specs.Headers.{at_place, at_stamp}
use Rattle.oak_core.specs.declared.states.PassState.{PassState}
use Rattle.oak_core.specs.AloneWords.{Moment}
use Rattle.oak_core.specs.Memory.{Spot as WordSpot, in_arena, in_headers, memory}
use Rattle.oak_core.specs.PassState.{IsAlone}
use Rattle.chunk_ops.specs.declared.entries.Content.{Content}
use Rattle.chunk_ops.specs.declared.entries.Content.TheVariants.{Value, Floor}
use Rattle.chunk_ops.specs.declared.entries.EntryNo.{EntryNo}
use Rattle.chunk_ops.specs.declared.entries.Found.TheVariants.{Entry}
use Rattle.chunk_ops.specs.Contents.{Says}
use Rattle.chunk_ops.specs.FindsAlone.{FindsIn, LacksIn}
use Rattle.chunk_ops.specs.PinRecords.{room_pin}
use Rattle.chunk_ops.specs.AddsAlone.{Never}
use Rattle.value_ops.specs.AloneLocks.{pin_in}
use Rattle.value_ops.specs.Pinning.{IsLiveAt}
use Rattle.value_ops.specs.Locking.{IsDeadAt, may_lock}
use Rattle.point_ops.specs.declared.halts.Halt.{Halt}
use Rattle.point_ops.specs.declared.halts.Halt.TheVariants.{Busy, Moved, Crowded, NoBlock, NoHeader}
use Rattle.point_ops.specs.declared.lives.Life.{Life}
use Rattle.point_ops.specs.declared.lives.Life.TheVariants.{Live, Dead}
use Rattle.point_ops.specs.declared.spots.Spot.{Spot}
use Rattle.point_ops.specs.declared.spots.Spot.TheVariants.{Absent, Present}
use Rattle.point_ops.specs.LoneInserts.{KeepsBut}
use Rattle.point_ops.specs.Spots.{entry_in}

-- the entry of the key is linked, and its value word says so
abbrev pub EntrySays : EntryNo → Content → Sizes → (r : ℕ) → (key before after : List ℕ) → Type 0
EntrySays i c z r key before after = FindsIn z r key (Entry i) before after × Says c ((memory z before).rooms.value r i.0)

-- the key has no linked entry, or one whose value word is the floor
abbrev pub AwayIn : Option EntryNo → ℕ → Sizes → (r : ℕ) → (key before after : List ℕ) → Type 0
AwayIn None floor z r key before after = LacksIn z r key before after
AwayIn (Some i) floor z r key before after = EntrySays i (Floor floor) z r key before after

-- or its value word names the header at the generation
abbrev pub SpotIn : Spot → Sizes → (r : ℕ) → (key before after : List ℕ) → Type 0
SpotIn (Absent entry floor) z r key before after = AwayIn (entry_in entry) floor z r key before after
SpotIn (Present i o) z r key before after = EntrySays i (Value o.header o.generation) z r key before after

-- a key without an entry is absent at the base that the pass's pin of the room has
abbrev pub FloorIsBase : Option EntryNo → ℕ → PassState → Type 0
FloorIsBase None floor w = floor ≡ (room_pin w).base
FloorIsBase (Some i) floor w = Unit {0}

abbrev pub SpotBase : Spot → PassState → Type 0
SpotBase (Absent entry floor) w = FloorIsBase (entry_in entry) floor w
SpotBase (Present i o) w = Unit {0}

-- the pass was alone in the state v, at a moment at which the rule held, and the words, which stay, are those of that moment; the pin word of the header has P in them
pub record LooksAlone (z : Sizes) (h : ℕ) (P : ℕ → Type 0) (v : PassState) (before after : List ℕ) : Type 0 where
  pub stay : after ≡ before
  pub alone : IsAlone v
  pub moment : Moment z before v
  pub says : P (pin_in z h before)

-- it was not live at the generation
abbrev pub RefusesLook : Sizes → (h g : ℕ) → PassState → (before after : List ℕ) → Type 0
RefusesLook z h g v before after = LooksAlone z h (λ n. IsLiveAt g n → ⊥) v before after

-- it was not, or had a pin
abbrev pub RefusesLock : Sizes → (h g : ℕ) → PassState → (before after : List ℕ) → Type 0
RefusesLock z h g v before after = LooksAlone z h (λ n. may_lock n g ≡ false) v before after

-- what a look found
abbrev pub LifeIn : Life → Sizes → (h g : ℕ) → PassState → (before after : List ℕ) → Type 0
LifeIn (Live at) z h g v before after = after ≡ before
LifeIn (Dead at) z h g v before after = LooksAlone z h (IsDeadAt g) v before after

-- the header was not live at the generation and without a pin, in the words before
abbrev pub UnfreeIn : Sizes → (h g : ℕ) → (before after : List ℕ) → Type 0
UnfreeIn z h g before after = may_lock (pin_in z h before) g ≡ false

-- why a value was not put in place of another: the lock was refused, or each bit of the value's class is set, in words that stay
abbrev pub OverHaltsIn : Halt → Sizes → (h g : ℕ) → List ℕ → PassState → (before after : List ℕ) → Type 0
OverHaltsIn Busy z h g value v before after = RefusesLock z h g v before after
OverHaltsIn Moved z h g value v before after = Never before after
OverHaltsIn Crowded z h g value v before after = Never before after
OverHaltsIn (NoBlock c) z h g value v before after = AllSet z c (λ b. Unit {0}) before after × (class_of (length value) ≡ Some c)
OverHaltsIn NoHeader z h g value v before after = Never before after

-- what a look at a key does: the words stay, and it is refused never
abbrev pub GetsIn : {A : Type 0} → Result A Halt → (before after : List ℕ) → Type 0
GetsIn (Ok x) before after = after ≡ before
GetsIn (Err why) before after = Never before after

-- a word of the arena, or the place or the stamp of the header: no word of a room, and of no header the pin word
abbrev pub IsOfLife : ℕ → WordSpot → Type 0
IsOfLife h (in_arena p) = Unit {0}
IsOfLife h (in_headers (at_place k)) = k ≡ h
IsOfLife h (in_headers (at_stamp k)) = k ≡ h
IsOfLife _ _ = ⊥

-- a change of a present value leaves all other words
abbrev pub KeepsButLife : Sizes → (h : ℕ) → (before after : List ℕ) → Type 0
KeepsButLife z h before after = KeepsBut z (IsOfLife h) before after
