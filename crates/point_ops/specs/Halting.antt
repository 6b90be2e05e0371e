-- Why calls are given up. v is the state of the pass at the call, w the one at its end.
use Rattle.std.specs.Prelude.{◌≡◌, ◌≢◌, ℕ, ◌<◌, ◌%◌, ◌⊎◌, false, List, length, Option, Some, None}
use Rattle.std.specs.Int.{bit_at}
use Rattle.pin_word.specs.PinWord.{state_of, generation_of, count_of}
use Rattle.oak_model.specs.declared.cells.CellCall.{CellCall}
use Rattle.oak_model.specs.declared.cells.CellCall.TheVariants.{Get, Put, PutNew, Compute, Upsert, Remove}
use Rattle.oak_model.specs.declared.classes.Class.{Class}
use Rattle.oak_model.specs.declared.replies.Lack.TheVariants.{Block, Header, Room}
use Rattle.oak_model.specs.Class.{class_number, class_of}
use Rattle.oak_model.specs.Cell.{state_after}
use Rattle.oak_model.specs.KeyNumber.{key_number}
use Rattle.oak_model.specs.Limits.{Sizes}
use Rattle.arena_core.specs.Arena.{blocks}
use Rattle.header_core.specs.declared.states.TheConstants.{LIVE, LOCKED, DEAD}
use Rattle.header_core.specs.Headers.{at_pin}
use Rattle.oak_core.specs.Usage.{is_free}
use Rattle.chunk_core.specs.declared.holds.FoundEntry.{FoundEntry}
use Rattle.chunk_core.specs.PinnedRooms.{found_in, found_key, span_of}
use Rattle.chunk_core.specs.LinkedEntries.{entries_in}
use Rattle.chunk_core.specs.Rooms.{at_count}
use Rattle.oak_model.specs.Counts.{Has}
use Rattle.oak_core.specs.declared.states.PassState.{PassState}
use Rattle.oak_core.specs.CallSteps.{StepOfCall}
use Rattle.oak_core.specs.CountReads.{ReadAbsent, SightedBare}
use Rattle.oak_core.specs.KnownPlaces.{ReadAt}
use Rattle.oak_core.specs.Lack.{TookBut}
use Rattle.oak_core.specs.Memory.{in_headers, in_rooms}
use Rattle.oak_core.specs.QuietSteps.{MetOnly}
use Rattle.oak_core.specs.Sights.{SightedSince}
use Rattle.oak_core.specs.Step.{load}
use Rattle.arena_ops.specs.Looking.{bit_spot}
use Rattle.chunk_ops.specs.Adds.{FoundOther, LeavesCount}
use Rattle.chunk_ops.specs.AskedRanges.{CoversKey}
use Rattle.chunk_ops.specs.Contents.{EntryNamed}
use Rattle.chunk_ops.specs.PinRecords.{room_pin}
use Rattle.chunk_ops.specs.RoomPins.{FoundMoved}
use Rattle.chunk_ops.specs.Setting.{FoundSet}
use Rattle.point_ops.specs.FoundWords.{FoundWord, FoundApart, FoundChanged, FoundHad, FoundWith}
use Rattle.point_ops.specs.Needs.{NeedsNow, value_class}
use Rattle.point_ops.specs.declared.halts.Halt.{Halt}
use Rattle.point_ops.specs.declared.halts.Halt.TheVariants.{Busy, Moved, Crowded, NoBlock, NoHeader}

-- the words of a header that are causes, where the generation g was wanted

-- locked, or of another generation
abbrev pub IsLockedOut : ℕ → ℕ → Type 0
IsLockedOut g n = (state_of n ≡ LOCKED) ⊎ (generation_of n ≢ g)

abbrev pub IsDeadAt : ℕ → ℕ → Type 0
IsDeadAt g n = (generation_of n ≡ g) × (state_of n ≡ DEAD)

abbrev pub IsPinned : ℕ → ℕ → Type 0
IsPinned g n = 0 < count_of n

-- the pin word of the header that the key's entry named in the call was found in it with a number that has P
pub record KeyHeaderFound (z : Sizes) (call : ℕ) (key : List ℕ) (P : ℕ → ℕ → Type 0) (v w : PassState) : Type 0 where
  pub r : ℕ
  pub i : ℕ
  pub h : ℕ
  pub g : ℕ
  pub named : EntryNamed z call r i key h g v w
  pub found : FoundWord z call (in_headers (at_pin h)) (P g) v w

-- it was found dead, and later live
pub record KeyHeaderRose (z : Sizes) (call : ℕ) (key : List ℕ) (v w : PassState) : Type 0 where
  pub r : ℕ
  pub i : ℕ
  pub h : ℕ
  pub g : ℕ
  pub named : EntryNamed z call r i key h g v w
  pub found : FoundChanged z call (in_headers (at_pin h)) (IsDeadAt g) (λ n. state_of n ≡ LIVE) v w

-- the count or a link of the pinned room that covers the key was found other than it was loaded before in the call, with no step of the call between that changed it
pub record RoomChanged (z : Sizes) (call : ℕ) (key : List ℕ) (v w : PassState) : Type 0 where
  pub r : ℕ
  pub found : FoundOther z call r v w
  pub covers : CoversKey key (span_of (room_pin found.first.from))

-- where a value was to be set the value word of the key's entry was another number than the floor, or the base, that the call had found for the key
pub record EntryChanged (z : Sizes) (call : ℕ) (key : List ℕ) (v w : PassState) : Type 0 where
  pub r : ℕ
  pub i : ℕ
  pub floor : ℕ
  pub found : FoundSet z call r i floor key v w
  pub sighted : SightedSince (key_number key) floor v.findings w.findings
  pub read : ReadAt (key_number key) floor None v w

-- which calls set a value on an absent key, and which want the lock of a present one's header

abbrev pub SetsValue : CellCall → Type 0
SetsValue Get = ⊥
SetsValue (Put v) = Unit {0}
SetsValue (PutNew v) = Unit {0}
SetsValue (Compute r n) = ⊥
SetsValue (Upsert v r n) = Unit {0}
SetsValue Remove = ⊥

abbrev pub WantsLock : CellCall → Type 0
WantsLock Get = ⊥
WantsLock (Put v) = Unit {0}
WantsLock (PutNew v) = ⊥
WantsLock (Compute r n) = Unit {0}
WantsLock (Upsert v r n) = Unit {0}
WantsLock Remove = Unit {0}

-- Why a call is busy. The key's header was locked, or of another generation than its entry said; it was dead where a value was to be set; it was pinned, or rose between two looks, where its lock was wanted; the room's count or a link was changed, or the entry's value word had changed, where a value was to be set.
pub data BusyBy (z : Sizes) (call : ℕ) (key : List ℕ) (ask : CellCall) (v w : PassState) : Type 0 where
  locked : KeyHeaderFound z call key IsLockedOut v w → BusyBy z call key ask v w
  dead : SetsValue ask → KeyHeaderFound z call key IsDeadAt v w → BusyBy z call key ask v w
  pinned : WantsLock ask → KeyHeaderFound z call key IsPinned v w → BusyBy z call key ask v w
  rose : WantsLock ask → KeyHeaderRose z call key v w → BusyBy z call key ask v w
  crossed : SetsValue ask → RoomChanged z call key v w → BusyBy z call key ask v w
  changed : SetsValue ask → EntryChanged z call key v w → BusyBy z call key ask v w

-- The count of a room was found at the room's size in the call, no entry that was found then had the key, and the key was read absent at the base behind that. No step of the call stored to that count, nor to the key word of an entry of the room, so no entry that it claimed is among them.
pub record RoomCrowded (z : Sizes) (call : ℕ) (key : List ℕ) (v w : PassState) : Type 0 where
  pub r : ℕ
  pub step : StepOfCall z call (load (in_rooms (at_count r))) v w
  pub full : entries_in step.number ≡ z.entries
  pub covers : CoversKey key (span_of (room_pin step.to))
  pub none : (e : FoundEntry) → Has e (found_in (room_pin step.to)) → found_key e ≢ key_number key
  pub base : ℕ
  pub absent : ReadAbsent call (key_number key) base v w
  pub own : MetOnly (LeavesCount z r) v w

-- the bit of each block of the class was found set, where the pass had there what it has in the state x
abbrev pub SetWith : Sizes → ℕ → Class → PassState → PassState → PassState → Type 0
SetWith z call c x v w = (b : ℕ) → b < blocks z (class_number c) → FoundWith z call (bit_spot c b) x (λ n. bit_at n (b % 64) ≡ 1) v w

-- the bit of the block is set, and none of the pass's own
abbrev pub IsOthers : ℕ → (n had : ℕ) → Type 0
IsOthers b n had = (bit_at n (b % 64) ≡ 1) × (bit_at had (b % 64) ≡ 0)

-- the block was found taken by another, or is the spare one, and was found taken
abbrev pub IsTaken : Sizes → ℕ → Class → Option ℕ → ℕ → PassState → PassState → Type 0
IsTaken z call c spare b v w = FoundHad z call (bit_spot c b) (IsOthers b) v w ⊎ ((spare ≡ Some b) × FoundHad z call (bit_spot c b) (λ n _. bit_at n (b % 64) ≡ 1) v w)

-- so was each block of the class
abbrev pub AllTaken : Sizes → ℕ → Class → Option ℕ → PassState → PassState → Type 0
AllTaken z call c spare v w = (b : ℕ) → b < blocks z (class_number c) → IsTaken z call c spare b v w

-- The spare block is the call's own, for its value. So it is only where the class is that of its value and of its key, and the key was found without an entry.
abbrev pub SpareNow : Option ℕ → Class → ℕ → List ℕ → CellCall → PassState → PassState → Type 0
SpareNow None c call key ask v w = Unit {0}
SpareNow (Some b) c call key ask v w = (value_class (state_after None ask) ≡ Some c) × (class_of (length key) ≡ Some c) × ((at : ℕ) × SightedBare call (key_number key) at v w)

-- the header was found not free, or in two generations
abbrev pub IsUnfree : Sizes → (call h : ℕ) → PassState → PassState → Type 0
IsUnfree z call h v w = FoundWord z call (in_headers (at_pin h)) (λ n. is_free n ≡ false) v w ⊎ FoundApart z call (in_headers (at_pin h)) generation_of v w

-- so was each
abbrev pub NoneFree : Sizes → ℕ → PassState → PassState → Type 0
NoneFree z call v w = (h : ℕ) → h < z.headers → IsUnfree z call h v w

-- Why a call was given up, and that it needs what is lacking. Where a block is, no step of the call took one of that class but the spare one, also not for a header or an entry.
abbrev pub Halts : Halt → Sizes → ℕ → List ℕ → CellCall → PassState → PassState → Type 0
Halts Busy z call key ask v w = BusyBy z call key ask v w
Halts Moved z call key ask v w = FoundMoved z call (CoversKey key) v w
Halts Crowded z call key ask v w = RoomCrowded z call key v w × NeedsNow call key ask Room v w
Halts (NoBlock c) z call key ask v w = (spare : Option ℕ) × AllTaken z call c spare v w × NeedsNow call key ask (Block c) v w × SpareNow spare c call key ask v w × MetOnly (TookBut (Block c) spare) v w
Halts NoHeader z call key ask v w = NoneFree z call v w × NeedsNow call key ask Header v w
