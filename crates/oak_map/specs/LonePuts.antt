-- What a call that puts answers to a pass that is alone: `Full` exactly by what its table lacks.
use Rattle.std.specs.Prelude.{◌≡◌, ◌≢◌, ℕ, ◌<◌, ◌⊎◌, List, Option, Some, None}
use Rattle.oak_model.specs.declared.cells.CellCall.{CellCall}
use Rattle.oak_model.specs.declared.replies.Lack.{Lack}
use Rattle.oak_model.specs.declared.replies.Lack.TheVariants.{Block, Header, Room}
use Rattle.oak_model.specs.declared.replies.Pair.{Pair}
use Rattle.oak_model.specs.declared.replies.Wrote.{Wrote}
use Rattle.oak_model.specs.declared.replies.Wrote.TheVariants.{New, Over, Kept, Done, Removed, Absent, Full}
use Rattle.oak_model.specs.Cell.{state_after}
use Rattle.oak_model.specs.KeyNumber.{key_number}
use Rattle.oak_model.specs.Limits.{Sizes}
use Rattle.oak_model.specs.State.{State}
use Rattle.chunk_core.specs.declared.states.TheConstants.{OPEN}
use Rattle.chunk_core.specs.LinkedEntries.{entries_in}
use Rattle.chunk_core.specs.Spans.{within}
use Rattle.oak_core.specs.declared.states.PassState.{PassState}
use Rattle.oak_core.specs.Memory.{memory}
use Rattle.oak_core.specs.Sweeping.{valueless}
use Rattle.chunk_ops.specs.FindsAlone.{IsLinked, linked_key}
use Rattle.lone_counts.specs.Lacks.{new_lack, over_lack}
use Rattle.lone_counts.specs.LoneTable.{retired_in}
use Rattle.lone_counts.specs.Maps.{IsMapOf, last_states}
use Rattle.point_ops.specs.declared.halts.Halt.TheVariants.{Crowded, NoBlock, NoHeader}
use Rattle.point_ops.specs.LonePuts.{KeepsRooms, LoneHalts}
use Rattle.point_ops.specs.LoneReplies.{SeesTheSame, WroteAlone}
use Rattle.point_ops.specs.Needs.{Needs}
use Rattle.rebalance.specs.Copies.{AllLinked, copy_span}
use Rattle.rebalance.specs.LoneCalls.{IsSettled}
use Rattle.rebalance.specs.LoneWords.{IsOpen, room_in, state_in}

-- the answer is a reply of the cell
abbrev pub IsReply : Wrote → Type 0
IsReply (Full lack) = ⊥
IsReply _ = Unit {0}

-- Each room is open, and the one that has the key in its range is full of entries, all linked and with a value, and none of the key.
pub record HasNoRoomFor (z : Sizes) (key words : List ℕ) : Type 0 where
  pub all_open : (r : ℕ) → r < z.chunks → state_in z words r ≡ OPEN
  pub room : ℕ
  pub is_open : IsOpen z words room
  pub covers : within (copy_span (room_in z words room)) (key_number key) ≡ 1
  pub full : entries_in (room_in z words room).count ≡ z.entries
  pub linked : AllLinked (room_in z words room)
  pub valued : valueless (room_in z words room) ≡ 0
  pub missing : (i : ℕ) → IsLinked (memory z words) room i → key_number (linked_key (memory z words) room i) ≢ key_number key

-- `Full` with what the map lacks; and where it lacks nothing, exactly where there is no room
abbrev pub FullBy : Option Lack → Type 0 → Wrote → Type 0
FullBy (Some lack) NoRoom y = y ≡ Full lack
FullBy None NoRoom y = ((y ≡ Full Room) × NoRoom) ⊎ (IsReply y × (NoRoom → ⊥))

-- by the state of the key before the call and the one that the call makes of it
abbrev pub FullAsLacks : Sizes → List Pair → ℕ → List ℕ → Type 0 → State → State → Wrote → Type 0
FullAsLacks z m retired key NoRoom None None y = IsReply y
FullAsLacks z m retired key NoRoom None (Some value) y = FullBy (new_lack z m retired key value) NoRoom y
FullAsLacks z m retired key NoRoom (Some old) None y = IsReply y
FullAsLacks z m retired key NoRoom (Some old) (Some value) y = FullBy (over_lack z m old value) ⊥ y

-- Of the words before and behind, where v is the state of the pass at the call: it is `Full` exactly so, and then the rooms are as settling leaves them, and no header more is retired.
pub record PutsAlone (z : Sizes) (key : List ℕ) (ask : CellCall) (v : PassState) (y : Wrote) (before after : List ℕ) : Type 0 where
  pub full : (m : List Pair) → IsMapOf (last_states v) m → FullAsLacks z m (retired_in z before) key (HasNoRoomFor z key after) (last_states v key) (state_after (last_states v key) ask) y
  pub settled : (IsReply y → ⊥) → IsSettled z after
  pub retired : retired_in z after ≡ retired_in z before

-- it replies as the cell does; and where it is `Full`, no history changed
abbrev pub PutAlone : Wrote → Sizes → List ℕ → CellCall → PassState → PassState → Type 0
PutAlone (Full lack) z key ask v w = SeesTheSame z v w
PutAlone (New at) z key ask v w = WroteAlone (New at) z key ask v w
PutAlone (Over at) z key ask v w = WroteAlone (Over at) z key ask v w
PutAlone (Kept at) z key ask v w = WroteAlone (Kept at) z key ask v w
PutAlone (Done at) z key ask v w = WroteAlone (Done at) z key ask v w
PutAlone (Removed at) z key ask v w = WroteAlone (Removed at) z key ask v w
PutAlone (Absent at) z key ask v w = WroteAlone (Absent at) z key ask v w

-- ---- what becomes of the rooms

-- in these words a try to put the value is refused for want of this
abbrev pub RefusedIn : Lack → Sizes → (key value words : List ℕ) → Type 0
RefusedIn (Block c) z key value words = LoneHalts (NoBlock c) z key value words words
RefusedIn Header z key value words = LoneHalts NoHeader z key value words words
RefusedIn Room z key value words = LoneHalts Crowded z key value words words

-- so the first try of the call is, which needs that where the key holds `old`
pub record FirstRefused (z : Sizes) (key : List ℕ) (ask : CellCall) (old : State) (words : List ℕ) : Type 0 where
  pub value : List ℕ
  pub puts : state_after None ask ≡ Some value
  pub lack : Lack
  pub refused : RefusedIn lack z key value words
  pub needs : Needs lack key old (state_after old ask) (Unit {0})

-- Of a pass that is alone in the state v before the call and w behind it: the call kept the state, the bounds and the base of each room and swept no range, or its first try was refused.
abbrev pub RoomsAlone : Sizes → List ℕ → CellCall → (v w : PassState) → (before after : List ℕ) → Type 0
RoomsAlone z key ask v w before after = (KeepsRooms z before after × (w.findings.swept ≡ v.findings.swept)) ⊎ FirstRefused z key ask (last_states v key) before
