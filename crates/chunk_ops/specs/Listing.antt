-- What a call leaves that goes on along the links of a pinned room. v is the state of the pass at the call, w the one at its end.
use Rattle.std.specs.Prelude.{◌≡◌, ℕ, ◌+◌, ◌<◌, List, Option, Some, None}
use Rattle.oak_model.specs.Limits.{Sizes}
use Rattle.chunk_core.specs.declared.holds.FoundEntry.{FoundEntry}
use Rattle.chunk_core.specs.FoundLinks.{IsAboveFound, IsBelowFound}
use Rattle.chunk_core.specs.LinkWords.{link_spot, link_word}
use Rattle.chunk_core.specs.MayOnRooms.{FindsEntry}
use Rattle.chunk_core.specs.PinnedRooms.{span_of, found_key}
use Rattle.chunk_core.specs.Spans.{within}
use Rattle.oak_core.specs.declared.states.PassState.{PassState}
use Rattle.oak_core.specs.AloneWords.{Runs}
use Rattle.oak_core.specs.Memory.{in_rooms, memory}
use Rattle.oak_core.specs.QuietSteps.{Quiet}
use Rattle.oak_core.specs.Step.{Told, load}
use Rattle.chunk_ops.specs.declared.entries.EntryNo.{EntryNo}
use Rattle.chunk_ops.specs.Finds.{FoundAbsent}
use Rattle.chunk_ops.specs.PinRecords.{UnderPin, room_pin}

-- the number of an entry, if there is one
abbrev pub number_of : Option EntryNo → Option ℕ
number_of None = None
number_of (Some i) = Some i.0

-- the link that names an entry, or none
abbrev pub link_to : Option EntryNo → ℕ
link_to None = 0
link_to (Some i) = i.0 + 1

-- the entry was found, or there is none
abbrev pub IsEntryOrNone : ℕ → Option EntryNo → PassState → Option FoundEntry → Type 0
IsEntryOrNone r None v o = o ≡ None
IsEntryOrNone r (Some i) v o = (e : FoundEntry) × FindsEntry r i.0 v.rooms (room_pin v) e × (o ≡ Some e)

-- the keys of two entries rise, where there are both
abbrev pub Rise : Option FoundEntry → Option FoundEntry → Type 0
Rise None o = Unit {0}
Rise (Some e) None = Unit {0}
Rise (Some e) (Some f) = found_key e < found_key f

-- in the words, the link leads to the next entry; they stay
abbrev pub StepsIn : Sizes → ℕ → Option EntryNo → Option EntryNo → List ℕ → List ℕ → Type 0
StepsIn z r from next before after = (after ≡ before) × (link_word (memory z before).rooms r (number_of from) ≡ link_to next)

-- The call made one load: that of the room's first link, or of the link of an entry that was found. What it names was found then, and its key is greater; each key of the range that lies between was absent, as was each above where the link names none.
pub record StepsTo (z : Sizes) (call r : ℕ) (from next : Option EntryNo) (v w : PassState) : Type 0 where
  pub told : Told z call (load (in_rooms (link_spot r (number_of from)))) v (link_to next) w
  pub before : Option FoundEntry
  pub was : IsEntryOrNone r from v before
  pub behind : Option FoundEntry
  pub is : IsEntryOrNone r next w behind
  pub rises : Rise before behind
  pub absent : (k : ℕ) → within (span_of (room_pin v)) k ≡ 1 → IsAboveFound before k → IsBelowFound behind k → FoundAbsent call k (room_pin v).base v w
  pub under : UnderPin z call r v w
  pub quiet : Quiet v w
  pub alone : Runs (StepsIn z r from next) v w
