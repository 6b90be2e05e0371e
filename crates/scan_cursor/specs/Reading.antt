-- What a read of one key found.
use Rattle.std.specs.Prelude.{ℕ, List, Option, Some, None}
use Rattle.oak_model.specs.Limits.{Sizes}
use Rattle.oak_core.specs.declared.states.PassState.{PassState}
use Rattle.oak_core.specs.AloneWords.{Runs}
use Rattle.oak_core.specs.PassState.{HoldsNothing}
use Rattle.chunk_ops.specs.PinRecords.{WordsStay}
use Rattle.chunk_ops.specs.declared.entries.Content.TheVariants.{Value}
use Rattle.chunk_ops.specs.declared.entries.EntryNo.{EntryNo}
use Rattle.value_ops.specs.Pinning.{AddsPin}
use Rattle.value_ops.specs.PinnedValues.{stamp_under, value_under}
use Rattle.point_ops.specs.LoneLives.{EntrySays}
use Rattle.scan_cursor.specs.declared.reading.Here.{Here}
use Rattle.scan_cursor.specs.declared.reading.Here.TheVariants.{Present, Absent, Again}
use Rattle.scan_cursor.specs.Holding.{HasValue}
use Rattle.scan_cursor.specs.Views.{KnowsLast, ReadsKey, View}

-- the key was read present since m, and its value is pinned; or absent; or nothing was read
abbrev pub ReadsHere : Here → List ℕ → View → View → Type 0
ReadsHere (Present x) k m b = HasValue b.sizes x b.state × ReadsKey m b k (stamp_under b.state) (Some (value_under b.state))
ReadsHere Absent k m b = HoldsNothing b.state × ((at : ℕ) × ReadsKey m b k at None)
ReadsHere Again k m b = HoldsNothing b.state

-- to a pass that is alone: the words stay, but for one pin more on the value's header
abbrev pub LeavesHere : Here → Sizes → PassState → PassState → Type 0
LeavesHere (Present x) z v w = Runs (λ a b. (g : ℕ) × AddsPin z x.header g a b) v w
LeavesHere Absent z v w = Runs WordsStay v w
LeavesHere Again z v w = Runs WordsStay v w

-- the pinned room named the header and the generation of the key's last life, or the key was read absent
abbrev pub LooksUp : Option (ℕ × ℕ) → List ℕ → View → View → Type 0
LooksUp (Some life) k a b = KnowsLast k life.0 life.1 b
LooksUp None k a b = (at : ℕ) × ReadsKey a b k at None

-- to a pass that is alone: the words stay, and in them an entry of the room has the key and names the life
abbrev pub NamesLife : Sizes → (r : ℕ) → (key : List ℕ) → (h g : ℕ) → PassState → PassState → Type 0
NamesLife z r key h g v w = (i : EntryNo) × Runs (EntrySays i (Value h g) z r key) v w
