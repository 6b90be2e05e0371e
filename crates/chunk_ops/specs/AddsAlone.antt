-- What the addition of an entry does to the words of the table, for a pass that is alone.
use Rattle.std.specs.Prelude.{◌≡◌, ℕ, ◌+◌, ◌<◌, ◌⊎◌, List, Option, MatchOption, slice_set}
use Rattle.oak_model.specs.declared.classes.Class.{Class}
use Rattle.oak_model.specs.Class.{class_number}
use Rattle.oak_model.specs.Limits.{Sizes}
use Rattle.arena_core.specs.Place.{place_word}
use Rattle.arena_ops.specs.Taking.{ClearsBit}
use Rattle.chunk_core.specs.LinkWords.{link_spot, link_word}
use Rattle.chunk_core.specs.LinkedEntries.{entries_in}
use Rattle.chunk_core.specs.Rooms.{at_count, at_key, at_next, at_value}
use Rattle.oak_core.specs.Memory.{in_rooms, index, memory}
use Rattle.chunk_ops.specs.declared.entries.AddHalt.{AddHalt}
use Rattle.chunk_ops.specs.declared.entries.AddHalt.TheVariants.{Crowded, Busy}
use Rattle.chunk_ops.specs.declared.entries.EntryNo.{EntryNo}
use Rattle.chunk_ops.specs.declared.entries.Found.TheVariants.{Entry}
use Rattle.chunk_ops.specs.FindsAlone.{HasKeyAt, IsLinked, LacksKeyAt}

-- of a pass that is alone: that it came to this
abbrev pub Never : List ℕ → List ℕ → Type 0
Never before after = ⊥

-- the words, with the count of the room r one more, and the value word, the link and the key word of the entry i: the room's base, what the link `from` was, and the block with the length
abbrev pub claim_words : Sizes → ℕ → Option ℕ → ℕ → Class → ℕ → ℕ → List ℕ → List ℕ
claim_words z r from i c b len words = slice_set (slice_set (slice_set (slice_set words (index z (in_rooms (at_count r))) ((memory z words).rooms.count r + 1)) (index z (in_rooms (at_value r i))) ((memory z words).rooms.base r)) (index z (in_rooms (at_next r i))) (link_word (memory z words).rooms r from)) (index z (in_rooms (at_key r i))) (place_word (class_number c) b len)

-- and the link `from`, which names the entry
abbrev pub put_entry : Sizes → ℕ → Option ℕ → ℕ → Class → ℕ → ℕ → List ℕ → List ℕ
put_entry z r from i c b len words = slice_set (claim_words z r from i c b len words) (index z (in_rooms (link_spot r from))) (i + 1)

-- a link is the first one, or that of a linked entry of the room
abbrev pub IsLinkOf : Sizes → ℕ → Option ℕ → List ℕ → Type 0
IsLinkOf z r from words = MatchOption from (Unit {0}) (λ q. (q < z.entries) × IsLinked (memory z words) r q)

-- the words stay, and in them the room has as many entries as it may, and none of the key
abbrev pub CrowdedIn : Sizes → ℕ → List ℕ → List ℕ → List ℕ → Type 0
CrowdedIn z r key before after = (after ≡ before) × (entries_in ((memory z before).rooms.count r) ≡ z.entries) × LacksKeyAt (memory z before) r key

-- the entry of the key was there, and the block was given back: its bit was cleared, and no other word changed
abbrev pub KeepsEntry : Sizes → ℕ → EntryNo → Class → ℕ → List ℕ → List ℕ → List ℕ → Type 0
KeepsEntry z r i c b key before after = HasKeyAt (memory z before) r key (Entry i) × ClearsBit z c b before after

-- it is the next one, as the room had fewer than it may and none of the key: its three words, the room's count and one link were put, and no other word changed
pub record AddsNext (z : Sizes) (r : ℕ) (i : EntryNo) (c : Class) (b len : ℕ) (key before after : List ℕ) : Type 0 where
  pub next : i.0 ≡ entries_in ((memory z before).rooms.count r)
  pub room : i.0 < z.entries
  pub none : LacksKeyAt (memory z before) r key
  pub from : Option ℕ
  pub link : IsLinkOf z r from before
  pub becomes : after ≡ put_entry z r from i.0 c b len before

-- The entry of the key was there, or it is the next one, with the block as its key's. In the words that are left it is linked, and has the key.
pub record AddsIn (z : Sizes) (r : ℕ) (i : EntryNo) (c : Class) (b len : ℕ) (key before after : List ℕ) : Type 0 where
  pub was : KeepsEntry z r i c b key before after ⊎ AddsNext z r i c b len key before after
  pub now : HasKeyAt (memory z after) r key (Entry i)

-- why no entry was added
abbrev pub NotAddedIn : AddHalt → Sizes → ℕ → List ℕ → List ℕ → List ℕ → Type 0
NotAddedIn Crowded z r key before after = CrowdedIn z r key before after
NotAddedIn Busy z r key before after = Never before after
