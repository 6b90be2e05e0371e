-- What searches do to the words of the table, for a pass that is alone: they stay, and the room has in them what was found.
use Rattle.std.specs.Prelude.{◌≡◌, ◌≢◌, ℕ, List, Option, Some, None}
use Rattle.oak_model.specs.Counts.{one_at, total}
use Rattle.oak_model.specs.Limits.{Sizes}
use Rattle.arena_core.specs.Place.{content}
use Rattle.oak_model.specs.KeyNumber.{key_number}
use Rattle.chunk_core.specs.KeyWords.{key_bytes}
use Rattle.chunk_core.specs.LinkedEntries.{linked}
use Rattle.oak_core.specs.Memory.{Memory, memory}
use Rattle.chunk_ops.specs.declared.entries.EntryNo.{EntryNo}
use Rattle.chunk_ops.specs.declared.entries.Found.{Found}
use Rattle.chunk_ops.specs.declared.entries.Found.TheVariants.{Entry, Missing}
use Rattle.chunk_ops.specs.Ways.{Way}
use Rattle.chunk_ops.specs.Finds.{IsPast, IsNearer}

-- entry i of the room r is linked
abbrev pub IsLinked : Memory → ℕ → ℕ → Type 0
IsLinked m r i = total (λ j. one_at j i) (linked m.rooms r) ≡ 1

-- the key of that entry
abbrev pub linked_key : Memory → ℕ → ℕ → List ℕ
linked_key m r i = key_bytes (m.rooms.key r i) (content m.arena.bytes (m.rooms.key r i))

-- no entry that is linked has the key
abbrev pub LacksKeyAt : Memory → ℕ → List ℕ → Type 0
LacksKeyAt m r key = (i : ℕ) → IsLinked m r i → linked_key m r i ≢ key

-- the entry is linked and has the key, or none that is linked has it
abbrev pub HasKeyAt : Memory → ℕ → List ℕ → Found → Type 0
HasKeyAt m r key (Entry i) = IsLinked m r i.0 × (linked_key m r i.0 ≡ key)
HasKeyAt m r key (Missing behind link) = LacksKeyAt m r key

-- the words stay, and say so
abbrev pub FindsIn : Sizes → ℕ → List ℕ → Found → List ℕ → List ℕ → Type 0
FindsIn z r key found before after = (after ≡ before) × HasKeyAt (memory z before) r key found

-- or that the room lacks the key
abbrev pub LacksIn : Sizes → ℕ → List ℕ → List ℕ → List ℕ → Type 0
LacksIn z r key before after = (after ≡ before) × LacksKeyAt (memory z before) r key

-- the entry is linked and lies that way of the bound, and none that is linked does that is nearer; or none that is linked lies there
abbrev pub HasNearest : Memory → ℕ → Way → Option (List ℕ) → Option EntryNo → Type 0
HasNearest m r way bound (Some i) = IsLinked m r i.0 × IsPast way bound (key_number (linked_key m r i.0)) × ((j : ℕ) → IsLinked m r j → IsPast way bound (key_number (linked_key m r j)) → IsNearer way (key_number (linked_key m r j)) (key_number (linked_key m r i.0)) → ⊥)
HasNearest m r way bound None = (j : ℕ) → IsLinked m r j → IsPast way bound (key_number (linked_key m r j)) → ⊥

abbrev pub NearestIn : Sizes → ℕ → Way → Option (List ℕ) → Option EntryNo → List ℕ → List ℕ → Type 0
NearestIn z r way bound found before after = (after ≡ before) × HasNearest (memory z before) r way bound found

-- an entry's number as what is nearest
abbrev pub as_entry : Option ℕ → Option EntryNo
as_entry None = None
as_entry (Some i) = Some (record { 0 = i })
