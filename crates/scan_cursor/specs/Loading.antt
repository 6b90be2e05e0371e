-- What a scan loads from an entry of a pinned room.
use Rattle.std.specs.Prelude.{◌≡◌, ℕ, ◌<◌, Bool, true, List, Option, Some, None, slice_set}
use Rattle.oak_model.specs.Key.{IsKey}
use Rattle.oak_model.specs.KeyNumber.{key_number}
use Rattle.chunk_core.specs.ValueWord.{header_in, generation_in}
use Rattle.chunk_ops.specs.declared.stored.StoredKey.{StoredKey}
use Rattle.chunk_ops.specs.Stored.{IsStored}
use Rattle.oak_core.specs.declared.sorting.SortSlot.{SortSlot}
use Rattle.scan_cursor.specs.declared.gathering.Aim.{Aim}
use Rattle.scan_cursor.specs.declared.gathering.Outcome.{Outcome}
use Rattle.scan_cursor.specs.declared.gathering.Outcome.TheVariants.{Ends, Passed, Kept}
use Rattle.scan_cursor.specs.declared.ways.Way.{Way}
use Rattle.scan_cursor.specs.declared.ways.Way.TheVariants.{Up, Down}
use Rattle.scan_cursor.specs.Views.{KnowsLast, ReadsKey, View}

-- q lies behind k in the direction of the scan
abbrev pub IsBehind : Way → List ℕ → List ℕ → Type 0
IsBehind Up k q = key_number k < key_number q
IsBehind Down k q = key_number q < key_number k

-- A batch ends before an entry of the key q: up it has as many pairs as it wants and q is ahead of k, and down q is not.
abbrev pub IsEnd : Way → Bool → List ℕ → List ℕ → Type 0
IsEnd Up full k q = (full ≡ true) × IsBehind Up k q
IsEnd Down full k q = IsBehind Down k q → ⊥

-- the key of a slot
abbrev pub stored_in : SortSlot → StoredKey
stored_in s = record { words = s.words; length = s.length }

-- the slot has the key, and the life that its entry named
pub record IsSlotOf (q : List ℕ) (w : View) (s : SortSlot) : Type 0 where
  pub stored : IsStored (stored_in s) q
  pub key : IsKey q
  pub knows : KnowsLast q (header_in s.value) (generation_in s.value) w

-- the value word of the entry of the key q was loaded: either there is a slot of it, or it was read absent
abbrev pub ReadsSlot : Option SortSlot → List ℕ → View → View → Type 0
ReadsSlot None q v w = (at : ℕ) × ReadsKey v w q at None
ReadsSlot (Some s) q v w = IsSlotOf q w s

-- The entry of the key q was loaded: if it is behind k, then either there is a slot of it, or it was read absent.
abbrev pub LoadsSlot : Option SortSlot → Way → List ℕ → List ℕ → View → View → Type 0
LoadsSlot None way k q v w = IsBehind way k q → (at : ℕ) × ReadsKey v w q at None
LoadsSlot (Some s) way k q v w = IsBehind way k q × IsSlotOf q w s

-- the batch ends before the entry of the key q, or it was loaded, and its slot is set where it has one; no other slot changes
abbrev pub LoadsEntry : Outcome → Aim → List ℕ → List ℕ → List SortSlot → List SortSlot → View → View → Type 0
LoadsEntry Ends aim k q xs ys v w = (ys ≡ xs) × IsEnd aim.way aim.full k q
LoadsEntry Passed aim k q xs ys v w = (ys ≡ xs) × LoadsSlot None aim.way k q v w
LoadsEntry Kept aim k q xs ys v w = (s : SortSlot) × (ys ≡ slice_set xs aim.slot s) × LoadsSlot (Some s) aim.way k q v w
