-- What the puts leave of the words, where they answer a pass that is alone: which words changed, and that no other did.
use Rattle.std.specs.Prelude.{◌≡◌, ◌≢◌, ℕ, ◌+◌, ◌*◌, ◌<◌, ◌/◌, ◌==◌, ◌&&◌, ◌⊎◌, cond, List, length, Option, Some, None, bit_or}
use Rattle.pin_word.specs.PinWord.{STATE}
use Rattle.oak_model.specs.declared.classes.Class.{Class}
use Rattle.oak_model.specs.declared.replies.Wrote.{Wrote}
use Rattle.oak_model.specs.declared.replies.Wrote.TheVariants.{New, Over, Kept, Done, Removed, Absent, Full}
use Rattle.oak_model.specs.Class.{class_number, class_of}
use Rattle.oak_model.specs.Limits.{Sizes}
use Rattle.arena_core.specs.Arena.{at_bits, at_bytes}
use Rattle.arena_core.specs.ArenaStep.{bit_of}
use Rattle.arena_core.specs.Place.{block_in, class_in, place_word}
use Rattle.chunk_core.specs.Covers.{span_in}
use Rattle.chunk_core.specs.LinkedEntries.{entries_in}
use Rattle.chunk_core.specs.Rooms.{at_count, at_first, at_key, at_next, at_value}
use Rattle.chunk_core.specs.ValueWord.{names_header}
use Rattle.header_core.specs.Headers.{at_place, at_stamp}
use Rattle.oak_core.specs.KeyReads.{home_of}
use Rattle.oak_core.specs.Memory.{Spot, in_arena, in_headers, in_rooms, memory}
use Rattle.chunk_ops.specs.declared.entries.EntryNo.{EntryNo}
use Rattle.chunk_ops.specs.declared.entries.Found.TheVariants.{Entry}
use Rattle.chunk_ops.specs.AskedRanges.{CoversKey}
use Rattle.chunk_ops.specs.FindsAlone.{HasKeyAt, LacksKeyAt}
use Rattle.value_ops.specs.AloneLocks.{pin_in, place_in, stamp_in}
use Rattle.point_ops.specs.LoneInserts.{IsClearIn, IsFreeIn, IsOfBlock, IsOfHeader, KeepsBut}
use Rattle.point_ops.specs.LoneLeft.{ClearsBlockIn, KeyNames, RewritesKey}
use Rattle.point_ops.specs.LoneLives.{AwayIn}
use Rattle.point_ops.specs.LonePuts.{IsOpenIn}

-- ---- a value in place of another

-- a word of the block that the place word names, or the place or the stamp of the header
abbrev pub IsRefilled : (h place : ℕ) → Spot → Type 0
IsRefilled h place (in_arena (at_bytes c b k)) = (c ≡ class_in place) × (b ≡ block_in place)
IsRefilled h place (in_headers (at_place j)) = j ≡ h
IsRefilled h place (in_headers (at_stamp j)) = j ≡ h
IsRefilled _ _ _ = ⊥

-- The value has the class of the header's block, which stays: its place word names the block with the value's length, its stamp is this, and the bytes of the block may have changed. No other word changed, and no bit.
pub record RefillsIn (z : Sizes) (h at : ℕ) (value before after : List ℕ) : Type 0 where
  pub class : Class
  pub fits : class_of (length value) ≡ Some class
  pub same : class_number class ≡ class_in (place_in z h before)
  pub but : KeepsBut z (IsRefilled h (place_in z h before)) before after
  pub place : place_in z h after ≡ place_word (class_in (place_in z h before)) (block_in (place_in z h before)) (length value)
  pub stamp : stamp_in z h after ≡ at

-- the word that has the bit of the block that the place word names, or the place or the stamp of the header
abbrev pub IsSwapped : (h place : ℕ) → Spot → Type 0
IsSwapped h place (in_arena (at_bits c j)) = (c ≡ class_in place) × (j ≡ block_in place / 64)
IsSwapped h place (in_headers (at_place j)) = j ≡ h
IsSwapped h place (in_headers (at_stamp j)) = j ≡ h
IsSwapped _ _ _ = ⊥

-- The place word of the header names the block with this length, its stamp is this, and the bit of the block that it named is clear. No other word changed.
pub record SwapsIn (z : Sizes) (h : ℕ) (class : Class) (block len at : ℕ) (before after : List ℕ) : Type 0 where
  pub but : KeepsBut z (IsSwapped h (place_in z h before)) before after
  pub place : place_in z h after ≡ place_word (class_number class) block len
  pub stamp : stamp_in z h after ≡ at
  pub given : ClearsBlockIn z (class_in (place_in z h before)) (block_in (place_in z h before)) before after

-- The value has another class than the header's block. A block of it, whose bit was clear, is named by the place word with the value's length, its bit is set, and that of the old block is clear. Beside these, only the new block's bytes and the stamp of the header changed.
pub record ExchangesIn (z : Sizes) (h at : ℕ) (value before after : List ℕ) : Type 0 where
  pub class : Class
  pub fits : class_of (length value) ≡ Some class
  pub other : class_number class ≢ class_in (place_in z h before)
  pub block : ℕ
  pub clear : IsClearIn z (class_number class) block before
  pub but : KeepsBut z (λ p. IsOfBlock class block p ⊎ IsSwapped h (place_in z h before) p) before after
  pub place : place_in z h after ≡ place_word (class_number class) block (length value)
  pub stamp : stamp_in z h after ≡ at
  pub taken : (memory z after).arena.bits (class_number class) (block / 64) ≡ bit_or ((memory z before).arena.bits (class_number class) (block / 64)) (bit_of block)
  pub given : ClearsBlockIn z (class_in (place_in z h before)) (block_in (place_in z h before)) before after

-- the one where the class stays, or the other where it does not
abbrev pub OverIn : Sizes → (h at : ℕ) → (value before after : List ℕ) → Type 0
OverIn z h at value before after = RefillsIn z h at value before after ⊎ ExchangesIn z h at value before after

-- so the value of the key
pub record OverKey (z : Sizes) (r : ℕ) (key value : List ℕ) (at : ℕ) (before after : List ℕ) : Type 0 where
  pub i : EntryNo
  pub h : ℕ
  pub g : ℕ
  pub names : KeyNames z r i h g key before
  pub over : OverIn z h at value before after

-- ---- a value of a key that was absent

-- the words that have the bits of blocks, of which that of this block is set, and the others are as in the words before
abbrev pub with_bit : (class : Class) → (block d j n : ℕ) → ℕ
with_bit class block d j n = cond ((d == class_number class) && (j == block / 64)) (bit_or n (bit_of block)) n

-- a word of the header, or of its block, or the one that has the block's bit, or the entry's value word
abbrev pub IsNewValue : (r i h : ℕ) → Class → ℕ → Spot → Type 0
IsNewValue r i h c b (in_arena p) = IsOfBlock c b (in_arena p)
IsNewValue r i h c b (in_headers p) = IsOfHeader h (in_headers p)
IsNewValue r i h c b (in_rooms (at_value q j)) = (q ≡ r) × (j ≡ i)
IsNewValue _ _ _ _ _ _ = ⊥

-- a word of the key's block, or the one that has its bit, or one of the three words of the entry, or the count of the room, or the link that comes to name the entry
abbrev pub IsNewEntry : (r i : ℕ) → Option ℕ → Class → ℕ → Spot → Type 0
IsNewEntry r i from c b (in_arena p) = IsOfBlock c b (in_arena p)
IsNewEntry r i from c b (in_rooms (at_count q)) = q ≡ r
IsNewEntry r i from c b (in_rooms (at_key q j)) = (q ≡ r) × (j ≡ i)
IsNewEntry r i from c b (in_rooms (at_value q j)) = (q ≡ r) × (j ≡ i)
IsNewEntry r i from c b (in_rooms (at_first q)) = (q ≡ r) × (from ≡ None)
IsNewEntry r i from c b (in_rooms (at_next q j)) = (q ≡ r) × ((j ≡ i) ⊎ (from ≡ Some j))
IsNewEntry _ _ _ _ _ _ = ⊥

-- The room had no entry of the key and not as many as it may, and has one more, which is of the key, names its block, whose bit was clear and is set, and is named by one link. No other word changed.
pub record AddsKeyIn (z : Sizes) (r : ℕ) (i : EntryNo) (key before after : List ℕ) : Type 0 where
  pub class : Class
  pub fits : class_of (length key) ≡ Some class
  pub block : ℕ
  pub clear : IsClearIn z (class_number class) block before
  pub from : Option ℕ
  pub but : KeepsBut z (IsNewEntry r i.0 from class block) before after
  pub bits : (d j : ℕ) → (memory z after).arena.bits d j ≡ with_bit class block d j ((memory z before).arena.bits d j)
  pub next : i.0 ≡ entries_in ((memory z before).rooms.count r)
  pub room : i.0 < z.entries
  pub missing : LacksKeyAt (memory z before) r key
  pub count : (memory z after).rooms.count r ≡ (memory z before).rooms.count r + 1
  pub has : HasKeyAt (memory z after) r key (Entry i)

-- the key's entry is the one that it had, and the words stay; or it had none, and gets one
abbrev pub EntryFor : Option EntryNo → Sizes → ℕ → EntryNo → (key before after : List ℕ) → Type 0
EntryFor (Some j) z r i key before after = (i ≡ j) × (after ≡ before)
EntryFor None z r i key before after = AddsKeyIn z r i key before after

-- where the key was away
abbrev pub GetsFor : Option EntryNo → ℕ → Sizes → ℕ → EntryNo → (key before after : List ℕ) → Type 0
GetsFor entry floor z r i key before after = AwayIn entry floor z r key before before → EntryFor entry z r i key before after

-- the key had the entry, with a floor; no words changed but those of the value, and of bits only that of its block
pub record HadEntryIn (z : Sizes) (r : ℕ) (i : EntryNo) (h : ℕ) (class : Class) (block : ℕ) (key before after : List ℕ) : Type 0 where
  pub had : HasKeyAt (memory z before) r key (Entry i)
  pub floor : names_header ((memory z before).rooms.value r i.0) ≡ 0
  pub but : KeepsBut z (IsNewValue r i.0 h class block) before after
  pub bits : (d j : ℕ) → (memory z after).arena.bits d j ≡ with_bit class block d j ((memory z before).arena.bits d j)

-- The key had no entry. The room, which had not as many as it may, has one more, with a block whose bit was clear. No words changed but those of the value and of the entry, and of bits only those of their blocks.
pub record GotEntryIn (z : Sizes) (r : ℕ) (i : EntryNo) (h : ℕ) (c : Class) (b : ℕ) (key before after : List ℕ) : Type 0 where
  pub class : Class
  pub fits : class_of (length key) ≡ Some class
  pub block : ℕ
  pub clear : IsClearIn z (class_number class) block before
  pub missing : LacksKeyAt (memory z before) r key
  pub next : i.0 ≡ entries_in ((memory z before).rooms.count r)
  pub room : i.0 < z.entries
  pub count : (memory z after).rooms.count r ≡ (memory z before).rooms.count r + 1
  pub from : Option ℕ
  pub but : KeepsBut z (λ p. IsNewValue r i.0 h c b p ⊎ IsNewEntry r i.0 from class block p) before after
  pub bits : (d j : ℕ) → (memory z after).arena.bits d j ≡ with_bit class block d j (with_bit c b d j ((memory z before).arena.bits d j))

-- The room covers the key, whose entry names a header that was free and is live. The bit of the value's block was clear. The entry is the one that the key had, or it is new; nothing else changed.
pub record InsertsKey (z : Sizes) (r : ℕ) (key value before after : List ℕ) : Type 0 where
  pub i : EntryNo
  pub h : ℕ
  pub g : ℕ
  pub class : Class
  pub block : ℕ
  pub fits : class_of (length value) ≡ Some class
  pub clear : IsClearIn z (class_number class) block before
  pub free : IsFreeIn z h before
  pub pin : pin_in z h after ≡ pin_in z h before + 2 * STATE
  pub covers : CoversKey key (span_in (memory z before).rooms r)
  pub names : (memory z after).rooms.value r i.0 ≡ home_of h g
  pub has : HasKeyAt (memory z after) r key (Entry i)
  pub entry : HadEntryIn z r i h class block key before after ⊎ GotEntryIn z r i h class block key before after

-- where the key was away
abbrev pub InsertsKeyFor : Sizes → ℕ → Option EntryNo → ℕ → (key value before after : List ℕ) → Type 0
InsertsKeyFor z r entry floor key value before after = AwayIn entry floor z r key before before → InsertsKey z r key value before after

-- ---- the calls that put

-- by their answers: where a value is kept, nothing is done
abbrev pub PutLeavesUnder : Wrote → Sizes → ℕ → (key value before after : List ℕ) → Type 0
PutLeavesUnder (New at) z r key value before after = InsertsKey z r key value before after
PutLeavesUnder (Over at) z r key value before after = OverKey z r key value at before after
PutLeavesUnder (Kept at) z r key value before after = after ≡ before
PutLeavesUnder (Done at) z r key value before after = RewritesKey z r key at before after
PutLeavesUnder (Removed at) z r key value before after = ⊥
PutLeavesUnder (Absent at) z r key value before after = ⊥
PutLeavesUnder (Full lack) z r key value before after = ⊥

-- so for an open room
abbrev pub PutLeavesBy : Wrote → Sizes → (key value before after : List ℕ) → Type 0
PutLeavesBy x z key value before after = (r : ℕ) × IsOpenIn z r before × PutLeavesUnder x z r key value before after
