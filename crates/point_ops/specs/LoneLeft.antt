-- What the calls that write leave of the words, where they answer a pass that is alone: which words changed, and that no other did.
use Rattle.std.specs.Prelude.{◌≡◌, ℕ, ◌+◌, ◌-◌, ◌*◌, ◌/◌, ◌%◌, ◌^◌, List, true, bit_and}
use Rattle.std.specs.Int.{bit_at}
use Rattle.pin_word.specs.PinWord.{STATE}
use Rattle.oak_model.specs.declared.replies.Wrote.{Wrote}
use Rattle.oak_model.specs.declared.replies.Wrote.TheVariants.{New, Over, Kept, Done, Removed, Absent, Full}
use Rattle.oak_model.specs.Limits.{Sizes}
use Rattle.arena_core.specs.Arena.{at_bits, at_bytes}
use Rattle.arena_core.specs.ArenaStep.{bit_of}
use Rattle.arena_core.specs.Place.{class_in, block_in}
use Rattle.chunk_core.specs.Rooms.{at_value}
use Rattle.header_core.specs.Headers.{at_pin, at_stamp}
use Rattle.header_core.specs.HeaderStep.{renewal}
use Rattle.oak_core.specs.Memory.{Spot, in_arena, in_headers, in_rooms, memory}
use Rattle.chunk_ops.specs.declared.entries.Content.TheVariants.{Value}
use Rattle.chunk_ops.specs.declared.entries.EntryNo.{EntryNo}
use Rattle.chunk_ops.specs.declared.entries.Found.TheVariants.{Entry}
use Rattle.chunk_ops.specs.Contents.{Says}
use Rattle.chunk_ops.specs.FindsAlone.{HasKeyAt}
use Rattle.value_ops.specs.AloneLocks.{pin_in, place_in, stamp_in}
use Rattle.value_ops.specs.Locking.{may_lock}
use Rattle.point_ops.specs.LoneInserts.{KeepsBut}
use Rattle.point_ops.specs.LonePuts.{IsOpenIn}

-- the entry i of the room r is linked and has the key, and its value word names the header at the generation
pub record KeyNames (z : Sizes) (r : ℕ) (i : EntryNo) (h g : ℕ) (key words : List ℕ) : Type 0 where
  pub has : HasKeyAt (memory z words) r key (Entry i)
  pub says : Says (Value h g) ((memory z words).rooms.value r i.0)

-- ---- a value that is computed anew

-- a word of the block that the place word names, or the stamp of the header
abbrev pub IsOfValue : (h place : ℕ) → Spot → Type 0
IsOfValue h place (in_arena (at_bytes c b k)) = (c ≡ class_in place) × (b ≡ block_in place)
IsOfValue h place (in_headers (at_stamp j)) = j ≡ h
IsOfValue _ _ _ = ⊥

-- The stamp of the header is this, and the bytes of its block may have changed. No other word changed, so the header has its block, its length and its pin word.
pub record RewritesIn (z : Sizes) (h at : ℕ) (before after : List ℕ) : Type 0 where
  pub but : KeepsBut z (IsOfValue h (place_in z h before)) before after
  pub stamp : stamp_in z h after ≡ at

-- so the value of the key
pub record RewritesKey (z : Sizes) (r : ℕ) (key : List ℕ) (at : ℕ) (before after : List ℕ) : Type 0 where
  pub i : EntryNo
  pub h : ℕ
  pub g : ℕ
  pub names : KeyNames z r i h g key before
  pub rewrites : RewritesIn z h at before after

-- ---- a value that is removed

-- the value word of the entry, the pin word or the stamp of the header, or the word that has the bit of the block that the place word names
abbrev pub IsRemoved : (r i h place : ℕ) → Spot → Type 0
IsRemoved r i h place (in_rooms (at_value q j)) = (q ≡ r) × (j ≡ i)
IsRemoved r i h place (in_headers (at_pin k)) = k ≡ h
IsRemoved r i h place (in_headers (at_stamp k)) = k ≡ h
IsRemoved r i h place (in_arena (at_bits c j)) = (c ≡ class_in place) × (j ≡ block_in place / 64)
IsRemoved _ _ _ _ _ = ⊥

-- the bit of the block was set and is clear, and the other bits of its word are as before
pub record ClearsBlockIn (z : Sizes) (class block : ℕ) (before after : List ℕ) : Type 0 where
  pub was : bit_at ((memory z before).arena.bits class (block / 64)) (block % 64) ≡ 1
  pub bits : (memory z after).arena.bits class (block / 64) ≡ bit_and ((memory z before).arena.bits class (block / 64)) (2 ^ 64 - 1 - bit_of block)

-- The header was live at the generation, without a pin, and is free at the next one, or retired where that is the last; the entry's value word and the stamp of the header are this; the bit of its block is clear. No other word changed.
pub record RemovesIn (z : Sizes) (r i h g at : ℕ) (before after : List ℕ) : Type 0 where
  pub but : KeepsBut z (IsRemoved r i h (place_in z h before)) before after
  pub floor : (memory z after).rooms.value r i ≡ at
  pub stamp : stamp_in z h after ≡ at
  pub live : may_lock (pin_in z h before) g ≡ true
  pub pin : pin_in z h after ≡ pin_in z h before + 2 * STATE + renewal g
  pub bit : ClearsBlockIn z (class_in (place_in z h before)) (block_in (place_in z h before)) before after

-- so the value of the key, whose entry stays
pub record RemovesKey (z : Sizes) (r : ℕ) (key : List ℕ) (at : ℕ) (before after : List ℕ) : Type 0 where
  pub i : EntryNo
  pub h : ℕ
  pub g : ℕ
  pub names : KeyNames z r i h g key before
  pub removes : RemovesIn z r i.0 h g at before after

-- ---- the calls that need a present key

-- by its answer: to an absent key nothing is done
abbrev pub LeavesUnder : Wrote → Sizes → ℕ → (key before after : List ℕ) → Type 0
LeavesUnder (New at) z r key before after = ⊥
LeavesUnder (Over at) z r key before after = ⊥
LeavesUnder (Kept at) z r key before after = ⊥
LeavesUnder (Done at) z r key before after = RewritesKey z r key at before after
LeavesUnder (Removed at) z r key before after = RemovesKey z r key at before after
LeavesUnder (Absent at) z r key before after = after ≡ before
LeavesUnder (Full lack) z r key before after = ⊥

-- so for an open room
abbrev pub LeavesBy : Wrote → Sizes → (key before after : List ℕ) → Type 0
LeavesBy x z key before after = (r : ℕ) × IsOpenIn z r before × LeavesUnder x z r key before after
