-- A held room that has the entries of a moving range, so that it may be opened over it.
use Rattle.std.specs.Prelude.{◌≡◌, ℕ, ◌<◌, ◌≤◌, List, [], map, slice_index, Option, Some, None}
use Rattle.oak_model.specs.Counts.{one_at, total, Each, Has}
use Rattle.oak_model.specs.Limits.{Sizes}
use Rattle.chunk_core.specs.declared.holds.Carried.{Carried}
use Rattle.chunk_core.specs.declared.holds.EntryWords.{EntryWords}
use Rattle.chunk_core.specs.declared.holds.HeldRoom.{HeldRoom}
use Rattle.chunk_core.specs.declared.holds.MovingRange.{MovingRange}
use Rattle.chunk_core.specs.declared.holds.RoomCopy.{RoomCopy}
use Rattle.chunk_core.specs.KeyWords.{key_in, low_number, high_number}
use Rattle.chunk_core.specs.LinkedEntries.{entries_in, prefix_in, Rises}
use Rattle.chunk_core.specs.RoomCopies.{copy_of, word_held}
use Rattle.chunk_core.specs.RoomRule.{AreBounds}
use Rattle.chunk_core.specs.Rooms.{RoomMemory}
use Rattle.chunk_core.specs.Spans.{Span, within}
use Rattle.chunk_core.specs.ValueWord.{names_header}
use Rattle.oak_core.specs.EntryOwners.{is_key_word}
use Rattle.rebalance.specs.Copies.{linked_held, reached_in}

-- the copy, or words that say nothing where there is none
abbrev pub copy_or : Option RoomCopy → RoomCopy
copy_or None = record { base = 0; count = 0; latch = 0; first = 0; low = []; high = []; entries = [] }
copy_or (Some w) = w

-- the words of an entry of a copy
abbrev pub entry_words : RoomCopy → ℕ → (EntryWords → ℕ) → ℕ
entry_words w i f = slice_index (map f w.entries) i

-- the words of the rooms that a pass holds, as functions
abbrev pub held_memory : List HeldRoom → RoomMemory
held_memory hs = record {
  pin = λ r. 0;
  base = λ r. (copy_or (copy_of r hs)).base;
  count = λ r. (copy_or (copy_of r hs)).count;
  latch = λ r. (copy_or (copy_of r hs)).latch;
  first = λ r. (copy_or (copy_of r hs)).first;
  low = λ r j. slice_index (copy_or (copy_of r hs)).low j;
  high = λ r j. slice_index (copy_or (copy_of r hs)).high j;
  key = λ r i. entry_words (copy_or (copy_of r hs)) i (λ e. e.word);
  value = λ r i. entry_words (copy_or (copy_of r hs)) i (λ e. e.value);
  next = λ r i. entry_words (copy_or (copy_of r hs)) i (λ e. e.next);
}

-- the range of keys of a moving range
abbrev pub range_span : MovingRange → Span
range_span g = record { low = low_number g.low; high = high_number g.high; base = g.base }

-- the number of the key of a carried entry
abbrev pub carried_key : Carried → ℕ
carried_key c = key_in c.word c.words

-- what the rule says of a range that moves with a pass
pub record RangeStands (g : MovingRange) : Type 0 where
  pub inside : Each (λ (c : Carried). within (range_span g) (carried_key c) ≡ 1) g.carried
  pub begun : within (range_span g) (low_number g.low) ≡ 1
  pub once : (k : ℕ) → total (λ (c : Carried). one_at (carried_key c) k) g.carried ≤ 1
  pub placed : Each (λ (c : Carried). is_key_word c.word ≡ 1) g.carried
  pub floor : names_header g.base ≡ 0

-- The words of the room are those of the range: the room has its bounds and its base, and its linked entries are the ones carried there, whose keys rise along the links.
pub record Mirrors (z : Sizes) (w : RoomCopy) (g : MovingRange) : Type 0 where
  pub base : w.base ≡ g.base
  pub low : w.low ≡ g.low
  pub high : w.high ≡ g.high
  pub latch : w.latch ≡ 0
  pub few : entries_in w.count ≤ z.entries
  pub prefix : prefix_in w.count ≤ entries_in w.count
  pub entries : (f : ℕ → ℕ → ℕ) → total (λ (e : EntryWords). f e.word e.value) (linked_held w) ≡ total (λ (c : Carried). f c.word c.value) g.carried
  pub bounds : AreBounds (slice_index w.low 0) (slice_index w.high 0)
  pub sorted : (i j : ℕ) (c d : Carried) → i < j → j < prefix_in w.count → Has c g.carried → Has d g.carried → c.word ≡ word_held w i → d.word ≡ word_held w j → carried_key c < carried_key d
  pub used : Each (λ i. i < entries_in w.count) (reached_in w)
  pub along : (f : ℕ → ℕ) → ((c : Carried) → Has c g.carried → f c.word ≡ carried_key c) → Rises (λ i. f (word_held w i)) (reached_in w)
