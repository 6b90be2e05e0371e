-- The words of held rooms, which stores to them are plain, and which entries may be dropped.
use Rattle.std.specs.Prelude.{◌≡◌, ℕ, ◌<◌, List, length}
use lib.ListN.{get_elem?}
use mathlib.Core.Option.{some}
use Rattle.oak_model.specs.Counts.{Each, Has}
use Rattle.oak_model.specs.Key.{AreBytes, IsKey}
use Rattle.arena_core.specs.Place.{length_in}
use Rattle.chunk_core.specs.declared.holds.Carried.{Carried}
use Rattle.chunk_core.specs.declared.holds.MovingRange.{MovingRange}
use Rattle.chunk_core.specs.declared.layout.TheConstants.{BOUND_WORDS}
use Rattle.chunk_core.specs.Rooms.{RoomSpot, at_base, at_count, at_first, at_low, at_high, at_key, at_value, at_next}
use Rattle.chunk_core.specs.ValueWord.{names_header}
use Rattle.rebalance.specs.declared.held_rooms.RoomWord.{RoomWord}
use Rattle.rebalance.specs.declared.held_rooms.RoomWord.TheVariants.{Base, Count, First, Low, High, Key, Value, Next}

-- the word of a room
abbrev pub spot : ℕ → RoomWord → RoomSpot
spot r Base = at_base r
spot r Count = at_count r
spot r First = at_first r
spot r (Low j) = at_low r j
spot r (High j) = at_high r j
spot r (Key i) = at_key r i
spot r (Value i) = at_value r i
spot r (Next i) = at_next r i

-- a room of e entries has the word
abbrev pub IsWithin : ℕ → RoomWord → Type 0
IsWithin e Base = Unit {0}
IsWithin e Count = Unit {0}
IsWithin e First = Unit {0}
IsWithin e (Low j) = j < BOUND_WORDS
IsWithin e (High j) = j < BOUND_WORDS
IsWithin e (Key i) = i < e
IsWithin e (Value i) = i < e
IsWithin e (Next i) = i < e

-- a store takes no key word away
abbrev pub IsPlain : RoomWord → ℕ → Type 0
IsPlain (Key i) x = 0 < x
IsPlain _ x = Unit {0}

-- each carried entry has a value
abbrev pub AllValued : MovingRange → Type 0
AllValued g = Each (λ (c : Carried). names_header c.value ≡ 1) g.carried

-- one of the ranges carries the entry
pub record IsCarried (c : Carried) (gs : List MovingRange) : Type 0 where
  pub place : ℕ
  pub range : MovingRange
  pub there : get_elem? gs place ≡ some range
  pub has : Has c range.carried

-- one of them carries an entry without a value that has the key word, which is not 0
pub record IsLoose (word : ℕ) (gs : List MovingRange) : Type 0 where
  pub some_word : 0 < word
  pub entry : Carried
  pub carried : IsCarried entry gs
  pub word_is : entry.word ≡ word
  pub bare : names_header entry.value ≡ 0

-- the key word has the key's length
pub record IsNamed (w : ℕ) (k : List ℕ) : Type 0 where
  pub some_word : 0 < w
  pub long : length_in w ≡ length k
  pub key : IsKey k
  pub bytes : AreBytes k
