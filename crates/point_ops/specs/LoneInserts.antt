-- What insertions do to the words of the table, for a pass that is alone.
use Rattle.std.specs.Prelude.{◌≡◌, ◌≢◌, ℕ, ◌+◌, ◌*◌, ◌/◌, ◌%◌, ◌^◌, ◌<◌, ◌⊎◌, true, false, List, length, Some, Result, Ok, Err, bit_or}
use Rattle.std.specs.Int.{bit_at}
use Rattle.pin_word.specs.PinWord.{STATE, state_of}
use Rattle.oak_model.specs.declared.classes.Class.{Class}
use Rattle.oak_model.specs.Class.{class_number, class_of}
use Rattle.oak_model.specs.Limits.{Sizes}
use Rattle.arena_core.specs.Arena.{at_bits, at_bytes, blocks}
use Rattle.arena_core.specs.ArenaStep.{bit_of}
use Rattle.arena_core.specs.Place.{class_in, block_in}
use Rattle.arena_ops.specs.Looking.{AllSet, IsSetIn}
use Rattle.arena_ops.specs.Taking.{ClearsBit}
use Rattle.chunk_core.specs.Covers.{span_in}
use Rattle.chunk_core.specs.LinkedEntries.{entries_in, linked}
use Rattle.chunk_core.specs.Rooms.{at_count, at_first, at_key, at_next, at_value}
use Rattle.chunk_core.specs.Spans.{Span}
use Rattle.header_core.specs.declared.states.TheConstants.{LIVE}
use Rattle.header_core.specs.HeaderHolds.{place_held}
use Rattle.header_core.specs.Headers.{header_at, at_place, at_stamp}
use Rattle.oak_core.specs.declared.states.PassState.{PassState}
use Rattle.oak_core.specs.Memory.{Spot, at_given, in_arena, in_headers, in_rooms, memory, read, word_count}
use Rattle.oak_core.specs.Usage.{is_free}
use Rattle.chunk_ops.specs.AskedRanges.{CoversKey}
use Rattle.chunk_ops.specs.FindsAlone.{IsLinked, LacksKeyAt, linked_key}
use Rattle.value_ops.specs.Filling.{FreesPin}
use Rattle.point_ops.specs.declared.halts.Halt.{Halt}
use Rattle.point_ops.specs.declared.halts.Halt.TheVariants.{Busy, Moved, Crowded, NoBlock, NoHeader}

-- ---- words that stay

-- the words without P are as before
pub record KeepsBut (z : Sizes) (P : Spot → Type 0) (before after : List ℕ) : Type 0 where
  pub size : length after ≡ length before
  pub same : (p : Spot) → P p ⊎ (read (memory z after) p ≡ read (memory z before) p)

-- the bit of the block is clear in these words
abbrev pub IsClearIn : Sizes → ℕ → ℕ → List ℕ → Type 0
IsClearIn z c b words = bit_at ((memory z words).arena.bits c (b / 64)) (b % 64) ≡ 0

-- the header is free in them
abbrev pub IsFreeIn : Sizes → ℕ → List ℕ → Type 0
IsFreeIn z h words = is_free ((memory z words).headers.pin h) ≡ true

-- a word that nobody has: of a block whose bit is clear, or the place or the stamp of a header that is free
abbrev pub IsSpare : Sizes → List ℕ → Spot → Type 0
IsSpare z words (in_arena (at_bytes c b k)) = IsClearIn z c b words
IsSpare z words (in_headers (at_place h)) = IsFreeIn z h words
IsSpare z words (in_headers (at_stamp h)) = IsFreeIn z h words
IsSpare _ _ _ = ⊥

-- only words changed that nobody has, before or after
abbrev pub SpareOnly : Sizes → List ℕ → List ℕ → Type 0
SpareOnly z before after = KeepsBut z (IsSpare z before) before after

-- the keys of the room's linked entries are as before, and so are which these are, and how many entries are in use
pub record KeysStay (z : Sizes) (r : ℕ) (before after : List ℕ) : Type 0 where
  pub count : entries_in ((memory z after).rooms.count r) ≡ entries_in ((memory z before).rooms.count r)
  pub links : linked (memory z after).rooms r ≡ linked (memory z before).rooms r
  pub keys : (i : ℕ) → IsLinked (memory z before) r i → linked_key (memory z after) r i ≡ linked_key (memory z before) r i

-- ---- what is made

-- a word of the block, or that has its bit
abbrev pub IsOfBlock : Class → ℕ → Spot → Type 0
IsOfBlock c b (in_arena (at_bits d j)) = (d ≡ class_number c) × (j ≡ b / 64)
IsOfBlock c b (in_arena (at_bytes d e k)) = (d ≡ class_number c) × (e ≡ b)
IsOfBlock _ _ _ = ⊥

-- a word of the header
abbrev pub IsOfHeader : ℕ → Spot → Type 0
IsOfHeader h (in_headers p) = header_at p ≡ h
IsOfHeader _ _ = ⊥

-- The bit of the block was clear, and is set, and its bytes may have changed. No other word changed, nor any key of the room r.
pub record MakesBlockIn (z : Sizes) (r : ℕ) (c : Class) (b : ℕ) (before after : List ℕ) : Type 0 where
  pub inside : b < blocks z (class_number c)
  pub wide : length before ≡ word_count z
  pub small : (memory z before).arena.bits (class_number c) (b / 64) < 2 ^ 64
  pub clear : IsClearIn z (class_number c) b before
  pub but : KeepsBut z (IsOfBlock c b) before after
  pub bit : (memory z after).arena.bits (class_number c) (b / 64) ≡ bit_or ((memory z before).arena.bits (class_number c) (b / 64)) (bit_of b)
  pub keys : KeysStay z r before after

-- The header was free, and is live; its place and its stamp may have changed. No other word changed.
pub record MakesHeaderIn (z : Sizes) (h : ℕ) (before after : List ℕ) : Type 0 where
  pub inside : h < z.headers
  pub free : IsFreeIn z h before
  pub but : KeepsBut z (IsOfHeader h) before after
  pub pin : (memory z after).headers.pin h ≡ (memory z before).headers.pin h + 2 * STATE

-- a block was made, and then a header that is to name it
abbrev pub MakesFreshIn : Sizes → ℕ → ℕ → Class → ℕ → List ℕ → List ℕ → Type 0
MakesFreshIn z r h c b before after = (middle : List ℕ) × MakesBlockIn z r c b before middle × MakesHeaderIn z h middle after

-- the header that the pass holds names the block
abbrev pub NamesBlock : ℕ → Class → ℕ → PassState → Type 0
NamesBlock h c b v = (class_in (place_held h v.headers.held) ≡ class_number c) × (block_in (place_held h v.headers.held) ≡ b)

-- what was made is given back: the header, which was live, is free, and the bit of the block, which was set, is clear
abbrev pub GivesBackIn : Sizes → ℕ → Class → ℕ → List ℕ → List ℕ → Type 0
GivesBackIn z h c b before after = (middle : List ℕ) × FreesPin z h LIVE before middle × ClearsBit z c b middle after

-- ---- why nothing is made

-- some block of the class is clear
abbrev pub HasClear : Sizes → Class → List ℕ → Type 0
HasClear z c words = (b : ℕ) × (b < blocks z (class_number c)) × IsClearIn z (class_number c) b words

-- no header is free
abbrev pub NoFree : Sizes → List ℕ → Type 0
NoFree z words = (h : ℕ) → h < z.headers → is_free ((memory z words).headers.pin h) ≡ false

-- why a value of the class was not made: each block of it was taken, or no header was free, and a block was
abbrev pub MakingHaltsIn : Halt → Sizes → Class → List ℕ → List ℕ → Type 0
MakingHaltsIn Busy z c before after = ⊥
MakingHaltsIn Moved z c before after = ⊥
MakingHaltsIn Crowded z c before after = ⊥
MakingHaltsIn (NoBlock d) z c before after = (d ≡ c) × AllSet z c (λ _. Unit {0}) before after
MakingHaltsIn NoHeader z c before after = SpareOnly z before after × NoFree z before × HasClear z c before

-- ---- an entry

-- a block was made so, where the room has this range and base
abbrev pub MakesBlockUnder : Sizes → ℕ → Span → Class → ℕ → List ℕ → List ℕ → Type 0
MakesBlockUnder z r span c b before after = MakesBlockIn z r c b before after × (span_in (memory z before).rooms r ≡ span)

-- and a value
abbrev pub MakesFreshUnder : Sizes → ℕ → Span → ℕ → Class → ℕ → List ℕ → List ℕ → Type 0
MakesFreshUnder z r span h c b before after = MakesFreshIn z r h c b before after × (span_in (memory z before).rooms r ≡ span)

-- a word that may change where the room r gets an entry: of bits, of blocks whose bit is clear, the room's count, its first link, and the words of its entries
abbrev pub IsEntered : Sizes → ℕ → List ℕ → Spot → Type 0
IsEntered z r words (in_arena (at_bits c j)) = Unit {0}
IsEntered z r words (in_arena (at_bytes c b k)) = IsClearIn z c b words
IsEntered z r words (in_rooms (at_count j)) = j ≡ r
IsEntered z r words (in_rooms (at_key j i)) = j ≡ r
IsEntered z r words (in_rooms (at_value j i)) = j ≡ r
IsEntered z r words (in_rooms (at_first j)) = j ≡ r
IsEntered z r words (in_rooms (at_next j i)) = j ≡ r
IsEntered _ _ _ _ = ⊥

-- no other word changed, and the value word of the entry i is the floor
pub record GetsEntryIn (z : Sizes) (r i floor : ℕ) (before after : List ℕ) : Type 0 where
  pub but : KeepsBut z (IsEntered z r before) before after
  pub value : (memory z after).rooms.value r i ≡ floor

-- the room has as many entries as it may
abbrev pub IsFull : Sizes → ℕ → List ℕ → Type 0
IsFull z r words = entries_in ((memory z words).rooms.count r) ≡ z.entries

-- some block of the class that so many bytes have is clear
abbrev pub HasClearFor : Sizes → ℕ → List ℕ → Type 0
HasClearFor z len words = (c : Class) × (class_of len ≡ Some c) × HasClear z c words

-- why the key was given no entry: each block of its class was taken; or one was not, and the room is full
abbrev pub AddingHaltsIn : Halt → Sizes → ℕ → List ℕ → List ℕ → List ℕ → Type 0
AddingHaltsIn Busy z r key before after = ⊥
AddingHaltsIn Moved z r key before after = ⊥
AddingHaltsIn Crowded z r key before after = SpareOnly z before after × IsFull z r before × HasClearFor z (length key) before
AddingHaltsIn (NoBlock c) z r key before after = (class_of (length key) ≡ Some c) × AllSet z c (λ _. Unit {0}) before after
AddingHaltsIn NoHeader z r key before after = ⊥

-- the value word of the entry was another number
abbrev pub FindsOther : Sizes → (r i floor : ℕ) → List ℕ → List ℕ → Type 0
FindsOther z r i floor before after = (memory z before).rooms.value r i ≢ floor

-- ---- an insertion

-- a word that an insertion may change: what an entry may, and the words of headers that are free
abbrev pub IsInserted : Sizes → ℕ → List ℕ → Spot → Type 0
IsInserted z r words (in_arena p) = IsEntered z r words (in_arena p)
IsInserted z r words (in_rooms p) = IsEntered z r words (in_rooms p)
IsInserted z r words (in_headers p) = IsFreeIn z (header_at p) words
IsInserted _ _ _ at_given = ⊥

-- No pin word of a room changed, nor a bound or a base. Each header's pin word is as before, but for one that was free and is live.
pub record InsertedIn (z : Sizes) (r : ℕ) (before after : List ℕ) : Type 0 where
  pub but : KeepsBut z (IsInserted z r before) before after
  pub pins : (h : ℕ) → ((memory z after).headers.pin h ≡ (memory z before).headers.pin h) ⊎ (IsFreeIn z h before × (state_of ((memory z after).headers.pin h) ≡ LIVE))

-- a value of so many bytes can be made: a header is free, and a block of its class is clear
pub record FitsValue (z : Sizes) (len : ℕ) (words : List ℕ) : Type 0 where
  pub header : ℕ
  pub there : header < z.headers
  pub free : IsFreeIn z header words
  pub class : Class
  pub class_is : class_of len ≡ Some class
  pub block : ℕ
  pub inside : block < blocks z (class_number class)
  pub clear : IsClearIn z (class_number class) block words

-- the key is of the room's range and has no entry, its class is c, and a value fits; but of c no block is clear, or that of the value alone
pub record LacksKeyBlock (z : Sizes) (r : ℕ) (key value : List ℕ) (c : Class) (words : List ℕ) : Type 0 where
  pub class_is : class_of (length key) ≡ Some c
  pub covers : CoversKey key (span_in (memory z words).rooms r)
  pub missing : LacksKeyAt (memory z words) r key
  pub fits : FitsValue z (length value) words
  pub others : (b : ℕ) → b < blocks z (class_number c) → ((fits.class ≡ c) × (fits.block ≡ b) → ⊥) → IsSetIn z c b words

-- the room is full, and the key, which is of its range, has no entry; a value fits, and a block beside that one for the key
pub record LacksRoom (z : Sizes) (r : ℕ) (key value words : List ℕ) : Type 0 where
  pub full : IsFull z r words
  pub covers : CoversKey key (span_in (memory z words).rooms r)
  pub missing : LacksKeyAt (memory z words) r key
  pub fits : FitsValue z (length value) words
  pub class : Class
  pub class_is : class_of (length key) ≡ Some class
  pub block : ℕ
  pub inside : block < blocks z (class_number class)
  pub clear : IsClearIn z (class_number class) block words
  pub apart : (fits.class ≡ class) × (fits.block ≡ block) → ⊥

-- each block of the class is taken
abbrev pub NoneClearIn : Sizes → Class → List ℕ → Type 0
NoneClearIn z c words = (b : ℕ) → b < blocks z (class_number c) → IsSetIn z c b words

-- why a pass that is alone does not insert a key, in words that stay but for those that nobody has
abbrev pub InsertHaltsIn : Halt → Sizes → ℕ → (key value before after : List ℕ) → Type 0
InsertHaltsIn Busy z r key value before after = ⊥
InsertHaltsIn Moved z r key value before after = ⊥
InsertHaltsIn Crowded z r key value before after = SpareOnly z before after × LacksRoom z r key value before
InsertHaltsIn (NoBlock c) z r key value before after = SpareOnly z before after × (((class_of (length value) ≡ Some c) × NoneClearIn z c before) ⊎ LacksKeyBlock z r key value c before)
InsertHaltsIn NoHeader z r key value before after = SpareOnly z before after × NoFree z before × HasClearFor z (length value) before

abbrev pub InsertsIn : Result ℕ Halt → Sizes → ℕ → (key value before after : List ℕ) → Type 0
InsertsIn (Ok at) z r key value before after = InsertedIn z r before after
InsertsIn (Err why) z r key value before after = InsertHaltsIn why z r key value before after
