-- The kinds of atomic step of one pass. A step names its word, what becomes of that word, what the step asks of the pass, and the pass's state after it, which may be read off the whole state of the table.
use Rattle.std.specs.Prelude.{◌≡◌, ℕ, ◌^◌, ◌<◌, ◌⊎◌, ◌==◌, ◌&&◌, cond, Bool, true, false, nat_lt, [], ◌∷◌, map, ◌++◌, length, slice_index, slice_set, Option, Some, None, bit_or}
use Rattle.std.specs.Int.{bit_at}
use mathlib.Core.Option.{some}
use lib.ListN.{get_elem?}
use Rattle.pin_word.specs.PinWord.{generation_of}
use Rattle.oak_model.specs.declared.classes.Class.{Class}
use Rattle.oak_model.specs.declared.replies.Lack.{Lack}
use Rattle.oak_model.specs.declared.writes.Kind.{Kind}
use Rattle.oak_model.specs.Class.{class_number}
use Rattle.oak_model.specs.Limits.{Sizes}
use Rattle.oak_core.specs.declared.states.Numbers.{Numbers}
use Rattle.oak_core.specs.declared.states.PassState.{PassState}
use Rattle.arena_core.specs.Arena.{at_bytes, block_words}
use Rattle.arena_core.specs.ArenaStep.{ArenaStep, arena_spot, arena_effect, MayArena, blocks_after}
use Rattle.arena_core.specs.declared.blocks.HeldBlocks.{HeldBlocks}
use Rattle.arena_core.specs.Blocks.{HoldsBlock, block_from, without}
use Rattle.arena_core.specs.Place.{IsPlace, class_in, block_in, class_from, content}
use Rattle.header_core.specs.declared.holds.HeldAs.{HeldAs}
use Rattle.header_core.specs.declared.holds.HeldAs.TheVariants.{Owned, Fresh, Locked, Buried}
use Rattle.header_core.specs.Headers.{IsInHeaders}
use Rattle.header_core.specs.declared.states.TheConstants.{LOCKED}
use Rattle.header_core.specs.declared.holds.HeaderHolds.{HeaderHolds}
use Rattle.header_core.specs.HeaderHolds.{in_state, place_held}
use Rattle.header_core.specs.HeaderStep.{HeaderStep, change_place, open_header, pin_header, release_header, lock_header, take_back, header_spot, header_effect, header_found, MayHeader, headers_after, reworded}
use Rattle.chunk_core.specs.MayOnRooms.{MayRoom, MayLink}
use Rattle.chunk_core.specs.declared.holds.RoomHolds.{RoomHolds}
use Rattle.chunk_core.specs.MovingRanges.{drops, word_dropped}
use Rattle.chunk_core.specs.RoomStep.{RoomStep, EntryField, of_key, of_value, of_next, entry_spot, own_entry, link_entry, set_value, unlink_entry, store_room, room_spot, room_effect, room_found}
use Rattle.chunk_core.specs.LinkWords.{link_spot}
use Rattle.chunk_core.specs.Rooms.{IsInRooms, at_value}
use Rattle.chunk_core.specs.RoomsAfter.{rooms_after}
use Rattle.oak_core.specs.Memory.{Memory, Spot, at_given, in_arena, in_headers, in_rooms, index, IsInside, memory}
use Rattle.oak_core.specs.Finding.{arena_finding, finding, leaving, noted, Shows}
use Rattle.oak_core.specs.Known.{knows_life, KnowsHeader}
use Rattle.oak_core.specs.Lack.{Lacks, full_state}
use Rattle.oak_core.specs.TableState.{TableState}
use Rattle.oak_core.specs.Rule.{Rule}
use Rattle.oak_core.specs.EntryOwners.{is_key_word}
use Rattle.oak_core.specs.HeaderTeaching.{knows_by_header, sights_by_header, gones_by_header}
use Rattle.oak_core.specs.KeyedHeaders.{headers_keyed}
use Rattle.oak_core.specs.MayWrite.{MaySet, MayUnlink, MayEnd}
use Rattle.oak_core.specs.RoomTeaching.{knows_by_room, headers_by_room}
use Rattle.oak_core.specs.Sweeping.{swept_by}
use Rattle.oak_core.specs.RebalanceSteps.{rebalances_by}
use Rattle.oak_core.specs.Loading.{knows_by_load, sights_by_load, rooms_by_load}
use Rattle.oak_core.specs.PassState.{knowledge_of}

pub data Step : Type 0 where
  -- any word is loaded
  load : Spot → Step
  -- bit k of word 0 is set, to give the number k
  give_number : ℕ → Step
  -- a step on a word of the arena
  on_arena : ArenaStep → Step
  -- a step on a word of a header
  on_headers : HeaderStep → Step
  -- a step on a word of a room
  on_rooms : RoomStep → Step
  -- word k of the block of a locked header, of this class and number, becomes x
  store_locked : (h : ℕ) → Class → (b k x : ℕ) → Step
  -- word 0 is loaded, and the call is noted as one that lacks something; it began where so many findings were met
  note_full : Lack → ℕ → Step

abbrev pub spot : Step → Spot
spot (load p) = p
spot (give_number k) = at_given
spot (on_arena a) = in_arena (arena_spot a)
spot (on_headers x) = in_headers (header_spot x)
spot (on_rooms x) = in_rooms (room_spot x)
spot (store_locked h c b k x) = in_arena (at_bytes (class_number c) b k)
spot (note_full lack began) = at_given

-- what the word n becomes
abbrev pub effect : Step → ℕ → ℕ
effect (load p) n = n
effect (give_number k) n = bit_or n (2 ^ k)
effect (on_arena a) n = arena_effect a n
effect (on_headers x) n = header_effect x n
effect (on_rooms x) n = room_effect x n
effect (store_locked h c b k x) n = x
effect (note_full lack began) n = n

-- the pass has no number in hand, and found all lower numbers given
pub record MayGive (z : Sizes) (k : ℕ) (v : PassState) : Type 0 where
  pub few : k < z.passes
  pub hand : v.numbers.hand ≡ None
  pub lower : (j : ℕ) → j < k → Shows v.findings.met 0 (λ n. bit_at n j ≡ 1)

-- an owned header is opened with a block that the pass holds, of the class that its length has
pub record MayOpen (z : Sizes) (h : ℕ) (v : PassState) : Type 0 where
  pub place : IsPlace (place_held h v.headers.held)
  pub block : HoldsBlock z (class_in (place_held h v.headers.held)) (block_in (place_held h v.headers.held)) v.blocks

-- the two place words name one block
abbrev pub same_block : ℕ → ℕ → Bool
same_block x y = (class_in x == class_in y) && (block_in x == block_in y)

-- the place word of a locked header comes to name its block still, or one that the pass holds, of the class that its length has
pub record MayChange (z : Sizes) (h x : ℕ) (v : PassState) : Type 0 where
  pub place : IsPlace x
  pub block : (same_block x (place_held h v.headers.held) ≡ true) ⊎ HoldsBlock z (class_in x) (block_in x) v.blocks

abbrev pub MayWithBlock : Sizes → HeaderStep → PassState → Type 0
MayWithBlock z (open_header h) v = MayOpen z h v
MayWithBlock z (change_place h x) v = MayChange z h x v
MayWithBlock z _ v = Unit {0}

-- a pass pins a header that it knows, and locks one that it knows other than as its fresh one
abbrev pub MayKnowing : HeaderStep → PassState → Type 0
MayKnowing (pin_header h g) v = KnowsHeader h g v
MayKnowing (lock_header h old) v = 0 < knows_life h (generation_of old) v.knowledge
MayKnowing _ v = Unit {0}

pub record MayOnHeaders (z : Sizes) (x : HeaderStep) (v : PassState) : Type 0 where
  pub inside : IsInHeaders z (header_spot x)
  pub headers : MayHeader x v.headers
  pub block : MayWithBlock z x v
  pub known : MayKnowing x v

-- the word is one of the table's, and the pass has of rooms what the step asks
pub record MayOnRoom (z : Sizes) (x : RoomStep) (v : PassState) : Type 0 where
  pub inside : IsInRooms z (room_spot x)
  pub rooms : MayRoom z x v.rooms

-- a key word that comes into a claimed entry names a block that the pass holds, of a key
abbrev pub MayGiveKey : Sizes → EntryField → ℕ → HeldBlocks → Type 0
MayGiveKey z of_key x a = 0 < x → (is_key_word x ≡ 1) × HoldsBlock z (class_in x) (block_in x) a
MayGiveKey z of_value x a = Unit {0}
MayGiveKey z of_next x a = Unit {0}

-- a word may be stored to the entry that the pass claimed
pub record MayOwnEntry (z : Sizes) (f : EntryField) (r i x : ℕ) (v : PassState) : Type 0 where
  pub inside : IsInRooms z (entry_spot f r i)
  pub rooms : MayRoom z (own_entry f r i x) v.rooms
  pub block : MayGiveKey z f x v.blocks

-- the claimed entry may be linked
pub record MayLinkEntry (z : Sizes) (r : ℕ) (from : Option ℕ) (i old : ℕ) (v : PassState) : Type 0 where
  pub inside : IsInRooms z (link_spot r from)
  pub rooms : MayLink z is_key_word r from i old v.rooms

-- a fresh header may be set as the value of an entry
pub record MaySetValue (z : Sizes) (call r i old new : ℕ) (kind : Kind) (v : PassState) : Type 0 where
  pub inside : IsInRooms z (at_value r i)
  pub set : MaySet call r i old new kind v

-- the value word of an entry may come to be a floor again
pub record MayUnlinkEntry (z : Sizes) (r i x : ℕ) (v : PassState) : Type 0 where
  pub inside : IsInRooms z (at_value r i)
  pub unlink : MayUnlink r i x v

-- what each kind asks of its pass in its present call
abbrev pub MayOnRooms : Sizes → ℕ → RoomStep → PassState → Type 0
MayOnRooms z call (own_entry f r i x) v = MayOwnEntry z f r i x v
MayOnRooms z call (link_entry r from i old) v = MayLinkEntry z r from i old v
MayOnRooms z call (set_value r i old new kind) v = MaySetValue z call r i old new kind v
MayOnRooms z call (unlink_entry r i x) v = MayUnlinkEntry z r i x v
MayOnRooms z call x v = MayOnRoom z x v

-- the pass has the header locked, and the block is the header's
pub record LocksBlock (h : ℕ) (c : Class) (b : ℕ) (a : HeaderHolds) : Type 0 where
  pub locked : 0 < in_state h LOCKED a
  pub class : class_in (place_held h a.held) ≡ class_number c
  pub block : block_in (place_held h a.held) ≡ b

-- a store is one of 64 bits, to a word of that block
pub record MayStoreLocked (h : ℕ) (c : Class) (b k x : ℕ) (a : HeaderHolds) : Type 0 where
  pub block : LocksBlock h c b a
  pub word : k < block_words (class_number c)
  pub small : x < 2 ^ 64

-- what the step asks of the pass in its present call
abbrev pub May : Sizes → ℕ → Step → PassState → Type 0
May z call (load p) v = IsInside z p
May z call (give_number k) v = MayGive z k v
May z call (on_arena a) v = MayArena z a v.blocks
May z call (on_headers x) v = MayOnHeaders z x v × MayEnd call x v
May z call (on_rooms x) v = MayOnRooms z call x v
May z call (store_locked h c b k x) v = MayStoreLocked h c b k x v.headers
May z call (note_full lack began) v = (spare : Option ℕ) × Lacks z call lack spare began (length v.findings.met) v.findings

-- the number that the step finds
abbrev pub found : Sizes → Step → TableState → ℕ
found z x s = slice_index s.words (index z (spot x))

-- where the bit k of n was clear, the number k is in hand
abbrev pub numbered : ℕ → ℕ → Numbers → Numbers
numbered n k a = record a { hand = cond (bit_at n k == 0) (Some k) a.hand; made = cond (bit_at n k == 0) (a.made ++ k ∷ []) a.made }

-- the block that the place word names, with what stands in its words, comes to be held
abbrev pub block_back : (ℕ → ℕ → ℕ → ℕ) → ℕ → HeldBlocks → HeldBlocks
block_back bytes place a = record a { held = block_from bytes (class_from (class_in place)) (block_in place) ∷ a.held }

-- a fresh header's block is held before it is opened, and after it is released
abbrev pub block_regained : HeldAs → (ℕ → ℕ → ℕ → ℕ) → ℕ → HeldBlocks → HeldBlocks
block_regained Owned bytes place a = a
block_regained Fresh bytes place a = block_back bytes place a
block_regained (Locked at) bytes place a = a
block_regained Buried bytes place a = a

-- the block that x names is held no more, and the one that the place word names comes to be held; where both are one, nothing changes
abbrev pub block_exchanged : (ℕ → ℕ → ℕ → ℕ) → ℕ → ℕ → HeldBlocks → HeldBlocks
block_exchanged bytes place x a = record a { held = cond (same_block x place) a.held (block_from bytes (class_from (class_in place)) (block_in place) ∷ without (class_in x) (block_in x) a.held) }

abbrev pub blocks_with : HeaderStep → Memory → HeldBlocks → HeldBlocks
blocks_with (open_header h) m a = record a { held = without (class_in (m.headers.place h)) (block_in (m.headers.place h)) a.held }
blocks_with (change_place h x) m a = block_exchanged m.arena.bytes (m.headers.place h) x a
blocks_with (release_header h s) m a = block_regained s m.arena.bytes (m.headers.place h) a
blocks_with (take_back h x) m a = block_back m.arena.bytes (m.headers.place h) a
blocks_with _ m a = a

-- the block of a carried entry that is dropped with the key word comes to be held
abbrev pub blocks_dropped : ℕ → Memory → RoomHolds → HeldBlocks → HeldBlocks
blocks_dropped word m rooms a = cond (nat_lt 0 word && nat_lt 0 (drops word rooms.moving)) (block_back m.arena.bytes word a) a

-- the block of a key passes to the entry whose key word comes to name it, and back to the pass where the word becomes 0
abbrev pub blocks_owned : ℕ → ℕ → Memory → HeldBlocks → HeldBlocks
blocks_owned word x m a = record a { held = cond (x == 0) (cond (nat_lt 0 word) (block_from m.arena.bytes (class_from (class_in word)) (block_in word) ∷ a.held) a.held) (without (class_in x) (block_in x) a.held) }

-- that of an entry that is dropped comes back, too
abbrev pub blocks_by_room : RoomStep → Memory → RoomHolds → HeldBlocks → HeldBlocks
blocks_by_room (own_entry of_key r i x) m rooms a = blocks_owned (m.rooms.key r i) x m a
blocks_by_room (store_room p x) m rooms a = blocks_dropped (word_dropped m.rooms p x) m rooms a
blocks_by_room _ m rooms a = a

-- the state of the pass after the step
abbrev pub state_after : Sizes → ℕ → Step → TableState → PassState → PassState
state_after z call (load p) s v =
    let n = found z (load p) s in let m = memory z s.words in
    record v {
      findings = record v.findings { met = v.findings.met ++ finding z call p (Some n) n s.words v ∷ []; sights = sights_by_load p call m v };
      knowledge = knows_by_load call p m (map knowledge_of s.states) v;
      rooms = rooms_by_load p m v;
    }
state_after z call (give_number k) s v = let n = found z (give_number k) s in record (noted (leaving (finding z call at_given (Some n) (bit_or n (2 ^ k)) s.words v)) v) { numbers = numbered n k v.numbers }
state_after z call (on_arena a) s v =
    let n = found z (on_arena a) s in
    record (noted (arena_finding z call a n s.words v) v) { blocks = blocks_after (memory z s.words).arena.bytes a n v.blocks }
state_after z call (on_headers x) s v =
    let n = found z (on_headers x) s in let m = memory z s.words in
    record v {
      findings = record v.findings { met = v.findings.met ++ finding z call (in_headers (header_spot x)) (header_found x n) (header_effect x n) s.words v ∷ []; sights = sights_by_header call x m (map knowledge_of s.states) v; gones = gones_by_header call x m v };
      knowledge = knows_by_header call x m (map knowledge_of s.states) v;
      blocks = blocks_with x m v.blocks;
      headers = headers_keyed m.headers x v.knowledge (headers_after m.headers (content m.arena.bytes) x v.headers);
    }
state_after z call (on_rooms x) s v =
    let n = found z (on_rooms x) s in let m = memory z s.words in
    record v {
      findings = record v.findings { met = v.findings.met ++ finding z call (in_rooms (room_spot x)) (room_found x n) (room_effect x n) s.words v ∷ []; swept = swept_by x v; rebalances = rebalances_by x v };
      knowledge = knows_by_room call x m (map knowledge_of s.states) v;
      blocks = blocks_by_room x m v.rooms v.blocks;
      headers = headers_by_room x m v;
      rooms = rooms_after z m.rooms (content m.arena.bytes) x v.rooms;
    }
state_after z call (store_locked h c b k x) s v = record (noted (finding z call (in_arena (at_bytes (class_number c) b k)) None x s.words v) v) { headers = record v.headers { held = reworded h k x v.headers.held } }
state_after z call (note_full lack began) s v = let n = found z (note_full lack began) s in full_state call lack (finding z call at_given (Some n) n s.words v) v

-- the state of the table after the step of one seat
abbrev pub table_after : Sizes → ℕ → Step → ℕ → PassState → TableState → TableState
table_after z call x seat v s = record { words = slice_set s.words (index z (spot x)) (effect x (found z x s)); states = slice_set s.states seat (state_after z call x s v) }

-- What a step tells its pass: at a moment at which the rule held, the word was n, and the state v became w.
pub record Told (z : Sizes) (call : ℕ) (x : Step) (v : PassState) (n : ℕ) (w : PassState) : Type 0 where
  pub table : TableState
  pub seat : ℕ
  pub rule : Rule z table
  pub here : get_elem? table.states seat ≡ some v
  pub going : v.numbers.spent ≡ false
  pub may : May z call x v
  pub finds : found z x table ≡ n
  pub after : w ≡ state_after z call x table v
