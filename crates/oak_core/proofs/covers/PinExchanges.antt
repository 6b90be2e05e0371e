-- A step that exchanges a word of a room where it is a certain number, with what its pass has of rooms then, and else changes nothing.
use Rattle.std.proofs.Common.{◌≡◌, ℕ, ◌+◌, ◌^◌, ◌<◌, ◌==◌, cond, ap, Bool, true, false, List, map, set, get_or, sym, refl, subst, arith}
use prog.Atomic.{either}
use mathlib.Core.Option.{some}
use lib.ListN.{get_elem?}
use Rattle.pin_word.specs.PinWord.{STATE, state_of}
use Rattle.oak_model.specs.Kept.{KeptNumbersStand}
use Rattle.oak_model.specs.Limits.{Sizes}
use Rattle.oak_model.proofs.Counting.{decided, test-cases}
use Rattle.oak_model.proofs.Lists.{set_again}
use Rattle.arena_core.specs.Blocks.{BlocksAreOwned}
use Rattle.arena_core.specs.Place.{names_block, content}
use Rattle.chunk_core.specs.declared.holds.RoomHolds.{RoomHolds}
use Rattle.chunk_core.specs.CoverSums.{all_of, owners_in_rooms}
use Rattle.chunk_core.specs.Covers.{Cover}
use Rattle.chunk_core.specs.KeptRooms.{kept_of_rooms}
use Rattle.chunk_core.specs.RoomRule.{RoomsStand}
use Rattle.chunk_core.specs.RoomStep.{put_room}
use Rattle.chunk_core.specs.Rooms.{RoomMemory, RoomSpot, IsInRooms, at_room_pin, at_base, at_count, at_latch, at_first, at_low, at_high, at_key, at_value, at_next, read_room, same_room_spot}
use Rattle.chunk_core.proofs.RoomWords.{same_room_spot-is}
use Rattle.chunk_core.proofs.CoverFrames.{partition_same}
use Rattle.oak_core.specs.declared.states.PassState.{PassState}
use Rattle.oak_core.specs.EntryOwners.{entry_owners, is_key_word}
use Rattle.oak_core.specs.Memory.{Memory, in_rooms, memory, index}
use Rattle.oak_core.specs.Owners.{other_owners}
use Rattle.oak_core.specs.PassState.{blocks_of, rooms_held}
use Rattle.oak_core.specs.Rule.{Rule}
use Rattle.oak_core.specs.TableState.{TableState}
use Rattle.oak_core.proofs.kinds.KeepsRoomPins.{at_rooms}
use Rattle.oak_core.proofs.covers.RoomBundles.{RoomBundles}
use Rattle.oak_core.proofs.memory.Words.{memory_read}

-- the next state still fits into a word
pub next_small : (w : ℕ) → state_of w < 15 → w < 2 ^ 64 → w + STATE < 2 ^ 64
unfolding state_of
next_small w h b = omega arith

module _ (z : Sizes) (s : TableState) (seat : ℕ) (v : PassState) (r : Rule z s) (here : get_elem? s.states seat ≡ some v) where
  abbrev m : Memory
  m = memory z s.words

  abbrev hs : List RoomHolds
  hs = map rooms_held s.states

  -- the points on rooms, and the owners of blocks, over other words of the rooms and other holds, where nothing has changed that is added up over covers
  pub record RoomsBehind (m' : RoomMemory) (hs' : List RoomHolds) : Type 0 where
    pub bundles : RoomBundles z m' (memory z s.words).arena.bytes hs'
    pub blocks : BlocksAreOwned z (memory z s.words).arena.bits (λ c b. other_owners z (memory z s.words).headers c b + entry_owners z m' (content (memory z s.words).arena.bytes) hs' c b) (map blocks_of s.states)
    pub covers : (F : Cover → ℕ) → all_of z m' (content (memory z s.words).arena.bytes) hs' F ≡ all_of z (memory z s.words).rooms (content (memory z s.words).arena.bytes) (map rooms_held s.states) F

  pub rooms_behind : (m' : RoomMemory) (hs' : List RoomHolds) → RoomsStand z m' (content (memory z s.words).arena.bytes) hs' → ((F : Cover → ℕ) → all_of z m' (content (memory z s.words).arena.bytes) hs' F ≡ all_of z (memory z s.words).rooms (content (memory z s.words).arena.bytes) (map rooms_held s.states) F)
      → ((names_it : ℕ → ℕ) → owners_in_rooms z m' (content (memory z s.words).arena.bytes) hs' names_it ≡ owners_in_rooms z (memory z s.words).rooms (content (memory z s.words).arena.bytes) (map rooms_held s.states) names_it)
      → KeptNumbersStand same_room_spot (read_room m') (map kept_of_rooms hs') → RoomsBehind m' hs'
  rooms_behind m' hs' stands same owned kept = record {
    bundles = record { rooms = stands; covers = partition_same z m.rooms m' (content m.arena.bytes) (content m.arena.bytes) is_key_word hs hs' same r.covers; kept = kept };
    blocks = record {
      owned = λ c b. let e = owned (names_block c b) in let w = r.blocks.owned c b in omega arith;
      inside = λ c b le. let e = owned (names_block c b) in let w = r.blocks.inside c b le in omega arith;
      whole = r.blocks.whole;
    };
    covers = same;
  }

  -- a word of a room becomes what it was
  pub still : (p : RoomSpot) → RoomsBehind (put_room (memory z s.words).rooms p (read_room (memory z s.words).rooms p)) (set (map rooms_held s.states) seat v.rooms)
  still p = subst (λ (t : RoomMemory × List RoomHolds). RoomsBehind t.0 t.1) (sym (λ j. (words_still j, set_again hs seat v.rooms (at_rooms z s seat v r here) j))) (rooms_behind m.rooms hs r.rooms (λ F. refl) (λ _. refl) r.kept_in_rooms)
    where
      again : (q : RoomSpot) → cond (same_room_spot q p) (read_room m.rooms p) (read_room m.rooms q) ≡ read_room m.rooms q
      again q = test-cases (same_room_spot q p) (λ t. cond t (read_room m.rooms p) (read_room m.rooms q) ≡ read_room m.rooms q) (λ e. ap (read_room m.rooms) (sym (same_room_spot-is q p e))) (λ _. refl)

      words_still : put_room m.rooms p (read_room m.rooms p) ≡ m.rooms
      words_still = λ j. record {
        pin = λ k. again (at_room_pin k) j;
        base = λ k. again (at_base k) j;
        count = λ k. again (at_count k) j;
        latch = λ k. again (at_latch k) j;
        first = λ k. again (at_first k) j;
        low = λ k n. again (at_low k n) j;
        high = λ k n. again (at_high k n) j;
        key = λ k n. again (at_key k n) j;
        value = λ k n. again (at_value k n) j;
        next = λ k n. again (at_next k n) j;
      }

  module _ (p : RoomSpot) (old new : ℕ) (inside : IsInRooms z p) where
    word_is : read_room (memory z s.words).rooms p ≡ get_or s.words (index z (in_rooms p)) 0
    word_is = memory_read z s.words (in_rooms p) inside

    -- where the word is `old` it becomes `new`, and else it stays; `holds` says what the pass has of rooms in each case
    pub word_exchanged : (holds : Bool → RoomHolds) → holds false ≡ v.rooms → (read_room (memory z s.words).rooms p ≡ old → RoomsBehind (put_room (memory z s.words).rooms p new) (set (map rooms_held s.states) seat (holds true)))
        → let n = get_or s.words (index z (in_rooms p)) 0 in RoomsBehind (put_room (memory z s.words).rooms p (either (n == old) new n)) (set (map rooms_held s.states) seat (holds (read_room (memory z s.words).rooms p == old)))
    word_exchanged holds as_it_was hit = subst (λ (i : ℕ). RoomsBehind (put_room m.rooms p (either (i == old) new i)) (set hs seat (holds (read_room m.rooms p == old)))) word_is
        (decided (read_room m.rooms p) old (λ t. RoomsBehind (put_room m.rooms p (either t new (read_room m.rooms p))) (set hs seat (holds t))) hit
        (λ _. subst (λ (b : RoomHolds). RoomsBehind (put_room m.rooms p (read_room m.rooms p)) (set hs seat b)) (sym as_it_was) (still p)))

    -- the number that was found is one of 64 bits
    pub word_small : read_room (memory z s.words).rooms p ≡ old → old < 2 ^ 64
    word_small e = let w = r.words.small (index z (in_rooms p)) in let i = word_is in omega arith

    -- so is the word afterwards
    pub word_exchange_small : (read_room (memory z s.words).rooms p ≡ old → new < 2 ^ 64) → let n = get_or s.words (index z (in_rooms p)) 0 in either (n == old) new n < 2 ^ 64
    word_exchange_small hit = let n : ℕ = get_or s.words (index z (in_rooms p)) 0 in
        decided n old (λ t. either t new n < 2 ^ 64) (λ e. hit (let i = word_is in omega arith)) (λ _. r.words.small (index z (in_rooms p)))

  -- so it is of a pin word
  module _ (k old new : ℕ) (inside : IsInRooms z (at_room_pin k)) where
    pub exchanged : (holds : Bool → RoomHolds) → holds false ≡ v.rooms → ((memory z s.words).rooms.pin k ≡ old → RoomsBehind (put_room (memory z s.words).rooms (at_room_pin k) new) (set (map rooms_held s.states) seat (holds true)))
        → let n = get_or s.words (index z (in_rooms (at_room_pin k))) 0 in RoomsBehind (put_room (memory z s.words).rooms (at_room_pin k) (either (n == old) new n)) (set (map rooms_held s.states) seat (holds ((memory z s.words).rooms.pin k == old)))
    exchanged = word_exchanged (at_room_pin k) old new inside

    pub old_small : (memory z s.words).rooms.pin k ≡ old → old < 2 ^ 64
    old_small = word_small (at_room_pin k) old new inside

    pub exchange_small : ((memory z s.words).rooms.pin k ≡ old → new < 2 ^ 64) → let n = get_or s.words (index z (in_rooms (at_room_pin k))) 0 in either (n == old) new n < 2 ^ 64
    exchange_small = word_exchange_small (at_room_pin k) old new inside
