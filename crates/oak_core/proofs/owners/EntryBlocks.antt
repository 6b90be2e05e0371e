-- Entries own blocks whose words stand: a store to a word of a block goes to one that has another owner.
use Rattle.std.proofs.Common.{◌≡◌, ℕ, ◌*◌, ◌<◌, ◌&&◌, cond, nat_lt, List, get_or, map, sym, refl, ap, ◌∙◌, arith, ltb-true}
use mathlib.Core.Logic.{dite}
use mathlib.Core.Option.{some}
use lib.ListN.{get_elem?}
use native.Mathlib.Decide.{ℕ_discrete}
use Rattle.pin_word.specs.PinWord.{state_of}
use Rattle.oak_model.specs.Counts.{one_at}
use Rattle.oak_model.specs.Limits.{Sizes}
use Rattle.oak_model.proofs.Counting.{test-cases, total_map}
use Rattle.oak_model.specs.Class.{class_number}
use Rattle.oak_model.proofs.Lists.{at_map}
use Rattle.arena_core.specs.declared.blocks.HeldBlocks.{HeldBlocks}
use Rattle.arena_core.specs.Arena.{ArenaSpot, at_bytes}
use Rattle.arena_core.specs.ArenaStep.{ArenaStep, take_bit, clear_bit, store_word, arena_spot, MayArena}
use Rattle.arena_core.specs.Blocks.{BlocksAreOwned, holds}
use Rattle.arena_core.proofs.ArenaSteps.{held_once}
use Rattle.arena_core.specs.Place.{length_in, names_block, content}
use Rattle.chunk_core.specs.declared.holds.RoomHolds.{RoomHolds}
use Rattle.chunk_core.specs.CoverSums.{weight, each, owning, owners_in_rooms, all_of}
use Rattle.chunk_core.specs.Covers.{span_in, entry_at, used_at, moving_of, Cover}
use Rattle.chunk_core.specs.LinkedEntries.{in_use}
use Rattle.chunk_core.specs.Rooms.{RoomMemory, at_room_pin}
use Rattle.chunk_core.proofs.ByteStores.{bytes_partition, bytes_rooms, bytes_covers}
use Rattle.chunk_core.proofs.CoverLaws.{covers_same}
use Rattle.oak_core.specs.declared.states.PassState.{PassState}
use Rattle.oak_core.specs.EntryOwners.{entry_owners, all_others, is_key_word}
use Rattle.oak_core.specs.Memory.{Memory, in_arena, in_rooms, index, number_at, memory, write}
use Rattle.oak_core.specs.PassState.{blocks_of, rooms_held}
use Rattle.oak_core.specs.Rule.{Rule}
use Rattle.oak_core.specs.TableState.{TableState}
use Rattle.oak_core.proofs.owners.HeadersInArena.{other_content, names_named}
use Rattle.oak_core.proofs.covers.ClaimedEntries.{claimed_key}
use Rattle.oak_core.proofs.covers.RoomBundles.{RoomBundles, rooms_now}
use Rattle.oak_model.specs.declared.classes.Class.{Class}

-- entries own the same blocks whatever the words of these are
pub owners_content : (z : Sizes) (m : RoomMemory) (content content' : ℕ → List ℕ) (hs : List RoomHolds) (names_it : ℕ → ℕ) → owners_in_rooms z m content' hs names_it ≡ owners_in_rooms z m content hs names_it
owners_content z m content content' hs names_it = covers_same z.chunks m.pin m.pin (used_at m content) (used_at m content') (map moving_of hs) (each (owning names_it)) (λ r _. ap (λ (t : ℕ). weight (m.pin r) * t)
    (total_map (entry_at m content' r) (owning names_it (span_in m r)) (in_use m r) ∙ sym (total_map (entry_at m content r) (owning names_it (span_in m r)) (in_use m r))))

-- 0 is no key word
no_key_word : is_key_word 0 ≡ 0
unfolding length_in
no_key_word = refl

pub key_some : (word : ℕ) → 0 < is_key_word word → 0 < word
key_some word l = dite (ℕ_discrete word 0) (λ e. absurd (let o = no_key_word in let q = ap is_key_word e in omega arith)) (λ ne. omega arith)

pub no_weight : weight 0 ≡ 0
unfolding state_of one_at
no_weight = refl

-- a room that is a cover is one of the table's
pub cover_inside : (z : Sizes) (ws : List ℕ) (r : ℕ) → weight ((memory z ws).rooms.pin r) ≡ 1 → r < z.chunks
unfolding number_at
cover_inside z ws r = test-cases (nat_lt r z.chunks) (λ t. weight (cond (t && nat_lt 0 1) (get_or ws (index z (in_rooms (at_room_pin r))) 0) 0) ≡ 1 → r < z.chunks) (λ t _. ltb-true r z.chunks t) (λ _ e. absurd (let o = no_weight in omega arith))

module _ (z : Sizes) (s : TableState) (r : Rule z s) (c b k x : ℕ) (none : entry_owners z (memory z s.words).rooms (content (memory z s.words).arena.bytes) (map rooms_held s.states) c b ≡ 0) where
  abbrev m : Memory
  m = memory z s.words

  abbrev m' : Memory
  m' = write m (in_arena (at_bytes c b k)) x

  abbrev hs : List RoomHolds
  hs = map rooms_held s.states

  apart : (word : ℕ) → names_block c b word ≡ 0 → content m'.arena.bytes word ≡ content m.arena.bytes word
  apart word e = other_content m c b k x word (λ p. let n = names_named c b word p.0 p.1 in absurd (omega arith))

  -- the points on rooms stand
  pub bytes_stored : RoomBundles z m.rooms m'.arena.bytes hs
  bytes_stored = record {
    rooms = bytes_rooms z m.rooms (content m.arena.bytes) (content m'.arena.bytes) hs (names_block c b) is_key_word apart key_some (cover_inside z s.words) none r.covers r.rooms (claimed_key z s r);
    covers = bytes_partition z m.rooms (content m.arena.bytes) (content m'.arena.bytes) hs (names_block c b) is_key_word apart key_some (cover_inside z s.words) none r.covers r.rooms;
    kept = r.kept_in_rooms;
  }

  -- and whatever is added up over covers
  pub sums_stored : (F : Cover → ℕ) → all_of z m.rooms (content m'.arena.bytes) hs F ≡ all_of z m.rooms (content m.arena.bytes) hs F
  sums_stored = bytes_covers z m.rooms (content m.arena.bytes) (content m'.arena.bytes) hs (names_block c b) is_key_word apart key_some (cover_inside z s.words) none r.covers r.rooms

-- a step on the arena leaves the owners that are headers and entries
pub owned_whatever : (z : Sizes) (m : Memory) (p : ArenaSpot) (y : ℕ) (hs : List RoomHolds) (bits : ℕ → ℕ → ℕ) (bs : List HeldBlocks) → BlocksAreOwned z bits (all_others z m hs) bs → BlocksAreOwned z bits (all_others z (write m (in_arena p) y) hs) bs
owned_whatever z m p y hs bits bs r = record {
  owned = λ c b. let e = owners_content z m.rooms (content m.arena.bytes) (content (write m (in_arena p) y).arena.bytes) hs (names_block c b) in let w = r.owned c b in omega arith;
  inside = λ c b le. let e = owners_content z m.rooms (content m.arena.bytes) (content (write m (in_arena p) y).arena.bytes) hs (names_block c b) in let w = r.inside c b le in omega arith;
  whole = r.whole;
}

-- no entry has a block that a pass holds
no_entry_holds : (z : Sizes) (s : TableState) (seat : ℕ) (v : PassState) → Rule z s → get_elem? s.states seat ≡ some v → (c : Class) (b : ℕ) → 0 < holds (class_number c) b v.blocks → entry_owners z (memory z s.words).rooms (content (memory z s.words).arena.bytes) (map rooms_held s.states) (class_number c) b ≡ 0
no_entry_holds z s seat v r here c b held = let o = (held_once z (memory z s.words).arena (all_others z (memory z s.words) (map rooms_held s.states)) (map blocks_of s.states) seat v.blocks (at_map blocks_of s.states seat v here) r.blocks (class_number c) b held).3 in omega arith

-- and the points on rooms: a pass stores to blocks that it holds alone
pub rooms_on_arena : (z : Sizes) (s : TableState) (seat : ℕ) (v : PassState) → Rule z s → get_elem? s.states seat ≡ some v → (x : ArenaStep) (y : ℕ) → MayArena z x v.blocks → RoomBundles z (memory z s.words).rooms (write (memory z s.words) (in_arena (arena_spot x)) y).arena.bytes (map rooms_held s.states)
rooms_on_arena z s seat v r here (take_bit c b) y may = rooms_now z s r
rooms_on_arena z s seat v r here (clear_bit c b) y may = rooms_now z s r
rooms_on_arena z s seat v r here (store_word c b k x) y may = bytes_stored z s r (class_number c) b k y (no_entry_holds z s seat v r here c b may.block.held)

pub sums_on_arena : (z : Sizes) (s : TableState) (seat : ℕ) (v : PassState) → Rule z s → get_elem? s.states seat ≡ some v → (x : ArenaStep) (y : ℕ) → MayArena z x v.blocks → (F : Cover → ℕ)
    → all_of z (memory z s.words).rooms (content (write (memory z s.words) (in_arena (arena_spot x)) y).arena.bytes) (map rooms_held s.states) F ≡ all_of z (memory z s.words).rooms (content (memory z s.words).arena.bytes) (map rooms_held s.states) F
sums_on_arena z s seat v r here (take_bit c b) y may F = refl
sums_on_arena z s seat v r here (clear_bit c b) y may F = refl
sums_on_arena z s seat v r here (store_word c b k x) y may F = sums_stored z s r (class_number c) b k y (no_entry_holds z s seat v r here c b may.block.held) F
