-- The block of a carried entry that is dropped comes back to the pass: it has one owner still, and its words come to be kept with their numbers.
use Rattle.std.proofs.Common.{◌≡◌, ℕ, ◌+◌, ◌/◌, ◌%◌, ◌<◌, List, map, set, sym, refl, arith}
use Rattle.std.proofs.lemmas.Nat.Bits.{bit_at-lt}
use mathlib.Core.Option.{some}
use lib.ListN.{get_elem?}
use Rattle.oak_model.specs.Class.{class_number}
use Rattle.oak_model.specs.Counts.{total}
use Rattle.oak_model.specs.Kept.{KeptNumbersStand, KeptWord}
use Rattle.oak_model.specs.Limits.{Sizes}
use Rattle.oak_model.proofs.Changes.{stepped}
use Rattle.oak_model.proofs.Lists.{at_map, each_append, rows_length}
use Rattle.arena_core.specs.declared.blocks.HeldBlock.{HeldBlock}
use Rattle.arena_core.specs.Arena.{ArenaSpot, block_words}
use Rattle.arena_core.specs.Blocks.{BlocksAreOwned, block_from, holds}
use Rattle.arena_core.specs.HeldBlocks.{kept_of_block, kept_of_blocks}
use Rattle.arena_core.specs.Place.{block_in, class_from, class_in, content, names_block}
use Rattle.arena_core.proofs.BlockSums.{only, only_named}
use Rattle.arena_core.proofs.KeptBlocks.{taken_true}
use Rattle.arena_core.proofs.OwnedBlocks.{blocks_frame}
use Rattle.arena_core.proofs.PlaceLaws.{class_number-from}
use Rattle.chunk_core.specs.declared.holds.RoomHolds.{RoomHolds}
use Rattle.chunk_core.specs.Rooms.{RoomSpot}
use Rattle.oak_core.specs.declared.states.PassState.{PassState}
use Rattle.oak_core.specs.EntryOwners.{all_others, entry_owners}
use Rattle.oak_core.specs.Memory.{Memory, in_arena, in_rooms, memory, read, same_spot, write}
use Rattle.oak_core.specs.Owners.{has_in_headers}
use Rattle.oak_core.specs.PassState.{blocks_of, headers_held, kept_of, rooms_held}
use Rattle.oak_core.specs.Rule.{Rule}
use Rattle.oak_core.specs.Step.{block_back}
use Rattle.oak_core.specs.TableState.{TableState}
use Rattle.oak_core.proofs.owners.HeadersInArena.{names_named}
use Rattle.oak_core.proofs.owners.HeaderSums.{headers_own}
use Rattle.oak_core.proofs.owners.KeptInArena.{times_more}
use Rattle.oak_core.proofs.owners.KeptWords.{block_once, kept_with, parts_put, still_true, times_in_rooms, unkept_by_all}

-- A word of a room becomes x, passes have of rooms what the list says, and the block that the key word names has one entry less.
module _ (z : Sizes) (s : TableState) (seat : ℕ) (v : PassState) (r : Rule z s) (here : get_elem? s.states seat ≡ some v) (p : RoomSpot) (x : ℕ) (after : List RoomHolds) (word : ℕ) (low : class_in word < 4)
    (fewer : (c b : ℕ) → entry_owners z (write (memory z s.words) (in_rooms p) x).rooms (content (memory z s.words).arena.bytes) after c b + names_block c b word ≡ entry_owners z (memory z s.words).rooms (content (memory z s.words).arena.bytes) (map rooms_held s.states) c b) where
  abbrev m : Memory
  m = memory z s.words

  abbrev m' : Memory
  m' = write m (in_rooms p) x

  abbrev hs : List RoomHolds
  hs = map rooms_held s.states

  abbrev new : HeldBlock
  new = block_from m.arena.bytes (class_from (class_in word)) (block_in word)

  -- the pass owns the block in place of the entry
  pub back_owned : BlocksAreOwned z (memory z s.words).arena.bits (all_others z (write (memory z s.words) (in_rooms p) x) after) (set (map blocks_of s.states) seat (block_back (memory z s.words).arena.bytes word v.blocks))
  unfolding total
  back_owned = let at = at_map blocks_of s.states seat v here in
      blocks_frame z m.arena.bits (all_others z m hs) (all_others z m' after) (stepped (map blocks_of s.states) seat v.blocks (block_back m.arena.bytes word v.blocks) at) r.blocks
      ((rows_length 0 (block_words (class_number (class_from (class_in word)))) (m.arena.bytes (class_number (class_from (class_in word))) (block_in word)), r.blocks.whole seat v.blocks at), tt)
      (λ c b. let f = fewer c b in let k : only c b (class_from (class_in word)) (block_in word) ≡ names_block c b word = only_named c b word low in omega arith)

  -- the entry alone had it
  unowned : (total (holds (class_number new.class) new.number) (map blocks_of s.states) ≡ 0) × (total (has_in_headers (class_number new.class) new.number) (map headers_held s.states) ≡ 0)
  unowned = let c : ℕ = class_number (class_from (class_in word)) in let b : ℕ = block_in word in let n = names_named c b word (sym (class_number-from (class_in word) low)) refl in let f = fewer c b in
      let o = r.blocks.owned c b in let l = bit_at-lt (m.arena.bits c (b / 64)) (b % 64) in let h = headers_own z s r c b in ((omega arith), (omega arith))

  -- so its words are newly kept, with the numbers that stand there
  pub back_kept : KeptNumbersStand same_spot (read (write (memory z s.words) (in_rooms p) x)) (set (map kept_of s.states) seat (kept_with (block_back (memory z s.words).arena.bytes word v.blocks) v.headers))
  unfolding kept_of_blocks
  back_kept = let unkept = unkept_by_all (in_rooms p) (times_in_rooms p) s.states in let t = still_true m s.states seat v here r.kept (in_rooms p) x unkept in
      parts_put m s.states seat v here r.kept (in_rooms p) x unkept (block_back m.arena.bytes word v.blocks) v.headers
      record {
        blocks = each_append (λ (k : KeptWord ArenaSpot). read m' (in_arena k.spot) ≡ k.number) (kept_of_block new) (kept_of_blocks v.blocks.held) (taken_true m'.arena (class_from (class_in word)) (block_in word)) t.blocks;
        within = t.within;
        headers = t.headers;
      }
      (λ q. let u = unowned in let once = block_once m s.states r.kept new u.0 u.1 q in let more = times_more z m (all_others z m hs) s.states seat v here r.blocks (λ c b. let o = headers_own z s r c b in omega arith) r.kept new v.blocks q in omega arith)
