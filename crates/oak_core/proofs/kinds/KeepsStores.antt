-- A store to a held room keeps the rule: one that takes a key word away drops the carried entry of that word, where that has no value.
use Rattle.std.proofs.Common.{◌≡◌, ◌≢◌, ℕ, ◌==◌, ◌&&◌, Bool, false, true, cond, nat_lt, List, map, set, sym, refl, subst, arith, lt-ltb, le-ltb, None, eq-eqb, ne_eqb}
use mathlib.Core.Logic.{dite}
use mathlib.Core.Option.{some}
use native.Mathlib.Decide.{ℕ_discrete}
use lib.ListN.{get_elem?}
use Rattle.oak_model.specs.Kept.{KeptNumbersStand}
use Rattle.oak_model.specs.Limits.{Sizes}
use Rattle.oak_model.proofs.Lists.{begins_self, map_set, map_set_same}
use Rattle.arena_core.specs.declared.blocks.HeldBlocks.{HeldBlocks}
use Rattle.arena_core.specs.Blocks.{BlocksAreOwned}
use Rattle.header_core.specs.declared.holds.HeaderHolds.{HeaderHolds}
use Rattle.chunk_core.specs.declared.holds.RoomHolds.{RoomHolds}
use Rattle.chunk_core.specs.MovingRanges.{drops, range_without, ranges_with, word_dropped}
use Rattle.chunk_core.specs.RoomStep.{store_room}
use Rattle.chunk_core.specs.Rooms.{RoomSpot}
use Rattle.chunk_core.proofs.DroppedSums.{ranges_stay}
use Rattle.oak_core.specs.declared.states.PassState.{PassState}
use Rattle.oak_core.specs.EntryOwners.{all_others}
use Rattle.oak_core.specs.Finding.{finding}
use Rattle.oak_core.specs.Known.{known}
use Rattle.oak_core.specs.Memory.{Memory, in_rooms, memory, read, same_spot, write}
use Rattle.oak_core.specs.Owners.{HeadersAreHeld}
use Rattle.oak_core.specs.PassState.{blocks_of, headers_held, kept_of, knowledge_of, rooms_held}
use Rattle.oak_core.specs.Rule.{Rule}
use Rattle.oak_core.specs.Step.{on_rooms, MayOnRoom, block_back, blocks_dropped, state_after, table_after}
use Rattle.oak_core.specs.TableState.{TableState}
use Rattle.oak_core.proofs.kinds.Keeps.{elsewhere_rule}
use Rattle.oak_core.proofs.covers.RoomBundles.{RoomBundles}
use Rattle.oak_core.proofs.covers.StoresBehind.{Stored, stored_dropped, stored_still}

module _ (z : Sizes) (s : TableState) (seat : ℕ) (v : PassState) (r : Rule z s) (here : get_elem? s.states seat ≡ some v) where
  abbrev m : Memory
  m = memory z s.words

  -- what the pass has then, by what the word that is taken away drops
  stored : (p : RoomSpot) (x : ℕ) (may : MayOnRoom z (store_room p x) v) (word : ℕ) → Stored z s seat v r here p x may (blocks_dropped word m v.rooms v.blocks) (ranges_with word v.rooms.moving)
  stored p x may word = dite (ℕ_discrete word 0) none (λ ne. dite (ℕ_discrete (drops word v.rooms.moving) 0) (not_found ne) (found ne))
    where
      by : (a b c : Bool) → nat_lt 0 word ≡ a → nat_lt 0 (drops word v.rooms.moving) ≡ b → (word == 0) ≡ c → Stored z s seat v r here p x may (cond (a && b) (block_back m.arena.bytes word v.blocks) v.blocks) (cond c v.rooms.moving (map (range_without word) v.rooms.moving))
          → Stored z s seat v r here p x may (blocks_dropped word m v.rooms v.blocks) (ranges_with word v.rooms.moving)
      by a b c ea eb ec = subst (λ (t : Bool × Bool × Bool). Stored z s seat v r here p x may (cond (t.0 && t.1) (block_back m.arena.bytes word v.blocks) v.blocks) (cond t.2 v.rooms.moving (map (range_without word) v.rooms.moving))) (λ i. (sym ea i, sym eb i, sym ec i))

      none : word ≡ 0 → Stored z s seat v r here p x may (blocks_dropped word m v.rooms v.blocks) (ranges_with word v.rooms.moving)
      none e = by false (nat_lt 0 (drops word v.rooms.moving)) true (le-ltb 0 word (omega arith)) refl (eq-eqb word 0 e) (stored_still z s seat v r here p x may)

      not_found : word ≢ 0 → drops word v.rooms.moving ≡ 0 → Stored z s seat v r here p x may (blocks_dropped word m v.rooms v.blocks) (ranges_with word v.rooms.moving)
      not_found ne e = by true false false (lt-ltb 0 word (omega arith)) (le-ltb 0 (drops word v.rooms.moving) (omega arith)) (ne_eqb word 0 ne) (subst (Stored z s seat v r here p x may v.blocks) (sym (ranges_stay word v.rooms.moving e)) (stored_still z s seat v r here p x may))

      found : word ≢ 0 → drops word v.rooms.moving ≢ 0 → Stored z s seat v r here p x may (blocks_dropped word m v.rooms v.blocks) (ranges_with word v.rooms.moving)
      found ne some_of = by true true false (lt-ltb 0 word (omega arith)) (lt-ltb 0 (drops word v.rooms.moving) (omega arith)) (ne_eqb word 0 ne) (stored_dropped z s seat v r here p x may word (omega arith) (omega arith))

  module _ (call : ℕ) (going : v.numbers.spent ≡ false) where
    -- so the rule stands behind the store
    pub store_room_keeps : (p : RoomSpot) (x : ℕ) → MayOnRoom z (store_room p x) v → Rule z (table_after z call (on_rooms (store_room p x)) seat v s)
    store_room_keeps p x may = let w : PassState = state_after z call (on_rooms (store_room p x)) s v in let y : Memory = write m (in_rooms p) x in let t = stored p x may (word_dropped m.rooms p x) in
        elsewhere_rule z s call seat v r here going (on_rooms (store_room p x)) (finding z call (in_rooms p) None x s.words v) may.inside may.rooms.2 refl refl (record { met = refl; swept = begins_self v.findings.swept; fulls = refl }) refl refl
        (subst (λ (bs : List HeldBlocks). BlocksAreOwned z m.arena.bits (all_others z y (map rooms_held (set s.states seat w))) bs) (sym (map_set blocks_of s.states seat w))
        (subst (λ (rs : List RoomHolds). BlocksAreOwned z m.arena.bits (all_others z y rs) (set (map blocks_of s.states) seat w.blocks)) (sym (map_set rooms_held s.states seat w)) t.blocks))
        (subst (λ (hh : List HeaderHolds). HeadersAreHeld m.headers m.arena.bytes (known (map knowledge_of s.states)) hh) (sym (map_set_same headers_held s.states seat v w here refl)) r.headers)
        (subst (RoomBundles z y.rooms m.arena.bytes) (sym (map_set rooms_held s.states seat w)) t.bundles)
        (t.keys w refl refl refl refl)
        (subst (KeptNumbersStand same_spot (read y)) (sym (map_set kept_of s.states seat w)) t.kept)
        (r.passes seat v here)
