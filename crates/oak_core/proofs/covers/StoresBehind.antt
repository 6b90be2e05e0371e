-- What stands behind a store to a held room: the pass has its blocks and its moving ranges still, or an entry without a value is dropped from a range, and its block comes back.
use Rattle.std.proofs.Common.{◌≡◌, ℕ, ◌+◌, ◌<◌, Bool, cond, List, [], ◌∷◌, map, set, sym, refl, ap, subst, arith, ne_eqb}
use mathlib.Core.Option.{some}
use lib.ListN.{get_elem?}
use Rattle.oak_model.specs.Counts.{total, Has}
use Rattle.oak_model.specs.Kept.{KeptNumbersStand}
use Rattle.oak_model.specs.Limits.{Sizes}
use Rattle.oak_model.proofs.Changes.{Change, change_parts, stepped}
use Rattle.oak_model.proofs.Lists.{at_map, at_unmap, map_set}
use Rattle.arena_core.specs.declared.blocks.HeldBlocks.{HeldBlocks}
use Rattle.arena_core.specs.Blocks.{BlocksAreOwned}
use Rattle.arena_core.specs.Place.{class_in, content, names_block}
use Rattle.header_core.specs.declared.holds.HeaderHolds.{HeaderHolds}
use Rattle.header_core.specs.declared.holds.HeldHeader.{HeldHeader}
use Rattle.header_core.specs.Headers.{at_pin}
use Rattle.chunk_core.specs.declared.holds.MovingRange.{MovingRange}
use Rattle.chunk_core.specs.declared.holds.RoomHolds.{RoomHolds}
use Rattle.chunk_core.specs.Covers.{Cover, moving_of}
use Rattle.chunk_core.specs.CoverSums.{all_of, each, owning, weight, owners_in_rooms}
use Rattle.chunk_core.specs.KeptRooms.{kept_of_rooms}
use Rattle.chunk_core.specs.MovingRanges.{drops, range_without}
use Rattle.chunk_core.specs.RoomCopies.{rooms_with}
use Rattle.chunk_core.specs.RoomRule.{AreTrueRanges, RoomsStand}
use Rattle.chunk_core.specs.RoomStep.{put_room, store_room}
use Rattle.chunk_core.specs.Rooms.{RoomSpot, read_room, room_at, same_room_spot}
use Rattle.chunk_core.proofs.CoverFrames.{partition_same}
use Rattle.chunk_core.proofs.DroppedEntries.{dropped_partition}
use Rattle.chunk_core.proofs.DroppedSums.{dropped_placed, owners_fewer}
use Rattle.chunk_core.proofs.RoomStores.{store_step, store_owners}
use Rattle.chunk_core.proofs.StoredKeptRooms.{aside, store_kept}
use Rattle.chunk_core.proofs.StoredRooms.{pin_still, store_rooms, true_dropped}
use Rattle.oak_core.specs.declared.states.PassState.{PassState}
use Rattle.oak_core.specs.EntryOwners.{all_others, entry_owners, is_key_word}
use Rattle.oak_core.specs.Memory.{Memory, in_headers, in_rooms, memory, read, same_spot, write}
use Rattle.oak_core.specs.PassState.{blocks_of, headers_held, kept_of, knowledge_of, rooms_held}
use Rattle.oak_core.specs.Rule.{Rule}
use Rattle.oak_core.specs.Step.{MayOnRoom, block_back}
use Rattle.oak_core.specs.TableState.{TableState}
use Rattle.oak_core.specs.Lessons.{PinsKnow}
use Rattle.oak_core.proofs.owners.BlocksDropped.{back_kept, back_owned}
use Rattle.oak_core.proofs.owners.BlocksWithHeaders.{owned_alike}
use Rattle.oak_core.proofs.histories.CallersKept.{without_hand}
use Rattle.oak_core.proofs.keyed.DroppedKeys.{drop_bundles}
use Rattle.oak_core.proofs.held.HeaderStanding.{number_small}
use Rattle.oak_core.proofs.held.HeldInside.{held_low}
use Rattle.oak_core.proofs.held.HeldTruths.{held_names}
use Rattle.oak_core.proofs.memory.HomeWords.{NamesAt}
use Rattle.oak_core.proofs.owners.KeptWords.{kept_with, parts_put, still_true, times_in_rooms, unkept_by_all}
use Rattle.oak_core.proofs.keyed.KeyBundles.{KeyBundles, keys_idle, keys_now}
use Rattle.oak_core.proofs.keyed.KeyPlaces.{key_class, key_word_few}
use Rattle.oak_core.proofs.known.PinsKnown.{pins_same}
use Rattle.oak_core.proofs.covers.RoomBundles.{RoomBundles}

module _ (z : Sizes) (s : TableState) (seat : ℕ) (v : PassState) (r : Rule z s) (here : get_elem? s.states seat ≡ some v) (p : RoomSpot) (x : ℕ) (may : MayOnRoom z (store_room p x) v) where
  abbrev m : Memory
  m = memory z s.words

  abbrev m' : Memory
  m' = write m (in_rooms p) x

  abbrev bytes : ℕ → List ℕ
  bytes = content m.arena.bytes

  abbrev hs : List RoomHolds
  hs = map rooms_held s.states

  own : get_elem? hs seat ≡ some v.rooms
  own = at_map rooms_held s.states seat v here

  at_blocks : get_elem? (map blocks_of s.states) seat ≡ some v.blocks
  at_blocks = at_map blocks_of s.states seat v here

  -- what the pass has of rooms then, with these moving ranges
  abbrev held : List MovingRange → RoomHolds
  held moving = record v.rooms { held = rooms_with p x v.rooms.held; moving = moving }

  no_cover : weight (m.rooms.pin (room_at p)) ≡ 0
  no_cover = aside z m.rooms bytes hs r.rooms r.kept_in_rooms seat v.rooms own p x may.rooms.1 may.rooms.0

  pins : (j : ℕ) → (put_room m.rooms p x).pin j ≡ m.rooms.pin j
  pins = pin_still m.rooms p x may.rooms.1

  carried : AreTrueRanges bytes v.rooms.moving
  carried = r.rooms.carried seat v.rooms own

  -- what stands behind the store, where the pass has these blocks and moving ranges
  pub record Stored (a : HeldBlocks) (moving : List MovingRange) : Type 0 where
    pub bundles : RoomBundles z (write m (in_rooms p) x).rooms m.arena.bytes (set hs seat (record v.rooms { held = rooms_with p x v.rooms.held; moving = moving }))
    pub blocks : BlocksAreOwned z m.arena.bits (all_others z (write m (in_rooms p) x) (set hs seat (record v.rooms { held = rooms_with p x v.rooms.held; moving = moving }))) (set (map blocks_of s.states) seat a)
    pub kept : KeptNumbersStand same_spot (read (write m (in_rooms p) x)) (set (map kept_of s.states) seat (kept_with a v.headers))
    pub keys : (u : PassState) → u.rooms ≡ record v.rooms { held = rooms_with p x v.rooms.held; moving = moving } → u.headers ≡ v.headers → u.knowledge ≡ v.knowledge → without_hand u.numbers ≡ without_hand v.numbers → KeyBundles z (write m (in_rooms p) x) (set s.states seat u)

  -- what is added up over covers changes by the moving ranges of the pass alone
  sums : (rs : List RoomHolds) (b : RoomHolds) → Change hs rs (v.rooms ∷ []) (b ∷ []) → (F : Cover → ℕ) → all_of z m'.rooms bytes rs F + total F (moving_of v.rooms) ≡ all_of z m.rooms bytes hs F + total F (moving_of b)
  unfolding total
  sums rs b c F = let e = store_step z m.rooms bytes hs rs (v.rooms ∷ []) (b ∷ []) c p x no_cover pins F in omega arith

  -- and so do the owners of blocks
  owned : (rs : List RoomHolds) (b : RoomHolds) → Change hs rs (v.rooms ∷ []) (b ∷ []) → (names_it : ℕ → ℕ) → owners_in_rooms z m'.rooms bytes rs names_it + total (each (owning names_it)) (moving_of v.rooms) ≡ owners_in_rooms z m.rooms bytes hs names_it + total (each (owning names_it)) (moving_of b)
  unfolding total
  owned rs b c names_it = let e = store_owners z m.rooms bytes hs rs (v.rooms ∷ []) (b ∷ []) c p x no_cover pins names_it in omega arith

  changed : (moving : List MovingRange) → Change hs (set hs seat (held moving)) (v.rooms ∷ []) (held moving ∷ [])
  changed moving = stepped hs seat v.rooms (held moving) own

  changed_by : (u : PassState) → Change hs (map rooms_held (set s.states seat u)) (v.rooms ∷ []) (u.rooms ∷ [])
  changed_by u = change_parts rooms_held (stepped s.states seat v u here)

  rooms_then : (moving : List MovingRange) → AreTrueRanges bytes moving → RoomsStand z (put_room m.rooms p x) bytes (set hs seat (held moving))
  rooms_then = store_rooms z m.rooms bytes hs r.rooms seat v.rooms own p x may.rooms.1 no_cover

  kept_then : (moving : List MovingRange) → KeptNumbersStand same_room_spot (read_room (put_room m.rooms p x)) (map kept_of_rooms (set hs seat (held moving)))
  kept_then moving = subst (KeptNumbersStand same_room_spot (read_room (put_room m.rooms p x))) (sym (map_set kept_of_rooms hs seat (held moving))) (store_kept z m.rooms bytes hs r.rooms r.kept_in_rooms seat v.rooms own p x may.rooms.1 may.rooms.0 moving)

  pins_known : (u : PassState) (moving : List MovingRange) → u.rooms ≡ held moving → u.headers ≡ v.headers → u.knowledge ≡ v.knowledge → PinsKnow u
  pins_known u moving rooms headers knowledge = pins_same v u (ap (λ (a : HeaderHolds). a.pin) headers) knowledge (r.heard.pins seat v here)

  -- the ranges stay
  still_sums : (F : Cover → ℕ) → all_of z m'.rooms bytes (set hs seat (held v.rooms.moving)) F ≡ all_of z m.rooms bytes hs F
  still_sums F = let e = sums (set hs seat (held v.rooms.moving)) (held v.rooms.moving) (changed v.rooms.moving) F in omega arith

  still_owners : (c b : ℕ) → all_others z m' (set hs seat (held v.rooms.moving)) c b ≡ all_others z m hs c b
  still_owners c b = let e = owned (set hs seat (held v.rooms.moving)) (held v.rooms.moving) (changed v.rooms.moving) (names_block c b) in omega arith

  -- where the ranges stay, the pass has its blocks still
  pub stored_still : Stored v.blocks v.rooms.moving
  stored_still = let unkept = unkept_by_all (in_rooms p) (times_in_rooms p) s.states in record {
    bundles = record { rooms = rooms_then v.rooms.moving carried; covers = partition_same z m.rooms m'.rooms bytes bytes is_key_word hs (set hs seat (held v.rooms.moving)) still_sums r.covers; kept = kept_then v.rooms.moving };
    blocks = owned_alike z m.arena.bits (all_others z m hs) (all_others z m' (set hs seat (held v.rooms.moving))) (map blocks_of s.states) seat v.blocks at_blocks still_owners r.blocks;
    kept = parts_put m s.states seat v here r.kept (in_rooms p) x unkept v.blocks v.headers (still_true m s.states seat v here r.kept (in_rooms p) x unkept) (λ q. let o = r.kept.once q in omega arith);
    keys = λ u rooms headers knowledge numbers. keys_idle z m m' s.states seat v u here (keys_now z s r)
        (λ F. let e = sums (map rooms_held (set s.states seat u)) u.rooms (changed_by u) F in let q = ap (λ (a : RoomHolds). total F (moving_of a)) rooms in omega arith) numbers knowledge refl headers (λ h _. refl) (pins_known u v.rooms.moving rooms headers knowledge);
  }

  -- the headers that passes hold are named by their words
  named : (j : ℕ) (a : HeaderHolds) → get_elem? (map headers_held s.states) j ≡ some a → (t : HeldHeader) → Has t a.held → NamesAt t.header t.generation
  named j a at t has = let u = at_unmap headers_held s.states j a at in
      held_names m (map knowledge_of s.states) (map headers_held s.states) r.headers j a at t has (held_low z s j u.0 r u.1 t (subst (λ (b : HeaderHolds). Has t b.held) (sym u.2) has)) (number_small z s.words r.words.small (in_headers (at_pin t.header)))

  -- an entry of the word that is taken away is dropped
  module _ (word : ℕ) (pos : 0 < word) (some_dropped : 0 < drops word v.rooms.moving) where
    abbrev then : List MovingRange
    then = map (range_without word) v.rooms.moving

    abbrev hs' : List RoomHolds
    hs' = set hs seat (held (map (range_without word) v.rooms.moving))

    step : (F : Cover → ℕ) → all_of z m'.rooms bytes hs' F + total F (moving_of v.rooms) ≡ all_of z m.rooms bytes hs F + total F (moving_of (held then))
    step = sums hs' (held then) (changed then)

    true_then : AreTrueRanges bytes then
    true_then = subst (λ (t : Bool). AreTrueRanges bytes (cond t v.rooms.moving then)) (ne_eqb word 0 (λ e. absurd (omega arith))) (true_dropped bytes word v.rooms.moving carried)

    low : class_in word < 4
    low = let d = dropped_placed z m.rooms m'.rooms bytes is_key_word hs hs' r.covers seat v.rooms (held then) own carried word refl step some_dropped in let l = key_word_few word in key_class word (omega arith)

    fewer : (c b : ℕ) → entry_owners z m'.rooms bytes hs' c b + names_block c b word ≡ entry_owners z m.rooms bytes hs c b
    fewer c b = owners_fewer z m.rooms m'.rooms bytes is_key_word hs hs' r.covers seat v.rooms (held then) own carried word refl step some_dropped pos (names_block c b) (owned hs' (held then) (changed then) (names_block c b))

    -- where an entry is dropped, its block comes back
    pub stored_dropped : Stored (block_back m.arena.bytes word v.blocks) (map (range_without word) v.rooms.moving)
    stored_dropped = record {
      bundles = record { rooms = rooms_then then true_then; covers = dropped_partition z m.rooms m'.rooms bytes is_key_word hs hs' r.covers seat v.rooms (held then) own carried word refl step; kept = kept_then then };
      blocks = back_owned z s seat v r here p x hs' word low fewer;
      kept = back_kept z s seat v r here p x hs' word low fewer;
      keys = λ u rooms headers knowledge numbers. drop_bundles z m (put_room m.rooms p x) is_key_word s.states r.covers (keys_now z s r) named seat v u here headers knowledge numbers (pins_known u then rooms headers knowledge) carried word (ap (λ (a : RoomHolds). a.moving) rooms)
          (sums (map rooms_held (set s.states seat u)) u.rooms (changed_by u)) some_dropped;
    }
