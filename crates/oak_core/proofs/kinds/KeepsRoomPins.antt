-- A step on a word of a room that leaves all but the rooms keeps the rule, and so do a pin of a room, and its end.
use Rattle.std.proofs.Common.{◌≡◌, ℕ, ◌+◌, ◌-◌, ◌%◌, ◌^◌, ◌<◌, false, List, map, set, get_or, sym, refl, ap, ◌∙◌, subst, arith, Option, Some, None}
use mathlib.Core.Option.{some}
use lib.ListN.{get_elem?}
use Rattle.pin_word.specs.PinWord.{state_of, count_of}
use Rattle.pin_word.proofs.StepLaws.{pin_up, pin_down}
use Rattle.oak_model.specs.Counts.{one_at, total}
use Rattle.oak_model.specs.Limits.{Sizes}
use Rattle.oak_model.specs.Kept.{KeptNumbersStand, KeptWord, keeps}
use Rattle.oak_model.proofs.Counting.{total_at, total_map, total_zero}
use Rattle.oak_model.proofs.KeptLaws.{kept_unkept}
use Rattle.oak_model.proofs.Lists.{at_map, map_set, map_set_same}
use Rattle.arena_core.specs.declared.blocks.HeldBlocks.{HeldBlocks}
use Rattle.header_core.specs.declared.holds.HeaderHolds.{HeaderHolds}
use Rattle.arena_core.specs.Blocks.{BlocksAreOwned}
use Rattle.arena_core.specs.Place.{names_block, content}
use Rattle.chunk_core.specs.declared.states.TheConstants.{OPEN, FROZEN}
use Rattle.chunk_core.specs.declared.holds.PinnedRoom.{PinnedRoom}
use Rattle.chunk_core.specs.declared.holds.RoomHolds.{RoomHolds}
use Rattle.chunk_core.specs.CoverSums.{weight, all_of}
use Rattle.chunk_core.specs.KeptRooms.{kept_of_rooms}
use Rattle.chunk_core.specs.RoomReads.{pinned_at}
use Rattle.chunk_core.specs.RoomRule.{room_pins, RoomsStand}
use Rattle.chunk_core.specs.RoomStep.{RoomStep, pin_room, unpin_room, put_room, room_spot, room_effect, room_found}
use Rattle.chunk_core.specs.Rooms.{RoomSpot, IsInRooms, at_room_pin, read_room, same_room_spot}
use Rattle.chunk_core.proofs.CoverFrames.{partition_same}
use Rattle.chunk_core.proofs.RoomKinds.{weight_covers, weight_owners}
use Rattle.chunk_core.proofs.RoomPins.{pin_stands, unpin_stands}
use Rattle.chunk_core.proofs.RoomWords.{read_room-of}
use Rattle.chunk_core.proofs.UnkeptRooms.{pin_unkept}
use Rattle.oak_core.specs.declared.states.PassState.{PassState}
use Rattle.oak_core.specs.EntryOwners.{all_others, is_key_word}
use Rattle.oak_core.specs.Finding.{finding}
use Rattle.oak_core.specs.Memory.{Memory, in_rooms, same_spot, read, write, memory, index}
use Rattle.oak_core.specs.PassState.{blocks_of, headers_held, rooms_held, knowledge_of, kept_of}
use Rattle.oak_core.specs.Known.{known}
use Rattle.oak_core.specs.Owners.{HeadersAreHeld}
use Rattle.oak_core.specs.Rule.{ClaimHasKey, HoldsKnown, Rule}
use Rattle.oak_core.specs.Step.{on_rooms, MayOnRoom, state_after, table_after}
use Rattle.oak_core.specs.TableState.{TableState}
use Rattle.oak_core.proofs.held.FewPins.{few_room_pins}
use Rattle.oak_core.proofs.calls.Growing.{swept_grows}
use Rattle.oak_core.proofs.held.HeaderStanding.{number_small}
use Rattle.oak_core.proofs.kinds.Keeps.{elsewhere_rule}
use Rattle.oak_core.proofs.owners.KeptWords.{times_in_rooms, unkept_by_all, kept_with}
use Rattle.oak_core.proofs.covers.RoomBundles.{RoomBundles}
use Rattle.oak_core.proofs.memory.Words.{memory_read, read-write}
use Rattle.oak_core.proofs.keyed.KeyBundles.{keys_now, keys_idle}
use Rattle.oak_core.specs.Lessons.{PinsKnow}
use Rattle.chunk_core.specs.Covers.{Cover}
use Rattle.oak_core.specs.declared.states.Knowledge.{Knowledge}

module _ (z : Sizes) (s : TableState) (seat : ℕ) (v : PassState) (r : Rule z s) (here : get_elem? s.states seat ≡ some v) where
  abbrev m : Memory
  m = memory z s.words

  abbrev hs : List RoomHolds
  hs = map rooms_held s.states

  pub at_rooms : get_elem? hs seat ≡ some v.rooms
  at_rooms = at_map rooms_held s.states seat v here

  small_pin : (k : ℕ) → m.rooms.pin k < 2 ^ 64
  small_pin k = number_small z s.words r.words.small (in_rooms (at_room_pin k))

  -- the pin word of a room becomes x, in the same state, and the pin of the pass is o
  module _ (k x : ℕ) (o : Option PinnedRoom) (same : state_of x ≡ state_of (m.rooms.pin k)) (stands : RoomsStand z (put_room m.rooms (at_room_pin k) x) (content m.arena.bytes) (set hs seat (record v.rooms { pin = o }))) where
    abbrev m' : Memory
    m' = write m (in_rooms (at_room_pin k)) x

    abbrev hs' : List RoomHolds
    hs' = set hs seat (record v.rooms { pin = o })

    same_weight : weight x ≡ weight (m.rooms.pin k)
    same_weight = ap (λ (t : ℕ). one_at t OPEN + one_at t FROZEN) same

    none_keeps : total (keeps same_room_spot (at_room_pin k)) (map kept_of_rooms hs) ≡ 0
    none_keeps = total_map kept_of_rooms (keeps same_room_spot (at_room_pin k)) hs ∙ total_zero (λ (a : RoomHolds). keeps same_room_spot (at_room_pin k) (kept_of_rooms a)) hs (λ j a _. pin_unkept k a)

    pub pin_covers : (F : Cover → ℕ) → all_of z m'.rooms (content m.arena.bytes) hs' F ≡ all_of z m.rooms (content m.arena.bytes) hs F
    pin_covers = weight_covers z m.rooms (content m.arena.bytes) hs seat v.rooms (record v.rooms { pin = o }) at_rooms refl k x same_weight

    pub pin_bundles : RoomBundles z m'.rooms m'.arena.bytes hs'
    pin_bundles = record {
      rooms = stands;
      covers = partition_same z m.rooms m'.rooms (content m.arena.bytes) (content m.arena.bytes) is_key_word hs hs' pin_covers r.covers;
      kept = subst (λ (ks : List (List (KeptWord RoomSpot))). KeptNumbersStand same_room_spot (read_room m'.rooms) ks) (sym (map_set_same kept_of_rooms hs seat v.rooms (record v.rooms { pin = o }) at_rooms refl))
          (kept_unkept same_room_spot (read_room m.rooms) (read_room m'.rooms) (at_room_pin k) x (read_room-of _) (map kept_of_rooms hs) none_keeps r.kept_in_rooms);
    }

    pub pin_blocks : BlocksAreOwned z m'.arena.bits (all_others z m' hs') (map blocks_of s.states)
    pin_blocks = record {
      owned = λ c b. let e = owners c b in let w = r.blocks.owned c b in omega arith;
      inside = λ c b le. let e = owners c b in let w = r.blocks.inside c b le in omega arith;
      whole = r.blocks.whole;
    }
      where
        owners : (c b : ℕ) → all_others z m' hs' c b ≡ all_others z m hs c b
        owners c b = let e = weight_owners z m.rooms (content m.arena.bytes) hs seat v.rooms (record v.rooms { pin = o }) at_rooms refl k x same_weight (names_block c b) in omega arith

  module _ (call : ℕ) (going : v.numbers.spent ≡ false) where
    -- a step that leaves all but the rooms, teaches nothing, and leaves whatever is added up over covers
    pub step_rule : (x : RoomStep) → IsInRooms z (room_spot x) → let n = get_or s.words (index z (in_rooms (room_spot x))) 0 in let w = state_after z call (on_rooms x) s v in let m' = write m (in_rooms (room_spot x)) (room_effect x n) in
        w.blocks ≡ v.blocks → w.knowledge ≡ v.knowledge → w.headers ≡ v.headers → room_effect x n < 2 ^ 64 → RoomBundles z m'.rooms m.arena.bytes (set hs seat w.rooms) → BlocksAreOwned z m.arena.bits (all_others z m' (set hs seat w.rooms)) (map blocks_of s.states)
        → ((F : Cover → ℕ) → all_of z m'.rooms (content m.arena.bytes) (set hs seat w.rooms) F ≡ all_of z m.rooms (content m.arena.bytes) hs F) → PinsKnow w → ClaimHasKey w.rooms.claim → Rule z (table_after z call (on_rooms x) seat v s)
    step_rule x inside same knowledge headers small bundles blocks stay pins claim = let n : ℕ = get_or s.words (index z (in_rooms (room_spot x))) 0 in let w : PassState = state_after z call (on_rooms x) s v in let y : ℕ = room_effect x n in let m' : Memory = write m (in_rooms (room_spot x)) y in
        elsewhere_rule z s call seat v r here going (on_rooms x) (finding z call (in_rooms (room_spot x)) (room_found x n) y s.words v) inside small refl refl (record { met = refl; swept = swept_grows x v; fulls = refl }) refl knowledge
        (subst (λ (bs : List HeldBlocks). BlocksAreOwned z m.arena.bits (all_others z m' (map rooms_held (set s.states seat w))) bs) (sym (map_set_same blocks_of s.states seat v w here same))
        (subst (λ (rs : List RoomHolds). BlocksAreOwned z m.arena.bits (all_others z m' rs) (map blocks_of s.states)) (sym (map_set rooms_held s.states seat w)) blocks))
        (subst (λ (hh : List HeaderHolds). HeadersAreHeld m.headers m.arena.bytes (known (map knowledge_of s.states)) hh) (sym (map_set_same headers_held s.states seat v w here headers)) r.headers)
        (subst (RoomBundles z m'.rooms m.arena.bytes) (sym (map_set rooms_held s.states seat w)) bundles)
        (keys_idle z m m' s.states seat v w here (keys_now z s r) (λ F. ap (λ (rs : List RoomHolds). all_of z m'.rooms (content m.arena.bytes) rs F) (map_set rooms_held s.states seat w) ∙ stay F) refl knowledge refl headers (λ h _. refl) pins)
        (subst (KeptNumbersStand same_spot (read m')) (sym (map_set_same kept_of s.states seat v w here (λ i. kept_with (same i) (headers i))))
        (kept_unkept same_spot (read m) (read m') (in_rooms (room_spot x)) y (λ q. read-write m (in_rooms (room_spot x)) q y) (map kept_of s.states) (unkept_by_all (in_rooms (room_spot x)) (times_in_rooms (room_spot x)) s.states) r.kept))
        (subst (λ (p : Knowledge × HeaderHolds). HoldsKnown p.0 p.1 w.rooms.claim) (λ i. (sym knowledge i, sym headers i)) (record { pin = (r.passes seat v here).pin; whole = (r.passes seat v here).whole; claim = claim }))

    pub pin_keeps : (k : ℕ) → MayOnRoom z (pin_room k) v → Rule z (table_after z call (on_rooms (pin_room k)) seat v s)
    pin_keeps k may = let p = small_pin k in let f : count_of (m.rooms.pin k) + 1 < 2 ^ 28 = let t = few_room_pins z s r k in let c = r.rooms.counted k in omega arith in let u = pin_up (m.rooms.pin k) f p in
        let read_is : m.rooms.pin k ≡ get_or s.words (index z (in_rooms (at_room_pin k))) 0 = memory_read z s.words (in_rooms (at_room_pin k)) may.inside in
        let o : Option PinnedRoom = Some (pinned_at m.rooms k) in let stands = pin_stands z m.rooms (content m.arena.bytes) hs r.rooms seat v.rooms at_rooms k may.inside.0 may.rooms f p in
        step_rule (pin_room k) may.inside refl refl refl (omega arith)
        (subst (λ (i : ℕ). RoomBundles z (write m (in_rooms (at_room_pin k)) ((i + 1) % 2 ^ 64)).rooms m.arena.bytes (set hs seat (record v.rooms { pin = o }))) read_is (pin_bundles k ((m.rooms.pin k + 1) % 2 ^ 64) o u.1 stands))
        (subst (λ (i : ℕ). BlocksAreOwned z m.arena.bits (all_others z (write m (in_rooms (at_room_pin k)) ((i + 1) % 2 ^ 64)) (set hs seat (record v.rooms { pin = o }))) (map blocks_of s.states)) read_is (pin_blocks k ((m.rooms.pin k + 1) % 2 ^ 64) o u.1 stands))
        (λ F. subst (λ (i : ℕ). all_of z (write m (in_rooms (at_room_pin k)) ((i + 1) % 2 ^ 64)).rooms (content m.arena.bytes) (set hs seat (record v.rooms { pin = o })) F ≡ all_of z m.rooms (content m.arena.bytes) hs F) read_is (pin_covers k ((m.rooms.pin k + 1) % 2 ^ 64) o u.1 stands F))
        (record { removed = (r.heard.pins seat v here).removed }) (r.passes seat v here).claim

    pub unpin_keeps : (k : ℕ) → MayOnRoom z (unpin_room k) v → Rule z (table_after z call (on_rooms (unpin_room k)) seat v s)
    unpin_keeps k may = let p = small_pin k in let some : 0 < count_of (m.rooms.pin k) = let t = total_at (room_pins k) hs seat v.rooms at_rooms in let c = r.rooms.counted k in let one = may.rooms.0 in omega arith in let d = pin_down (m.rooms.pin k) some p in
        let read_is : m.rooms.pin k ≡ get_or s.words (index z (in_rooms (at_room_pin k))) 0 = memory_read z s.words (in_rooms (at_room_pin k)) may.inside in
        let stands = unpin_stands z m.rooms (content m.arena.bytes) hs r.rooms seat v.rooms at_rooms k may.rooms.0 may.rooms.1 p in
        step_rule (unpin_room k) may.inside refl refl refl (omega arith)
        (subst (λ (i : ℕ). RoomBundles z (write m (in_rooms (at_room_pin k)) ((i + (2 ^ 64 - 1)) % 2 ^ 64)).rooms m.arena.bytes (set hs seat (record v.rooms { pin = None }))) read_is (pin_bundles k ((m.rooms.pin k + (2 ^ 64 - 1)) % 2 ^ 64) None d.1 stands))
        (subst (λ (i : ℕ). BlocksAreOwned z m.arena.bits (all_others z (write m (in_rooms (at_room_pin k)) ((i + (2 ^ 64 - 1)) % 2 ^ 64)) (set hs seat (record v.rooms { pin = None }))) (map blocks_of s.states)) read_is (pin_blocks k ((m.rooms.pin k + (2 ^ 64 - 1)) % 2 ^ 64) None d.1 stands))
        (λ F. subst (λ (i : ℕ). all_of z (write m (in_rooms (at_room_pin k)) ((i + (2 ^ 64 - 1)) % 2 ^ 64)).rooms (content m.arena.bytes) (set hs seat (record v.rooms { pin = None })) F ≡ all_of z m.rooms (content m.arena.bytes) hs F) read_is (pin_covers k ((m.rooms.pin k + (2 ^ 64 - 1)) % 2 ^ 64) None d.1 stands F))
        (record { removed = (r.heard.pins seat v here).removed }) (r.passes seat v here).claim
