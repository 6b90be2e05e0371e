-- The points on rooms and covers after a room is frozen, opened again, claimed, or held.
use Rattle.std.proofs.Common.{◌≡◌, ℕ, ◌*◌, ◌<◌, List, [], ◌∷◌, map, set, refl, sym, ap, ◌∙◌, inl, inr, arith}
use mathlib.Core.Option.{some}
use lib.ListN.{get_elem?}
use Rattle.pin_word.specs.PinWord.{state_of, generation_of, count_of}
use Rattle.oak_model.specs.Counts.{one_at, Each}
use Rattle.oak_model.specs.Limits.{Sizes}
use Rattle.oak_model.proofs.Changes.{stepped}
use Rattle.oak_model.proofs.Lists.{map_set_same, rows_length}
use Rattle.oak_model.proofs.PutLaws.{put-else, put-here, put-same}
use Rattle.chunk_core.specs.declared.layout.TheConstants.{BOUND_WORDS}
use Rattle.chunk_core.specs.declared.states.TheConstants.{FREE, OPEN, FROZEN, HELD}
use Rattle.chunk_core.specs.declared.holds.Carried.{Carried}
use Rattle.chunk_core.specs.declared.holds.HeldRoom.{HeldRoom}
use Rattle.chunk_core.specs.declared.holds.RoomHeldAs.TheVariants.{Frozen, Held}
use Rattle.chunk_core.specs.declared.holds.RoomHolds.{RoomHolds}
use Rattle.chunk_core.specs.CoverRule.{CoversPartition}
use Rattle.chunk_core.specs.CoverSums.{covers, each, all_of, owning, owners_in_rooms, weight}
use Rattle.chunk_core.specs.Covers.{Cover, cover_at, cover_from, moving_of, used_at}
use Rattle.chunk_core.specs.LinkedEntries.{linked}
use Rattle.chunk_core.specs.MayOnRooms.{MayRoom}
use Rattle.chunk_core.specs.RoomCopies.{without_room}
use Rattle.chunk_core.specs.RoomReads.{words_at, copy_at, carried_at, moving_at}
use Rattle.chunk_core.specs.RoomRule.{in_room_state, IsWholeHeld, IsWholeCopy, RoomsStand}
use Rattle.chunk_core.specs.RoomStep.{put_room, thaw_room}
use Rattle.chunk_core.specs.Rooms.{RoomMemory, at_room_pin}
use Rattle.chunk_core.proofs.CoverFrames.{partition_same}
use Rattle.chunk_core.proofs.CoverLaws.{all_still, covers_same}
use Rattle.chunk_core.proofs.HeldRooms.{row_here, row_else, without_here, without_else, each_without}
use Rattle.chunk_core.proofs.RangeMoves.{hold_still}
use Rattle.chunk_core.proofs.RoomStates.{restated}
use Rattle.chunk_core.proofs.Weights.{weight_open, weight_frozen, weight_held, weight_free, open_none, free_none, is_so, rows_are}
use Rattle.chunk_core.proofs.Claims.{unclaimed_free}
use Rattle.chunk_core.proofs.RoomOwners.{owners_held}
use Rattle.chunk_core.proofs.UsedEntries.{used_owners}

-- the copy of a room is whole
pub whole_copy : (z : Sizes) (m : RoomMemory) (r : ℕ) → IsWholeCopy z (copy_at z m r)
whole_copy z m r = record { low = rows_length 0 BOUND_WORDS (m.low r); high = rows_length 0 BOUND_WORDS (m.high r); entries = rows_length 0 z.entries (words_at m r) }

-- a room of the same weight, and the same moving ranges: nothing changes that is added up over the covers
pub weight_covers : (z : Sizes) (m : RoomMemory) (content : ℕ → List ℕ) (hs : List RoomHolds) (seat : ℕ) (a b : RoomHolds) → get_elem? hs seat ≡ some a → b.moving ≡ a.moving → (r x : ℕ) → weight x ≡ weight (m.pin r)
    → (F : Cover → ℕ) → all_of z (put_room m (at_room_pin r) x) content (set hs seat b) F ≡ all_of z m content hs F
weight_covers z m content hs seat a b here moving r x same F = all_still z m (put_room m (at_room_pin r) x) content content hs seat a b here moving F (λ j _. ap (λ (t : ℕ). t * F (cover_at m content j)) (put-same m.pin r x weight same j))

-- nor does a block get another owner, or lose one
pub weight_owners : (z : Sizes) (m : RoomMemory) (content : ℕ → List ℕ) (hs : List RoomHolds) (seat : ℕ) (a b : RoomHolds) → get_elem? hs seat ≡ some a → b.moving ≡ a.moving → (r x : ℕ) → weight x ≡ weight (m.pin r)
    → (names_it : ℕ → ℕ) → owners_in_rooms z (put_room m (at_room_pin r) x) content (set hs seat b) names_it ≡ owners_in_rooms z m content hs names_it
weight_owners z m content hs seat a b here moving r x same names_it =
    covers_same z.chunks m.pin (put_room m (at_room_pin r) x).pin (used_at m content) (used_at (put_room m (at_room_pin r) x) content) (map moving_of (set hs seat b)) (each (owning names_it)) (λ j _. ap (λ (t : ℕ). t * each (owning names_it) (used_at m content j)) (put-same m.pin r x weight same j))
    ∙ ap (λ (ms : List (List Cover)). covers z.chunks m.pin (used_at m content) ms (each (owning names_it))) (map_set_same moving_of hs seat a b here (ap (map cover_from) moving))

module _ (z : Sizes) (m : RoomMemory) (content : ℕ → List ℕ) (is_key_word : ℕ → ℕ) (hs : List RoomHolds) (rule : RoomsStand z m content hs) (parts : CoversPartition z m content is_key_word hs) (seat : ℕ) (a : RoomHolds) (here : get_elem? hs seat ≡ some a)
    (r x : ℕ) (generation : generation_of x ≡ generation_of (m.pin r)) where
  -- an open room becomes frozen
  module _ (was : state_of (m.pin r) ≡ OPEN) (now : state_of x ≡ FROZEN) (count : count_of x ≡ count_of (m.pin r)) where
    pub freeze_rooms : RoomsStand z (put_room m (at_room_pin r) x) content (set hs seat (record a { held = record { room = r; held_as = Frozen } ∷ a.held }))
    freeze_rooms = restated z m content hs rule seat a here r x count generation (omega arith) (record { room = r; held_as = Frozen } ∷ a.held) a.moving
        (λ s is. let h = row_here r r s (record { room = r; held_as = Frozen }) a.held refl refl in let o = open_none (m.pin r) s was is in let n = ap (λ (t : ℕ). one_at t s) now in omega arith)
        (λ j s ne. row_else r j s (record { room = r; held_as = Frozen }) a.held refl ne)
        (λ _. rule.ordered r (weight_open (m.pin r) was)) (λ i _. rule.either r i (weight_open (m.pin r) was)) (λ i _. rule.keyed r i (weight_open (m.pin r) was)) (λ _. inl (weight_frozen x now)) (rule.carried seat a here) (tt, (rule.passes seat a here).whole)

    pub freeze_covers : (F : Cover → ℕ) → all_of z (put_room m (at_room_pin r) x) content (set hs seat (record a { held = record { room = r; held_as = Frozen } ∷ a.held })) F ≡ all_of z m content hs F
    freeze_covers = weight_covers z m content hs seat a (record a { held = record { room = r; held_as = Frozen } ∷ a.held }) here refl r x (weight_frozen x now ∙ sym (weight_open (m.pin r) was))

    pub freeze_owners : (names_it : ℕ → ℕ) → owners_in_rooms z (put_room m (at_room_pin r) x) content (set hs seat (record a { held = record { room = r; held_as = Frozen } ∷ a.held })) names_it ≡ owners_in_rooms z m content hs names_it
    freeze_owners = weight_owners z m content hs seat a (record a { held = record { room = r; held_as = Frozen } ∷ a.held }) here refl r x (weight_frozen x now ∙ sym (weight_open (m.pin r) was))

    pub freeze_partition : CoversPartition z (put_room m (at_room_pin r) x) content is_key_word (set hs seat (record a { held = record { room = r; held_as = Frozen } ∷ a.held }))
    freeze_partition = partition_same z m (put_room m (at_room_pin r) x) content content is_key_word hs (set hs seat (record a { held = record { room = r; held_as = Frozen } ∷ a.held })) freeze_covers parts

  -- a room that the pass has frozen becomes open again
  module _ (may : MayRoom z (thaw_room r) a) (now : state_of x ≡ OPEN) (count : count_of x ≡ count_of (m.pin r)) where
    is_mine : 0 < in_room_state r FROZEN a
    is_mine = omega arith

    is_frozen : state_of (m.pin r) ≡ FROZEN
    is_frozen = is_so z m content hs rule seat a here r FROZEN (inl refl) is_mine

    pub thaw_rooms : RoomsStand z (put_room m (at_room_pin r) x) content (set hs seat (record a { held = without_room r a.held }))
    thaw_rooms = restated z m content hs rule seat a here r x count generation (omega arith) (without_room r a.held) a.moving
        (λ s is. let w = without_here r s a.held in let o = rows_are z m content hs rule seat a here r FROZEN (inl refl) is_mine s is in let n = open_none x s now is in omega arith)
        (λ j s ne. without_else r j s a.held ne)
        (λ _. rule.ordered r (weight_frozen (m.pin r) is_frozen)) (λ i _. rule.either r i (weight_frozen (m.pin r) is_frozen)) (λ i _. rule.keyed r i (weight_frozen (m.pin r) is_frozen)) (λ _. inl (weight_open x now)) (rule.carried seat a here)
        (each_without (λ (h : HeldRoom). IsWholeHeld z h.held_as) r a.held (rule.passes seat a here).whole)

    pub thaw_covers : (F : Cover → ℕ) → all_of z (put_room m (at_room_pin r) x) content (set hs seat (record a { held = without_room r a.held })) F ≡ all_of z m content hs F
    thaw_covers = weight_covers z m content hs seat a (record a { held = without_room r a.held }) here refl r x (weight_open x now ∙ sym (weight_frozen (m.pin r) is_frozen))

    pub thaw_owners : (names_it : ℕ → ℕ) → owners_in_rooms z (put_room m (at_room_pin r) x) content (set hs seat (record a { held = without_room r a.held })) names_it ≡ owners_in_rooms z m content hs names_it
    thaw_owners = weight_owners z m content hs seat a (record a { held = without_room r a.held }) here refl r x (weight_open x now ∙ sym (weight_frozen (m.pin r) is_frozen))

    pub thaw_partition : CoversPartition z (put_room m (at_room_pin r) x) content is_key_word (set hs seat (record a { held = without_room r a.held }))
    thaw_partition = partition_same z m (put_room m (at_room_pin r) x) content content is_key_word hs (set hs seat (record a { held = without_room r a.held })) thaw_covers parts

  -- a free room becomes held
  module _ (was : state_of (m.pin r) ≡ FREE) (now : state_of x ≡ HELD) (count : count_of x ≡ count_of (m.pin r)) where
    pub claim_rooms : RoomsStand z (put_room m (at_room_pin r) x) content (set hs seat (record a { held = record { room = r; held_as = Held (copy_at z m r) } ∷ a.held }))
    claim_rooms = restated z m content hs rule seat a here r x count generation (omega arith) (record { room = r; held_as = Held (copy_at z m r) } ∷ a.held) a.moving
        (λ s is. let h = row_here r r s (record { room = r; held_as = Held (copy_at z m r) }) a.held refl refl in let o = free_none (m.pin r) s was is in let n = ap (λ (t : ℕ). one_at t s) now in omega arith)
        (λ j s ne. row_else r j s (record { room = r; held_as = Held (copy_at z m r) }) a.held refl ne)
        (λ w. absurd (let n = weight_held x now in omega arith)) (λ i w. absurd (let n = weight_held x now in omega arith)) (λ i w. absurd (let n = weight_held x now in omega arith)) (λ w. absurd (let n = weight_free (m.pin r) was in omega arith)) (rule.carried seat a here) (whole_copy z m r, (rule.passes seat a here).whole)

    pub claim_covers : (F : Cover → ℕ) → all_of z (put_room m (at_room_pin r) x) content (set hs seat (record a { held = record { room = r; held_as = Held (copy_at z m r) } ∷ a.held })) F ≡ all_of z m content hs F
    claim_covers = weight_covers z m content hs seat a (record a { held = record { room = r; held_as = Held (copy_at z m r) } ∷ a.held }) here refl r x (weight_held x now ∙ sym (weight_free (m.pin r) was))

    pub claim_owners : (names_it : ℕ → ℕ) → owners_in_rooms z (put_room m (at_room_pin r) x) content (set hs seat (record a { held = record { room = r; held_as = Held (copy_at z m r) } ∷ a.held })) names_it ≡ owners_in_rooms z m content hs names_it
    claim_owners = weight_owners z m content hs seat a (record a { held = record { room = r; held_as = Held (copy_at z m r) } ∷ a.held }) here refl r x (weight_held x now ∙ sym (weight_free (m.pin r) was))

    pub claim_partition : CoversPartition z (put_room m (at_room_pin r) x) content is_key_word (set hs seat (record a { held = record { room = r; held_as = Held (copy_at z m r) } ∷ a.held }))
    claim_partition = partition_same z m (put_room m (at_room_pin r) x) content content is_key_word hs (set hs seat (record a { held = record { room = r; held_as = Held (copy_at z m r) } ∷ a.held })) claim_covers parts

  -- a frozen room without a pin becomes held, and its range moves with the pass
  module _ (inside : r < z.chunks) (mine : in_room_state r FROZEN a ≡ 1) (now : state_of x ≡ HELD) (unpinned : count_of (m.pin r) ≡ 0) (count : count_of x ≡ 0) where
    was : state_of (m.pin r) ≡ FROZEN
    was = is_so z m content hs rule seat a here r FROZEN (inl refl) (omega arith)

    true_all : (xs : List ℕ) → Each (λ (c : Carried). content c.word ≡ c.words) (map (carried_at m content r) xs)
    true_all [] = tt
    true_all (i ∷ is) = (refl, true_all is)

    pub hold_rooms : RoomsStand z (put_room m (at_room_pin r) x) content (set hs seat (record a { held = record { room = r; held_as = Held (copy_at z m r) } ∷ without_room r a.held; moving = moving_at m content r ∷ a.moving }))
    hold_rooms = restated z m content hs rule seat a here r x (count ∙ sym unpinned) generation (omega arith) (record { room = r; held_as = Held (copy_at z m r) } ∷ without_room r a.held) (moving_at m content r ∷ a.moving)
        (λ s is. let h = row_here r r s (record { room = r; held_as = Held (copy_at z m r) }) (without_room r a.held) refl refl in let w = without_here r s a.held in let o = rows_are z m content hs rule seat a here r FROZEN (inl refl) (omega arith) s is in let n = ap (λ (t : ℕ). one_at t s) now in omega arith)
        (λ j s ne. row_else r j s (record { room = r; held_as = Held (copy_at z m r) }) (without_room r a.held) refl ne ∙ without_else r j s a.held ne)
        (λ w. absurd (let n = weight_held x now in omega arith)) (λ i w. absurd (let n = weight_held x now in omega arith)) (λ i w. absurd (let n = weight_held x now in omega arith)) (λ _. inr unpinned) (true_all (linked m r), rule.carried seat a here)
        (whole_copy z m r, each_without (λ (h : HeldRoom). IsWholeHeld z h.held_as) r a.held (rule.passes seat a here).whole)

    pub hold_covers : (F : Cover → ℕ) → all_of z (put_room m (at_room_pin r) x) content (set hs seat (record a { held = record { room = r; held_as = Held (copy_at z m r) } ∷ without_room r a.held; moving = moving_at m content r ∷ a.moving })) F ≡ all_of z m content hs F
    hold_covers F = let b : RoomHolds = record a { held = record { room = r; held_as = Held (copy_at z m r) } ∷ without_room r a.held; moving = moving_at m content r ∷ a.moving } in
        hold_still z m (put_room m (at_room_pin r) x) content hs (set hs seat b) a b (stepped hs seat a b here) r inside (λ j ne. put-else m.pin r x j ne) (λ j _. refl) (weight_frozen (m.pin r) was) (ap weight (put-here m.pin r x r refl) ∙ weight_held x now) refl F

    pub hold_owners : (names_it : ℕ → ℕ) → owners_in_rooms z (put_room m (at_room_pin r) x) content (set hs seat (record a { held = record { room = r; held_as = Held (copy_at z m r) } ∷ without_room r a.held; moving = moving_at m content r ∷ a.moving })) names_it ≡ owners_in_rooms z m content hs names_it
    hold_owners names_it = let b : RoomHolds = record a { held = record { room = r; held_as = Held (copy_at z m r) } ∷ without_room r a.held; moving = moving_at m content r ∷ a.moving } in
        owners_held z m (put_room m (at_room_pin r) x) content hs (set hs seat b) a b (stepped hs seat a b here) r inside (λ j ne. put-else m.pin r x j ne) (λ j _. refl) (weight_frozen (m.pin r) was) (ap weight (put-here m.pin r x r refl) ∙ weight_held x now) refl names_it (used_owners z m content hs rule r (weight_frozen (m.pin r) was) (λ i. unclaimed_free z m content hs rule r i unpinned) names_it)

    pub hold_partition : CoversPartition z (put_room m (at_room_pin r) x) content is_key_word (set hs seat (record a { held = record { room = r; held_as = Held (copy_at z m r) } ∷ without_room r a.held; moving = moving_at m content r ∷ a.moving }))
    hold_partition = partition_same z m (put_room m (at_room_pin r) x) content content is_key_word hs (set hs seat (record a { held = record { room = r; held_as = Held (copy_at z m r) } ∷ without_room r a.held; moving = moving_at m content r ∷ a.moving })) hold_covers parts
