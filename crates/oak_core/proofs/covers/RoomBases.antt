-- No base falls by a step on a word of a room.
use Rattle.std.proofs.Common.{◌≡◌, ℕ, ◌+◌, ◌-◌, ◌*◌, ◌%◌, ◌^◌, ◌<◌, ◌≤◌, ◌==◌, cond, false, List, [], ◌∷◌, map, set, refl, sym, ap, ◌∙◌, subst, inl, inr, arith, Option, Some, None}
use prog.Atomic.{either}
use mathlib.Core.Option.{some}
use lib.ListN.{get_elem?}
use Rattle.pin_word.specs.PinWord.{STATE, state_of, generation_of, count_of}
use Rattle.pin_word.proofs.StepLaws.{pin_up, pin_down, state_back, state_set}
use Rattle.oak_model.specs.Counts.{one_at, total}
use Rattle.oak_model.specs.Limits.{Sizes}
use Rattle.oak_model.proofs.Changes.{stepped}
use Rattle.oak_model.proofs.Counting.{decided, test-cases, total_at}
use Rattle.oak_model.proofs.Lists.{at_map}
use Rattle.arena_core.specs.Place.{content}
use Rattle.chunk_core.specs.declared.holds.RoomHeldAs.TheVariants.{Frozen, Held}
use Rattle.chunk_core.specs.declared.holds.RoomHolds.{RoomHolds}
use Rattle.chunk_core.specs.declared.states.TheConstants.{OPEN, FROZEN, HELD}
use Rattle.chunk_core.specs.Covers.{Cover, cover_at, cover_from}
use Rattle.chunk_core.specs.CoverSums.{all_of, base_for, base_of, weight}
use Rattle.chunk_core.specs.MovingRanges.{range_without, ranges_with, word_dropped}
use Rattle.chunk_core.specs.RoomCopies.{without_room}
use Rattle.chunk_core.specs.RoomReads.{copy_at, moving_at}
use Rattle.chunk_core.specs.RoomRule.{room_pins}
use Rattle.chunk_core.specs.RoomsAfter.{rooms_after}
use Rattle.chunk_core.specs.RoomStep.{EntryField, of_key, of_value, of_next, entry_spot, RoomStep, pin_room, unpin_room, claim_entry, own_entry, link_entry, set_value, unlink_entry, freeze_room, thaw_room, hold_room, claim_room, store_room, open_room, retire_room, put_room, room_effect, room_spot}
use Rattle.chunk_core.specs.LinkWords.{link_spot, link_word}
use Rattle.chunk_core.specs.Rooms.{RoomMemory, RoomSpot, at_room_pin, at_count, at_first, at_key, at_value, at_next, read_room, room_at}
use Rattle.chunk_core.proofs.CoverLaws.{all_still}
use Rattle.chunk_core.proofs.DroppedEntries.{ranges_base}
use Rattle.chunk_core.proofs.Ranges.{base_more}
use Rattle.chunk_core.proofs.RoomKinds.{hold_covers, thaw_covers, weight_covers}
use Rattle.chunk_core.proofs.RoomStores.{store_step}
use Rattle.chunk_core.proofs.StoredRooms.{pin_still}
use Rattle.chunk_core.proofs.Weights.{is_so, weight_free, weight_frozen, weight_held, weight_open}
use Rattle.oak_core.specs.declared.states.PassState.{PassState}
use Rattle.oak_core.specs.EntryOwners.{is_key_word}
use Rattle.oak_core.specs.Memory.{in_rooms, memory}
use Rattle.oak_core.specs.PassState.{rooms_held}
use Rattle.oak_core.specs.Rule.{Rule}
use Rattle.oak_core.specs.Step.{MayOnRoom, MayOnRooms}
use Rattle.oak_core.specs.TableState.{TableState}
use Rattle.oak_core.proofs.held.FewPins.{few_room_pins}
use Rattle.oak_core.proofs.held.HeaderStanding.{number_small}
use Rattle.oak_core.proofs.kinds.KeepsFreezes.{claimed}
use Rattle.oak_core.proofs.kinds.KeepsOpens.{cuts as opens, gives_up}
use Rattle.oak_core.proofs.kinds.KeepsRetires.{cuts as retires}

module _ (z : Sizes) (s : TableState) (seat : ℕ) (v : PassState) (r : Rule z s) (here : get_elem? s.states seat ≡ some v) where
  abbrev m : RoomMemory
  m = (memory z s.words).rooms

  abbrev bytes : ℕ → List ℕ
  bytes = content (memory z s.words).arena.bytes

  abbrev hs : List RoomHolds
  hs = map rooms_held s.states

  own : get_elem? hs seat ≡ some v.rooms
  own = at_map rooms_held s.states seat v here

  small_pin : (j : ℕ) → m.pin j < 2 ^ 64
  small_pin j = number_small z s.words r.words.small (in_rooms (at_room_pin j))

  -- no base is lower where the rooms have these words, and the pass has this of rooms
  abbrev pub Rises : RoomMemory → RoomHolds → Type 0
  Rises m' a = (k : ℕ) → base_of z (memory z s.words).rooms (content (memory z s.words).arena.bytes) (map rooms_held s.states) k ≤ base_of z m' (content (memory z s.words).arena.bytes) (set (map rooms_held s.states) seat a) k

  level : (m' : RoomMemory) (a : RoomHolds) → ((F : Cover → ℕ) → all_of z m' bytes (set hs seat a) F ≡ all_of z m bytes hs F) → Rises m' a
  level m' a same k = let e = same (base_for k) in omega arith

  -- the ranges and bases of the rooms stay, and which of them are covers
  quiet : (p : RoomSpot) (x : ℕ) (a : RoomHolds) → a.moving ≡ v.rooms.moving → ((k j : ℕ) → weight ((put_room m p x).pin j) * base_for k (cover_at (put_room m p x) bytes j) ≡ weight (m.pin j) * base_for k (cover_at m bytes j)) → Rises (put_room m p x) a
  quiet p x a moving same k = let e = all_still z m (put_room m p x) bytes bytes hs seat v.rooms a own moving (base_for k) (λ j _. same k j) in omega arith

  -- a pin word changes, and the room is a cover as it was
  weighed : (j x : ℕ) (a : RoomHolds) → a.moving ≡ v.rooms.moving → weight x ≡ weight (m.pin j) → Rises (put_room m (at_room_pin j) x) a
  weighed j x a moving same = level (put_room m (at_room_pin j) x) a (weight_covers z m bytes hs seat v.rooms a own moving j x same)

  weight_is : (x y : ℕ) → state_of x ≡ state_of y → weight x ≡ weight y
  weight_is x y e = ap (λ (t : ℕ). one_at t OPEN + one_at t FROZEN) e

  pin_rises : (j : ℕ) (a : RoomHolds) → a.moving ≡ v.rooms.moving → Rises (put_room m (at_room_pin j) ((m.pin j + 1) % 2 ^ 64)) a
  pin_rises j a moving = let c = r.rooms.counted j in let t = few_room_pins z s r j in weighed j ((m.pin j + 1) % 2 ^ 64) a moving (weight_is ((m.pin j + 1) % 2 ^ 64) (m.pin j) (pin_up (m.pin j) (omega arith) (small_pin j)).1)

  unpin_rises : (j : ℕ) (a : RoomHolds) → a.moving ≡ v.rooms.moving → room_pins j v.rooms ≡ 1 → Rises (put_room m (at_room_pin j) ((m.pin j + (2 ^ 64 - 1)) % 2 ^ 64)) a
  unpin_rises j a moving one = let c = r.rooms.counted j in let t = total_at (room_pins j) hs seat v.rooms own in weighed j ((m.pin j + (2 ^ 64 - 1)) % 2 ^ 64) a moving (weight_is ((m.pin j + (2 ^ 64 - 1)) % 2 ^ 64) (m.pin j) (pin_down (m.pin j) (omega arith) (small_pin j)).1)

  -- a word of an entry is none of the range
  entry_rises : (f : EntryField) (j i x : ℕ) (a : RoomHolds) → a.moving ≡ v.rooms.moving → Rises (put_room m (entry_spot f j i) x) a
  entry_rises of_key j i x a moving = quiet (at_key j i) x a moving (λ k n. refl)
  entry_rises of_value j i x a moving = quiet (at_value j i) x a moving (λ k n. refl)
  entry_rises of_next j i x a moving = quiet (at_next j i) x a moving (λ k n. refl)

  -- nor is a link
  link_rises : (from : Option ℕ) (j x : ℕ) (a : RoomHolds) → a.moving ≡ v.rooms.moving → Rises (put_room m (link_spot j from) x) a
  link_rises None j x a moving = quiet (at_first j) x a moving (λ k n. refl)
  link_rises (Some q) j x a moving = quiet (at_next j q) x a moving (λ k n. refl)

  freeze_rises : (j old : ℕ) → state_of old ≡ OPEN → Rises (put_room m (at_room_pin j) (room_effect (freeze_room j old) (m.pin j))) (rooms_after z m bytes (freeze_room j old) v.rooms)
  freeze_rises j old opened = decided (m.pin j) old (λ t. Rises (put_room m (at_room_pin j) (either t (old + STATE) (m.pin j))) (record v.rooms { held = cond t (record { room = j; held_as = Frozen } ∷ v.rooms.held) v.rooms.held }))
      (λ e. let u = (state_set old (omega arith)).1 in weighed j (old + STATE) (record v.rooms { held = record { room = j; held_as = Frozen } ∷ v.rooms.held }) refl (weight_frozen (old + STATE) (omega arith) ∙ sym (weight_open (m.pin j) (ap state_of e ∙ opened))))
      (λ _. weighed j (m.pin j) v.rooms refl refl)

  thaw_rises : (j : ℕ) → MayOnRoom z (thaw_room j) v → Rises (put_room m (at_room_pin j) (room_effect (thaw_room j) (m.pin j))) (rooms_after z m bytes (thaw_room j) v.rooms)
  thaw_rises j may = let mine = may.rooms in let frozen = is_so z m bytes hs r.rooms seat v.rooms own j FROZEN (inl refl) (omega arith) in let d = state_back (m.pin j) (FROZEN - OPEN) (omega arith) (small_pin j) in let x : ℕ = room_effect (thaw_room j) (m.pin j) in
      level (put_room m (at_room_pin j) x) (rooms_after z m bytes (thaw_room j) v.rooms) (thaw_covers z m bytes is_key_word hs r.rooms r.covers seat v.rooms own j x d.2 mine (omega arith) d.0)

  claim_rises : (j old : ℕ) → MayOnRoom z (claim_room j old) v → Rises (put_room m (at_room_pin j) (room_effect (claim_room j old) (m.pin j))) (rooms_after z m bytes (claim_room j old) v.rooms)
  claim_rises j old may = decided (m.pin j) old (λ t. Rises (put_room m (at_room_pin j) (either t (old + HELD * STATE) (m.pin j))) (record v.rooms { held = cond t (record { room = j; held_as = Held (copy_at z m j) } ∷ v.rooms.held) v.rooms.held }))
      (λ e. let free = may.rooms.state in let p = small_pin j in weighed j (old + HELD * STATE) (record v.rooms { held = record { room = j; held_as = Held (copy_at z m j) } ∷ v.rooms.held }) refl (weight_held (old + HELD * STATE) (claimed old free (omega arith)).1 ∙ sym (weight_free (m.pin j) (ap state_of e ∙ free))))
      (λ _. weighed j (m.pin j) v.rooms refl refl)

  hold_rises : (j old : ℕ) → MayOnRoom z (hold_room j old) v → Rises (put_room m (at_room_pin j) (room_effect (hold_room j old) (m.pin j))) (rooms_after z m bytes (hold_room j old) v.rooms)
  hold_rises j old may = decided (m.pin j) old
      (λ t. Rises (put_room m (at_room_pin j) (either t (old + STATE) (m.pin j))) (record v.rooms { held = cond t (record { room = j; held_as = Held (copy_at z m j) } ∷ without_room j v.rooms.held) v.rooms.held; moving = cond t (moving_at m bytes j ∷ v.rooms.moving) v.rooms.moving }))
      (λ e. let frozen = may.rooms.0.state in let u = state_set old (omega arith) in let now = u.1 in
      level (put_room m (at_room_pin j) (old + STATE)) (record v.rooms { held = record { room = j; held_as = Held (copy_at z m j) } ∷ without_room j v.rooms.held; moving = moving_at m bytes j ∷ v.rooms.moving })
      (hold_covers z m bytes is_key_word hs r.rooms r.covers seat v.rooms own j (old + STATE) (u.2 ∙ sym (ap generation_of e)) may.inside.0 may.rooms.1 (omega arith) (ap count_of e ∙ may.rooms.0.count) (u.0 ∙ may.rooms.0.count)))
      (λ _. weighed j (m.pin j) v.rooms refl refl)

  -- a store to a held room, which is no cover, leaves the bases of the moving ranges, or raises them
  store_rises : (p : RoomSpot) (x : ℕ) → MayOnRoom z (store_room p x) v → Rises (put_room m p x) (rooms_after z m bytes (store_room p x) v.rooms)
  unfolding total
  store_rises p x may k = let a : RoomHolds = rooms_after z m bytes (store_room p x) v.rooms in let word : ℕ = word_dropped m p x in let mine = may.rooms.0 in
      let none = weight_held (m.pin (room_at p)) (is_so z m bytes hs r.rooms seat v.rooms own (room_at p) HELD (inr refl) (omega arith)) in
      let e = store_step z m bytes hs (set hs seat a) (v.rooms ∷ []) (a ∷ []) (stepped hs seat v.rooms a own) p x none (pin_still m p x may.rooms.1) (base_for k) in
      let up : total (base_for k) (map cover_from v.rooms.moving) ≤ total (base_for k) (map cover_from (ranges_with word v.rooms.moving)) =
      test-cases (word == 0) (λ t. total (base_for k) (map cover_from v.rooms.moving) ≤ total (base_for k) (map cover_from (cond t v.rooms.moving (map (range_without word) v.rooms.moving)))) (λ _. omega arith) (λ _. ranges_base k word v.rooms.moving) in omega arith

  module _ (call : ℕ) (going : v.numbers.spent ≡ false) where
    open_rises : (j : ℕ) → MayOnRoom z (open_room j) v → Rises (put_room m (at_room_pin j) (room_effect (open_room j) (m.pin j))) (rooms_after z m bytes (open_room j) v.rooms)
    open_rises j may = let c = opens z s seat v r here call going j may in let u = gives_up z s seat v r here call going j may in
        subst (Rises (put_room m (at_room_pin j) (room_effect (open_room j) (m.pin j)))) (sym u.rooms)
        (base_more z m (put_room m (at_room_pin j) (room_effect (open_room j) (m.pin j))) bytes is_key_word hs _ c.gone c.come c.parted c.step)

    retire_rises : (j : ℕ) → MayOnRoom z (retire_room j) v → Rises (put_room m (at_room_pin j) (room_effect (retire_room j) (m.pin j))) (rooms_after z m bytes (retire_room j) v.rooms)
    retire_rises j may = let c = retires z s seat v r here call going j may in
        base_more z m (put_room m (at_room_pin j) (room_effect (retire_room j) (m.pin j))) bytes is_key_word hs (set hs seat (rooms_after z m bytes (retire_room j) v.rooms)) c.gone c.come c.parted c.step

    -- no base falls by any step on a word of a room
    pub room_rises : (x : RoomStep) → MayOnRooms z call x v → Rises (put_room m (room_spot x) (room_effect x (read_room m (room_spot x)))) (rooms_after z m bytes x v.rooms)
    room_rises (pin_room j) may = pin_rises j (rooms_after z m bytes (pin_room j) v.rooms) refl
    room_rises (unpin_room j) may = unpin_rises j (rooms_after z m bytes (unpin_room j) v.rooms) refl may.rooms.0
    room_rises (claim_entry j old) may = quiet (at_count j) (room_effect (claim_entry j old) (m.count j)) (rooms_after z m bytes (claim_entry j old) v.rooms) refl (λ k n. refl)
    room_rises (own_entry f j i x) may = entry_rises f j i x (rooms_after z m bytes (own_entry f j i x) v.rooms) refl
    room_rises (link_entry j from i old) may = link_rises from j (room_effect (link_entry j from i old) (link_word m j from)) (rooms_after z m bytes (link_entry j from i old) v.rooms) refl
    room_rises (set_value j i old new kind) may = quiet (at_value j i) (room_effect (set_value j i old new kind) (m.value j i)) v.rooms refl (λ k n. refl)
    room_rises (unlink_entry j i x) may = quiet (at_value j i) x v.rooms refl (λ k n. refl)
    room_rises (freeze_room j old) may = freeze_rises j old may.rooms
    room_rises (thaw_room j) may = thaw_rises j may
    room_rises (hold_room j old) may = hold_rises j old may
    room_rises (claim_room j old) may = claim_rises j old may
    room_rises (store_room p x) may = store_rises p x may
    room_rises (open_room j) may = open_rises j may
    room_rises (retire_room j) may = retire_rises j may
