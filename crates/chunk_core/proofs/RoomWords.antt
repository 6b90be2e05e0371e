-- The words of the rooms lie apart, and one behind the other.
use Rattle.std.proofs.Common.{suc, zero, eqb-true, ◌≡◌, ℕ, ◌+◌, ◌-◌, ◌*◌, ◌/◌, ◌%◌, ◌<◌, ◌≤◌, true, eqb, ltb, cond, sym, refl, ap, ◌∙◌, subst, arith, lt-ltb, le-ltb, ltb-true, eq-eqb, ne_eqb}
use mathlib.Core.Logic.{dite}
use native.Mathlib.Decide.{ℕ_discrete, dec_lt}
use Rattle.oak_model.specs.Limits.{Sizes}
use Rattle.oak_model.proofs.Counting.{both_true, true_both, even_inside, even_apart, even_covers}
use Rattle.chunk_core.specs.Rooms.{room_width, room_words, RoomSpot, at_room_pin, at_base, at_count, at_latch, at_first, at_low, at_high, at_key, at_value, at_next, same_room_spot, read_room, rooms_of, room_at, part_at, kind_at, parts_at, IsInRooms, is_in_rooms, place_in_room, room_index}

-- the word at a place within a room
spot_in : ℕ → ℕ → RoomSpot
spot_in r n = cond (ltb n 5) (cond (eqb n 0) (at_room_pin r) (cond (eqb n 1) (at_base r) (cond (eqb n 2) (at_count r) (cond (eqb n 3) (at_latch r) (at_first r)))))
    (cond (ltb n 14) (at_low r (n - 5)) (cond (ltb n 23) (at_high r (n - 14))
    (cond (eqb ((n - 23) % 3) 0) (at_key r ((n - 23) / 3)) (cond (eqb ((n - 23) % 3) 1) (at_value r ((n - 23) / 3)) (at_next r ((n - 23) / 3))))))

entry-in : (r n : ℕ) → 23 ≤ n → spot_in r n ≡ cond (eqb ((n - 23) % 3) 0) (at_key r ((n - 23) / 3)) (cond (eqb ((n - 23) % 3) 1) (at_value r ((n - 23) / 3)) (at_next r ((n - 23) / 3)))
unfolding spot_in
entry-in r n h = rw (le-ltb n 5 (omega arith), le-ltb n 14 (omega arith), le-ltb n 23 h) refl

spot_in-place : (z : Sizes) (p : RoomSpot) → IsInRooms z p → spot_in (room_at p) (place_in_room p) ≡ p
unfolding spot_in place_in_room
spot_in-place z (at_room_pin r) h = refl
spot_in-place z (at_base r) h = refl
spot_in-place z (at_count r) h = refl
spot_in-place z (at_latch r) h = refl
spot_in-place z (at_first r) h = refl
spot_in-place z (at_low r j) h = let l = h.1 in rw (le-ltb (5 + j) 5 (omega arith), lt-ltb (5 + j) 14 (omega arith)) (ap (at_low r) (omega arith))
spot_in-place z (at_high r j) h = let l = h.1 in rw (le-ltb (14 + j) 5 (omega arith), le-ltb (14 + j) 14 (omega arith), lt-ltb (14 + j) 23 (omega arith)) (ap (at_high r) (omega arith))
spot_in-place z (at_key r i) h = entry-in r (23 + i * 3) (omega arith) ∙ rw (eq-eqb ((23 + i * 3 - 23) % 3) 0 (omega arith)) (ap (at_key r) (omega arith))
spot_in-place z (at_value r i) h = entry-in r (23 + i * 3 + 1) (omega arith) ∙ rw (ne_eqb ((23 + i * 3 + 1 - 23) % 3) 0 (λ e. omega arith), eq-eqb ((23 + i * 3 + 1 - 23) % 3) 1 (omega arith)) (ap (at_value r) (omega arith))
spot_in-place z (at_next r i) h = entry-in r (23 + i * 3 + 2) (omega arith) ∙ rw (ne_eqb ((23 + i * 3 + 2 - 23) % 3) 0 (λ e. omega arith), ne_eqb ((23 + i * 3 + 2 - 23) % 3) 1 (λ e. omega arith)) (ap (at_next r) (omega arith))

pub same_room_spot-self : (p : RoomSpot) → same_room_spot p p ≡ true
same_room_spot-self p = true_both _ _ (eq-eqb (kind_at p) (kind_at p) refl) (true_both _ _ (eq-eqb (part_at p) (part_at p) refl) (eq-eqb (room_at p) (room_at p) refl))

-- the word of a part
spot_of : ℕ → ℕ → ℕ → RoomSpot
spot_of zero j r = at_room_pin r
spot_of (suc zero) j r = at_base r
spot_of (suc (suc zero)) j r = at_count r
spot_of (suc (suc (suc zero))) j r = at_latch r
spot_of (suc (suc (suc (suc zero)))) j r = at_first r
spot_of (suc (suc (suc (suc (suc zero))))) j r = at_low r j
spot_of (suc (suc (suc (suc (suc (suc zero)))))) j r = at_high r j
spot_of (suc (suc (suc (suc (suc (suc (suc zero))))))) j r = at_key r j
spot_of (suc (suc (suc (suc (suc (suc (suc (suc zero)))))))) j r = at_value r j
spot_of (suc (suc (suc (suc (suc (suc (suc (suc (suc n))))))))) j r = at_next r j

spot_of-parts : (p : RoomSpot) → spot_of (kind_at p) (part_at p) (room_at p) ≡ p
unfolding spot_of
spot_of-parts (at_room_pin r) = refl
spot_of-parts (at_base r) = refl
spot_of-parts (at_count r) = refl
spot_of-parts (at_latch r) = refl
spot_of-parts (at_first r) = refl
spot_of-parts (at_low r j) = refl
spot_of-parts (at_high r j) = refl
spot_of-parts (at_key r i) = refl
spot_of-parts (at_value r i) = refl
spot_of-parts (at_next r i) = refl

pub same_room_spot-is : (p q : RoomSpot) → same_room_spot p q ≡ true → p ≡ q
same_room_spot-is p q h = let t = both_true _ _ h in let u = both_true _ _ t.1 in
    let a : kind_at p ≡ kind_at q = eqb-true _ _ t.0 in let b : part_at p ≡ part_at q = eqb-true _ _ u.0 in let c : room_at p ≡ room_at q = eqb-true _ _ u.1 in
    sym (spot_of-parts p) ∙ ((λ i. spot_of (a i) (b i) (c i)) ∙ spot_of-parts q)

pub read_room-of : (f : RoomSpot → ℕ) (p : RoomSpot) → read_room (rooms_of f) p ≡ f p
read_room-of f (at_room_pin r) = refl
read_room-of f (at_base r) = refl
read_room-of f (at_count r) = refl
read_room-of f (at_latch r) = refl
read_room-of f (at_first r) = refl
read_room-of f (at_low r j) = refl
read_room-of f (at_high r j) = refl
read_room-of f (at_key r i) = refl
read_room-of f (at_value r i) = refl
read_room-of f (at_next r i) = refl

pub in_rooms : (z : Sizes) (p : RoomSpot) → is_in_rooms z p ≡ true → IsInRooms z p
in_rooms z p h = let t = both_true _ _ h in (ltb-true _ _ t.0, ltb-true _ _ t.1)

pub rooms_in : (z : Sizes) (p : RoomSpot) → IsInRooms z p → is_in_rooms z p ≡ true
rooms_in z p h = true_both _ _ (lt-ltb _ _ h.0) (lt-ltb _ _ h.1)

place_below : (z : Sizes) (p : RoomSpot) → part_at p < parts_at z p → place_in_room p < room_width z
unfolding place_in_room
place_below z (at_room_pin r) h = omega arith
place_below z (at_base r) h = omega arith
place_below z (at_count r) h = omega arith
place_below z (at_latch r) h = omega arith
place_below z (at_first r) h = omega arith
place_below z (at_low r j) h = omega arith
place_below z (at_high r j) h = omega arith
place_below z (at_key r i) h = omega arith
place_below z (at_value r i) h = omega arith
place_below z (at_next r i) h = omega arith

pub rooms_below : (z : Sizes) (p : RoomSpot) → IsInRooms z p → room_index z p < room_words z
unfolding room_index
rooms_below z p h = even_inside (room_width z) (room_at p) z.chunks (place_in_room p) (place_below z p h.1) h.0

pub rooms_apart : (z : Sizes) (p q : RoomSpot) → IsInRooms z p → IsInRooms z q → room_index z p ≡ room_index z q → p ≡ q
unfolding room_index
rooms_apart z p q h g e = let t = even_apart (room_width z) (room_at p) (room_at q) (place_in_room p) (place_in_room q) (place_below z p h.1) (place_below z q g.1) e in
    sym (spot_in-place z p h) ∙ ((λ i. spot_in (t.0 i) (t.1 i)) ∙ spot_in-place z q g)

place_covers : (z : Sizes) (r n : ℕ) → r < z.chunks → n < room_width z → (p : RoomSpot) × (room_at p ≡ r) × (part_at p < parts_at z p) × (place_in_room p ≡ n)
unfolding place_in_room
place_covers z r n lr l = dite (dec_lt n 5) (λ five. fields five) (λ no. dite (dec_lt n 14) (λ fourteen. (at_low r (n - 5), refl, (omega arith), (omega arith)))
    (λ nor. dite (dec_lt n 23) (λ more. (at_high r (n - 14), refl, (omega arith), (omega arith)))
    (λ high. dite (ℕ_discrete ((n - 23) % 3) 0) (λ e. (at_key r ((n - 23) / 3), refl, (omega arith), (omega arith)))
    (λ not0. dite (ℕ_discrete ((n - 23) % 3) 1) (λ e. (at_value r ((n - 23) / 3), refl, (omega arith), (omega arith))) (λ not1. (at_next r ((n - 23) / 3), refl, (omega arith), (omega arith)))))))
  where
    fields : n < 5 → (p : RoomSpot) × (room_at p ≡ r) × (part_at p < parts_at z p) × (place_in_room p ≡ n)
    fields five = dite (ℕ_discrete n 0) (λ e. (at_room_pin r, refl, (omega arith), sym e)) (λ n0. dite (ℕ_discrete n 1) (λ e. (at_base r, refl, (omega arith), sym e))
        (λ n1. dite (ℕ_discrete n 2) (λ e. (at_count r, refl, (omega arith), sym e)) (λ n2. dite (ℕ_discrete n 3) (λ e. (at_latch r, refl, (omega arith), sym e)) (λ n3. (at_first r, refl, (omega arith), (omega arith))))))

pub rooms_cover : (z : Sizes) (i : ℕ) → i < room_words z → (p : RoomSpot) × IsInRooms z p × (room_index z p ≡ i)
unfolding room_index
rooms_cover z i l = let t = even_covers (room_width z) z.chunks i l in let u = place_covers z t.0 t.1 t.2 t.3 in
    (u.0, (subst (λ (r : ℕ). r < z.chunks) (sym u.1) t.2, u.2), (λ j. u.1 j * room_width z + u.3 j) ∙ t.4)
