-- What a pass keeps of a room that it holds, behind its own store to a word of the room: all is true, and no word is kept more often.
use Rattle.std.proofs.Common.{◌≡◌, ◌≢◌, ℕ, zero, suc, ◌+◌, ◌<◌, ◌==◌, ◌&&◌, cond, Bool, List, [], ◌∷◌, ◌++◌, set, sym, refl, ap, ◌∙◌, subst, arith, eq-eqb, ne_eqb}
use Rattle.std.specs.Prelude.{slice_index}
use Rattle.oak_model.specs.Counts.{rows, Each}
use Rattle.oak_model.specs.Kept.{KeptWord, AreTrueTo}
use Rattle.oak_model.specs.Limits.{Sizes}
use Rattle.oak_model.proofs.Counting.{decided}
use Rattle.oak_model.proofs.Lists.{each_append, rows_at}
use Rattle.oak_model.proofs.PutLaws.{put-here}
use Rattle.oak_model.proofs.RowLaws.{each_rows, each_first, each_rest, rows_same}
use Rattle.chunk_core.specs.declared.layout.TheConstants.{BOUND_WORDS}
use Rattle.chunk_core.specs.declared.holds.HeldRoom.{HeldRoom}
use Rattle.chunk_core.specs.declared.holds.RoomCopy.{RoomCopy}
use Rattle.chunk_core.specs.declared.holds.RoomHeldAs.{RoomHeldAs}
use Rattle.chunk_core.specs.declared.holds.RoomHeldAs.TheVariants.{Frozen, Held}
use Rattle.chunk_core.specs.KeptRooms.{kept_of_copy, kept_of_entries, kept_of_held, kept_of_rooms_held}
use Rattle.chunk_core.specs.MayOnRooms.{IsRoomWord}
use Rattle.chunk_core.specs.RoomCopies.{changed, copy_with, entry_with, held_with, rooms_with}
use Rattle.chunk_core.specs.RoomReads.{words_at, copy_at}
use Rattle.chunk_core.specs.RoomRule.{IsWholeHeld}
use Rattle.chunk_core.specs.RoomStep.{of_key, of_value, of_next, put_room}
use Rattle.chunk_core.specs.Rooms.{RoomMemory, RoomSpot, at_room_pin, at_base, at_count, at_latch, at_first, at_low, at_high, at_key, at_value, at_next, read_room, room_at, same_room_spot}
use Rattle.chunk_core.proofs.Copies.{copy_true}
use Rattle.chunk_core.proofs.RoomStores.{read_else}
use Rattle.chunk_core.proofs.RoomWords.{read_room-of}
use Rattle.chunk_core.proofs.UnkeptRooms.{AreOf, copy_of_room}

-- one of a row becomes another

set_rows : {A : Type 0} (i n j : ℕ) (x : A) (f g : ℕ → A) → g (i + j) ≡ x → ((k : ℕ) → k ≢ i + j → g k ≡ f k) → set (rows i n f) j x ≡ rows i n g
unfolding rows
set_rows i zero j x f g here other = refl
set_rows i (suc n) zero x f g here other = let e : g i ≡ x = ap g (let q : i ≡ i + 0 = omega arith in q) ∙ here in let t = rows_same (suc i) n f g (λ k le lt. sym (other k (omega arith))) in λ j. sym e j ∷ t j
set_rows i (suc n) (suc j) x f g here other = let t = set_rows (suc i) n j x f g (ap g (let q : suc i + j ≡ i + suc j = omega arith in q) ∙ here) (λ k ne. other k (omega arith)) in let e : f i ≡ g i = sym (other i (omega arith)) in λ y. e y ∷ t y

changed_rows : {A : Type 0} (i n j : ℕ) (h : A → A) (f g : ℕ → A) → g (i + j) ≡ h (f (i + j)) → ((k : ℕ) → k ≢ i + j → g k ≡ f k) → changed j h (rows i n f) ≡ rows i n g
unfolding rows changed
changed_rows i zero j h f g here other = refl
changed_rows i (suc n) zero h f g here other = let q : i ≡ i + 0 = omega arith in let e : g i ≡ h (f i) = ap g q ∙ (here ∙ ap (λ (k : ℕ). h (f k)) (sym q)) in let t = rows_same (suc i) n f g (λ k le lt. sym (other k (omega arith))) in λ j. sym e j ∷ t j
changed_rows i (suc n) (suc j) h f g here other = let q : suc i + j ≡ i + suc j = omega arith in
    let t = changed_rows (suc i) n j h f g (ap g q ∙ (here ∙ ap (λ (k : ℕ). h (f k)) (sym q))) (λ k ne. other k (omega arith)) in let e : f i ≡ g i = sym (other i (omega arith)) in λ y. e y ∷ t y

-- a word of a part of the room, where the part with this number is stored to
part_here : {A : Type 0} (k j r : ℕ) (x y : A) → k ≡ j → cond ((k == j) && (r == r)) x y ≡ x
part_here k j r x y e = ap (λ (b : Bool). cond (b && (r == r)) x y) (eq-eqb k j e) ∙ ap (λ (b : Bool). cond b x y) (eq-eqb r r refl)

part_else : {A : Type 0} (k j r : ℕ) (x y : A) → k ≢ j → cond ((k == j) && (r == r)) x y ≡ y
part_else k j r x y ne = ap (λ (b : Bool). cond (b && (r == r)) x y) (ne_eqb k j ne)

-- the copy with the number stored is the copy of the room behind the store
stored_copy : (z : Sizes) (m : RoomMemory) (p : RoomSpot) (x : ℕ) → IsRoomWord p x → copy_with p x (copy_at z m (room_at p)) ≡ copy_at z (put_room m p x) (room_at p)
stored_copy z m (at_room_pin r) x is = absurd is
stored_copy z m (at_base r) x is = let e = put-here m.base r x r refl in λ j. record (copy_at z m r) { base = sym e j }
stored_copy z m (at_count r) x is = let e = put-here m.count r x r refl in λ j. record (copy_at z m r) { count = sym e j }
stored_copy z m (at_latch r) x is = let e = put-here m.latch r x r refl in λ j. record (copy_at z m r) { latch = sym e j }
stored_copy z m (at_first r) x is = let e = put-here m.first r x r refl in λ j. record (copy_at z m r) { first = sym e j }
stored_copy z m (at_low r i) x is = let e = set_rows 0 BOUND_WORDS i x (m.low r) ((put_room m (at_low r i) x).low r) (part_here (0 + i) i r x (m.low r (0 + i)) (omega arith)) (λ k ne. part_else k i r x (m.low r k) (λ q. ne (omega arith))) in λ j. record (copy_at z m r) { low = e j }
stored_copy z m (at_high r i) x is = let e = set_rows 0 BOUND_WORDS i x (m.high r) ((put_room m (at_high r i) x).high r) (part_here (0 + i) i r x (m.high r (0 + i)) (omega arith)) (λ k ne. part_else k i r x (m.high r k) (λ q. ne (omega arith))) in λ j. record (copy_at z m r) { high = e j }
stored_copy z m (at_key r i) x is = let e = changed_rows 0 z.entries i (entry_with of_key x) (words_at m r) (words_at (put_room m (at_key r i) x) r) (λ j. record (words_at m r (0 + i)) { word = part_here (0 + i) i r x (m.key r (0 + i)) (omega arith) j })
    (λ k ne j. record (words_at m r k) { word = part_else k i r x (m.key r k) (λ q. ne (omega arith)) j }) in λ j. record (copy_at z m r) { entries = e j }
stored_copy z m (at_value r i) x is = let e = changed_rows 0 z.entries i (entry_with of_value x) (words_at m r) (words_at (put_room m (at_value r i) x) r) (λ j. record (words_at m r (0 + i)) { value = part_here (0 + i) i r x (m.value r (0 + i)) (omega arith) j })
    (λ k ne j. record (words_at m r k) { value = part_else k i r x (m.value r k) (λ q. ne (omega arith)) j }) in λ j. record (copy_at z m r) { entries = e j }
stored_copy z m (at_next r i) x is = let e = changed_rows 0 z.entries i (entry_with of_next x) (words_at m r) (words_at (put_room m (at_next r i) x) r) (λ j. record (words_at m r (0 + i)) { next = part_here (0 + i) i r x (m.next r (0 + i)) (omega arith) j })
    (λ k ne j. record (words_at m r k) { next = part_else k i r x (m.next r k) (λ q. ne (omega arith)) j }) in λ j. record (copy_at z m r) { entries = e j }

-- what is kept of a room's copy is true to its words

entries_true : (m : RoomMemory) (r i n : ℕ) → AreTrueTo (read_room m) (kept_of_entries r i (rows i n (words_at m r)))
unfolding rows kept_of_entries
entries_true m r i zero = tt
entries_true m r i (suc n) = (refl, (refl, (refl, entries_true m r (suc i) n)))

copy_is_true : (z : Sizes) (m : RoomMemory) (r : ℕ) → AreTrueTo (read_room m) (kept_of_copy r (copy_at z m r))
copy_is_true z m r = let P : KeptWord RoomSpot → Type 0 = (λ (t : KeptWord RoomSpot). read_room m t.spot ≡ t.number) in let w = copy_at z m r in
    let lows : List (KeptWord RoomSpot) = rows 0 BOUND_WORDS (λ j. record { spot = at_low r j; number = slice_index w.low j }) in let highs : List (KeptWord RoomSpot) = rows 0 BOUND_WORDS (λ j. record { spot = at_high r j; number = slice_index w.high j }) in (
      refl,
      (
        refl,
        (
          refl,
          (
            refl,
            each_append P lows (highs ++ kept_of_entries r 0 w.entries) (each_rows P 0 BOUND_WORDS (λ j. record { spot = at_low r j; number = slice_index w.low j }) (λ k le lt. word_of_row (m.low r) k (omega arith)))
                (each_append P highs (kept_of_entries r 0 w.entries) (each_rows P 0 BOUND_WORDS (λ j. record { spot = at_high r j; number = slice_index w.high j }) (λ k le lt. word_of_row (m.high r) k (omega arith))) (entries_true m r 0 z.entries)),
          ),
        ),
      ),
    )
  where
    word_of_row : (f : ℕ → ℕ) (k : ℕ) → k < BOUND_WORDS → f k ≡ slice_index (rows 0 BOUND_WORDS f) k
    word_of_row f k lt = sym (rows_at 0 BOUND_WORDS k f 0 lt ∙ ap f (let q : 0 + k ≡ k = omega arith in q))

-- words of another room are what they were
pub else_true : (m : RoomMemory) (p : RoomSpot) (x r : ℕ) → r ≢ room_at p → (ws : List (KeptWord RoomSpot)) → AreOf r ws → AreTrueTo (read_room m) ws → AreTrueTo (read_room (put_room m p x)) ws
else_true m p x r ne [] of_r t = tt
else_true m p x r ne (w ∷ ws) of_r t = (read_room-of (λ q. cond (same_room_spot q p) x (read_room m q)) w.spot ∙ (read_else m p x w.spot (λ e. ne (sym of_r.0 ∙ e)) ∙ t.0), else_true m p x r ne ws of_r.1 t.1)

-- what is kept of one room that the pass has
held_true : (z : Sizes) (m : RoomMemory) (p : RoomSpot) (x : ℕ) → IsRoomWord p x → (r : ℕ) (s : RoomHeldAs) → IsWholeHeld z s → AreTrueTo (read_room m) (kept_of_held r s) → AreTrueTo (read_room (put_room m p x)) (kept_of_held r (cond (r == room_at p) (held_with p x s) s))
held_true z m p x is r s whole t = decided r (room_at p) (λ b. AreTrueTo (read_room (put_room m p x)) (kept_of_held r (cond b (held_with p x s) s)))
    (λ e. mine s e whole t) (λ ne. other s ne t)
  where
    mine : (s : RoomHeldAs) → r ≡ room_at p → IsWholeHeld z s → AreTrueTo (read_room m) (kept_of_held r s) → AreTrueTo (read_room (put_room m p x)) (kept_of_held r (held_with p x s))
    mine Frozen e whole t = tt
    mine (Held w) e whole t = subst (λ (c : RoomCopy). AreTrueTo (read_room (put_room m p x)) (kept_of_copy r c)) (ap (λ (j : ℕ). copy_at z (put_room m p x) j) e ∙ (sym (stored_copy z m p x is) ∙ ap (copy_with p x) (sym (ap (λ (j : ℕ). copy_at z m j) e) ∙ copy_true z m r w whole t))) (copy_is_true z (put_room m p x) r)

    other : (s : RoomHeldAs) → r ≢ room_at p → AreTrueTo (read_room m) (kept_of_held r s) → AreTrueTo (read_room (put_room m p x)) (kept_of_held r s)
    other Frozen ne t = tt
    other (Held w) ne t = else_true m p x r ne (kept_of_copy r w) (copy_of_room r w) t

-- and of all of them
pub rooms_true : (z : Sizes) (m : RoomMemory) (p : RoomSpot) (x : ℕ) → IsRoomWord p x → (hs : List HeldRoom) → Each (λ (h : HeldRoom). IsWholeHeld z h.held_as) hs → AreTrueTo (read_room m) (kept_of_rooms_held hs) → AreTrueTo (read_room (put_room m p x)) (kept_of_rooms_held (rooms_with p x hs))
unfolding kept_of_rooms_held
rooms_true z m p x is [] whole t = tt
rooms_true z m p x is (h ∷ hs) whole t = let P : KeptWord RoomSpot → Type 0 = (λ (w : KeptWord RoomSpot). read_room m w.spot ≡ w.number) in
    each_append (λ (w : KeptWord RoomSpot). read_room (put_room m p x) w.spot ≡ w.number) (kept_of_held h.room (cond (h.room == room_at p) (held_with p x h.held_as) h.held_as)) (kept_of_rooms_held (rooms_with p x hs))
    (held_true z m p x is h.room h.held_as whole.0 (each_first P (kept_of_held h.room h.held_as) (kept_of_rooms_held hs) t))
    (rooms_true z m p x is hs whole.1 (each_rest P (kept_of_held h.room h.held_as) (kept_of_rooms_held hs) t))
