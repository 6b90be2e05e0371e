-- Rooms that stay as settling leaves them, by words before and behind.
use Rattle.std.proofs.Common.{◌≡◌, ℕ, ◌+◌, ◌<◌, ◌⊎◌, List, inl, inr, ⊎_elim, sym, ap, ◌∙◌, subst, arith, None}
use Rattle.oak_model.specs.declared.cells.CellCall.{CellCall}
use Rattle.oak_model.specs.Counts.{one_at}
use Rattle.oak_model.specs.KeyNumber.{key_number}
use Rattle.oak_model.specs.Limits.{Sizes}
use Rattle.oak_model.proofs.Counting.{below_same}
use Rattle.oak_model.proofs.RowLaws.{rows_same}
use Rattle.pin_word.specs.PinWord.{state_of}
use Rattle.chunk_core.specs.declared.holds.RoomCopy.{RoomCopy}
use Rattle.chunk_core.specs.declared.layout.TheConstants.{BOUND_WORDS}
use Rattle.chunk_core.specs.declared.states.TheConstants.{FREE, OPEN}
use Rattle.chunk_core.specs.CoverSums.{keyless}
use Rattle.chunk_core.specs.KeyWords.{high_number, low_number}
use Rattle.chunk_core.specs.LinkedEntries.{entries_in}
use Rattle.chunk_core.specs.Rooms.{RoomSpot, at_room_pin, at_base, at_count, at_latch, at_first, at_low, at_high, at_key, at_value, at_next, read_room}
use Rattle.chunk_core.specs.RoomReads.{words_at}
use Rattle.chunk_core.specs.Spans.{within}
use Rattle.header_core.specs.declared.states.TheConstants.{RETIRED}
use Rattle.header_core.specs.Headers.{HeaderMemory, at_pin}
use Rattle.oak_core.specs.declared.states.PassState.{PassState}
use Rattle.oak_core.specs.Memory.{in_headers, in_rooms, memory}
use Rattle.oak_core.specs.PassState.{IsAlone}
use Rattle.oak_core.specs.Sweeping.{valueless}
use Rattle.lone_counts.specs.Lacks.{new_lack}
use Rattle.lone_counts.specs.LoneTable.{retired_in}
use Rattle.point_ops.specs.LoneInserts.{SpareOnly}
use Rattle.rebalance.specs.Copies.{AllLinked, copy_span}
use Rattle.rebalance.specs.LoneWords.{Divides, IsOpen, room_in, state_in}
use Rattle.oak_map.specs.LoneRetrying.{AreMany, FitsNow, StaysSettled}

-- the rooms have the states and the words that they had, and as many headers are retired
pub record RoomsStay (z : Sizes) (before after : List ℕ) : Type 0 where
  pub states : (r : ℕ) → state_in z after r ≡ state_in z before r
  pub words : (r : ℕ) → room_in z after r ≡ room_in z before r
  pub retired : retired_in z after ≡ retired_in z before

-- where the words of the headers stay
pub retired_same : (z : Sizes) (a b : List ℕ) → (memory z b).headers ≡ (memory z a).headers → retired_in z b ≡ retired_in z a
retired_same z a b e = below_same (λ h. one_at (state_of ((memory z b).headers.pin h)) RETIRED) (λ h. one_at (state_of ((memory z a).headers.pin h)) RETIRED) z.headers
    (λ h _. ap (λ (m : HeaderMemory). one_at (state_of (m.pin h)) RETIRED) e)

-- a change of words alone that nobody has
module _ (z : Sizes) (a b : List ℕ) (s : SpareOnly z a b) where
  room_word : (p : RoomSpot) → read_room (memory z b).rooms p ≡ read_room (memory z a).rooms p
  room_word p = ⊎_elim (λ (n : ⊥). absurd n) (λ (e : read_room (memory z b).rooms p ≡ read_room (memory z a).rooms p). e) (s.same (in_rooms p))

  header_pin : (h : ℕ) → (memory z b).headers.pin h ≡ (memory z a).headers.pin h
  header_pin h = ⊎_elim (λ (n : ⊥). absurd n) (λ (e : (memory z b).headers.pin h ≡ (memory z a).headers.pin h). e) (s.same (in_headers (at_pin h)))

  entry_same : (r i : ℕ) → words_at (memory z b).rooms r i ≡ words_at (memory z a).rooms r i
  entry_same r i = let k = room_word (at_key r i) in let v = room_word (at_value r i) in let n = room_word (at_next r i) in λ j. record { word = k j; value = v j; next = n j }

  room_same : (r : ℕ) → room_in z b r ≡ room_in z a r
  room_same r = let base = room_word (at_base r) in let count = room_word (at_count r) in let latch = room_word (at_latch r) in let first = room_word (at_first r) in
      let low = rows_same 0 BOUND_WORDS ((memory z b).rooms.low r) ((memory z a).rooms.low r) (λ k _ _. room_word (at_low r k)) in
      let high = rows_same 0 BOUND_WORDS ((memory z b).rooms.high r) ((memory z a).rooms.high r) (λ k _ _. room_word (at_high r k)) in
      let entries = rows_same 0 z.entries (words_at (memory z b).rooms r) (words_at (memory z a).rooms r) (λ k _ _. entry_same r k) in
      λ j. record { base = base j; count = count j; latch = latch j; first = first j; low = low j; high = high j; entries = entries j }

  pub spare_stays : RoomsStay z a b
  spare_stays = record {
    states = λ r. ap state_of (room_word (at_room_pin r));
    words = room_same;
    retired = below_same (λ h. one_at (state_of ((memory z b).headers.pin h)) RETIRED) (λ h. one_at (state_of ((memory z a).headers.pin h)) RETIRED) z.headers (λ h _. ap (λ (n : ℕ). one_at (state_of n) RETIRED) (header_pin h));
  }

-- what holds of rooms that stay
module _ (z : Sizes) (a b : List ℕ) (s : RoomsStay z a b) where
  pub opens_still : (r : ℕ) → IsOpen z a r → IsOpen z b r
  opens_still r o = record { inside = o.inside; state = s.states r ∙ o.state }

  pub was_open : (r : ℕ) → IsOpen z b r → IsOpen z a r
  was_open r o = record { inside = o.inside; state = sym (s.states r) ∙ o.state }

  -- of the words of the room
  pub carried : (P : RoomCopy → Type 0) (r : ℕ) → P (room_in z a r) → P (room_in z b r)
  carried P r p = subst P (sym (s.words r)) p

  back : (P : RoomCopy → Type 0) (r : ℕ) → P (room_in z b r) → P (room_in z a r)
  back P r p = subst P (s.words r) p

  divides_still : Divides z a → Divides z b
  divides_still d = record {
    states = λ r lt. subst (λ (n : ℕ). (n ≡ FREE) ⊎ (n ≡ OPEN)) (sym (s.states r)) (d.states r lt);
    covered = λ k. let o = d.covered k in (o.0, opens_still o.0 o.1, carried (λ (w : RoomCopy). within (copy_span w) k ≡ 1) o.0 o.2);
    once = λ k r q o p e f. d.once k r q (was_open r o) (was_open q p) (back (λ (w : RoomCopy). within (copy_span w) k ≡ 1) r e) (back (λ (w : RoomCopy). within (copy_span w) k ≡ 1) q f);
    begun = λ r o. carried (λ (w : RoomCopy). within (copy_span w) (copy_span w).low ≡ 1) r (d.begun r (was_open r o));
    keyed = λ r o. carried (λ (w : RoomCopy). keyless (copy_span w) ≡ 0) r (d.keyed r (was_open r o));
  }

  many_still : AreMany z a → AreMany z b
  many_still m r q o p e = let t = m r q (was_open r o) (was_open q p) (ap (λ (w : RoomCopy). high_number w.high) (sym (s.words r)) ∙ (e ∙ ap (λ (w : RoomCopy). low_number w.low + 1) (s.words q))) in
      let f = ap (λ (w : RoomCopy). entries_in w.count) (s.words r) in let g = ap (λ (w : RoomCopy). entries_in w.count) (s.words q) in omega arith

  module _ (key : List ℕ) (ask : CellCall) (u : PassState) where
    fits_still : FitsNow z key ask u a → FitsNow z key ask u b
    fits_still f = record {
      absent = f.absent;
      value = f.value;
      makes = f.makes;
      lacks = λ m is. subst (λ (n : ℕ). new_lack z m n key f.value ≡ None) (sym s.retired) (f.lacks m is);
      room = f.room;
      is_open = opens_still f.room f.is_open;
      covers = carried (λ (w : RoomCopy). within (copy_span w) (key_number key) ≡ 1) f.room f.covers;
      left = carried (λ (w : RoomCopy). entries_in w.count < z.entries) f.room f.left;
    }

    pub settled_still : StaysSettled z key ask u a → StaysSettled z key ask u b
    settled_still t = record {
      divides = divides_still t.divides;
      valued = λ r o. carried (λ (w : RoomCopy). valueless w ≡ 0) r (t.valued r (was_open r o));
      linked = λ r o. carried AllLinked r (t.linked r (was_open r o));
      rooms = ⊎_elim (λ (m : AreMany z a). inl (many_still m)) (λ (f : IsAlone u → FitsNow z key ask u a). inr (λ alone. fits_still (f alone))) t.rooms;
    }
