-- A pass has the same rooms where it has them in the same states and with the same words.
use Rattle.std.proofs.Common.{◌≡◌, ◌≢◌, ℕ, zero, suc, ◌+◌, ◌<◌, ◌≤◌, cond, Bool, List, [], ◌∷◌, length, map, get_or, sym, refl, ap, ◌∙◌, subst, arith, inl, inr, eq-eqb, Option}
use mathlib.Core.Logic.{dite}
use native.Mathlib.Decide.{ℕ_discrete}
use Rattle.pin_word.specs.PinWord.{state_of}
use Rattle.oak_model.specs.Counts.{one_at, total, Each}
use Rattle.oak_model.specs.Limits.{Sizes}
use Rattle.oak_model.proofs.Counting.{one_at-same, one_at-other, one_at-le, total_at}
use Rattle.oak_model.proofs.Lists.{at_map, same_elements}
use Rattle.oak_model.proofs.SumLaws.{times-one, times-none}
use Rattle.chunk_core.specs.declared.holds.EntryWords.{EntryWords}
use Rattle.chunk_core.specs.declared.holds.HeldRoom.{HeldRoom}
use Rattle.chunk_core.specs.declared.holds.RoomCopy.{RoomCopy}
use Rattle.chunk_core.specs.declared.holds.RoomHeldAs.{RoomHeldAs}
use Rattle.chunk_core.specs.declared.holds.RoomHeldAs.TheVariants.{Frozen, Held}
use Rattle.chunk_core.specs.declared.states.TheConstants.{FROZEN, HELD}
use Rattle.chunk_core.specs.RoomCopies.{copy_in, copy_of}
use Rattle.chunk_core.specs.RoomRule.{in_room_state, room_state, IsWholeCopy, IsWholeHeld}
use Rattle.chunk_core.specs.Rooms.{RoomMemory}
use Rattle.chunk_core.proofs.HeldRooms.{room_rows}
use Rattle.oak_core.specs.declared.states.PassState.{PassState}
use Rattle.oak_core.specs.Memory.{memory}
use Rattle.oak_core.specs.PassState.{rooms_held}
use Rattle.chunk_ops.specs.RoomPins.{HadMoment}
use Rattle.rebalance.specs.Chunks.{held_row}
use Rattle.rebalance.specs.ListedRows.{rows_of, SameWords}
use Rattle.rebalance.specs.Mirrors.{copy_or, held_memory}
use Rattle.rebalance.proofs.HeldBeside.{copy_behind}

-- entries with the same words
same_entries : (es fs : List EntryWords) → length fs ≡ length es → ((i : ℕ) → get_or (map (λ (e : EntryWords). e.word) fs) i 0 ≡ get_or (map (λ (e : EntryWords). e.word) es) i 0)
    → ((i : ℕ) → get_or (map (λ (e : EntryWords). e.value) fs) i 0 ≡ get_or (map (λ (e : EntryWords). e.value) es) i 0) → ((i : ℕ) → get_or (map (λ (e : EntryWords). e.next) fs) i 0 ≡ get_or (map (λ (e : EntryWords). e.next) es) i 0) → fs ≡ es
same_entries [] [] l a b c = refl
same_entries [] (f ∷ fs) l a b c = absurd (omega arith)
same_entries (e ∷ es) [] l a b c = absurd (omega arith)
same_entries (e ∷ es) (f ∷ fs) l a b c = let t = same_entries es fs (omega arith) (λ i. a (suc i)) (λ i. b (suc i)) (λ i. c (suc i)) in λ j. record { word = a zero j; value = b zero j; next = c zero j } ∷ t j

-- two whole copies with the same words are one
pub copies_same : (z : Sizes) (w x : RoomCopy) → IsWholeCopy z w → IsWholeCopy z x → SameWords w x → x ≡ w
copies_same z w x a b s = let low = same_elements x.low w.low 0 (b.low ∙ sym a.low) (λ k _. s.low k) in let high = same_elements x.high w.high 0 (b.high ∙ sym a.high) (λ k _. s.high k) in
    let entries = same_entries w.entries x.entries (b.entries ∙ sym a.entries) s.key s.value s.next in
    λ j. record { base = s.base j; count = s.count j; latch = s.latch j; first = s.first j; low = low j; high = high j; entries = entries j }

-- so are two lists of such rooms in which each room stands once

state_same : (z : Sizes) (r : ℕ) (a b : RoomHeldAs) (hs ks : List HeldRoom) → room_state b ≡ room_state a → IsWholeHeld z a → IsWholeHeld z b → copy_of r hs ≡ copy_in a → copy_of r ks ≡ copy_in b → SameWords (copy_or (copy_of r hs)) (copy_or (copy_of r ks)) → b ≡ a
state_same z r Frozen Frozen hs ks e u v f g s = refl
state_same z r Frozen (Held x) hs ks e u v f g s = absurd (omega arith)
state_same z r (Held w) Frozen hs ks e u v f g s = absurd (omega arith)
state_same z r (Held w) (Held x) hs ks e u v f g s = ap Held (copies_same z w x u v (subst (λ (y : RoomCopy). SameWords w y) (ap copy_or g) (subst (λ (y : RoomCopy). SameWords y (copy_or (copy_of r ks))) (ap copy_or f) s)))

first_row : List (ℕ × ℕ) → ℕ × ℕ
first_row [] = (0, 0)
first_row (x ∷ xs) = x

other_rows : List (ℕ × ℕ) → List (ℕ × ℕ)
other_rows [] = []
other_rows (x ∷ xs) = xs

copy_here : (h : HeldRoom) (hs : List HeldRoom) → copy_of h.room (h ∷ hs) ≡ copy_in h.held_as
unfolding copy_of
copy_here h hs = ap (λ (b : Bool). cond b (copy_in h.held_as) (copy_of h.room hs)) (eq-eqb h.room h.room refl)

-- the lists
pub held_same : (z : Sizes) (hs ks : List HeldRoom) → rows_of ks ≡ rows_of hs → Each (λ (h : HeldRoom). IsWholeHeld z h.held_as) hs → Each (λ (h : HeldRoom). IsWholeHeld z h.held_as) ks → ((j : ℕ) → total (λ (h : HeldRoom). one_at h.room j) hs ≤ 1)
    → ((j : ℕ) → 0 < total (λ (h : HeldRoom). one_at h.room j) hs → SameWords (copy_or (copy_of j hs)) (copy_or (copy_of j ks))) → ks ≡ hs
unfolding total first_row other_rows
held_same z [] [] e a b once same = refl
held_same z [] (k ∷ ks) e a b once same = absurd (let l = ap length e in omega arith)
held_same z (h ∷ hs) [] e a b once same = absurd (let l = ap length e in omega arith)
held_same z (h ∷ hs) (k ∷ ks) e a b once same = let room : k.room ≡ h.room = ap (λ (l : List (ℕ × ℕ)). (first_row l).0) e in let state : room_state k.held_as ≡ room_state h.held_as = ap (λ (l : List (ℕ × ℕ)). (first_row l).1) e in
    let own = one_at-same h.room h.room refl in
    let same_state : k.held_as ≡ h.held_as = state_same z h.room h.held_as k.held_as (h ∷ hs) (k ∷ ks) state a.0 b.0 (copy_here h hs) (ap (λ (n : ℕ). copy_of n (k ∷ ks)) (sym room) ∙ copy_here k ks) (same h.room (omega arith)) in
    let t = held_same z hs ks (ap other_rows e) a.1 b.1 (λ j. let o = once j in omega arith)
    (λ j some. let ne : h.room ≢ j = (λ q. let o = once j in let s = one_at-same h.room j q in let f : ⊥ = omega arith in f) in
    subst (λ (o : Option RoomCopy). SameWords (copy_or (copy_of j hs)) (copy_or o)) (copy_behind j k ks (λ q. ne (sym room ∙ q)))
    (subst (λ (o : Option RoomCopy). SameWords (copy_or o) (copy_or (copy_of j (k ∷ ks)))) (copy_behind j h hs ne) (same j (let o = once j in omega arith)))) in
    λ i. record { room = room i; held_as = same_state i } ∷ t i

-- how often a room stands among them

states_both : (a : RoomHeldAs) → one_at (room_state a) FROZEN + one_at (room_state a) HELD ≡ 1
states_both Frozen = let f = one_at-same FROZEN FROZEN refl in let o = one_at-other FROZEN HELD (λ e. absurd (omega arith)) in omega arith
states_both (Held w) = let f = one_at-same HELD HELD refl in let o = one_at-other HELD FROZEN (λ e. absurd (omega arith)) in omega arith

-- it stands frozen or held
pub rows_total : (j : ℕ) (hs : List HeldRoom) → total (λ (h : HeldRoom). one_at h.room j) hs ≡ room_rows j FROZEN hs + room_rows j HELD hs
unfolding room_rows total
rows_total j [] = refl
rows_total j (h ∷ hs) = let t = rows_total j hs in let b = states_both h.held_as in dite (ℕ_discrete h.room j)
    (λ e. let o = one_at-same h.room j e in let f = times-one (one_at h.room j) (one_at (room_state h.held_as) FROZEN) o in let g = times-one (one_at h.room j) (one_at (room_state h.held_as) HELD) o in omega arith)
    (λ ne. let o = one_at-other h.room j ne in let f = times-none (one_at h.room j) (one_at (room_state h.held_as) FROZEN) o in let g = times-none (one_at h.room j) (one_at (room_state h.held_as) HELD) o in omega arith)

-- a word has but one state
one_state : (s : ℕ) → one_at s FROZEN + one_at s HELD ≤ 1
one_state s = dite (ℕ_discrete s FROZEN) (λ e. let a = one_at-le s FROZEN in let o = one_at-other s HELD (λ q. absurd (omega arith)) in omega arith) (λ ne. let o = one_at-other s FROZEN ne in let a = one_at-le s HELD in omega arith)

-- at a moment of the rule
module _ (z : Sizes) (v : PassState) (h : HadMoment z v) where
  -- a pass has each room at most once
  pub stands_once : (j : ℕ) → total (λ (x : HeldRoom). one_at x.room j) v.rooms.held ≤ 1
  unfolding room_rows
  stands_once j = let hs = map rooms_held h.1.states in let at = at_map rooms_held h.1.states h.1.seat v h.1.here in let s : ℕ = state_of ((memory z h.0).rooms.pin j) in
      let f = total_at (in_room_state j FROZEN) hs h.1.seat v.rooms at in let g = total_at (in_room_state j HELD) hs h.1.seat v.rooms at in
      let p = h.1.rule.rooms.held j FROZEN (inl refl) in let q = h.1.rule.rooms.held j HELD (inr refl) in let one = one_state s in let r = rows_total j v.rooms.held in omega arith

  -- with all words of those that it holds
  pub whole_rows : Each (λ (x : HeldRoom). IsWholeHeld z x.held_as) v.rooms.held
  whole_rows = (h.1.rule.rooms.passes h.1.seat v.rooms (at_map rooms_held h.1.states h.1.seat v h.1.here)).whole

-- where memories are the same, so are the words of each room
pub memory_words : (hs ks : List HeldRoom) → held_memory ks ≡ held_memory hs → (j : ℕ) → SameWords (copy_or (copy_of j hs)) (copy_or (copy_of j ks))
memory_words hs ks e j = record {
  base = ap (λ (m : RoomMemory). m.base j) e;
  count = ap (λ (m : RoomMemory). m.count j) e;
  latch = ap (λ (m : RoomMemory). m.latch j) e;
  first = ap (λ (m : RoomMemory). m.first j) e;
  low = λ k. ap (λ (m : RoomMemory). m.low j k) e;
  high = λ k. ap (λ (m : RoomMemory). m.high j k) e;
  key = λ k. ap (λ (m : RoomMemory). m.key j k) e;
  value = λ k. ap (λ (m : RoomMemory). m.value j k) e;
  next = λ k. ap (λ (m : RoomMemory). m.next j k) e;
}

-- a pass whose rooms have the words that they had has what it had
pub rooms_same : (z : Sizes) (v w : PassState) → HadMoment z v → HadMoment z w → rows_of w.rooms.held ≡ rows_of v.rooms.held → held_memory w.rooms.held ≡ held_memory v.rooms.held → w.rooms.held ≡ v.rooms.held
rooms_same z v w a b rows words = held_same z v.rooms.held w.rooms.held rows (whole_rows z v a) (whole_rows z w b) (stands_once z v a) (λ j _. memory_words v.rooms.held w.rooms.held words j)

-- where only the first room has other words, the others are as they were
held_from : (z : Sizes) (a : RoomHeldAs) → room_state a ≡ HELD → IsWholeHeld z a → (x : RoomCopy) × (a ≡ Held x) × IsWholeCopy z x
held_from z Frozen e whole = absurd (omega arith)
held_from z (Held x) e whole = (x, refl, whole)

-- the others behind the first
pub first_held : (z : Sizes) (r : ℕ) (w : RoomCopy) (hs ks : List HeldRoom) → rows_of ks ≡ rows_of (held_row r w ∷ hs) → Each (λ (h : HeldRoom). IsWholeHeld z h.held_as) hs → Each (λ (h : HeldRoom). IsWholeHeld z h.held_as) ks → ((j : ℕ) → total (λ (h : HeldRoom). one_at h.room j) hs ≤ 1)
    → total (λ (h : HeldRoom). one_at h.room r) hs ≡ 0 → ((j : ℕ) → j ≢ r → SameWords (copy_or (copy_of j (held_row r w ∷ hs))) (copy_or (copy_of j ks))) → (x : RoomCopy) × (ks ≡ held_row r x ∷ hs) × IsWholeCopy z x
unfolding first_row other_rows
first_held z r w hs [] e a b once apart same = absurd (let l = ap length e in omega arith)
first_held z r w hs (k ∷ ks) e a b once apart same = let room : k.room ≡ r = ap (λ (l : List (ℕ × ℕ)). (first_row l).0) e in let h = held_from z k.held_as (ap (λ (l : List (ℕ × ℕ)). (first_row l).1) e) b.0 in
    let t = held_same z hs ks (ap other_rows e) a b.1 once
    (λ j some. let ne : j ≢ r = (λ q. let o = subst (λ (i : ℕ). 0 < total (λ (x : HeldRoom). one_at x.room i) hs) q some in let f : ⊥ = omega arith in f) in
    subst (λ (o : Option RoomCopy). SameWords (copy_or (copy_of j hs)) (copy_or o)) (copy_behind j k ks (λ q. ne (sym q ∙ room)))
    (subst (λ (o : Option RoomCopy). SameWords (copy_or o) (copy_or (copy_of j (k ∷ ks)))) (copy_behind j (held_row r w) hs (λ q. ne (sym q))) (same j ne))) in
    (h.0, (λ i. record { room = room i; held_as = h.1 i } ∷ t i), h.2)
