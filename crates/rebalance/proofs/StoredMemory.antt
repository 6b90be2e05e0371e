-- The words that a pass keeps of the rooms that it holds, behind its own store to one of them.
use Rattle.std.proofs.Common.{◌≡◌, ◌≢◌, ℕ, zero, suc, ◌<◌, ◌==◌, ◌&&◌, cond, Bool, List, [], ◌∷◌, length, map, get_or, set, sym, refl, ap, ◌∙◌, subst, arith, ne_eqb, Some, get_or-set_same}
use Rattle.std.proofs.lemmas.List.{get_or-set_other}
use Rattle.std.proofs.lemmas.Option.{none-some, same_Some}
use mathlib.Core.Logic.{dite}
use native.Mathlib.Decide.{ℕ_discrete}
use Rattle.oak_model.specs.Limits.{Sizes}
use Rattle.oak_model.proofs.Counting.{decided}
use Rattle.chunk_core.specs.declared.layout.TheConstants.{BOUND_WORDS}
use Rattle.chunk_core.specs.declared.holds.EntryWords.{EntryWords}
use Rattle.chunk_core.specs.declared.holds.HeldRoom.{HeldRoom}
use Rattle.chunk_core.specs.declared.holds.RoomCopy.{RoomCopy}
use Rattle.chunk_core.specs.declared.holds.RoomHeldAs.{RoomHeldAs}
use Rattle.chunk_core.specs.declared.holds.RoomHeldAs.TheVariants.{Frozen, Held}
use Rattle.chunk_core.specs.RoomCopies.{changed, copy_in, copy_of, copy_with, entry_with, held_with, rooms_with}
use Rattle.chunk_core.specs.RoomRule.{IsWholeCopy}
use Rattle.chunk_core.specs.RoomStep.{of_key, of_value, of_next, put_room}
use Rattle.chunk_core.specs.Rooms.{RoomSpot, at_base, at_count, at_first, at_low, at_high, at_key, at_value, at_next, room_at}
use Rattle.rebalance.specs.declared.held_rooms.RoomWord.{RoomWord}
use Rattle.rebalance.specs.declared.held_rooms.RoomWord.TheVariants.{Base, Count, First, Low, High, Key, Value, Next}
use Rattle.rebalance.specs.HeldRooms.{IsWithin, spot}
use Rattle.rebalance.specs.Mirrors.{copy_or, entry_words, held_memory}

-- the copy of the room has the number, and that of another room stays

with_word : (p : RoomSpot) (x : ℕ) (w : RoomCopy) (s : RoomHeldAs) → copy_in s ≡ Some w → copy_in (held_with p x s) ≡ Some (copy_with p x w)
with_word p x w Frozen e = absurd (none-some w e)
with_word p x w (Held u) e = ap (λ (y : RoomCopy). Some (copy_with p x y)) (same_Some u w e)

pub copy_stored : (p : RoomSpot) (x : ℕ) (w : RoomCopy) (hs : List HeldRoom) → copy_of (room_at p) hs ≡ Some w → copy_of (room_at p) (rooms_with p x hs) ≡ Some (copy_with p x w)
unfolding copy_of
copy_stored p x w [] e = absurd (none-some w e)
copy_stored p x w (h ∷ hs) e = decided h.room (room_at p) (λ t. cond t (copy_in h.held_as) (copy_of (room_at p) hs) ≡ Some w → cond t (copy_in (cond t (held_with p x h.held_as) h.held_as)) (copy_of (room_at p) (rooms_with p x hs)) ≡ Some (copy_with p x w))
    (λ _ d. with_word p x w h.held_as d) (λ _ d. copy_stored p x w hs d) e

pub copy_else : (p : RoomSpot) (x q : ℕ) → q ≢ room_at p → (hs : List HeldRoom) → copy_of q (rooms_with p x hs) ≡ copy_of q hs
unfolding copy_of
copy_else p x q ne [] = refl
copy_else p x q ne (h ∷ hs) = decided h.room q (λ t. cond t (copy_in (cond (h.room == room_at p) (held_with p x h.held_as) h.held_as)) (copy_of q (rooms_with p x hs)) ≡ cond t (copy_in h.held_as) (copy_of q hs))
    (λ e. ap (λ (b : Bool). copy_in (cond b (held_with p x h.held_as) h.held_as)) (ne_eqb h.room (room_at p) (λ f. ne (sym e ∙ f)))) (λ _. copy_else p x q ne hs)

-- a word of the entries, of which one was changed

changed_still : (g : EntryWords → ℕ) (u : EntryWords → EntryWords) → ((e : EntryWords) → g (u e) ≡ g e) → (i : ℕ) (es : List EntryWords) → map g (changed i u es) ≡ map g es
unfolding changed
changed_still g u same i [] = refl
changed_still g u same zero (e ∷ es) = ap (λ (n : ℕ). n ∷ map g es) (same e)
changed_still g u same (suc i) (e ∷ es) = ap (λ (ns : List ℕ). g e ∷ ns) (changed_still g u same i es)

changed_here : (g : EntryWords → ℕ) (u : EntryWords → EntryWords) (x : ℕ) → ((e : EntryWords) → g (u e) ≡ x) → (i : ℕ) (es : List EntryWords) → i < length es → get_or (map g (changed i u es)) i 0 ≡ x
unfolding changed
changed_here g u x is i [] lt = absurd (omega arith)
changed_here g u x is zero (e ∷ es) lt = is e
changed_here g u x is (suc i) (e ∷ es) lt = changed_here g u x is i es (omega arith)

changed_else : (g : EntryWords → ℕ) (u : EntryWords → EntryWords) (i k : ℕ) (es : List EntryWords) → k ≢ i → get_or (map g (changed i u es)) k 0 ≡ get_or (map g es) k 0
unfolding changed
changed_else g u i k [] ne = refl
changed_else g u zero zero (e ∷ es) ne = absurd (ne refl)
changed_else g u zero (suc k) (e ∷ es) ne = refl
changed_else g u (suc i) zero (e ∷ es) ne = refl
changed_else g u (suc i) (suc k) (e ∷ es) ne = changed_else g u i k es (λ q. ne (ap suc q))

-- The memory behind the store, part by part.
module _ (p : RoomSpot) (x : ℕ) (w : RoomCopy) (hs : List HeldRoom) (is : copy_of (room_at p) hs ≡ Some w) where
  abbrev before : ℕ → RoomCopy
  before q = copy_or (copy_of q hs)

  abbrev after : ℕ → RoomCopy
  after q = copy_or (copy_of q (rooms_with p x hs))

  after_here : after (room_at p) ≡ copy_with p x w
  after_here = ap copy_or (copy_stored p x w hs is)

  before_here : before (room_at p) ≡ w
  before_here = ap copy_or is

  after_else : (q : ℕ) → q ≢ room_at p → after q ≡ before q
  after_else q ne = ap copy_or (copy_else p x q ne hs)

  -- a part that the store leaves
  left : {A : Type 0} (f : RoomCopy → A) → f (copy_with p x w) ≡ f w → (q : ℕ) → f (copy_or (copy_of q (rooms_with p x hs))) ≡ f (copy_or (copy_of q hs))
  left f same q = dite (ℕ_discrete q (room_at p)) (λ e. subst (λ (k : ℕ). f (after k) ≡ f (before k)) (sym e) (ap f after_here ∙ (same ∙ ap f (sym before_here)))) (λ ne. ap f (after_else q ne))

  -- the word that was stored
  put : (f : RoomCopy → ℕ) → f (copy_with p x w) ≡ x → (q : ℕ) → f (copy_or (copy_of q (rooms_with p x hs))) ≡ cond (q == room_at p) x (f (copy_or (copy_of q hs)))
  put f new q = decided q (room_at p) (λ t. f (after q) ≡ cond t x (f (before q))) (λ e. ap (λ (k : ℕ). f (after k)) e ∙ (ap f after_here ∙ new)) (λ ne. ap f (after_else q ne))

  -- and one of several
  put_one : (f : RoomCopy → ℕ → ℕ) (j : ℕ) → f (copy_with p x w) j ≡ x → ((k : ℕ) → k ≢ j → f (copy_with p x w) k ≡ f w k) → (q k : ℕ)
      → f (copy_or (copy_of q (rooms_with p x hs))) k ≡ cond ((k == j) && (q == room_at p)) x (f (copy_or (copy_of q hs)) k)
  put_one f j new others q k = decided k j (λ t. f (after q) k ≡ cond (t && (q == room_at p)) x (f (before q) k))
      (λ e. put (λ u. f u k) (ap (f (copy_with p x w)) e ∙ new) q) (λ ne. left (λ u. f u k) (others k ne) q)

-- a bound and the entries of the copy with the number in it

bound_put : (ws : List ℕ) (j x : ℕ) → length ws ≡ BOUND_WORDS → j < BOUND_WORDS → get_or (set ws j x) j 0 ≡ x
bound_put ws j x l lt = get_or-set_same ws j x 0 (omega arith)

module _ (z : Sizes) (r x : ℕ) (w : RoomCopy) (hs : List HeldRoom) (is : copy_of r hs ≡ Some w) (whole : IsWholeCopy z w) where
  -- the words behind the store are those with the number in its place
  pub memory_stored : (word : RoomWord) → IsWithin z.entries word → held_memory (rooms_with (spot r word) x hs) ≡ put_room (held_memory hs) (spot r word) x
  memory_stored Base within = let p : RoomSpot = at_base r in λ t. record {
    pin = λ q. 0;
    base = λ q. put p x w hs is (λ u. u.base) refl q t;
    count = λ q. left p x w hs is (λ u. u.count) refl q t;
    latch = λ q. left p x w hs is (λ u. u.latch) refl q t;
    first = λ q. left p x w hs is (λ u. u.first) refl q t;
    low = λ q k. left p x w hs is (λ u. get_or u.low k 0) refl q t;
    high = λ q k. left p x w hs is (λ u. get_or u.high k 0) refl q t;
    key = λ q k. left p x w hs is (λ u. entry_words u k (λ e. e.word)) refl q t;
    value = λ q k. left p x w hs is (λ u. entry_words u k (λ e. e.value)) refl q t;
    next = λ q k. left p x w hs is (λ u. entry_words u k (λ e. e.next)) refl q t;
  }
  memory_stored Count within = let p : RoomSpot = at_count r in λ t. record {
    pin = λ q. 0;
    base = λ q. left p x w hs is (λ u. u.base) refl q t;
    count = λ q. put p x w hs is (λ u. u.count) refl q t;
    latch = λ q. left p x w hs is (λ u. u.latch) refl q t;
    first = λ q. left p x w hs is (λ u. u.first) refl q t;
    low = λ q k. left p x w hs is (λ u. get_or u.low k 0) refl q t;
    high = λ q k. left p x w hs is (λ u. get_or u.high k 0) refl q t;
    key = λ q k. left p x w hs is (λ u. entry_words u k (λ e. e.word)) refl q t;
    value = λ q k. left p x w hs is (λ u. entry_words u k (λ e. e.value)) refl q t;
    next = λ q k. left p x w hs is (λ u. entry_words u k (λ e. e.next)) refl q t;
  }
  memory_stored First within = let p : RoomSpot = at_first r in λ t. record {
    pin = λ q. 0;
    base = λ q. left p x w hs is (λ u. u.base) refl q t;
    count = λ q. left p x w hs is (λ u. u.count) refl q t;
    latch = λ q. left p x w hs is (λ u. u.latch) refl q t;
    first = λ q. put p x w hs is (λ u. u.first) refl q t;
    low = λ q k. left p x w hs is (λ u. get_or u.low k 0) refl q t;
    high = λ q k. left p x w hs is (λ u. get_or u.high k 0) refl q t;
    key = λ q k. left p x w hs is (λ u. entry_words u k (λ e. e.word)) refl q t;
    value = λ q k. left p x w hs is (λ u. entry_words u k (λ e. e.value)) refl q t;
    next = λ q k. left p x w hs is (λ u. entry_words u k (λ e. e.next)) refl q t;
  }
  memory_stored (Low j) within = let p : RoomSpot = at_low r j in λ t. record {
    pin = λ q. 0;
    base = λ q. left p x w hs is (λ u. u.base) refl q t;
    count = λ q. left p x w hs is (λ u. u.count) refl q t;
    latch = λ q. left p x w hs is (λ u. u.latch) refl q t;
    first = λ q. left p x w hs is (λ u. u.first) refl q t;
    low = λ q k. put_one p x w hs is (λ u n. get_or u.low n 0) j (bound_put w.low j x whole.low within) (λ n ne. get_or-set_other w.low j n x 0 ne) q k t;
    high = λ q k. left p x w hs is (λ u. get_or u.high k 0) refl q t;
    key = λ q k. left p x w hs is (λ u. entry_words u k (λ e. e.word)) refl q t;
    value = λ q k. left p x w hs is (λ u. entry_words u k (λ e. e.value)) refl q t;
    next = λ q k. left p x w hs is (λ u. entry_words u k (λ e. e.next)) refl q t;
  }
  memory_stored (High j) within = let p : RoomSpot = at_high r j in λ t. record {
    pin = λ q. 0;
    base = λ q. left p x w hs is (λ u. u.base) refl q t;
    count = λ q. left p x w hs is (λ u. u.count) refl q t;
    latch = λ q. left p x w hs is (λ u. u.latch) refl q t;
    first = λ q. left p x w hs is (λ u. u.first) refl q t;
    low = λ q k. left p x w hs is (λ u. get_or u.low k 0) refl q t;
    high = λ q k. put_one p x w hs is (λ u n. get_or u.high n 0) j (bound_put w.high j x whole.high within) (λ n ne. get_or-set_other w.high j n x 0 ne) q k t;
    key = λ q k. left p x w hs is (λ u. entry_words u k (λ e. e.word)) refl q t;
    value = λ q k. left p x w hs is (λ u. entry_words u k (λ e. e.value)) refl q t;
    next = λ q k. left p x w hs is (λ u. entry_words u k (λ e. e.next)) refl q t;
  }
  memory_stored (Key i) within = let p : RoomSpot = at_key r i in let s = entry_with of_key x in let l : i < length w.entries = (let n = whole.entries in omega arith) in λ t. record {
    pin = λ q. 0;
    base = λ q. left p x w hs is (λ u. u.base) refl q t;
    count = λ q. left p x w hs is (λ u. u.count) refl q t;
    latch = λ q. left p x w hs is (λ u. u.latch) refl q t;
    first = λ q. left p x w hs is (λ u. u.first) refl q t;
    low = λ q k. left p x w hs is (λ u. get_or u.low k 0) refl q t;
    high = λ q k. left p x w hs is (λ u. get_or u.high k 0) refl q t;
    key = λ q k. put_one p x w hs is (λ u n. entry_words u n (λ e. e.word)) i (changed_here (λ e. e.word) s x (λ e. refl) i w.entries l) (λ n ne. changed_else (λ e. e.word) s i n w.entries ne) q k t;
    value = λ q k. left p x w hs is (λ u. entry_words u k (λ e. e.value)) (ap (λ (ns : List ℕ). get_or ns k 0) (changed_still (λ e. e.value) s (λ e. refl) i w.entries)) q t;
    next = λ q k. left p x w hs is (λ u. entry_words u k (λ e. e.next)) (ap (λ (ns : List ℕ). get_or ns k 0) (changed_still (λ e. e.next) s (λ e. refl) i w.entries)) q t;
  }
  memory_stored (Value i) within = let p : RoomSpot = at_value r i in let s = entry_with of_value x in let l : i < length w.entries = (let n = whole.entries in omega arith) in λ t. record {
    pin = λ q. 0;
    base = λ q. left p x w hs is (λ u. u.base) refl q t;
    count = λ q. left p x w hs is (λ u. u.count) refl q t;
    latch = λ q. left p x w hs is (λ u. u.latch) refl q t;
    first = λ q. left p x w hs is (λ u. u.first) refl q t;
    low = λ q k. left p x w hs is (λ u. get_or u.low k 0) refl q t;
    high = λ q k. left p x w hs is (λ u. get_or u.high k 0) refl q t;
    key = λ q k. left p x w hs is (λ u. entry_words u k (λ e. e.word)) (ap (λ (ns : List ℕ). get_or ns k 0) (changed_still (λ e. e.word) s (λ e. refl) i w.entries)) q t;
    value = λ q k. put_one p x w hs is (λ u n. entry_words u n (λ e. e.value)) i (changed_here (λ e. e.value) s x (λ e. refl) i w.entries l) (λ n ne. changed_else (λ e. e.value) s i n w.entries ne) q k t;
    next = λ q k. left p x w hs is (λ u. entry_words u k (λ e. e.next)) (ap (λ (ns : List ℕ). get_or ns k 0) (changed_still (λ e. e.next) s (λ e. refl) i w.entries)) q t;
  }
  memory_stored (Next i) within = let p : RoomSpot = at_next r i in let s = entry_with of_next x in let l : i < length w.entries = (let n = whole.entries in omega arith) in λ t. record {
    pin = λ q. 0;
    base = λ q. left p x w hs is (λ u. u.base) refl q t;
    count = λ q. left p x w hs is (λ u. u.count) refl q t;
    latch = λ q. left p x w hs is (λ u. u.latch) refl q t;
    first = λ q. left p x w hs is (λ u. u.first) refl q t;
    low = λ q k. left p x w hs is (λ u. get_or u.low k 0) refl q t;
    high = λ q k. left p x w hs is (λ u. get_or u.high k 0) refl q t;
    key = λ q k. left p x w hs is (λ u. entry_words u k (λ e. e.word)) (ap (λ (ns : List ℕ). get_or ns k 0) (changed_still (λ e. e.word) s (λ e. refl) i w.entries)) q t;
    value = λ q k. left p x w hs is (λ u. entry_words u k (λ e. e.value)) (ap (λ (ns : List ℕ). get_or ns k 0) (changed_still (λ e. e.value) s (λ e. refl) i w.entries)) q t;
    next = λ q k. put_one p x w hs is (λ u n. entry_words u n (λ e. e.next)) i (changed_here (λ e. e.next) s x (λ e. refl) i w.entries l) (λ n ne. changed_else (λ e. e.next) s i n w.entries ne) q k t;
  }
