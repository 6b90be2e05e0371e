-- Slots were stored behind the entries of a room, and then linked to them.
use Rattle.std.proofs.Common.{◌≡◌, ◌≢◌, ℕ, zero, suc, ◌+◌, ◌-◌, ◌<◌, ◌≤◌, ◌⊎◌, inl, inr, Bool, if◌then◌else◌, List, [], length, sym, ◌∙◌, ap, refl, subst, arith}
use Rattle.std.proofs.lemmas.Bool.{lt-ltb}
use mathlib.Core.Logic.{dite}
use native.Mathlib.Decide.{ℕ_discrete, dec_lt}
use Rattle.chunk_core.specs.RoomStep.{put_room}
use Rattle.chunk_core.specs.Rooms.{RoomMemory, at_base, at_count}
use Rattle.oak_core.specs.declared.sorting.SortSlot.{SortSlot}
use Rattle.rebalance.specs.Filled.{StoresSlots, IsLinked, Appends, KeepsCounts, next_of, first_of, count_of, link_to}
use Rattle.rebalance.specs.HeldRooms.{spot}
use Rattle.rebalance.proofs.FillLaws.{more_entries}
use Rattle.rebalance.proofs.StoredWords.{at_one, at_room}

-- links and first links by numbers

next_is : (j n : ℕ) → j + 1 < n → next_of j n ≡ j + 2
next_is j n l = ap (λ (b : Bool). if b then j + 2 else 0) (lt-ltb (j + 1) n l)

first_is : (n : ℕ) → 0 < n → first_of n ≡ 1
first_is n l = ap (λ (b : Bool). if b then 1 else 0) (lt-ltb 0 n l)

-- the memory with base and count
abbrev pub counted : RoomMemory → (r base count : ℕ) → RoomMemory
counted m r base count = put_room (put_room m (at_base r) base) (at_count r) count

module _ (r start base : ℕ) (slots : List SortSlot) (m now : RoomMemory) (linked : IsLinked r start m) (h : StoresSlots r start slots (start + length slots) (length slots) (counted m r base (count_of (start + length slots))) now) where
  none : SortSlot
  none = record { words = []; length = 0; key = 0; value = 0 }

  -- the links of the slots
  behind : (j : ℕ) → start ≤ j → j < start + length slots → now.next r j ≡ next_of j (start + length slots)
  behind j from l = subst (λ (i : ℕ). now.next r i ≡ next_of i (start + length slots)) (let e : start + (j - start) ≡ j = omega arith in e) (h.are (j - start) none (omega arith)).2

  -- all links but the last of those before
  before : (j : ℕ) → j + 1 < start → now.next r j ≡ next_of j (start + length slots)
  before j l = h.below.next j (omega arith) ∙ (linked.linked j (omega arith) ∙ (next_is j start l ∙ sym (next_is j (start + length slots) (omega arith))))

  counts_kept : KeepsCounts r m now
  counts_kept = record {
    base = λ q o. ap (λ (f : ℕ → ℕ). f q) h.base ∙ at_room q r base (m.base q) (λ v. v ≡ m.base q) (λ e. absurd (o e)) (λ _. refl);
    count = λ q o. ap (λ (f : ℕ → ℕ). f q) h.count ∙ at_room q r (count_of (start + length slots)) (m.count q) (λ v. v ≡ m.count q) (λ e. absurd (o e)) (λ _. refl);
    first = λ q o. ap (λ (f : ℕ → ℕ). f q) h.first;
  }

  count_is : now.count r ≡ count_of (start + length slots)
  count_is = ap (λ (f : ℕ → ℕ). f r) h.count ∙ at_room r r (count_of (start + length slots)) (m.count r) (λ v. v ≡ count_of (start + length slots)) (λ _. refl) (λ o. absurd (o refl))

  base_is : now.base r ≡ base
  base_is = ap (λ (f : ℕ → ℕ). f r) h.base ∙ at_room r r base (m.base r) (λ v. v ≡ base) (λ _. refl) (λ o. absurd (o refl))

  -- the link to the first slot was stored
  pub appends_some : 0 < length slots → Appends r start slots base m (put_room now (spot r (link_to start)) (start + 1))
  appends_some pos = by start refl
    where
      by : (s : ℕ) → s ≡ start → Appends r start slots base m (put_room now (spot r (link_to s)) (start + 1))
      by zero e = record {
        is = more_entries r start (length slots) slots (counted m r base (count_of (start + length slots))) now h;
        linked = record {
          linked = λ j l. behind j (omega arith) l;
          first = at_room r r (start + 1) (now.first r) (λ v. v ≡ first_of (start + length slots)) (λ _. (let one : start + 1 ≡ 1 = omega arith in one) ∙ sym (first_is (start + length slots) (omega arith))) (λ o. absurd (o refl));
        };
        count = count_is;
        base_is = base_is;
        entries_kept = record { key = h.entries_kept.key; value = h.entries_kept.value; next = h.entries_kept.next };
        counts_kept = record {
          base = counts_kept.base;
          count = counts_kept.count;
          first = λ q o. at_room q r (start + 1) (now.first q) (λ v. v ≡ m.first q) (λ b. absurd (o b)) (λ _. counts_kept.first q o);
        };
        bounds_kept = record { pin = h.bounds_kept.pin; latch = h.bounds_kept.latch; low = h.bounds_kept.low; high = h.bounds_kept.high };
      }
      by (suc i) e = record {
        is = more_entries r start (length slots) slots (counted m r base (count_of (start + length slots))) now h;
        linked = record {
          linked = λ j l. at_one j i r r (start + 1) (now.next r j) (λ v. v ≡ next_of j (start + length slots))
              (λ a _. (let two : start + 1 ≡ j + 2 = omega arith in two) ∙ sym (next_is j (start + length slots) (omega arith)))
              (λ o. dite (dec_lt j start) (λ u. dite (ℕ_discrete j i) (λ s. absurd (other j s o)) (λ s. before j (omega arith))) (λ u. behind j (omega arith) l));
          first = ap (λ (f : ℕ → ℕ). f r) h.first ∙ (linked.first ∙ (first_is start (omega arith) ∙ sym (first_is (start + length slots) (omega arith))));
        };
        count = count_is;
        base_is = base_is;
        entries_kept = record {
          key = h.entries_kept.key;
          value = h.entries_kept.value;
          next = λ q j f. at_one j i q r (start + 1) (now.next q j) (λ v. v ≡ m.next q j) (λ a b. let t = f b in absurd (omega arith)) (λ _. h.entries_kept.next q j f);
        };
        counts_kept = record { base = counts_kept.base; count = counts_kept.count; first = counts_kept.first };
        bounds_kept = record { pin = h.bounds_kept.pin; latch = h.bounds_kept.latch; low = h.bounds_kept.low; high = h.bounds_kept.high };
      }
        where
          other : (j : ℕ) → j ≡ i → (j ≢ i) ⊎ (r ≢ r) → ⊥
          other j s (inl a) = a s
          other j s (inr a) = a refl

-- the same for a number of slots
pub appends_after : (r start n base : ℕ) (slots : List SortSlot) (m now : RoomMemory) → IsLinked r start m → length slots ≡ n → 0 < n → StoresSlots r start slots (start + n) n (counted m r base (count_of (start + n))) now
    → Appends r start slots base m (put_room now (spot r (link_to start)) (start + 1))
appends_after r start n base slots m now linked long = subst (λ (k : ℕ). 0 < k → StoresSlots r start slots (start + k) k (counted m r base (count_of (start + k))) now → Appends r start slots base m (put_room now (spot r (link_to start)) (start + 1))) long
    (λ pos h. appends_some r start base slots m now linked h pos)
