-- Entries of a held room are cleared.
use Rattle.std.proofs.Common.{◌≡◌, ◌≢◌, ℕ, ◌+◌, ◌-◌, ◌<◌, ◌≤◌, ◌⊎◌, inl, inr, refl, arith, subst}
use mathlib.Core.Logic.{dite}
use native.Mathlib.Decide.{ℕ_discrete}
use Rattle.chunk_core.specs.Rooms.{RoomMemory}
use Rattle.rebalance.specs.Filled.{AreBare, ClearsEntries, bare_entry}
use Rattle.rebalance.proofs.StoredWords.{at_one}

module _ (r from : ℕ) (m : RoomMemory) where
  -- no entry was cleared yet
  pub none_cleared : ClearsEntries r from 0 m m
  none_cleared = record {
    bare = λ j l. absurd (omega arith);
    key = λ q j f. refl;
    value = λ q j f. refl;
    next = refl;
    base = refl;
    count = refl;
    first = refl;
    bounds_kept = record { pin = refl; latch = refl; low = refl; high = refl };
  }

  -- one more was
  pub cleared_more : (i : ℕ) (now : RoomMemory) → ClearsEntries r from i m now → ClearsEntries r from (i + 1) m (bare_entry now r (from + i))
  cleared_more i now h = record {
    bare = λ j l. (
      at_one (from + j) (from + i) r r 0 (now.key r (from + j)) (λ v. v ≡ 0) (λ _ _. refl) (λ o. (h.bare j (less j l o)).0),
      at_one (from + j) (from + i) r r 0 (now.value r (from + j)) (λ v. v ≡ 0) (λ _ _. refl) (λ o. (h.bare j (less j l o)).1),
    );
    key = λ q j f. at_one j (from + i) q r 0 (now.key q j) (λ v. v ≡ m.key q j) (λ a b. absurd (other j a (f b))) (λ _. h.key q j (λ b. fewer j (f b)));
    value = λ q j f. at_one j (from + i) q r 0 (now.value q j) (λ v. v ≡ m.value q j) (λ a b. absurd (other j a (f b))) (λ _. h.value q j (λ b. fewer j (f b)));
    next = h.next;
    base = h.base;
    count = h.count;
    first = h.first;
    bounds_kept = record { pin = h.bounds_kept.pin; latch = h.bounds_kept.latch; low = h.bounds_kept.low; high = h.bounds_kept.high };
  }
    where
      less : (j : ℕ) → j < i + 1 → (from + j ≢ from + i) ⊎ (r ≢ r) → j < i
      less j l (inl a) = dite (ℕ_discrete j i) (λ e. absurd (a (λ t. from + e t))) (λ o. omega arith)
      less j l (inr a) = absurd (a refl)

      other : (j : ℕ) → j ≡ from + i → (j < from) ⊎ (from + (i + 1) ≤ j) → ⊥
      other j a (inl b) = absurd (omega arith)
      other j a (inr b) = absurd (omega arith)

      fewer : (j : ℕ) → (j < from) ⊎ (from + (i + 1) ≤ j) → (j < from) ⊎ (from + i ≤ j)
      fewer j (inl b) = inl b
      fewer j (inr b) = inr (omega arith)

  -- all behind the first ones were
  pub cleared_rest : (e : ℕ) (m' : RoomMemory) → from ≤ e → ClearsEntries r from (e - from) m m' → AreBare e r from m'
  cleared_rest e m' few h j le l = subst (λ (k : ℕ). (m'.key r k ≡ 0) × (m'.value r k ≡ 0)) (let k : from + (j - from) ≡ j = omega arith in k) (h.bare (j - from) (omega arith))
