-- Held headers of which one is stored to, becomes fresh or goes: what is said of their keys, and how many are named no more.
use Rattle.std.specs.Prelude.{not}
use Rattle.std.proofs.Common.{◌≡◌, ◌≢◌, ℕ, ◌+◌, ◌*◌, ◌==◌, cond, false, List, ◌∷◌, sym, refl, ap, ◌∙◌, subst, arith}
use Rattle.oak_model.specs.Counts.{one_at, one_if, total}
use Rattle.oak_model.specs.KeyNumber.{key_number}
use Rattle.oak_model.proofs.Counting.{total_map, one_at-other, decided}
use Rattle.oak_model.proofs.SumLaws.{total_same}
use Rattle.header_core.specs.HeaderHolds.{held_state}
use Rattle.header_core.specs.HeaderStep.{freshened, owned_at}
use Rattle.header_core.specs.Headers.{HeaderMemory}
use Rattle.header_core.specs.declared.holds.HeldAs.{HeldAs}
use Rattle.header_core.specs.declared.holds.HeldAs.TheVariants.{Owned, Fresh, Locked, Buried}
use Rattle.header_core.specs.declared.holds.HeldHeader.{HeldHeader}
use Rattle.header_core.specs.declared.states.TheConstants.{OWNED, LIVE, DEAD}
use Rattle.header_core.proofs.HeldChanges.{rows_claimed}
use Rattle.header_core.proofs.HeldHeaders.{rows_in}
use Rattle.oak_core.specs.declared.states.KeyedWrite.{KeyedWrite}
use Rattle.oak_core.specs.KeyHistories.{IsRemovedAt}
use Rattle.oak_core.specs.KeyReads.{home_of}
use Rattle.oak_core.specs.KeyStates.{HoldStands}
use Rattle.oak_core.proofs.held.UnnamedHeaders.{unnamed_in}

-- a header is held in one of the states between
-- what is said of a held header speaks of its key, and where it is buried of its stamp
pub hold_stored : (word : ℕ → ℕ) (hist : ℕ → List KeyedWrite) (s : HeldAs) (r : HeldHeader) (place stamp : ℕ) (words : List ℕ) → (held_state s ≡ DEAD → stamp ≡ r.stamp) → HoldStands word hist s r → HoldStands word hist s (record r { place = place; stamp = stamp; words = words })
hold_stored word hist Owned r place stamp words same p = p
hold_stored word hist Fresh r place stamp words same p = p
hold_stored word hist (Locked at) r place stamp words same p = record { named = p.named; flag = p.flag; key = p.key; state = p.state; stamp = p.stamp }
hold_stored word hist Buried r place stamp words same p = record { named = p.named; removed = subst (λ (t : ℕ). IsRemovedAt (home_of r.header r.generation) t (hist (key_number r.key))) (sym (same refl)) p.removed }

-- an owned header is named by no entry
pub owned_unnamed : (word : ℕ → ℕ) (hist : ℕ → List KeyedWrite) (s : HeldAs) (r : HeldHeader) → held_state s ≡ OWNED → HoldStands word hist s r → r.named ≡ false
owned_unnamed word hist Owned r e p = p
owned_unnamed word hist Fresh r e p = p
owned_unnamed word hist (Locked at) r e p = absurd (omega arith)
owned_unnamed word hist Buried r e p = absurd (omega arith)

-- one more that is owned is neither fresh nor buried

no_part : (a b n : ℕ) → a * 0 * b + n ≡ n
no_part a b n = grind arith

pub owned_not_fresh : (m : HeaderMemory) (h k : ℕ) (rs : List HeldHeader) → rows_in k LIVE (owned_at m h ∷ rs) ≡ rows_in k LIVE rs
owned_not_fresh m h k rs = rows_claimed m h k LIVE rs ∙ (ap (λ (t : ℕ). one_at h k * t + rows_in k LIVE rs) (one_at-other OWNED LIVE (λ e. omega arith)) ∙ (let q : one_at h k * 0 + rows_in k LIVE rs ≡ rows_in k LIVE rs = omega arith in q))

pub owned_not_buried : (m : HeaderMemory) (h k : ℕ) (rs : List HeldHeader) → unnamed_in k (owned_at m h ∷ rs) ≡ unnamed_in k rs
unfolding unnamed_in total
owned_not_buried m h k rs = ap (λ (t : ℕ). one_at h k * t * one_if (not false) + unnamed_in k rs) (one_at-other OWNED DEAD (λ e. omega arith)) ∙ no_part (one_at h k) (one_if (not false)) (unnamed_in k rs)

-- of another header than the one that becomes fresh as many are named no more
pub unnamed_freshened-others : (h k : ℕ) (words : List ℕ) (rs : List HeldHeader) → k ≢ h → unnamed_in k (freshened h words rs) ≡ unnamed_in k rs
unfolding unnamed_in
unnamed_freshened-others h k words rs ne = total_map (λ (r : HeldHeader). record r { held_as = cond (r.header == h) Fresh r.held_as; words = cond (r.header == h) words r.words }) (λ (r : HeldHeader). one_at r.header k * one_at (held_state r.held_as) DEAD * one_if (not r.named)) rs
    ∙ total_same (λ (r : HeldHeader). one_at r.header k * one_at (held_state (cond (r.header == h) Fresh r.held_as)) DEAD * one_if (not r.named)) (λ (r : HeldHeader). one_at r.header k * one_at (held_state r.held_as) DEAD * one_if (not r.named)) rs
    (λ r. decided r.header h (λ t. one_at r.header k * one_at (held_state (cond t Fresh r.held_as)) DEAD * one_if (not r.named) ≡ one_at r.header k * one_at (held_state r.held_as) DEAD * one_if (not r.named))
    (λ e. none (one_at r.header k) (one_at (held_state Fresh) DEAD) (one_at (held_state r.held_as) DEAD) (one_if (not r.named)) (one_at-other r.header k (λ q. ne (sym q ∙ e)))) (λ _. refl))
  where
    none : (o a b c : ℕ) → o ≡ 0 → o * a * c ≡ o * b * c
    none o a b c e = ap (λ (t : ℕ). t * a * c) e ∙ (let q : 0 * a * c ≡ 0 * b * c = omega arith in q) ∙ sym (ap (λ (t : ℕ). t * b * c) e)
