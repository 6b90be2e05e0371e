-- Lists of held headers: what is in them, how often one is in them in a state, and what of that a step changes.
use Rattle.std.proofs.Common.{◌≡◌, ◌≢◌, ℕ, zero, suc, ◌+◌, ◌*◌, ◌<◌, List, [], ◌∷◌, sym, refl, ap, ◌∙◌, subst, arith, eq-eqb, ne_eqb, Bool, cond}
use mathlib.Core.Logic.{dite}
use mathlib.Core.Option.{some, some-injective, some-ne-none}
use native.Mathlib.Decide.{ℕ_discrete}
use lib.ListN.{get_elem?}
use Rattle.oak_model.specs.Counts.{one_at, total, Each, Has}
use Rattle.oak_model.proofs.Counting.{one_at-same, one_at-other, one_at-cases, one_at-true, total_zero}
use Rattle.oak_model.proofs.MemberLaws.{has_some, total_has}
use Rattle.oak_model.proofs.SumLaws.{total_sum}
use Rattle.header_core.specs.declared.states.TheConstants.{OWNED, LIVE, LOCKED, DEAD}
use Rattle.header_core.specs.declared.holds.HeldAs.{HeldAs}
use Rattle.header_core.specs.declared.holds.HeldAs.TheVariants.{Owned, Fresh, Locked, Buried}
use Rattle.header_core.specs.declared.holds.HeldHeader.{HeldHeader}
use Rattle.header_core.specs.HeaderHolds.{held_state, generation_held}
use Rattle.header_core.specs.HeaderRule.{stocked}

-- how often the header is in the list, and how often in the state

abbrev pub held_in : ℕ → List HeldHeader → ℕ
held_in h rs = total (λ (r : HeldHeader). one_at r.header h) rs

abbrev pub rows_in : ℕ → ℕ → List HeldHeader → ℕ
rows_in h s rs = total (λ (r : HeldHeader). one_at r.header h * one_at (held_state r.held_as) s) rs

abbrev pub fresh_in : ℕ → ℕ → List HeldHeader → ℕ
fresh_in h g rs = total (λ (r : HeldHeader). one_at r.header h * one_at r.generation g * one_at (held_state r.held_as) LIVE) rs

-- how often in a state with a block
abbrev pub stocked_in : ℕ → List HeldHeader → ℕ
stocked_in h rs = total (λ (r : HeldHeader). one_at r.header h * stocked (held_state r.held_as)) rs

-- of a list in general

module _ {A : Type 0} where
  -- where only one of a list counts, the sum is its
  pub total_alone : (f : A → ℕ) (xs : List A) (i : ℕ) (v : A) → get_elem? xs i ≡ some v → ((j : ℕ) (u : A) → get_elem? xs j ≡ some u → j ≢ i → f u ≡ 0) → total f xs ≡ f v
  unfolding total
  total_alone f [] i v at none = absurd (some-ne-none v (sym at))
  total_alone f (x ∷ xs) zero v at none = let s = ap f (some-injective x v at) in let z = total_zero f xs (λ j u e. none (suc j) u e (λ q. omega arith)) in omega arith
  total_alone f (x ∷ xs) (suc i) v at none = let z = none zero x refl (λ q. omega arith) in let t = total_alone f xs i v at (λ j u e ne. none (suc j) u e (λ q. ne (omega arith))) in omega arith

-- a held header is owned, or in a state with a block, which is one of three

owned_or_stocked : (x : ℕ) (q : HeldAs) → x ≡ x * one_at (held_state q) OWNED + x * stocked (held_state q)
unfolding one_at
owned_or_stocked x Owned = omega arith
owned_or_stocked x Fresh = omega arith
owned_or_stocked x (Locked at) = omega arith
owned_or_stocked x Buried = omega arith

stocked_parts : (x : ℕ) (q : HeldAs) → x * stocked (held_state q) ≡ x * one_at (held_state q) LIVE + (x * one_at (held_state q) LOCKED + x * one_at (held_state q) DEAD)
unfolding one_at
stocked_parts x Owned = omega arith
stocked_parts x Fresh = omega arith
stocked_parts x (Locked at) = omega arith
stocked_parts x Buried = omega arith

abbrev row : ℕ → ℕ → HeldHeader → ℕ
row h s r = one_at r.header h * one_at (held_state r.held_as) s

pub rows_split : (h : ℕ) (rs : List HeldHeader) → held_in h rs ≡ rows_in h OWNED rs + stocked_in h rs
rows_split h rs = total_sum (λ (r : HeldHeader). one_at r.header h) (row h OWNED) (λ (r : HeldHeader). one_at r.header h * stocked (held_state r.held_as)) rs (λ r. owned_or_stocked (one_at r.header h) r.held_as)

pub stocked_split : (h : ℕ) (rs : List HeldHeader) → stocked_in h rs ≡ rows_in h LIVE rs + (rows_in h LOCKED rs + rows_in h DEAD rs)
stocked_split h rs = total_sum (λ (r : HeldHeader). one_at r.header h * stocked (held_state r.held_as)) (row h LIVE) (λ (r : HeldHeader). row h LOCKED r + row h DEAD r) rs (λ r. stocked_parts (one_at r.header h) r.held_as)
    ∙ ap (λ (n : ℕ). rows_in h LIVE rs + n) (total_sum (λ (r : HeldHeader). row h LOCKED r + row h DEAD r) (row h LOCKED) (row h DEAD) rs (λ r. refl))

-- the record of a header that is held in a state

both_positive : (a b c d : ℕ) → 0 < one_at a b * one_at c d → (a ≡ b) × (c ≡ d)
both_positive a b c d = one_at-cases a b (λ k. 0 < k * one_at c d → (a ≡ b) × (c ≡ d)) (λ e l. (e, one_at-true c d (omega arith))) (λ _ l. absurd (omega arith))

pub row_of : (h s : ℕ) (rs : List HeldHeader) → 0 < rows_in h s rs → (r : HeldHeader) × Has r rs × (r.header ≡ h) × (held_state r.held_as ≡ s)
row_of h s rs l = let t = has_some (λ (r : HeldHeader). one_at r.header h * one_at (held_state r.held_as) s) rs l in let p = both_positive t.0.header h (held_state t.0.held_as) s t.2 in (t.0, t.1, p.0, p.1)

pub rows_have : (h s : ℕ) (rs : List HeldHeader) (r : HeldHeader) → Has r rs → r.header ≡ h → held_state r.held_as ≡ s → 0 < rows_in h s rs
rows_have h s rs r has e d = let t = total_has (λ (x : HeldHeader). one_at x.header h * one_at (held_state x.held_as) s) rs r has in let a = one_at-same r.header h e in
    let c : one_at r.header h * one_at (held_state r.held_as) s ≡ 1 * one_at (held_state r.held_as) s = ap (λ (k : ℕ). k * one_at (held_state r.held_as) s) a in let b = one_at-same (held_state r.held_as) s d in omega arith

pub fresh_row : (h g : ℕ) (rs : List HeldHeader) → 0 < fresh_in h g rs → (r : HeldHeader) × Has r rs × (r.header ≡ h) × (r.generation ≡ g) × (held_state r.held_as ≡ LIVE)
fresh_row h g rs l = let t = has_some (λ (r : HeldHeader). one_at r.header h * one_at r.generation g * one_at (held_state r.held_as) LIVE) rs l in let r : HeldHeader = t.0 in
    one_at-cases r.header h (λ k. 0 < k * one_at r.generation g * one_at (held_state r.held_as) LIVE → (r : HeldHeader) × Has r rs × (r.header ≡ h) × (r.generation ≡ g) × (held_state r.held_as ≡ LIVE))
    (λ e p. let q = both_positive r.generation g (held_state r.held_as) LIVE (subst (λ (k : ℕ). 0 < k * one_at (held_state r.held_as) LIVE) (let o : 1 * one_at r.generation g ≡ one_at r.generation g = omega arith in o) p) in (r, t.1, e, q.0, q.1))
    (λ _ p. absurd (omega arith)) t.2

-- the record that `generation_held` reads
pub generation_in : (h : ℕ) (P : ℕ → ℕ → Type 0) (rs : List HeldHeader) → Each (λ (r : HeldHeader). P r.header r.generation) rs → 0 < held_in h rs → P h (generation_held h rs)
unfolding total
generation_in h P [] e l = absurd (omega arith)
generation_in h P (r ∷ rs) e l = dite (ℕ_discrete r.header h)
    (λ q. subst (P h) (sym (ap (λ (b : Bool). cond b r.generation (generation_held h rs)) (eq-eqb r.header h q))) (subst (λ (k : ℕ). P k r.generation) q e.0))
    (λ n. subst (P h) (sym (ap (λ (b : Bool). cond b r.generation (generation_held h rs)) (ne_eqb r.header h n))) (generation_in h P rs e.1 (let o = one_at-other r.header h n in omega arith)))
