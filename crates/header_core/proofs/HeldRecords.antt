-- Lists of held headers, of which each record comes to have other words or another state.
use Rattle.std.proofs.Common.{◌≡◌, ◌≢◌, ℕ, ◌*◌, List, [], ◌∷◌, map, sym, refl, ap, ◌∙◌, subst, arith}
use mathlib.Core.Logic.{dite}
use native.Mathlib.Decide.{ℕ_discrete}
use Rattle.oak_model.specs.Counts.{one_at, total, Each}
use Rattle.oak_model.proofs.Counting.{one_at-same, one_at-other, total_map, total_zero}
use Rattle.oak_model.proofs.SumLaws.{total_same}
use Rattle.header_core.specs.declared.states.TheConstants.{LIVE}
use Rattle.header_core.specs.declared.holds.HeldHeader.{HeldHeader}
use Rattle.header_core.specs.HeaderHolds.{held_state}
use Rattle.header_core.proofs.HeldHeaders.{held_in, rows_in, fresh_in}

-- the same records, with other words or other states

module _ (f : HeldHeader → HeldHeader) (header : (r : HeldHeader) → (f r).header ≡ r.header) where
  pub each_kept : (P : ℕ → ℕ → Type 0) (rs : List HeldHeader) → ((r : HeldHeader) → (f r).generation ≡ r.generation) → Each (λ (r : HeldHeader). P r.header r.generation) rs → Each (λ (r : HeldHeader). P r.header r.generation) (map f rs)
  each_kept P [] same e = tt
  each_kept P (r ∷ rs) same e = (subst (λ (t : ℕ × ℕ). P t.0 t.1) (λ i. (sym (header r) i, sym (same r) i)) e.0, each_kept P rs same e.1)

  module _ (state : (r : HeldHeader) → held_state (f r).held_as ≡ held_state r.held_as) where
    pub rows_kept : (k s : ℕ) (rs : List HeldHeader) → rows_in k s (map f rs) ≡ rows_in k s rs
    rows_kept k s rs = total_map f (λ (r : HeldHeader). one_at r.header k * one_at (held_state r.held_as) s) rs ∙ (λ i. total (λ (r : HeldHeader). one_at (header r i) k * one_at (state r i) s) rs)

    pub fresh_kept : (k g : ℕ) (rs : List HeldHeader) → ((r : HeldHeader) → (f r).generation ≡ r.generation) → fresh_in k g (map f rs) ≡ fresh_in k g rs
    fresh_kept k g rs same = total_map f (λ (r : HeldHeader). one_at r.header k * one_at r.generation g * one_at (held_state r.held_as) LIVE) rs
        ∙ (λ i. total (λ (r : HeldHeader). one_at (header r i) k * one_at (same r i) g * one_at (state r i) LIVE) rs)

zeros : (rs : List HeldHeader) → total (λ (r : HeldHeader). 0) rs ≡ 0
zeros rs = total_zero (λ (r : HeldHeader). 0) rs (λ _ _ _. refl)

-- one header comes to the state s
module _ (h s : ℕ) (f : HeldHeader → HeldHeader) (header : (r : HeldHeader) → (f r).header ≡ r.header)
    (here : (r : HeldHeader) → r.header ≡ h → held_state (f r).held_as ≡ s) (other : (r : HeldHeader) → r.header ≢ h → held_state (f r).held_as ≡ held_state r.held_as) where
  away : (k : ℕ) (r : HeldHeader) → r.header ≢ k → (n : ℕ) → one_at (f r).header k * n ≡ 0
  away k r ne n = ap (λ (i : ℕ). one_at i k * n) (header r) ∙ (ap (λ (i : ℕ). i * n) (one_at-other r.header k ne) ∙ (let z : 0 * n ≡ 0 = omega arith in z))

  pub rows_turned-here : (rs : List HeldHeader) → rows_in h s (map f rs) ≡ held_in h rs
  rows_turned-here rs = total_map f (λ (r : HeldHeader). one_at r.header h * one_at (held_state r.held_as) s) rs
      ∙ total_same (λ (r : HeldHeader). one_at (f r).header h * one_at (held_state (f r).held_as) s) (λ (r : HeldHeader). one_at r.header h) rs (λ r. dite (ℕ_discrete r.header h)
      (λ e. ap (λ (k : ℕ). one_at (f r).header h * k) (one_at-same (held_state (f r).held_as) s (here r e)) ∙ ((let o : one_at (f r).header h * 1 ≡ one_at (f r).header h = omega arith in o) ∙ ap (λ (i : ℕ). one_at i h) (header r)))
      (λ ne. away h r ne (one_at (held_state (f r).held_as) s) ∙ sym (one_at-other r.header h ne)))

  pub rows_turned-else : (t : ℕ) (rs : List HeldHeader) → t ≢ s → rows_in h t (map f rs) ≡ 0
  rows_turned-else t rs n = total_map f (λ (r : HeldHeader). one_at r.header h * one_at (held_state r.held_as) t) rs
      ∙ total_same (λ (r : HeldHeader). one_at (f r).header h * one_at (held_state (f r).held_as) t) (λ (r : HeldHeader). 0) rs (λ r. dite (ℕ_discrete r.header h)
      (λ e. ap (λ (k : ℕ). one_at (f r).header h * k) (one_at-other (held_state (f r).held_as) t (λ q. n (sym q ∙ here r e))) ∙ (let o : one_at (f r).header h * 0 ≡ 0 = omega arith in o))
      (λ ne. away h r ne (one_at (held_state (f r).held_as) t))) ∙ zeros rs

  pub rows_turned-others : (k t : ℕ) (rs : List HeldHeader) → k ≢ h → rows_in k t (map f rs) ≡ rows_in k t rs
  rows_turned-others k t rs n = total_map f (λ (r : HeldHeader). one_at r.header k * one_at (held_state r.held_as) t) rs
      ∙ total_same (λ (r : HeldHeader). one_at (f r).header k * one_at (held_state (f r).held_as) t) (λ (r : HeldHeader). one_at r.header k * one_at (held_state r.held_as) t) rs (λ r. dite (ℕ_discrete r.header h)
      (λ e. let ne : r.header ≢ k = λ q. n (sym q ∙ e) in away k r ne (one_at (held_state (f r).held_as) t) ∙ sym (ap (λ (i : ℕ). i * one_at (held_state r.held_as) t) (one_at-other r.header k ne) ∙ (let z : 0 * one_at (held_state r.held_as) t ≡ 0 = omega arith in z)))
      (λ ne. λ i. one_at (header r i) k * one_at (other r ne i) t))

  pub fresh_turned-others : (k g : ℕ) (rs : List HeldHeader) → ((r : HeldHeader) → (f r).generation ≡ r.generation) → k ≢ h → fresh_in k g (map f rs) ≡ fresh_in k g rs
  fresh_turned-others k g rs same n = total_map f (λ (r : HeldHeader). one_at r.header k * one_at r.generation g * one_at (held_state r.held_as) LIVE) rs
      ∙ total_same (λ (r : HeldHeader). one_at (f r).header k * one_at (f r).generation g * one_at (held_state (f r).held_as) LIVE) (λ (r : HeldHeader). one_at r.header k * one_at r.generation g * one_at (held_state r.held_as) LIVE) rs (λ r. dite (ℕ_discrete r.header h)
      (λ e. let ne : r.header ≢ k = λ q. n (sym q ∙ e) in let y : ℕ = one_at r.generation g in let z : ℕ = one_at (held_state r.held_as) LIVE in
      ap (λ (i : ℕ). i * one_at (held_state (f r).held_as) LIVE) (away k r ne (one_at (f r).generation g)) ∙ ((let o : 0 * one_at (held_state (f r).held_as) LIVE ≡ 0 * y * z = omega arith in o) ∙ ap (λ (i : ℕ). i * y * z) (sym (one_at-other r.header k ne))))
      (λ ne. λ i. one_at (header r i) k * one_at (same r i) g * one_at (other r ne i) LIVE))
