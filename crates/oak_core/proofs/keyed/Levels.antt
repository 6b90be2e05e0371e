-- The level of a key, above which each later write of it comes: what it is by the key's entry, and that no step on an entry lowers it.
use Rattle.std.proofs.Common.{◌≡◌, ◌≢◌, ℕ, zero, suc, ◌+◌, ◌/◌, ◌^◌, ◌≤◌, ◌⊎◌, cond, Bool, List, [], sym, refl, ap, ◌∙◌, subst, inl, inr, arith, eq-eqb, ne_eqb, append-nil}
use mathlib.Core.Logic.{dite}
use native.Mathlib.Decide.{ℕ_discrete}
use Rattle.oak_model.specs.Limits.{Sizes}
use Rattle.oak_model.specs.State.{State}
use Rattle.oak_model.proofs.Counting.{one_at-cases}
use Rattle.header_core.specs.Headers.{HeaderMemory}
use Rattle.chunk_core.specs.ValueWord.{names_header}
use Rattle.oak_core.specs.declared.states.KeyedWrite.{KeyedWrite}
use Rattle.oak_core.specs.declared.states.PassState.{PassState}
use Rattle.oak_core.specs.KeyHistories.{stamp_behind}
use Rattle.oak_core.specs.KeyReads.{word_now, base_now, history_now, level_in, level_now}
use Rattle.oak_core.specs.KeyStates.{KeyStands}
use Rattle.oak_core.specs.Lessons.{GoesUp}
use Rattle.oak_core.specs.Memory.{Memory}

-- a value word is a floor or names a header
pub named_or : (v : ℕ) → (names_header v ≡ 0) ⊎ (names_header v ≡ 1)
unfolding names_header
named_or v = one_at-cases (v / 2 ^ 63) 1 (λ (n : ℕ). (n ≡ 0) ⊎ (n ≡ 1)) (λ _. inr refl) (λ _. inl refl)

-- what the level is

pub level-none : (base last w : ℕ) → w ≡ 0 → level_in base last w ≡ base
level-none base last zero e = refl
level-none base last (suc v) e = absurd (omega arith)

pub level-floor : (base last w f : ℕ) → w ≡ f + 1 → names_header f ≡ 0 → level_in base last w ≡ f
level-floor base last zero f e n = absurd (omega arith)
level-floor base last (suc v) f e n = let same : v ≡ f = omega arith in subst (λ (t : Bool). cond t v last ≡ f) (sym (eq-eqb (names_header v) 0 (ap names_header same ∙ n))) same

pub level-named : (base last w v : ℕ) → w ≡ v + 1 → names_header v ≡ 1 → level_in base last w ≡ last
level-named base last zero v e n = absurd (omega arith)
level-named base last (suc u) v e n = let same : u ≡ v = omega arith in let q = ap names_header same in ap (λ (t : Bool). cond t u last) (ne_eqb (names_header u) 0 (λ o. absurd (omega arith)))

-- by what the entry is
pub level-cases : (base last w : ℕ) (P : ℕ → Type 0) → (w ≡ 0 → P base) → ((f : ℕ) → w ≡ f + 1 → names_header f ≡ 0 → P f) → ((v : ℕ) → w ≡ v + 1 → names_header v ≡ 1 → P last) → P (level_in base last w)
level-cases base last zero P none floor named = none refl
level-cases base last (suc v) P none floor named = by (named_or v)
  where
    by : (names_header v ≡ 0) ⊎ (names_header v ≡ 1) → P (level_in base last (suc v))
    by (inl e) = subst P (sym (level-floor base last (suc v) v (omega arith) e)) (floor v (omega arith) e)
    by (inr e) = subst P (sym (level-named base last (suc v) v (omega arith) e)) (named v (omega arith) e)

-- the last stamp of a key is at most its level
pub level-last : (z : Sizes) (m : HeaderMemory) (shown : ℕ → State) (base w : ℕ) (h : List KeyedWrite) → KeyStands z m shown base w h → stamp_behind h ≤ level_in base (stamp_behind h) w
level-last z m shown base w h k = level-cases base (stamp_behind h) w (λ t. stamp_behind h ≤ t) (λ e. (k.none e).1) (λ f e n. (k.floor f e n).1) (λ v e n. omega arith)

-- no level falls

pub goes_same : (base base' w w' : ℕ) (h h' : List KeyedWrite) → w' ≡ w → h' ≡ h → base ≤ base' → GoesUp (level_in base (stamp_behind h) w) (level_in base' (stamp_behind h') w') h h'
goes_same base base' w w' h h' ew eh le = subst (λ (t : ℕ × List KeyedWrite). GoesUp (level_in base (stamp_behind h) w) (level_in base' (stamp_behind t.1) t.0) h t.1) (λ i. (sym ew i, sym eh i)) (record {
  rises = level-cases base (stamp_behind h) w (λ t. t ≤ level_in base' (stamp_behind h) w) (λ e. let n = level-none base' (stamp_behind h) w e in omega arith)
      (λ f e no. let n = level-floor base' (stamp_behind h) w f e no in omega arith) (λ v e yes. let n = level-named base' (stamp_behind h) w v e yes in omega arith);
  more = [];
  grown = sym (append-nil h);
  above = tt;
})

-- an entry is added, with a floor that is not below the base
pub goes_added : (base base' w w' f : ℕ) (h h' : List KeyedWrite) → w ≡ 0 → w' ≡ f + 1 → names_header f ≡ 0 → base ≤ f → h' ≡ h → GoesUp (level_in base (stamp_behind h) w) (level_in base' (stamp_behind h') w') h h'
goes_added base base' w w' f h h' e e' n le eh = record {
  rises = let a = level-none base (stamp_behind h) w e in let b = level-floor base' (stamp_behind h') w' f e' n in omega arith;
  more = [];
  grown = eh ∙ sym (append-nil h);
  above = tt;
}

-- an entry with a floor goes, and the base is not below that
pub goes_dropped : (base base' w w' f : ℕ) (h h' : List KeyedWrite) → w ≡ f + 1 → names_header f ≡ 0 → w' ≡ 0 → f ≤ base' → h' ≡ h → GoesUp (level_in base (stamp_behind h) w) (level_in base' (stamp_behind h') w') h h'
goes_dropped base base' w w' f h h' e n e' le eh = record {
  rises = let a = level-floor base (stamp_behind h) w f e n in let b = level-none base' (stamp_behind h') w' e' in omega arith;
  more = [];
  grown = eh ∙ sym (append-nil h);
  above = tt;
}

-- a named header gives way to a floor that is not below the last stamp
pub goes_unlinked : (base base' w w' v f : ℕ) (h h' : List KeyedWrite) → w ≡ v + 1 → names_header v ≡ 1 → w' ≡ f + 1 → names_header f ≡ 0 → stamp_behind h ≤ f → h' ≡ h → GoesUp (level_in base (stamp_behind h) w) (level_in base' (stamp_behind h') w') h h'
goes_unlinked base base' w w' v f h h' e n e' n' le eh = record {
  rises = let a = level-named base (stamp_behind h) w v e n in let b = level-floor base' (stamp_behind h') w' f e' n' in omega arith;
  more = [];
  grown = eh ∙ sym (append-nil h);
  above = tt;
}

-- the base of a key that has no entry never falls
pub base_rises : (base base' last last' w w' : ℕ) → level_in base last w ≤ level_in base' last' w' → w ≡ 0 → w' ≡ 0 → base ≤ base'
base_rises base base' last last' w w' le e e' = let a = level-none base last w e in let b = level-none base' last' w' e' in omega arith

-- from one moment to another
module _ (z : Sizes) (m m' : Memory) (vs vs' : List PassState) where
  -- no key's entry or history changes, and bases rise at most
  pub level_framed : ((k : ℕ) → word_now z m' vs' k ≡ word_now z m vs k) → ((k : ℕ) → base_now z m vs k ≤ base_now z m' vs' k) → ((k : ℕ) → history_now vs' k ≡ history_now vs k) → (k : ℕ) → GoesUp (level_now z m vs k) (level_now z m' vs' k) (history_now vs k) (history_now vs' k)
  level_framed ew le eh k = goes_same (base_now z m vs k) (base_now z m' vs' k) (word_now z m vs k) (word_now z m' vs' k) (history_now vs k) (history_now vs' k) (ew k) (eh k) (le k)

  -- or those of one key alone
  pub level_at : (k0 : ℕ) → GoesUp (level_now z m vs k0) (level_now z m' vs' k0) (history_now vs k0) (history_now vs' k0)
      → ((k : ℕ) → k ≢ k0 → word_now z m' vs' k ≡ word_now z m vs k) → ((k : ℕ) → base_now z m vs k ≤ base_now z m' vs' k) → ((k : ℕ) → k ≢ k0 → history_now vs' k ≡ history_now vs k) → (k : ℕ) → GoesUp (level_now z m vs k) (level_now z m' vs' k) (history_now vs k) (history_now vs' k)
  level_at k0 there ew le eh k = dite (ℕ_discrete k k0) (λ e. subst (λ (t : ℕ). GoesUp (level_now z m vs t) (level_now z m' vs' t) (history_now vs t) (history_now vs' t)) (sym e) there)
      (λ ne. goes_same (base_now z m vs k) (base_now z m' vs' k) (word_now z m vs k) (word_now z m' vs' k) (history_now vs k) (history_now vs' k) (ew k ne) (eh k ne) (le k))
