-- A search through the bits of a word, and through the words of a class.
use Rattle.std.proofs.Common.{◌≡◌, ℕ, ◌+◌, ◌-◌, ◌*◌, ◌/◌, ◌%◌, ◌^◌, ◌<◌, ◌≤◌, ◌⊎◌, sym, ◌∙◌, subst, arith, inl, inr, Option, Some, None, IfNone, IfSome}
use Rattle.std.specs.Prelude.{bit_and}
use Rattle.std.specs.Int.{bit_at}
use Rattle.std.proofs.lemmas.Nat.Bits.{bit_at-lt, bit_at-zero}
use mathlib.Core.Logic.{dite}
use native.Mathlib.Decide.{ℕ_discrete, dec_lt}
use Rattle.oak_model.specs.declared.classes.Class.{Class}
use Rattle.oak_model.specs.Class.{class_number}
use Rattle.oak_model.specs.Limits.{Sizes}
use Rattle.arena_core.specs.Arena.{blocks, bit_words}
use Rattle.oak_core.specs.declared.states.PassState.{PassState}
use Rattle.arena_ops.specs.Looking.{Looked}
use Rattle.arena_ops.specs.Taking.{FindsNone, Takes}
use Rattle.arena_ops.proofs.MaskFacts.{not_left}
use Rattle.arena_ops.proofs.LookLaws.{looked_only, looked_both}

pub if_none : {A : Type 0} (o : Option A) (P Q : Type 0) → (P → Q) → IfNone o P → IfNone o Q
if_none None P Q f p = f p
if_none (Some a) P Q f p = tt

pub if_some : {A : Type 0} (o : Option A) (P Q : A → Type 0) → ((a : A) → P a → Q a) → IfSome o P → IfSome o Q
if_some None P Q f p = tt
if_some (Some a) P Q f p = f a p

-- what was done is of the call
module _ (z : Sizes) (first now : ℕ) (c : Class) (v w : PassState) (same : now ≡ first) where
  pub looked_in : (P : ℕ → Type 0) → Looked z now c v w P → Looked z first c v w P
  looked_in P l = subst (λ (k : ℕ). Looked z k c v w P) same l

  pub takes_in : (b : ℕ) → Takes z now c b v w → Takes z first c b v w
  takes_in b t = subst (λ (k : ℕ). Takes z k c b v w) same t

module _ (z : Sizes) (call : ℕ) (c : Class) (v : PassState) where
  -- the bits of word i that are found set are those that the mask has lost
  pub word_begun : (i mask n : ℕ) (w : PassState) → n < 2 ^ 64 → ((k : ℕ) → k < 64 → i * 64 + k < blocks z (class_number c) → bit_at mask k ≡ 1)
      → Looked z call c v w (λ b. (b / 64 ≡ i) × (bit_at n (b % 64) ≡ 1)) → Looked z call c v w (λ b. (b / 64 ≡ i) × (bit_at (bit_and mask (2 ^ 64 - 1 - n)) (b % 64) ≡ 0))
  word_begun i mask n w small has = looked_only z call c v w (λ b. (b / 64 ≡ i) × (bit_at n (b % 64) ≡ 1)) (λ b. (b / 64 ≡ i) × (bit_at (bit_and mask (2 ^ 64 - 1 - n)) (b % 64) ≡ 0))
      (λ b lb p. let d : b / 64 ≡ i = p.0 in (p.0, not_left mask n (b % 64) small (omega arith) (has (b % 64) (omega arith) (omega arith)) p.1))

  pub word_next : (i clear n block : ℕ) (w x : PassState) → n < 2 ^ 64 → block / 64 ≡ i → Looked z call c v w (λ b. (b / 64 ≡ i) × (bit_at clear (b % 64) ≡ 0))
      → Looked z call c w x (λ b. (b / 64 ≡ block / 64) × (bit_at n (b % 64) ≡ 1)) → Looked z call c v x (λ b. (b / 64 ≡ i) × (bit_at (bit_and clear (2 ^ 64 - 1 - n)) (b % 64) ≡ 0))
  word_next i clear n block w x small at l k = looked_only z call c v x (λ b. ((b / 64 ≡ i) × (bit_at clear (b % 64) ≡ 0)) ⊎ ((b / 64 ≡ block / 64) × (bit_at n (b % 64) ≡ 1))) (λ b. (b / 64 ≡ i) × (bit_at (bit_and clear (2 ^ 64 - 1 - n)) (b % 64) ≡ 0))
      (λ b lb p. dite (ℕ_discrete (bit_at clear (b % 64)) 0) (λ e. inl (p.0, e))
      (λ ne. let one = bit_at-lt clear (b % 64) in inr (p.0 ∙ sym at, not_left clear n (b % 64) small (omega arith) (omega arith) p.1)))
      (looked_both z call c v w x (λ b. (b / 64 ≡ i) × (bit_at clear (b % 64) ≡ 0)) (λ b. (b / 64 ≡ block / 64) × (bit_at n (b % 64) ≡ 1)) l k)

  pub word_ended : (i : ℕ) (w : PassState) → Looked z call c v w (λ b. (b / 64 ≡ i) × (bit_at 0 (b % 64) ≡ 0)) → Looked z call c v w (λ b. b / 64 ≡ i)
  word_ended i w = looked_only z call c v w (λ b. (b / 64 ≡ i) × (bit_at 0 (b % 64) ≡ 0)) (λ b. b / 64 ≡ i) (λ b lb p. (p, bit_at-zero (b % 64)))

  pub next_word : (from i : ℕ) (w x : PassState) → Looked z call c v w (λ b. (from ≤ b / 64) × (b / 64 < i)) → Looked z call c w x (λ b. b / 64 ≡ i) → Looked z call c v x (λ b. (from ≤ b / 64) × (b / 64 < i + 1))
  next_word from i w x l k = looked_only z call c v x (λ b. ((from ≤ b / 64) × (b / 64 < i)) ⊎ (b / 64 ≡ i)) (λ b. (from ≤ b / 64) × (b / 64 < i + 1))
      (λ b lb p. let q : b / 64 < i + 1 = p.1 in dite (dec_lt (b / 64) i) (λ lt. inl (p.0, lt)) (λ no. inr (omega arith)))
      (looked_both z call c v w x (λ b. (from ≤ b / 64) × (b / 64 < i)) (λ b. b / 64 ≡ i) l k)

  -- round once
  pub all_round : (first words : ℕ) (w x y : PassState) (P : ℕ → Type 0) → words ≡ bit_words z (class_number c) → Looked z call c v w P → Looked z call c w x (λ b. (first ≤ b / 64) × (b / 64 < words))
      → Looked z call c x y (λ b. (0 ≤ b / 64) × (b / 64 < first)) → FindsNone z call c v y
  all_round first words w x y P all l k m = looked_only z call c v y (λ b. (P b ⊎ ((first ≤ b / 64) × (b / 64 < words))) ⊎ ((0 ≤ b / 64) × (b / 64 < first))) (λ b. Unit {0})
      (λ b lb p. dite (dec_lt (b / 64) first) (λ lt. inr (omega arith, lt)) (λ no. inl (inr (omega arith, omega arith))))
      (looked_both z call c v x y (λ b. P b ⊎ ((first ≤ b / 64) × (b / 64 < words))) (λ b. (0 ≤ b / 64) × (b / 64 < first)) (looked_both z call c v w x P (λ b. (first ≤ b / 64) × (b / 64 < words)) l k) m)
