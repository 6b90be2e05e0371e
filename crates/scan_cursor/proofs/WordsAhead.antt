-- The numbers of the words that a scan loads ahead: each is that of a word of the table whose load teaches nothing.
use Rattle.std.proofs.Common.{◌≡◌, ℕ, zero, suc, ◌<◌, List, length, get_or, set, replicate, take, sym, refl, subst, get_or-set_other, get_or-set_same}
use mathlib.Core.Logic.{dite}
use native.Mathlib.Decide.{ℕ_discrete}
use Rattle.oak_model.specs.Limits.{Sizes}
use Rattle.oak_core.specs.declared.states.PassState.{PassState}
use Rattle.oak_core.specs.Memory.{at_given, index, word_count}
use Rattle.oak_core.specs.Splitting.{Loads}
use Rattle.oak_core.proofs.memory.Words.{index_below}
use Rattle.chunk_ops.specs.PinRecords.{OnlyMeets}
use Rattle.chunk_ops.proofs.WordLoads.{only_loaded}
use Rattle.scan_cursor.specs.LoadingAhead.{ArePlainWords, IsPlainWord}

-- word 0
pub word_0 : (z : Sizes) → IsPlainWord z 0
unfolding index
word_0 z = record { spot = at_given; inside = tt; plain = tt; is = refl }

zeros_at : (n m i : ℕ) → get_or (take n (replicate {A = ℕ} m 0)) i 0 ≡ 0
zeros_at zero m i = refl
zeros_at (suc n) zero i = refl
zeros_at (suc n) (suc m) zero = refl
zeros_at (suc n) (suc m) (suc i) = zeros_at n m i

-- the front of a row of zeros names word 0 alone
pub words_0 : (z : Sizes) (n m : ℕ) → ArePlainWords z (take n (replicate {A = ℕ} m 0))
words_0 z n m i = subst (IsPlainWord z) (sym (zeros_at n m i)) (word_0 z)

-- another word in the place of one
pub words_set : (z : Sizes) (words : List ℕ) (i n : ℕ) → i < length words → ArePlainWords z words → IsPlainWord z n → ArePlainWords z (set words i n)
words_set z words i n lt all is j = dite (ℕ_discrete j i) (λ s. subst (λ (k : ℕ). IsPlainWord z (get_or (set words i n) k 0)) (sym s) (subst (IsPlainWord z) (sym (get_or-set_same words i n 0 lt)) is))
    (λ m. subst (IsPlainWord z) (sym (get_or-set_other words i j n 0 m)) (all j))

module _ (z : Sizes) (n : ℕ) (w : IsPlainWord z n) where
  pub plain_below : n < word_count z
  plain_below = subst (λ (k : ℕ). k < word_count z) (sym w.is) (index_below z w.spot w.inside)

  -- its load
  pub plain_loaded : (call found : ℕ) (u v : PassState) → Loads z call n u found v → OnlyMeets call u v
  plain_loaded call found u v = only_loaded z call n found u v w.spot w.inside w.plain w.is
