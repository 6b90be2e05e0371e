-- Held headers, in the block of one of which other words stand.
use Rattle.std.specs.Prelude.{slice_set}
use Rattle.std.proofs.Common.{◌≡◌, ℕ, ◌+◌, ◌<◌, ◌==◌, cond, List, [], ◌∷◌, sym, refl, ap, ◌∙◌, subst, arith}
use Rattle.oak_model.specs.Counts.{one_if, one_at, total}
use Rattle.oak_model.proofs.Counting.{test-cases, total_map}
use Rattle.header_core.specs.declared.holds.HeldHeader.{HeldHeader}
use Rattle.header_core.specs.HeaderHolds.{place_held, generation_held}
use Rattle.header_core.specs.HeaderStep.{placed_at, changed_at, reworded}
use Rattle.header_core.proofs.HeldHeaders.{held_in, rows_in}
use Rattle.header_core.proofs.HeldRecords.{rows_kept}
use Rattle.value_ops.specs.HeldValue.{words_in}
use Rattle.value_ops.specs.UnderLock.{with_words}
use Rattle.value_ops.proofs.FillFacts.{placed_here}
use Rattle.value_ops.proofs.HeldParts.{place_mapped, generation_mapped}

module _ (h : ℕ) (ws : List ℕ) where
  abbrev put : HeldHeader → HeldHeader
  put r = record r { words = cond (r.header == h) ws r.words }

  -- all else is as before

  pub place_put : (rs : List HeldHeader) → place_held h (with_words h ws rs) ≡ place_held h rs
  place_put rs = place_mapped put (λ _. refl) h rs (λ _. refl)

  pub generation_put : (rs : List HeldHeader) → generation_held h (with_words h ws rs) ≡ generation_held h rs
  generation_put rs = generation_mapped put (λ _. refl) h rs (λ _. refl)

  pub rows_put : (k s : ℕ) (rs : List HeldHeader) → rows_in k s (with_words h ws rs) ≡ rows_in k s rs
  rows_put k s rs = rows_kept put (λ _. refl) (λ _. refl) k s rs

  pub held_put : (k : ℕ) (rs : List HeldHeader) → held_in k (with_words h ws rs) ≡ held_in k rs
  held_put k rs = total_map put (λ (r : HeldHeader). one_at r.header k) rs

  pub words_put : (rs : List HeldHeader) → 0 < held_in h rs → words_in h (with_words h ws rs) ≡ ws
  unfolding total one_at
  words_put [] some_of = absurd (omega arith)
  words_put (r ∷ rs) some_of = test-cases (r.header == h) (λ t. 0 < one_if t + held_in h rs → cond t (cond t ws r.words) (words_in h (with_words h ws rs)) ≡ ws)
      (λ _ _. refl) (λ _ l. words_put rs (omega arith)) some_of

  put_none : (rs : List HeldHeader) → held_in h rs ≡ 0 → with_words h ws rs ≡ rs
  unfolding total one_at
  put_none [] none = refl
  put_none (r ∷ rs) none = test-cases (r.header == h) (λ t. one_if t + held_in h rs ≡ 0 → record r { words = cond t ws r.words } ∷ with_words h ws rs ≡ r ∷ rs)
      (λ _ e. absurd (omega arith)) (λ _ e. ap (λ (l : List HeldHeader). r ∷ l) (put_none rs (omega arith))) none

  -- other words, one other word, or another place besides

  pub put_more : (k x : ℕ) (rs : List HeldHeader) → reworded h k x (with_words h ws rs) ≡ with_words h (slice_set ws k x) rs
  put_more k x [] = refl
  put_more k x (r ∷ rs) = test-cases (r.header == h)
      (λ t. record r { words = cond t (slice_set (cond t ws r.words) k x) (cond t ws r.words) } ∷ reworded h k x (with_words h ws rs) ≡ record r { words = cond t (slice_set ws k x) r.words } ∷ with_words h (slice_set ws k x) rs)
      (λ _. ap (λ (l : List HeldHeader). record r { words = slice_set ws k x } ∷ l) (put_more k x rs)) (λ _. ap (λ (l : List HeldHeader). r ∷ l) (put_more k x rs))

  pub put_changed : (x : ℕ) (us : List ℕ) (rs : List HeldHeader) → changed_at h x us (with_words h ws rs) ≡ changed_at h x us rs
  put_changed x us [] = refl
  put_changed x us (r ∷ rs) = test-cases (r.header == h)
      (λ t. record r { place = cond t x r.place; words = cond t us (cond t ws r.words) } ∷ changed_at h x us (with_words h ws rs) ≡ record r { place = cond t x r.place; words = cond t us r.words } ∷ changed_at h x us rs)
      (λ _. ap (λ (l : List HeldHeader). record r { place = x; words = us } ∷ l) (put_changed x us rs)) (λ _. ap (λ (l : List HeldHeader). r ∷ l) (put_changed x us rs))

-- a header that is held once, with the words that it has
pub put_same : (h : ℕ) (rs : List HeldHeader) → held_in h rs ≡ 1 → with_words h (words_in h rs) rs ≡ rs
unfolding total one_at
put_same h [] one = refl
put_same h (r ∷ rs) one = test-cases (r.header == h)
    (λ t. one_if t + held_in h rs ≡ 1 → record r { words = cond t (cond t r.words (words_in h rs)) r.words } ∷ with_words h (cond t r.words (words_in h rs)) rs ≡ r ∷ rs)
    (λ _ e. ap (λ (l : List HeldHeader). r ∷ l) (put_none h r.words rs (omega arith))) (λ _ e. ap (λ (l : List HeldHeader). r ∷ l) (put_same h rs (omega arith))) one

-- and with the place that it has

placed_none : (h x : ℕ) (rs : List HeldHeader) → held_in h rs ≡ 0 → placed_at h x rs ≡ rs
unfolding total one_at
placed_none h x [] none = refl
placed_none h x (r ∷ rs) none = test-cases (r.header == h) (λ t. one_if t + held_in h rs ≡ 0 → record r { place = cond t x r.place } ∷ placed_at h x rs ≡ r ∷ rs)
    (λ _ e. absurd (omega arith)) (λ _ e. ap (λ (l : List HeldHeader). r ∷ l) (placed_none h x rs (omega arith))) none

placed_same : (h : ℕ) (rs : List HeldHeader) → held_in h rs ≡ 1 → placed_at h (place_held h rs) rs ≡ rs
unfolding total one_at
placed_same h [] one = refl
placed_same h (r ∷ rs) one = test-cases (r.header == h)
    (λ t. one_if t + held_in h rs ≡ 1 → record r { place = cond t (cond t r.place (place_held h rs)) r.place } ∷ placed_at h (cond t r.place (place_held h rs)) rs ≡ r ∷ rs)
    (λ _ e. ap (λ (l : List HeldHeader). r ∷ l) (placed_none h r.place rs (omega arith))) (λ _ e. ap (λ (l : List HeldHeader). r ∷ l) (placed_same h rs (omega arith))) one

-- a header with another place and other words

module _ (h x : ℕ) (ws : List ℕ) where
  changed_both : (rs : List HeldHeader) → changed_at h x ws rs ≡ with_words h ws (placed_at h x rs)
  changed_both [] = refl
  changed_both (r ∷ rs) = ap (λ (l : List HeldHeader). record r { place = cond (r.header == h) x r.place; words = cond (r.header == h) ws r.words } ∷ l) (changed_both rs)

  pub changed_place : (rs : List HeldHeader) → 0 < held_in h rs → place_held h (changed_at h x ws rs) ≡ x
  changed_place rs some_of = ap (place_held h) (changed_both rs) ∙ (place_put h ws (placed_at h x rs) ∙ placed_here h x rs some_of)

  pub changed_words : (rs : List HeldHeader) → 0 < held_in h rs → words_in h (changed_at h x ws rs) ≡ ws
  changed_words rs some_of = ap (words_in h) (changed_both rs) ∙ words_put h ws (placed_at h x rs)
      (subst (λ (n : ℕ). 0 < n) (sym (total_map (λ (r : HeldHeader). record r { place = cond (r.header == h) x r.place }) (λ (r : HeldHeader). one_at r.header h) rs)) some_of)

pub changed_same : (h : ℕ) (ws : List ℕ) (rs : List HeldHeader) → held_in h rs ≡ 1 → changed_at h (place_held h rs) ws rs ≡ with_words h ws rs
changed_same h ws rs one = changed_both h (place_held h rs) ws rs ∙ ap (with_words h ws) (placed_same h rs one)
