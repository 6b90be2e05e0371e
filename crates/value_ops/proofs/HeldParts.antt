-- What a pass keeps of a header that it holds, where its records change.
use Rattle.std.proofs.Common.{◌≡◌, ℕ, ◌+◌, ◌<◌, ◌==◌, cond, List, [], ◌∷◌, map, refl, ap, arith}
use Rattle.oak_model.specs.Counts.{one_if, one_at, total}
use Rattle.oak_model.proofs.Counting.{test-cases}
use Rattle.header_core.specs.declared.holds.HeldHeader.{HeldHeader}
use Rattle.header_core.specs.declared.holds.HeldAs.TheVariants.{Buried}
use Rattle.header_core.specs.HeaderHolds.{place_held, generation_held, without_header}
use Rattle.header_core.specs.HeaderStep.{stamped_at, changed_at, buried_at}
use Rattle.header_core.proofs.HeldHeaders.{held_in}
use Rattle.value_ops.specs.HeldValue.{stamp_held, words_in}

-- a change of each record that leaves the header, and what is read

module _ (f : HeldHeader → HeldHeader) (same : (r : HeldHeader) → (f r).header ≡ r.header) (h : ℕ) where
  pub place_mapped : (rs : List HeldHeader) → ((r : HeldHeader) → (f r).place ≡ r.place) → place_held h (map f rs) ≡ place_held h rs
  place_mapped [] e = refl
  place_mapped (r ∷ rs) e = λ i. cond (same r i == h) (e r i) (place_mapped rs e i)

  pub stamp_mapped : (rs : List HeldHeader) → ((r : HeldHeader) → (f r).stamp ≡ r.stamp) → stamp_held h (map f rs) ≡ stamp_held h rs
  stamp_mapped [] e = refl
  stamp_mapped (r ∷ rs) e = λ i. cond (same r i == h) (e r i) (stamp_mapped rs e i)

  pub words_mapped : (rs : List HeldHeader) → ((r : HeldHeader) → (f r).words ≡ r.words) → words_in h (map f rs) ≡ words_in h rs
  words_mapped [] e = refl
  words_mapped (r ∷ rs) e = λ i. cond (same r i == h) (e r i) (words_mapped rs e i)

  pub generation_mapped : (rs : List HeldHeader) → ((r : HeldHeader) → (f r).generation ≡ r.generation) → generation_held h (map f rs) ≡ generation_held h rs
  generation_mapped [] e = refl
  generation_mapped (r ∷ rs) e = λ i. cond (same r i == h) (e r i) (generation_mapped rs e i)

-- a stamp word that was stored

module _ (h x : ℕ) (rs : List HeldHeader) where
  abbrev stamped : HeldHeader → HeldHeader
  stamped r = record r { stamp = cond (r.header == h) x r.stamp }

  pub stamped_words : words_in h (stamped_at h x rs) ≡ words_in h rs
  stamped_words = words_mapped stamped (λ _. refl) h rs (λ _. refl)

  pub stamped_generation : generation_held h (stamped_at h x rs) ≡ generation_held h rs
  stamped_generation = generation_mapped stamped (λ _. refl) h rs (λ _. refl)

pub stamped_here : (h x : ℕ) (rs : List HeldHeader) → 0 < held_in h rs → stamp_held h (stamped_at h x rs) ≡ x
unfolding total one_at
stamped_here h x [] some_of = absurd (omega arith)
stamped_here h x (r ∷ rs) some_of = test-cases (r.header == h) (λ t. 0 < one_if t + held_in h rs → cond t (cond t x r.stamp) (stamp_held h (stamped_at h x rs)) ≡ x)
    (λ _ _. refl) (λ _ l. stamped_here h x rs (omega arith)) some_of

pub without_stamped : (h x : ℕ) (rs : List HeldHeader) → without_header h (stamped_at h x rs) ≡ without_header h rs
without_stamped h x [] = refl
without_stamped h x (r ∷ rs) = test-cases (r.header == h)
    (λ t. cond t (without_header h (stamped_at h x rs)) (record r { stamp = cond t x r.stamp } ∷ without_header h (stamped_at h x rs)) ≡ cond t (without_header h rs) (r ∷ without_header h rs))
    (λ _. without_stamped h x rs) (λ _. ap (λ (l : List HeldHeader). r ∷ l) (without_stamped h x rs))

-- a header that is buried, with its stamp, at its generation

module _ (h : ℕ) (rs : List HeldHeader) where
  abbrev buried : HeldHeader → HeldHeader
  buried r = record r { held_as = cond (r.header == h) Buried r.held_as }

  pub buried_stamp : stamp_held h (buried_at h rs) ≡ stamp_held h rs
  buried_stamp = stamp_mapped buried (λ _. refl) h rs (λ _. refl)

  pub buried_generation : generation_held h (buried_at h rs) ≡ generation_held h rs
  buried_generation = generation_mapped buried (λ _. refl) h rs (λ _. refl)

-- and one whose place word was changed

pub changed_generation : (h x : ℕ) (words : List ℕ) (rs : List HeldHeader) → generation_held h (changed_at h x words rs) ≡ generation_held h rs
changed_generation h x words rs = generation_mapped (λ (r : HeldHeader). record r { place = cond (r.header == h) x r.place; words = cond (r.header == h) words r.words }) (λ _. refl) h rs (λ _. refl)
