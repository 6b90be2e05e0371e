-- Findings: what is met is kept, and a number that was found given stays so.
use Rattle.std.proofs.Common.{◌≡◌, ℕ, List, [], ◌∷◌, ◌++◌, Option, sym, ap, ◌∙◌, subst, ⊎_elim, Some, refl}
use Rattle.std.specs.Int.{bit_at}
use mathlib.Core.Option.{some, some-ne-none}
use lib.ListN.{get_elem?}
use Rattle.oak_model.specs.Limits.{Sizes}
use Rattle.oak_model.proofs.Lists.{at_last, at_snoc}
use Rattle.oak_core.specs.declared.states.Finding.{Finding}
use Rattle.oak_core.specs.declared.states.Findings.{Findings}
use Rattle.oak_core.specs.Finding.{Shows}
use Rattle.oak_core.specs.PassState.{no_findings}
use Rattle.oak_core.specs.Rule.{FoundStays, FindingsHold}

pub shows_last : (met : List Finding) (f : Finding) (word n : ℕ) (P : ℕ → Type 0) → f.word ≡ word → f.found ≡ Some n → P n → Shows (met ++ f ∷ []) word P
shows_last met f word n P at is p = (Rattle.std.proofs.Common.length met, f, n, at_last met f, at, is, p)

-- the numbers that are given are given still
pub found_on : (g g' : ℕ) (fs : Findings) → ((k : ℕ) → bit_at g k ≡ 1 → bit_at g' k ≡ 1) → FoundStays g fs → FoundStays g' fs
found_on g g' fs up r k s = up k (r k s)

-- one more finding, which shows no other numbers given
pub found_more : (g : ℕ) (fs fs' : Findings) (f : Finding) → fs'.met ≡ fs.met ++ f ∷ [] → (f.word ≡ 0 → (n : ℕ) → f.found ≡ Some n → (k : ℕ) → bit_at n k ≡ 1 → bit_at g k ≡ 1) → FoundStays g fs → FoundStays g fs'
found_more g fs fs' f grew right r k s = ⊎_elim (λ (t : get_elem? fs.met s.0 ≡ some s.1). r k (s.0, s.1, s.2, t, s.4, s.5, s.6))
    (λ (t : f ≡ s.1). right (ap (λ (x : Finding). x.word) t ∙ s.4) s.2 (ap (λ (x : Finding). x.found) t ∙ s.5) k s.6)
    (at_snoc fs.met f s.1 s.0 (subst (λ (l : List Finding). get_elem? l s.0 ≡ some s.1) grew s.3))

pub none_found : (g : ℕ) (fs : Findings) → fs.met ≡ [] → FoundStays g fs
none_found g fs e k s = absurd (some-ne-none s.1 (sym (subst (λ (l : List Finding). get_elem? l s.0 ≡ some s.1) e s.3)))

-- where nothing was met, nothing was found and no call was noted
pub none_met : (z : Sizes) (g : ℕ) → FindingsHold z g no_findings
none_met z g = record { found = none_found g no_findings refl; noted = tt }
