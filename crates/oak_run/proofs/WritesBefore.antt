-- Of writes behind which those of later calls stand, the ones before that call are the first.
use Rattle.std.proofs.Common.{◌≡◌, ℕ, suc, ◌<◌, ◌≤◌, true≢false, List, [], ◌∷◌, ◌++◌, sym, refl, ap, ◌∙◌, le-leb, arith}
use Rattle.std.specs.Prelude.{leb}
use Rattle.std.proofs.lemmas.Bool.{leb-true}
use Rattle.oak_model.specs.declared.writes.Write.{Write}
use Rattle.oak_model.specs.Counts.{Each}
use Rattle.oak_model.specs.History.{History}
use Rattle.oak_model.proofs.MemberLaws.{filter-cases}
use Rattle.oak_core.specs.declared.states.KeyedWrite.{KeyedWrite}
use Rattle.oak_core.specs.KeyHistories.{writes_of}
use Rattle.oak_core.specs.PassState.{of_key}
use Rattle.oak_core.proofs.lessons.Teaching.{of_key-cases}
use Rattle.oak_run.specs.FullsExactly.{writes_before}

-- what is said of each write is said of each write of a key
pub each_of_key : (P : KeyedWrite → Type 0) (k : ℕ) (l : List KeyedWrite) → Each P l → Each P (of_key k l)
unfolding of_key
each_of_key P k [] each = tt
each_of_key P k (x ∷ xs) each = of_key-cases k x xs (Each P) (λ _. (each.0, each_of_key P k xs each.1)) (λ _. each_of_key P k xs each.1)

-- those of later calls are none of them
none_before : (n : ℕ) (l : List KeyedWrite) → Each (λ (x : KeyedWrite). n ≤ x.write.call) l → writes_before n (writes_of l) ≡ []
none_before n [] late = refl
none_before n (x ∷ xs) late = let from = late.0 in filter-cases (λ (w : Write). leb (suc w.call) n) x.write (writes_of xs) (λ (l : History). l ≡ []) (λ passes. absurd (let to = leb-true (suc x.write.call) n passes in omega arith)) (λ _. none_before n xs late.1)

pub first_before : (n : ℕ) (a b : List KeyedWrite) → Each (λ (x : KeyedWrite). x.write.call < n) a → Each (λ (x : KeyedWrite). n ≤ x.write.call) b → writes_before n (writes_of (a ++ b)) ≡ writes_of a
first_before n [] b early late = none_before n b late
first_before n (x ∷ xs) b early late = let to = early.0 in filter-cases (λ (w : Write). leb (suc w.call) n) x.write (writes_of (xs ++ b)) (λ (l : History). l ≡ writes_of (x ∷ xs))
    (λ _. ap (λ (l : History). x.write ∷ l) (first_before n xs b early.1 late))
    (λ fails. absurd (true≢false (sym (le-leb (suc x.write.call) n (omega arith)) ∙ fails)))
