-- The slots of a pass, of which there are as many as the largest room has entries: one is exchanged, or the first of them are sorted.
use Rattle.std.proofs.Common.{◌≡◌, ℕ, zero, suc, ◌≤◌, ◌++◌, List, [], ◌∷◌, length, take, drop, set, sym, refl, ap, ◌∙◌, arith}
use Rattle.std.proofs.lemmas.List.{length-set, length-take-le, take-take, take-append-le, take_all}
use Rattle.std.proofs.lemmas.List.Sorted.{length_permutation}
use Rattle.std.specs.List.{refill, length_refill}
use Rattle.std.specs.List.Sorted.{IsPermutation}
use Rattle.oak_model.specs.declared.limits.TheConstants.{GREATEST_ENTRIES}
use Rattle.oak_core.specs.declared.sorting.SortSlot.{SortSlot}
use Rattle.rebalance.specs.HeldTables.{filled}

-- where there are so many, none are added
pub filled_whole : (n : ℕ) (xs : List SortSlot) → length xs ≡ n → filled n xs ≡ xs
unfolding filled
filled_whole zero [] e = refl
filled_whole zero (x ∷ xs) e = absurd (omega arith)
filled_whole (suc n) [] e = absurd (omega arith)
filled_whole (suc n) (x ∷ xs) e = ap (λ (ys : List SortSlot). x ∷ ys) (filled_whole n xs (omega arith))

pub put_slot : (xs ys : List SortSlot) (i : ℕ) (x : SortSlot) → length xs ≡ GREATEST_ENTRIES → ys ≡ set xs i x → filled GREATEST_ENTRIES ys ≡ set (filled GREATEST_ENTRIES xs) i x
put_slot xs ys i x l e = filled_whole GREATEST_ENTRIES ys (ap length e ∙ (length-set xs i x ∙ l)) ∙ (e ∙ ap (λ (zs : List SortSlot). set zs i x) (sym (filled_whole GREATEST_ENTRIES xs l)))

-- the first of them, as they are lent
pub front_slots : (xs : List SortSlot) (n : ℕ) → length xs ≡ GREATEST_ENTRIES → take n (filled GREATEST_ENTRIES xs) ≡ take n xs
front_slots xs n l = ap (take n) (filled_whole GREATEST_ENTRIES xs l)

-- and as they are given back
pub back_slots : (xs ys : List SortSlot) (n : ℕ) → length xs ≡ GREATEST_ENTRIES → n ≤ GREATEST_ENTRIES → IsPermutation (take n xs) ys → take n (filled GREATEST_ENTRIES (refill (length xs) xs ys)) ≡ ys
back_slots xs ys n l few p = let long : length ys ≡ n = length_permutation (take n xs) ys p ∙ length-take-le n xs (omega arith) in
    front_slots (refill (length xs) xs ys) n (sym (length_refill (length xs) xs ys refl) ∙ l)
    ∙ (take-take n (length xs) (ys ++ drop (length ys) xs) (omega arith) ∙ (take-append-le n ys (drop (length ys) xs) (omega arith) ∙ take_all n ys (omega arith)))
