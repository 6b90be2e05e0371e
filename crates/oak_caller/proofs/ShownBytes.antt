-- The bytes of a value that are shown.
use Rattle.std.proofs.Common.{◌≡◌, ◌∙◌, ℕ, ◌≤◌, List, [], ◌++◌, length, take, drop, min, Option, Some, None, sym, refl, ap, subst, arith}
use Rattle.std.specs.Prelude.{MatchOption}
use Rattle.std.proofs.lemmas.List.{append-nil, drop_all, length-take-le, take-append-le, take_all, take_min}
use Rattle.oak_caller.specs.Scans.{front}

-- so many of the value's are those that are wanted
shown_is : (most : Option ℕ) (many : ℕ) (v : List ℕ) → MatchOption most (many ≡ length v) (λ m. many ≡ min m (length v)) → take many v ≡ front most v
shown_is None many v e = take_all many v (omega arith)
shown_is (Some m) many v e = ap (λ n. take n v) e ∙ take_min m v

-- they show where they were copied over a place for so many
pub shown_in : (most : Option ℕ) (many r : ℕ) (v o n rest : List ℕ) → many ≤ length v → MatchOption most (many ≡ length v) (λ m. many ≡ min m (length v)) → length o ≡ many → r ≡ min (length o) (length v) → n ≡ take r v ++ drop r o → take many (n ++ rest) ≡ front most v
shown_in most many r v o n rest le is long few copied = let all : r ≡ many = omega arith in
    let copy : n ≡ take many v = copied ∙ (ap (λ k. take k v ++ drop k o) all ∙ (ap (λ bs. take many v ++ bs) (drop_all many o (omega arith)) ∙ append-nil (take many v))) in
    let wide : many ≤ length n = let l = length-take-le many v le in let c = ap length copy in omega arith in
    take-append-le many n rest wide ∙ (ap (take many) copy ∙ (take_all many (take many v) (let l = length-take-le many v le in omega arith) ∙ shown_is most many v is))
