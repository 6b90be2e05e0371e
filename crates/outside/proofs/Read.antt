-- One read after another.
use Rattle.std.proofs.Common.{◌≡◌, ℕ, ◌+◌, ◌++◌, List, length, take, drop, Option, Some, None, Result, Ok, Err, IfOk, append_assoc, sym, ap, ◌∙◌, arith}
use Rattle.std.proofs.lemmas.List.{take-append-drop, drop-drop, drop-append-le}
use Rattle.std.specs.Io.{ReadsAtMost}
use Rattle.std.specs.Io.KnownBytes.{Consumes}

pub Consumes-then : (a b c : Option (List ℕ)) (xs ys : List ℕ) → Consumes a b xs → Consumes b c ys → Consumes a c (xs ++ ys)
Consumes-then None b c xs ys p q = tt
Consumes-then (Some x) None c xs ys p q = absurd p
Consumes-then (Some x) (Some y) None xs ys p q = absurd q
Consumes-then (Some x) (Some y) (Some z) xs ys p q = p ∙ rw (q, append_assoc)

-- the bytes from a place on are the first n of them and those from n places further on
pub drop-split : (xs : List ℕ) (place n : ℕ) → take n (drop place xs) ++ drop (place + n) xs ≡ drop place xs
drop-split xs place n = rw (← drop-drop n place xs) (take-append-drop n (drop place xs))

-- What lies behind the bytes that were read stays, where the first bytes of a piece alone were lent to the read.
pub rest_behind : {E : Type 0} (r : Result ℕ E) (asked : ℕ) (old new : List ℕ) → length new ≡ length (take asked old)
    → ReadsAtMost r new → IfOk r (λ n. drop n new ≡ drop n (take asked old)) → IfOk r (λ n. drop n (new ++ drop asked old) ≡ drop n old)
rest_behind (Ok n) asked old new long bound rest = drop-append-le n new (drop asked old) bound.0 ∙ (ap (λ (xs : List ℕ). xs ++ drop asked old) rest
    ∙ (sym (drop-append-le n (take asked old) (drop asked old) (let b = bound.0 in omega arith)) ∙ ap (drop n) (take-append-drop asked old)))
rest_behind (Err e) asked old new long bound rest = tt
