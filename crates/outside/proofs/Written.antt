-- One write after another.
use Rattle.std.proofs.Common.{ℕ, ◌+◌, List, take, drop, Option, Some, None, append_assoc, ◌∙◌}
use Rattle.std.proofs.Math.Seq.{take-add}
use Rattle.std.specs.Io.KnownBytes.{Appends}
use Rattle.outside.specs.Taken.{AppendsFront}

pub Appends-then : (a b c : Option (List ℕ)) (xs : List ℕ) (i n : ℕ) → Appends a b (take i xs) → Appends b c (take n (drop i xs)) → Appends a c (take (i + n) xs)
Appends-then None b c xs i n p q = tt
Appends-then (Some x) None c xs i n p q = absurd p
Appends-then (Some x) (Some y) None xs i n p q = absurd q
Appends-then (Some x) (Some y) (Some z) xs i n p q = q ∙ rw (p, append_assoc, take-add i n xs)

pub AppendsFront-then : (a b c : Option (List ℕ)) (xs : List ℕ) (i : ℕ) → Appends a b (take i xs) → AppendsFront b c (drop i xs) → AppendsFront a c xs
AppendsFront-then a b c xs i p q = (i + q.0, Appends-then a b c xs i q.0 p q.1)
