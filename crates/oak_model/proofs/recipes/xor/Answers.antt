use Rattle.std.proofs.Common.{ℕ, ◌+◌, ◌<◌, ◌≡◌, ◌++◌, List, get_or, set, map, take, drop, length, arith}
use Rattle.std.specs.Prelude.{bit_xor}
use Rattle.std.proofs.lemmas.List.Edits.{map_over_more}
use Rattle.std.proofs.lemmas.List.{get_or_default}
use Rattle.oak_model.proofs.recipes.xor.Goals as goal

-- one more byte
one_more : (n : ℕ) (xs ys : List ℕ) (i : ℕ) → i < length xs → i < length ys → ys ≡ map (λ x. bit_xor x n) (take i xs) ++ drop i xs
    → set ys i (bit_xor (get_or ys i 0) n) ≡ map (λ x. bit_xor x n) (take (i + 1) xs) ++ drop (i + 1) xs
one_more n xs ys i lt lt2 e = map_over_more (λ x. bit_xor x n) xs ys i (get_or ys i 0) lt e (get_or_default ys i 0 (get_or ys i 0) lt2)

pub loop-b-preserved : goal.loop-b-preserved
loop-b-preserved c = one_more c.args.byte c.args.bytes.now c.loop-b.bytes c.loop-b.b-index (omega arith) (omega arith) c.loop-b.invariant
