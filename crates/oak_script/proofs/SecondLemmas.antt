-- The faults of line 2.
use Rattle.std.proofs.Common.{◌≡◌, ◌-◌, true, false, List, [], ◌∷◌, length, map, take, drop, Some, refl, ap, arith, codes}
use Rattle.std.specs.List.{list_any}
use Rattle.std.proofs.lemmas.List.{take_rest}
use Rattle.oak_script.specs.declared.stages.Stage.TheVariants.{Headed}
use Rattle.oak_model.specs.Limits.{Sizes}
use Rattle.oak_script.specs.Lines.{Words}
use Rattle.oak_script.specs.ShapeLine.{size_words, shape_line, size_fields, are_sizes}
use Rattle.oak_script.specs.Forms.{is_shape}
use Rattle.oak_script.specs.Faults.{faults, is_empty}
use Rattle.oak_script.specs.Reading.{past_at}
use Rattle.oak_script.proofs.WordLemmas.{word_is}

-- what stands behind the first of some words
pub behind_first : {X Y : Type 0} (f : X → Y) (xs : List X) → map f (take (length xs - 1) (drop 1 xs)) ≡ drop 1 (map f xs)
behind_first f [] = refl
behind_first f (x ∷ xs) = ap (map f) (take_rest (x ∷ xs) 1)

-- eight words, none of them empty, of which the first is `shape`
pub record MayShape (line : Words) : Type 0 where
  pub words : list_any is_empty line ≡ false
  pub first : is_shape line ≡ true
  pub count : length line ≡ 8

-- it is the line of the sizes that its numbers spell
pub shape-is : (line : Words) (s : Sizes) → MayShape line → size_words s ≡ drop 1 line → line ≡ shape_line s
shape-is [] s may sizes = absurd (omega (arith, may.count))
shape-is (w ∷ ws) s may sizes =
    let is : w ≡ codes "shape" = word_is w (codes "shape") may.first in
    rw (is, sizes) refl

-- it has no fault where its numbers are sizes
pub shape-fine : (line : Words) → MayShape line → are_sizes size_fields (drop 1 line) ≡ true → faults (past_at Headed []) (Some line) ≡ []
shape-fine [] may are = absurd (omega (arith, may.count))
shape-fine (w ∷ []) may are = absurd (omega (arith, may.count))
shape-fine (w ∷ x ∷ ws) may are =
    let is : w ≡ codes "shape" = word_is w (codes "shape") may.first in
    let count : length ws ≡ 6 = omega (arith, may.count) in
    let words : list_any is_empty (codes "shape" ∷ x ∷ ws) ≡ false = rw is at may.words in
    rw (is, words, count, are) refl
