use Rattle.std.proofs.Common.{rules, ◌≡◌, map, true, drop, ℕ, length, List, sym, ap, ◌∙◌}
use denote.Ref.{Bor}
use Rattle.std.proofs.lemmas.List.{length-map}
use Rattle.oak_script.specs.Lines.{Words}
use Rattle.oak_script.specs.ShapeLine.{size_words, size_fields, are_sizes}
use Rattle.oak_script.proofs.SecondLemmas.{MayShape, behind_first, shape-is, shape-fine}
use Rattle.oak_script.proofs.stages.shape_in.Goals as goal

pub returns-in-Some-clause-line : goal.returns-in-Some-clause-line
returns-in-Some-clause-line c =
    let now = λ (w : Bor (List ℕ)). w.now in
    let line : Words = map now c.args.words.now in
    let count : length line ≡ 8 = length-map c.args.words.now now ∙ c.if-words-ne8.false in
    let may : MayShape line = record { words = search rules; first = search rules; count = count } in
    let sizes : size_words c.in-Some.shape ≡ drop 1 line = c.in-Some.ensures.spelled ∙ behind_first now c.args.words.now in
    shape-is line c.in-Some.shape may sizes

pub returns-in-Some-clause-fine : goal.returns-in-Some-clause-fine
returns-in-Some-clause-fine c =
    let now = λ (w : Bor (List ℕ)). w.now in
    let line : Words = map now c.args.words.now in
    let count : length line ≡ 8 = length-map c.args.words.now now ∙ c.if-words-ne8.false in
    let may : MayShape line = record { words = search rules; first = search rules; count = count } in
    let are : are_sizes size_fields (drop 1 line) ≡ true = sym (c.in-Some.ensures.found ∙ ap (are_sizes size_fields) (behind_first now c.args.words.now)) in
    shape-fine line may are
