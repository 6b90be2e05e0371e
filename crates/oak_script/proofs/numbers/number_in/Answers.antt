use Rattle.std.proofs.Common.{◌≡◌, ◌^◌, ◌<◌, ◌≤◌, ◌&&◌, leb, true, false, sym, ap, ◌∙◌, rules, arith}
use Rattle.std.specs.Fmt.{decimal}
use Rattle.std.specs.Str.Parse.{digits_value}
use Rattle.std.proofs.lemmas.Bool.Decides.{nat_tests}
use Rattle.oak_script.proofs.NumberLemmas.{in_range, value_written}
use Rattle.oak_script.proofs.numbers.number_in.Goals.{else-from-number-via-then-from-number+else-number-from, else-from-number-via-else-from-number}
use Rattle.oak_script.proofs.numbers.number_in.Goals as goal

pub returns-then-number-from-clause-found : goal.returns-then-number-from-clause-found
returns-then-number-from-clause-found c =
    let n = c.in_ok-number.number in
    let small : n < 2 ^ 64 = search rules in
    let spelled : decimal n ≡ c.args.word.now = search rules in
    let low : c.args.least ≤ n = search rules in
    let high : n ≤ c.args.greatest = search rules in
    let test : true ≡ (leb c.args.least n && leb n c.args.greatest) = grind (arith, nat_tests) in
    test ∙ sym (in_range c.args.least c.args.greatest n c.args.word.now small spelled)

pub returns-else-from-number-clause-found : goal.returns-else-from-number-clause-found
returns-else-from-number-clause-found c =
    let n = c.in_ok-number.number in
    let small : n < 2 ^ 64 = search rules in
    let spelled : decimal n ≡ c.args.word.now = search rules in
    let test : false ≡ (leb c.args.least n && leb n c.args.greatest) =
    elim c.else-from-number.branch [
      | else-from-number-via-then-from-number+else-number-from w ↦ let high : c.args.greatest < n = search rules in grind (arith, nat_tests)
      | else-from-number-via-else-from-number w ↦ let low : n < c.args.least = search rules in grind (arith, nat_tests)
    ] in
    test ∙ sym (in_range c.args.least c.args.greatest n c.args.word.now small spelled)

pub returns-then-number-from-clause-value : goal.returns-then-number-from-clause-value
returns-then-number-from-clause-value c =
    let n = c.in_ok-number.number in
    let small : n < 2 ^ 64 = search rules in
    let spelled : decimal n ≡ c.args.word.now = search rules in
    sym (value_written n small) ∙ ap (digits_value 10) spelled
