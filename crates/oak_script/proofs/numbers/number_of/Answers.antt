use Rattle.std.proofs.Common.{◌≡◌, true, rules}
use Rattle.oak_script.specs.Numbers.{is_decimal}
use Rattle.oak_script.proofs.NumberLemmas.{decided, spelled, found, is_utf8}
use Rattle.oak_script.proofs.numbers.number_of.Goals as goal

pub returns-in-Ok-clause-spelled : goal.returns-in-Ok-clause-spelled
returns-in-Ok-clause-spelled c =
    let is : is_decimal c.args.word.now ≡ true = search rules in
    let h = rw c.in-Ok.ensures.cases.0 at c.parse.ensures.value.0 in
    rw c.ok.ensures.value (spelled c.args.word.now c.parse.result (decided c.args.word.now is) h)

pub returns-in-Ok-clause-found : goal.returns-in-Ok-clause-found
returns-in-Ok-clause-found c =
    let is : is_decimal c.args.word.now ≡ true = search rules in
    let h = rw c.in-Ok.ensures.cases.0 at c.parse.ensures.value.0 in
    rw c.ok.ensures.value (found c.args.word.now c.parse.result is h)

pub returns-in-Err-clause-found : goal.returns-in-Err-clause-found
returns-in-Err-clause-found c =
    let is : is_decimal c.args.word.now ≡ true = search rules in
    absurd (c.in-Err.ensures.cases.0 (is_utf8 c.args.word.now is))
