use Rattle.std.proofs.Common.{◌≡◌, arith}
use Rattle.oak_script.specs.Lines.{text_words}
use Rattle.oak_script.specs.Reading.{so_far}
use Rattle.oak_script.proofs.PastLemmas.{lines-few}
use Rattle.oak_script.proofs.PlaceLemmas.{goes_on}
use Rattle.oak_script.proofs.EndLemmas.{told_exact}
use Rattle.oak_script.proofs.reader.read_lines.Goals as goal

pub told-requires : goal.told-requires
told-requires c =
    let r = c.lines.reader in
    let i = c.lines.invariant in
    omega (arith, c.in-Err.ensures.same, i.goes.count, lines-few r.stage r.calls i.fit)

pub lines-preserved : goal.lines-preserved
lines-preserved c =
    let r = c.lines.reader in
    let s = c.step.new.self in
    let number = rw c.in-Ok-true.field-0-test at c.in-Ok-true.ensures.number in
    record {
      goes = rw number (goes_on (text_words c.args.text.now) (so_far r.stage r.calls) (so_far s.stage s.calls) r.lines s.lines r.number c.lines.invariant.goes (c.in-Ok-true.ensures.went c.in-Ok-true.field-0-test));
      fit = c.in-Ok-true.ensures.fit;
    }

pub returns-in-Err-clause-exact : goal.returns-in-Err-clause-exact
returns-in-Err-clause-exact c =
    let r = c.lines.reader in
    let same : c.step.new.self.number ≡ r.number = c.in-Err.ensures.same in
    told_exact c.told.result c.in-Err.stop (text_words c.args.text.now) (so_far r.stage r.calls) r.lines r.number (rw same at c.told.ensures) c.lines.invariant.goes c.in-Err.ensures.err
