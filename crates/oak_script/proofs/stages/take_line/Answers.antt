use Rattle.std.proofs.Common.{List, ℕ, map, Some, sym, subst, ◌∙◌}
use denote.Ref.{Bor}
use Rattle.std.proofs.lemmas.Result.{err_from_is_err_and}
use Rattle.oak_script.specs.declared.faults.What.{What}
use Rattle.oak_script.specs.Lines.{Words}
use Rattle.oak_script.specs.Stops.{Stops}
use Rattle.oak_script.proofs.OpenLemmas.{open-same}
use Rattle.oak_script.proofs.stages.take_line.Goals as goal

pub returns-in_err-take_open-in-Opened-clause-err : goal.returns-in_err-take_open-in-Opened-clause-err
returns-in_err-take_open-in-Opened-clause-err c =
    let p = err_from_is_err_and c.from_residual-in_err-take_open-in-Opened.result c.from_residual-in_err-take_open-in-Opened.ensures.1 in
    let line : Words = map (λ (w : Bor (List ℕ)). w.now) c.args.words.now in
    let fit = rw c.in-Opened.is at c.requires in
    let stop = c.in_err-take_open-in-Opened.field-0.0 in
    rw (p.1, p.2, c.in-Opened.is) (subst (λ (fs : List What). Stops stop fs) (open-same c.in-Opened.shape c.args.calls.now (Some line) fit.0) c.in_err-take_open-in-Opened.ensures.err)

pub returns-else-branch-clause-fine : goal.returns-else-branch-clause-fine
returns-else-branch-clause-fine c =
    let line : Words = map (λ (w : Bor (List ℕ)). w.now) c.args.words.now in
    let fit = rw c.in-Opened.is at c.requires in
    rw c.in-Opened.is (sym (open-same c.in-Opened.shape c.args.calls.now (Some line) fit.0) ∙ c.in_ok-take_open-in-Opened.ensures.fine)
