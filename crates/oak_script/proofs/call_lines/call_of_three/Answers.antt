use Rattle.std.proofs.lemmas.Result.{err_from_is_err_and}
use Rattle.oak_script.specs.Forms.{KeySlot}
use Rattle.oak_script.specs.Faults.{word_faults}
use Rattle.oak_script.proofs.StopLemmas.{stops_more}
use Rattle.oak_script.proofs.call_lines.call_of_three.Goals as goal

pub returns-in_err-key-in-Compute-clause-err : goal.returns-in_err-key-in-Compute-clause-err
returns-in_err-key-in-Compute-clause-err c =
    let p = err_from_is_err_and c.from_residual.result c.from_residual.ensures.1 in
    rw (p.1, p.2, c.in-Compute.is) (stops_more _ (word_faults KeySlot c.args.first.now) _ c.in_err-key-in-Compute.ensures.err)
