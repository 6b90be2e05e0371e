use Rattle.std.proofs.lemmas.Result.{err_from_is_err_and}
use Rattle.oak_script.specs.Forms.{KeySlot, ValueSlot}
use Rattle.oak_script.specs.Faults.{word_faults}
use Rattle.oak_script.proofs.StopLemmas.{stops_more, stops_behind}
use Rattle.oak_script.proofs.call_lines.call_of_four.Goals as goal

pub returns-in_err-key-in-Upsert-clause-err : goal.returns-in_err-key-in-Upsert-clause-err
returns-in_err-key-in-Upsert-clause-err c =
    let p = err_from_is_err_and c.from_residual.result c.from_residual.ensures.1 in
    rw (p.1, p.2, c.in-Upsert.is) (stops_more _ (word_faults KeySlot c.args.first.now) _ c.in_err-key-in-Upsert.ensures.err)

pub returns-in_err-value-in-Upsert-clause-err : goal.returns-in_err-value-in-Upsert-clause-err
returns-in_err-value-in-Upsert-clause-err c =
    let p = err_from_is_err_and c.from_residual-in_err-value-in-Upsert.result c.from_residual-in_err-value-in-Upsert.ensures.1 in
    rw (p.1, p.2, c.in-Upsert.is) (stops_behind _ (word_faults KeySlot c.args.first.now) _ c.in_ok-key-in-Upsert.ensures.fine (stops_more _ (word_faults ValueSlot c.args.second.now) _ c.in_err-value-in-Upsert.ensures.err))
