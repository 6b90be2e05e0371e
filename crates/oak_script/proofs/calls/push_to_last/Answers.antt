use Rattle.std.proofs.Common.{◌-◌, ◌<◌, [], ◌∷◌, ◌++◌, length, ap, ◌∙◌, arith}
use Rattle.std.proofs.Math.Seq.{map-set_same}
use Rattle.std.proofs.lemmas.Result.{err_from_is_err_and}
use Rattle.oak_script.proofs.ThreadLemmas.{called-items}
use Rattle.oak_script.proofs.calls.push_to_last.Goals as goal

pub returns-in_err-push-clause-same : goal.returns-in_err-push-clause-same
returns-in_err-push-clause-same c =
    let p = err_from_is_err_and c.from_residual.result c.from_residual.ensures.1 in
    rw p.1 (map-set_same (λ v. v.items) c.args.threads.now.items (c.len-last.result - 1) c.push.new.self c.index_mut.result.now (c.in_err-push.ensures.items ∙ ap (λ v. v.items) c.index_mut.ensures.value))

pub returns-clause-ok : goal.returns-clause-ok
returns-clause-ok c =
    let some : 0 < length c.args.threads.now.items = c.requires.some in
    called-items (λ v. v.items) c.args.threads.now.items (c.len-last.result - 1) c.push.new.self c.index_mut.result.now c.args.call
    (omega (arith, c.len-last.ensures, some)) (c.in_ok-push.ensures.items ∙ ap (λ v. v.items ++ c.args.call ∷ []) c.index_mut.ensures.value)
