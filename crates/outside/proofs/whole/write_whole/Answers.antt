use Rattle.std.proofs.Common.{arith}
use Rattle.std.proofs.lemmas.List.{take_rest}
use Rattle.std.proofs.lemmas.Result.{err_from_is_err_and}
use Rattle.outside.proofs.Written.{Appends-then, AppendsFront-then}
use Rattle.outside.proofs.whole.write_whole.Goals as goal

pub returns-in_err-count-clause-err : goal.returns-in_err-count-clause-err
returns-in_err-count-clause-err g c =
    let p = err_from_is_err_and c.from_residual.result c.from_residual.ensures.1 in
    let h = rw take_rest at c.in_err-count.ensures.bytes in
    rw p.1 (AppendsFront-then _ _ _ c.args.bytes.now c.pieces.done c.pieces.invariant.gone h)

pub pieces-preserved : goal.pieces-preserved
pieces-preserved g c =
    let h = rw take_rest at c.in_ok-count.ensures.bytes.bytes in
    record {
      bound = omega (arith, c.in_ok-count.ensures.bytes.bound);
      gone = Appends-then _ _ _ c.args.bytes.now c.pieces.done c.in_ok-count.count c.pieces.invariant.gone h;
      later = omega (arith, c.in_ok-count.ensures.cause.later);
    }
