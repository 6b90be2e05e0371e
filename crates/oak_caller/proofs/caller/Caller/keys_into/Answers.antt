use Rattle.std.proofs.Common.{◌<◌, ◌-◌, ◌^◌, length, arith}
use Rattle.oak_caller.proofs.GatheredKeys.{on_err}
use Rattle.oak_caller.proofs.ScannedCalls.{all_added}
use Rattle.oak_caller.proofs.caller.Caller.keys_into.Goals as goal

pub returns-in_err-add_keys-clause-some : goal.returns-in_err-add_keys-clause-some
returns-in_err-add_keys-clause-some g c = on_err c.from_residual.result _ c.in_err-add_keys.ensures.some

pub returns-clause-all : goal.returns-clause-all
returns-clause-all g c = let k = c.add_keys.new.keys in
    let few : length k.items < 2 ^ 64 - 1 = omega (arith, k.ok.0, k.ok.1, k.small) in
    all_added _ _ _ _ _ _ _ _ few c.in_ok-add_keys.ensures.all
