use Rattle.std.proofs.Common.{arith}
use Rattle.oak_model.proofs.KeyLaws.{is_key-of}
use Rattle.oak_run.proofs.asks.checked.Goals as goal

pub returns-clause-key : goal.returns-clause-key
returns-clause-key c = is_key-of c.args.bytes.now c.requires (λ i. omega (arith, c.type_inv.bytes i))
