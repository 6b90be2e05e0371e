use Rattle.std.proofs.Common.{arith}
use Rattle.oak_model.proofs.KeyLaws.{is_key-of}
use Rattle.oak_run.proofs.scans.key_bytes.Goals as goal

pub returns-clause-key : goal.returns-clause-key
returns-clause-key c = is_key-of c.args.key.now c.requires (λ i. let b = c.type_inv.key i in omega arith)
