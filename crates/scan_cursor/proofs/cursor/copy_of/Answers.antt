use Rattle.std.proofs.Common.{◌≡◌, true, List, ℕ, sym, subst, arith}
use Rattle.oak_model.specs.Key.{is_key}
use Rattle.oak_model.proofs.KeyLaws.{is_key-of}
use Rattle.scan_cursor.proofs.cursor.copy_of.Goals as goal

pub returns-clause-key : goal.returns-clause-key
returns-clause-key c = subst (λ (k : List ℕ). is_key k ≡ true) (sym c.from_key.ensures) (is_key-of c.args.key.now c.requires (λ i. let b = c.type_inv.key i in omega arith))
