use Rattle.std.proofs.Common.{◌≡◌, length, take, arith}
use Rattle.std.proofs.Math.Nat.{min-le_left, min-le_right}
use Rattle.std.proofs.lemmas.List.{length-take-le}
use Rattle.oak_core.specs.Passes.{state, key}
use Rattle.value_ops.proofs.ValueFacts.{long}
use Rattle.value_ops.proofs.pinned_value.PinnedValue.copy_prefix.Goals as goal

pub copy_front-requires-clause-front : goal.copy_front-requires-clause-front
copy_front-requires-clause-front c = let m = c.min-many.ensures in let out = c.args.out.now in let n = c.args.self.length in let few = min-le_left (length out) n in let less = min-le_right (length out) n in
    let l = long (key c.args.table.now) c.args.self (state c.args.pass.now) c.requires.pinned in
    let t : length (take c.min-many.result out) ≡ c.min-many.result = length-take-le c.min-many.result out (omega arith) in omega arith
