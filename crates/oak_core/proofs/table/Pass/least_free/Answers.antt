use Rattle.std.proofs.Common.{ℕ, sym, subst, w64}
use Rattle.std.specs.Int.{trailing_ones}
use Rattle.oak_core.specs.Passes.{state, key, call_of}
use Rattle.oak_core.specs.Splitting.{FindsLeast}
use Rattle.oak_core.proofs.seats.Splits.{lower_ones}
use Rattle.oak_core.proofs.table.Pass.least_free.Goals as goal

pub returns-clause-least : goal.returns-clause-least
returns-clause-least c = let b = lower_ones c.load.result c.load.type_inv in let v = state c.args.self.now in let w = state c.load.new.pass in
    let f : FindsLeast (key c.args.table.now) (call_of c.args.self.now) v (trailing_ones w64 c.load.result) w = record { number = c.load.result; loads = c.load.ensures.loaded; lower = b.0; free = b.1 } in
    subst (λ (k : ℕ). FindsLeast (key c.args.table.now) (call_of c.args.self.now) v k w) (sym c.trailing_ones.ensures) f
