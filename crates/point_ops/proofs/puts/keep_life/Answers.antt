use Rattle.std.proofs.Common.{subst}
use Rattle.oak_core.specs.AloneWords.{Runs}
use Rattle.oak_core.specs.Passes.{state, key as sizes}
use Rattle.point_ops.specs.LoneLives.{LifeIn}
use Rattle.point_ops.specs.declared.lives.Life.{Life}
use Rattle.point_ops.proofs.LoneUnderPins.{dead_refused}
use Rattle.point_ops.proofs.puts.keep_life.Goals as goal

pub returns-in-Ok-Dead-clause-alone_refused : goal.returns-in-Ok-Dead-clause-alone_refused
returns-in-Ok-Dead-clause-alone_refused c = let z = sizes c.args.table.now in let v = state c.args.pass.now in let w = state c.look_at.new.pass in
    dead_refused z c.args.home.header c.args.home.generation v w (subst (λ (x : Life). Runs (LifeIn x z c.args.home.header c.args.home.generation v) v w) c.in-Ok-Dead.field-0-is c.in-Ok-Dead.ensures.alone)
