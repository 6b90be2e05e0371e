use Rattle.std.proofs.Common.{rules, ap, subst, Bor}
use Rattle.oak_core.specs.declared.table.OakTable.{OakTable}
use Rattle.oak_core.specs.declared.states.PassState.{PassState}
use Rattle.oak_core.specs.Passes.{state, key as sizes, call_of}
use Rattle.point_ops.specs.Lives.{ReadsUnder}
use Rattle.point_ops.proofs.LookedLives.{reads_under}
use Rattle.point_ops.proofs.lives.stamp_under.Goals as goal

pub returns-clause-reads : goal.returns-clause-reads
returns-clause-reads c = let z = sizes c.args.table.now in let call = call_of c.args.pass.now in let r = c.reading-reading.result in
    let all : ReadsUnder z call c.args.pin.header c.args.pin.generation c.at-at.result (state c.args.pass.now) (state c.done.new.self.1.0) = reads_under z call c.args.pin.header c.args.pin.generation c.requires.pinned.0 (state c.args.pass.now) r (state c.done.new.self.1.0) c.requires.pinned.1 c.reading-reading.ensures.reading c.reading-reading.ensures.only c.reading-reading.ensures.reads (sizes r.table.now) (call_of r.pass.now)
    (ap (λ (t : Bor OakTable). sizes t.now) c.reading-reading.ensures.table) c.reading-reading.ensures.own.call c.done.ensures.undone c.at-at.result c.at-at.ensures in
    subst (λ (y : PassState). ReadsUnder z call c.args.pin.header c.args.pin.generation c.at-at.result (state c.args.pass.now) y) (search rules) all
