use Rattle.oak_core.specs.Passes.{state, key as sizes, call_of}
use Rattle.point_ops.proofs.LoneFresh.{returned_alone}
use Rattle.point_ops.proofs.ValuesMade.{fresh_there, withdrawn_front, withdrawn_given}
use Rattle.point_ops.proofs.inserting.give_back.Goals as goal

pub withdraw-block-requires-clause-fresh : goal.withdraw-block-requires-clause-fresh
withdraw-block-requires-clause-fresh c = fresh_there (sizes c.args.table.now) c.args.fresh.header c.args.fresh.generation c.args.fresh.stamp c.requires.fresh.0 (state c.args.pass.now) c.requires.fresh.1

pub returns-clause-stands : goal.returns-clause-stands
returns-clause-stands c = let b = c.withdraw-block.result in withdrawn_given (sizes c.args.table.now) (call_of c.args.pass.now) c.args.fresh.header b.class b.number (state c.args.pass.now) (state c.withdraw-block.new.pass) (state c.give.new.pass)
    c.withdraw-block.ensures.withdrawn (call_of c.withdraw-block.new.pass) c.withdraw-block.ensures.own.call c.give.ensures.given

pub returns-clause-front : goal.returns-clause-front
returns-clause-front c = let b = c.withdraw-block.result in withdrawn_front (sizes c.args.table.now) (call_of c.args.pass.now) c.args.fresh.header b.class b.number (state c.args.pass.now) (state c.withdraw-block.new.pass) (state c.give.new.pass)
    c.withdraw-block.ensures.withdrawn (call_of c.withdraw-block.new.pass) c.withdraw-block.ensures.own.call c.give.ensures.given

pub returns-clause-alone : goal.returns-clause-alone
returns-clause-alone o = λ c b names. let x = o.withdraw-block.result in returned_alone (sizes o.args.table.now) (call_of o.args.pass.now) (call_of o.withdraw-block.new.pass) o.args.fresh.header x.class x.number
    (state o.args.pass.now) (state o.withdraw-block.new.pass) (state o.give.new.pass) o.withdraw-block.ensures.withdrawn o.give.ensures.given c b names
