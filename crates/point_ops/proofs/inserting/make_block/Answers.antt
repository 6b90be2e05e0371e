use Rattle.std.proofs.lemmas.Result.{IfErr-weaker}
use Rattle.oak_core.specs.Passes.{state, key as sizes, call_of}
use Rattle.point_ops.proofs.InsertCauses.{all_taken}
use Rattle.point_ops.proofs.inserting.make_block.Goals as goal

pub returns-clause-refused : goal.returns-clause-refused
returns-clause-refused c = IfErr-weaker c.take_block.result _ _ (λ why f. (f.0, all_taken (sizes c.args.table.now) (call_of c.args.pass.now) (state c.args.pass.now) (state c.take_block.new.pass) c.args.class c.requires.none c.requires.bare f.1)) c.take_block.ensures.refused
