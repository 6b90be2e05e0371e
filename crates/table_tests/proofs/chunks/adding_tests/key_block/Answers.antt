use Rattle.std.proofs.Common.{ℕ, ap, sym, subst}
use Rattle.oak_model.specs.declared.classes.Class.{Class}
use Rattle.oak_model.specs.declared.classes.Class.TheVariants.{B16}
use Rattle.oak_model.specs.Class.{class_number}
use Rattle.arena_core.specs.declared.blocks.HeldBlocks.{HeldBlocks}
use Rattle.arena_core.specs.Blocks.{HoldsBlock}
use Rattle.arena_ops.proofs.StackLaws.{stack_more, stack_top}
use Rattle.oak_core.specs.Passes.{state, key as sizes, call_of}
use Rattle.table_tests.proofs.chunks.adding_tests.key_block.Goals as goal

pub store_bytes-requires-clause-held : goal.store_bytes-requires-clause-held
store_bytes-requires-clause-held g c = let t = c.in-Ok.ensures.taken in let n : ℕ = c.in-Ok.block.number in let v = state c.args.pass.now in let w = state c.take.new.pass in
    subst (λ (d : Class). HoldsBlock (sizes c.args.table.now) (class_number d) n w.blocks) (sym t.0)
    (stack_top (sizes c.args.table.now) B16 (λ _. n) 0 w.blocks (stack_more (sizes c.args.table.now) (call_of c.args.pass.now) B16 (λ _. n) 0 v w (ap (λ (a : HeldBlocks). a.held) c.requires.idle.blocks) t.1))
