use Rattle.std.proofs.Common.{◌≡◌, slice_index, ◌∙◌, sym, arith}
use Rattle.oak_model.specs.Class.{class_number}
use Rattle.oak_core.specs.Passes.{state, key, call_of, searches}
use Rattle.arena_ops.proofs.LookLaws.{looked_only, looked_none}
use Rattle.arena_ops.proofs.searching.take_next.Goals as goal

pub returns-then-not-take_one-clause-none : goal.returns-then-not-take_one-clause-none
returns-then-not-take_one-clause-none c = looked_only (key c.args.table.now) (call_of c.args.pass.now) c.args.class (state c.args.pass.now) (state c.take_one.new.pass) (λ b. b ≡ c.search-next.result) (λ b. b ≡ slice_index (searches c.args.pass.now) (class_number c.args.class))
    (λ b lb q. q ∙ sym c.search-next.ensures) (c.take_one.ensures.set c.if-not-take_one.true)

pub returns-then-next-blocks-clause-none : goal.returns-then-next-blocks-clause-none
returns-then-next-blocks-clause-none c = looked_only (key c.args.table.now) (call_of c.args.pass.now) c.args.class (state c.args.pass.now) (state c.args.pass.now) (λ b. ⊥) (λ b. b ≡ slice_index (searches c.args.pass.now) (class_number c.args.class))
    (λ b lb q. let n = c.search-next.ensures in let e = c.blocks-2.ensures in let t = c.if-next-blocks.true in absurd (omega arith))
    (looked_none (key c.args.table.now) (call_of c.args.pass.now) c.args.class (state c.args.pass.now) (λ b. ⊥) (λ b e. e))
