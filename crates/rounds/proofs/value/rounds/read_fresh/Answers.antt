use Rattle.std.proofs.Common.{rules, ◌≡◌, ℕ, None, subst}
use Rattle.oak_model.specs.Limits.{Sizes}
use Rattle.oak_core.specs.declared.states.PassState.{PassState}
use Rattle.oak_core.specs.Passes.{state, key, call_of}
use Rattle.value_ops.specs.Pinning.{with_pin, MeetsMore, OnlyLearns}
use Rattle.value_ops.specs.PinnedValues.{OnlyLoads}
use Rattle.value_ops.proofs.ReadRounds.{read_round}
use Rattle.rounds.proofs.value.rounds.read_fresh.Goals as goal

-- the pin, the reading and the unpin leave what the pass holds
pub returns-in-Ok-clause-learns : goal.returns-in-Ok-clause-learns
returns-in-Ok-clause-learns c = let z : Sizes = key c.args.table.now in let call = call_of c.args.pass.now in let same : call_of c.pin_at.new.pass ≡ call = c.pin_at.ensures.own.call in
    let v = state c.args.pass.now in let w = state c.pin_at.new.pass in let u = state c.read_pinned.new.pass in let read = c.read_pinned.ensures.undone in
    read_round z call c.args.at.0 c.args.at.1 v w read.0 read.1 u c.requires.unpinned c.in-Ok.ensures.good.2 (subst (λ (i : ℕ). OnlyLearns z i w read.0) same read.2) (subst (λ (i : ℕ). OnlyLoads z i read.0 read.1) same read.3)
    (subst (λ (i : ℕ). MeetsMore z i (with_pin None read.1) u) same read.4)
