use Rattle.std.proofs.Common.{◌≡◌, sym, ap, ◌∙◌, subst}
use Rattle.oak_model.specs.Limits.{Sizes}
use Rattle.oak_core.specs.declared.states.PassState.{PassState}
use Rattle.oak_core.specs.Opening.{first_state}
use Rattle.oak_core.proofs.seats.Alone.{numbers_alone}
use Rattle.oak_map.specs.Maps.{call_of, sizes, state}
use Rattle.oak_run.specs.Reads.{IsOnlyThread}
use Rattle.oak_run.proofs.OnlyThreads.{nothing_written, only_thread}
use Rattle.oak_run.proofs.lone.begin.Goals as goal

pub close-closed-requires-clause-alone : goal.close-closed-requires-clause-alone
close-closed-requires-clause-alone g c κs within = numbers_alone (state c.split.new.pass) (ap (λ (x : PassState). x.numbers) c.in-Err-split.ensures.refused.after ∙ ap (λ (x : PassState). x.numbers) c.in-Ok.ensures.first.0)

pub returns-in-Ok-split-clause-only : goal.returns-in-Ok-split-clause-only
returns-in-Ok-split-clause-only g c = let z = sizes c.in-Ok.made.0 in let v = state c.in-Ok.made.1 in let first : v ≡ first_state z 0 = c.in-Ok.ensures.first.0 in
    subst IsOnlyThread (sym c.join.ensures.joined)
    (only_thread z (call_of c.in-Ok.made.1) v (state c.split.new.pass) (state c.in-Ok-split.pass) (ap (λ (s : Sizes). s.passes) c.in-Ok.ensures.key ∙ c.requires.passes)
    (ap (λ (x : PassState). x.numbers) first) (ap (λ (x : PassState). x.knowledge.mine) first) c.in-Ok-split.ensures.split)

pub returns-in-Ok-split-clause-unwritten : goal.returns-in-Ok-split-clause-unwritten
returns-in-Ok-split-clause-unwritten g c = let z = sizes c.in-Ok.made.0 in let v = state c.in-Ok.made.1 in let first : v ≡ first_state z 0 = c.in-Ok.ensures.first.0 in
    ap (λ (x : PassState). x.knowledge.mine) c.join.ensures.joined
    ∙ nothing_written z (call_of c.in-Ok.made.1) v (state c.split.new.pass) (state c.in-Ok-split.pass) (ap (λ (s : Sizes). s.passes) c.in-Ok.ensures.key ∙ c.requires.passes)
    (ap (λ (x : PassState). x.numbers) first) (ap (λ (x : PassState). x.knowledge.mine) first) c.in-Ok-split.ensures.split
