use Rattle.std.proofs.Common.{sym, ap, subst, arith}
use Rattle.oak_core.specs.declared.states.PassState.{PassState}
use Rattle.oak_core.specs.PassState.{IsAlone}
use Rattle.oak_map.specs.Maps.{call_of, sizes, state}
use Rattle.oak_run.specs.EndsRun.{EndsRun}
use Rattle.oak_run.proofs.LoneEnds.{lone_run}
use Rattle.oak_run.proofs.OnlyThreads.{only_still}
use Rattle.oak_run.proofs.lone.run_one.Goals as goal

pub end-ended-requires-clause-alone : goal.end-ended-requires-clause-alone
end-ended-requires-clause-alone g c κs within = subst (λ (v : PassState). IsAlone v) (ap (λ m. m.0) (sym c.turn.ensures.state)) (only_still (state c.in_ok-map.pass) (state c.run_calls-answered.new.pass) c.run_calls-answered.ensures.numbers c.in_ok-map.ensures.only).alone

pub returns-clause-runs : goal.returns-clause-runs
returns-clause-runs g c =
    lone_run (sizes c.in_ok-map.map) c.args.shape.now (call_of c.turn.new.self) (state c.in_ok-map.pass) (state c.run_calls-answered.new.pass) c.args.thread.now c.in_ok-answered.answered c.in_ok-finals.finals.items c.in_ok-finals.closed
    c.in_ok-map.ensures.sizes (let t = c.turn.ensures.call in let f = c.requires.thread.few in omega arith) c.in_ok-map.ensures.only c.in_ok-map.ensures.unwritten c.run_calls-answered.ensures.numbers c.in_ok-answered.ensures.answers c.in_ok-answered.ensures.lone
    (subst (λ (v : PassState). EndsRun (sizes c.in_ok-map.map) (call_of c.turn.new.self) v c.in_ok-finals.finals.items c.in_ok-finals.closed) (ap (λ m. m.0) c.turn.ensures.state) c.in_ok-finals.ensures.ends)
