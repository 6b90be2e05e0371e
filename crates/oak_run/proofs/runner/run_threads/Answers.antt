use Rattle.std.proofs.Common.{◌≡◌, List, [], ◌∷◌, ◌++◌, length, map, sym, ap, ◌∙◌, subst, arith}
use Rattle.std.proofs.Common.{Vec, Global}
use Rattle.oak_script.specs.declared.scripts.Call.{Call}
use Rattle.oak_run.specs.declared.worker.Answered.{Answered}
use Rattle.oak_run.specs.ScriptRun.{RunsThreads}
use Rattle.oak_run.specs.Workers.{CanRun}
use Rattle.oak_run.proofs.ScriptRuns.{all_threads, one_can_run, only_one}
use Rattle.oak_run.proofs.runner.run_threads.Goals as goal

pub run_several-requires-clause-threads : goal.run_several-requires-clause-threads
run_several-requires-clause-threads g c κs within = all_threads c.args.script.now c.requires.script c.as_slice-threads.result.now c.as_slice-threads.ensures

pub run_one-requires-clause-thread : goal.run_one-requires-clause-thread
run_one-requires-clause-thread g c κs within =
    let vs = c.as_slice-threads.result.now in let v = c.index-threads-0.result in
    let one : length vs ≡ 1 = (let f = c.if-threads-ne1.false in omega arith) in
    subst CanRun (sym c.deref.ensures.value) (one_can_run vs v (only_one vs v one c.index-threads-0.is) (all_threads c.args.script.now c.requires.script vs c.as_slice-threads.ensures))

pub returns-clause-runs : goal.returns-clause-runs
returns-clause-runs g c =
    let vs = c.as_slice-threads.result.now in let v = c.index-threads-0.result in
    let one : length vs ≡ 1 = (let f = c.if-threads-ne1.false in omega arith) in
    let threads : c.deref.result.now ∷ [] ≡ c.args.script.now.threads = ap (λ (cs : List Call). cs ∷ []) c.deref.ensures.value ∙ (ap (map (λ (u : Vec Call Global). u.items)) (sym (only_one vs v one c.index-threads-0.is)) ∙ c.as_slice-threads.ensures) in
    let answers : c.in_ok-answered.answered ∷ [] ≡ c.push.new.self.items = sym (c.in_ok-push.ensures.items ∙ ap (λ (as_before : List Answered). as_before ++ c.in_ok-answered.answered ∷ []) c.new-answers.ensures.items) in
    subst (λ (l : List (List Call) × List Answered). RunsThreads c.args.script.now.shape l.0 l.1 c.in_ok-answered.finals.items c.in_ok-answered.closed) (λ i. (threads i, answers i)) c.in_ok-answered.ensures.runs
