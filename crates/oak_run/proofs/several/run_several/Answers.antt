use Rattle.std.proofs.Common.{map, sym, ◌∙◌}
use Rattle.std.proofs.lemmas.List.{length-map}
use Rattle.oak_map.specs.Maps.{call_of, sizes, state}
use Rattle.oak_run.proofs.SplitLaws.{split_none}
use Rattle.oak_run.proofs.ThreadsEnds.{threads_end}
use Rattle.oak_run.proofs.several.run_several.Goals as goal

pub run_threads-answered-requires-clause-first : goal.run_threads-answered-requires-clause-first
run_threads-answered-requires-clause-first g c κs within = split_none (sizes c.in-Ok.made.0) (state c.in-Ok.made.1) c.in-Ok.ensures.first.0

pub returns-clause-runs : goal.returns-clause-runs
returns-clause-runs g c =
    threads_end (sizes c.in-Ok.made.0) c.args.shape.now (call_of c.run_threads-answered.new.first) (state c.run_threads-answered.new.first) (map (λ v. v.items) c.args.threads.now) c.in_ok-answers.answers.items c.in_ok-finals.finals.items c.in_ok-finals.closed
    c.in-Ok.ensures.key (λ one. c.requires.several (sym (length-map c.args.threads.now (λ v. v.items)) ∙ one)) c.in_ok-answers.ensures.came c.run_threads-answered.ensures.alone c.in_ok-finals.ensures.ends
