use Rattle.oak_script.proofs.WorkloadLemmas.{is-script}
use Rattle.oak_script.proofs.workload.gen_script.Goals as goal

pub returns-clause-script : goal.returns-clause-script
returns-clause-script c =
    let fit = rw c.default_shape.ensures.is at c.default_shape.ensures.fit in
    rw (c.default_shape.ensures.is, c.of.ensures, c.in_ok-drawn.ensures) (is-script c.args.calls c.args.threads c.args.start c.requires fit)
