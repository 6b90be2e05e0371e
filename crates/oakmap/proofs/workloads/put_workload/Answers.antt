use Rattle.oakmap.proofs.workloads.put_workload.Goals as goal

pub returns-in-Ok-write_whole : goal.returns-in-Ok-write_whole
returns-in-Ok-write_whole g c =
    ((c.in-Ok.made.0.items, c.in-Ok.ensures.printed.0, rw c.deref.ensures.value at c.in-Ok-write_whole.ensures.ok), c.in-Ok.ensures.printed.1)

pub returns : goal.returns
returns g c =
    ((c.in-Err-write_whole.ensures.cause.failed, (c.in-Ok.made.0.items, c.in-Ok.ensures.printed.0, rw c.deref.ensures.value at c.in-Err-write_whole.ensures.err)), c.in-Ok.ensures.printed.1)
