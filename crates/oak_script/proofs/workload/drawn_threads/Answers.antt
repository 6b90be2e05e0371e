use Rattle.std.proofs.Common.{◌≡◌, suc, ◌+◌, [], ◌++◌, map, ◌∙◌, sym, append_assoc, arith}
use Rattle.std.proofs.lemmas.List.{append-nil, map-append}
use Rattle.oak_script.specs.Workload.{drawn_threads}
use Rattle.oak_script.proofs.workload.drawn_threads.Goals as goal

pub loop-i-preserved : goal.loop-i-preserved
loop-i-preserved c = λ n e.
    let rest : map (λ c. c.items) c.loop-i.drawn.items ++ drawn_threads c.args.calls (c.args.start + c.loop-i.i) (suc n) ≡ drawn_threads c.args.calls c.args.start c.args.threads = c.loop-i.invariant (suc n) (omega arith) in
    let next : c.args.start + (c.loop-i.i + 1) ≡ suc (c.args.start + c.loop-i.i) = omega arith in
    rw (c.in_ok-push.ensures.items, map-append, append_assoc, c.in_ok-of_thread.ensures, next) rest

pub returns : goal.returns
returns c =
    let rest : map (λ c. c.items) c.loop-i.drawn.items ++ [] ≡ drawn_threads c.args.calls c.args.start c.args.threads = c.loop-i.invariant 0 (omega arith) in
    sym (append-nil _) ∙ rest
