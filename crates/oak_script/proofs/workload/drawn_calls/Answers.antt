use Rattle.std.proofs.Common.{◌≡◌, suc, [], ◌++◌, ◌∙◌, sym, append_assoc, arith}
use Rattle.std.proofs.lemmas.List.{append-nil}
use Rattle.oak_script.specs.Workload.{drawn_calls}
use Rattle.oak_script.proofs.workload.drawn_calls.Goals as goal

pub loop-i-preserved : goal.loop-i-preserved
loop-i-preserved c = record {
  small = c.next_number-x.ensures.small;
  rest = λ n e.
      let rest : c.loop-i.drawn.items ++ drawn_calls c.loop-i.x (suc n) ≡ drawn_calls c.args.start c.args.calls = c.loop-i.invariant.rest (suc n) (omega arith) in
      rw (c.in_ok-push.ensures.items, append_assoc, c.in_ok-call.ensures, c.next_number-x.ensures.next) rest;
}

pub returns : goal.returns
returns c =
    let rest : c.loop-i.drawn.items ++ [] ≡ drawn_calls c.args.start c.args.calls = c.loop-i.invariant.rest 0 (omega arith) in
    sym (append-nil c.loop-i.drawn.items) ∙ rest
