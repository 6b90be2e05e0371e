use Rattle.std.proofs.Common.{◌<◌, length, ap, ◌∙◌, sym, append_assoc, arith}
use Rattle.oak_script.proofs.Answered.{length-answered, length-answered_at}
use Rattle.oak_script.proofs.StampLemmas.{writes_more}
use Rattle.oak_script.proofs.places.all_writes.Goals as goal

pub bounds-replies-i : goal.bounds-replies-i
bounds-replies-i c =
    omega (arith, length-answered (λ v. v.items) (λ v. v.items) c.args.threads.now c.args.replies.now c.requires)

pub add_writes-requires : goal.add_writes-requires
add_writes-requires c =
    let same = length-answered_at (λ v. v.items) (λ v. v.items) c.args.threads.now c.args.replies.now c.loop-i.i c.index-threads-i.result c.index-replies-i.result (omega arith) c.index-threads-i.is c.index-replies-i.is c.requires in
    ap length c.as_slice.ensures.value ∙ same ∙ sym (ap length c.as_slice-in-loop-i.ensures.value)

pub loop-i-preserved : goal.loop-i-preserved
loop-i-preserved c =
    let within : c.loop-i.i < length c.args.replies.now = omega (arith, length-answered (λ v. v.items) (λ v. v.items) c.args.threads.now c.args.replies.now c.requires) in
    let more = writes_more (λ v. v.items) (λ v. v.items) c.args.threads.now c.args.replies.now c.loop-i.i c.index-threads-i.result c.index-replies-i.result (omega arith) within c.index-threads-i.is c.index-replies-i.is in
    rw (c.in_ok-add_writes.ensures, append_assoc, c.as_slice.ensures.value, c.as_slice-in-loop-i.ensures.value, ← more) c.loop-i.invariant
