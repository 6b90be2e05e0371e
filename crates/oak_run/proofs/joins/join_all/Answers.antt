use Rattle.std.proofs.Common.{◌≡◌, ◌<◌, ◌∙◌, List, Some, ap, arith, get_or, length, map, subst}
use Rattle.std.specs.List.{remove}
use Rattle.oak_map.specs.Maps.{state}
use Rattle.oak_run.proofs.LentLaws.{back_next, length_back}
use Rattle.oak_run.proofs.TakenApart.{front, joined_next, kept_next}
use Rattle.oak_run.proofs.joins.join_all.Goals as goal

pub join_worker-answered-requires-clause-place : goal.join_worker-answered-requires-clause-place
join_worker-answered-requires-clause-place g c =
    let lt : c.loop-i.i < length c.args.workers.items = (let t = c.loop-i-test.true in let n = c.len-count.ensures in omega arith) in
    let l = length_back (λ x. x.recipe) c.args.workers.items c.loop-i.i c.args.recipes.now.items c.loop-i.recipes.items (omega (arith, lt)) c.loop-i.invariant.recipes in
    omega (arith, l, c.loop-i.recipes.ok.0)

pub join_worker-answered-requires-clause-room : goal.join_worker-answered-requires-clause-room
join_worker-answered-requires-clause-room g c =
    let lt : c.loop-i.i < length c.args.workers.items = (let t = c.loop-i-test.true in let n = c.len-count.ensures in omega arith) in
    let l = length_back (λ x. x.recipe) c.args.workers.items c.loop-i.i c.args.recipes.now.items c.loop-i.recipes.items (omega (arith, lt)) c.loop-i.invariant.recipes in
    omega (arith, l, lt, c.loop-i.recipes.ok.0, c.loop-i.invariant.room)

pub loop-i-preserved : goal.loop-i-preserved
loop-i-preserved g c =
    let i = c.loop-i.i in let inv = c.loop-i.invariant in
    let xs = c.args.workers.items in let w = c.remove-worker.result in
    let lt : i < length xs = (let t = c.loop-i-test.true in let n = c.len-count.ensures in omega arith) in
    let f = front xs i w lt (subst (λ (ys : List _). w ≡ get_or ys 0 w) inv.left c.remove-worker.ensures.value) in
    record {
      ready = c.join_worker-answered.ensures.ready;
      left = c.remove-worker.ensures.items ∙ ap (λ (ys : List _). remove ys 0) (inv.left ∙ f.1);
      joined = joined_next (λ x. state x.pass) (state c.args.first.now) (state c.loop-i.first) (state c.join_worker-answered.new.first) xs i w lt f.0 inv.joined c.join_worker-answered.ensures.joined;
      recipes = back_next (λ x. x.recipe) xs i w c.args.recipes.now.items c.loop-i.recipes.items c.join_worker-answered.new.recipes.items lt f.0 inv.recipes c.join_worker-answered.ensures.recipes;
      room = let r = inv.room in let k = c.join_worker-answered.ensures.capacity in omega arith;
      answers = rw c.both-whole.ensures (kept_next (λ x. x.answered) (map (λ a. Some a) c.loop-i.answers.items) (map (λ a. Some a) c.keep-kept.new.answers.items) xs i w c.keep-kept.result c.loop-i.whole lt f.0 inv.answers
          (rw c.join_worker-answered.ensures.answered at c.keep-kept.ensures));
    }
