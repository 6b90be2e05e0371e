use Rattle.std.proofs.Common.{◌≡◌, ◌<◌, ◌^◌, ◌++◌, ◌∷◌, ◌∙◌, List, [], ap, get_or, length, map, subst, sym, arith}
use Rattle.std.proofs.lemmas.List.{map_push, length_push}
use Rattle.oak_map.specs.Maps.{call_of, sizes, state}
use Rattle.oak_run.specs.SplitPasses.{HasSplit}
use Rattle.oak_run.proofs.LentLaws.{moved_next}
use Rattle.oak_run.proofs.PushLaws.{all-push}
use Rattle.oak_run.proofs.RanLaws.{at_each}
use Rattle.oak_run.proofs.SplitLaws.{split_push}
use Rattle.oak_run.proofs.TakenApart.{all_removed}
use Rattle.oak_run.proofs.splits.split_workers.Goals as goal

pub loop-i-preserved : goal.loop-i-preserved
loop-i-preserved g c =
    let inv = c.loop-i.invariant in let z = sizes c.args.map.now in
    let ws = c.loop-i.workers.items in let w = c.worker_of-worker.result in let rs = c.loop-i.recipes.items in
    let some : 0 < length rs = (let t = c.loop-i-test.true in let l = inv.left in omega arith) in
    let few : (goal.Recipe-dyn g (c.remove-recipe.result.vtable, c.remove-recipe.result.value)).calls c.remove-recipe.result.value < 2 ^ 63 =
    subst (λ r. (goal.Recipe-dyn g (r.vtable, r.value)).calls r.value < 2 ^ 63) (sym c.remove-recipe.ensures.value) (at_each (λ r. (goal.Recipe-dyn g (r.vtable, r.value)).calls r.value < 2 ^ 63) rs inv.unused 0 c.remove-recipe.result some) in
    rw c.add_worker.ensures.items (record {
      ready = c.split_pass.ensures.ready;
      split = subst (HasSplit z (state c.split_pass.new.first)) (sym (map_push (λ x. (state x.pass).numbers) ws w)) (split_push z (call_of c.loop-i.first) (state c.loop-i.first) (state c.split_pass.new.first) (state w.pass) (map (λ x. (state x.pass).numbers) ws) inv.split (rw c.worker_of-worker.ensures.pass c.in-Some.ensures.split));
      fresh = all-push _ ws w inv.fresh (rw c.worker_of-worker.ensures.pass c.in-Some.ensures.fresh);
      counts = all-push (λ x. (goal.Recipe-dyn g (x.recipe.vtable, x.recipe.value)).calls x.recipe.value < 2 ^ 63) ws w inv.counts (subst (λ r. (goal.Recipe-dyn g (r.vtable, r.value)).calls r.value < 2 ^ 63) (sym c.worker_of-worker.ensures.recipe) few);
      made = let l = length_push ws w in let m = inv.made in omega arith;
      room = let r = inv.room in let k = c.add_worker.ensures.capacity in omega arith;
      left = let l = inv.left in let n = c.remove-recipe.ensures.len in omega arith;
      moved = ap (λ (l : List _). map (λ x. x.recipe) (ws ++ w ∷ []) ++ l) c.remove-recipe.ensures.items ∙ (moved_next (λ x. x.recipe) ws w rs some (subst (λ r. r ≡ get_or rs 0 r) (sym c.worker_of-worker.ensures.recipe) c.remove-recipe.ensures.value) ∙ inv.moved);
      capacity = c.remove-recipe.ensures.capacity ∙ inv.capacity;
      unused = rw c.remove-recipe.ensures.items (all_removed _ rs inv.unused);
    })
