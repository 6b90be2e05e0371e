use Rattle.std.proofs.Common.{ℕ, ◌+◌, ◌≤◌, [], length, map, refl, sym, ap, ◌∙◌, arith, vec_capacity}
use Rattle.oak_map.specs.Maps.{sizes, state}
use Rattle.oak_run.proofs.LentLaws.{long_again, others_again, room_back, rose_again, still_by}
use Rattle.oak_run.proofs.OkLaws.{if_ok-map}
use Rattle.oak_run.proofs.RanLaws.{alone_home, came_home}
use Rattle.oak_run.proofs.SplitLaws.{alone_again}
use Rattle.oak_run.proofs.several.run_threads.Goals as goal

pub returns-in-Err-clause-alone : goal.returns-in-Err-clause-alone
returns-in-Err-clause-alone g c = alone_again (sizes c.args.map.now) (state c.args.first.now) [] [] c.requires.first refl

pub returns-then-whole-clause-alone : goal.returns-then-whole-clause-alone
returns-then-whole-clause-alone g c = alone_home (λ w. w.pass) (λ w. w.answered) (sizes c.args.map.now) c.args.map.now (state c.split_workers-whole.new.first) (state c.join_all-answers.new.first) c.split_workers-whole.new.workers.items c.run_split.new.workers.items
    c.split_workers-whole.ensures.split c.join_all-answers.ensures.joined c.run_split.ensures.numbers

pub returns-then-whole-clause-came : goal.returns-then-whole-clause-came
returns-then-whole-clause-came g c = if_ok-map _ _ c.join_all-answers.result
    (λ v answers. came_home (λ w. w.pass) (λ w. w.answered) (sizes c.args.map.now) c.args.map.now (state c.split_workers-whole.new.first) (state c.join_all-answers.new.first) c.split_workers-whole.new.workers.items c.run_split.new.workers.items
    c.split_workers-whole.ensures.split c.join_all-answers.ensures.joined (map (λ u. u.items) c.args.threads.now) v.items (c.requires.passes ∙ ap (λ (n : ℕ). n + 1) (sym (rw c.if-whole.true at c.split_workers-whole.ensures.whole)))
    (rw c.if-whole.true at c.run_split.ensures.ran) answers)
    c.join_all-answers.ensures.answers

pub returns-else-whole-clause-alone : goal.returns-else-whole-clause-alone
returns-else-whole-clause-alone g c = alone_home (λ w. w.pass) (λ w. w.answered) (sizes c.args.map.now) c.args.map.now (state c.split_workers-whole.new.first) (state c.join_all-answers.new.first) c.split_workers-whole.new.workers.items c.run_split.new.workers.items
    c.split_workers-whole.ensures.split c.join_all-answers.ensures.joined c.run_split.ensures.numbers

pub join_all-answers-requires-clause-room : goal.join_all-answers-requires-clause-room
join_all-answers-requires-clause-room g c κs within =
    let fit : length c.args.recipes.now.items ≤ vec_capacity c.split_workers-whole.new.recipes = (let k = c.split_workers-whole.ensures.capacity in let n = c.args.recipes.now.ok.0 in let fits = c.args.recipes.now.ok.1 in omega arith) in
    room_back (λ w. w.recipe) c.split_workers-whole.new.workers.items c.run_split.new.workers.items c.split_workers-whole.new.recipes.items c.args.recipes.now.items (vec_capacity c.split_workers-whole.new.recipes) (still_by (λ w. (state w.pass).numbers) c.split_workers-whole.new.workers.items c.run_split.new.workers.items c.run_split.ensures.numbers) c.split_workers-whole.ensures.moved fit

pub returns-then-whole-clause-long : goal.returns-then-whole-clause-long
returns-then-whole-clause-long g c = long_again (λ w. w.recipe) c.split_workers-whole.new.workers.items c.run_split.new.workers.items c.split_workers-whole.new.recipes.items c.args.recipes.now.items c.join_all-answers.new.recipes.items (still_by (λ w. (state w.pass).numbers) c.split_workers-whole.new.workers.items c.run_split.new.workers.items c.run_split.ensures.numbers) c.split_workers-whole.ensures.moved c.join_all-answers.ensures.recipes

pub returns-then-whole-clause-others : goal.returns-then-whole-clause-others
returns-then-whole-clause-others g c = others_again (λ w. w.recipe) c.split_workers-whole.new.workers.items c.run_split.new.workers.items c.split_workers-whole.new.recipes.items c.args.recipes.now.items c.join_all-answers.new.recipes.items (still_by (λ w. (state w.pass).numbers) c.split_workers-whole.new.workers.items c.run_split.new.workers.items c.run_split.ensures.numbers) c.split_workers-whole.ensures.moved c.join_all-answers.ensures.recipes (length c.args.threads.now) c.split_workers-whole.ensures.few

pub returns-else-whole-clause-long : goal.returns-else-whole-clause-long
returns-else-whole-clause-long g c = long_again (λ w. w.recipe) c.split_workers-whole.new.workers.items c.run_split.new.workers.items c.split_workers-whole.new.recipes.items c.args.recipes.now.items c.join_all-answers.new.recipes.items (still_by (λ w. (state w.pass).numbers) c.split_workers-whole.new.workers.items c.run_split.new.workers.items c.run_split.ensures.numbers) c.split_workers-whole.ensures.moved c.join_all-answers.ensures.recipes

pub returns-else-whole-clause-others : goal.returns-else-whole-clause-others
returns-else-whole-clause-others g c = others_again (λ w. w.recipe) c.split_workers-whole.new.workers.items c.run_split.new.workers.items c.split_workers-whole.new.recipes.items c.args.recipes.now.items c.join_all-answers.new.recipes.items (still_by (λ w. (state w.pass).numbers) c.split_workers-whole.new.workers.items c.run_split.new.workers.items c.run_split.ensures.numbers) c.split_workers-whole.ensures.moved c.join_all-answers.ensures.recipes (length c.args.threads.now) c.split_workers-whole.ensures.few

pub returns-then-whole-clause-rose : goal.returns-then-whole-clause-rose
returns-then-whole-clause-rose g c = if_ok-map _ _ c.join_all-answers.result
    (λ v answers. rose_again (λ w. w.recipe) c.split_workers-whole.new.workers.items c.run_split.new.workers.items c.split_workers-whole.new.recipes.items c.args.recipes.now.items c.join_all-answers.new.recipes.items (still_by (λ w. (state w.pass).numbers) c.split_workers-whole.new.workers.items c.run_split.new.workers.items c.run_split.ensures.numbers) c.split_workers-whole.ensures.moved c.join_all-answers.ensures.recipes
    (λ r. (goal.Recipe-dyn g (r.vtable, r.value)).calls r.value) (λ w. w.answered) v.items (rw c.if-whole.true at c.run_split.ensures.rose) answers)
    c.join_all-answers.ensures.answers
