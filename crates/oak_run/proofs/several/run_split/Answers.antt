use Rattle.std.proofs.Common.{◌≡◌, length, map, ap, ◌∙◌, arith}
use Rattle.oak_run.proofs.LentLaws.{rose_back}
use Rattle.oak_run.proofs.RanLaws.{numbers_stay, ran_back, ready_again}
use Rattle.oak_run.proofs.several.run_split.Goals as goal

pub returns-then-whole : goal.returns-then-whole
returns-then-whole g c =
    let long : length c.run_workers.new.workers ≡ c.args.workers.now.len = (let l = c.as_mut_slice.ensures.len in let s = c.run_workers.ensures.long in omega arith) in
    let each : length c.as_mut_slice.result.now ≡ length c.args.threads.now = ap length c.as_mut_slice.ensures.value ∙ rw c.if-whole.true at c.requires.each in
    let ran = ran_back (λ w. w.pass) (λ w. w.answered) c.args.map.now c.args.threads.now c.args.workers.now.items c.as_mut_slice.result.now c.run_workers.new.workers c.args.workers.now.len c.as_mut_slice.ensures.value each long c.run_workers.ensures.long c.run_workers.ensures.ran in
    record {
      numbers = numbers_stay (λ w. w.pass) (λ w. w.answered) c.args.map.now (map (λ v. v.items) c.args.threads.now) c.args.workers.now.items _ ran;
      ready = ready_again (λ w. w.pass) (λ w. w.answered) c.args.map.now (map (λ v. v.items) c.args.threads.now) c.args.workers.now.items _ ran;
      rose = rw c.if-whole.true (rose_back (λ w. (goal.Recipe-dyn g (w.recipe.vtable, w.recipe.value)).calls w.recipe.value) (λ w. w.answered) c.args.workers.now.items c.as_mut_slice.result.now c.run_workers.new.workers c.args.workers.now.len c.as_mut_slice.ensures.value long c.run_workers.ensures.long c.run_workers.ensures.rose);
      ran = rw c.if-whole.true ran;
    }
