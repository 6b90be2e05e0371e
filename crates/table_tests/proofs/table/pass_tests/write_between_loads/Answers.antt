use Rattle.std.proofs.Common.{◌≡◌, ℕ, ◌<◌, sym, ◌∙◌, subst, ap}
use Rattle.oak_model.specs.Counts.{one_at, total}
use Rattle.oak_core.specs.declared.states.Numbers.{Numbers}
use Rattle.oak_core.specs.Passes.{state}
use Rattle.oak_core.specs.PassState.{rooted}
use Rattle.table_tests.proofs.table.pass_tests.write_between_loads.Goals as goal
use Rattle.oak_core.specs.declared.states.PassState.{PassState}

pub returns-clause-alone : goal.returns-clause-alone
returns-clause-alone c = let v = state c.args.pass.now in let w = state c.load-2.new.pass in
    let same : v.numbers ≡ w.numbers = sym (ap (λ (y : PassState). y.numbers) c.load-2.ensures.loaded.told.after ∙ ap (λ (y : PassState). y.numbers) c.load.ensures.loaded.told.after) in record {
      first = subst (λ (n : Numbers). 0 < rooted 0 n) same c.requires.alone.first;
      others = λ k. subst (λ (n : Numbers). 0 < total (λ (m : ℕ). one_at m k) n.made → 0 < rooted k n) same (c.requires.alone.others k);
    }
