use Rattle.std.proofs.Common.{sym, refl, subst}
use Rattle.oak_core.specs.Passes.{state, key as sizes, call_of}
use Rattle.value_ops.specs.Views.{Viewed}
use Rattle.value_ops.proofs.LearnFacts.{life_stays}
use Rattle.point_ops.specs.Gets.{SeesView}
use Rattle.point_ops.specs.Lives.{LooksAt}
use Rattle.point_ops.specs.declared.lives.Life.{Life}
use Rattle.point_ops.specs.declared.lives.Life.TheVariants.{Live}
use Rattle.value_ops.proofs.LoadedViews.{view_loaded}
use Rattle.point_ops.proofs.gets.get_life.Goals as goal

pub returns-in-Ok-Live-clause-got : goal.returns-in-Ok-Live-clause-got
returns-in-Ok-Live-clause-got c = let z = sizes c.args.table.now in let call = call_of c.args.pass.now in let h = c.args.home.header in let g = c.args.home.generation in let key = c.args.key.now in let v = state c.args.pass.now in let w = state c.look_at.new.pass in
    let looked : LooksAt (Live c.in-Ok-Live.at) z call h g v w = subst (λ (x : Life). LooksAt x z call h g v w) c.in-Ok-Live.field-0-is c.in-Ok-Live.ensures.looked in let read = looked.1 key c.requires.life in
    subst (λ (x : Viewed). SeesView z key x v w) (sym c.make.ensures)
    record {
      key_is = refl;
      bytes = read.0;
      life = read.1;
      knows = record { inside = c.requires.inside; life = life_stays h g key v.knowledge w.knowledge c.look_at.ensures.knows c.requires.life };
      loaded = view_loaded record { key = key; header = h; generation = g; at = c.in-Ok-Live.at } v w c.look_at.ensures.only.learns.all.loaded c.requires.loaded;
    }
