use Rattle.std.proofs.Common.{◌≡◌, ◌<◌, ◌^◌, length}
use Rattle.std.specs.List.{AllByRecursion}
use Rattle.oakmap.specs.contracts.recipes.add.{dyn-1-ghosts}
use Rattle.oakmap.proofs.process.program.OwnLists.{own-1, lawful-own-1}
use Rattle.oakmap.proofs.process.program.Hidden.{sends-own-1}
use Rattle.oakmap.proofs.process.program.Given as goal

abbrev pub invariant-loop : goal.invariant-loop
invariant-loop g l = record {
  made : length l.recipes.items ≡ l.counter;
  counts : AllByRecursion (λ r. ((dyn-1-ghosts (own-1, lawful-own-1, sends-own-1)).0.entry r.vtable).1.calls r.value < 2 ^ 63) l.recipes.items;
}
