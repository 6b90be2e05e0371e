use Rattle.std.proofs.Common.{◌≤◌, [], sym, subst}
use Rattle.oak_model.specs.declared.limits.TheConstants.{GREATEST_KEY}
use Rattle.chunk_ops.specs.declared.stored.StoredKey.{StoredKey}
use Rattle.oak_core.specs.declared.sorting.SortSlot.{SortSlot}
use Rattle.rebalance.proofs.storing_halves.split_held.Goals as goal

pub store_high-requires-clause-few : goal.store_high-requires-clause-few
store_high-requires-clause-few g c = let d : SortSlot = record { words = []; length = 0; key = 0; value = 0 } in
    subst (λ (k : StoredKey). k.length ≤ GREATEST_KEY) (sym (c.slot_key-middle.ensures d)) (c.requires.keys d)
