-- A pass that has put one slot more behind the others, or none.
use Rattle.std.proofs.Common.{◌≡◌, ℕ, ◌+◌, ◌<◌, ◌++◌, ◌∷◌, [], List, length, set, take, refl, ap, ◌∙◌}
use Rattle.std.proofs.lemmas.List.{take_more_set}
use Rattle.oak_core.specs.declared.sorting.SortSlot.{SortSlot}
use Rattle.oak_core.specs.declared.table.Pass.{Pass}
use Rattle.oak_core.specs.Passes.{Stays}
use Rattle.oak_core.specs.Scratch.{StaysButSlots, with_slots}

-- o is the pass before the entries, p the one before the entry, q the one behind it
module _ (o p q : Pass) (own : StaysButSlots o p) (stays : Stays p q) where
  -- with other slots it is the same pass too
  pub slots_put : (y : Pass) (ys : List SortSlot) → y ≡ with_slots q ys → StaysButSlots o y
  slots_put y ys e = record {
    table = ap (λ (a : Pass). a.seat.table_id) e ∙ (stays.table ∙ own.table);
    seat = ap (λ (a : Pass). a.seat.id) e ∙ (stays.seat ∙ own.seat);
    call = ap (λ (a : Pass). a.call) e ∙ (stays.call ∙ own.call);
    scratch = ap (λ (a : Pass). a.scratch) e ∙ (stays.scratch ∙ own.scratch);
    sorting = refl;
  }

  pub slots_kept : (y : Pass) → y ≡ q → StaysButSlots o y
  slots_kept y e = slots_put y q.sorting e

-- the slots up to one that was put behind the others
pub slots_more : (xs zs : List SortSlot) (n m : ℕ) (s : SortSlot) → zs ≡ set xs n s → m ≡ n + 1 → n < length xs → take m zs ≡ take n xs ++ s ∷ []
slots_more xs zs n m s e f lt = (λ j. take (f j) (e j)) ∙ take_more_set xs n s lt
