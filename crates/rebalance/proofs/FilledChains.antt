-- A held room that was filled with slots is chained.
use Rattle.std.proofs.Common.{◌≡◌, ℕ, suc, ◌+◌, ◌<◌, ◌≤◌, nat_lt, if◌then◌else◌, Bool, List, length, sym, ◌∙◌, ap, arith, lt-ltb}
use Rattle.std.proofs.lemmas.Bool.{le-ltb}
use Rattle.oak_model.specs.declared.limits.TheConstants.{GREATEST_ENTRIES}
use Rattle.oak_model.specs.Counts.{one_if}
use Rattle.oak_model.specs.Limits.{Sizes}
use Rattle.chunk_core.specs.ChainedRooms.{IsChained}
use Rattle.chunk_core.specs.RoomReads.{copy_at}
use Rattle.chunk_core.specs.Rooms.{RoomMemory}
use Rattle.chunk_core.proofs.ChainedRooms.{copied_word, copied_value, copied_next}
use Rattle.oak_core.specs.declared.sorting.SortSlot.{SortSlot}
use Rattle.rebalance.specs.Filled.{IsFilled, next_of}
use Rattle.rebalance.proofs.FilledCopies.{filled_many, filled_prefix}

-- the link of an entry that is not the last, and of the last
next_some : (i n : ℕ) → suc i < n → next_of i n ≡ suc i + 1
next_some i n l = ap (λ (b : Bool). if b then i + 2 else 0) (lt-ltb (i + 1) n (omega arith)) ∙ (let e : i + 2 ≡ suc i + 1 = omega arith in e)

next_none : (i n : ℕ) → suc i ≡ n → next_of i n ≡ 0
next_none i n e = ap (λ (b : Bool). if b then i + 2 else 0) (le-ltb (i + 1) n (omega arith))

module _ (z : Sizes) (m : RoomMemory) (r : ℕ) (xs : List SortSlot) (base : ℕ) (filled : IsFilled z.entries r xs base m) (few : length xs ≤ z.entries) (limit : z.entries ≤ GREATEST_ENTRIES) where
  pub filled_chained : IsChained z (copy_at z m r)
  filled_chained = let many = filled_many z m r xs base filled few limit in let prefix = filled_prefix z m r xs base filled few limit in record {
    whole = prefix ∙ sym many;
    begins = filled.first ∙ ap (λ (n : ℕ). one_if (nat_lt 0 n)) (sym many);
    links = λ i l. copied_next z m r i (omega arith) ∙ (filled.linked i (omega arith) ∙ next_some i (length xs) (omega arith));
    ends = λ i e. copied_next z m r i (omega arith) ∙ (filled.linked i (omega arith) ∙ next_none i (length xs) (omega arith));
    zeros = λ i le l. let q = filled.rest i (omega arith) l in (copied_word z m r i l ∙ q.0, copied_value z m r i l ∙ q.1);
  }
