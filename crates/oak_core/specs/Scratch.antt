-- The scratch of a pass, and the slots in which it sorts, changed and lent.
use Rattle.std.specs.Prelude.{ℕ, List}
use Rattle.std.specs.Borrow.{Lends, MutBor, Fml}
use Rattle.oak_core.specs.declared.sorting.SortSlot.{SortSlot}
use Rattle.oak_core.specs.declared.table.Pass.{Pass}
use Rattle.oak_core.specs.Passes.{Stays}
use Rattle.oak_core.specs.contracts.table.Pass.{the_row}
use Rattle.oak_core.specs.contracts.sorting.Sorting.{the_row as sorting_row}
use Rattle.oak_core.specs.contracts.writing.Writing.{the_row as writing_row}

-- the pass with these bytes in its scratch, and else as it is
abbrev pub with_scratch : Pass → List ℕ → Pass
with_scratch p bytes = record p { scratch = bytes }

-- it is the same pass, in the same call, but for the bytes in its scratch
abbrev pub StaysButScratch : Pass → Pass → Type 0
StaysButScratch p q = Stays (with_scratch p q.scratch) q

-- p ends with the last bytes behind r in its scratch
abbrev pub LendsScratch : MutBor Pass → MutBor (List ℕ) → Fml
LendsScratch p r = Lends the_row writing_row p r (with_scratch p.now)

-- the pass with these slots, and else as it is
abbrev pub with_slots : Pass → List SortSlot → Pass
with_slots p slots = record p { sorting = slots }

-- it is the same pass, in the same call, but for what its slots have
abbrev pub StaysButSlots : Pass → Pass → Type 0
StaysButSlots p q = Stays (with_slots p q.sorting) q

-- p ends with the last slots behind r
abbrev pub LendsSlots : MutBor Pass → MutBor (List SortSlot) → Fml
LendsSlots p r = Lends the_row sorting_row p r (with_slots p.now)
