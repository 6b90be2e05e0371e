-- What contracts see of a table and of a pass.
use Rattle.std.specs.Prelude.{◌≡◌, ℕ, List}
use Rattle.oak_model.specs.Limits.{Sizes}
use Rattle.oak_core.specs.declared.sorting.SortSlot.{SortSlot}
use Rattle.oak_core.specs.declared.states.PassState.{PassState}
use Rattle.oak_core.specs.declared.table.OakTable.{OakTable}
use Rattle.oak_core.specs.declared.table.Pass.{Pass}

-- the shape of the table
abbrev pub key : OakTable → Sizes
key t = t.table.shared.key.shape

-- the generation at which its headers began
abbrev pub opened_at : OakTable → ℕ
opened_at t = t.table.shared.key.generation

-- what the pass has seen, done and holds
abbrev pub state : Pass → PassState
state p = p.seat.me.0

-- the number of its present call
abbrev pub call_of : Pass → ℕ
call_of p = p.call

-- the block of each class at which its next search for one begins
abbrev pub searches : Pass → List ℕ
searches p = p.searches

-- the header at which its next search for a free one begins
abbrev pub header_search : Pass → ℕ
header_search p = p.header_search

-- how many rooms it has pinned, as far as it counts
abbrev pub tries : Pass → ℕ
tries p = p.tries

-- the bytes in its scratch
abbrev pub scratch_of : Pass → List ℕ
scratch_of p = p.scratch

-- the slots in which it sorts the entries of a room
abbrev pub slots_of : Pass → List SortSlot
slots_of p = p.sorting

-- the pass belongs to the table
abbrev pub IsPassOf : OakTable → Pass → Type 0
IsPassOf t p = p.seat.table_id ≡ t.table.shared.table_id

-- it is the same pass, in the same call, and its scratch and its slots are as they were
pub record Stays (p q : Pass) : Type 0 where
  pub table : q.seat.table_id ≡ p.seat.table_id
  pub seat : q.seat.id ≡ p.seat.id
  pub call : q.call ≡ p.call
  pub scratch : q.scratch ≡ p.scratch
  pub sorting : q.sorting ≡ p.sorting

-- its next searches begin where they would have begun
pub record SearchesStay (p q : Pass) : Type 0 where
  pub searches : q.searches ≡ p.searches
  pub header_search : q.header_search ≡ p.header_search

-- it has counted no further rooms
abbrev pub TriesStay : Pass → Pass → Type 0
TriesStay p q = q.tries ≡ p.tries

-- it is the same pass with all that it has seen, done and holds, in another call
pub record Turns (p q : Pass) (next : ℕ) : Type 0 where
  pub table : q.seat.table_id ≡ p.seat.table_id
  pub seat : q.seat.id ≡ p.seat.id
  pub call : q.call ≡ next
  pub state : q.seat.me ≡ p.seat.me
  pub searches : q.searches ≡ p.searches
  pub header_search : q.header_search ≡ p.header_search
  pub tries : q.tries ≡ p.tries
  pub scratch : q.scratch ≡ p.scratch
  pub sorting : q.sorting ≡ p.sorting
