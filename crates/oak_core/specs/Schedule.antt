-- Lists of events from an opening state.
use Rattle.std.specs.Prelude.{◌≡◌, ℕ, false, List, [], ◌∷◌, ◌++◌, slice_set, Some, ◌≢◌}
use mathlib.Core.Option.{some}
use lib.ListN.{get_elem?}
use Rattle.oak_model.specs.Limits.{Sizes}
use Rattle.oak_core.specs.declared.states.PassState.{PassState}
use Rattle.oak_core.specs.PassState.{HoldsNothing, left_state, right_state, both_state, spent_state}
use Rattle.oak_core.specs.Opening.{opening_words, first_state}
use Rattle.oak_core.specs.TableState.{TableState}
use Rattle.oak_core.specs.Step.{Step, May, table_after}

-- the table as it is made, with its first pass
abbrev pub opening : Sizes → ℕ → TableState
opening z g = record { words = opening_words z g; states = first_state z g ∷ [] }

-- a step of a seat in a call, a split of a seat, or a join of another seat into one
pub data Event : Type 0 where
  steps : (seat call : ℕ) → Step → Event
  splits : (seat : ℕ) → Event
  joins : (seat other : ℕ) → Event

pub record Steps (z : Sizes) (seat call : ℕ) (x : Step) (s t : TableState) : Type 0 where
  pub state : PassState
  pub here : get_elem? s.states seat ≡ some state
  pub going : state.numbers.spent ≡ false
  pub may : May z call x state
  pub after : t ≡ table_after z call x seat state s

-- the pass has a number in hand
pub record MaySplit (v : PassState) : Type 0 where
  pub going : v.numbers.spent ≡ false
  pub number : ℕ
  pub hand : v.numbers.hand ≡ Some number

pub record Splits (seat : ℕ) (s t : TableState) : Type 0 where
  pub state : PassState
  pub here : get_elem? s.states seat ≡ some state
  pub may : MaySplit state
  pub after : t ≡ record { words = s.words; states = slice_set s.states seat (left_state state) ++ right_state state ∷ [] }

-- the pass that is joined holds nothing
pub record MayJoin (w : PassState) : Type 0 where
  pub idle : HoldsNothing w
  pub going : w.numbers.spent ≡ false

pub record Joins (seat other : ℕ) (s t : TableState) : Type 0 where
  pub state : PassState
  pub here : get_elem? s.states seat ≡ some state
  pub taken : PassState
  pub there : get_elem? s.states other ≡ some taken
  pub apart : other ≢ seat
  pub going : state.numbers.spent ≡ false
  pub may : MayJoin taken
  pub after : t ≡ record { words = s.words; states = slice_set (slice_set s.states seat (both_state state taken)) other spent_state }

abbrev pub Goes : Sizes → Event → TableState → TableState → Type 0
Goes z (steps seat call x) s t = Steps z seat call x s t
Goes z (splits seat) s t = Splits seat s t
Goes z (joins seat other) s t = Joins seat other s t

-- the events lead from the one state to the other
abbrev pub IsSchedule : Sizes → TableState → List Event → TableState → Type 0
IsSchedule z s [] t = t ≡ s
IsSchedule z s (e ∷ es) t = (m : TableState) × Goes z e s m × IsSchedule z m es t
