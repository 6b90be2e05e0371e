-- What a cursor has, and what its calls do.
use Rattle.std.specs.Prelude.{◌≡◌, ℕ, Bool, true, false, List, [], ◌∷◌, ◌++◌, IsSome, Option, Some, None}
use Rattle.oak_model.specs.declared.replies.Pair.{Pair}
use Rattle.oak_model.specs.Key.{is_key}
use Rattle.oak_model.specs.KeyNumber.{key_number}
use Rattle.oak_model.specs.Limits.{Sizes}
use Rattle.oak_core.specs.declared.states.PassState.{PassState}
use Rattle.oak_core.specs.AloneWords.{Runs}
use Rattle.oak_core.specs.PassState.{HoldsNothing}
use Rattle.oak_core.specs.Passes.{IsPassOf, Stays, call_of, key as sizes, state}
use Rattle.oak_core.specs.QuietSteps.{Quiet}
use Rattle.chunk_ops.specs.AddsAlone.{Never}
use Rattle.value_ops.specs.declared.pinned_value.PinnedValue.{PinnedValue}
use Rattle.value_ops.specs.PinnedValues.{OnlyLoads, stamp_under, value_under}
use Rattle.scan_cursor.specs.declared.cursor.Cursor.{Cursor}
use Rattle.scan_cursor.specs.declared.marks.Mark.{Mark}
use Rattle.scan_cursor.specs.Busy.{AreInVain}
use Rattle.scan_cursor.specs.Holding.{HasValue}
use Rattle.scan_cursor.specs.Leaving.{LeavesValue}
use Rattle.scan_cursor.specs.Views.{View}
use Rattle.scan_cursor.specs.Walks.{Course, HasWalked, IsWalk, course_of, pair_of, view_at}

abbrev pub course : Cursor → Course
course c = course_of c.way (sizes c.table.now) c.walk c.pass.now

-- what the pass of a cursor has seen, done and holds
abbrev pub under : Cursor → PassState
under c = state c.pass.now

-- the same, in its call
abbrev pub view_under : Cursor → View
view_under c = view_at (sizes c.table.now) c.pass.now

-- the present pair, if there is one

abbrev pub key_of : Cursor → List ℕ
key_of c = c.walk.mark.key

abbrev pub value_of : Cursor → List ℕ
value_of c = value_under (under c)

abbrev pub stamp_of : Cursor → ℕ
stamp_of c = stamp_under (under c)

-- the pass has the value of the present pair pinned, and nothing else; or there is none, and it has nothing
abbrev pub HasPair : Option PinnedValue → Sizes → Mark → PassState → Type 0
HasPair (Some x) z m v = HasValue z x v × (m.ended ≡ false)
HasPair None z m v = HoldsNothing v

pub record IsCursor (c : Cursor) : Type 0 where
  pub own : IsPassOf c.table.now c.pass.now
  pub low_key : is_key c.low ≡ true
  pub high_key : is_key c.high ≡ true
  pub walk : IsWalk c.way (key_number c.low) (key_number c.high) (course c)
  pub pair : HasPair c.value (sizes c.table.now) c.walk.mark (under c)

-- Since the first view the cursor read each key of its range up to its present one once, by loads, pins and their undoing alone, and the pairs are those of the keys that were present, in order. To a pass that is alone the words stay, but for one pin more on the header of the present value.
pub record HasGiven (c : Cursor) (before : View) (pairs : List Pair) : Type 0 where
  pub walked : HasWalked c.way (key_number c.low) (key_number c.high) (course c) before pairs
  pub still : Runs (LeavesValue (sizes c.table.now) None c.value) before.state (under c)

-- it goes to a pair, whose value is pinned
pub record GoesToPair (c d : Cursor) : Type 0 where
  pub value : IsSome d.value
  pub goes : (before : View) (pairs : List Pair) → HasGiven c before pairs → HasGiven d before (pairs ++ pair_of (key_of d) (under d) ∷ [])

-- no key of the range is left
pub record GoesToEnd (c d : Cursor) : Type 0 where
  pub value : d.value ≡ None
  pub ended : d.walk.mark.ended ≡ true
  pub goes : (before : View) (pairs : List Pair) → HasGiven c before pairs → HasGiven d before pairs

abbrev pub Advances : Bool → Cursor → Cursor → Type 0
Advances true c d = GoesToPair c d
Advances false c d = GoesToEnd c d

-- So many looks at keys of the range were in vain. The cursor keeps its place: what it had given it has given still, and it has no present pair.
pub record GivesUp (looks : ℕ) (c d : Cursor) : Type 0 where
  pub value : d.value ≡ None
  pub going : d.walk.mark.ended ≡ false
  pub goes : (before : View) (pairs : List Pair) → HasGiven c before pairs → HasGiven d before pairs
  pub vain : AreInVain looks (key_number c.low) (key_number c.high) (view_under c) (view_under d)
  -- to a pass that is alone
  pub alone : Runs Never (under c) (under d)

-- the later cursor is at the same pair, of which its pass only made loads since
pub record ReadsPair (c d : Cursor) : Type 0 where
  pub cursor : IsCursor d
  pub table : d.table ≡ c.table
  pub low : d.low ≡ c.low
  pub high : d.high ≡ c.high
  pub way : d.way ≡ c.way
  pub walk : d.walk ≡ c.walk
  pub value : d.value ≡ c.value
  pub stays : Stays c.pass.now d.pass.now
  pub only : OnlyLoads (sizes c.table.now) (call_of c.pass.now) (under c) (under d)
  pub quiet : Quiet (under c) (under d)
  -- the pair and those before it are as they were
  pub bytes : value_of d ≡ value_of c
  pub stamp : stamp_of d ≡ stamp_of c
  pub goes : (before : View) (pairs : List Pair) → HasGiven c before pairs → HasGiven d before pairs
