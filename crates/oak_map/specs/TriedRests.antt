-- What is lent by a call that may give up, and what becomes of the pass where nothing is.
use Rattle.std.specs.Prelude.{◌≡◌, List, ℕ, Result, IfErr, OnOk}
use Rattle.std.specs.Borrow.{Fml, MutBor, follows_so, name_if_ok}
use Rattle.oak_model.specs.declared.cells.CellCall.TheVariants.{Get}
use Rattle.oak_model.specs.Limits.{Sizes}
use Rattle.oak_core.specs.declared.table.OakTable.{OakTable}
use Rattle.oak_core.specs.declared.table.Pass.{Pass}
use Rattle.oak_core.specs.contracts.table.Pass as table_pass
use Rattle.oak_core.specs.Passes.{Stays, call_of, key as sizes, state}
use Rattle.oak_core.specs.PassState.{HoldsNothing}
use Rattle.oak_core.specs.QuietSteps.{Quiet}
use Rattle.value_ops.specs.declared.reading.Reading.{Reading}
use Rattle.value_ops.specs.declared.views.NoRead.{NoRead}
use Rattle.value_ops.specs.declared.views.NoRead.TheVariants as no_read
use Rattle.value_ops.specs.Reading.{IsReading}
use Rattle.value_ops.specs.Views.{Viewed}
use Rattle.oak_map.specs.GivingUp.{TriesInVain, GivesUpLife, IsHalted}
use Rattle.oak_map.specs.Lending.{LendsLife, LendsValue}
use Rattle.oak_map.specs.Rests.{RestsAbsent, RestsOver, with_pass}
use Rattle.oak_map.specs.contracts.map.MapPass.{the_row}
use Rattle.oak_map.specs.declared.answers.NoValue.{NoValue}
use Rattle.oak_map.specs.declared.answers.NoValue.TheVariants as no_value
use Rattle.oak_map.specs.declared.map.MapPass.{MapPass}

-- The map's pass ends as the reading leaves the pass on its table, and where there is none so that P holds of that.
abbrev pub MapTried : {E : Type 0} → MutBor MapPass → Result Reading E → (E → Pass → Type 0) → Fml
MapTried p y P = follows_so the_row table_pass.the_row p.ghost_name (name_if_ok (λ (r : Reading). r.pass.ghost_name) y) (λ x n. OnOk y (n ≡ with_pass p.now x)) (λ n. IfErr y (λ e. P e n.pass))

-- ---- a key

-- a call left the pass so, which looked for the key and gave up after so many tries
pub record RestsBusy (z : Sizes) (key : List ℕ) (looks : ℕ) (p q : Pass) : Type 0 where
  pub own : Stays p q
  pub idle : HoldsNothing (state q)
  pub quiet : Quiet (state p) (state q)
  pub busy : TriesInVain (IsHalted z (call_of p) key Get) (call_of p) looks (state p) (state q)

-- or which found none of it
abbrev pub RestsWithout : Sizes → List ℕ → ℕ → NoValue → Pass → Pass → Type 0
RestsWithout z key looks (no_value.Absent at) p q = RestsAbsent z key at p q
RestsWithout z key looks no_value.Busy p q = RestsBusy z key looks p q

-- the reading is of the table, by the same pass, and of the value of the key
pub record LendsFor (t : OakTable) (key : List ℕ) (p : Pass) (r : Reading) : Type 0 where
  pub reading : IsReading r
  pub table : r.table.now ≡ t
  pub own : Stays p r.pass.now
  pub lends : LendsValue (sizes t) (call_of p) key (state p) r

abbrev pub MapTriedRests : Sizes → MutBor MapPass → List ℕ → ℕ → Result Reading NoValue → Fml
MapTriedRests z p key looks y = MapTried p y (λ e n. RestsWithout z key looks e p.now.pass n)

-- ---- the life of a view

-- a call left the pass so, which looked for the life of the view and gave up after so many tries
pub record RestsLocked (z : Sizes) (x : Viewed) (looks : ℕ) (p q : Pass) : Type 0 where
  pub own : Stays p q
  pub idle : HoldsNothing (state q)
  pub busy : GivesUpLife z (call_of p) x looks (state p) (state q)

-- or which found it over
abbrev pub RestsUnseen : Sizes → Viewed → ℕ → NoRead → Pass → Pass → Type 0
RestsUnseen z x looks no_read.Gone p q = RestsOver z x p q
RestsUnseen z x looks no_read.Busy p q = RestsLocked z x looks p q

-- the reading is of the table, by the same pass, and of the value that the life of the view has
pub record LendsLifeFor (t : OakTable) (x : Viewed) (p : Pass) (r : Reading) : Type 0 where
  pub reading : IsReading r
  pub table : r.table.now ≡ t
  pub own : Stays p r.pass.now
  pub lends : LendsLife (sizes t) (call_of p) x (state p) r

abbrev pub MapTriedLookRests : Sizes → MutBor MapPass → Viewed → ℕ → Result Reading NoRead → Fml
MapTriedLookRests z p x looks y = MapTried p y (λ e n. RestsUnseen z x looks e p.now.pass n)
