-- What a reading has.
use Rattle.std.specs.Prelude.{◌≡◌, ℕ, List}
use Rattle.oak_core.specs.Passes.{IsPassOf, Stays, state, key, call_of}
use Rattle.value_ops.specs.declared.reading.Reading.{Reading}
use Rattle.value_ops.specs.PinnedValues.{IsPinnedValue, OnlyLoads, stamp_pinned, value_pinned}

-- the value and the stamp that the reading is of, and the header

abbrev pub value : Reading → List ℕ
value r = value_pinned (state r.pass.now).headers.pin

abbrev pub stamp : Reading → ℕ
stamp r = stamp_pinned (state r.pass.now).headers.pin

abbrev pub header : Reading → ℕ
header r = r.value.header

-- its pass has the good pin that it is of
pub record IsReading (r : Reading) : Type 0 where
  pub own : IsPassOf r.table.now r.pass.now
  pub pinned : IsPinnedValue (key r.table.now) r.value (state r.pass.now)

-- the later reading is that of the same pin, and its pass only made loads since
pub record ReadsOn (q r : Reading) : Type 0 where
  pub reading : IsReading r
  pub table : r.table ≡ q.table
  pub stays : Stays q.pass.now r.pass.now
  pub only : OnlyLoads (key q.table.now) (call_of q.pass.now) (state q.pass.now) (state r.pass.now)
