-- The lengths of what is read.
use Rattle.std.proofs.Common.{◌≡◌, ℕ, zero, suc, ◌*◌, ◌/◌, ◌^◌, ◌<◌, ◌≤◌, false, Option, Some, None, arith}
use Rattle.std.specs.Prelude.{IsSome}
use Rattle.oak_model.specs.declared.limits.TheConstants.{CLASSES, CLASS_GROWTH, GREATEST_VALUE, LEAST_BLOCK}
use Rattle.oak_model.specs.Key.{IsKey}
use Rattle.oak_model.specs.Limits.{Sizes}
use Rattle.oak_model.specs.Value.{IsValue}
use Rattle.oak_model.proofs.KeyLaws.{is_key-is}
use Rattle.oak_core.specs.declared.states.PassState.{PassState}
use Rattle.oak_core.specs.Passes.{key as sizes}
use Rattle.value_ops.specs.declared.pinned_value.PinnedValue.{PinnedValue}
use Rattle.value_ops.specs.declared.reading.Reading.{Reading}
use Rattle.value_ops.specs.PinnedValues.{IsPinnedValue, value_under}
use Rattle.value_ops.specs.Reading.{IsReading, value}
use Rattle.value_ops.proofs.ValueFacts.{long}
use Rattle.scan_cursor.specs.declared.cursor.Cursor.{Cursor}
use Rattle.scan_cursor.specs.declared.marks.Mark.{Mark}
use Rattle.scan_cursor.specs.Cursors.{HasPair, IsCursor, key_of, under, value_of}

-- a cursor that has a value is at a pair
pub at_pair : (o : Option PinnedValue) (z : Sizes) (m : Mark) (v : PassState) → HasPair o z m v → IsSome o → m.ended ≡ false
at_pair (Some x) z m v p s = p.1
at_pair None z m v p s = absurd cc

-- whose key is one
pub present_key : (c : Cursor) → IsCursor c → IsSome c.value → IsKey (key_of c)
present_key c i s = (is_key-is (key_of c) (i.walk.bounds (at_pair c.value (sizes c.table.now) c.walk.mark (under c) i.pair s)).key).0

-- no block is longer than the longest value
few_bytes : (c l : ℕ) → c < CLASSES → l ≤ 8 * (LEAST_BLOCK / 8 * CLASS_GROWTH ^ c) → l ≤ GREATEST_VALUE
few_bytes zero l lt le = omega arith
few_bytes (suc zero) l lt le = omega arith
few_bytes (suc (suc zero)) l lt le = omega arith
few_bytes (suc (suc (suc zero))) l lt le = omega arith
few_bytes (suc (suc (suc (suc c)))) l lt le = absurd (omega arith)

pinned_short : (z : Sizes) (x : PinnedValue) (v : PassState) → IsPinnedValue z x v → IsValue (value_under v)
pinned_short z x v i = let l = long z x v i in let e = i.length_is in let f = few_bytes _ _ i.placed.class i.placed.room in omega arith

short : (o : Option PinnedValue) (z : Sizes) (m : Mark) (v : PassState) → HasPair o z m v → IsSome o → IsValue (value_under v)
short (Some x) z m v p s = pinned_short z x v p.0.value
short None z m v p s = absurd cc

-- and whose value is one
pub present_value : (c : Cursor) → IsCursor c → IsSome c.value → IsValue (value_of c)
present_value c i s = short c.value (sizes c.table.now) c.walk.mark (under c) i.pair s

-- so is what a reading reads
pub read_value : (r : Reading) → IsReading r → IsValue (value r)
read_value r i = pinned_short (sizes r.table.now) r.value _ i.pinned
