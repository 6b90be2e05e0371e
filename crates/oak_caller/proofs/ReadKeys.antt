-- A key that a call read, from its begin until its pin was undone.
use Rattle.std.proofs.Common.{◌≡◌, ℕ, ◌<◌, ◌≤◌, List, ◌++◌, drop, length, sym, subst, arith}
use mathlib.Core.Logic.{dite}
use native.Mathlib.Decide.{dec_lt}
use Rattle.oak_model.specs.Limits.{Sizes}
use Rattle.oak_model.specs.Value.{IsValue}
use Rattle.oak_core.specs.declared.states.PassState.{PassState}
use Rattle.oak_core.specs.Passes.{call_of, key as sizes}
use Rattle.oak_core.specs.PassState.{HoldsNothing}
use Rattle.value_ops.specs.declared.reading.Reading.{Reading}
use Rattle.value_ops.specs.Pinning.{EndsPin}
use Rattle.value_ops.specs.Reading.{ReadsOn, header, stamp, value}
use Rattle.oak_map.specs.Lending.{FindsAbsent, LendsValue, under}
use Rattle.oak_map.proofs.LentEnds.{value_alone, value_quiet, value_replies, value_stays}
use Rattle.oak_caller.specs.declared.reading.Copied.{Copied}
use Rattle.oak_caller.specs.declared.reading.Copied.TheVariants.{Whole, TooLong}
use Rattle.oak_caller.specs.Reads.{CopyFits, LiesIn, ReadsNone, ReadsValue}

-- it was absent
pub absent_reads : (z : Sizes) (call : ℕ) (key : List ℕ) (at : ℕ) (v w : PassState) → FindsAbsent z call key at v w → ReadsNone z call key at v w
absent_reads z call key at v w f = record { replies = f.replies; quiet = f.quiet; alone_reply = f.alone_reply; alone = f.alone }

-- or its value was lent to the reading r, which was q at its end
pub value_reads : (z : Sizes) (call : ℕ) (key : List ℕ) (v w : PassState) (r q : Reading) → HoldsNothing v → LendsValue z call key v r → sizes r.table.now ≡ z → call_of r.pass.now ≡ call → ReadsOn r q → EndsPin (sizes q.table.now) (call_of q.pass.now) (header q) (under q) w → ReadsValue z call key (value r) (stamp r) v w
value_reads z call key v w r q idle l sized same on undone = record {
  replies = value_replies z call key v w r q idle l sized same on undone;
  quiet = value_quiet z call key v w r q idle l sized same on undone;
  alone_reply = value_alone z call key v w r q idle l sized same on undone;
  alone = value_stays z call key v w r q idle l sized same on undone;
}

-- so many bytes of it were copied to a place that has new behind that, or none of them
module _ (y : Copied) (z : Sizes) (call : ℕ) (key old new : List ℕ) (v w : PassState) (bytes : List ℕ) (len at : ℕ) (long : length new ≡ length old) (is : length bytes ≡ len) (whole : len ≤ length new → y ≡ Whole len at) (short : length new < len → y ≡ TooLong len at) where
  pub copy_fits : ReadsValue z call key bytes at v w → IsValue bytes → (len ≤ length old → new ≡ bytes ++ drop len old) → (length old < len → new ≡ old) → CopyFits y z call key old new v w
  copy_fits reads value fits same = dite (dec_lt (length old) len)
      (λ l. subst (λ (x : Copied). CopyFits x z call key old new v w) (sym (short (omega (arith, l, long)))) (bytes, reads, value, is, l, same l))
      (λ no. let l : len ≤ length old = omega arith in subst (λ (x : Copied). CopyFits x z call key old new v w) (sym (whole (omega (arith, l, long)))) (bytes, reads, value, is, fits l))

  pub copy_lies : LiesIn y new
  copy_lies = dite (dec_lt (length new) len)
      (λ l. subst (λ (x : Copied). LiesIn x new) (sym (short l)) l)
      (λ no. let l : len ≤ length new = omega arith in subst (λ (x : Copied). LiesIn x new) (sym (whole l)) l)
