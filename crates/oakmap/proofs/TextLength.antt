-- An input of 16,777,216 bytes is taken, and a longer one is not.
use Rattle.std.proofs.Common.{◌≡◌, ℕ, ◌<◌, List, length, Some, None, refl, ap, arith, inl, inr}
use Rattle.outside.specs.Whole.{ReadsToEnd}
use Rattle.oakmap.specs.declared.commands.Command.TheVariants.{Run, Gen}
use Rattle.oakmap.specs.declared.status.TheConstants.{GREATEST_INPUT}
use Rattle.oakmap.specs.declared.status.Status.TheVariants.{Done, Usage, NoScript, ReadFault, WriteFault, NoMemory}
use Rattle.oakmap.specs.Ends.{Input}
use Rattle.oakmap.specs.InputLength.{LengthIsAccepted, LengthIsRefused}
use Rattle.oakmap.proofs.Complete.{calm, all_read, not_past}

greatest : GREATEST_INPUT ≡ 16777216
greatest = refl

too_short : (source source_after : Input) (text input : List ℕ) → source.left ≡ Some text → 16777216 < length text
    → ReadsToEnd source.left source_after.left GREATEST_INPUT input → ⊥
too_short source source_after text input known long r = omega (arith, greatest, long, r.short, ap length (all_read source.left source_after.left text input known r))

pub accepted : LengthIsAccepted
accepted None source source_after sink sink_after text e known short = absurd cc
accepted (Some (Gen w)) source source_after sink sink_after text e known short = absurd e.1
accepted (Some Run) source source_after sink sink_after text e known short =
    elim e [
      | inl long ↦ absurd (not_past source.left source_after.left text long.0.bytes known (omega (arith, greatest, short)) long.0.past)
      | inr a ↦ a
    ]

pub refused : LengthIsRefused
refused NoMemory source source_after sink sink_after text e known long calmly = inl refl
refused Usage source source_after sink sink_after text e known long calmly = absurd e
refused ReadFault source source_after sink sink_after text e known long calmly = absurd (calm _ _ calmly e.0)
refused (Done closed) source source_after sink sink_after text e known long calmly = absurd (too_short source source_after text e.0 known long e.1)
refused (WriteFault closed) source source_after sink sink_after text e known long calmly = absurd (too_short source source_after text e.0 known long e.1)
refused NoScript source source_after sink sink_after text e known long calmly =
    elim e [
      | inl past ↦ inr (refl, record { long = past.0; says = past.1 })
      | inr a ↦ absurd (too_short source source_after text a.0 known long a.1)
    ]
