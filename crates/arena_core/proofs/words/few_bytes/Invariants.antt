use Rattle.std.proofs.Common.{◌≡◌}
use Rattle.arena_core.proofs.Shifts.{leading}
use Rattle.arena_core.proofs.words.few_bytes.Given as goal

abbrev pub invariant-loop-i : goal.invariant-loop-i
invariant-loop-i l = l.number ≡ leading l.bytes l.i
