use Rattle.std.proofs.Common.{◌≡◌, ◌*◌, ◌≤◌, ◌++◌, take, drop}
use Rattle.arena_core.proofs.Shifts.{with_word}
use Rattle.arena_core.proofs.words.put_word.Given as goal

abbrev pub invariant-loop-j : goal.invariant-loop-j
invariant-loop-j l = (8 * l.i ≤ l.j) × (l.out ≡ take l.j (with_word l.initial.out l.i l.word) ++ drop l.j l.initial.out)
