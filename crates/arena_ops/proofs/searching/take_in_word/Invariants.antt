use Rattle.std.proofs.Common.{◌≡◌, ◌+◌, ◌*◌, ◌/◌, ◌%◌, ◌<◌, ℕ}
use Rattle.std.specs.Int.{bit_at}
use Rattle.oak_model.specs.Class.{class_number}
use Rattle.arena_core.specs.Arena.{blocks}
use Rattle.oak_core.specs.Passes.{Stays, state, key, call_of}
use Rattle.arena_ops.specs.Looking.{Looked}
use Rattle.arena_ops.proofs.searching.take_in_word.Given as goal

abbrev pub invariant-loop-clear : goal.invariant-loop-clear
invariant-loop-clear l = record {
  stays : Stays l.fn.pass l.pass;
  within : (k : ℕ) → k < 64 → bit_at l.clear k ≡ 1 → l.i * 64 + k < blocks (key l.table) (class_number l.class);
  looked : Looked (key l.table) (call_of l.fn.pass) l.class (state l.fn.pass) (state l.pass) (λ b. (b / 64 ≡ l.i) × (bit_at l.clear (b % 64) ≡ 0));
}

abbrev pub decreases-loop-clear : goal.decreases-loop-clear
decreases-loop-clear l = l.clear
