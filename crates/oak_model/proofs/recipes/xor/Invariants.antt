use Rattle.std.proofs.Common.{◌≡◌, ◌++◌, map, take, drop}
use Rattle.std.specs.Prelude.{bit_xor}
use Rattle.oak_model.proofs.recipes.xor.Given as goal

abbrev pub invariant-loop-b : goal.invariant-loop-b
invariant-loop-b l = l.bytes ≡ map (λ x. bit_xor x l.byte) (take l.b-index l.initial.bytes) ++ drop l.b-index l.initial.bytes
