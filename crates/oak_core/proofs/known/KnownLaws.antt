-- A header is known at a generation exactly where some pass knows it there other than as its fresh one.
use Rattle.std.proofs.Common.{◌≡◌, ℕ, ◌<◌, List, ap, arith, nat_lt}
use Rattle.std.proofs.lemmas.Bool.{ltb-true, lt-ltb}
use mathlib.Core.Option.{some}
use lib.ListN.{get_elem?}
use Rattle.oak_model.specs.Counts.{one_if, total}
use Rattle.oak_model.proofs.Counting.{test-cases, total_at, total_some}
use Rattle.oak_core.specs.declared.states.Knowledge.{Knowledge}
use Rattle.oak_core.specs.Known.{knows_life, known}

pub known_some : (h g : ℕ) (qs : List Knowledge) (j : ℕ) (q : Knowledge) → get_elem? qs j ≡ some q → 0 < knows_life h g q → known qs h g ≡ 1
known_some h g qs j q at knows = ap one_if (lt-ltb 0 (total (knows_life h g) qs) (let t = total_at (knows_life h g) qs j q at in omega arith))

pub known_by : (h g : ℕ) (qs : List Knowledge) → 0 < known qs h g → (j : ℕ) × (q : Knowledge) × (get_elem? qs j ≡ some q) × (0 < knows_life h g q)
known_by h g qs pos = total_some (knows_life h g) qs (test-cases (nat_lt 0 (total (knows_life h g) qs)) (λ t. 0 < one_if t → 0 < total (knows_life h g) qs) (λ t _. ltb-true 0 (total (knows_life h g) qs) t) (λ _ l. absurd (omega arith)) pos)
