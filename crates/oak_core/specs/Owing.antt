-- What a pass must still take in before it is alone.
use Rattle.std.specs.Prelude.{ℕ, ◌<◌, ◌⊎◌, List}
use Rattle.oak_model.specs.Counts.{one_at, total, Has}
use Rattle.oak_core.specs.declared.states.Numbers.{Numbers}
use Rattle.oak_core.specs.PassState.{rooted}

-- of the numbers that were split off by the pass, or by one joined into it, only those of the list may have not come back
abbrev pub Owes : List ℕ → Numbers → Type 0
Owes ks v = (k : ℕ) → 0 < total (λ (i : ℕ). one_at i k) v.made → (0 < rooted k v) ⊎ Has k ks
