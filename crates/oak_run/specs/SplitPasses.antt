-- The passes that a run splits off for its threads, and joins again behind them.
use Rattle.std.specs.Prelude.{◌≡◌, ℕ, ◌<◌, List, [], ◌∷◌, map, ⊤}
use Rattle.std.specs.List.{AllByRecursion}
use Rattle.oak_model.specs.Limits.{Sizes}
use Rattle.oak_core.specs.declared.states.Numbers.{Numbers}
use Rattle.oak_core.specs.declared.states.PassState.{PassState}
use Rattle.oak_core.specs.PassState.{bare_state, both_state}

-- numbers that rise, all of them above k
abbrev pub Rise : ℕ → List ℕ → Type 0
Rise k [] = ⊤
Rise k (n ∷ ns) = (k < n) × Rise n ns

abbrev pub numbers_in : List Numbers → List ℕ
numbers_in ns = map (λ (n : Numbers). n.number) ns

-- a pass that neither split nor joined
abbrev pub IsBare : Numbers → Type 0
IsBare n = n ≡ record bare_state.numbers { number = n.number }

-- The first pass, which has the number 0, split these off and no others, one behind the other, and wrote nothing.
pub record HasSplit (z : Sizes) (v : PassState) (ns : List Numbers) : Type 0 where
  pub numbers : v.numbers ≡ record bare_state.numbers { made = numbers_in ns }
  pub unwritten : v.knowledge.mine ≡ []
  pub bare : AllByRecursion IsBare ns
  pub rise : Rise 0 (numbers_in ns)
  pub few : AllByRecursion (λ k. k < z.passes) (numbers_in ns)

-- the pass with all these joined into it, in their order
abbrev pub joined_passes : PassState → List PassState → PassState
joined_passes v [] = v
joined_passes v (x ∷ xs) = joined_passes (both_state v x) xs
