-- What a call did, by the states of its pass before and behind it: v is the state at the call's begin, w the one at its end.
use Rattle.std.specs.Prelude.{◌≡◌, ℕ, List, ◌++◌}
use Rattle.oak_model.specs.Counts.{Each, Begins}
use Rattle.oak_model.specs.Limits.{Sizes}
use Rattle.oak_core.specs.declared.states.Finding.{Finding}
use Rattle.oak_core.specs.declared.states.PassState.{PassState}
use Rattle.oak_core.specs.KnownPlaces.{Remembers}
use Rattle.oak_core.specs.PassState.{Extends}
use Rattle.oak_core.specs.RebalanceSteps.{KeepsRooms}
use Rattle.oak_core.specs.Step.{Step, Told}
use Rattle.oak_core.specs.declared.states.Sight.{Sight}

-- the pass met more, all of it in the call
pub record MetMore (call : ℕ) (v w : PassState) : Type 0 where
  pub more : List Finding
  pub met : w.findings.met ≡ v.findings.met ++ more
  pub calls : Each (λ (f : Finding). f.call ≡ call) more

-- a step of the call, between its begin and its end
pub record StepOfCall (z : Sizes) (call : ℕ) (x : Step) (v w : PassState) : Type 0 where
  pub from : PassState
  pub to : PassState
  pub number : ℕ
  pub told : Told z call x from number to
  pub begun : MetMore call v from
  pub ended : MetMore call to w

-- the pass wrote nothing and made no step of a rebalance, has its numbers and its refused calls as before, and forgot nothing
pub record KeepsAll (v w : PassState) : Type 0 where
  pub numbers : w.numbers ≡ v.numbers
  pub mine : w.knowledge.mine ≡ v.knowledge.mine
  pub fulls : w.findings.fulls ≡ v.findings.fulls
  pub swept : w.findings.swept ≡ v.findings.swept
  pub gones : Begins v.findings.gones w.findings.gones
  pub rebalances : KeepsRooms v w
  pub loaded : Begins v.knowledge.loaded w.knowledge.loaded
  pub seen : Extends v w
  pub remembers : Remembers v.knowledge w.knowledge

-- what it was taught was taught in the call
pub record SightsMore (call : ℕ) (v w : PassState) : Type 0 where
  pub more : List Sight
  pub sights : w.findings.sights ≡ v.findings.sights ++ more
  pub calls : Each (λ (s : Sight). s.call ≡ call) more

-- the call met more and may have learned, wrote nothing and made no step of a rebalance
pub record Learns (call : ℕ) (v w : PassState) : Type 0 where
  pub met : MetMore call v w
  pub sights : SightsMore call v w
  pub all : KeepsAll v w

-- the call met more, and learned and wrote nothing, and made no step of a rebalance
pub record Stands (call : ℕ) (v w : PassState) : Type 0 where
  pub met : MetMore call v w
  pub numbers : w.numbers ≡ v.numbers
  pub knowledge : w.knowledge ≡ v.knowledge
  pub fulls : w.findings.fulls ≡ v.findings.fulls
  pub swept : w.findings.swept ≡ v.findings.swept
  pub sights : w.findings.sights ≡ v.findings.sights
  pub gones : w.findings.gones ≡ v.findings.gones
  pub rebalances : KeepsRooms v w
