-- What a call that writes says of its write: on which state it was made, what it left, and that everything that the pass had seen of the key comes before it.
use Rattle.std.specs.Prelude.{◌≡◌, ℕ, ◌++◌, List, [], ◌∷◌, true, length, Some}
use Rattle.oak_model.specs.declared.cells.CellCall.{CellCall}
use Rattle.oak_model.specs.declared.writes.Kind.{Kind}
use Rattle.oak_model.specs.Cell.{is_write, kind_of, reply_of, state_after}
use Rattle.oak_model.specs.Counts.{Begins}
use Rattle.oak_model.specs.KeyNumber.{key_number}
use Rattle.oak_model.specs.State.{State}
use Rattle.oak_core.specs.declared.states.KeyedWrite.{KeyedWrite}
use Rattle.oak_core.specs.declared.states.PassState.{PassState}
use Rattle.oak_core.specs.CallSteps.{MetMore, SightsMore}
use Rattle.oak_core.specs.KeyHistories.{state_behind}
use Rattle.oak_core.specs.KnownPlaces.{KnowsPlace, Remembers}
use Rattle.oak_core.specs.PassState.{seen_of, Extends}
use Rattle.oak_core.specs.RebalanceSteps.{KeepsRooms}

-- on this state some call makes a write of the kind, which leaves the other
pub record MakesWrite (kind : Kind) (before after : State) : Type 0 where
  pub ask : CellCall
  pub kind_is : kind_of ask ≡ Some kind
  pub writes : is_write (reply_of before ask) ≡ true
  pub leaves : state_after before ask ≡ after

-- The call made a write of the key, on the state that all that was known of the key ended with, and behind everything that it had seen of it. It made no step of a rebalance.
pub record Writes (call : ℕ) (key : List ℕ) (kind : Kind) (before after : State) (stamp : ℕ) (v w : PassState) : Type 0 where
  pub met : MetMore call v w
  pub seen : Extends v w
  pub remembers : Remembers v.knowledge w.knowledge
  pub numbers : w.numbers ≡ v.numbers
  pub fulls : w.findings.fulls ≡ v.findings.fulls
  pub swept : w.findings.swept ≡ v.findings.swept
  pub gones : Begins v.findings.gones w.findings.gones
  pub rebalances : KeepsRooms v w
  pub sights : SightsMore call v w
  pub loaded : Begins v.knowledge.loaded w.knowledge.loaded
  pub write : KeyedWrite
  pub mine : w.knowledge.mine ≡ v.knowledge.mine ++ write ∷ []
  pub rest : List KeyedWrite
  pub ends : seen_of (key_number key) w.knowledge ≡ rest ++ write ∷ []
  pub longer : Begins (seen_of (key_number key) v.knowledge) rest
  pub state : state_behind rest ≡ before
  pub after_is : write.write.after ≡ after
  pub stamp_is : write.write.stamp ≡ stamp
  pub caller : write.write.caller ≡ v.numbers.number
  pub call_is : write.write.call ≡ call
  pub kind_is : write.write.kind ≡ kind
  pub known : KnowsPlace (key_number key) stamp (length (seen_of (key_number key) w.knowledge)) w.knowledge
