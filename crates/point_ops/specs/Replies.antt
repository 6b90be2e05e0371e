-- How a call on a key replies, or is given up: v is the state of its pass at the call, w the one at its end.
use Rattle.std.specs.Prelude.{◌≡◌, ℕ, ◌+◌, ◌<◌, ◌++◌, Bool, true, false, List, [], ◌∷◌, length}
use Rattle.oak_model.specs.declared.cells.CellCall.{CellCall}
use Rattle.oak_model.specs.declared.cells.CellReply.{CellReply}
use Rattle.oak_model.specs.Cell.{is_write}
use Rattle.oak_model.specs.Counts.{Begins}
use Rattle.oak_model.specs.Fits.{ReplyFits}
use Rattle.oak_model.specs.KeyNumber.{key_number}
use Rattle.oak_core.specs.declared.states.KeyedWrite.{KeyedWrite}
use Rattle.oak_core.specs.declared.states.PassState.{PassState}
use Rattle.oak_core.specs.CallSteps.{MetMore, SightsMore, Learns}
use Rattle.oak_core.specs.KeyHistories.{writes_of}
use Rattle.oak_core.specs.KnownPlaces.{KnowsPlace, Remembers}
use Rattle.oak_core.specs.PassState.{seen_of, Extends}
use Rattle.oak_core.specs.RebalanceSteps.{KeepsRooms}
use Rattle.oak_core.specs.Sights.{SightedSince}

-- the pass holds what it held, noted no refused call and no range, and made no step of a rebalance
pub record HoldsAsBefore (v w : PassState) : Type 0 where
  pub blocks : w.blocks ≡ v.blocks
  pub headers : w.headers ≡ v.headers
  pub rooms : w.rooms ≡ v.rooms
  pub numbers : w.numbers ≡ v.numbers
  pub fulls : w.findings.fulls ≡ v.findings.fulls
  pub swept : w.findings.swept ≡ v.findings.swept
  pub rebalances : KeepsRooms v w

-- the pass met more, all in the call, and forgot nothing: neither what it saw nor the lives that it loaded from entries
pub record GoesOn (call : ℕ) (v w : PassState) : Type 0 where
  pub met : MetMore call v w
  pub sights : SightsMore call v w
  pub gones : Begins v.findings.gones w.findings.gones
  pub loaded : Begins v.knowledge.loaded w.knowledge.loaded
  pub seen : Extends v w
  pub remembers : Remembers v.knowledge w.knowledge

-- a read tells a number that the call found for the key, and a write one more than such a number
abbrev pub FoundForReply : Bool → (k at : ℕ) → PassState → PassState → Type 0
FoundForReply false k at v w = SightedSince k at v.findings w.findings
FoundForReply true k at v w = (n : ℕ) × (at ≡ n + 1) × SightedSince k n v.findings w.findings

-- of its own writes the pass has one more, that of this call and with this stamp, the last that it has seen of the key, where the reply is a write's; else it has the same
abbrev pub MineAfter : Bool → (call k at : ℕ) → PassState → PassState → Type 0
MineAfter false call k at v w = w.knowledge.mine ≡ v.knowledge.mine
MineAfter true call k at v w = (x : KeyedWrite) × (w.knowledge.mine ≡ v.knowledge.mine ++ x ∷ []) × ((rest : List KeyedWrite) × (seen_of k w.knowledge ≡ rest ++ x ∷ [])) × (x.write.call ≡ call) × (x.write.stamp ≡ at)

-- The reply fits at the place of its number, at which all ends that the pass has seen of the key; that is not before what it had seen, and for a write it is behind it.
pub record RepliesAt (call : ℕ) (key : List ℕ) (ask : CellCall) (reply : CellReply) (at : ℕ) (v w : PassState) : Type 0 where
  pub goes : GoesOn call v w
  pub known : KnowsPlace (key_number key) at (length (seen_of (key_number key) w.knowledge)) w.knowledge
  pub fits : ReplyFits (writes_of (seen_of (key_number key) w.knowledge)) v.numbers.number call ask reply (length (seen_of (key_number key) w.knowledge))
  pub later : is_write reply ≡ true → length (seen_of (key_number key) v.knowledge) < length (seen_of (key_number key) w.knowledge)
  pub found : FoundForReply (is_write reply) (key_number key) at v w
  pub mine : MineAfter (is_write reply) call (key_number key) at v w
  pub holds : HoldsAsBefore v w

-- No step of the call was a write, and all is held as before.
pub record Refuses (call : ℕ) (v w : PassState) : Type 0 where
  pub learns : Learns call v w
  pub holds : HoldsAsBefore v w
