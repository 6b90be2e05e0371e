-- What a look at a key finds that keeps the pin of the header of the key's value. v is the state of the pass at the call, w the one at its end.
use Rattle.std.specs.Prelude.{◌≡◌, ℕ, List, Result, Ok, Err, None, Some}
use Rattle.oak_model.specs.declared.cells.CellCall.TheVariants.{Get}
use Rattle.oak_model.specs.declared.cells.CellReply.TheVariants as reply
use Rattle.oak_model.specs.KeyNumber.{key_number}
use Rattle.oak_model.specs.Limits.{Sizes}
use Rattle.header_core.specs.declared.holds.PinnedHeader.{PinnedHeader}
use Rattle.oak_core.specs.declared.states.PassState.{PassState}
use Rattle.oak_core.specs.AloneWords.{Runs}
use Rattle.oak_core.specs.CallSteps.{Learns}
use Rattle.oak_core.specs.LastReads.{ReadsLast}
use Rattle.oak_core.specs.PassState.{IsAlone}
use Rattle.oak_core.specs.QuietSteps.{Quiet}
use Rattle.chunk_ops.specs.AddsAlone.{Never}
use Rattle.chunk_ops.specs.PinRecords.{UnderPin}
use Rattle.value_ops.specs.Pinning.{AddsPin, HasPin, KnowsLife, PinsLive}
use Rattle.point_ops.specs.LoneReplies.{AnswersAlone, SeesWhole}
use Rattle.point_ops.specs.Replies.{RepliesAt}
use Rattle.point_ops.specs.declared.halts.Halt.{Halt}
use Rattle.point_ops.specs.declared.lives.Pinned.{Pinned}
use Rattle.point_ops.specs.declared.lives.Pinned.TheVariants.{Absent, Value}

-- Under its pin of the room the call found the key's entry, and then it pinned the header of the life that the entry named, which was live.
pub record PinsFound (z : Sizes) (call r : ℕ) (key : List ℕ) (h g : ℕ) (v w : PassState) : Type 0 where
  pub found : PassState
  pub under : UnderPin z call r v found
  pub life : KnowsLife h g key found.knowledge
  pub pins : PinsLive z call h g found w
  pub quiet : Quiet v found
  -- to a pass that is alone
  pub alone : Runs (AddsPin z h g) v w

-- what the part of the call found that is made under the pin of the room
abbrev pub PinsUnder : Pinned → Sizes → (call r : ℕ) → List ℕ → PassState → PassState → Type 0
PinsUnder (Absent at) z call r key v w = UnderPin z call r v w × ReadsLast (key_number key) at None v w
PinsUnder (Value p) z call r key v w = PinsFound z call r key p.header p.generation v w

-- The header was pinned, live at its generation, in a life of the key that the pass knows. The pass has that pin more, and else holds what it held; all steps were loads, pins and their undoing. To a pass that is alone its word counts one pin more, and no other word changed.
pub record PinsKey (z : Sizes) (call : ℕ) (key : List ℕ) (h g : ℕ) (v w : PassState) : Type 0 where
  pub learns : Learns call v w
  pub life : KnowsLife h g key w.knowledge
  pub pin : PinnedHeader
  pub has : HasPin z h g pin w
  pub headers : w.headers ≡ record v.headers { pin = Some pin }
  pub blocks : w.blocks ≡ v.blocks
  pub rooms : w.rooms ≡ v.rooms
  pub quiet : Quiet v w
  pub begun : IsAlone v → SeesWhole z v
  pub alone : Runs (AddsPin z h g) v w

-- The reply that the key is absent is the cell's at the place of the number. To a pass that is alone it was so in the last state of the key.
pub record AbsentAt (z : Sizes) (call : ℕ) (key : List ℕ) (at : ℕ) (v w : PassState) : Type 0 where
  pub replies : RepliesAt call key Get reply.Absent at v w
  pub alone_reply : IsAlone v → AnswersAlone z key Get reply.Absent v w

abbrev pub PinnedFits : Pinned → Sizes → ℕ → List ℕ → PassState → PassState → Type 0
PinnedFits (Absent at) z call key v w = AbsentAt z call key at v w
PinnedFits (Value p) z call key v w = PinsKey z call key p.header p.generation v w

-- what it does to the words, where its pass is alone
abbrev pub PinsIn : Result Pinned Halt → Sizes → (before after : List ℕ) → Type 0
PinsIn (Ok (Absent at)) z before after = after ≡ before
PinsIn (Ok (Value p)) z before after = AddsPin z p.header p.generation before after
PinsIn (Err why) z before after = Never before after
