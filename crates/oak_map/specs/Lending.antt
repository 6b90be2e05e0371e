-- What the calls that lend their pass do: v is the state of the pass at the call, w the one at its end, or in the reading that is lent.
use Rattle.std.specs.Prelude.{◌≡◌, ℕ, List, length, Some}
use Rattle.oak_model.specs.declared.cells.CellCall.TheVariants.{Get}
use Rattle.oak_model.specs.declared.cells.CellReply.TheVariants as reply
use Rattle.oak_model.specs.Fits.{ReplyFits}
use Rattle.oak_model.specs.KeyNumber.{key_number}
use Rattle.oak_model.specs.Limits.{Sizes}
use Rattle.oak_core.specs.declared.states.PassState.{PassState}
use Rattle.oak_core.specs.AloneWords.{Runs}
use Rattle.oak_core.specs.KeyHistories.{state_behind, writes_of}
use Rattle.oak_core.specs.KnownPlaces.{KnowsPlace}
use Rattle.oak_core.specs.Passes.{state}
use Rattle.oak_core.specs.PassState.{IsAlone, seen_of}
use Rattle.oak_core.specs.QuietSteps.{Quiet}
use Rattle.oak_core.specs.RebalanceSteps.{KeepsRooms}
use Rattle.oak_core.specs.Sights.{SightedSince}
use Rattle.value_ops.specs.declared.reading.Reading.{Reading}
use Rattle.value_ops.specs.declared.views.NoRead.TheVariants.{Gone}
use Rattle.value_ops.specs.Pinning.{AddsPin, MeetsMore}
use Rattle.value_ops.specs.PinnedValues.{ReadsLife}
use Rattle.value_ops.specs.Reading.{header, stamp, value}
use Rattle.value_ops.specs.Views.{FindsReason, LearnsReason, NotRead, ReadsView, Viewed}
use Rattle.point_ops.specs.LoneReplies.{AnswersAlone, SameAlone}
use Rattle.point_ops.specs.Replies.{GoesOn, HoldsAsBefore, RepliesAt}
use Rattle.scan_cursor.specs.Holding.{HasValue}
use Rattle.oak_map.specs.Maps.{StayAll}

-- the pass of a reading
abbrev pub under : Reading → PassState
under r = state r.pass.now

-- The key was absent at the place of the number. The call only loaded words, and pinned or undid pins: it took no lock and stored nothing. To a pass that is alone it was so in the last state of the key, and the words stay.
pub record FindsAbsent (z : Sizes) (call : ℕ) (key : List ℕ) (at : ℕ) (v w : PassState) : Type 0 where
  pub replies : RepliesAt call key Get reply.Absent at v w
  pub quiet : Quiet v w
  pub alone_reply : IsAlone v → AnswersAlone z key Get reply.Absent v w
  pub alone : Runs StayAll v w

-- The reading is of the value that the key held at the place of its stamp, at which all ends that the pass has seen of the key. The pass has the pin of that value and nothing else, and only loaded words, and pinned or undid pins: it took no lock and stored nothing. To a pass that is alone the key held it in its last state, no history changed, and the words stay but for one pin more on the value's header.
pub record LendsValue (z : Sizes) (call : ℕ) (key : List ℕ) (v : PassState) (r : Reading) : Type 0 where
  pub goes : GoesOn call v (under r)
  pub known : KnowsPlace (key_number key) (stamp r) (length (seen_of (key_number key) (under r).knowledge)) (under r).knowledge
  pub fits : ReplyFits (writes_of (seen_of (key_number key) (under r).knowledge)) v.numbers.number call Get (reply.Holds (value r)) (length (seen_of (key_number key) (under r).knowledge))
  pub found : SightedSince (key_number key) (stamp r) v.findings (under r).findings
  pub mine : (under r).knowledge.mine ≡ v.knowledge.mine
  pub numbers : (under r).numbers ≡ v.numbers
  pub fulls : (under r).findings.fulls ≡ v.findings.fulls
  pub swept : (under r).findings.swept ≡ v.findings.swept
  pub rebalances : KeepsRooms v (under r)
  pub quiet : Quiet v (under r)
  pub blocks : (under r).blocks ≡ v.blocks
  pub rooms : (under r).rooms ≡ v.rooms
  pub has : HasValue z r.value (under r)
  pub was : IsAlone v → state_behind (seen_of (key_number key) v.knowledge) ≡ Some (value r)
  pub same : SameAlone z v (under r)
  pub generation : ℕ
  pub alone : Runs (AddsPin z (header r) generation) v (under r)

-- The life of the view was found to be over, after tries that only met more: its removal stands in what the pass has heard. The call only loaded words, and pinned or undid pins. To a pass that is alone no history changed, and the words stay.
pub record FindsOver (z : Sizes) (call : ℕ) (x : Viewed) (v w : PassState) : Type 0 where
  pub tried : PassState
  pub tries : MeetsMore z call v tried
  pub not_read : NotRead z call x Gone tried w
  pub gone : LearnsReason z call x Gone v w
  pub holds : HoldsAsBefore v w
  pub quiet : Quiet v w
  pub same : SameAlone z v w
  pub alone : Runs (FindsReason z x Gone) v w

-- The reading is of the value that the life of the view had, after tries that only met more. The pass has the pin of that value and nothing else, and only loaded words, and pinned or undid pins. To a pass that is alone no history changed, and the words stay but for one pin more on the value's header.
pub record LendsLife (z : Sizes) (call : ℕ) (x : Viewed) (v : PassState) (r : Reading) : Type 0 where
  pub tried : PassState
  pub tries : MeetsMore z call v tried
  pub reads : ReadsView z call x tried r
  pub goes : GoesOn call v (under r)
  pub life : ReadsLife x.header x.generation x.key (stamp r) (value r) v (under r)
  pub mine : (under r).knowledge.mine ≡ v.knowledge.mine
  pub numbers : (under r).numbers ≡ v.numbers
  pub fulls : (under r).findings.fulls ≡ v.findings.fulls
  pub swept : (under r).findings.swept ≡ v.findings.swept
  pub rebalances : KeepsRooms v (under r)
  pub quiet : Quiet v (under r)
  pub blocks : (under r).blocks ≡ v.blocks
  pub rooms : (under r).rooms ≡ v.rooms
  pub has : HasValue z r.value (under r)
  pub same : SameAlone z v (under r)
  pub alone : Runs (AddsPin z x.header x.generation) v (under r)
