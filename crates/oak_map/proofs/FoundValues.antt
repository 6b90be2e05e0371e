-- A search for the value of a key that waits: what its tries come to adds up.
use Rattle.std.proofs.Common.{◌≡◌, ℕ, List, Some, Result, Ok, refl, ap, ◌∙◌}
use Rattle.oak_model.specs.declared.cells.CellCall.TheVariants.{Get}
use Rattle.oak_model.specs.declared.cells.CellReply.TheVariants as replies
use Rattle.oak_model.specs.Limits.{Sizes}
use Rattle.header_core.specs.declared.holds.HeaderHolds.{HeaderHolds}
use Rattle.oak_core.specs.declared.states.PassState.{PassState}
use Rattle.oak_core.specs.AloneWords.{Runs}
use Rattle.oak_core.specs.CallSteps.{Learns}
use Rattle.oak_core.specs.PassState.{HoldsNothing}
use Rattle.oak_core.specs.QuietSteps.{IsQuiet, Quiet}
use Rattle.oak_core.proofs.calls.CallSteps.{learns_both, learns_none}
use Rattle.oak_core.proofs.calls.QuietCalls.{only_both, only_none}
use Rattle.chunk_ops.specs.AddsAlone.{Never}
use Rattle.value_ops.specs.declared.views.NoRead.{NoRead}
use Rattle.value_ops.specs.Pinning.{AddsPin}
use Rattle.value_ops.specs.Views.{NotRead, Viewed}
use Rattle.point_ops.specs.declared.halts.Halt.{Halt}
use Rattle.point_ops.specs.declared.lives.Pinned.{Pinned}
use Rattle.point_ops.specs.declared.lives.Pinned.TheVariants.{Absent, Value}
use Rattle.point_ops.specs.LoneReplies.{AnswersAlone, SeesWhole}
use Rattle.point_ops.specs.Pins.{PinnedFits, PinsIn, PinsKey}
use Rattle.point_ops.specs.Replies.{HoldsAsBefore, Refuses}
use Rattle.oak_map.specs.Finding.{FindsValue}
use Rattle.oak_map.specs.Lending.{FindsAbsent}
use Rattle.oak_map.specs.Maps.{StayAll}
use Rattle.oak_map.proofs.LoneRetries.{Waits, lone_since, runs_since, waits_again}
use Rattle.oak_map.proofs.RepliesSince.{refuses_both, replies_since}

-- ---- one try

-- what only teaches a pass that holds what it held refuses it
pub learned_refuses : (call : ℕ) (v w : PassState) → Learns call v w → w.blocks ≡ v.blocks → w.headers ≡ v.headers → w.rooms ≡ v.rooms → Refuses call v w
learned_refuses call v w l blocks headers rooms = record { learns = l; holds = record { blocks = blocks; headers = headers; rooms = rooms; numbers = l.all.numbers; fulls = l.all.fulls; swept = l.all.swept; rebalances = l.all.rebalances } }

pub refuses_none : (call : ℕ) (v : PassState) → Refuses call v v
refuses_none call v = learned_refuses call v v (learns_none call v) refl refl refl

-- so does a view that could not be pinned
pub unread_refuses : (z : Sizes) (call : ℕ) (x : Viewed) (why : NoRead) (v w : PassState) → NotRead z call x why v w → Refuses call v w
unread_refuses z call x why v w n = learned_refuses call v w n.dud.only.learns n.dud.only.blocks n.dud.only.headers n.dud.only.rooms

-- a pass that holds nothing holds nothing then
pub idle_still : (v w : PassState) → HoldsAsBefore v w → HoldsNothing v → HoldsNothing w
idle_still v w h idle = record { hand = ap (λ n. n.hand) h.numbers ∙ idle.hand; blocks = h.blocks ∙ idle.blocks; headers = h.headers ∙ idle.headers; rooms = h.rooms ∙ idle.rooms }

-- what was found
abbrev found : Pinned → Result Pinned Halt
found y = Ok y

pub value_found : (y : Pinned) (z : Sizes) (call : ℕ) (key : List ℕ) (v w : PassState) → PinnedFits y z call key v w → Quiet v w → Runs (PinsIn (found y) z) v w → FindsValue y z call key v w
value_found (Absent at) z call key v w f quiet alone = record { replies = f.replies; quiet = quiet; alone_reply = f.alone_reply; alone = alone }
value_found (Value p) z call key v w f quiet alone = f

-- ---- one try behind others

-- the search goes on, which began at u
pub record Searches (call : ℕ) (u v : PassState) : Type 0 where
  pub refused : Refuses call u v
  pub quiet : Quiet u v
  pub waits : Waits u v

pub search_first : (call : ℕ) (v : PassState) → Searches call v v
search_first call v = record { refused = refuses_none call v; quiet = only_none IsQuiet v v refl; waits = λ _. refl }

module _ (call : ℕ) (u v w : PassState) (s : Searches call u v) where
  pub search_on : Refuses call v w → Quiet v w → Runs Never v w → Searches call u w
  search_on r quiet never = record { refused = refuses_both call u v w s.refused r; quiet = only_both IsQuiet u v w s.quiet quiet; waits = waits_again u v w s.waits never }

  pub pinned_since : (z : Sizes) (key : List ℕ) (h g : ℕ) → PinsKey z call key h g v w → PinsKey z call key h g u w
  pinned_since z key h g p = record {
    learns = learns_both call u v w s.refused.learns p.learns;
    life = p.life;
    pin = p.pin;
    has = p.has;
    headers = p.headers ∙ ap (λ (a : HeaderHolds). record a { pin = Some p.pin }) s.refused.holds.headers;
    blocks = p.blocks ∙ s.refused.holds.blocks;
    rooms = p.rooms ∙ s.refused.holds.rooms;
    quiet = only_both IsQuiet u v w s.quiet p.quiet;
    begun = lone_since (SeesWhole z) u v s.waits p.begun;
    alone = runs_since (AddsPin z h g) u v w s.waits p.alone;
  }

  pub absent_since : (z : Sizes) (key : List ℕ) (at : ℕ) → FindsAbsent z call key at v w → FindsAbsent z call key at u w
  absent_since z key at f = record {
    replies = replies_since call u v w s.refused key Get replies.Absent at f.replies;
    quiet = only_both IsQuiet u v w s.quiet f.quiet;
    alone_reply = lone_since (λ (y : PassState). AnswersAlone z key Get replies.Absent y w) u v s.waits f.alone_reply;
    alone = runs_since StayAll u v w s.waits f.alone;
  }

  -- by what was found

  pub value_since : (y : Pinned) (z : Sizes) (key : List ℕ) → FindsValue y z call key v w → FindsValue y z call key u w
  value_since (Absent at) z key f = absent_since z key at f
  value_since (Value p) z key f = pinned_since z key p.header p.generation f
