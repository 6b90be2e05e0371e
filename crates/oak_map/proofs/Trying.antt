-- Tries of a call of the map go together.
use Rattle.std.proofs.Common.{ℕ, ap, sym, refl, ◌∙◌, subst}
use Rattle.oak_model.specs.Limits.{Sizes}
use Rattle.oak_model.proofs.Lists.{begins_self, begins_trans}
use Rattle.oak_core.specs.declared.states.Knowledge.{Knowledge}
use Rattle.oak_core.specs.declared.states.Numbers.{Numbers}
use Rattle.oak_core.specs.declared.states.PassState.{PassState}
use Rattle.oak_core.specs.declared.states.Rebalanced.{Rebalanced}
use Rattle.oak_core.specs.CallSteps.{MetMore}
use Rattle.oak_core.specs.KnownPlaces.{KnowsPlace}
use Rattle.oak_core.specs.PassState.{HoldsNothing, seen_of}
use Rattle.oak_core.specs.RebalanceSteps.{KeepsRooms}
use Rattle.oak_core.specs.RoomLacks.{ClaimsFull}
use Rattle.oak_core.proofs.calls.CallSteps.{begins_same, learns_none, sights_same}
use Rattle.oak_core.proofs.covers.FullClaims.{claims_both, claims_none}
use Rattle.point_ops.specs.Replies.{HoldsAsBefore, Refuses}
use Rattle.point_ops.proofs.ReplyLaws.{learns_on}
use Rattle.rebalance.specs.Calls.{Leaves}
use Rattle.oak_map.specs.Replying.{HoldsOn, Tries}
use Rattle.oak_map.proofs.RepliesSince.{goes_both}

pub holds_on : (v w : PassState) → HoldsAsBefore v w → HoldsOn v w
holds_on v w h = record { blocks = h.blocks; headers = h.headers; rooms = h.rooms; numbers = h.numbers; fulls = h.fulls; swept = begins_same v.findings.swept w.findings.swept h.swept }

pub holds_on_both : (u v w : PassState) → HoldsOn u v → HoldsOn v w → HoldsOn u w
holds_on_both u v w a b = record {
  blocks = b.blocks ∙ a.blocks;
  headers = b.headers ∙ a.headers;
  rooms = b.rooms ∙ a.rooms;
  numbers = b.numbers ∙ a.numbers;
  fulls = b.fulls ∙ a.fulls;
  swept = begins_trans u.findings.swept v.findings.swept w.findings.swept a.swept b.swept;
}

-- a pass that held nothing holds nothing
pub idle_on : (v w : PassState) → HoldsOn v w → HoldsNothing v → HoldsNothing w
idle_on v w h idle = record { hand = ap (λ (n : Numbers). n.hand) h.numbers ∙ idle.hand; blocks = h.blocks ∙ idle.blocks; headers = h.headers ∙ idle.headers; rooms = h.rooms ∙ idle.rooms }

-- what made no step of a rebalance claimed no room
pub claims_kept : (z : Sizes) (v w : PassState) → KeepsRooms v w → ClaimsFull z v w
claims_kept z v w e = claims_none z v w (ap (λ (r : Rebalanced). r.claims) e)

-- and one part of a call behind another
pub claims_then : (z : Sizes) (call : ℕ) (u v w : PassState) → MetMore call u v → MetMore call v w → ClaimsFull z u v → ClaimsFull z v w → ClaimsFull z u w
claims_then z call u v w p q a b = claims_both z u v w (p.more, p.met) (q.more, q.met) a b

pub tries_none : (z : Sizes) (call : ℕ) (v : PassState) → Tries z call v v
tries_none z call v = record {
  goes = learns_on call v v (learns_none call v);
  mine = refl;
  holds = record { blocks = refl; headers = refl; rooms = refl; numbers = refl; fulls = refl; swept = begins_self v.findings.swept };
  claims = claims_kept z v v refl;
}

pub tries_both : (z : Sizes) (call : ℕ) (u v w : PassState) → Tries z call u v → Tries z call v w → Tries z call u w
tries_both z call u v w a b = record { goes = goes_both call u v w a.goes b.goes; mine = b.mine ∙ a.mine; holds = holds_on_both u v w a.holds b.holds; claims = claims_then z call u v w a.goes.met b.goes.met a.claims b.claims }

-- a refused try
pub tries_refused : (z : Sizes) (call : ℕ) (v w : PassState) → Refuses call v w → Tries z call v w
tries_refused z call v w r = record { goes = learns_on call v w r.learns; mine = r.learns.all.mine; holds = holds_on v w r.holds; claims = claims_kept z v w r.holds.rebalances }

-- and what makes room
pub tries_leaves : (z : Sizes) (call : ℕ) (v w : PassState) → Leaves call v w → ClaimsFull z v w → Tries z call v w
tries_leaves z call v w l c = record {
  goes = record {
    met = l.met;
    sights = sights_same call v w l.sights;
    gones = begins_same v.findings.gones w.findings.gones l.gones;
    loaded = begins_same v.knowledge.loaded w.knowledge.loaded (ap (λ (q : Knowledge). q.loaded) l.knowledge);
    seen = λ k. begins_same (seen_of k v.knowledge) (seen_of k w.knowledge) (ap (seen_of k) l.knowledge);
    remembers = λ k at r x. subst (KnowsPlace k at r) (sym l.knowledge) x;
  };
  mine = ap (λ (q : Knowledge). q.mine) l.knowledge;
  holds = record { blocks = l.blocks; headers = l.headers; rooms = l.rooms; numbers = l.numbers; fulls = l.fulls; swept = l.swept };
  claims = c;
}
