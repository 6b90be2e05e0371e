-- A map that was settled is settled still behind what only meets more.
use Rattle.std.proofs.Common.{ℕ, ap, ◌∙◌}
use Rattle.oak_model.specs.Limits.{Sizes}
use Rattle.oak_model.proofs.Lists.{begins_trans}
use Rattle.oak_core.specs.declared.states.PassState.{PassState}
use Rattle.oak_core.specs.declared.states.Rebalanced.{Rebalanced}
use Rattle.oak_core.specs.PassState.{HoldsNothing}
use Rattle.oak_core.proofs.calls.CallSteps.{begins_same, met_both}
use Rattle.chunk_ops.specs.PinRecords.{OnlyMeets}
use Rattle.chunk_ops.specs.RoomPins.{HadMoment}
use Rattle.chunk_ops.proofs.MeetingCalls.{then_stays}
use Rattle.point_ops.proofs.PinnedCalls.{met_refuses}
use Rattle.rebalance.specs.Calls.{Leaves, Settles}
use Rattle.rebalance.specs.LoneCalls.{SettlesWords}
use Rattle.rebalance.proofs.SweptKeys.{sweeps_until}
use Rattle.oak_map.proofs.Trying.{claims_kept, claims_then, holds_on, idle_on}

-- a pass that held nothing holds nothing
pub idle_still : (call : ℕ) (v w : PassState) → OnlyMeets call v w → HoldsNothing v → HoldsNothing w
idle_still call v w o idle = idle_on v w (holds_on v w (met_refuses call v w o).holds) idle

leaves_still : (call : ℕ) (v x w : PassState) → Leaves call v x → OnlyMeets call x w → Leaves call v w
leaves_still call v x w l o = let s = o.stands in record {
  met = met_both call v x w l.met s.met;
  numbers = s.numbers ∙ l.numbers;
  knowledge = s.knowledge ∙ l.knowledge;
  fulls = s.fulls ∙ l.fulls;
  swept = begins_trans v.findings.swept x.findings.swept w.findings.swept l.swept (begins_same x.findings.swept w.findings.swept s.swept);
  sights = s.sights ∙ l.sights;
  gones = s.gones ∙ l.gones;
  blocks = o.blocks ∙ l.blocks;
  headers = o.headers ∙ l.headers;
  rooms = o.rooms ∙ l.rooms;
}

pub settles_still : (z : Sizes) (call : ℕ) (v x w : PassState) → Settles z call v x → OnlyMeets call x w → HadMoment z w → Settles z call v w
settles_still z call v x w s o m = let t = o.stands in record {
  leaves = leaves_still call v x w s.leaves o;
  unclaimed = ap (λ (r : Rebalanced). r.claims) t.rebalances ∙ s.unclaimed;
  claims = claims_then z call v x w s.leaves.met t.met s.claims (claims_kept z x w t.rebalances);
  ended = m;
  covered = λ k is. sweeps_until call k v x w (s.covered k is) (begins_same x.findings.swept w.findings.swept t.swept) t.met;
  alone = then_stays (SettlesWords z) v x w s.alone o.still;
}
