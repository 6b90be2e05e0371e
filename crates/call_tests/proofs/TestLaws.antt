-- What the rebalancing calls leave of the tests' pass.
use Rattle.std.proofs.Common.{◌≡◌, ℕ, ◌<◌, ◌≤◌, List, None, Result, Ok, Err, refl, sym, ap, ◌∙◌, subst}
use Rattle.std.specs.Prelude.{IfErr}
use Rattle.oak_model.specs.Counts.{Begins, Each}
use Rattle.oak_model.specs.Limits.{Sizes}
use Rattle.oak_model.proofs.Lists.{begins_self}
use Rattle.oak_model.specs.declared.replies.Wrote.{Wrote}
use Rattle.oak_core.specs.declared.states.KeyedWrite.{KeyedWrite}
use Rattle.oak_core.specs.declared.states.Knowledge.{Knowledge}
use Rattle.oak_core.specs.declared.states.Numbers.{Numbers}
use Rattle.oak_core.specs.declared.states.PassState.{PassState}
use Rattle.oak_core.specs.MayWrite.{IsNewCall}
use Rattle.oak_core.specs.PassState.{HoldsNothing}
use Rattle.chunk_core.specs.Spans.{Span}
use Rattle.chunk_ops.specs.PinRecords.{UnderPin, with_room_pin}
use Rattle.chunk_ops.specs.RoomPins.{PinsOpen, Unpins}
use Rattle.chunk_ops.specs.TestStates.{IsIdleAgain}
use Rattle.point_ops.specs.declared.halts.Halt.{Halt}
use Rattle.point_ops.specs.Replies.{Refuses}
use Rattle.point_ops.specs.TestStates.{IsReady, IsReadyAgain}
use Rattle.rebalance.specs.Calls.{Leaves, Loosens, Halves, FindsNoRoom}
use Rattle.rebalance.specs.declared.answers.Split.{Split}
use Rattle.rebalance.specs.declared.answers.Split.TheVariants.{Loosened, Halved}
use Rattle.rebalance.specs.declared.answers.NoRoom.{NoRoom}

-- a pass that held nothing, and is left as it was, holds nothing
pub leaves_idle : (call : ℕ) (v w : PassState) → Leaves call v w → HoldsNothing v → IsIdleAgain v w
leaves_idle call v w l idle = record {
  numbers = l.numbers;
  idle = record { hand = ap (λ (n : Numbers). n.hand) l.numbers ∙ idle.hand; blocks = l.blocks ∙ idle.blocks; headers = l.headers ∙ idle.headers; rooms = l.rooms ∙ idle.rooms };
}

-- one that was ready is so again
pub leaves_ready : (call : ℕ) (v w : PassState) → Leaves call v w → IsReady call v → IsReadyAgain call v w
leaves_ready call v w l y = record {
  numbers = l.numbers;
  loaded = subst (λ (q : Knowledge). Begins v.knowledge.loaded q.loaded) (sym l.knowledge) (begins_self v.knowledge.loaded);
  ready = record {
    idle = (leaves_idle call v w l y.idle).idle;
    wrote = subst (λ (q : Knowledge). Each (λ (x : KeyedWrite). x.write.call ≤ call) q.mine) (sym l.knowledge) y.wrote;
  };
}

-- a split, whatever it answers
pub split_leaves : (o : Result Split NoRoom) (z : Sizes) (call : ℕ) (key : List ℕ) (v w : PassState) → (o ≡ Ok Loosened → Loosens z call key v w) → ((room : ℕ) → o ≡ Ok (Halved room) → Halves z call key room v w) → IfErr o (λ _. FindsNoRoom z call key v w) → Leaves call v w
split_leaves (Ok Loosened) z call key v w l h n = (l refl).compacts.leaves
split_leaves (Ok (Halved room)) z call key v w l h n = (h room refl).leaves
split_leaves (Err e) z call key v w l h n = n.compacts.leaves

-- so is one that pinned a room, learned under the pin and undid it
pub pinned_ready : (z : Sizes) (call now later r : ℕ) (P : Span → Type 0) (u v w x : PassState) → PinsOpen z call r P u v → UnderPin z now r v w → Unpins z later r w x → IsReady call u → IsReadyAgain call u x
pinned_ready z call now later r P u v w x p n d y = let numbers : x.numbers ≡ u.numbers = d.stands.numbers ∙ (n.learns.all.numbers ∙ p.stands.numbers) in record {
  numbers = numbers;
  loaded = subst (λ (q : Knowledge). Begins u.knowledge.loaded q.loaded) (sym d.stands.knowledge) (subst (λ (q : Knowledge). Begins q.loaded w.knowledge.loaded) p.stands.knowledge n.learns.all.loaded);
  ready = record {
    idle = record {
      hand = ap (λ (m : Numbers). m.hand) numbers ∙ y.idle.hand;
      blocks = d.blocks ∙ (n.blocks ∙ (p.blocks ∙ y.idle.blocks));
      headers = d.headers ∙ (n.headers ∙ (p.headers ∙ y.idle.headers));
      rooms = d.rooms ∙ (ap (with_room_pin None) n.pin.rooms ∙ (ap (with_room_pin None) p.rooms ∙ ap (with_room_pin None) y.idle.rooms));
    };
    wrote = subst (λ (q : Knowledge). Each (λ (x : KeyedWrite). x.write.call ≤ call) q.mine) (sym d.stands.knowledge)
        (subst (λ (m : List KeyedWrite). Each (λ (x : KeyedWrite). x.write.call ≤ call) m) (sym n.learns.all.mine) (subst (λ (q : Knowledge). Each (λ (x : KeyedWrite). x.write.call ≤ call) q.mine) (sym p.stands.knowledge) y.wrote));
  };
}

-- behind a write that was refused another one may be tried in the same call
pub refused_new : (o : Result Wrote Halt) (halt : Halt) (call : ℕ) (v w : PassState) → o ≡ Err halt → IfErr o (λ _. Refuses call v w) → IsNewCall call v → IsNewCall call w
refused_new o halt call v w e f new = let r : Refuses call v w = subst (λ (x : Result Wrote Halt). IfErr x (λ _. Refuses call v w)) e f in
    (new.0, subst (Each (λ (x : KeyedWrite). x.write.call < call)) (sym r.learns.all.mine) new.1)
