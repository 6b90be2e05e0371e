-- A whole call: a room is pinned, the work done under the pin, and the room unpinned.
use Rattle.std.proofs.Common.{◌≡◌, ℕ, List, None, Some, sym, ap, ◌∙◌, subst}
use Rattle.oak_model.specs.declared.cells.CellCall.{CellCall}
use Rattle.oak_model.specs.declared.replies.Wrote.{Wrote}
use Rattle.oak_model.specs.Limits.{Sizes}
use Rattle.chunk_core.specs.Spans.{Span}
use Rattle.oak_core.specs.declared.states.PassState.{PassState}
use Rattle.oak_core.specs.CallSteps.{Learns, Stands}
use Rattle.oak_core.specs.PassState.{HoldsNothing}
use Rattle.oak_core.specs.RebalanceSteps.{KeepsRooms}
use Rattle.oak_core.proofs.calls.CallSteps.{learns_both, stands_learns}
use Rattle.chunk_ops.specs.PinRecords.{OnlyMeets, UnderPin, room_pin, with_room_pin}
use Rattle.chunk_ops.specs.RoomPins.{PinsOpen, Unpins}
use Rattle.point_ops.specs.Halting.{Halts}
use Rattle.point_ops.specs.Parts.{Answers, KeepsUnder, WroteFits}
use Rattle.point_ops.specs.Replies.{HoldsAsBefore, Refuses}
use Rattle.point_ops.specs.declared.halts.Halt.{Halt}
use Rattle.point_ops.proofs.Composed.{halts_in}
use Rattle.point_ops.proofs.ReplyLaws.{answers_fit, refuses}
use Rattle.point_ops.proofs.WritesIn.{answers_in, answers_keep}

-- a call under the pin that only learned keeps what it holds
pub under_keeps : (z : Sizes) (call r : ℕ) (v w : PassState) → UnderPin z call r v w → KeepsUnder z r v w
under_keeps z call r v w u = record { blocks = u.blocks; headers = u.headers; pin = u.pin }

module _ (z : Sizes) (call r : ℕ) (P : Span → Type 0) (v u w x : PassState) (idle : HoldsNothing v) (p : PinsOpen z call r P v u) (c2 c3 : ℕ) (e2 : c2 ≡ call) (e3 : c3 ≡ call) (held : KeepsUnder z r u w) (n0 : Unpins z c3 r w x) where
  away : Stands call w x
  away = subst (λ (t : ℕ). Stands t w x) e3 n0.stands

  here : Learns call v u
  here = stands_learns call v u p.stands

  pub all_holds : (w.numbers ≡ u.numbers) × (w.findings.fulls ≡ u.findings.fulls) × (w.findings.swept ≡ u.findings.swept) × KeepsRooms u w → HoldsAsBefore v x
  all_holds s = record {
    blocks = n0.blocks ∙ (held.blocks ∙ p.blocks);
    headers = n0.headers ∙ (held.headers ∙ p.headers);
    rooms = n0.rooms ∙ (ap (with_room_pin None) (held.pin.rooms ∙ (ap (with_room_pin (Some (room_pin w))) (p.rooms ∙ ap (with_room_pin (Some (room_pin u))) idle.rooms))) ∙ sym idle.rooms);
    numbers = away.numbers ∙ (s.0 ∙ p.stands.numbers);
    fulls = away.fulls ∙ (s.1 ∙ p.stands.fulls);
    swept = away.swept ∙ (s.2 ∙ p.stands.swept);
    rebalances = away.rebalances ∙ (s.3 ∙ p.stands.rebalances);
  }

  pub all_answers : (y : Wrote) (key : List ℕ) (ask : CellCall) → Answers y c2 key ask u w → WroteFits y call key ask v x
  all_answers y key ask a0 = let a = subst (λ (t : ℕ). Answers y t key ask u w) e2 a0 in
      answers_fit y call key ask v x (all_holds (answers_keep y call key ask u w a)) (answers_in call key v u w x here away y ask a)

  pub all_learns : Learns c2 u w → Learns call v x
  all_learns l = learns_both call v u x here (learns_both call u w x (subst (λ (t : ℕ). Learns t u w) e2 l) (stands_learns call w x away))

  pub all_refuses : Learns c2 u w → Refuses call v x
  all_refuses l = refuses call v x (all_learns l) (all_holds (l.all.numbers, l.all.fulls, l.all.swept, l.all.rebalances))

  pub all_halts : (key : List ℕ) (ask : CellCall) (why : Halt) → Halts why z c2 key ask u w → Halts why z call key ask v x
  all_halts key ask why h = halts_in z call key v u w x here (stands_learns call w x away) p.quiet n0.quiet why ask (subst (λ (t : ℕ). Halts why z t key ask u w) e2 h)

-- no room was found, and the pass only met more
pub met_refuses : (call : ℕ) (v w : PassState) → OnlyMeets call v w → Refuses call v w
met_refuses call v w o = record { learns = stands_learns call v w o.stands; holds = record { blocks = o.blocks; headers = o.headers; rooms = o.rooms; numbers = o.stands.numbers; fulls = o.stands.fulls; swept = o.stands.swept; rebalances = o.stands.rebalances } }
