use Rattle.std.proofs.Common.{◌≡◌, ◌∙◌, sym, subst, Bool, MatchBool, None}
use Rattle.oak_model.specs.KeyNumber.{key_number}
use Rattle.chunk_core.specs.Covers.{span_in}
use Rattle.chunk_core.specs.KeyWords.{high_bytes}
use Rattle.chunk_core.specs.Rooms.{RoomMemory}
use Rattle.chunk_core.specs.Spans.{within}
use Rattle.rebalance.specs.Ranges.{IsKeyOf, high_words}
use Rattle.rebalance.proofs.RangeKeys.{is_before, is_inside, is_last}
use Rattle.rebalance.proofs.ranges.has_key.Goals as goal

pub returns-then-is_lt-clause-has : goal.returns-then-is_lt-clause-has
returns-then-is_lt-clause-has g c = λ b s. is_before (g.H.HeldRooms.rooms c.args.rooms.now) c.args.room c.args.key.now b s c.load_low-low.result c.order.result c.load_low-low.ensures.key c.order.ensures (sym c.is_lt.ensures ∙ c.if-is_lt.true)

pub returns-in-Some-clause-has : goal.returns-in-Some-clause-has
returns-in-Some-clause-has g c = λ b s. let m : RoomMemory = g.H.HeldRooms.rooms c.args.rooms.now in let r = c.args.room in let low = c.load_low-low in
    subst (λ (t : Bool). MatchBool t (within (span_in m r) (key_number b) ≡ 1) (within (span_in m r) (key_number b) ≡ 1 → ⊥)) (sym c.is_lt-in-Some.ensures)
    (is_inside m r c.args.key.now b s low.result c.order.result low.ensures.key c.order.ensures (sym c.is_lt.ensures ∙ c.if-is_lt.false) c.in-Some.high c.order-in-Some.result
    (subst (λ (n : RoomMemory). IsKeyOf (high_words n r) c.in-Some.high) low.ensures.rooms c.in-Some.ensures.key) c.order-in-Some.ensures)

pub returns-in-None-clause-has : goal.returns-in-None-clause-has
returns-in-None-clause-has g c = λ b s. let m : RoomMemory = g.H.HeldRooms.rooms c.args.rooms.now in let r = c.args.room in let low = c.load_low-low in
    is_last m r c.args.key.now b s low.result c.order.result low.ensures.key c.order.ensures (sym c.is_lt.ensures ∙ c.if-is_lt.false) (subst (λ (n : RoomMemory). high_bytes (high_words n r) ≡ None) low.ensures.rooms c.in-None.ensures.key)
