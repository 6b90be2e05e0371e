use Rattle.std.proofs.Common.{ℕ, sym, subst}
use Rattle.oak_model.specs.declared.cells.CellCall.TheVariants.{Put}
use Rattle.oak_core.specs.Scratch.{StaysButSlots}
use Rattle.oak_core.specs.Passes.{key}
use Rattle.oak_map.specs.Maps.{call_of, state, table_of}
use Rattle.oak_caller.specs.Callers.{Called, CallsNext, IsIdle, KeepsViews}
use Rattle.oak_caller.specs.Puts.{Puts}
use Rattle.oak_caller.proofs.NextCalls.{calls_next, put_idle, put_views}
use Rattle.oak_caller.proofs.caller.Caller.put.Goals as goal

pub returns-clause-next : goal.returns-clause-next
returns-clause-next g c = let i = c.self.inside in let t = table_of i.map.now in let p = i.pass in let m = c.next_call.new.pass in let x = c.put.new.pass in let e = c.put.ensures in let turns = c.in_ok-next_call.ensures.turns in let y = c.put.result in
    subst (λ (q : Called). CallsNext StaysButSlots q (record { table = t; pass = x })) c.self.view_is (calls_next t p m x i.last c.self.invariant turns StaysButSlots e.own.call e.own)

pub returns-clause-views : goal.returns-clause-views
returns-clause-views g c = let i = c.self.inside in let t = table_of i.map.now in let p = i.pass in let m = c.next_call.new.pass in let x = c.put.new.pass in let e = c.put.ensures in let turns = c.in_ok-next_call.ensures.turns in let y = c.put.result in
    let f : Puts y (key t) (call_of m) c.args.key.now (Put c.args.value.now) (state m) (state x) = record { wrote = e.wrote; claims = e.claims; alone_reply = e.alone_reply; alone = e.alone; alone_rooms = e.alone_rooms } in
    subst (λ (q : Called). KeepsViews q (record { table = t; pass = x })) c.self.view_is (put_views t p m x i.last c.self.invariant turns y c.args.key.now (Put c.args.value.now) f)

pub invariant_of-self-2 : goal.invariant_of-self-2
invariant_of-self-2 g c = let i = c.self.inside in let t = table_of i.map.now in let p = i.pass in let m = c.next_call.new.pass in let x = c.put.new.pass in let e = c.put.ensures in let turns = c.in_ok-next_call.ensures.turns in let y = c.put.result in
    let f : Puts y (key t) (call_of m) c.args.key.now (Put c.args.value.now) (state m) (state x) = record { wrote = e.wrote; claims = e.claims; alone_reply = e.alone_reply; alone = e.alone; alone_rooms = e.alone_rooms } in
    subst (λ (n : ℕ). IsIdle t x n) (sym c.in_ok-next_call.ensures.last) (put_idle t p m x i.last c.self.invariant turns y c.args.key.now (Put c.args.value.now) e.ready.own e.ready.idle e.own.call f)
