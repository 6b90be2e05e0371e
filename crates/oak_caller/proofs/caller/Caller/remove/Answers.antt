use Rattle.std.proofs.Common.{ℕ, sym, subst}
use Rattle.oak_model.specs.declared.cells.CellCall.TheVariants.{Remove}
use Rattle.oak_core.specs.Passes.{Stays}
use Rattle.oak_core.specs.Passes.{key}
use Rattle.oak_map.specs.Maps.{call_of, state, table_of}
use Rattle.oak_caller.specs.Callers.{Called, CallsNext, IsIdle, KeepsViews}
use Rattle.oak_caller.specs.Puts.{Changes}
use Rattle.oak_caller.proofs.NextCalls.{calls_next, change_idle, change_views}
use Rattle.oak_caller.proofs.caller.Caller.remove.Goals as goal

pub returns-clause-next : goal.returns-clause-next
returns-clause-next g c = let i = c.self.inside in let t = table_of i.map.now in let p = i.pass in let m = c.next_call.new.pass in let x = c.remove.new.pass in let e = c.remove.ensures in let turns = c.in_ok-next_call.ensures.turns in let y = c.remove.result in
    subst (λ (q : Called). CallsNext Stays q (record { table = t; pass = x })) c.self.view_is (calls_next t p m x i.last c.self.invariant turns Stays e.own.call e.own)

pub returns-clause-views : goal.returns-clause-views
returns-clause-views g c = let i = c.self.inside in let t = table_of i.map.now in let p = i.pass in let m = c.next_call.new.pass in let x = c.remove.new.pass in let e = c.remove.ensures in let turns = c.in_ok-next_call.ensures.turns in let y = c.remove.result in
    let f : Changes y (key t) (call_of m) c.args.key.now (Remove) (state m) (state x) = record { holds = e.holds; wrote = e.wrote; alone_reply = e.alone_reply; alone_left = e.alone_left } in
    subst (λ (q : Called). KeepsViews q (record { table = t; pass = x })) c.self.view_is (change_views t p m x i.last c.self.invariant turns y c.args.key.now (Remove) f)

pub invariant_of-self-2 : goal.invariant_of-self-2
invariant_of-self-2 g c = let i = c.self.inside in let t = table_of i.map.now in let p = i.pass in let m = c.next_call.new.pass in let x = c.remove.new.pass in let e = c.remove.ensures in let turns = c.in_ok-next_call.ensures.turns in let y = c.remove.result in
    let f : Changes y (key t) (call_of m) c.args.key.now (Remove) (state m) (state x) = record { holds = e.holds; wrote = e.wrote; alone_reply = e.alone_reply; alone_left = e.alone_left } in
    subst (λ (n : ℕ). IsIdle t x n) (sym c.in_ok-next_call.ensures.last) (change_idle t p m x i.last c.self.invariant turns y c.args.key.now (Remove) e.ready.own e.ready.idle e.own.call f)
