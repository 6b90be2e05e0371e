-- What a call leaves of its caller, which gave it the next number: p is the pass before, m with that number, and x the one behind the call.
use Rattle.std.proofs.Common.{◌≡◌, ℕ, ◌+◌, List, Ok, sym, ap, ◌∙◌, refl, subst, arith}
use Rattle.oak_model.specs.declared.cells.CellCall.{CellCall}
use Rattle.oak_model.specs.declared.replies.Wrote.{Wrote}
use Rattle.oak_core.specs.declared.states.PassState.{PassState}
use Rattle.oak_core.specs.declared.table.OakTable.{OakTable}
use Rattle.oak_core.specs.declared.table.Pass.{Pass}
use Rattle.oak_core.specs.Passes.{IsPassOf, Turns, key}
use Rattle.oak_core.specs.PassState.{HoldsNothing}
use Rattle.point_ops.specs.TestStates.{HasView, IsReady, WroteBy}
use Rattle.point_ops.proofs.TestLaws.{ready_later, view_again, wrote_again}
use Rattle.oak_map.specs.declared.map.MapPass.{MapPass}
use Rattle.oak_map.specs.Maps.{call_of, pass_of, state}
use Rattle.oak_map.proofs.TestLaws.{put_again}
use Rattle.oak_caller.specs.Callers.{CallsNext, IsIdle, KeepsViews}
use Rattle.oak_caller.specs.Puts.{Changes, Puts}

module _ (t : OakTable) (p m x : MapPass) (last : ℕ) (i : IsIdle t p last) (turns : Turns (pass_of p) (pass_of m) (last + 1)) where
  calls : call_of m ≡ call_of p + 1
  calls = turns.call ∙ ap (λ (n : ℕ). n + 1) (sym i.call)

  states : state m ≡ state p
  states = λ j. (turns.state j).0

  ready : IsReady (call_of m) (state m)
  ready = subst (λ (n : ℕ). IsReady n (state m)) (sym turns.call) (ready_later last (last + 1) (state p) (state m) (omega arith) states (record { idle = i.idle; wrote = i.wrote })).ready

  pub calls_next : (Own : Pass → Pass → Type 0) → call_of x ≡ call_of m → Own (pass_of m) (pass_of x) → CallsNext Own (record { table = t; pass = p }) (record { table = t; pass = x })
  calls_next Own same own = record {
    table = refl;
    call = same ∙ calls;
    turned = pass_of m;
    turns = subst (λ (n : ℕ). Turns (pass_of p) (pass_of m) n) (ap (λ (n : ℕ). n + 1) (sym i.call)) turns;
    own = own;
  }

  -- ---- a call that puts

  pub puts_next : (y : Wrote) (k : List ℕ) (ask : CellCall) → Puts y (key t) (call_of m) k ask (state m) (state x) → Puts y (key t) (call_of p + 1) k ask (state p) (state x)
  puts_next y k ask f = subst (λ (q : ℕ × PassState). Puts y (key t) q.0 k ask q.1 (state x)) (λ j. (calls j, states j)) f

  pub put_idle : (y : Wrote) (k : List ℕ) (ask : CellCall) → IsPassOf t (pass_of x) → HoldsNothing (state x) → call_of x ≡ call_of m → Puts y (key t) (call_of m) k ask (state m) (state x) → IsIdle t x (last + 1)
  put_idle y k ask own idle same f = record {
    own = own;
    idle = idle;
    call = same ∙ turns.call;
    wrote = subst (λ (n : ℕ). WroteBy n (state x)) turns.call (put_again y (key t) (call_of m) k ask (state m) (state x) f.wrote ready).ready.wrote;
  }

  -- ---- a call that changes what is there

  pub changes_next : (y : Wrote) (k : List ℕ) (ask : CellCall) → Changes y (key t) (call_of m) k ask (state m) (state x) → Changes y (key t) (call_of p + 1) k ask (state p) (state x)
  changes_next y k ask f = subst (λ (q : ℕ × PassState). Changes y (key t) q.0 k ask q.1 (state x)) (λ j. (calls j, states j)) f

  pub change_idle : (y : Wrote) (k : List ℕ) (ask : CellCall) → IsPassOf t (pass_of x) → HoldsNothing (state x) → call_of x ≡ call_of m → Changes y (key t) (call_of m) k ask (state m) (state x) → IsIdle t x (last + 1)
  change_idle y k ask own idle same f = record {
    own = own;
    idle = idle;
    call = same ∙ turns.call;
    wrote = subst (λ (n : ℕ). WroteBy n (state x)) turns.call (wrote_again (Ok y) (call_of m) k ask (state m) (state x) f.wrote tt ready).ready.wrote;
  }

  -- ---- views

  pub put_views : (y : Wrote) (k : List ℕ) (ask : CellCall) → Puts y (key t) (call_of m) k ask (state m) (state x) → KeepsViews (record { table = t; pass = p }) (record { table = t; pass = x })
  put_views y k ask f = λ v h. view_again (key t) v (call_of m) (state m) (state x) (put_again y (key t) (call_of m) k ask (state m) (state x) f.wrote ready) (subst (HasView (key t) v) (sym states) h)

  pub change_views : (y : Wrote) (k : List ℕ) (ask : CellCall) → Changes y (key t) (call_of m) k ask (state m) (state x) → KeepsViews (record { table = t; pass = p }) (record { table = t; pass = x })
  change_views y k ask f = λ v h. view_again (key t) v (call_of m) (state m) (state x) (wrote_again (Ok y) (call_of m) k ask (state m) (state x) f.wrote tt ready) (subst (HasView (key t) v) (sym states) h)
