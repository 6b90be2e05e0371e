-- What each call of the tests leaves of their pass.
use Rattle.std.proofs.Common.{◌≡◌, ℕ, ◌≤◌, Bool, true, false, List, [], ◌∷◌, None, Result, Ok, Err, refl, sym, ap, ◌∙◌, subst, arith}
use Rattle.std.specs.Prelude.{IfOk, IfErr}
use Rattle.oak_model.specs.declared.cells.CellCall.{CellCall}
use Rattle.oak_model.specs.declared.cells.CellCall.TheVariants.{Get}
use Rattle.oak_model.specs.declared.cells.CellReply.{CellReply}
use Rattle.oak_model.specs.declared.cells.CellReply.TheVariants as replies
use Rattle.oak_model.specs.declared.replies.Wrote.{Wrote}
use Rattle.oak_model.specs.declared.replies.Wrote.TheVariants.{New, Over, Kept, Done, Removed, Absent, Full}
use Rattle.oak_model.specs.Cell.{is_write}
use Rattle.oak_model.specs.Counts.{Each}
use Rattle.oak_model.specs.KeyNumber.{key_number}
use Rattle.oak_model.specs.Limits.{Sizes}
use Rattle.oak_model.proofs.Lists.{begins_self, begins_trans, each_append, each_map}
use Rattle.header_core.specs.declared.holds.HeaderHolds.{HeaderHolds}
use Rattle.oak_core.specs.declared.states.KeyedWrite.{KeyedWrite}
use Rattle.oak_core.specs.declared.states.Numbers.{Numbers}
use Rattle.oak_core.specs.declared.states.PassState.{PassState}
use Rattle.oak_core.specs.PassState.{HoldsNothing}
use Rattle.oak_core.proofs.calls.CallSteps.{learns_both}
use Rattle.value_ops.specs.Pinning.{MeetsMore, OnlyLearns, with_pin}
use Rattle.value_ops.specs.PinnedValues.{OnlyLoads}
use Rattle.value_ops.specs.Views.{Viewed}
use Rattle.point_ops.specs.Gets.{GotFits}
use Rattle.point_ops.specs.Parts.{WroteFits}
use Rattle.point_ops.specs.Pins.{AbsentAt, PinsKey}
use Rattle.point_ops.specs.Replies.{HoldsAsBefore, MineAfter, Refuses, RepliesAt}
use Rattle.point_ops.specs.TestStates.{HasView, IsReady, IsReadyAgain, WroteBy}
use Rattle.point_ops.specs.declared.gets.Got.{Got}
use Rattle.point_ops.specs.declared.gets.Got.TheVariants as gots
use Rattle.point_ops.specs.declared.halts.Halt.{Halt}
use Rattle.value_ops.proofs.LearnFacts.{learned_both, learned_met, learned_only}
use Rattle.value_ops.proofs.LoadedViews.{view_loaded}
use Rattle.value_ops.proofs.PinFacts.{loads_meet, unpinned_is}

-- nothing was done, and the call may be a later one
pub ready_later : (call next : ℕ) (v w : PassState) → call ≤ next → w ≡ v → IsReady call v → IsReadyAgain next v w
ready_later call next v w le same r = subst (IsReadyAgain next v) (sym same) record {
  numbers = refl;
  loaded = begins_self v.knowledge.loaded;
  ready = record {
    idle = r.idle;
    wrote = each_map (λ (x : KeyedWrite). x.write.call ≤ call) (λ (x : KeyedWrite). x.write.call ≤ next) v.knowledge.mine (λ x h. omega arith) r.wrote;
  };
}

-- one after the other
pub again_both : (a b : ℕ) (v w x : PassState) → IsReadyAgain a v w → IsReadyAgain b w x → IsReadyAgain b v x
again_both a b v w x f s = record {
  numbers = s.numbers ∙ f.numbers;
  loaded = begins_trans v.knowledge.loaded w.knowledge.loaded x.knowledge.loaded f.loaded s.loaded;
  ready = s.ready;
}

pub view_again : (z : Sizes) (x : Viewed) (call : ℕ) (v w : PassState) → IsReadyAgain call v w → HasView z x v → HasView z x w
view_again z x call v w a h = record { inside = h.inside; loaded = view_loaded x v w a.loaded h.loaded }

idle_still : (v w : PassState) → HoldsAsBefore v w → HoldsNothing v → HoldsNothing w
idle_still v w h idle = record {
  hand = ap (λ (n : Numbers). n.hand) h.numbers ∙ idle.hand;
  blocks = h.blocks ∙ idle.blocks;
  headers = h.headers ∙ idle.headers;
  rooms = h.rooms ∙ idle.rooms;
}

-- of its own writes it has the same, or one more, which is of the call
wrote_after : (b : Bool) (call k at : ℕ) (v w : PassState) → MineAfter b call k at v w → WroteBy call v → WroteBy call w
wrote_after false call k at v w e wrote = subst (Each (λ (x : KeyedWrite). x.write.call ≤ call)) (sym e) wrote
wrote_after true call k at v w m wrote = subst (Each (λ (x : KeyedWrite). x.write.call ≤ call)) (sym m.1) (each_append (λ (x : KeyedWrite). x.write.call ≤ call) v.knowledge.mine (m.0 ∷ []) wrote (let e = m.3 in omega arith, tt))

-- a reply, whichever it is
replied : (call : ℕ) (key : List ℕ) (ask : CellCall) (reply : CellReply) (at : ℕ) (v w : PassState) → RepliesAt call key ask reply at v w → IsReady call v → IsReadyAgain call v w
replied call key ask reply at v w r y = record {
  numbers = r.holds.numbers;
  loaded = r.goes.loaded;
  ready = record { idle = idle_still v w r.holds y.idle; wrote = wrote_after (is_write reply) call (key_number key) at v w r.mine y.wrote };
}

pub refused_again : (call : ℕ) (v w : PassState) → Refuses call v w → IsReady call v → IsReadyAgain call v w
refused_again call v w r y = record {
  numbers = r.holds.numbers;
  loaded = r.learns.all.loaded;
  ready = record { idle = idle_still v w r.holds y.idle; wrote = wrote_after false call 0 0 v w r.learns.all.mine y.wrote };
}

pub wrote_again : (o : Result Wrote Halt) (call : ℕ) (key : List ℕ) (ask : CellCall) (v w : PassState) → IfOk o (λ x. WroteFits x call key ask v w) → IfErr o (λ _. Refuses call v w) → IsReady call v → IsReadyAgain call v w
wrote_again (Ok (New at)) call key ask v w r f y = replied call key ask replies.New at v w r y
wrote_again (Ok (Over at)) call key ask v w r f y = replied call key ask replies.Over at v w r y
wrote_again (Ok (Kept at)) call key ask v w r f y = replied call key ask replies.Kept at v w r y
wrote_again (Ok (Done at)) call key ask v w r f y = replied call key ask replies.Done at v w r y
wrote_again (Ok (Removed at)) call key ask v w r f y = replied call key ask replies.Removed at v w r y
wrote_again (Ok (Absent at)) call key ask v w r f y = replied call key ask replies.Absent at v w r y
wrote_again (Ok (Full lack)) call key ask v w r f y = absurd r
wrote_again (Err why) call key ask v w r f y = refused_again call v w f y

pub got_again : (o : Result Got Halt) (z : Sizes) (call : ℕ) (key : List ℕ) (v w : PassState) → IfOk o (λ x. GotFits x z call key v w) → IfErr o (λ _. Refuses call v w) → IsReady call v → IsReadyAgain call v w
got_again (Ok (gots.Absent at)) z call key v w r f y = replied call key Get replies.Absent at v w r y
got_again (Ok (gots.View x)) z call key v w r f y = replied call key Get (replies.Holds r.bytes) x.at v w r.replies y
got_again (Err why) z call key v w r f y = refused_again call v w f y

-- nothing was written, and all is held as before
pub learned_again : (z : Sizes) (call : ℕ) (v w : PassState) → OnlyLearns z call v w → IsReady call v → IsReadyAgain call v w
learned_again z call v w l y = refused_again call v w record {
  learns = l.learns;
  holds = record { blocks = l.blocks; headers = l.headers; rooms = l.rooms; numbers = l.learns.all.numbers; fulls = l.learns.all.fulls; swept = l.learns.all.swept; rebalances = l.learns.all.rebalances };
} y

-- a value was read under the pin by which its key was found, and the pin undone
pub pinned_again : (z : Sizes) (call : ℕ) (key : List ℕ) (h g : ℕ) (v w q x u : PassState) → PinsKey z call key h g v w → OnlyLearns z call w q → OnlyLoads z call q x → MeetsMore z call (with_pin None x) u → IsReady call v → IsReadyAgain call v u
pinned_again z call key h g v w q x u p reading loads undone y = let l = learned_both z call w q u (learned_only z call w q reading) (learned_both z call q x u (learned_met z call q x q.headers.pin (loads_meet z call q x loads)) (learned_met z call x u None undone)) in
    let all = learns_both call v w u p.learns l.learns in
    refused_again call v u record {
      learns = all;
      holds = record {
        blocks = l.blocks ∙ p.blocks;
        headers = ap (λ (t : PassState). t.headers) undone.after ∙ (ap (λ (a : HeaderHolds). record a { pin = None }) (ap (λ (t : PassState). t.headers) loads.loads.after ∙ (reading.headers ∙ p.headers)) ∙ ap (λ (t : PassState). t.headers) (unpinned_is v (ap (λ (a : HeaderHolds). a.pin) y.idle.headers)));
        rooms = l.rooms ∙ p.rooms;
        numbers = all.all.numbers;
        fulls = all.all.fulls;
        swept = all.all.swept;
        rebalances = all.all.rebalances;
      };
    } y

-- or no value was found
pub absent_again : (z : Sizes) (call : ℕ) (key : List ℕ) (at : ℕ) (v w : PassState) → AbsentAt z call key at v w → IsReady call v → IsReadyAgain call v w
absent_again z call key at v w f y = replied call key Get replies.Absent at v w f.replies y
