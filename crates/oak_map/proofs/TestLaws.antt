-- What a call that puts leaves of a pass that is ready for it.
use Rattle.std.proofs.Common.{◌≡◌, ℕ, ◌≤◌, Bool, true, false, List, [], ◌∷◌, sym, ap, ◌∙◌, subst, arith}
use Rattle.oak_model.specs.declared.cells.CellCall.{CellCall}
use Rattle.oak_model.specs.declared.cells.CellReply.{CellReply}
use Rattle.oak_model.specs.declared.cells.CellReply.TheVariants as replies
use Rattle.oak_model.specs.declared.replies.Wrote.{Wrote}
use Rattle.oak_model.specs.declared.replies.Wrote.TheVariants.{New, Over, Kept, Done, Removed, Absent, Full}
use Rattle.oak_model.specs.Cell.{is_write}
use Rattle.oak_model.specs.Counts.{Begins, Each}
use Rattle.oak_model.specs.KeyNumber.{key_number}
use Rattle.oak_model.specs.Limits.{Sizes}
use Rattle.oak_model.proofs.Lists.{each_append}
use Rattle.oak_core.specs.declared.states.KeyedWrite.{KeyedWrite}
use Rattle.oak_core.specs.declared.states.Knowledge.{Knowledge}
use Rattle.oak_core.specs.declared.states.PassState.{PassState}
use Rattle.point_ops.specs.Replies.{MineAfter}
use Rattle.point_ops.specs.TestStates.{IsReady, IsReadyAgain, WroteBy}
use Rattle.oak_map.specs.Replying.{MapReplies, PutFits}
use Rattle.oak_map.proofs.AnsweredPuts.{put_idle, put_numbers}

-- of its own writes it has the same, or one more, which is of the call
wrote_after : (b : Bool) (call k at : ℕ) (v w : PassState) → MineAfter b call k at v w → WroteBy call v → WroteBy call w
wrote_after false call k at v w e wrote = subst (Each (λ (x : KeyedWrite). x.write.call ≤ call)) (sym e) wrote
wrote_after true call k at v w m wrote = subst (Each (λ (x : KeyedWrite). x.write.call ≤ call)) (sym m.1) (each_append (λ (x : KeyedWrite). x.write.call ≤ call) v.knowledge.mine (m.0 ∷ []) wrote (let e = m.3 in omega arith, tt))

-- what is loaded is kept, and the writes are of the call or of earlier ones
record Keeps (call : ℕ) (v w : PassState) : Type 0 where
  loaded : Begins v.knowledge.loaded w.knowledge.loaded
  wrote : WroteBy call w

replied : (call : ℕ) (key : List ℕ) (ask : CellCall) (reply : CellReply) (at : ℕ) (v w : PassState) → MapReplies call key ask reply at v w → WroteBy call v → Keeps call v w
replied call key ask reply at v w r wrote = record { loaded = r.goes.loaded; wrote = wrote_after (is_write reply) call (key_number key) at v w r.mine wrote }

put_keeps : (y : Wrote) (z : Sizes) (call : ℕ) (key : List ℕ) (ask : CellCall) (v w : PassState) → PutFits y z call key ask v w → WroteBy call v → Keeps call v w
put_keeps (New at) z call key ask v w f = replied call key ask replies.New at v w f
put_keeps (Over at) z call key ask v w f = replied call key ask replies.Over at v w f
put_keeps (Kept at) z call key ask v w f = replied call key ask replies.Kept at v w f
put_keeps (Done at) z call key ask v w f = replied call key ask replies.Done at v w f
put_keeps (Removed at) z call key ask v w f = replied call key ask replies.Removed at v w f
put_keeps (Absent at) z call key ask v w f = replied call key ask replies.Absent at v w f
put_keeps (Full lack) z call key ask v w f = λ wrote. let same : w.knowledge ≡ f.last.knowledge = ap (λ (x : PassState). x.knowledge) f.notes.after in record {
  loaded = subst (λ (q : Knowledge). Begins v.knowledge.loaded q.loaded) (sym same) f.tries.goes.loaded;
  wrote = subst (Each (λ (x : KeyedWrite). x.write.call ≤ call)) (sym (ap (λ (q : Knowledge). q.mine) same ∙ f.tries.mine)) wrote;
}

pub put_again : (y : Wrote) (z : Sizes) (call : ℕ) (key : List ℕ) (ask : CellCall) (v w : PassState) → PutFits y z call key ask v w → IsReady call v → IsReadyAgain call v w
put_again y z call key ask v w f r = let k = put_keeps y z call key ask v w f r.wrote in record {
  numbers = put_numbers z call key ask y v w f;
  loaded = k.loaded;
  ready = record { idle = put_idle z call key ask y v w r.idle f; wrote = k.wrote };
}
