-- A reply after tries is a reply from before them on.
use Rattle.std.proofs.Common.{◌≡◌, ℕ, Bool, true, false, List, [], ◌∷◌, ◌++◌, length, refl, ap, ◌∙◌, subst, arith}
use Rattle.oak_model.specs.declared.cells.CellCall.{CellCall}
use Rattle.oak_model.specs.declared.cells.CellReply.{CellReply}
use Rattle.oak_model.specs.declared.cells.CellReply.TheVariants as replies
use Rattle.oak_model.specs.declared.replies.Lack.{Lack}
use Rattle.oak_model.specs.declared.replies.Wrote.{Wrote}
use Rattle.oak_model.specs.declared.replies.Wrote.TheVariants.{New, Over, Kept, Done, Removed, Absent, Full}
use Rattle.oak_model.specs.Cell.{is_write}
use Rattle.oak_model.specs.Fits.{ReplyFits}
use Rattle.oak_model.specs.KeyNumber.{key_number}
use Rattle.oak_model.specs.Limits.{Sizes}
use Rattle.oak_model.proofs.Lists.{begins_length}
use Rattle.oak_core.specs.declared.states.KeyedWrite.{KeyedWrite}
use Rattle.oak_core.specs.declared.states.Numbers.{Numbers}
use Rattle.oak_core.specs.declared.states.PassState.{PassState}
use Rattle.oak_core.specs.KeyHistories.{writes_of}
use Rattle.oak_core.specs.PassState.{HoldsNothing, seen_of}
use Rattle.oak_core.specs.RoomLacks.{ClaimsFull}
use Rattle.oak_core.proofs.calls.CallSteps.{sights_same}
use Rattle.oak_core.proofs.covers.FullClaims.{claims_both, claims_none}
use Rattle.point_ops.specs.Parts.{WroteFits}
use Rattle.point_ops.specs.Replies.{FoundForReply, MineAfter, RepliesAt}
use Rattle.point_ops.proofs.Composed.{sighted_in}
use Rattle.oak_map.specs.Replying.{AnswersFull, MapReplies, PutFits, Tries}
use Rattle.oak_map.proofs.RepliesSince.{goes_both}
use Rattle.oak_map.proofs.Trying.{claims_kept, claims_then, holds_on, holds_on_both, idle_on}

module _ (z : Sizes) (call : ℕ) (u v w : PassState) (r : Tries z call u v) where
  found_behind : (b : Bool) (k at : ℕ) → FoundForReply b k at v w → FoundForReply b k at u w
  found_behind false k at f = sighted_in call u v w w r.goes.sights (sights_same call w w refl) k at f
  found_behind true k at f = (f.0, f.1, sighted_in call u v w w r.goes.sights (sights_same call w w refl) k f.0 f.2)

  mine_behind : (b : Bool) (k at : ℕ) → MineAfter b call k at v w → MineAfter b call k at u w
  mine_behind false k at e = e ∙ r.mine
  mine_behind true k at m = (m.0, m.1 ∙ ap (λ (l : List KeyedWrite). l ++ m.0 ∷ []) r.mine, m.2, m.3, m.4)

  replies_behind : (key : List ℕ) (ask : CellCall) (reply : CellReply) (at : ℕ) → RepliesAt call key ask reply at v w → MapReplies call key ask reply at u w
  replies_behind key ask reply at x = record {
    goes = goes_both call u v w r.goes x.goes;
    known = x.known;
    fits = subst (λ (n : ℕ). ReplyFits (writes_of (seen_of (key_number key) w.knowledge)) n call ask reply (length (seen_of (key_number key) w.knowledge))) (ap (λ (n : Numbers). n.number) r.holds.numbers) x.fits;
    later = λ e. let before = begins_length (seen_of (key_number key) u.knowledge) (seen_of (key_number key) v.knowledge) (r.goes.seen (key_number key)) in let behind = x.later e in omega arith;
    found = found_behind (is_write reply) (key_number key) at x.found;
    mine = mine_behind (is_write reply) (key_number key) at x.mine;
    holds = holds_on_both u v w r.holds (holds_on v w x.holds);
  }

  -- by the answer
  pub put_fits : (y : Wrote) (key : List ℕ) (ask : CellCall) → WroteFits y call key ask v w → PutFits y z call key ask u w
  put_fits (New at) key ask f = replies_behind key ask replies.New at f
  put_fits (Over at) key ask f = replies_behind key ask replies.Over at f
  put_fits (Kept at) key ask f = replies_behind key ask replies.Kept at f
  put_fits (Done at) key ask f = replies_behind key ask replies.Done at f
  put_fits (Removed at) key ask f = replies_behind key ask replies.Removed at f
  put_fits (Absent at) key ask f = replies_behind key ask replies.Absent at f
  put_fits (Full lack) key ask f = absurd f

  -- the reply claimed no room, so each that the call claimed, its tries claimed
  claims_behind : (key : List ℕ) (ask : CellCall) (reply : CellReply) (at : ℕ) → RepliesAt call key ask reply at v w → ClaimsFull z u w
  claims_behind key ask reply at x = claims_then z call u v w r.goes.met x.goes.met r.claims (claims_kept z v w x.holds.rebalances)

  pub put_claims : (y : Wrote) (key : List ℕ) (ask : CellCall) → WroteFits y call key ask v w → ClaimsFull z u w
  put_claims (New at) key ask f = claims_behind key ask replies.New at f
  put_claims (Over at) key ask f = claims_behind key ask replies.Over at f
  put_claims (Kept at) key ask f = claims_behind key ask replies.Kept at f
  put_claims (Done at) key ask f = claims_behind key ask replies.Done at f
  put_claims (Removed at) key ask f = claims_behind key ask replies.Removed at f
  put_claims (Absent at) key ask f = claims_behind key ask replies.Absent at f
  put_claims (Full lack) key ask f = absurd f

-- nor did the noting of a call that gave up
pub noted_claims : (z : Sizes) (call : ℕ) (key : List ℕ) (ask : CellCall) (lack : Lack) (v w : PassState) → AnswersFull z call key ask lack v w → ClaimsFull z v w
noted_claims z call key ask lack v w g = let e = g.notes.after in claims_both z v g.last w (g.tries.goes.met.more, g.tries.goes.met.met) (_ ∷ [], ap (λ (x : PassState). x.findings.met) e) g.tries.claims (claims_none z g.last w (ap (λ (x : PassState). x.findings.rebalances.claims) e))

-- behind it the pass holds nothing, as before
pub put_idle : (z : Sizes) (call : ℕ) (key : List ℕ) (ask : CellCall) (y : Wrote) (v w : PassState) → HoldsNothing v → PutFits y z call key ask v w → HoldsNothing w
put_idle z call key ask (New at) v w idle f = idle_on v w f.holds idle
put_idle z call key ask (Over at) v w idle f = idle_on v w f.holds idle
put_idle z call key ask (Kept at) v w idle f = idle_on v w f.holds idle
put_idle z call key ask (Done at) v w idle f = idle_on v w f.holds idle
put_idle z call key ask (Removed at) v w idle f = idle_on v w f.holds idle
put_idle z call key ask (Absent at) v w idle f = idle_on v w f.holds idle
put_idle z call key ask (Full lack) v w idle f = let i = idle_on v f.last f.tries.holds idle in let e = f.notes.after in record {
  hand = ap (λ (x : PassState). x.numbers.hand) e ∙ i.hand;
  blocks = ap (λ (x : PassState). x.blocks) e ∙ i.blocks;
  headers = ap (λ (x : PassState). x.headers) e ∙ i.headers;
  rooms = ap (λ (x : PassState). x.rooms) e ∙ i.rooms;
}

-- it is alone if it was
pub put_numbers : (z : Sizes) (call : ℕ) (key : List ℕ) (ask : CellCall) (y : Wrote) (v w : PassState) → PutFits y z call key ask v w → w.numbers ≡ v.numbers
put_numbers z call key ask (New at) v w f = f.holds.numbers
put_numbers z call key ask (Over at) v w f = f.holds.numbers
put_numbers z call key ask (Kept at) v w f = f.holds.numbers
put_numbers z call key ask (Done at) v w f = f.holds.numbers
put_numbers z call key ask (Removed at) v w f = f.holds.numbers
put_numbers z call key ask (Absent at) v w f = f.holds.numbers
put_numbers z call key ask (Full lack) v w f = ap (λ (x : PassState). x.numbers) f.notes.after ∙ f.tries.holds.numbers
