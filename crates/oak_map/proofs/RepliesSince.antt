-- A reply after refusals is a reply from before them on, and refusals add up.
use Rattle.std.proofs.Common.{◌≡◌, ℕ, Bool, true, false, List, [], ◌∷◌, ◌++◌, length, refl, ap, ◌∙◌, subst, arith}
use Rattle.oak_model.specs.declared.cells.CellCall.{CellCall}
use Rattle.oak_model.specs.declared.cells.CellCall.TheVariants.{Compute, Get, Upsert}
use Rattle.oak_model.specs.declared.cells.CellReply.{CellReply}
use Rattle.oak_model.specs.declared.cells.CellReply.TheVariants as replies
use Rattle.oak_model.specs.declared.recipes.RecipeKind.{RecipeKind}
use Rattle.oak_model.specs.declared.replies.Wrote.{Wrote}
use Rattle.oak_model.specs.declared.replies.Wrote.TheVariants.{New, Over, Kept, Done, Removed, Absent, Full}
use Rattle.oak_model.specs.Cell.{is_write}
use Rattle.oak_model.specs.Fits.{ReplyFits}
use Rattle.oak_model.specs.KeyNumber.{key_number}
use Rattle.oak_model.specs.Limits.{Sizes}
use Rattle.oak_model.proofs.Lists.{begins_length, begins_trans}
use Rattle.oak_core.specs.declared.states.KeyedWrite.{KeyedWrite}
use Rattle.oak_core.specs.declared.states.Numbers.{Numbers}
use Rattle.oak_core.specs.declared.states.PassState.{PassState}
use Rattle.oak_core.specs.KeyHistories.{writes_of}
use Rattle.oak_core.specs.PassState.{seen_of}
use Rattle.oak_core.proofs.calls.CallSteps.{learns_both, met_both, sights_both, sights_same}
use Rattle.oak_core.proofs.known.Remembering.{extends_then, remembers_then}
use Rattle.point_ops.specs.Gets.{GotFits}
use Rattle.point_ops.specs.Parts.{WroteFits}
use Rattle.point_ops.specs.Replies.{FoundForReply, GoesOn, HoldsAsBefore, MineAfter, Refuses, RepliesAt}
use Rattle.point_ops.specs.declared.gets.Got.{Got}
use Rattle.point_ops.specs.declared.gets.Got.TheVariants as gots
use Rattle.point_ops.proofs.Composed.{sighted_in}
use Rattle.point_ops.proofs.ReplyLaws.{learns_on}

-- ---- what is held

pub holds_both : (u v w : PassState) → HoldsAsBefore u v → HoldsAsBefore v w → HoldsAsBefore u w
holds_both u v w a b = record {
  blocks = b.blocks ∙ a.blocks;
  headers = b.headers ∙ a.headers;
  rooms = b.rooms ∙ a.rooms;
  numbers = b.numbers ∙ a.numbers;
  fulls = b.fulls ∙ a.fulls;
  swept = b.swept ∙ a.swept;
  rebalances = b.rebalances ∙ a.rebalances;
}

-- ---- refusals

pub refuses_both : (call : ℕ) (u v w : PassState) → Refuses call u v → Refuses call v w → Refuses call u w
refuses_both call u v w a b = record { learns = learns_both call u v w a.learns b.learns; holds = holds_both u v w a.holds b.holds }

-- ---- a reply that came after refusals

pub goes_both : (call : ℕ) (u v w : PassState) → GoesOn call u v → GoesOn call v w → GoesOn call u w
goes_both call u v w a b = record {
  met = met_both call u v w a.met b.met;
  sights = sights_both call u v w a.sights b.sights;
  gones = begins_trans u.findings.gones v.findings.gones w.findings.gones a.gones b.gones;
  loaded = begins_trans u.knowledge.loaded v.knowledge.loaded w.knowledge.loaded a.loaded b.loaded;
  seen = extends_then u v w a.seen b.seen;
  remembers = remembers_then u.knowledge v.knowledge w.knowledge a.remembers b.remembers;
}

module _ (call : ℕ) (u v w : PassState) (r : Refuses call u v) where
  found_since : (b : Bool) (k at : ℕ) → FoundForReply b k at v w → FoundForReply b k at u w
  found_since false k at f = sighted_in call u v w w r.learns.sights (sights_same call w w refl) k at f
  found_since true k at f = (f.0, f.1, sighted_in call u v w w r.learns.sights (sights_same call w w refl) k f.0 f.2)

  mine_since : (b : Bool) (k at : ℕ) → MineAfter b call k at v w → MineAfter b call k at u w
  mine_since false k at e = e ∙ r.learns.all.mine
  mine_since true k at m = (m.0, m.1 ∙ ap (λ (l : List KeyedWrite). l ++ m.0 ∷ []) r.learns.all.mine, m.2, m.3, m.4)

  pub replies_since : (key : List ℕ) (ask : CellCall) (reply : CellReply) (at : ℕ) → RepliesAt call key ask reply at v w → RepliesAt call key ask reply at u w
  replies_since key ask reply at x = record {
    goes = goes_both call u v w (learns_on call u v r.learns) x.goes;
    known = x.known;
    fits = subst (λ (n : ℕ). ReplyFits (writes_of (seen_of (key_number key) w.knowledge)) n call ask reply (length (seen_of (key_number key) w.knowledge))) (ap (λ (n : Numbers). n.number) r.holds.numbers) x.fits;
    later = λ e. let before = begins_length (seen_of (key_number key) u.knowledge) (seen_of (key_number key) v.knowledge) (r.learns.all.seen (key_number key)) in let behind = x.later e in omega arith;
    found = found_since (is_write reply) (key_number key) at x.found;
    mine = mine_since (is_write reply) (key_number key) at x.mine;
    holds = holds_both u v w r.holds x.holds;
  }

  -- by the answer

  pub got_since : (y : Got) (z : Sizes) (key : List ℕ) → GotFits y z call key v w → GotFits y z call key u w
  got_since (gots.Absent at) z key f = replies_since key Get replies.Absent at f
  got_since (gots.View x) z key f = record { key_is = f.key_is; bytes = f.bytes; replies = replies_since key Get (replies.Holds f.bytes) x.at f.replies; life = f.life; knows = f.knows; loaded = f.loaded }

  pub wrote_since : (y : Wrote) (key : List ℕ) (ask : CellCall) → WroteFits y call key ask v w → WroteFits y call key ask u w
  wrote_since (New at) key ask f = replies_since key ask replies.New at f
  wrote_since (Over at) key ask f = replies_since key ask replies.Over at f
  wrote_since (Kept at) key ask f = replies_since key ask replies.Kept at f
  wrote_since (Done at) key ask f = replies_since key ask replies.Done at f
  wrote_since (Removed at) key ask f = replies_since key ask replies.Removed at f
  wrote_since (Absent at) key ask f = replies_since key ask replies.Absent at f
  wrote_since (Full lack) key ask f = absurd f

-- what is held behind an answer

pub got_holds : (y : Got) (z : Sizes) (call : ℕ) (key : List ℕ) (v w : PassState) → GotFits y z call key v w → HoldsAsBefore v w
got_holds (gots.Absent at) z call key v w f = f.holds
got_holds (gots.View x) z call key v w f = f.replies.holds

pub wrote_holds : (y : Wrote) (call : ℕ) (key : List ℕ) (ask : CellCall) (v w : PassState) → WroteFits y call key ask v w → HoldsAsBefore v w
wrote_holds (New at) call key ask v w f = f.holds
wrote_holds (Over at) call key ask v w f = f.holds
wrote_holds (Kept at) call key ask v w f = f.holds
wrote_holds (Done at) call key ask v w f = f.holds
wrote_holds (Removed at) call key ask v w f = f.holds
wrote_holds (Absent at) call key ask v w f = f.holds
wrote_holds (Full lack) call key ask v w f = absurd f

-- a compute of what its recipe was told is the same as long as that is told
pub compute_same : (k m : RecipeKind) (n p : ℕ) → k ≡ m → n ≡ p → Compute k n ≡ Compute m p
compute_same k m n p e f = ap (λ (x : RecipeKind). Compute x n) e ∙ ap (Compute m) f

-- and so is an upsert
pub upsert_same : (v : List ℕ) (k m : RecipeKind) (n p : ℕ) → k ≡ m → n ≡ p → Upsert v k n ≡ Upsert v m p
upsert_same v k m n p e f = ap (λ (x : RecipeKind). Upsert v x n) e ∙ ap (Upsert v m) f

-- told again and again
pub same_both : (A : Type 0) (a b c : A) → a ≡ b → b ≡ c → a ≡ c
same_both A a b c e f = e ∙ f
