-- What a call found stands in what its pass has found since.
use Rattle.std.proofs.Common.{◌≡◌, ℕ, Bool, true, false, List, Option, Some, sym, subst, ◌∙◌}
use Rattle.std.specs.Prelude.{MatchBool}
use Rattle.std.proofs.lemmas.List.{append_cancel_left}
use Rattle.oak_model.specs.declared.cells.CellReply.{CellReply}
use Rattle.oak_model.specs.declared.replies.Reply.{Reply}
use Rattle.oak_model.specs.declared.replies.Reply.TheVariants as replies
use Rattle.oak_model.specs.declared.replies.Wrote.TheVariants as wrote
use Rattle.oak_model.specs.Counts.{Begins, Each, Has}
use Rattle.oak_model.proofs.MemberLaws.{each_has}
use Rattle.oak_core.specs.declared.states.PassState.{PassState}
use Rattle.oak_core.specs.declared.states.Sight.{Sight}
use Rattle.oak_core.specs.CallSteps.{SightsMore}
use Rattle.oak_core.specs.CountReads.{SightedBare}
use Rattle.oak_core.specs.Sights.{SightedSince}
use Rattle.oak_core.proofs.known.PinsKnown.{has_first, has_later}
use Rattle.oak_script.specs.declared.scripts.Call.{Call}
use Rattle.oak_script.specs.declared.scripts.Call.TheVariants.{Put, Get, PutNew, Compute, Upsert, Remove, Hold, Look, Scan, Back}
use Rattle.oak_run.specs.Closing.{Closing, WasFound, WasFoundBefore}
use Rattle.oak_run.specs.Findings.{NumbersFound, RemovalFound}
use Rattle.oak_run.specs.Shown.{SightedIn}
use Rattle.oak_run.specs.Told.{Ask, Tells, ask_of, makes_write, reply_at}

-- a number that was found in the call
pub sighted_by : (call k at : ℕ) (v w : PassState) → SightsMore call v w → SightedSince k at v.findings w.findings → SightedIn call k at false w.findings.sights
sighted_by call k at v w s f = record {
  sight = f.2.sight;
  there = subst (λ (l : List Sight). Has f.2.sight l) (sym f.1) (has_later v.findings.sights f.0 f.2.sight f.2.there);
  call_is = each_has (λ (x : Sight). x.call ≡ call) f.0 f.2.sight (subst (λ (l : List Sight). Each (λ (x : Sight). x.call ≡ call) l) (append_cancel_left v.findings.sights s.more f.0 (sym s.sights ∙ f.1)) s.calls) f.2.there;
  just = f.2.just;
  bare_is = λ e. absurd cc;
}

-- and one at which the key had no entry
pub bare_by : (call k at : ℕ) (v w : PassState) → SightedBare call k at v w → SightedIn call k at true w.findings.sights
bare_by call k at v w f = record {
  sight = f.sighted.sight;
  there = subst (λ (l : List Sight). Has f.sighted.sight l) (sym f.sights) (has_later v.findings.sights f.more f.sighted.sight f.sighted.there);
  call_is = each_has (λ (x : Sight). x.call ≡ call) f.more f.sighted.sight f.calls f.sighted.there;
  just = f.sighted.just;
  bare_is = λ e. f.sighted.bare;
}

-- it stands in every longer list
pub sighted_more : (call k at : ℕ) (bare : Bool) (a b : List Sight) → Begins a b → SightedIn call k at bare a → SightedIn call k at bare b
sighted_more call k at bare a b m f = record {
  sight = f.sight;
  there = subst (λ (l : List Sight). Has f.sight l) (sym m.1) (has_first a m.0 f.sight f.there);
  call_is = f.call_is;
  just = f.just;
  bare_is = f.bare_is;
}

-- ---- what a reply on a key tells of it

-- the number that it tells, or the one before that of a write
pub numbers_told : (c : Closing) (thread n : ℕ) (a : Ask) (word : CellReply) (y : Reply) → Tells a.key y word → MatchBool (makes_write y) (WasFoundBefore c thread n a.key (reply_at y)) (WasFound c thread n a.key (reply_at y)) → NumbersFound c thread n (Some a) y
numbers_told c thread n a word (replies.Wrote (wrote.Full lack)) tells f = tt
numbers_told c thread n a word (replies.Wrote (wrote.New at)) tells f = f
numbers_told c thread n a word (replies.Wrote (wrote.Over at)) tells f = f
numbers_told c thread n a word (replies.Wrote (wrote.Kept at)) tells f = f
numbers_told c thread n a word (replies.Wrote (wrote.Done at)) tells f = f
numbers_told c thread n a word (replies.Wrote (wrote.Removed at)) tells f = f
numbers_told c thread n a word (replies.Wrote (wrote.Absent at)) tells f = f
numbers_told c thread n a word (replies.Value key value at) tells f = subst (λ (k : List ℕ). WasFound c thread n k at) (sym tells.0) f
numbers_told c thread n a word (replies.Held at) tells f = f
numbers_told c thread n a word replies.Gone tells f = tt
numbers_told c thread n a word replies.Unheld tells f = tt
numbers_told c thread n a word (replies.Pairs pairs) tells f = absurd tells

-- a call on a key finds no life over
pub ask_removal : (c : Closing) (thread n : ℕ) (names : List ℕ → Option Rattle.oak_run.specs.Views.View) (call : Call) (a : Ask) (y : Reply) → ask_of call ≡ Some a → RemovalFound c thread n names call y
ask_removal c thread n names (Put k v) a y e = tt
ask_removal c thread n names (Get k) a y e = tt
ask_removal c thread n names (PutNew k v) a y e = tt
ask_removal c thread n names (Compute k r m) a y e = tt
ask_removal c thread n names (Upsert k v r m) a y e = tt
ask_removal c thread n names (Remove k) a y e = tt
ask_removal c thread n names (Hold b k) a y e = tt
ask_removal c thread n names (Look b) a y e = absurd cc
ask_removal c thread n names (Scan low high) a y e = tt
ask_removal c thread n names (Back low high) a y e = tt
