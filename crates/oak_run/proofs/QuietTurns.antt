-- The turn of a call that wrote and refused nothing: what it leaves of the pass, and what is owed still.
use Rattle.std.proofs.Common.{◌≡◌, ℕ, Bool, true, false, cond, ◌&&◌, List, [], ◌∷◌, Option, refl, sym, ◌∙◌, append-nil}
use Rattle.std.specs.Prelude.{if◌then◌else◌}
use Rattle.oak_model.specs.Limits.{Sizes}
use Rattle.oak_core.specs.declared.states.KeyedWrite.{KeyedWrite}
use Rattle.oak_core.specs.declared.states.PassState.{PassState}
use Rattle.oak_core.specs.PassState.{of_key}
use Rattle.oak_core.proofs.calls.CallSteps.{begins_same}
use Rattle.point_ops.specs.Replies.{Refuses}
use Rattle.oak_run.specs.Answers.{AnswerFits, Mark, asks_for}
use Rattle.oak_run.specs.Behind.{GoesBehind, histories}
use Rattle.oak_run.specs.Findings.{FindingFits}
use Rattle.oak_run.specs.MapTurns.{OnClosing, StaysBetween, Turned}
use Rattle.oak_run.specs.Refusals.{RefusalFits}
use Rattle.oak_run.specs.Scans.{ScanTurnFits}
use Rattle.oak_run.specs.Told.{Ask, ask_of, makes_write, reply_at}
use Rattle.oak_run.specs.Turn.{Turn}
use Rattle.oak_run.specs.Views.{Names, ViewFits}

-- what is owed of a turn of n, beside what its pass tells
pub record Owes (z : Sizes) (n : ℕ) (names : Names) (t : Turn) (v w : PassState) : Type 0 where
  pub order : StaysBetween v w t
  pub answers : (hs : ℕ → List KeyedWrite) → GoesBehind w hs → AnswerFits (histories hs) v.numbers.number n t
  pub view : (hs : ℕ → List KeyedWrite) → GoesBehind w hs → ViewFits (histories hs) names t t.call
  pub scan : (hs : ℕ → List KeyedWrite) → GoesBehind w hs → ScanTurnFits (histories hs) t t.call
  pub refusal : OnClosing z w (λ c. RefusalFits c v.numbers.number n t t.reply)
  pub finding : OnClosing z w (λ c. FindingFits c v.numbers.number n names t)

no_mark : (q : List ℕ) (o : Option Ask) (b : Bool) (m : Mark) → b ≡ false → (let none : List Mark = [] in none ≡ (if asks_for q o && b then m ∷ [] else []))
no_mark q o b m e = by (asks_for q o) b e
  where
    by : (x y : Bool) → y ≡ false → (let none : List Mark = [] in none ≡ cond (x && y) (m ∷ []) [])
    by true true e = absurd cc
    by true false e = refl
    by false y e = refl

pub quiet_turned : (z : Sizes) (n : ℕ) (names : Names) (t : Turn) (v w : PassState) → Refuses n v w → makes_write t.reply ≡ false → Owes z n names t v w → Turned z n names t v w
unfolding of_key
quiet_turned z n names t v w r quiet o = record {
  extends = r.learns.all.seen;
  remembers = r.learns.all.remembers;
  met = r.learns.met;
  finds = record {
    met = (r.learns.met.more, r.learns.met.met);
    sights = (r.learns.sights.more, r.learns.sights.sights);
    gones = r.learns.all.gones;
    fulls = begins_same v.findings.fulls w.findings.fulls r.learns.all.fulls;
    swept = begins_same v.findings.swept w.findings.swept r.learns.all.swept;
  };
  loaded = r.learns.all.loaded;
  numbers = r.learns.all.numbers;
  order = o.order;
  wrote = [];
  calls = tt;
  mine = r.learns.all.mine ∙ sym (append-nil v.knowledge.mine);
  marks = λ q is. no_mark q (ask_of t.call) (makes_write t.reply) (record { stamp = reply_at t.reply; caller = v.numbers.number; call = n }) quiet;
  answers = o.answers;
  view = o.view;
  scan = o.scan;
  refusal = o.refusal;
  finding = o.finding;
}
