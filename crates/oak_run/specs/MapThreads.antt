-- What a thread's calls on the map came to: v is the state of its pass behind them.
use Rattle.std.specs.Prelude.{◌≡◌, ℕ, ◌≤◌, true, List, map, Some}
use Rattle.std.specs.List.{AllByRecursion}
use Rattle.oak_model.specs.declared.replies.Reply.{Reply}
use Rattle.oak_model.specs.Key.{is_key}
use Rattle.oak_model.specs.KeyNumber.{key_number}
use Rattle.oak_model.specs.Limits.{Sizes}
use Rattle.oak_core.specs.declared.states.KeyedWrite.{KeyedWrite}
use Rattle.oak_core.specs.declared.states.PassState.{PassState}
use Rattle.oak_core.specs.KeyHistories.{writes_of}
use Rattle.oak_core.specs.PassState.{of_key}
use Rattle.oak_script.specs.declared.scripts.Call.{Call}
use Rattle.oak_script.specs.Text.{CallsAnswered}
use Rattle.scan_cursor.specs.Fitting.{seen_length}
use Rattle.oak_run.specs.Answers.{AnswersFit, mark_of, marks}
use Rattle.oak_run.specs.Behind.{GoesBehind, histories}
use Rattle.oak_run.specs.Findings.{FindingsFit}
use Rattle.oak_run.specs.MapTurns.{OnClosing}
use Rattle.oak_run.specs.Order.{Ordered}
use Rattle.oak_run.specs.Refusals.{RefusalsFit}
use Rattle.oak_run.specs.Scans.{ScansFit}
use Rattle.oak_run.specs.Turn.{Turn}
use Rattle.oak_run.specs.Views.{ViewsFit, no_names}

-- no floor is behind what the pass has seen
abbrev pub FloorsSeen : PassState → Turn → Type 0
FloorsSeen v t = (q : List ℕ) (r : ℕ) → t.floors q ≡ Some r → r ≤ seen_length v q

-- The turns fit all histories and findings that go on from what the pass saw and found, and its writes are those that they tell.
pub record ThreadFits (z : Sizes) (v : PassState) (calls : List Call) (replies : List Reply) : Type 0 where
  pub turns : List Turn
  pub of_calls : map (λ (t : Turn). t.call) turns ≡ calls
  pub of_replies : map (λ (t : Turn). t.reply) turns ≡ replies
  pub answered : CallsAnswered calls replies
  pub order : Ordered turns
  pub floors : AllByRecursion (FloorsSeen v) turns
  pub answers : (hs : ℕ → List KeyedWrite) → GoesBehind v hs → AnswersFit (histories hs) v.numbers.number 1 turns
  pub views : (hs : ℕ → List KeyedWrite) → GoesBehind v hs → ViewsFit (histories hs) no_names turns
  pub scans : (hs : ℕ → List KeyedWrite) → GoesBehind v hs → ScansFit (histories hs) turns
  pub once : (q : List ℕ) → is_key q ≡ true → marks q v.numbers.number 1 turns ≡ map mark_of (writes_of (of_key (key_number q) v.knowledge.mine))
  pub refusals : OnClosing z v (λ c. RefusalsFit c v.numbers.number 1 turns)
  pub findings : OnClosing z v (λ c. FindingsFit c v.numbers.number 1 no_names turns)
