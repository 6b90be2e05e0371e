-- One call of a thread on the map: v is the state of its pass before, w the one behind, and t the turn.
use Rattle.std.specs.Prelude.{◌≡◌, ℕ, ◌<◌, ◌≤◌, true, if◌then◌else◌, List, [], ◌∷◌, ◌++◌, length, map, take, Some, IsSome}
use Rattle.oak_model.specs.declared.shapes.Usage.{Usage}
use Rattle.oak_model.specs.Counts.{Begins, Each}
use Rattle.oak_model.specs.Key.{is_key}
use Rattle.oak_model.specs.KeyNumber.{key_number}
use Rattle.oak_model.specs.Limits.{Sizes}
use Rattle.oak_core.specs.declared.states.Findings.{Findings}
use Rattle.oak_core.specs.declared.states.KeyedWrite.{KeyedWrite}
use Rattle.oak_core.specs.declared.states.PassState.{PassState}
use Rattle.oak_core.specs.CallSteps.{MetMore}
use Rattle.oak_core.specs.KeyHistories.{home_behind, state_behind, writes_of}
use Rattle.oak_core.specs.KeyReads.{home_of}
use Rattle.oak_core.specs.KnownPlaces.{Remembers}
use Rattle.oak_core.specs.PassState.{Extends, of_key, seen_of}
use Rattle.value_ops.specs.Views.{LoadedView, Viewed}
use Rattle.scan_cursor.specs.Fitting.{seen_length}
use Rattle.oak_run.specs.Answers.{AnswerFits, mark_of, writes_key}
use Rattle.oak_run.specs.Behind.{GoesBehind, histories}
use Rattle.oak_run.specs.Findings.{FindingFits}
use Rattle.oak_run.specs.Refusals.{RefusalFits}
use Rattle.oak_run.specs.Scans.{ScanTurnFits}
use Rattle.oak_run.specs.Shown.{FindsMore, closing_by}
use Rattle.oak_run.specs.Told.{makes_write, reply_at}
use Rattle.oak_run.specs.Turn.{Turn}
use Rattle.oak_run.specs.Views.{Names, View, ViewFits}

-- its places are not before what the pass had seen, and for a write behind that, and its floors not behind what it has seen then
pub record StaysBetween (v w : PassState) (t : Turn) : Type 0 where
  pub places : (q : List ℕ) (r : ℕ) → t.places q ≡ Some r → seen_length v q ≤ r
  pub later : (q : List ℕ) (r : ℕ) → t.places q ≡ Some r → makes_write t.reply ≡ true → seen_length v q < r
  pub floors : (q : List ℕ) (r : ℕ) → t.floors q ≡ Some r → r ≤ seen_length w q

-- P holds of what any passes show, over a table of these sizes, whose histories and findings go on from the pass's own
abbrev pub OnClosing : Sizes → PassState → (Rattle.oak_run.specs.Closing.Closing → Type 0) → Type 0
OnClosing z w P = (by : ℕ → Findings) (hs : ℕ → List KeyedWrite) (used : Usage) (retired open_rooms : ℕ) → GoesBehind w hs → FindsMore w.findings (by w.numbers.number) → P (closing_by by hs used z retired open_rooms)

-- The turn of the n-th call fits all histories and findings that go on from what the pass saw and found then.
pub record Turned (z : Sizes) (n : ℕ) (names : Names) (t : Turn) (v w : PassState) : Type 0 where
  pub extends : Extends v w
  pub remembers : Remembers v.knowledge w.knowledge
  pub met : MetMore n v w
  pub finds : FindsMore v.findings w.findings
  pub loaded : Begins v.knowledge.loaded w.knowledge.loaded
  pub numbers : w.numbers ≡ v.numbers
  pub order : StaysBetween v w t
  pub wrote : List KeyedWrite
  pub mine : w.knowledge.mine ≡ v.knowledge.mine ++ wrote
  pub calls : Each (λ (x : KeyedWrite). x.write.call ≡ n) wrote
  pub marks : (q : List ℕ) → is_key q ≡ true → map mark_of (writes_of (of_key (key_number q) wrote)) ≡ (if writes_key q t then record { stamp = reply_at t.reply; caller = v.numbers.number; call = n } ∷ [] else [])
  pub answers : (hs : ℕ → List KeyedWrite) → GoesBehind w hs → AnswerFits (histories hs) v.numbers.number n t
  pub view : (hs : ℕ → List KeyedWrite) → GoesBehind w hs → ViewFits (histories hs) names t t.call
  pub scan : (hs : ℕ → List KeyedWrite) → GoesBehind w hs → ScanTurnFits (histories hs) t t.call
  pub refusal : OnClosing z w (λ c. RefusalFits c v.numbers.number n t t.reply)
  pub finding : OnClosing z w (λ c. FindingFits c v.numbers.number n names t)

-- A view of the key stands for the life that the key had at the place, and the pass knows it.
pub record HoldsLife (z : Sizes) (v : PassState) (view : Viewed) (x : View) : Type 0 where
  pub key : view.key ≡ x.key
  pub is_key_is : is_key x.key ≡ true
  pub inside : view.header < z.headers
  pub loaded : LoadedView view v
  pub to : x.place ≤ length (seen_of (key_number x.key) v.knowledge)
  pub home : home_behind (take x.place (seen_of (key_number x.key) v.knowledge)) ≡ home_of view.header view.generation
  pub held : IsSome (state_behind (take x.place (seen_of (key_number x.key) v.knowledge)))
