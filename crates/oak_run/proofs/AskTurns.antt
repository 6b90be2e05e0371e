-- The turn of a call on a key that replied.
use Rattle.std.proofs.Common.{◌≡◌, ℕ, ◌<◌, ◌≤◌, Bool, true, false, List, [], ◌∷◌, ◌&&◌, cond, length, map, Option, Some, sym, ap, subst, ◌∙◌, arith}
use Rattle.std.specs.Prelude.{MatchBool, MatchOption, ⊤}
use Rattle.oak_model.specs.declared.cells.CellCall.{CellCall}
use Rattle.oak_model.specs.declared.cells.CellReply.{CellReply}
use Rattle.oak_model.specs.declared.replies.Reply.{Reply}
use Rattle.oak_model.specs.declared.shapes.Usage.{Usage}
use Rattle.oak_model.specs.Cell.{is_write}
use Rattle.oak_model.specs.Counts.{Begins}
use Rattle.oak_model.specs.Fits.{ReplyFits}
use Rattle.oak_model.specs.History.{History, place_of}
use Rattle.oak_model.specs.Key.{is_key}
use Rattle.oak_model.specs.KeyNumber.{key_number}
use Rattle.oak_model.specs.Limits.{Sizes}
use Rattle.oak_model.proofs.Lists.{begins_length}
use Rattle.oak_core.specs.declared.states.Findings.{Findings}
use Rattle.oak_core.specs.declared.states.KeyedWrite.{KeyedWrite}
use Rattle.oak_core.specs.declared.states.Numbers.{Numbers}
use Rattle.oak_core.specs.declared.states.PassState.{PassState}
use Rattle.oak_core.specs.KeyHistories.{writes_of}
use Rattle.oak_core.specs.PassState.{of_key, seen_of}
use Rattle.oak_core.specs.Sights.{SightedSince}
use Rattle.oak_core.proofs.calls.CallSteps.{begins_same}
use Rattle.point_ops.specs.Replies.{FoundForReply}
use Rattle.oak_map.specs.Replying.{MapReplies}
use Rattle.scan_cursor.specs.Fitting.{seen_length}
use Rattle.oak_script.specs.declared.scripts.Call.{Call}
use Rattle.oak_run.specs.Answers.{AnswerFits, CellAnswer, KeyAnswer, asks_for, mark_of, writes_key}
use Rattle.oak_run.specs.Behind.{GoesBehind, histories}
use Rattle.oak_run.specs.Closing.{Closing, WasFound, WasFoundBefore}
use Rattle.oak_run.specs.Told.{TellsWord}
use Rattle.oak_run.specs.Findings.{FindingFits, NumbersFound}
use Rattle.oak_run.specs.MapTurns.{StaysBetween, Turned}
use Rattle.oak_run.specs.Shown.{FindsMore, closing_by}
use Rattle.oak_run.specs.Told.{Ask, ask_of, reply_at}
use Rattle.oak_run.specs.Turn.{PlacedNowhere, Turn, only_at}
use Rattle.oak_run.specs.Views.{Names}
use Rattle.oak_run.proofs.AnsweredBehind.{behind_fits, key_history}
use Rattle.oak_run.proofs.RefusalLaws.{refusal-none}
use Rattle.oak_run.proofs.OwnMarks.{MarkedSo, marks_of}
use Rattle.oak_run.proofs.SightedCalls.{ask_removal, numbers_told, sighted_by, sighted_more}
use Rattle.oak_run.proofs.TurnLaws.{ask-scans, ask-views, only-here}

-- a turn at this place of the key alone
abbrev pub key_turn : Call → Reply → List ℕ → ℕ → Turn
key_turn c y key place = record { call = c; reply = y; places = only_at key place; floors = only_at key place }

-- how many writes of a key the pass has seen
pub seen_here : (v : PassState) (key : List ℕ) → is_key key ≡ true → seen_length v key ≡ length (seen_of (key_number key) v.knowledge)
seen_here v key is = ap (λ (b : Bool). cond b (length (seen_of (key_number key) v.knowledge)) 0) is

module _ (z : Sizes) (n : ℕ) (names : Names) (c : Call) (key : List ℕ) (cell : CellCall) (y : Reply) (word : CellReply) (at : ℕ) (v w : PassState) (is : is_key key ≡ true) (asks : ask_of c ≡ Some (record { key = key; cell = cell })) (r : MapReplies n key cell word at v w) (said : TellsWord key word at y) where
  abbrev k : ℕ
  k = key_number key

  abbrev place : ℕ
  place = length (seen_of k w.knowledge)

  abbrev a : Ask
  a = record { key = key; cell = cell }

  abbrev t : Turn
  t = key_turn c y key place

  -- ---- the answer

  place_there : (hs : ℕ → List KeyedWrite) → GoesBehind w hs → place_of (histories hs key) at ≡ place
  place_there hs b = ap (λ (h : History). place_of h at) (key_history hs key is) ∙ b.places k at place r.known

  told_there : (hs : ℕ → List KeyedWrite) → GoesBehind w hs → place_of (histories hs key) (reply_at y) ≡ place
  told_there hs b = ap (λ (m : ℕ). place_of (histories hs key) m) said.number ∙ place_there hs b

  answer : (hs : ℕ → List KeyedWrite) → GoesBehind w hs → AnswerFits (histories hs) v.numbers.number n t
  answer hs b = subst (λ (o : Option Ask). MatchOption o ⊤ (λ x. CellAnswer (histories hs) v.numbers.number n x t)) (sym asks)
      (subst (λ (f : Bool). MatchBool f (PlacedNowhere t) (KeyAnswer (histories hs) v.numbers.number n a t)) (sym said.not_full) (record {
        word = word;
        tells = said.tells;
        fits = subst (λ (x : History × ℕ). ReplyFits x.0 v.numbers.number n cell word x.1) (λ i. (sym (key_history hs key is) i, sym (told_there hs b) i)) (behind_fits w hs k v.numbers.number n place cell word b r.fits);
        placed = record { places = λ q. ap (λ (m : ℕ). only_at key m q) (sym (told_there hs b)); floors = λ q. ap (λ (m : ℕ). only_at key m q) (sym (told_there hs b)) };
      }))

  -- ---- its place

  at_place : (P : List ℕ → ℕ → Type 0) → P key place → (q : List ℕ) (s : ℕ) → only_at key place q ≡ Some s → P q s
  at_place P x q s e = let f = only-here key place q s e in subst (λ (i : List ℕ × ℕ). P i.0 i.1) (λ i. (f.0 i, f.1 i)) x

  order : StaysBetween v w t
  order = record {
    places = at_place (λ q s. seen_length v q ≤ s) (let e = seen_here v key is in let l = begins_length (seen_of k v.knowledge) (seen_of k w.knowledge) (r.goes.seen k) in omega arith);
    later = λ q s e writes. at_place (λ q s. seen_length v q < s) (let e = seen_here v key is in let l = r.later (sym said.writes ∙ writes) in omega arith) q s e;
    floors = at_place (λ q s. s ≤ seen_length w q) (let e = seen_here w key is in omega arith);
  }

  -- ---- its write

  own : MarkedSo n key at (is_write word) v w
  own = marks_of n key cell word at v w is (is_write word) r.fits r.mine

  marks : (q : List ℕ) → is_key q ≡ true → map mark_of (writes_of (of_key (key_number q) own.wrote)) ≡ cond (writes_key q t) (record { stamp = reply_at y; caller = v.numbers.number; call = n } ∷ []) []
  marks q j = own.marks q j ∙ (λ i. cond (asks_for q (sym asks i) && sym said.writes i) (record { stamp = sym said.number i; caller = v.numbers.number; call = n } ∷ []) [])

  -- ---- what it found

  finds : FindsMore v.findings w.findings
  finds = record { met = (r.goes.met.more, r.goes.met.met); sights = (r.goes.sights.more, r.goes.sights.sights); gones = r.goes.gones; fulls = begins_same v.findings.fulls w.findings.fulls r.holds.fulls; swept = r.holds.swept }

  module _ (by : ℕ → Findings) (hs : ℕ → List KeyedWrite) (used : Usage) (retired open_rooms : ℕ) (behind : GoesBehind w hs) (more : FindsMore w.findings (by w.numbers.number)) where
    abbrev shown : Closing
    shown = closing_by by hs used z retired open_rooms

    abbrev me : ℕ
    me = v.numbers.number

    sights_here : Begins w.findings.sights (by me).sights
    sights_here = subst (λ (x : Numbers). Begins w.findings.sights (by x.number).sights) r.holds.numbers more.sights

    was_found : (m : ℕ) → SightedSince k m v.findings w.findings → WasFound shown me n key m
    was_found m f = (false, sighted_more n k m false w.findings.sights (by me).sights sights_here (sighted_by n k m v w r.goes.sights f))

    found : (b : Bool) → FoundForReply b k at v w → MatchBool b (WasFoundBefore shown me n key at) (WasFound shown me n key at)
    found false f = was_found at f
    found true f = (f.0, (let e = f.1 in omega arith), was_found f.0 f.2)

    read_found : (b : Bool) → b ≡ false → FoundForReply b k at v w → WasFound shown me n key at
    read_found false e f = was_found at f
    read_found true e f = absurd cc

    finding : FindingFits shown me n names t
    finding = record {
      numbers = subst (λ (o : Option Ask). NumbersFound shown me n o y) (sym asks)
          (numbers_told shown me n a word y said.tells (subst (λ (x : Bool × ℕ). MatchBool x.0 (WasFoundBefore shown me n key x.1) (WasFound shown me n key x.1)) (λ i. (sym said.writes i, sym said.number i)) (found (is_write word) r.found)));
      absences = λ reads q s j. at_place (λ q s. (m : ℕ) × WasFound shown me n q m × (place_of (histories hs q) m ≡ s)) (at, read_found (is_write word) (sym said.writes ∙ reads) r.found, place_there hs behind) q s;
      removal = ask_removal shown me n names c a y asks;
    }

  pub reply_turned : Turned z n names t v w
  reply_turned = record {
    extends = r.goes.seen;
    remembers = r.goes.remembers;
    met = r.goes.met;
    finds = finds;
    loaded = r.goes.loaded;
    numbers = r.holds.numbers;
    order = order;
    wrote = own.wrote;
    calls = own.calls;
    mine = own.mine;
    marks = marks;
    answers = answer;
    view = λ hs b. ask-views (histories hs) names t c a asks;
    scan = λ hs b. ask-scans (histories hs) t c a asks;
    refusal = λ by hs used retired open_rooms b m. refusal-none (closing_by by hs used z retired open_rooms) v.numbers.number n t y said.not_full;
    finding = finding;
  }
