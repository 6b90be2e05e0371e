-- A thread's turns on the map: before its first call, and with one more.
use Rattle.std.proofs.Common.{◌≡◌, ℕ, suc, ◌+◌, ◌<◌, ◌≤◌, Bool, true, false, cond, List, [], ◌∷◌, ◌++◌, length, map, refl, sym, ap, ◌∙◌, subst, arith}
use Rattle.std.specs.Bool.{OnTrue}
use Rattle.std.proofs.lemmas.List.{length-map, map_push}
use Rattle.oak_model.specs.declared.replies.Reply.{Reply}
use Rattle.oak_model.specs.History.{History}
use Rattle.oak_model.specs.Key.{is_key}
use Rattle.oak_model.specs.KeyNumber.{key_number}
use Rattle.oak_model.specs.Limits.{Sizes}
use Rattle.oak_core.specs.declared.states.KeyedWrite.{KeyedWrite}
use Rattle.oak_core.specs.declared.states.Numbers.{Numbers}
use Rattle.oak_core.specs.declared.states.PassState.{PassState}
use Rattle.oak_core.specs.KeyHistories.{writes_of}
use Rattle.oak_core.specs.PassState.{of_key}
use Rattle.oak_core.proofs.histories.WrittenHistories.{of_key-append}
use Rattle.oak_script.specs.declared.scripts.Call.{Call}
use Rattle.oak_script.specs.Text.{CanReply}
use Rattle.scan_cursor.specs.Fitting.{seen_length}
use Rattle.oak_run.specs.Answers.{AnswersFit, Mark, mark_of, marks, writes_key}
use Rattle.oak_run.specs.Behind.{GoesBehind, histories}
use Rattle.oak_run.specs.Closing.{Closing}
use Rattle.oak_run.specs.Findings.{FindingFits, FindingsFit}
use Rattle.oak_run.specs.MapThreads.{FloorsSeen, ThreadFits}
use Rattle.oak_run.specs.MapTurns.{OnClosing, StaysBetween, Turned}
use Rattle.oak_run.specs.Order.{Follows}
use Rattle.oak_run.specs.Refusals.{RefusalFits, RefusalsFit}
use Rattle.oak_run.specs.Scans.{ScanTurnFits}
use Rattle.oak_run.specs.Shown.{closing_by}
use Rattle.oak_run.specs.Told.{makes_write, reply_at}
use Rattle.oak_run.specs.Turn.{Turn}
use Rattle.oak_run.specs.Views.{Names, names_after, names_of, no_names}
use Rattle.oak_run.proofs.BehindLaws.{behind_before, closing_before, seen_more}
use Rattle.oak_run.proofs.CanLaws.{answered-push}
use Rattle.oak_run.proofs.PushLaws.{all-map, all-push, answers-push, marks-push, ordered-push, views-push}

none_marked : (k : ℕ) (mine : List KeyedWrite) → mine ≡ [] → [] ≡ map mark_of (writes_of (of_key k mine))
unfolding of_key
none_marked k mine e = subst (λ (ws : List KeyedWrite). [] ≡ map mark_of (writes_of (of_key k ws))) (sym e) refl

-- before its first call
pub nothing_done : (z : Sizes) (v : PassState) → v.knowledge.mine ≡ [] → ThreadFits z v [] []
nothing_done z v none = record {
  turns = [];
  of_calls = refl;
  of_replies = refl;
  answered = tt;
  order = tt;
  floors = tt;
  answers = λ hs b. tt;
  views = λ hs b. tt;
  scans = λ hs b. tt;
  once = λ q is. none_marked (key_number q) v.knowledge.mine none;
  refusals = λ by hs used retired open_rooms b f. tt;
  findings = λ by hs used retired open_rooms b f. tt;
}

pub no_turns : (z : Sizes) (v : PassState) (none : v.knowledge.mine ≡ []) → (nothing_done z v none).turns ≡ []
unfolding nothing_done
no_turns z v none = refl

-- ---- one more turn

pub refusals-push : (c : Closing) (thread n m : ℕ) (ts : List Turn) (t : Turn) → m ≡ n + length ts → RefusalsFit c thread n ts → RefusalFits c thread m t t.reply → RefusalsFit c thread n (ts ++ t ∷ [])
refusals-push c thread n m [] t e fits last = let same : m ≡ n = omega arith in (subst (λ (k : ℕ). RefusalFits c thread k t t.reply) same last, tt)
refusals-push c thread n m (x ∷ xs) t e fits last = (fits.0, refusals-push c thread (suc n) m xs t (omega arith) fits.1 last)

pub findings-push : (c : Closing) (thread n m : ℕ) (names : Names) (ts : List Turn) (t : Turn) → m ≡ n + length ts → FindingsFit c thread n names ts → FindingFits c thread m (names_of names ts) t → FindingsFit c thread n names (ts ++ t ∷ [])
findings-push c thread n m names [] t e fits last = let same : m ≡ n = omega arith in (subst (λ (k : ℕ). FindingFits c thread k names t) same last, tt)
findings-push c thread n m names (x ∷ xs) t e fits last = (fits.0, findings-push c thread (suc n) m (names_after names x) xs t (omega arith) fits.1 last)

pub writes-append : (xs ys : List KeyedWrite) → writes_of (xs ++ ys) ≡ writes_of xs ++ writes_of ys
writes-append [] ys = refl
writes-append (x ∷ xs) ys = ap (λ (h : History). x.write ∷ h) (writes-append xs ys)

pub marked-append : (xs ys : History) → map mark_of (xs ++ ys) ≡ map mark_of xs ++ map mark_of ys
marked-append [] ys = refl
marked-append (x ∷ xs) ys = ap (λ (ms : List Mark). mark_of x ∷ ms) (marked-append xs ys)

-- the marks of the pass's writes of the key, with those that it made in one more call
marked : (k : ℕ) (mine wrote : List KeyedWrite) → map mark_of (writes_of (of_key k (mine ++ wrote))) ≡ map mark_of (writes_of (of_key k mine)) ++ map mark_of (writes_of (of_key k wrote))
marked k mine wrote = ap (λ (ws : List KeyedWrite). map mark_of (writes_of ws)) (of_key-append k mine wrote)
    ∙ ap (map mark_of) (writes-append (of_key k mine) (of_key k wrote)) ∙ marked-append (writes_of (of_key k mine)) (writes_of (of_key k wrote))

-- a later turn stands behind what was seen before it
follows_seen : (v w : PassState) (u t : Turn) → StaysBetween v w t → FloorsSeen v u → Follows u t
follows_seen v w u t between floors q r s floor place =
    let low = floors q r floor in
    let from = between.places q s place in
    (omega arith, by (makes_write t.reply) low (between.later q s place))
  where
    by : (b : Bool) → r ≤ seen_length v q → (b ≡ true → seen_length v q < s) → OnTrue b (r < s)
    by true low later = let l = later refl in omega arith
    by false low later = tt

module _ (z : Sizes) (v w : PassState) (cs : List Call) (ys : List Reply) (n : ℕ) (t : Turn) (x : ThreadFits z v cs ys) (number : n ≡ suc (length cs)) (turned : Turned z n (names_of no_names x.turns) t v w) (can : CanReply t.call t.reply) where
  counted : n ≡ 1 + length x.turns
  counted = let e : length x.turns ≡ length cs = sym (length-map x.turns (λ (u : Turn). u.call)) ∙ ap length x.of_calls in omega arith

  before : (hs : ℕ → List KeyedWrite) → GoesBehind w hs → GoesBehind v hs
  before hs b = behind_before v w hs turned.extends turned.remembers b

  on_later : (P : Closing → Type 0) → OnClosing z v P → OnClosing z w P
  on_later P = closing_before z v w P turned.extends turned.remembers turned.finds turned.numbers

  its_number : (P : ℕ → Type 0) → P v.numbers.number → P w.numbers.number
  its_number P p = subst (λ (a : Numbers). P a.number) (sym turned.numbers) p

  once : (q : List ℕ) → is_key q ≡ true → marks q v.numbers.number 1 (x.turns ++ t ∷ []) ≡ map mark_of (writes_of (of_key (key_number q) w.knowledge.mine))
  once q is = marks-push q v.numbers.number 1 n x.turns t counted
      ∙ ap (λ (ms : List Mark). ms ++ cond (writes_key q t) (record { stamp = reply_at t.reply; caller = v.numbers.number; call = n } ∷ []) []) (x.once q is)
      ∙ ap (λ (ms : List Mark). map mark_of (writes_of (of_key (key_number q) v.knowledge.mine)) ++ ms) (sym (turned.marks q is))
      ∙ sym (marked (key_number q) v.knowledge.mine turned.wrote)
      ∙ ap (λ (ws : List KeyedWrite). map mark_of (writes_of (of_key (key_number q) ws))) (sym turned.mine)

  pub one_turn_more : ThreadFits z w (cs ++ t.call ∷ []) (ys ++ t.reply ∷ [])
  one_turn_more = record {
    turns = x.turns ++ t ∷ [];
    of_calls = map_push (λ (u : Turn). u.call) x.turns t ∙ ap (λ (l : List Call). l ++ t.call ∷ []) x.of_calls;
    of_replies = map_push (λ (u : Turn). u.reply) x.turns t ∙ ap (λ (l : List Reply). l ++ t.reply ∷ []) x.of_replies;
    answered = answered-push cs ys t.call t.reply x.answered can;
    order = ordered-push x.turns t x.order (all-map (FloorsSeen v) (λ u. Follows u t) x.turns (λ u f. follows_seen v w u t turned.order f) x.floors);
    floors = all-push (FloorsSeen w) x.turns t (all-map (FloorsSeen v) (FloorsSeen w) x.turns (λ u f q r floor. let l = f q r floor in let m = seen_more v w q turned.extends in omega arith) x.floors) turned.order.floors;
    answers = λ hs b. its_number (λ a. AnswersFit (histories hs) a 1 (x.turns ++ t ∷ [])) (answers-push (histories hs) v.numbers.number 1 n x.turns t counted (x.answers hs (before hs b)) (turned.answers hs b));
    views = λ hs b. views-push (histories hs) no_names x.turns t (x.views hs (before hs b)) (turned.view hs b);
    scans = λ hs b. all-push (λ (u : Turn). ScanTurnFits (histories hs) u u.call) x.turns t (x.scans hs (before hs b)) (turned.scan hs b);
    once = λ q is. its_number (λ a. marks q a 1 (x.turns ++ t ∷ []) ≡ map mark_of (writes_of (of_key (key_number q) w.knowledge.mine))) (once q is);
    refusals = λ by hs used retired open_rooms b f. its_number (λ a. RefusalsFit (closing_by by hs used z retired open_rooms) a 1 (x.turns ++ t ∷ []))
        (refusals-push (closing_by by hs used z retired open_rooms) v.numbers.number 1 n x.turns t counted (on_later (λ c. RefusalsFit c v.numbers.number 1 x.turns) x.refusals by hs used retired open_rooms b f) (turned.refusal by hs used retired open_rooms b f));
    findings = λ by hs used retired open_rooms b f. its_number (λ a. FindingsFit (closing_by by hs used z retired open_rooms) a 1 no_names (x.turns ++ t ∷ []))
        (findings-push (closing_by by hs used z retired open_rooms) v.numbers.number 1 n no_names x.turns t counted (on_later (λ c. FindingsFit c v.numbers.number 1 no_names x.turns) x.findings by hs used retired open_rooms b f) (turned.finding by hs used retired open_rooms b f));
  }

  pub more_turns : one_turn_more.turns ≡ x.turns ++ t ∷ []
  unfolding one_turn_more
  more_turns = refl
