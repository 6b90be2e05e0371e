-- The calls of a workload and their replies: each is refused, or writes its key.
use Rattle.std.proofs.Common.{◌≡◌, ℕ, zero, suc, ◌+◌, ◌%◌, ◌≤◌, ◌&&◌, Bool, true, false, cond, List, [], ◌∷◌, length, map, Option, Some, refl, sym, ap, subst, ◌∙◌, arith}
use Rattle.std.specs.Prelude.{MatchBool, MatchOption, count_by, not, ⊤}
use Rattle.std.specs.List.{AllByRecursion}
use Rattle.std.proofs.lemmas.Bool.{and_parts}
use Rattle.std.proofs.lemmas.List.{length-append}
use Rattle.std.proofs.lemmas.List.Sums.{sum_by-cons}
use Rattle.oak_model.specs.declared.cells.CellCall.{CellCall}
use Rattle.oak_model.specs.declared.cells.CellCall.TheVariants as asks
use Rattle.oak_model.specs.declared.cells.CellReply.{CellReply}
use Rattle.oak_model.specs.declared.recipes.RecipeKind.TheVariants.{Add}
use Rattle.oak_model.specs.declared.replies.Wrote.TheVariants as wrote
use Rattle.oak_model.specs.declared.replies.Reply.{Reply}
use Rattle.oak_model.specs.declared.replies.Reply.TheVariants as replies
use Rattle.oak_model.specs.Cell.{is_write}
use Rattle.oak_model.specs.Fits.{ReadFits, WriteFits}
use Rattle.oak_model.specs.History.{Histories, place_of}
use Rattle.oak_model.specs.Key.{same_key}
use Rattle.oak_model.proofs.KeyLaws.{same_is}
use Rattle.oak_script.specs.declared.limits.TheConstants.{DRAWN_NUMBERS}
use Rattle.oak_script.specs.declared.scripts.Call.{Call}
use Rattle.oak_script.specs.Grammar.{all_calls}
use Rattle.oak_script.specs.Summary.{fulls_of}
use Rattle.oak_script.specs.Text.{CanReply, CallsAnswered, RepliesAnswer}
use Rattle.oak_script.specs.Workload.{drawn_call, drawn_calls, drawn_key, drawn_threads, next_number, one_value}
use Rattle.oak_run.specs.Answers.{AnswersFit, AnswerFits, CellAnswer, Mark, all_marks, asks_for, marks, writes_key}
use Rattle.oak_run.specs.RunFits.{calls_of, replies_of}
use Rattle.oak_run.specs.Told.{Ask, ask_of, is_full, makes_write, reply_at}
use Rattle.oak_run.specs.Turn.{Turn}
use Rattle.oak_run.proofs.SeatedTurns.{key-answer, tells-writes}

abbrev pub drawn_cell : CellCall
drawn_cell = asks.Upsert one_value Add 1

abbrev pub drawn_ask : ℕ → Ask
drawn_ask x = record { key = drawn_key x; cell = drawn_cell }

-- the call is one of a workload, and the reply is one that it can have
pub record IsDrawn (t : Turn) : Type 0 where
  pub number : ℕ
  pub call : t.call ≡ drawn_call number
  pub can : CanReply (drawn_call number) t.reply

abbrev pub AreDrawn : List (List Turn) → Type 0
AreDrawn threads = AllByRecursion (λ (ts : List Turn). AllByRecursion IsDrawn ts) threads

calls-drawn : (ts : List Turn) (x n : ℕ) → map (λ (t : Turn). t.call) ts ≡ drawn_calls x n → CallsAnswered (map (λ (t : Turn). t.call) ts) (map (λ (t : Turn). t.reply) ts) → AllByRecursion IsDrawn ts
calls-drawn [] x n e a = tt
calls-drawn (t ∷ ts) x zero e a = absurd cc
calls-drawn (t ∷ ts) x (suc n) e a =
    let here : t.call ≡ drawn_call (next_number x) = cc in
    let rest : map (λ (t : Turn). t.call) ts ≡ drawn_calls (next_number x) n = cc in
    (record { number = next_number x; call = here; can = subst (λ (c : Call). CanReply c t.reply) here a.0 }, calls-drawn ts (next_number x) n rest a.1)

pub are-drawn : (threads : List (List Turn)) (calls start n : ℕ) → calls_of threads ≡ drawn_threads calls start n → RepliesAnswer (calls_of threads) (replies_of threads) → AreDrawn threads
are-drawn [] calls start n e a = tt
are-drawn (ts ∷ more) calls start zero e a = absurd cc
are-drawn (ts ∷ more) calls start (suc n) e a =
    let here : map (λ (t : Turn). t.call) ts ≡ drawn_calls (start % DRAWN_NUMBERS) calls = cc in
    let rest : calls_of more ≡ drawn_threads calls (suc start) n = cc in
    (calls-drawn ts _ calls here a.0, are-drawn more calls (suc start) n rest a.1)

-- ---- refused or written

pub writes-or-full : (x : ℕ) (y : Reply) → CanReply (drawn_call x) y → is_full y ≡ not (makes_write y)
writes-or-full x (replies.Wrote (wrote.New at)) can = refl
writes-or-full x (replies.Wrote (wrote.Over at)) can = absurd can
writes-or-full x (replies.Wrote (wrote.Kept at)) can = absurd can
writes-or-full x (replies.Wrote (wrote.Done at)) can = refl
writes-or-full x (replies.Wrote (wrote.Removed at)) can = absurd can
writes-or-full x (replies.Wrote (wrote.Absent at)) can = absurd can
writes-or-full x (replies.Wrote (wrote.Full lack)) can = refl
writes-or-full x (replies.Value key value at) can = absurd can
writes-or-full x (replies.Held at) can = absurd can
writes-or-full x replies.Gone can = absurd can
writes-or-full x replies.Unheld can = absurd can
writes-or-full x (replies.Pairs pairs) can = absurd can

-- how many turns of a thread, and of all threads, write
abbrev pub written_along : List Turn → ℕ
written_along [] = 0
written_along (t ∷ ts) = cond (makes_write t.reply) 1 0 + written_along ts

abbrev pub written_in : List (List Turn) → ℕ
written_in [] = 0
written_in (ts ∷ more) = written_along ts + written_in more

one-or-other : (full : Bool) (writes : Bool) → full ≡ not writes → cond full 1 0 + cond writes 1 0 ≡ 1
one-or-other full true e = ap (λ (b : Bool). cond b 1 0 + 1) e
one-or-other full false e = ap (λ (b : Bool). cond b 1 0 + 0) e

along-counted : (ts : List Turn) → AllByRecursion IsDrawn ts → count_by is_full (map (λ (t : Turn). t.reply) ts) + written_along ts ≡ length (map (λ (t : Turn). t.call) ts)
along-counted [] drawn = refl
along-counted (t ∷ ts) drawn =
    let first = sum_by-cons (λ y. cond (is_full y) 1 0) t.reply (map (λ (t : Turn). t.reply) ts) in
    let one = one-or-other (is_full t.reply) (makes_write t.reply) (writes-or-full drawn.0.number t.reply drawn.0.can) in
    omega (arith, first, one, along-counted ts drawn.1)

-- each call was refused or wrote
pub all-counted : (threads : List (List Turn)) → AreDrawn threads → fulls_of (replies_of threads) + written_in threads ≡ length (all_calls (calls_of threads))
all-counted [] drawn = refl
all-counted (ts ∷ more) drawn = omega (arith, along-counted ts drawn.0, all-counted more drawn.1, length-append (map (λ (t : Turn). t.call) ts) (all_calls (calls_of more)))

-- ---- the marks of a key

asked : (t : Turn) (d : IsDrawn t) → ask_of t.call ≡ Some (drawn_ask d.number)
asked t d = ap ask_of d.call

pub key-asked : (q : List ℕ) (t : Turn) (d : IsDrawn t) → writes_key q t ≡ (same_key (drawn_key d.number) q && makes_write t.reply)
key-asked q t d = ap (λ (o : Option Ask). asks_for q o && makes_write t.reply) (asked t d)

abbrev pub mark_here : ℕ → ℕ → Turn → Mark
mark_here caller n t = record { stamp = reply_at t.reply; caller = caller; call = n }

pub marked : (q : List ℕ) (caller n : ℕ) (t : Turn) (ts : List Turn) → length (marks q caller n (t ∷ ts)) ≡ cond (writes_key q t) 1 0 + length (marks q caller (suc n) ts)
marked q caller n t ts = by (writes_key q t)
  where
    by : (b : Bool) → length (cond b (mark_here caller n t ∷ marks q caller (suc n) ts) (marks q caller (suc n) ts)) ≡ cond b 1 0 + length (marks q caller (suc n) ts)
    by true = omega arith
    by false = omega arith

marks-few : (q : List ℕ) (caller n : ℕ) (ts : List Turn) → length (marks q caller n ts) ≤ length (map (λ (t : Turn). t.call) ts)
marks-few q caller n [] = omega arith
marks-few q caller n (t ∷ ts) = let few = at-most (writes_key q t) in omega (arith, marked q caller n t ts, marks-few q caller (suc n) ts, few)
  where
    at-most : (b : Bool) → cond b 1 0 ≤ 1
    at-most true = omega arith
    at-most false = omega arith

-- a key has no more marks than there are calls
pub all_marks-few : (q : List ℕ) (caller : ℕ) (threads : List (List Turn)) → length (all_marks q caller threads) ≤ length (all_calls (calls_of threads))
all_marks-few q caller [] = omega arith
all_marks-few q caller (ts ∷ more) =
    omega (arith, marks-few q caller 1 ts, all_marks-few q (suc caller) more, length-append (marks q caller 1 ts) (all_marks q (suc caller) more), length-append (map (λ (t : Turn). t.call) ts) (all_calls (calls_of more)))

-- ---- what a mark of a key tells

-- the write that a mark names is one of the workload's calls
pub record IsDrawnWrite (h : Histories) (q : List ℕ) (m : Mark) : Type 0 where
  pub word : CellReply
  pub place : ℕ
  pub fits : WriteFits (h q) m.caller m.call drawn_cell word place

drawn-write : (h : Histories) (caller n : ℕ) (t : Turn) (d : IsDrawn t) → makes_write t.reply ≡ true → AnswerFits h caller n t → IsDrawnWrite h (drawn_key d.number) (mark_here caller n t)
drawn-write h caller n t d writes fits =
    let a = drawn_ask d.number in
    let answer : CellAnswer h caller n a t = subst (λ (o : Option Ask). MatchOption o ⊤ (λ a. CellAnswer h caller n a t)) (asked t d) fits in
    let fine : is_full t.reply ≡ false = writes-or-full d.number t.reply d.can ∙ ap not writes in
    let told = key-answer h caller n a t fine answer in
    let word : is_write told.word ≡ true = sym (tells-writes a.key t.reply told.word told.tells) ∙ writes in
    let place = place_of (h a.key) (reply_at t.reply) in
    record {
      word = told.word;
      place = place;
      fits = subst (λ (b : Bool). MatchBool b (WriteFits (h a.key) caller n drawn_cell told.word place) (ReadFits (h a.key) drawn_cell told.word place)) word told.fits;
    }

pub marks-drawn : (h : Histories) (q : List ℕ) (caller n : ℕ) (ts : List Turn) → AllByRecursion IsDrawn ts → AnswersFit h caller n ts → AllByRecursion (IsDrawnWrite h q) (marks q caller n ts)
marks-drawn h q caller n [] drawn fits = tt
marks-drawn h q caller n (t ∷ ts) drawn fits = by (marks-drawn h q caller (suc n) ts drawn.1 fits.1) (writes_key q t) (λ e. e)
  where
    here : writes_key q t ≡ true → IsDrawnWrite h q (mark_here caller n t)
    here e =
        let parts = and_parts (same_key (drawn_key drawn.0.number) q) (makes_write t.reply) (sym (key-asked q t drawn.0) ∙ e) in
        subst (λ (k : List ℕ). IsDrawnWrite h k (mark_here caller n t)) (same_is (drawn_key drawn.0.number) q parts.0) (drawn-write h caller n t drawn.0 parts.1 fits.0)

    by : AllByRecursion (IsDrawnWrite h q) (marks q caller (suc n) ts) → (b : Bool) → (b ≡ true → writes_key q t ≡ true) → AllByRecursion (IsDrawnWrite h q) (cond b (mark_here caller n t ∷ marks q caller (suc n) ts) (marks q caller (suc n) ts))
    by later true so = (here (so refl), later)
    by later false so = later
