-- Two runs of one thread's calls, from one count of each key's writes and states up to it that are alike, print the same lines.
use Rattle.std.proofs.Common.{◌≡◌, ℕ, suc, ◌+◌, cond, false, List, [], ◌∷◌, ◌++◌, map, Option, Some, None, refl, sym, ap, subst, ◌∙◌}
use Rattle.std.specs.Prelude.{MatchOption, ⊤}
use Rattle.oak_model.specs.History.{Histories}
use Rattle.oak_model.specs.Key.{key_cmp}
use Rattle.std.specs.Ordering.{flip_args}
use Rattle.oak_script.specs.declared.scripts.Call.{Call}
use Rattle.oak_script.specs.declared.scripts.Call.TheVariants.{Put, Get, PutNew, Compute, Upsert, Remove, Hold, Look, Scan, Back}
use Rattle.oak_script.specs.Text.{CallsAnswered, CanReply, call_name, reply_text, thread_text}
use Rattle.oak_model.specs.declared.replies.Reply.{Reply}
use Rattle.oak_run.specs.Answers.{AnswersFit, CellAnswer, KeyAnswer, writes_key}
use Rattle.oak_run.specs.Scans.{ScanTurnFits, ScansFit}
use Rattle.oak_run.specs.Told.{Ask, ask_of, is_full}
use Rattle.oak_run.specs.Turn.{Turn}
use Rattle.oak_run.specs.Views.{Names, View, ViewFits, ViewsFit, named, names_after, renamed}
use Rattle.oak_run.proofs.AlikeScans.{range-lines}
use Rattle.oak_run.proofs.AlikeTurns.{AreAlike, key-alike, key-lines, key-writes, look-lines, none-alike, one-view, places_by}
use Rattle.oak_run.proofs.PairTexts.{falling-one_way, rising-one_way}
use Rattle.oak_run.proofs.SeatedTurns.{NoneFull, key-answer, no-write}
use Rattle.oak_run.proofs.TurnCounts.{AreCounted, Counts, IsCounted, counted, counts_after}

-- ---- one turn of each

-- a turn of this call that fits
pub record IsFitTurn (h : Histories) (i : ℕ) (n : Counts) (names : Names) (c : Call) (t : Turn) : Type 0 where
  pub of_call : t.call ≡ c
  pub fine : is_full t.reply ≡ false
  pub answer : MatchOption (ask_of c) ⊤ (λ a. CellAnswer h 1 i a t)
  pub view : ViewFits h names t c
  pub scan : ScanTurnFits h t c
  pub can : CanReply c t.reply
  pub in_count : IsCounted n t

-- both print the same, write the same keys, and leave like states and the same names
pub record AreLike (h e : Histories) (n : Counts) (names : Names) (c : Call) (t u : Turn) : Type 0 where
  pub line : reply_text (places_by h) c t.reply ≡ reply_text (places_by e) c u.reply
  pub writes : (q : List ℕ) → writes_key q t ≡ writes_key q u
  pub states : AreAlike (counted n t) h e
  pub renames : (b : List ℕ) → renamed names t c b ≡ renamed names u c b

module _ (h e : Histories) (i : ℕ) (n : Counts) (names : Names) (t u : Turn) (alike : AreAlike n h e) where
  key-like : (c : Call) (a : Ask) → ask_of c ≡ Some a → IsFitTurn h i n names c t → IsFitTurn e i n names c u → KeyAnswer h 1 i a t → KeyAnswer e 1 i a u → ((b : List ℕ) → renamed names t c b ≡ renamed names u c b) → AreLike h e n names c t u
  key-like c a asks f g t_answer u_answer renames = record {
    line = key-lines h e i n c t u a alike f.of_call g.of_call asks t_answer u_answer f.in_count g.in_count f.can g.can;
    writes = key-writes h e i n c t u a alike f.of_call g.of_call asks t_answer u_answer f.in_count g.in_count;
    states = key-alike h e i n c t u a alike f.of_call g.of_call asks t_answer u_answer f.in_count g.in_count;
    renames = renames;
  }

  none-like : (c : Call) → ask_of c ≡ None → IsFitTurn h i n names c t → IsFitTurn e i n names c u → reply_text (places_by h) c t.reply ≡ reply_text (places_by e) c u.reply → ((b : List ℕ) → renamed names t c b ≡ renamed names u c b) → AreLike h e n names c t u
  none-like c none f g line renames = record {
    line = line;
    writes = λ q. no-write q t (ap ask_of f.of_call ∙ none) ∙ sym (no-write q u (ap ask_of g.of_call ∙ none));
    states = none-alike h e n t (ap ask_of f.of_call ∙ none) alike;
    renames = renames;
  }

  hold-like : (b k : List ℕ) → IsFitTurn h i n names (Hold b k) t → IsFitTurn e i n names (Hold b k) u → AreLike h e n names (Hold b k) t u
  hold-like b k f g =
      let t_answer = key-answer h 1 i _ t f.fine f.answer in
      let u_answer = key-answer e 1 i _ u g.fine g.answer in
      key-like (Hold b k) _ refl f g t_answer u_answer
      (λ x. ap (λ (v : Option View). named names b v x) (one-view h e i n (Hold b k) t u _ alike f.of_call g.of_call refl t_answer u_answer f.in_count g.in_count b refl f.can g.can))

  turn-like : (c : Call) → IsFitTurn h i n names c t → IsFitTurn e i n names c u → AreLike h e n names c t u
  turn-like (Put k v) f g = key-like (Put k v) _ refl f g (key-answer h 1 i _ t f.fine f.answer) (key-answer e 1 i _ u g.fine g.answer) (λ b. refl)
  turn-like (Get k) f g = key-like (Get k) _ refl f g (key-answer h 1 i _ t f.fine f.answer) (key-answer e 1 i _ u g.fine g.answer) (λ b. refl)
  turn-like (PutNew k v) f g = key-like (PutNew k v) _ refl f g (key-answer h 1 i _ t f.fine f.answer) (key-answer e 1 i _ u g.fine g.answer) (λ b. refl)
  turn-like (Compute k r m) f g = key-like (Compute k r m) _ refl f g (key-answer h 1 i _ t f.fine f.answer) (key-answer e 1 i _ u g.fine g.answer) (λ b. refl)
  turn-like (Upsert k v r m) f g = key-like (Upsert k v r m) _ refl f g (key-answer h 1 i _ t f.fine f.answer) (key-answer e 1 i _ u g.fine g.answer) (λ b. refl)
  turn-like (Remove k) f g = key-like (Remove k) _ refl f g (key-answer h 1 i _ t f.fine f.answer) (key-answer e 1 i _ u g.fine g.answer) (λ b. refl)
  turn-like (Hold b k) f g = hold-like b k f g
  turn-like (Look b) f g = none-like (Look b) refl f g (look-lines h e n (Look b) (names b) t u t.reply u.reply alike (ap ask_of f.of_call) (ap ask_of g.of_call) f.in_count g.in_count f.view g.view) (λ x. refl)
  turn-like (Scan low high) f g = none-like (Scan low high) refl f g (range-lines key_cmp rising-one_way h e n (Scan low high) low high t u alike (ap ask_of f.of_call) (ap ask_of g.of_call) f.in_count g.in_count t.reply u.reply f.scan g.scan) (λ x. refl)
  turn-like (Back low high) f g = none-like (Back low high) refl f g (range-lines (flip_args key_cmp) falling-one_way h e n (Back low high) low high t u alike (ap ask_of f.of_call) (ap ask_of g.of_call) f.in_count g.in_count t.reply u.reply f.scan g.scan) (λ x. refl)

-- ---- all turns

abbrev pub their_calls : List Turn → List Call
their_calls ts = map (λ (t : Turn). t.call) ts

abbrev pub their_replies : List Turn → List Reply
their_replies ts = map (λ (t : Turn). t.reply) ts

pub record IsFitRun (h : Histories) (i : ℕ) (n : Counts) (names : Names) (ts : List Turn) : Type 0 where
  pub fine : NoneFull ts
  pub answers : AnswersFit h 1 i ts
  pub views : ViewsFit h names ts
  pub scans : ScansFit h ts
  pub can : CallsAnswered (their_calls ts) (their_replies ts)
  pub in_count : AreCounted n ts

pub record RunsLike (h e : Histories) (n : Counts) (ts us : List Turn) : Type 0 where
  pub lines : (number : ℕ) → thread_text (places_by h) 1 number (their_calls ts) (their_replies ts) ≡ thread_text (places_by e) 1 number (their_calls us) (their_replies us)
  pub counts : (q : List ℕ) → counts_after n ts q ≡ counts_after n us q
  pub states : AreAlike (counts_after n ts) h e

rest-fit : (h : Histories) (i : ℕ) (n : Counts) (names : Names) (t : Turn) (ts : List Turn) → IsFitRun h i n names (t ∷ ts) → IsFitRun h (suc i) (counted n t) (names_after names t) ts
rest-fit h i n names t ts f = record { fine = f.fine.1; answers = f.answers.1; views = f.views.1; scans = f.scans.1; can = f.can.1; in_count = f.in_count.1 }

first-fit : (h : Histories) (i : ℕ) (n : Counts) (names : Names) (c : Call) (t : Turn) (ts : List Turn) → t.call ≡ c → IsFitRun h i n names (t ∷ ts) → IsFitTurn h i n names c t
first-fit h i n names c t ts is f = record {
  of_call = is;
  fine = f.fine.0;
  answer = subst (λ (d : Call). MatchOption (ask_of d) ⊤ (λ a. CellAnswer h 1 i a t)) is f.answers.0;
  view = subst (λ (d : Call). ViewFits h names t d) is f.views.0;
  scan = subst (λ (d : Call). ScanTurnFits h t d) is f.scans.0;
  can = subst (λ (d : Call). CanReply d t.reply) is f.can.0;
  in_count = f.in_count.0;
}

module _ (h e : Histories) where
  pub runs-like : (i : ℕ) (n : Counts) (names : Names) (ts us : List Turn) → AreAlike n h e → their_calls ts ≡ their_calls us → IsFitRun h i n names ts → IsFitRun e i n names us → RunsLike h e n ts us
  runs-like i n names [] [] alike same f g = record { lines = λ number. refl; counts = λ q. refl; states = alike }
  runs-like i n names [] (u ∷ us) alike same f g = absurd cc
  runs-like i n names (t ∷ ts) [] alike same f g = absurd cc
  runs-like i n names (t ∷ ts) (u ∷ us) alike same f g =
      let head : t.call ≡ u.call = cc in
      let tail : their_calls ts ≡ their_calls us = cc in
      let like = turn-like h e i n names t u alike t.call (first-fit h i n names t.call t ts refl f) (first-fit e i n names t.call u us (sym head) g) in
      let one_count : counted n t ≡ counted n u = (λ j q. cond (like.writes q j) (suc (n q)) (n q)) in
      let one_names : names_after names t ≡ names_after names u = (λ j b. like.renames b j) ∙ ap (λ (c : Call). renamed names u c) head in
      let behind = subst (λ (m : Counts). IsFitRun e (suc i) m (names_after names t) us) (sym one_count) (subst (λ (m : Names). IsFitRun e (suc i) (counted n u) m us) (sym one_names) (rest-fit e i n names u us g)) in
      let rest = runs-like (suc i) (counted n t) (names_after names t) ts us like.states tail (rest-fit h i n names t ts f) behind in
      let line = like.line ∙ ap (λ (c : Call). reply_text (places_by e) c u.reply) head in
      record {
        lines = λ number. let others = rest.lines (number + 1) in (λ j. (call_name 1 number ++ line j) ++ others j);
        counts = λ q. rest.counts q ∙ ap (λ (m : Counts). counts_after m us q) one_count;
        states = rest.states;
      }
