-- The marks of all keys of some pairs are the writes of a workload, where each key that it writes stands once in them.
use Rattle.std.proofs.Common.{◌≡◌, ℕ, zero, suc, ◌%◌, ◌<◌, ◌&&◌, ◌||◌, Bool, true, false, cond, List, [], ◌∷◌, ◌++◌, length, map, refl, sym, ap, subst, ◌∙◌, arith, inl, inr}
use Rattle.std.specs.Prelude.{count_by, not, option_to_list}
use Rattle.std.specs.List.{AllByRecursion, list_any}
use Rattle.std.proofs.lemmas.Bool.{and_from, and_parts, both_ways, cases_Bool, or_cases}
use Rattle.std.proofs.lemmas.List.{length-append}
use Rattle.std.proofs.lemmas.List.Folds.{list_any-append}
use Rattle.std.proofs.lemmas.List.Sums.{sum_by-cons}
use Rattle.oak_model.specs.declared.replies.Pair.{Pair}
use Rattle.oak_model.specs.History.{Histories}
use Rattle.oak_model.specs.Counts.{one_if}
use Rattle.oak_model.specs.Key.{same_key}
use Rattle.oak_model.proofs.KeyLaws.{same_is, same_itself}
use Rattle.oak_script.specs.declared.limits.TheConstants.{DRAWN_NUMBERS}
use Rattle.oak_script.specs.declared.scripts.Call.{Call}
use Rattle.oak_script.specs.Places.{key_of}
use Rattle.oak_script.specs.Summary.{fulls_of}
use Rattle.oak_script.specs.Workload.{drawn_calls, drawn_key, drawn_threads, next_number}
use Rattle.oak_run.specs.Answers.{AnswersFit, all_marks, marks, writes_key}
use Rattle.oak_run.specs.RunFits.{EachThread, calls_of, replies_of}
use Rattle.oak_run.specs.Told.{is_full, makes_write}
use Rattle.oak_run.specs.Turn.{Turn}
use Rattle.oak_run.specs.WorkloadFits.{keys_along, keys_of}
use Rattle.oak_run.proofs.PairKeys.{over, over-none, over-same, over-sum, swapped, times_in}
use Rattle.oak_run.proofs.DrawnTurns.{AreDrawn, IsDrawn, IsDrawnWrite, key-asked, marked, marks-drawn, writes-or-full, written_along, written_in}

pub both-all : {A : Type 0} (P : A → Type 0) (xs ys : List A) → AllByRecursion P xs → AllByRecursion P ys → AllByRecursion P (xs ++ ys)
both-all P [] ys a b = b
both-all P (x ∷ xs) ys a b = (a.0, both-all P xs ys a.1 b)

pub all-drawn : (h : Histories) (q : List ℕ) (caller : ℕ) (threads : List (List Turn)) → AreDrawn threads → EachThread (λ thread ts. AnswersFit h thread 1 ts) caller threads → AllByRecursion (IsDrawnWrite h q) (all_marks q caller threads)
all-drawn h q caller [] drawn fits = tt
all-drawn h q caller (ts ∷ more) drawn fits = both-all (IsDrawnWrite h q) (marks q caller 1 ts) (all_marks q (suc caller) more) (marks-drawn h q caller 1 ts drawn.0 fits.0) (all-drawn h q (suc caller) more drawn.1 fits.1)

-- ---- the key of each turn that writes

abbrev pub Written : (List ℕ → Type 0) → Turn → Type 0
Written P t = (d : IsDrawn t) → makes_write t.reply ≡ true → P (drawn_key d.number)

written-along : (P : List ℕ → Type 0) (caller n : ℕ) (ts : List Turn) → ((q : List ℕ) → 0 < length (marks q caller n ts) → P q) → AllByRecursion (Written P) ts
written-along P caller n [] all = tt
written-along P caller n (t ∷ ts) all = (
  λ d writes.
      let k = drawn_key d.number in
      let its : writes_key k t ≡ true = key-asked k t d ∙ and_from (same_key k k) (makes_write t.reply) (same_itself k) writes in
      let one = ap one_if its in
      all k (omega (arith, one, marked k caller n t ts)),
  written-along P caller (suc n) ts (λ q some. all q (omega (arith, some, marked q caller n t ts))),
)

pub written-all : (P : List ℕ → Type 0) (caller : ℕ) (threads : List (List Turn)) → ((q : List ℕ) → 0 < length (all_marks q caller threads) → P q) → AllByRecursion (λ (ts : List Turn). AllByRecursion (Written P) ts) threads
written-all P caller [] all = tt
written-all P caller (ts ∷ more) all = (
  written-along P caller 1 ts (λ q some. all q (omega (arith, some, length-append (marks q caller 1 ts) (all_marks q (suc caller) more)))),
  written-all P (suc caller) more (λ q some. all q (omega (arith, some, length-append (marks q caller 1 ts) (all_marks q (suc caller) more)))),
)

-- ---- their sum

and-true : (a : Bool) → (a && true) ≡ a
and-true true = refl
and-true false = refl

and-false : (a : Bool) → (a && false) ≡ false
and-false true = refl
and-false false = refl

one-turn : (ps : List Pair) (t : Turn) (d : IsDrawn t) → (makes_write t.reply ≡ true → times_in (drawn_key d.number) ps ≡ 1) → over (λ p. cond (writes_key p.key t) 1 0) ps ≡ cond (makes_write t.reply) 1 0
one-turn ps t d once =
    let k = drawn_key d.number in
    let asked = over-same (λ p. cond (writes_key p.key t) 1 0) (λ p. cond (same_key k p.key && makes_write t.reply) 1 0) ps (λ p. ap one_if (key-asked p.key t d)) in
    asked ∙ by (makes_write t.reply) once
  where
    by : (b : Bool) → (b ≡ true → times_in (drawn_key d.number) ps ≡ 1) → over (λ p. cond (same_key (drawn_key d.number) p.key && b) 1 0) ps ≡ cond b 1 0
    by true so = over-same (λ p. cond (same_key (drawn_key d.number) p.key && true) 1 0) (λ p. cond (same_key (drawn_key d.number) p.key) 1 0) ps (λ p. ap one_if (and-true (same_key (drawn_key d.number) p.key))) ∙ so refl
    by false so = over-same (λ p. cond (same_key (drawn_key d.number) p.key && false) 1 0) (λ p. 0) ps (λ p. ap one_if (and-false (same_key (drawn_key d.number) p.key))) ∙ over-none ps

along-over : (ps : List Pair) (caller n : ℕ) (ts : List Turn) → AllByRecursion IsDrawn ts → AllByRecursion (Written (λ k. times_in k ps ≡ 1)) ts → over (λ p. length (marks p.key caller n ts)) ps ≡ written_along ts
along-over ps caller n [] drawn once = over-none ps
along-over ps caller n (t ∷ ts) drawn once =
    let sum = over-sum (λ p. cond (writes_key p.key t) 1 0) (λ p. length (marks p.key caller (suc n) ts)) (λ p. length (marks p.key caller n (t ∷ ts))) ps (λ p. marked p.key caller n t ts) in
    omega (arith, sum, one-turn ps t drawn.0 (once.0 drawn.0), along-over ps caller (suc n) ts drawn.1 once.1)

pub all-over : (ps : List Pair) (caller : ℕ) (threads : List (List Turn)) → AreDrawn threads → AllByRecursion (λ (ts : List Turn). AllByRecursion (Written (λ k. times_in k ps ≡ 1)) ts) threads → over (λ p. length (all_marks p.key caller threads)) ps ≡ written_in threads
all-over ps caller [] drawn once = over-none ps
all-over ps caller (ts ∷ more) drawn once =
    let sum = over-sum (λ p. length (marks p.key caller 1 ts)) (λ p. length (all_marks p.key (suc caller) more)) (λ p. length (all_marks p.key caller (ts ∷ more))) ps (λ p. length-append (marks p.key caller 1 ts) (all_marks p.key (suc caller) more)) in
    omega (arith, sum, along-over ps caller 1 ts drawn.0 once.0, all-over ps (suc caller) more drawn.1 once.1)

-- ---- the keys that the calls name

some-either : (a b : Bool) → a ≡ true → (a || b) ≡ true
some-either true b e = refl
some-either false b e = absurd (both_ways false refl e)

other-either : (a b : Bool) → b ≡ true → (a || b) ≡ true
other-either true b e = refl
other-either false b e = e

key-first : (t : Turn) (d : IsDrawn t) (more : List (List ℕ)) → option_to_list (key_of t.call) ++ more ≡ drawn_key d.number ∷ more
key-first t d more = ap (λ (c : Call). option_to_list (key_of c) ++ more) d.call

named-along : (q : List ℕ) (caller n : ℕ) (ts : List Turn) → AllByRecursion IsDrawn ts → 0 < length (marks q caller n ts) → list_any (same_key q) (keys_along (map (λ (t : Turn). t.call) ts)) ≡ true
named-along q caller n [] drawn some = absurd (omega arith)
named-along q caller n (t ∷ ts) drawn some =
    let ks = keys_along (map (λ (t : Turn). t.call) ts) in
    let first = ap (list_any (same_key q)) (key-first t drawn.0 ks) in
    elim (cases_Bool (writes_key q t)) [
      | inl its ↦
          let same = (and_parts (same_key (drawn_key drawn.0.number) q) (makes_write t.reply) (sym (key-asked q t drawn.0) ∙ its)).0 in
          first ∙ some-either (same_key q (drawn_key drawn.0.number)) (list_any (same_key q) ks) (swapped (drawn_key drawn.0.number) q same)
      | inr other ↦
          let none = ap one_if other in
          first ∙ other-either (same_key q (drawn_key drawn.0.number)) (list_any (same_key q) ks) (named-along q caller (suc n) ts drawn.1 (omega (arith, some, none, marked q caller n t ts)))
    ]

-- a key with a mark is one that a call names
pub named-all : (q : List ℕ) (caller : ℕ) (threads : List (List Turn)) → AreDrawn threads → 0 < length (all_marks q caller threads) → list_any (same_key q) (keys_of (calls_of threads)) ≡ true
named-all q caller [] drawn some = absurd (omega arith)
named-all q caller (ts ∷ more) drawn some =
    let front = keys_along (map (λ (t : Turn). t.call) ts) in
    let back = keys_of (calls_of more) in
    list_any-append (same_key q) front back ∙ by (named-all q (suc caller) more drawn.1) (length (marks q caller 1 ts)) refl
  where
    by : (0 < length (all_marks q (suc caller) more) → list_any (same_key q) (keys_of (calls_of more)) ≡ true) → (n : ℕ) → length (marks q caller 1 ts) ≡ n → (list_any (same_key q) (keys_along (map (λ (t : Turn). t.call) ts)) || list_any (same_key q) (keys_of (calls_of more))) ≡ true
    by later zero e = other-either (list_any (same_key q) (keys_along (map (λ (t : Turn). t.call) ts))) (list_any (same_key q) (keys_of (calls_of more))) (later (omega (arith, some, e, length-append (marks q caller 1 ts) (all_marks q (suc caller) more))))
    by later (suc n) e = some-either (list_any (same_key q) (keys_along (map (λ (t : Turn). t.call) ts))) (list_any (same_key q) (keys_of (calls_of more))) (named-along q caller 1 ts drawn.0 (omega (arith, e)))

-- a key of a workload has two bytes

long-along : (q : List ℕ) (x n : ℕ) → list_any (same_key q) (keys_along (drawn_calls x n)) ≡ true → length q ≡ 2
long-along q x zero e = absurd (both_ways false refl e)
long-along q x (suc n) e =
    elim (or_cases (same_key q (drawn_key (next_number x))) (list_any (same_key q) (keys_along (drawn_calls (next_number x) n))) e) [
      | inl same ↦ ap length (same_is q (drawn_key (next_number x)) same)
      | inr later ↦ long-along q (next_number x) n later
    ]

pub long-named : (q : List ℕ) (calls start n : ℕ) → list_any (same_key q) (keys_of (drawn_threads calls start n)) ≡ true → length q ≡ 2
long-named q calls start zero e = absurd (both_ways false refl e)
long-named q calls start (suc n) e =
    let front = keys_along (drawn_calls (start % DRAWN_NUMBERS) calls) in
    let back = keys_of (drawn_threads calls (suc start) n) in
    elim (or_cases (list_any (same_key q) front) (list_any (same_key q) back) (sym (list_any-append (same_key q) front back) ∙ e)) [
      | inl here ↦ long-along q (start % DRAWN_NUMBERS) calls here
      | inr later ↦ long-named q calls (suc start) n later
    ]

-- ---- where no call was refused

unrefused-along : (P : List ℕ → Type 0) (ts : List Turn) → AllByRecursion IsDrawn ts → AllByRecursion (Written P) ts → count_by is_full (map (λ (t : Turn). t.reply) ts) ≡ 0 → AllByRecursion P (keys_along (map (λ (t : Turn). t.call) ts))
unrefused-along P [] drawn all none = tt
unrefused-along P (t ∷ ts) drawn all none =
    let first = sum_by-cons (λ y. cond (is_full y) 1 0) t.reply (map (λ (t : Turn). t.reply) ts) in
    let d = drawn.0 in
    subst (AllByRecursion P) (sym (key-first t d (keys_along (map (λ (t : Turn). t.call) ts)))) (
      all.0 d (writes (makes_write t.reply) (sym (writes-or-full d.number t.reply d.can)) (omega (arith, first, none))),
      unrefused-along P ts drawn.1 all.1 (omega (arith, first, none)),
    )
  where
    writes : (b : Bool) → not b ≡ is_full t.reply → one_if (is_full t.reply) ≡ 0 → b ≡ true
    writes true e none = refl
    writes false e none = let one : 1 ≡ one_if (is_full t.reply) = ap one_if e in absurd (omega arith)

pub unrefused : (P : List ℕ → Type 0) (threads : List (List Turn)) → AreDrawn threads → AllByRecursion (λ (ts : List Turn). AllByRecursion (Written P) ts) threads → fulls_of (replies_of threads) ≡ 0 → AllByRecursion P (keys_of (calls_of threads))
unrefused P [] drawn all none = tt
unrefused P (ts ∷ more) drawn all none =
    both-all P (keys_along (map (λ (t : Turn). t.call) ts)) (keys_of (calls_of more)) (unrefused-along P ts drawn.0 all.0 (omega (arith, none))) (unrefused P more drawn.1 all.1 (omega (arith, none)))
