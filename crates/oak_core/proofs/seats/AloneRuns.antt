-- Steps of a pass that is alone follow one another on one list of words.
use Rattle.std.proofs.Common.{true, Bool, ◌≡◌, ℕ, zero, suc, arith, nat_lt, List, [], ◌∷◌, set, get_or, sym, refl, ap, ◌∙◌, subst, inl, inr, ⊎_elim}
use Rattle.std.proofs.lemmas.Bool.{lt-ltb}
use Rattle.std.specs.List.{list_all}
use lib.Seq.{set-get_or}
use Rattle.oak_model.specs.declared.replies.Lack.{Lack}
use Rattle.oak_model.specs.Counts.{one_at}
use Rattle.oak_model.specs.Limits.{Sizes}
use Rattle.oak_model.proofs.Counting.{true_both, total_at, one_at-same}
use mathlib.Core.Option.{some}
use lib.ListN.{get_elem?}
use Rattle.oak_core.specs.declared.states.Finding.{Finding}
use Rattle.oak_core.specs.declared.states.PassState.{PassState}
use Rattle.oak_core.specs.AloneWords.{LeavesWords, Moment, Runs, RunsTo}
use Rattle.oak_core.specs.Memory.{Spot, at_given, index}
use Rattle.oak_core.specs.PassState.{IsAlone, is_alone, rooted}
use Rattle.oak_core.specs.Step.{Step, load, give_number, on_arena, on_headers, on_rooms, store_locked, note_full, spot, effect, state_after, Told}
use Rattle.oak_core.specs.Splitting.{Loads, Ends}
use Rattle.oak_model.proofs.Lists.{set_there}
use Rattle.oak_core.proofs.seats.AloneLast.{last_is}
use Rattle.oak_core.proofs.kinds.EachEvent.{rule_keeps}

all_pass : (p : ℕ → Bool) (xs : List ℕ) → ((i k : ℕ) → get_elem? xs i ≡ some k → p k ≡ true) → list_all p xs ≡ true
all_pass p [] h = refl
all_pass p (x ∷ xs) h = true_both (p x) (list_all p xs) (h zero x refl) (all_pass p xs (λ i k e. h (suc i) k e))

-- what is alone passes the test
pub is_alone-true : (v : PassState) → IsAlone v → is_alone v.numbers ≡ true
is_alone-true v a = true_both (nat_lt 0 (rooted 0 v.numbers)) (list_all (λ (k : ℕ). nat_lt 0 (rooted k v.numbers)) v.numbers.made) (lt-ltb 0 (rooted 0 v.numbers) a.first)
    (all_pass (λ (k : ℕ). nat_lt 0 (rooted k v.numbers)) v.numbers.made (λ i k e. lt-ltb 0 (rooted k v.numbers) (a.others k (let t = total_at (λ (m : ℕ). one_at m k) v.numbers.made i k e in let o = one_at-same k k refl in omega arith))))

-- a step other than that which gives a number
abbrev pub Keeps : Step → Type 0
Keeps (load p) = Unit {0}
Keeps (give_number k) = ⊥
Keeps (on_arena a) = Unit {0}
Keeps (on_headers x) = Unit {0}
Keeps (on_rooms x) = Unit {0}
Keeps (store_locked h c b k x) = Unit {0}
Keeps (note_full lack began) = Unit {0}

abbrev words_after : (z : Sizes) (x : Step) (words : List ℕ) → List ℕ
words_after z x words = set words (index z (spot x)) (effect x (get_or words (index z (spot x)) 0))

leaves : (z : Sizes) (call : ℕ) (x : Step) (s : Rattle.oak_core.specs.TableState.TableState) (v : PassState) → Keeps x → is_alone v.numbers ≡ true → LeavesWords (words_after z x s.words) (state_after z call x s v)
leaves z call (load p) s v k a = record { met = v.findings.met; finding = _; last = refl; alone = a; are = refl }
leaves z call (give_number n) s v k a = absurd k
leaves z call (on_arena x) s v k a = record { met = v.findings.met; finding = _; last = refl; alone = a; are = refl }
leaves z call (on_headers x) s v k a = record { met = v.findings.met; finding = _; last = refl; alone = a; are = refl }
leaves z call (on_rooms x) s v k a = record { met = v.findings.met; finding = _; last = refl; alone = a; are = refl }
leaves z call (store_locked h c b n x) s v k a = record { met = v.findings.met; finding = _; last = refl; alone = a; are = refl }
leaves z call (note_full lack began) s v k a = record { met = v.findings.met; finding = _; last = refl; alone = a; are = refl }

-- The words that the pass left stand there at its next step.
pub words_stand : (z : Sizes) (call : ℕ) (x : Step) (v : PassState) (n : ℕ) (w : PassState) (words : List ℕ) → LeavesWords words v → (t : Told z call x v n w) → t.table.words ≡ words
words_stand z call x v n w words l t = (t.rule.alone t.seat v t.here l.met l.finding l.last l.alone).0 ∙ l.are

-- what one step does to the words, and the number that it finds there
abbrev pub DoesStep : Sizes → Step → ℕ → List ℕ → List ℕ → Type 0
DoesStep z x n before after = (n ≡ get_or before (index z (spot x)) 0) × (after ≡ words_after z x before)

-- the first step of a pass that has come to be alone: from now on it leaves words
pub step_starts : (z : Sizes) (call : ℕ) (x : Step) (v : PassState) (n : ℕ) (w : PassState) → Keeps x → IsAlone v → (t : Told z call x v n w) → LeavesWords (words_after z x t.table.words) w
step_starts z call x v n w k a t = subst (LeavesWords (words_after z x t.table.words)) (sym t.after) (leaves z call x t.table v k (is_alone-true v a))

-- a step of a pass that is alone
pub step_runs : (z : Sizes) (call : ℕ) (x : Step) (v : PassState) (n : ℕ) (w : PassState) → Keeps x → Told z call x v n w → Runs (DoesStep z x n) v w
step_runs z call x v n w k t = record {
  goes = λ before l.
      let alone : IsAlone v = (t.rule.alone t.seat v t.here l.met l.finding l.last l.alone).1 in
      let same : t.table.words ≡ before = words_stand z call x v n w before l t in
      record {
        after = words_after z x before;
        leaves = subst (λ (ws : List ℕ). LeavesWords (words_after z x ws) w) same (step_starts z call x v n w k alone t);
        does = (sym t.finds ∙ ap (λ (ws : List ℕ). get_or ws (index z (spot x)) 0) same, refl);
      };
  starts = λ a. inr (t.table.words, record { after = words_after z x t.table.words; leaves = step_starts z call x v n w k a t; does = (sym t.finds, refl) });
}

-- the words that a pass left are one list
pub one_words : (v : PassState) (a b : List ℕ) → LeavesWords a v → LeavesWords b v → a ≡ b
one_words v a b l m = let same : l.finding ≡ m.finding = last_is l.met m.met l.finding m.finding (sym l.last ∙ m.last) in sym l.are ∙ (ap (λ (f : Finding). f.words) same ∙ m.are)

-- what was done first, and what was done then
abbrev pub Then : (P Q : List ℕ → List ℕ → Type 0) → List ℕ → List ℕ → Type 0
Then P Q before after = (middle : List ℕ) × P before middle × Q middle after

pub runs_then : (P Q : List ℕ → List ℕ → Type 0) (u v w : PassState) → Runs P u v → Runs Q v w → Runs (Then P Q) u w
runs_then P Q u v w a b = record {
  goes = λ before l. then before (a.goes before l);
  starts = λ alone. ⊎_elim
      (λ (n : (u ≡ v) × ((words : List ℕ) → P words words)). ⊎_elim
      (λ (m : (v ≡ w) × ((words : List ℕ) → Q words words)). inl (n.0 ∙ m.0, λ words. (words, n.1 words, m.1 words)))
      (λ (m : (before : List ℕ) × RunsTo Q before w). let r = m.1 in inr (m.0, record { after = r.after; leaves = r.leaves; does = (m.0, n.1 m.0, r.does) }))
      (b.starts (subst IsAlone n.0 alone)))
      (λ (r : (before : List ℕ) × RunsTo P before v). inr (r.0, then r.0 r.1))
      (a.starts alone);
}
  where
    then : (before : List ℕ) → RunsTo P before v → RunsTo (Then P Q) before w
    then before r = let s = b.goes r.after r.leaves in record { after = s.after; leaves = s.leaves; does = (r.after, r.does, s.does) }

pub runs_as : (P Q : List ℕ → List ℕ → Type 0) (v w : PassState) → ((a b : List ℕ) → P a b → Q a b) → Runs P v w → Runs Q v w
runs_as P Q v w f h = record {
  goes = λ before l. as_told before (h.goes before l);
  starts = λ alone. ⊎_elim (λ (n : (v ≡ w) × ((words : List ℕ) → P words words)). inl (n.0, λ words. f words words (n.1 words))) (λ (r : (before : List ℕ) × RunsTo P before w). inr (r.0, as_told r.0 r.1)) (h.starts alone);
}
  where
    as_told : (before : List ℕ) → RunsTo P before w → RunsTo Q before w
    as_told before r = record { after = r.after; leaves = r.leaves; does = f before r.after r.does }

-- no step leaves all as it is
pub runs_none : (P : List ℕ → List ℕ → Type 0) (v : PassState) → ((a : List ℕ) → P a a) → Runs P v v
runs_none P v f = record { goes = λ before l. record { after = before; leaves = l; does = f before }; starts = λ alone. inl (refl, f) }

-- a load leaves the words
pub load_runs : (z : Sizes) (call : ℕ) (p : Spot) (v : PassState) (n : ℕ) (w : PassState) → Told z call (load p) v n w → Runs (λ a b. (n ≡ get_or a (index z p) 0) × (b ≡ a)) v w
load_runs z call p v n w t = runs_as (DoesStep z (load p) n) (λ x y. (n ≡ get_or x (index z p) 0) × (y ≡ x)) v w (λ x y d. (d.0, d.1 ∙ set-get_or x (index z p) 0)) (step_runs z call (load p) v n w tt t)

pub loads_run : (z : Sizes) (call word : ℕ) (v : PassState) (n : ℕ) (w : PassState) → Loads z call word v n w → Runs (λ a b. (n ≡ get_or a word 0) × (b ≡ a)) v w
loads_run z call word v n w l = subst (λ (i : ℕ). Runs (λ a b. (n ≡ get_or a i 0) × (b ≡ a)) v w) l.at (load_runs z call l.spot v n w l.told)

-- and so does noting a call
pub note_runs : (z : Sizes) (call : ℕ) (lack : Lack) (began : ℕ) (v : PassState) (n : ℕ) (w : PassState) → Told z call (note_full lack began) v n w → Runs (λ a b. b ≡ a) v w
note_runs z call lack began v n w t = runs_as (DoesStep z (note_full lack began) n) (λ x y. y ≡ x) v w (λ x y d. d.1 ∙ set-get_or x (index z at_given) 0) (step_runs z call (note_full lack began) v n w tt t)

-- behind a step of any pass the rule holds, at the words that it left
pub moment_after : (z : Sizes) (call : ℕ) (x : Step) (v : PassState) (n : ℕ) (w : PassState) → (t : Told z call x v n w) → Moment z (words_after z x t.table.words) w
moment_after z call x v n w t = record {
  states = set t.table.states t.seat (state_after z call x t.table v);
  rule = rule_keeps z t.table call t.seat v t.rule t.here t.going x t.may;
  seat = t.seat;
  here = subst (λ (y : PassState). get_elem? (set t.table.states t.seat (state_after z call x t.table v)) t.seat ≡ some y) (sym t.after) (set_there t.table.states t.seat v (state_after z call x t.table v) t.here);
}

-- before a step of a pass that is alone it holds at the words that the pass left
pub moment_before : (z : Sizes) (call : ℕ) (x : Step) (v : PassState) (n : ℕ) (w : PassState) (words : List ℕ) → LeavesWords words v → Told z call x v n w → Moment z words v
moment_before z call x v n w words l t = subst (λ (ws : List ℕ). Moment z ws v) (words_stand z call x v n w words l t) (record { states = t.table.states; rule = t.rule; seat = t.seat; here = t.here })

-- a table is closed with the words that its last pass left
pub closed_words_are : (z : Sizes) (words left : List ℕ) (v : PassState) → Ends z words v → LeavesWords left v → words ≡ left
closed_words_are z words left v e l = sym e.words_are ∙ ((e.rule.alone e.seat v e.here l.met l.finding l.last l.alone).0 ∙ l.are)
