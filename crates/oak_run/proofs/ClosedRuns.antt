-- From the turns of a thread's calls on the map to a run that fits its closed map, for a run of one thread.
use Rattle.std.proofs.Common.{◌≡◌, ℕ, Bool, cond, true, false, List, [], ◌∷◌, ◌++◌, map, None, Some, refl, sym, ap, ◌∙◌, subst, inl, inr}
use Rattle.std.specs.List.{slice_get}
use Rattle.std.specs.List.Sorted.{IsPermutation}
use Rattle.std.proofs.lemmas.Bool.{cases_Bool}
use Rattle.std.proofs.lemmas.List.{append-nil}
use Rattle.std.proofs.lemmas.List.Sorted.{IsPermutation-refl}
use Rattle.oak_model.specs.declared.replies.Pair.{Pair}
use Rattle.oak_model.specs.declared.replies.Reply.{Reply}
use Rattle.oak_model.specs.declared.writes.Write.{Write}
use Rattle.oak_model.specs.Counts.{Each}
use Rattle.oak_model.specs.History.{AreDistinctCalls, History, IsLegal}
use Rattle.oak_model.specs.Key.{is_key}
use Rattle.oak_model.specs.KeyNumber.{key_number}
use Rattle.oak_model.proofs.KeyLaws.{is_key-is}
use Rattle.oak_model.proofs.NumberLaws.{key_number_is}
use Rattle.oak_core.specs.declared.closing.Closed.{Closed}
use Rattle.oak_core.specs.declared.states.Joined.{Joined}
use Rattle.oak_core.specs.declared.states.KeyedWrite.{KeyedWrite}
use Rattle.oak_core.specs.declared.states.Numbers.{Numbers}
use Rattle.oak_core.specs.declared.states.PassState.{PassState}
use Rattle.oak_core.specs.Callers.{CallsRise}
use Rattle.oak_core.specs.Closing.{closed_findings, closed_key, closed_state, closed_words}
use Rattle.oak_core.specs.KeyHistories.{writes_of}
use Rattle.oak_core.specs.KnownPlaces.{Remembers}
use Rattle.oak_core.specs.Memory.{memory}
use Rattle.oak_core.specs.PassState.{Extends, HoldsNothing, IsAlone, of_key, seen_of}
use Rattle.oak_core.specs.Splitting.{Ends}
use Rattle.oak_core.specs.Usage.{usage_of, used_chunks}
use Rattle.lone_counts.specs.LoneTable.{retired_in}
use Rattle.scan_cursor.specs.declared.ways.Way.TheVariants.{Up}
use Rattle.scan_cursor.specs.Scanned.{HasScanned}
use Rattle.scan_cursor.specs.Views.{View}
use Rattle.oak_script.specs.declared.scripts.Call.{Call}
use Rattle.oak_map.specs.Closings.{UsesJustMap}
use Rattle.oak_run.specs.Answers.{AnswersFit, Mark, mark_of, marks}
use Rattle.oak_run.specs.Behind.{GoesBehind, histories}
use Rattle.oak_run.specs.Findings.{FindingsFit}
use Rattle.oak_run.specs.ClosedRuns.{closing_of}
use Rattle.oak_run.specs.MapThreads.{ThreadFits}
use Rattle.oak_run.specs.Reads.{OnlyReads}
use Rattle.oak_run.specs.Refusals.{RefusalsFit}
use Rattle.oak_run.specs.RunFits.{RunFits}
use Rattle.oak_run.specs.Shown.{FindsMore}
use Rattle.oak_run.specs.Views.{no_names}
use Rattle.oak_run.proofs.BehindLaws.{behind_before}
use Rattle.oak_run.proofs.CallsOnce.{one_write}
use Rattle.oak_run.proofs.ClosedBehind.{closed_behind, closed_finds}
use Rattle.oak_run.proofs.ClosedEnds.{end_fits}
use Rattle.oak_run.proofs.ForeignMarks.{no_marks}
use Rattle.oak_run.proofs.OwnWrites.{own_rise, seen_is_own}

-- the histories by keys, where a key is one and where it is none

pub at_key : (hs : ℕ → List KeyedWrite) (q : List ℕ) → is_key q ≡ true → histories hs q ≡ writes_of (hs (key_number q))
at_key hs q e = ap (λ (b : Bool). cond b (writes_of (hs (key_number q))) []) e

pub at_other : (hs : ℕ → List KeyedWrite) (q : List ℕ) → is_key q ≡ false → histories hs q ≡ []
at_other hs q e = ap (λ (b : Bool). cond b (writes_of (hs (key_number q))) []) e

pub behind_legal : (v : PassState) (hs : ℕ → List KeyedWrite) → GoesBehind v hs → (q : List ℕ) → IsLegal (histories hs q)
behind_legal v hs b q = elim (cases_Bool (is_key q)) [
  | inl e ↦ subst IsLegal (sym (at_key hs q e)) (b.legal (key_number q)).legal
  | inr e ↦ subst IsLegal (sym (at_other hs q e)) (record { stamps = tt; cell = tt })
]

-- a write in the histories is of a key
pub key_there : (hs : ℕ → List KeyedWrite) (q : List ℕ) (i : ℕ) (w : Write) → slice_get (histories hs q) i ≡ Some w → is_key q ≡ true
key_there hs q i w there = elim (cases_Bool (is_key q)) [
  | inl e ↦ e
  | inr e ↦ absurd (nothing i (subst (λ (l : History). slice_get l i ≡ Some w) (at_other hs q e) there))
]
  where
    nothing : (i : ℕ) → slice_get [] i ≡ Some w → ⊥
    nothing i e = cc

-- no two writes of the pass are of one call
own_distinct : (hs : ℕ → List KeyedWrite) (mine : List KeyedWrite) → ((k : ℕ) → hs k ≡ of_key k mine) → CallsRise mine → AreDistinctCalls (histories hs)
own_distinct hs mine own rise k l i j v w there here caller call =
    let a = key_there hs k i v there in
    let b = key_there hs l j w here in
    let same = one_write mine (key_number k) (key_number l) i j v w rise
    (subst (λ (x : List KeyedWrite). slice_get (writes_of x) i ≡ Some v) (own (key_number k)) (subst (λ (x : History). slice_get x i ≡ Some v) (at_key hs k a) there))
    (subst (λ (x : List KeyedWrite). slice_get (writes_of x) j ≡ Some w) (own (key_number l)) (subst (λ (x : History). slice_get x j ≡ Some w) (at_key hs l b) here)) call in
    let p = is_key-is k a in
    let q = is_key-is l b in
    (key_number_is k l p.1 q.1 p.0 q.0 same.0, same.1)

module _ (c : Closed) (ends : Ends (closed_key c) (closed_words c) (closed_state c)) (number : (closed_state c).numbers.number ≡ 1) (idle_joined : Each (λ (j : Joined). j.mine ≡ []) (closed_state c).numbers.joined)
    (v : PassState) (cs : List Call) (ys : List Reply) (x : ThreadFits (closed_key c) v cs ys) (reads : OnlyReads v (closed_state c)) where
  abbrev u : PassState
  u = closed_state c

  abbrev hs : ℕ → List KeyedWrite
  hs k = seen_of k u.knowledge

  behind : GoesBehind v hs
  behind = behind_before v u hs reads.extends reads.remembers (closed_behind c ends)

  first : v.numbers.number ≡ 1
  first = sym (ap (λ (n : Numbers). n.number) reads.numbers) ∙ number

  found : FindsMore v.findings (closed_findings c v.numbers.number)
  found = subst (λ (n : Numbers). FindsMore v.findings (closed_findings c n.number)) reads.numbers (closed_finds c v.findings reads.finds)

  its_number : (P : ℕ → Type 0) → P v.numbers.number → P 1
  its_number P p = subst P first p

  answers : AnswersFit (histories hs) 1 1 x.turns
  answers = its_number (λ n. AnswersFit (histories hs) n 1 x.turns) (x.answers hs behind)

  marks_are : (q : List ℕ) → marks q 1 1 x.turns ≡ map mark_of (histories hs q)
  marks_are q = elim (cases_Bool (is_key q)) [
    | inl e ↦ its_number (λ n. marks q n 1 x.turns ≡ map mark_of (writes_of (of_key (key_number q) v.knowledge.mine))) (x.once q e)
        ∙ (ap (λ (l : List KeyedWrite). map mark_of (writes_of (of_key (key_number q) l))) (sym reads.mine)
        ∙ (ap (λ (l : List KeyedWrite). map mark_of (writes_of l)) (sym (seen_is_own (closed_key c) (closed_words c) u ends number idle_joined (key_number q))) ∙ ap (map mark_of) (sym (at_key hs q e))))
    | inr e ↦ no_marks (histories hs) q 1 1 x.turns (at_other hs q e) answers ∙ ap (map mark_of) (sym (at_other hs q e))
  ]

  pub once : (q : List ℕ) → IsPermutation (marks q 1 1 x.turns ++ []) (map mark_of (histories hs q))
  once q = subst (λ (ms : List Mark). IsPermutation ms (map mark_of (histories hs q))) (sym (append-nil (marks q 1 1 x.turns) ∙ marks_are q)) (IsPermutation-refl (map mark_of (histories hs q)))

  module _ (alone : IsAlone u) (idle : HoldsNothing u) (before now : View) (finals : List Pair) (scan : HasScanned Up None None before now finals) (since : Extends now.state u) (remembers : Remembers now.state.knowledge u.knowledge)
      (same : (k : ℕ) → seen_of k before.state.knowledge ≡ seen_of k u.knowledge) (uses : UsesJustMap c) where
    pub run_fits_alone : RunFits (closing_of c) (closed_key c) (cs ∷ []) (ys ∷ []) finals
    run_fits_alone = record {
      threads = x.turns ∷ [];
      of_calls = ap (λ (l : List Call). l ∷ []) x.of_calls;
      of_replies = ap (λ (l : List Reply). l ∷ []) x.of_replies;
      answered = (x.answered, tt);
      sizes = refl;
      legal = behind_legal v hs behind;
      distinct = own_distinct hs u.knowledge.mine (seen_is_own (closed_key c) (closed_words c) u ends number idle_joined) (own_rise (closed_key c) (closed_words c) u ends number idle_joined);
      replies = record { each = (answers, tt); once = once };
      order = (x.order, tt);
      views = (x.views hs behind, tt);
      scans = (x.scans hs behind, tt);
      refusals = (its_number (λ n. RefusalsFit (closing_of c) n 1 x.turns) (x.refusals (closed_findings c) hs (usage_of (closed_key c) (memory (closed_key c) (closed_words c))) (retired_in (closed_key c) (closed_words c)) (used_chunks (closed_key c) (memory (closed_key c) (closed_words c))) behind found), tt);
      ending = end_fits c ends before now finals scan since remembers same alone idle uses;
      findings = (its_number (λ n. FindingsFit (closing_of c) n 1 no_names x.turns) (x.findings (closed_findings c) hs (usage_of (closed_key c) (memory (closed_key c) (closed_words c))) (retired_in (closed_key c) (closed_words c)) (used_chunks (closed_key c) (memory (closed_key c) (closed_words c))) behind found), tt);
    }
