-- What a step that writes tells its pass: all of the key's history, which ends with the write.
use Rattle.std.proofs.Common.{◌≡◌, ℕ, inl, List, [], ◌∷◌, ◌++◌, map, set, length, sym, refl, ap, ◌∙◌, subst, arith}
use mathlib.Core.Option.{some}
use mathlib.Core.Logic.{dite}
use native.Mathlib.Decide.{ℕ_discrete}
use lib.ListN.{get_elem?}
use Rattle.oak_model.specs.declared.writes.Kind.{Kind}
use Rattle.oak_model.specs.Counts.{Begins, Has}
use Rattle.oak_model.specs.History.{StampsRise}
use Rattle.oak_model.specs.KeyNumber.{key_number}
use Rattle.oak_model.specs.Limits.{Sizes}
use Rattle.oak_model.specs.State.{State}
use Rattle.oak_model.proofs.Lists.{at_map, map_set, begins_trans, begins_whole, begins_self}
use Rattle.oak_core.specs.declared.states.Knowledge.{Knowledge}
use Rattle.oak_core.specs.declared.states.KeyedWrite.{KeyedWrite}
use Rattle.oak_core.specs.declared.states.Lesson.{Lesson}
use Rattle.oak_core.specs.declared.states.PassState.{PassState}
use Rattle.oak_core.specs.CallSteps.{MetMore, Stands}
use Rattle.oak_core.specs.CallWrites.{Writes}
use Rattle.oak_core.specs.KeyHistories.{writes_of, state_behind}
use Rattle.oak_core.specs.KeyReads.{history_now, level_now}
use Rattle.oak_core.specs.KnownPlaces.{KnowsPlace, Remembers}
use Rattle.oak_core.specs.Learning.{write_lesson, wrote}
use Rattle.oak_core.specs.Lessons.{LessonStands}
use Rattle.oak_core.specs.Memory.{memory}
use Rattle.oak_core.specs.PassState.{seen_of, history, knowledge_of, Extends}
use Rattle.oak_core.specs.RebalanceSteps.{KeepsRooms}
use Rattle.oak_core.specs.Rule.{Rule}
use Rattle.oak_core.specs.TableState.{TableState}
use Rattle.oak_core.proofs.histories.Histories.{seen_stands}
use Rattle.oak_core.proofs.histories.HistoryEnds.{stamp_snoc}
use Rattle.oak_core.proofs.known.PinsKnown.{has_later}
use Rattle.oak_core.proofs.known.Remembering.{remembers_more}
use Rattle.oak_core.proofs.known.RemovedReads.{wrote_known}
use Rattle.oak_core.proofs.lessons.TaughtReads.{begins_shorter}
use Rattle.oak_core.proofs.histories.WrittenHistories.{wrote_here, wrote_others, wrote_more, wrote_seen}
use Rattle.oak_model.proofs.MemberLaws.{each_has}
use Rattle.oak_core.specs.declared.states.Numbers.{Numbers}
use Rattle.oak_core.proofs.calls.CallSteps.{met_both, begins_same, sights_same, sights_both}

-- what a pass has noted beside what it met is as before
abbrev pub Notes : PassState → PassState → Type 0
Notes v w = (w.findings.fulls ≡ v.findings.fulls) × (w.findings.swept ≡ v.findings.swept) × (w.findings.gones ≡ v.findings.gones) × (w.findings.sights ≡ v.findings.sights) × KeepsRooms v w

-- The pass v of the table s made the write x, and is w in the table behind it.
module _ (z : Sizes) (s : TableState) (r : Rule z s) (seat : ℕ) (v : PassState) (here : get_elem? s.states seat ≡ some v) (words : List ℕ) (w : PassState) (behind : Rule z record { words = words; states = set s.states seat w }) (there : get_elem? (set s.states seat w) seat ≡ some w)
    (k : ℕ) (x : KeyedWrite) (key : key_number x.key ≡ k) (knowledge : w.knowledge ≡ wrote k x (map knowledge_of s.states) v.knowledge) where
  abbrev qs : List Knowledge
  qs = map knowledge_of s.states

  abbrev vs' : List PassState
  vs' = set s.states seat w

  q_here : get_elem? qs seat ≡ some v.knowledge
  q_here = at_map knowledge_of s.states seat v here

  qs_are : map knowledge_of vs' ≡ set qs seat (wrote k x qs v.knowledge)
  qs_are = map_set knowledge_of s.states seat w ∙ ap (set qs seat) knowledge

  hist_here : history_now (set s.states seat w) k ≡ history k (map knowledge_of s.states) ++ x ∷ []
  hist_here = ap (history k) qs_are ∙ wrote_here qs r.histories seat v.knowledge q_here k x key

  -- each history goes on
  hist_longer : (j : ℕ) → Begins (history j qs) (history_now vs' j)
  hist_longer j = dite (ℕ_discrete j k) (λ e. subst (λ (i : ℕ). Begins (history i qs) (history_now vs' i)) (sym e) (x ∷ [], hist_here))
      (λ ne. subst (Begins (history j qs)) (sym (ap (history j) qs_are ∙ wrote_others qs r.histories seat v.knowledge q_here k x key j ne)) (begins_self (history j qs)))

  begins : (j : ℕ) → Begins (seen_of j w.knowledge) (history_now vs' j)
  begins j = seen_stands (map knowledge_of vs') behind.histories j seat w.knowledge (at_map knowledge_of vs' seat w there)

  pub write_longer : Begins (seen_of k v.knowledge) (history k (map knowledge_of s.states))
  write_longer = seen_stands qs r.histories k seat v.knowledge q_here

  pub write_extends : Extends v w
  write_extends j = begins_shorter (seen_of j v.knowledge) (seen_of j w.knowledge) (history_now vs' j) (begins_trans (seen_of j v.knowledge) (history j qs) (history_now vs' j) (seen_stands qs r.histories j seat v.knowledge q_here) (hist_longer j)) (begins j)
      (let m = wrote_more qs r.histories seat v.knowledge q_here k x key j in let e = ap (λ (q : Knowledge). length (seen_of j q)) knowledge in omega arith)

  pub write_remembers : Remembers v.knowledge w.knowledge
  write_remembers = remembers_more v.knowledge w.knowledge (write_lesson x (history k qs) ∷ []) (ap (λ (q : Knowledge). q.heard) knowledge)

  -- the pass has seen all of the key
  pub write_seen : seen_of k w.knowledge ≡ history k (map knowledge_of s.states) ++ x ∷ []
  write_seen = begins_whole (seen_of k w.knowledge) (history_now vs' k) (begins k)
      (let l = wrote_seen qs r.histories seat v.knowledge q_here k x key in let e = ap (λ (q : Knowledge). length (seen_of k q)) knowledge in let h = ap length hist_here in omega arith) ∙ hist_here

  -- and the write's own place is the end of it
  pub write_place : KnowsPlace k x.write.stamp (length (seen_of k w.knowledge)) w.knowledge
  write_place = let lesson = write_lesson x (history k qs) in let level = level_now z (memory z words) vs' in
      let has : Has lesson w.knowledge.heard = subst (λ (l : List Lesson). Has lesson l) (sym (ap (λ (q : Knowledge). q.heard) knowledge)) (has_later v.knowledge.heard (lesson ∷ []) lesson (inl refl)) in
      let stands = each_has (LessonStands level (history_now vs') w.knowledge) w.knowledge.heard lesson (behind.heard.lessons seat w.knowledge (at_map knowledge_of vs' seat w there)) has in
      let rise = subst (λ (l : List KeyedWrite). StampsRise 0 (writes_of l)) hist_here (behind.keys.legal k).legal.stamps in
      subst (λ (p : ℕ × ℕ). KnowsPlace p.0 x.write.stamp p.1 w.knowledge) (λ i. (key i, ap length (sym write_seen) i))
      (wrote_known level (history_now vs') qs w.knowledge x (history k qs) stands has (ap (history_now vs') key ∙ hist_here) rise (stamp_snoc (history k qs) x))

  module _ (call : ℕ) (met : MetMore call v w) (numbers : w.numbers ≡ v.numbers) (notes : Notes v w) (caller : x.write.caller ≡ v.numbers.number) (call_is : x.write.call ≡ call) where
    pub writes_of_call : (of : List ℕ) (kind : Kind) (before after : State) (stamp : ℕ) → key_number of ≡ k → state_behind (history k (map knowledge_of s.states)) ≡ before → x.write.after ≡ after → x.write.stamp ≡ stamp → x.write.kind ≡ kind → Writes call of kind before after stamp v w
    writes_of_call of kind before after stamp same state after_is stamp_is kind_is = record {
      met = met;
      seen = write_extends;
      remembers = write_remembers;
      numbers = numbers;
      fulls = notes.0;
      swept = notes.1;
      gones = begins_same v.findings.gones w.findings.gones notes.2;
      sights = sights_same call v w notes.3;
      rebalances = notes.4;
      loaded = begins_same v.knowledge.loaded w.knowledge.loaded (ap (λ (q : Knowledge). q.loaded) knowledge);
      write = x;
      mine = ap (λ (q : Knowledge). q.mine) knowledge;
      rest = history k qs;
      ends = ap (λ (i : ℕ). seen_of i w.knowledge) same ∙ write_seen;
      longer = subst (λ (i : ℕ). Begins (seen_of i v.knowledge) (history k qs)) (sym same) write_longer;
      state = state;
      after_is = after_is;
      stamp_is = stamp_is;
      caller = caller;
      call_is = call_is;
      kind_is = kind_is;
      known = subst (λ (p : ℕ × ℕ). KnowsPlace p.0 p.1 (length (seen_of p.0 w.knowledge)) w.knowledge) (λ i. (sym same i, stamp_is i)) write_place;
    }

-- the write of a call that began earlier, and had learned nothing before it
pub writes_since : (call : ℕ) (of : List ℕ) (kind : Kind) (before after : State) (stamp : ℕ) (u v w : PassState) → Stands call u v → Writes call of kind before after stamp v w → Writes call of kind before after stamp u w
writes_since call of kind before after stamp u v w s x = record {
  met = met_both call u v w s.met x.met;
  seen = λ k. subst (λ (q : Knowledge). Begins (seen_of k q) (seen_of k w.knowledge)) s.knowledge (x.seen k);
  remembers = subst (λ (q : Knowledge). Remembers q w.knowledge) s.knowledge x.remembers;
  numbers = x.numbers ∙ s.numbers;
  fulls = x.fulls ∙ s.fulls;
  rebalances = x.rebalances ∙ s.rebalances;
  swept = x.swept ∙ s.swept;
  gones = begins_trans u.findings.gones v.findings.gones w.findings.gones (begins_same u.findings.gones v.findings.gones s.gones) x.gones;
  sights = sights_both call u v w (sights_same call u v s.sights) x.sights;
  loaded = subst (λ (q : Knowledge). Begins q.loaded w.knowledge.loaded) s.knowledge x.loaded;
  write = x.write;
  mine = x.mine ∙ ap (λ (q : Knowledge). q.mine ++ x.write ∷ []) s.knowledge;
  rest = x.rest;
  ends = x.ends;
  longer = subst (λ (q : Knowledge). Begins (seen_of (key_number of) q) x.rest) s.knowledge x.longer;
  state = x.state;
  after_is = x.after_is;
  stamp_is = x.stamp_is;
  caller = x.caller ∙ ap (λ (n : Numbers). n.number) s.numbers;
  call_is = x.call_is;
  kind_is = x.kind_is;
  known = x.known;
}
