-- A key whose life a pin found dead was read absent, at the stamp of the removal, where what its pass had seen of the key does not go past the life.
use Rattle.std.proofs.Common.{◌≡◌, ℕ, suc, ◌<◌, ◌≤◌, true, List, [], ◌∷◌, map, length, sym, refl, ap, ◌∙◌, subst, inl, arith, Option, Some, None}
use Rattle.pin_word.specs.PinWord.{generation_of, state_of}
use mathlib.Core.Option.{some}
use lib.ListN.{get_elem?}
use Rattle.oak_model.specs.Counts.{Begins, Has}
use Rattle.oak_model.specs.History.{StampsRise}
use Rattle.oak_model.specs.KeyNumber.{key_number}
use Rattle.oak_model.specs.Limits.{Sizes}
use Rattle.oak_model.proofs.Lists.{at_map}
use Rattle.chunk_core.proofs.ValueWords.{none_named}
use Rattle.header_core.specs.Headers.{at_pin, at_stamp}
use Rattle.header_core.specs.HeaderStep.{pin_header}
use Rattle.header_core.specs.declared.holds.PinnedHeader.{PinnedHeader}
use Rattle.oak_core.specs.declared.states.KeyedWrite.{KeyedWrite}
use Rattle.oak_core.specs.declared.states.Knowledge.{Knowledge}
use Rattle.oak_core.specs.declared.states.Lesson.{Lesson}
use Rattle.oak_core.specs.declared.states.PassState.{PassState}
use Rattle.oak_core.specs.KeyHistories.{writes_of, before, state_behind, IsRemovedAt}
use Rattle.oak_core.specs.KeyReads.{home_of}
use Rattle.oak_core.specs.KnownPlaces.{ReadAt}
use Rattle.oak_core.specs.LastReads.{EndsAs, NotPast, ReadsLast}
use Rattle.oak_core.specs.Learning.{lesson_by, of_key_to, reach_of, taught_by, taught_where}
use Rattle.oak_core.specs.LifeKeys.{key_known, key_or, loaded_in}
use Rattle.oak_core.specs.HeaderTeaching.{is_over}
use Rattle.oak_core.specs.CallSteps.{Learns}
use Rattle.oak_core.specs.Lessons.{LessonStands}
use Rattle.oak_core.specs.Memory.{Memory, in_headers, index, memory}
use Rattle.oak_core.specs.PassState.{history, knowledge_of, seen_of}
use Rattle.oak_core.specs.StampLoads.{shows_stamp, stamp_key, wanted_of}
use Rattle.oak_core.specs.Step.{load, on_headers, Told}
use Rattle.oak_core.proofs.calls.CallSteps.{learns_both}
use Rattle.oak_core.proofs.histories.Histories.{seen_stands}
use Rattle.oak_core.proofs.known.KnowledgeAfter.{over_knowledge}
use Rattle.oak_core.proofs.known.KnownLives.{dead_gone, named_at}
use Rattle.oak_core.proofs.known.KnownPlaces.{heard_place, place_length}
use Rattle.oak_core.proofs.known.KnownReads.{read_stays}
use Rattle.oak_core.proofs.lessons.LessonLaws.{lesson_taught}
use Rattle.oak_core.proofs.lessons.LessonReach.{reach_here}
use Rattle.oak_core.proofs.histories.LivesOnce.{begins_once}
use Rattle.oak_core.proofs.told.PinTold.{dead_over, dead_stamp, pin_knows}
use Rattle.oak_core.proofs.known.PinsKnown.{has_later}
use Rattle.oak_core.proofs.kinds.StampSteps.{stamp_knows, stamp_learns}
use Rattle.oak_core.proofs.histories.WritesBelow.{before_first}
use Rattle.oak_core.proofs.memory.Words.{memory_read}
use Rattle.value_ops.specs.declared.pinning.BadPin.TheVariants.{Dead}
use Rattle.value_ops.specs.Pinning.{KnowsLife, PinsDud}
use Rattle.value_ops.proofs.LearnFacts.{learned_met, learned_pin, life_stays, told_at}
use Rattle.point_ops.proofs.KnownEnds.{ends_still}
use Rattle.point_ops.proofs.RemovalSeen.{absent_behind, seen_within, state_at_end, taught_just}

module _ (z : Sizes) (call h g stamp : ℕ) (v w : PassState) (d : PinsDud z call h g (Dead stamp) v w) (key : List ℕ) (knows : KnowsLife h g key v.knowledge) (past : NotPast (key_number key) (home_of h g) v.knowledge) (named : loaded_in call h g v.knowledge.loaded ≡ true) where
  abbrev t : Told z call (on_headers (pin_header h g)) v d.number d.pinned
  t = d.told

  abbrev m : Memory
  m = memory z d.told.table.words

  abbrev qs : List Knowledge
  qs = map knowledge_of d.told.table.states

  abbrev k : ℕ
  k = key_number key

  abbrev hist : List KeyedWrite
  hist = history k qs

  q_here : get_elem? qs d.told.seat ≡ some v.knowledge
  q_here = at_map knowledge_of d.told.table.states d.told.seat v d.told.here

  rise : (j : ℕ) → StampsRise 0 (writes_of (history j qs))
  rise j = (d.told.rule.keys.legal j).legal.stamps

  inside : h < z.headers
  inside = d.told.may.0.inside

  word_is : m.headers.pin h ≡ d.number
  word_is = memory_read z d.told.table.words (in_headers (at_pin h)) inside ∙ d.told.finds

  over : is_over g d.number ≡ true
  over = dead_over g d.number d.cause.0 d.cause.1

  -- the removal of the life has the stamp that was loaded
  removed : IsRemovedAt (home_of h g) stamp hist
  removed = subst (λ (n : ℕ). IsRemovedAt (home_of h g) n hist) (sym d.looks.1) (dead_gone z d.told.table d.told.rule d.told.seat v d.told.here h g inside key knows (ap state_of word_is ∙ d.cause.1) (ap generation_of word_is ∙ d.cause.0))

  -- the pin taught the key's writes up to it
  learned : d.pinned.knowledge ≡ taught_by (of_key_to key stamp) qs v.knowledge
  learned = pin_knows z call h g v d.number d.pinned t ∙ (over_knowledge call m qs v h g key knows (ap (is_over g) word_is ∙ over) ∙ ap (λ (n : ℕ). taught_by (of_key_to key n) qs v.knowledge) (dead_stamp z call h g v d.number d.pinned t key knows over d.cause.1 d.cause.0 ∙ sym d.looks.1))

  within : length (seen_of k v.knowledge) ≤ length (before (suc stamp) hist)
  within = let names = (named_at z d.told.table d.told.rule d.told.seat v d.told.here h g inside key knows).names in
      seen_within k (home_of h g) stamp hist (d.told.rule.keys.legal k) removed (λ e. none_named (home_of h g) names e) (begins_once d.told.table.states d.told.rule.callers (home_of h g) k names) (seen_of k v.knowledge) (seen_stands qs d.told.rule.histories k d.told.seat v.knowledge q_here) past

  seen_now : seen_of k d.pinned.knowledge ≡ before (suc stamp) hist
  seen_now = let r = reach_here key stamp in taught_just (of_key_to key stamp) qs d.told.rule.histories rise d.told.seat v.knowledge q_here d.pinned.knowledge (ap (λ (q : Knowledge). q.seen) learned) k (let l = within in let e = ap (λ (i : ℕ). length (before i hist)) r in omega arith)
      ∙ ap (λ (i : ℕ). before i hist) r

  -- the lesson that it left
  abbrev left : Lesson
  left = lesson_by (of_key_to key stamp) qs

  stands : LessonStands (reach_of (of_key_to key stamp)) (λ j. history j qs) d.pinned.knowledge left
  stands = subst (λ (q : Knowledge). LessonStands (reach_of (of_key_to key stamp)) (λ j. history j qs) q left) (sym learned) (lesson_taught (of_key_to key stamp) qs d.told.rule.histories rise d.told.seat v.knowledge q_here (reach_of (of_key_to key stamp)) (λ j. omega arith) (λ j. tt))

  begun : Begins (seen_of k d.pinned.knowledge) hist
  begun = subst (λ (l : List KeyedWrite). Begins l hist) (sym seen_now) (before_first (suc stamp) 0 hist (rise k))

  -- all that is seen of the key then ends there, and the key is absent
  ends_pinned : EndsAs k stamp None d.pinned.knowledge
  ends_pinned = record {
    known = record {
      lesson = left;
      there = subst (λ (ls : List Lesson). Has left ls) (sym (ap (λ (q : Knowledge). q.heard) learned)) (has_later v.knowledge.heard (left ∷ []) left (inl refl));
      covers = let r = reach_here key stamp in omega arith;
      place = heard_place (reach_of (of_key_to key stamp)) (λ j. history j qs) d.pinned.knowledge k (rise k) begun left stands stamp (let r = reach_here key stamp in omega arith) ∙ (place_length stamp hist ∙ ap length (sym seen_now));
    };
    state = ap state_behind seen_now ∙ absent_behind k (home_of h g) stamp hist (d.told.rule.keys.legal k) removed;
  }

  read_pinned : ReadAt k stamp None v d.pinned
  read_pinned = record {
    place = length (seen_of k d.pinned.knowledge);
    known = ends_pinned.known;
    from = let l = within in let e = ap length seen_now in omega arith;
    to = omega arith;
    state = state_at_end (seen_of k d.pinned.knowledge) ∙ ends_pinned.state;
  }

  -- the load of the stamp teaches no more of it
  loaded : Told z call (load (in_headers (at_stamp h))) d.pinned stamp d.looked
  loaded = told_at z call (index z (in_headers (at_stamp h))) stamp d.pinned d.looked (in_headers (at_stamp h)) inside refl d.looks.0

  knows_pinned : KnowsLife h g key d.pinned.knowledge
  knows_pinned = life_stays h g key v.knowledge d.pinned.knowledge (learned_pin z call h g d.number v d.pinned t).knows knows

  key_is : stamp_key h d.pinned.headers.pin d.pinned.knowledge ≡ Some key
  key_is = ap (λ (o : Option PinnedHeader). key_known h (wanted_of o) d.pinned.knowledge) (ap (λ (x : PassState). x.headers.pin) d.told.after) ∙ knows_pinned

  stamp_is : (memory z loaded.table.words).headers.stamp h ≡ stamp
  stamp_is = memory_read z loaded.table.words (in_headers (at_stamp h)) loaded.may ∙ loaded.finds

  ends_loaded : EndsAs k stamp None d.looked.knowledge
  ends_loaded = ends_still z call (load (in_headers (at_stamp h))) d.pinned stamp d.looked loaded key stamp None ends_pinned (shows_stamp h d.pinned.headers.pin d.pinned.knowledge)
      (stamp_knows z call h d.pinned stamp d.looked loaded ∙ (λ i. taught_where (shows_stamp h d.pinned.headers.pin d.pinned.knowledge) (of_key_to (key_or (key_is i)) (stamp_is i)) (map knowledge_of loaded.table.states) d.pinned.knowledge))

  unpinned : w.knowledge ≡ d.looked.knowledge
  unpinned = ap (λ (x : PassState). x.knowledge) d.undone.meets.after

  later : Learns call d.pinned w
  later = learns_both call d.pinned d.looked w (stamp_learns z call h d.pinned stamp d.looked loaded) (learned_met z call d.looked w None d.undone.meets).learns

  pub dead_read : ReadsLast (key_number key) stamp None v w
  dead_read = record {
    read = read_stays k stamp None v d.pinned w later.all.seen later.all.remembers read_pinned;
    sighted = (d.learned key knows).sighted named;
    ends = subst (EndsAs k stamp None) (sym unpinned) ends_loaded;
  }
