-- What the step that pins a header tells its pass: where it finds a life over of which the pass knows the key, that the life was removed.
use Rattle.std.specs.Prelude.{not}
use Rattle.std.proofs.Common.{◌≡◌, ◌≢◌, ℕ, ◌-◌, ◌==◌, ◌&&◌, true, false, List, [], ◌∷◌, ◌++◌, map, sym, refl, ap, ◌∙◌, subst, inl, arith, Some, eq-eqb, ne_eqb}
use Rattle.std.proofs.lemmas.Bool.{and_right}
use Rattle.pin_word.specs.PinWord.{generation_of, state_of}
use Rattle.oak_model.specs.Counts.{Has}
use Rattle.oak_model.specs.History.{StampsRise}
use Rattle.oak_model.specs.KeyNumber.{key_number}
use Rattle.oak_model.specs.Limits.{Sizes}
use Rattle.oak_model.proofs.Lists.{at_map}
use Rattle.arena_core.specs.Place.{content}
use Rattle.header_core.specs.declared.states.TheConstants.{DEAD}
use Rattle.header_core.specs.Headers.{at_pin}
use Rattle.header_core.specs.HeaderStep.{pin_header, header_effect}
use Rattle.oak_core.specs.declared.states.Gone.{Gone}
use Rattle.oak_core.specs.declared.states.Knowledge.{Knowledge}
use Rattle.oak_core.specs.declared.states.Lesson.{Lesson}
use Rattle.oak_core.specs.declared.states.PassState.{PassState}
use Rattle.oak_core.specs.CallSteps.{Learns}
use Rattle.oak_core.specs.Finding.{finding}
use Rattle.oak_core.specs.HeaderTeaching.{finds_over, is_over, over_taught}
use Rattle.oak_core.specs.KeyHistories.{IsRemovedAt, removed_at, writes_of}
use Rattle.oak_core.specs.KeyReads.{home_of}
use Rattle.oak_core.specs.Learning.{lesson_by, of_key_to, taught_by, taught_where}
use Rattle.oak_core.specs.Lessons.{KnowsRemoval}
use Rattle.oak_core.specs.LifeKeys.{is_known, key_known, key_or}
use Rattle.oak_core.specs.Memory.{Memory, in_headers, memory}
use Rattle.oak_core.specs.PassState.{history, knowledge_of}
use Rattle.oak_core.specs.Sights.{FoundOverSince, gones_with}
use Rattle.oak_core.specs.Step.{on_headers, found, Told}
use Rattle.oak_core.proofs.known.KnowledgeAfter.{over_knowledge}
use Rattle.oak_core.proofs.known.KnownLives.{dead_gone, named_at, over_gone}
use Rattle.oak_core.proofs.histories.LivesOnce.{begins_once}
use Rattle.oak_core.proofs.known.PinsKnown.{has_later}
use Rattle.oak_core.proofs.histories.Removals.{removed_at_is, removed_at_some}
use Rattle.oak_core.proofs.known.RemovalsKnown.{pin_removal, removed_at_once}
use Rattle.oak_core.proofs.lessons.TaughtSteps.{gones_more, step_learns}
use Rattle.oak_core.proofs.memory.Words.{memory_read}

-- a life whose header the pin finds at its generation, and not dead, it doesn't find over
pub none_over : (h g n : ℕ) (q : Knowledge) → generation_of n ≡ g → state_of n ≢ DEAD → finds_over h g n q ≡ false
none_over h g n q at live = and_right (is_known (key_known h g q)) (is_over g n) (λ i. not (eq-eqb (generation_of n) g at i && not (ne_eqb (state_of n) DEAD live i)))

-- one that it finds dead there, or at another generation, it finds over

pub dead_over : (g n : ℕ) → generation_of n ≡ g → state_of n ≡ DEAD → is_over g n ≡ true
dead_over g n at dead = λ i. not (eq-eqb (generation_of n) g at i && not (eq-eqb (state_of n) DEAD dead i))

pub other_over : (g n : ℕ) → generation_of n ≢ g → is_over g n ≡ true
other_over g n ne = λ i. not (ne_eqb (generation_of n) g ne i && not (state_of n == DEAD))

module _ (z : Sizes) (call h g : ℕ) (v : PassState) (n : ℕ) (w : PassState) (t : Told z call (on_headers (pin_header h g)) v n w) where
  abbrev m : Memory
  m = memory z t.table.words

  abbrev qs : List Knowledge
  qs = map knowledge_of t.table.states

  word_is : m.headers.pin h ≡ n
  word_is = memory_read z t.table.words (in_headers (at_pin h)) t.may.0.inside ∙ t.finds

  pub pin_knows : w.knowledge ≡ taught_where (finds_over h g ((memory z t.table.words).headers.pin h) v.knowledge) (over_taught h g (map knowledge_of t.table.states) v.knowledge) (map knowledge_of t.table.states) v.knowledge
  pin_knows = ap (λ (x : PassState). x.knowledge) t.after

  pub pin_learns : Learns call v w
  pin_learns = step_learns z call (on_headers (pin_header h g)) v n w t (finds_over h g (m.headers.pin h) v.knowledge) (over_taught h g qs v.knowledge) pin_knows
      false (ap (λ (x : PassState). x.findings.sights) t.after) (ap (λ (x : PassState). x.numbers) t.after) (ap (λ (x : PassState). x.findings.fulls) t.after) (ap (λ (x : PassState). x.findings.swept) t.after)
      (gones_more (finds_over h g (m.headers.pin h) v.knowledge) call (key_or (key_known h g v.knowledge)) (home_of h g) v.findings w.findings (ap (λ (x : PassState). x.findings.gones) t.after)) (ap (λ (x : PassState). x.findings.rebalances) t.after)

  -- where it finds none over, the pass only has the pin, and the finding more
  pub pin_quiet : finds_over h g n v.knowledge ≡ false
      → w ≡ record v {
        findings = record v.findings { met = v.findings.met ++ finding z call (in_headers (at_pin h)) (Some (found z (on_headers (pin_header h g)) t.table)) (header_effect (pin_header h g) (found z (on_headers (pin_header h g)) t.table)) t.table.words v ∷ [] };
        headers = record v.headers { pin = Some (record { header = h; wanted = g; found = (memory z t.table.words).headers.pin h; place = (memory z t.table.words).headers.place h; stamp = (memory z t.table.words).headers.stamp h; words = content (memory z t.table.words).arena.bytes ((memory z t.table.words).headers.place h) }) };
      }
  pin_quiet none = t.after ∙ (λ i. record v {
    findings = record v.findings { met = v.findings.met ++ finding z call (in_headers (at_pin h)) (Some (found z (on_headers (pin_header h g)) t.table)) (header_effect (pin_header h g) (found z (on_headers (pin_header h g)) t.table)) t.table.words v ∷ []; gones = gones_with (not_over i) call (key_or (key_known h g v.knowledge)) (home_of h g) v.findings };
    knowledge = taught_where (not_over i) (over_taught h g qs v.knowledge) qs v.knowledge;
    headers = record v.headers { pin = Some (record { header = h; wanted = g; found = m.headers.pin h; place = m.headers.place h; stamp = m.headers.stamp h; words = content m.arena.bytes (m.headers.place h) }) };
  })
    where
      not_over : finds_over h g (m.headers.pin h) v.knowledge ≡ false
      not_over = ap (λ (k : ℕ). finds_over h g k v.knowledge) word_is ∙ none

  -- where it finds one over of which the pass knows the key
  module _ (key : List ℕ) (knows : key_known h g v.knowledge ≡ Some key) (over : is_over g n ≡ true) where
    shown : finds_over h g (m.headers.pin h) v.knowledge ≡ true
    shown = (λ i. is_known (knows i) && is_over g (word_is i)) ∙ over

    -- the stamp of the removal
    abbrev pub over_stamp : ℕ
    over_stamp = removed_at (home_of h g) (history (key_number key) (map knowledge_of t.table.states)) - 1

    learned : w.knowledge ≡ taught_by (of_key_to key over_stamp) (map knowledge_of t.table.states) v.knowledge
    learned = pin_knows ∙ over_knowledge call m qs v h g key knows (ap (is_over g) word_is ∙ over)

    abbrev gone : Gone
    gone = record { call = call; home = home_of h g; key = key }

    pub over_found : FoundOverSince (home_of h g) key v.findings w.findings
    over_found = (gone ∷ [], ap (λ (x : PassState). x.findings.gones) t.after ∙ (λ i. gones_with (shown i) call (key_or (knows i)) (home_of h g) v.findings), record { gone = gone; there = inl refl; home_is = refl; key_is = refl })

    rise : (k : ℕ) → StampsRise 0 (writes_of (history k (map knowledge_of t.table.states)))
    rise k = (t.rule.keys.legal k).legal.stamps

    removed : IsRemovedAt (home_of h g) over_stamp (history (key_number key) (map knowledge_of t.table.states))
    removed = let r = (over_gone z t.table t.rule t.seat v t.here h g t.may.0.inside key knows (ap (is_over g) word_is ∙ over)).1 in
        removed_at_is (home_of h g) (history (key_number key) (map knowledge_of t.table.states)) (removed_at_some (home_of h g) (history (key_number key) (map knowledge_of t.table.states)) r.write r.there r.home_is r.after)

    pub over_removal : KnowsRemoval (key_number key) (home_of h g) over_stamp w.knowledge
    over_removal = pin_removal (map knowledge_of t.table.states) t.rule.histories rise t.seat v.knowledge w.knowledge (at_map knowledge_of t.table.states t.seat v t.here) key (home_of h g) over_stamp removed
        (subst (λ (ls : List Lesson). Has (lesson_by (of_key_to key over_stamp) qs) ls) (sym (ap (λ (q : Knowledge). q.heard) learned)) (has_later v.knowledge.heard (lesson_by (of_key_to key over_stamp) qs ∷ []) (lesson_by (of_key_to key over_stamp) qs) (inl refl)))

    -- which is that of the stamp word, where the header is dead at the generation
    pub dead_stamp : state_of n ≡ DEAD → generation_of n ≡ g → over_stamp ≡ (memory z t.table.words).headers.stamp h
    dead_stamp dead at = removed_at_once (home_of h g) (history (key_number key) (map knowledge_of t.table.states)) (λ e. absurd (omega arith)) (t.rule.keys.legal (key_number key)).lives (rise (key_number key))
        (begins_once t.table.states t.rule.callers (home_of h g) (key_number key) (named_at z t.table t.rule t.seat v t.here h g t.may.0.inside key knows).names) (m.headers.stamp h)
        (dead_gone z t.table t.rule t.seat v t.here h g t.may.0.inside key knows (ap state_of word_is ∙ dead) (ap generation_of word_is ∙ at))
