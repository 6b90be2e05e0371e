-- What a lock tells its pass of the header's key, where the pass knew it: all of its history, which ends with the value and the stamp that the header had at the lock.
use Rattle.std.proofs.Common.{◌≡◌, ◌≢◌, ℕ, ◌+◌, ◌==◌, List, [], ◌∷◌, ◌++◌, map, length, cond, Bool, true, false, sym, ap, ◌∙◌, arith, Some, eq-eqb, ne_eqb}
use Rattle.std.proofs.lemmas.Bool.{and_right}
use prog.Atomic.{either}
use Rattle.pin_word.specs.PinWord.{STATE, state_of, generation_of}
use Rattle.oak_model.specs.KeyNumber.{key_number}
use Rattle.oak_model.specs.Limits.{Sizes}
use Rattle.oak_model.proofs.Counting.{true_both}
use Rattle.arena_core.specs.Place.{content}
use Rattle.header_core.specs.declared.holds.HeldHeader.{HeldHeader}
use Rattle.header_core.specs.declared.states.TheConstants.{LIVE}
use Rattle.header_core.specs.Headers.{at_pin}
use Rattle.header_core.specs.HeaderStep.{lock_header, locked_at}
use Rattle.header_core.proofs.HeldHeaders.{held_in}
use Rattle.oak_core.specs.declared.states.Knowledge.{Knowledge}
use Rattle.oak_core.specs.declared.states.PassState.{PassState}
use Rattle.oak_core.specs.declared.states.Taught.{Taught}
use Rattle.oak_core.specs.CallSteps.{Learns}
use Rattle.oak_core.specs.Finding.{finding, noted}
use Rattle.oak_core.specs.HeaderTeaching.{locks_known, lock_taught, knows_by_header}
use Rattle.oak_core.specs.KeyedHeaders.{keyed_at}
use Rattle.oak_core.specs.KeyHistories.{state_behind, stamp_behind}
use Rattle.oak_core.specs.KeyReads.{history_now, shown_by}
use Rattle.oak_core.specs.KnownPlaces.{KnowsPlace}
use Rattle.oak_core.specs.LastReads.{ReadsLast}
use Rattle.oak_core.specs.Learning.{of_key_to, taught_where}
use Rattle.oak_core.specs.LifeKeys.{is_known, key_known, key_or}
use Rattle.oak_core.specs.Memory.{Memory, in_headers, memory}
use Rattle.oak_core.specs.PassState.{seen_of, knowledge_of}
use Rattle.oak_core.specs.Sights.{SightedSince, sights_with}
use Rattle.oak_core.specs.Step.{on_headers, Told, found}
use Rattle.oak_core.proofs.calls.CallSteps.{begins_same}
use Rattle.oak_core.proofs.told.KeyTold.{key_last}
use Rattle.oak_core.proofs.known.KnowledgeAfter.{lock_knowledge}
use Rattle.oak_core.proofs.known.KnownLives.{live_ends, live_level}
use Rattle.oak_core.proofs.lessons.TaughtSteps.{step_learns}
use Rattle.oak_core.proofs.held.UnlinkedHolds.{locked_keyed}
use Rattle.oak_core.proofs.memory.Words.{memory_read}

module _ (z : Sizes) (call h old : ℕ) (v : PassState) (n : ℕ) (w : PassState) (t : Told z call (on_headers (lock_header h old)) v n w) where
  abbrev m : Memory
  m = memory z t.table.words

  abbrev qs : List Knowledge
  qs = map knowledge_of t.table.states

  knows_now : w.knowledge ≡ knows_by_header call (lock_header h old) m qs v
  knows_now = ap (λ (y : PassState). y.knowledge) t.after

  abbrev test : Bool
  test = locks_known h old (m.headers.pin h) v.knowledge

  sights_now : w.findings.sights ≡ sights_with test call (lock_taught h old (m.headers.stamp h) v.knowledge) v.findings
  sights_now = ap (λ (y : PassState). y.findings.sights) t.after

  -- a lock adds nothing but a lesson on one key
  pub lock_learns : Learns call v w
  lock_learns = step_learns z call (on_headers (lock_header h old)) v n w t test (lock_taught h old (m.headers.stamp h) v.knowledge) knows_now test sights_now (ap (λ (y : PassState). y.numbers) t.after) (ap (λ (y : PassState). y.findings.fulls) t.after)
      (ap (λ (y : PassState). y.findings.swept) t.after) (begins_same v.findings.gones w.findings.gones (ap (λ (y : PassState). y.findings.gones) t.after)) (ap (λ (y : PassState). y.findings.rebalances) t.after)

  -- the header was live, and the pass knew the key of its life
  module _ (live : state_of old ≡ LIVE) (hit : n ≡ old) (key : List ℕ) (knows : key_known h (generation_of old) v.knowledge ≡ Some key) where
    pin_is : (memory z t.table.words).headers.pin h ≡ old
    pin_is = memory_read z t.table.words (in_headers (at_pin h)) t.may.0.inside ∙ (t.finds ∙ hit)

    is_live : state_of (m.headers.pin h) ≡ LIVE
    is_live = ap state_of pin_is ∙ live

    -- so its entry names the header, and the key's last write left what the header shows
    shown : (state_behind (history_now t.table.states (key_number key)) ≡ shown_by (memory z t.table.words) h) × (stamp_behind (history_now t.table.states (key_number key)) ≡ (memory z t.table.words).headers.stamp h)
    shown = live_ends z t.table t.rule t.seat v t.here h (generation_of old) t.may.0.inside key knows is_live (ap generation_of pin_is)

    tested : test ≡ true
    tested = true_both (is_known (key_known h (generation_of old) v.knowledge)) (m.headers.pin h == old) (ap is_known knows) (eq-eqb (m.headers.pin h) old pin_is)

    sighted : w.findings.sights ≡ v.findings.sights ++ record { call = call; taught = of_key_to key (m.headers.stamp h) } ∷ []
    sighted = sights_now ∙ (λ i. sights_with (tested i) call (of_key_to (key_or (knows i)) (m.headers.stamp h)) v.findings)

    -- all that the pass has seen of the key then ends with that
    lock_read : ReadsLast (key_number key) ((memory z t.table.words).headers.stamp h) (shown_by (memory z t.table.words) h) v w
    lock_read = key_last z call (on_headers (lock_header h old)) v n w t key (m.headers.stamp h) (knows_now ∙ lock_knowledge call m qs v h old key knows pin_is) sighted (let e = shown.1 in omega arith)
        (live_level z t.table t.rule t.seat v t.here h (generation_of old) t.may.0.inside key knows is_live (ap generation_of pin_is)) (shown_by m h) shown.0

    pub lock_place : KnowsPlace (key_number key) ((memory z t.table.words).headers.stamp h) (length (seen_of (key_number key) w.knowledge)) w.knowledge
    lock_place = lock_read.ends.known

    pub lock_state : state_behind (seen_of (key_number key) w.knowledge) ≡ shown_by (memory z t.table.words) h
    lock_state = lock_read.ends.state

    pub lock_sighted : SightedSince (key_number key) ((memory z t.table.words).headers.stamp h) v.findings w.findings
    lock_sighted = lock_read.sighted

  abbrev found_here : ℕ
  found_here = found z (on_headers (lock_header h old)) t.table

  abbrev lesson_taught : Taught
  lesson_taught = lock_taught h old (m.headers.stamp h) v.knowledge

  abbrev key_there : List ℕ
  key_there = key_or (key_known h (generation_of old) v.knowledge)

  abbrev row : HeldHeader
  row = locked_at m.headers (content m.arena.bytes) h

  pub word_found : (memory z t.table.words).headers.pin h ≡ n
  word_found = memory_read z t.table.words (in_headers (at_pin h)) t.may.0.inside ∙ t.finds

  -- where another word was found, the pass only met that
  pub lock_missed : n ≢ old → w ≡ noted (finding z call (in_headers (at_pin h)) (Some n) n t.table.words v) v
  lock_missed ne = t.after ∙ (λ i. record v {
    findings = record v.findings { met = v.findings.met ++ finding z call (in_headers (at_pin h)) (Some (t.finds i)) (either (other i) (old + STATE) (t.finds i)) t.table.words v ∷ []; sights = sights_with (untested i) call lesson_taught v.findings };
    knowledge = taught_where (untested i) lesson_taught qs v.knowledge;
    headers = record v.headers { held = cond (differs i) (keyed_at h key_there (cond (differs i) (row ∷ v.headers.held) v.headers.held)) (cond (differs i) (row ∷ v.headers.held) v.headers.held) };
  })
    where
      differs : (m.headers.pin h == old) ≡ false
      differs = ne_eqb (m.headers.pin h) old (λ e. ne (sym word_found ∙ e))

      other : (found_here == old) ≡ false
      other = ap (λ (x : ℕ). x == old) t.finds ∙ ne_eqb n old ne

      untested : test ≡ false
      untested = and_right (is_known (key_known h (generation_of old) v.knowledge)) (m.headers.pin h == old) differs

  -- where the word was found, it has the header, with the key that it knew of it
  pub lock_held : n ≡ old → held_in h v.headers.held ≡ 0
      → w.headers ≡ record v.headers { held = record (locked_at (memory z t.table.words).headers (content (memory z t.table.words).arena.bytes) h) { key = key_or (key_known h (generation_of old) v.knowledge) } ∷ v.headers.held }
  lock_held e none = ap (λ (y : PassState). y.headers) t.after ∙ ((λ i. record v.headers { held = cond (same i) (keyed_at h key_there (cond (same i) (row ∷ v.headers.held) v.headers.held)) (cond (same i) (row ∷ v.headers.held) v.headers.held) })
      ∙ ap (λ (l : List HeldHeader). record v.headers { held = l }) (locked_keyed m.headers (content m.arena.bytes) h key_there v.headers.held none))
    where
      same : (m.headers.pin h == old) ≡ true
      same = eq-eqb (m.headers.pin h) old (word_found ∙ e)

  pub lock_blocks : w.blocks ≡ v.blocks
  lock_blocks = ap (λ (y : PassState). y.blocks) t.after

  pub lock_rooms : w.rooms ≡ v.rooms
  lock_rooms = ap (λ (y : PassState). y.rooms) t.after
