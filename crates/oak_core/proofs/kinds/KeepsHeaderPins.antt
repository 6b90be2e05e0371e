-- What stands of keys, their histories and what the pass knows behind a pin of a header: where it finds a known life over, it is taught the removal.
use Rattle.std.proofs.Common.{◌≡◌, ℕ, ◌+◌, ◌-◌, ◌%◌, ◌^◌, Bool, true, false, List, map, set, sym, refl, ap, ◌∙◌, subst, arith, Option, Some, None}
use Rattle.std.specs.Prelude.{◌&&◌}
use mathlib.Core.Logic.{dite}
use mathlib.Core.Option.{some}
use native.Mathlib.Decide.{dec_lt}
use lib.ListN.{get_elem?}
use Rattle.pin_word.specs.PinWord.{state_of, generation_of}
use Rattle.pin_word.proofs.StepLaws.{pin_up}
use Rattle.oak_model.specs.KeyNumber.{key_number}
use Rattle.oak_model.specs.Limits.{Sizes}
use Rattle.oak_model.proofs.Counting.{true_both}
use Rattle.oak_model.proofs.Lists.{at_map}
use Rattle.oak_model.proofs.PutLaws.{put-same}
use Rattle.oak_model.specs.Counts.{put}
use Rattle.arena_core.specs.Place.{IsPlace, content}
use Rattle.header_core.specs.HeaderStep.{pin_header, header_effect}
use Rattle.header_core.specs.Headers.{at_pin}
use Rattle.header_core.specs.declared.holds.PinnedHeader.{PinnedHeader}
use Rattle.header_core.specs.declared.states.TheConstants.{DEAD}
use Rattle.header_core.proofs.HeaderFacts.{fresh_at_is}
use Rattle.oak_core.specs.declared.states.Findings.{Findings}
use Rattle.oak_core.specs.declared.states.Knowledge.{Knowledge}
use Rattle.oak_core.specs.declared.states.PassState.{PassState}
use Rattle.oak_core.specs.declared.states.Taught.{Taught}
use Rattle.oak_core.specs.HeaderTeaching.{is_over, finds_over, knows_by_header}
use Rattle.oak_core.specs.KeyHistories.{removed_at}
use Rattle.oak_core.specs.KeyReads.{history_now, home_of}
use Rattle.oak_core.specs.KeyRule.{KeysStand, LoadedStand}
use Rattle.oak_core.specs.Known.{knows_life}
use Rattle.oak_core.specs.Learning.{of_key_to, reach_of}
use Rattle.oak_core.specs.Lessons.{PinsKnow}
use Rattle.oak_core.specs.LifeKeys.{key_known, is_known}
use Rattle.oak_core.specs.Memory.{Memory, in_headers, memory, write}
use Rattle.oak_core.specs.PassState.{headers_held, knowledge_of, history}
use Rattle.oak_core.specs.Rule.{Rule}
use Rattle.oak_core.specs.Step.{MayOnHeaders}
use Rattle.oak_core.specs.TableState.{TableState}
use Rattle.oak_core.proofs.held.FewPins.{few_pins}
use Rattle.oak_core.proofs.lessons.HeaderLessons.{pin_step_heard}
use Rattle.oak_core.proofs.held.HeaderStanding.{knows, stand, at_headers, small_pin}
use Rattle.oak_core.proofs.keyed.KeyBundles.{keys_now, bundles_kept, rooms_still}
use Rattle.oak_core.proofs.keyed.KeysAfter.{KeysAfter, after_idle, after_taught, pin_still}
use Rattle.oak_core.proofs.keyed.KeysCounted.{keys_counted}
use Rattle.oak_core.proofs.known.KnowledgeAfter.{over_knowledge, pin_knowledge}
use Rattle.oak_core.proofs.known.KnownHeaders.{life_key}
use Rattle.oak_core.proofs.known.KnownLives.{named_at, over_gone, dead_gone}
use Rattle.oak_core.proofs.lessons.LessonRanges.{history_left, heard_covers}
use Rattle.oak_core.proofs.told.PinTold.{dead_over}
use Rattle.oak_core.proofs.lessons.TaughtStates.{history_taught}

module _ (z : Sizes) (s : TableState) (seat : ℕ) (v : PassState) (r : Rule z s) (here : get_elem? s.states seat ≡ some v) (call : ℕ) (fs : Findings) (h g : ℕ) (may : MayOnHeaders z (pin_header h g) v) where
  abbrev m : Memory
  m = memory z s.words

  abbrev qs : List Knowledge
  qs = map knowledge_of s.states

  q_here : get_elem? (map knowledge_of s.states) seat ≡ some v.knowledge
  q_here = at_map knowledge_of s.states seat v here

  abbrev y : ℕ
  y = (m.headers.pin h + 1) % 2 ^ 64

  up : (state_of y ≡ state_of (m.headers.pin h)) × (generation_of y ≡ generation_of (m.headers.pin h))
  up = let f = few_pins z s r h in let c = (stand z s seat v r here).counted h in let t = pin_up (m.headers.pin h) (omega arith) (small_pin z s seat v r here h) in (t.1, t.2)

  abbrev m' : Memory
  m' = write m (in_headers (at_pin h)) y

  abbrev pinned : PinnedHeader
  pinned = record { header = h; wanted = g; found = m.headers.pin h; place = m.headers.place h; stamp = m.headers.stamp h; words = content m.arena.bytes (m.headers.place h) }

  -- the pass behind the pin
  abbrev w : PassState
  w = record v { findings = fs; knowledge = knows_by_header call (pin_header h g) m (map knowledge_of s.states) v; headers = record v.headers { pin = Some pinned } }

  counted : ((k : ℕ) → history_now (set s.states seat w) k ≡ history_now s.states k) → LoadedStand (history_now s.states) w.knowledge → KeysStand z m' (set s.states seat w)
  counted same lives = keys_counted z m s.states r.keys seat v w here refl (rooms_still z m s.states seat v w here refl) same lives (put m.headers.pin h y) (put-same m.headers.pin h y state_of up.0) (put-same m.headers.pin h y generation_of up.1)

  -- a known life is over
  module _ (key : List ℕ) (is : key_known h g v.knowledge ≡ Some key) (over : is_over g (m.headers.pin h) ≡ true) where
    abbrev lesson : Taught
    lesson = of_key_to key (removed_at (home_of h g) (history (key_number key) (map knowledge_of s.states)) - 1)

    over_after : KeysAfter z s seat v r here m' w
    over_after = let named = named_at z s r seat v here h g may.inside key is in let taught = over_knowledge call m qs v h g key is over in after_taught z s seat v r here m' w lesson taught refl (rooms_still z m s.states seat v w here refl) (pin_still m.headers h y (λ d. sym up.0 ∙ d) up.1)
        (counted (history_taught (reach_of lesson) s.states r.histories (λ k. (r.keys.legal k).legal.stamps) seat v w here (ap (λ (q : Knowledge). q.seen) taught)) (r.keys.loaded seat v.knowledge q_here))
        (pin_step_heard z m m' refl refl s.states r.keys r.callers r.histories r.heard seat v w here h g key named.names (λ e. absurd (omega arith)) (over_gone z s r seat v here h g may.inside key is over) (dead_gone z s r seat v here h g may.inside key is) refl pinned refl refl refl refl refl taught)

  -- none is found to be so
  module _ (none : finds_over h g (m.headers.pin h) v.knowledge ≡ false) where
    same_knowledge : w.knowledge ≡ v.knowledge
    same_knowledge = pin_knowledge call m qs v h g none

    -- then the pin found no dead header at the generation: one that the pass knows is of a life whose key it knows, and a fresh one is live
    none_dead : state_of (m.headers.pin h) ≡ DEAD → generation_of (m.headers.pin h) ≡ g → ⊥
    none_dead d e = dite (dec_lt 0 (knows_life h g v.knowledge))
        (λ l. let k = life_key h g v.knowledge l in apart (sym (true_both (is_known (key_known h g v.knowledge)) (is_over g (m.headers.pin h)) (ap is_known k.1) (dead_over g (m.headers.pin h) e d)) ∙ none))
        (λ no. let f = (fresh_at_is m.headers (content m.arena.bytes) IsPlace (knows s) (map headers_held s.states) (stand z s seat v r here) seat v.headers h g (at_headers z s seat v r here) (let k = may.known in omega arith)).0 in absurd (omega arith))
      where
        apart : true ≡ false → ⊥
        apart e = cc

    pins : PinsKnow w
    pins = record { removed = λ d e. absurd (none_dead d e) }

    idle_after : KeysAfter z s seat v r here m' w
    idle_after = let stay = rooms_still z m s.states seat v w here refl in let same = history_left z m m' s.states seat v w here r.heard same_knowledge in
        after_idle z s seat v r here m' w same_knowledge (bundles_kept z m m' s.states seat v w here (keys_now z s r) stay refl (ap (λ (q : Knowledge). q.mine) same_knowledge) same (pin_still m.headers h y (λ d. sym up.0 ∙ d) up.1)
        (counted same (subst (LoadedStand (history_now s.states)) (sym same_knowledge) (r.keys.loaded seat v.knowledge q_here))) (heard_covers z m m' s.states seat v w here r.heard same_knowledge pins stay))

  pub pin_after : KeysAfter z s seat v r here (write m (in_headers (at_pin h)) (header_effect (pin_header h g) (m.headers.pin h))) w
  pin_after = go (key_known h g v.knowledge) refl (is_over g (m.headers.pin h)) refl
    where
      go : (o : Option (List ℕ)) → key_known h g v.knowledge ≡ o → (b : Bool) → is_over g (m.headers.pin h) ≡ b → KeysAfter z s seat v r here m' w
      go None is b over = idle_after (ap (λ (o : Option (List ℕ)). is_known o && is_over g (m.headers.pin h)) is)
      go (Some key) is true over = over_after key is over
      go (Some key) is false over = idle_after (λ i. is_known (is i) && over i)
