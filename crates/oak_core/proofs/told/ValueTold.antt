-- What the load of the value word of an entry tells its pass, of an entry that it found under a good pin: a floor, that its key was absent up to it, and a header, that life of the key.
use Rattle.std.proofs.Common.{◌≡◌, ℕ, ◌+◌, ◌*◌, ◌^◌, ◌<◌, ◌++◌, ◌∷◌, [], List, map, true, sym, refl, ap, ◌∙◌, subst, inl, arith, append-nil, Some, None}
use Rattle.oak_model.specs.Counts.{Has, Begins}
use Rattle.oak_model.specs.KeyNumber.{key_number}
use Rattle.oak_model.specs.Limits.{Sizes}
use Rattle.oak_model.proofs.Counting.{one_at-same, total_snoc}
use Rattle.oak_model.proofs.Lists.{at_map, begins_self}
use Rattle.chunk_core.specs.declared.holds.PinnedRoom.{PinnedRoom}
use Rattle.chunk_core.specs.PinnedRooms.{IsGoodRoom, found_in}
use Rattle.chunk_core.specs.Rooms.{at_value}
use Rattle.chunk_core.specs.ValueWord.{names_header, header_in, generation_in}
use Rattle.oak_core.specs.declared.states.KnownLife.{KnownLife}
use Rattle.oak_core.specs.declared.states.Knowledge.{Knowledge}
use Rattle.oak_core.specs.declared.states.PassState.{PassState}
use Rattle.oak_core.specs.CallSteps.{Learns}
use Rattle.oak_core.specs.FoundKeys.{entry_key}
use Rattle.oak_core.specs.KeyHistories.{home_behind, stamp_behind}
use Rattle.oak_core.specs.KeyReads.{base_now, history_now, word_now}
use Rattle.oak_core.specs.Known.{is_life, knows_life}
use Rattle.oak_core.specs.LastReads.{KnowsLifeOf, NotPast, ReadsLast}
use Rattle.oak_core.specs.Learning.{of_key_to, taught_by}
use Rattle.oak_core.specs.Memory.{Memory, in_rooms, memory, index}
use Rattle.oak_core.specs.PassState.{knowledge_of, seen_of}
use Rattle.oak_core.specs.Step.{load, Told}
use Rattle.oak_core.specs.ValueLoads.{knows_value, sights_value}
use Rattle.oak_core.proofs.calls.CallSteps.{step_met, begins_same}
use Rattle.oak_core.proofs.covers.FoundValues.{value_there}
use Rattle.oak_core.proofs.memory.HomeWords.{names_low}
use Rattle.oak_core.proofs.histories.Histories.{seen_stands}
use Rattle.oak_core.proofs.told.KeyTold.{key_last}
use Rattle.oak_core.proofs.histories.LastLives.{part_not_past}
use Rattle.oak_core.proofs.keyed.Levels.{level-floor}
use Rattle.oak_core.proofs.known.PinsKnown.{has_later}
use Rattle.oak_core.proofs.known.Remembering.{remembers_same}
use Rattle.oak_core.proofs.lessons.TaughtSteps.{load_learns}
use Rattle.oak_core.proofs.kinds.ValueLoads.{floor_knowledge, floor_sights, life_knowledge, life_sights}
use Rattle.oak_core.proofs.memory.Words.{memory_read}

module _ (z : Sizes) (call : ℕ) (v : PassState) (i n : ℕ) (w : PassState) (p : PinnedRoom) (is : v.rooms.pin ≡ Some p) (good : IsGoodRoom p) (key : List ℕ) (found : entry_key i (found_in p) ≡ Some key) (t : Told z call (load (in_rooms (at_value p.room i))) v n w) where
  abbrev m : Memory
  m = memory z t.table.words

  abbrev qs : List Knowledge
  qs = map knowledge_of t.table.states

  -- the number found is the value word, that of the key's entry
  pub value_found : (memory z t.table.words).rooms.value p.room i ≡ n
  value_found = memory_read z t.table.words (in_rooms (at_value p.room i)) t.may ∙ t.finds

  pub value_word : word_now z (memory z t.table.words) t.table.states (key_number key) ≡ n + 1
  value_word = value_there z m t.table.states t.rule.rooms t.rule.covers t.seat v t.here p is good i key found ∙ ap (λ (k : ℕ). k + 1) value_found

  knows_now : w.knowledge ≡ knows_value call p.room i n v.rooms.pin qs v.knowledge
  knows_now = ap (λ (y : PassState). y.knowledge) t.after ∙ ap (λ (c : ℕ). knows_value call p.room i c v.rooms.pin qs v.knowledge) value_found

  sights_now : w.findings.sights ≡ sights_value p.room i n call v.rooms.pin v.findings
  sights_now = ap (λ (y : PassState). y.findings.sights) t.after ∙ ap (λ (c : ℕ). sights_value p.room i c call v.rooms.pin v.findings) value_found

  -- a floor
  module _ (floor : names_header n ≡ 0) where
    learned : w.knowledge ≡ taught_by (of_key_to key n) (map knowledge_of t.table.states) v.knowledge
    learned = knows_now ∙ floor_knowledge z m t.table.states t.rule.rooms t.rule.covers t.rule.keys t.seat v t.here p is good i key found n value_found floor call qs

    sighted : w.findings.sights ≡ v.findings.sights ++ record { call = call; taught = of_key_to key n } ∷ []
    sighted = sights_now ∙ floor_sights z m t.table.states t.rule.rooms t.rule.covers t.rule.keys t.seat v t.here p is good i key found n value_found floor call

    pub floor_small : n < 2 ^ 63
    floor_small = names_low n floor (subst (λ (k : ℕ). k < 2 ^ 64) t.finds (t.rule.words.small (index z (in_rooms (at_value p.room i)))))

    pub floor_learns : Learns call v w
    floor_learns = load_learns z call (in_rooms (at_value p.room i)) v n w t true (of_key_to key n) learned true sighted

    pub floor_reads : ReadsLast (key_number key) n None v w
    floor_reads = let s = (t.rule.keys.states (key_number key)).floor n value_word floor in
        key_last z call (load (in_rooms (at_value p.room i))) v n w t key n learned sighted s.1 (let l = level-floor (base_now z m t.table.states (key_number key)) (stamp_behind (history_now t.table.states (key_number key))) (word_now z m t.table.states (key_number key)) n value_word floor in omega arith) None s.0

  -- a header
  module _ (names : names_header n ≡ 1) where
    abbrev life : KnownLife
    life = record { call = call; key = key; home = n }

    pub loads : w.knowledge ≡ record v.knowledge { loaded = v.knowledge.loaded ++ record { call = call; key = key; home = n } ∷ [] }
    loads = knows_now ∙ life_knowledge z m t.table.states t.rule.rooms t.rule.covers t.rule.keys t.seat v t.here p is good i key found n value_found names call qs

    unsighted : w.findings.sights ≡ v.findings.sights
    unsighted = sights_now ∙ life_sights z m t.table.states t.rule.rooms t.rule.covers t.rule.keys t.seat v t.here p is good i key found n value_found names call

    -- the pass knows the life by it
    pub life_of : KnowsLifeOf call key n w.knowledge
    life_of = subst (λ (q : Knowledge). Has life q.loaded) (sym loads) (has_later v.knowledge.loaded (life ∷ []) life (inl refl))

    pub life_known : 0 < knows_life (header_in n) (generation_in n) w.knowledge
    life_known = let e = ap (knows_life (header_in n) (generation_in n)) loads in let s = total_snoc (is_life (header_in n) (generation_in n)) v.knowledge.loaded life in
        let one : is_life (header_in n) (generation_in n) life ≡ 1 = (λ j. names j * one_at-same (header_in n) (header_in n) refl j * one_at-same (generation_in n) (generation_in n) refl j) in omega arith

    -- the header is one of the table's, and its life the last of the key
    pub life_inside : header_in n < z.headers
    life_inside = ((t.rule.keys.states (key_number key)).named n value_word names).inside

    pub life_last : home_behind (history_now t.table.states (key_number key)) ≡ n
    life_last = ((t.rule.keys.states (key_number key)).named n value_word names).home

    -- what the pass has seen of the key does not go past it
    pub life_not_past : NotPast (key_number key) n w.knowledge
    life_not_past = subst (λ (q : Knowledge). NotPast (key_number key) n q) (sym loads) (part_not_past t.table.states t.rule.callers t.rule.keys.legal n (key_number key) names life_last (seen_of (key_number key) v.knowledge)
        (seen_stands qs t.rule.histories (key_number key) t.seat v.knowledge (at_map knowledge_of t.table.states t.seat v t.here)))

    pub life_learns : Learns call v w
    life_learns = record {
      met = step_met z call (load (in_rooms (at_value p.room i))) v n w t;
      sights = record { more = []; sights = unsighted ∙ sym (append-nil v.findings.sights); calls = tt };
      all = record {
        numbers = ap (λ (y : PassState). y.numbers) t.after;
        mine = ap (λ (q : Knowledge). q.mine) loads;
        fulls = ap (λ (y : PassState). y.findings.fulls) t.after;
        rebalances = ap (λ (y : PassState). y.findings.rebalances) t.after;
        swept = ap (λ (y : PassState). y.findings.swept) t.after;
        gones = begins_same v.findings.gones w.findings.gones (ap (λ (y : PassState). y.findings.gones) t.after);
        loaded = subst (λ (q : Knowledge). Begins v.knowledge.loaded q.loaded) (sym loads) (life ∷ [], refl);
        seen = λ k. subst (λ (q : Knowledge). Begins (seen_of k v.knowledge) (seen_of k q)) (sym loads) (begins_self (seen_of k v.knowledge));
        remembers = remembers_same v.knowledge w.knowledge (ap (λ (q : Knowledge). q.heard) loads);
      };
    }
