-- What the load of the stamp word of a header tells its pass, under a good pin that found the life of a key that it knows: the key had the value found, at the place of the stamp.
use Rattle.std.proofs.Common.{◌≡◌, ℕ, ◌<◌, ◌≤◌, ◌++◌, ◌∷◌, ◌⊎◌, [], List, map, true, sym, refl, ap, ◌∙◌, subst, inl, arith, Some}
use Rattle.oak_model.specs.KeyNumber.{key_number}
use Rattle.oak_model.specs.Limits.{Sizes}
use Rattle.arena_core.specs.Place.{content}
use Rattle.header_core.specs.declared.holds.PinnedHeader.{PinnedHeader}
use Rattle.header_core.specs.HeaderRule.{PinHolds, IsGood}
use Rattle.header_core.specs.Headers.{at_stamp}
use Rattle.oak_core.specs.declared.states.Knowledge.{Knowledge}
use Rattle.oak_core.specs.declared.states.PassState.{PassState}
use Rattle.oak_core.specs.declared.states.Sight.{Sight}
use Rattle.oak_core.specs.Sights.{SightedSince}
use Rattle.pin_word.specs.PinWord.{generation_of, state_of}
use Rattle.header_core.specs.declared.states.TheConstants.{DEAD, LIVE}
use Rattle.oak_core.specs.EntryOwners.{is_key_word}
use Rattle.oak_core.specs.KeyHistories.{home_behind, stamp_behind, state_behind}
use Rattle.oak_core.specs.KeyReads.{history_now, home_of, level_now, value_in}
use Rattle.oak_core.specs.LastReads.{KnowsLifeOf, ReadsLast}
use Rattle.oak_core.specs.Learning.{of_key_to, taught_by}
use Rattle.oak_core.specs.LifeKeys.{key_known}
use Rattle.oak_core.specs.Memory.{Memory, in_headers, memory}
use Rattle.oak_core.specs.PassState.{knowledge_of, seen_of}
use Rattle.oak_core.specs.StampLoads.{finds_now, knows_stamp, sights_stamp}
use Rattle.oak_core.specs.Step.{load, Told}
use Rattle.oak_core.proofs.memory.HomeWords.{NamesAt}
use Rattle.oak_core.proofs.kinds.KeepsStampLoads.{pin_inside, good_names}
use Rattle.oak_core.proofs.told.KeyTold.{key_whole, key_last}
use Rattle.oak_core.proofs.known.KnownLives.{named_at, live_home, live_ends, live_level}
use Rattle.oak_core.proofs.histories.LastLives.{KnowsKeyOf, loaded_key}
use Rattle.oak_core.proofs.known.LoadedIn.{live_now}
use Rattle.oak_core.proofs.lessons.LessonReach.{reach_here}
use Rattle.oak_core.proofs.kinds.StampLoads.{stamp_knowledge, stamp_sights, good_stamp_holds}
use Rattle.oak_core.proofs.memory.Words.{memory_read}

module _ (z : Sizes) (call : ℕ) (v : PassState) (n : ℕ) (w : PassState) (p : PinnedHeader) (is : v.headers.pin ≡ Some p) (good : IsGood p) (key : List ℕ) (knows : key_known p.header p.wanted v.knowledge ≡ Some key) (t : Told z call (load (in_headers (at_stamp p.header))) v n w) where
  abbrev m : Memory
  m = memory z t.table.words

  abbrev qs : List Knowledge
  qs = map knowledge_of t.table.states

  -- the number found is the stamp word
  pub stamp_found : (memory z t.table.words).headers.stamp p.header ≡ n
  stamp_found = memory_read z t.table.words (in_headers (at_stamp p.header)) t.may ∙ t.finds

  inside : p.header < z.headers
  inside = pin_inside z t.table t.seat v t.rule t.here p is

  named : NamesAt p.header p.wanted
  named = named_at z t.table t.rule t.seat v t.here p.header p.wanted inside key knows

  holds : PinHolds m.headers (content m.arena.bytes) p
  holds = good_stamp_holds z m is_key_word t.table.states t.rule.covers t.rule.keys t.rule.callers t.rule.histories t.rule.headers t.rule.heard t.seat v t.here p is good.wanted key knows named n (sym stamp_found) good.live

  -- the last write of the key is of the value that the pin found, with the stamp
  now : (state_behind (history_now t.table.states (key_number key)) ≡ Some (value_in p.place p.words)) × (stamp_behind (history_now t.table.states (key_number key)) ≡ n)
  now = let l = live_ends z t.table t.rule t.seat v t.here p.header p.wanted inside key knows holds.live holds.generation in
      (l.0 ∙ (ap (λ (c : ℕ). Some (value_in c (content m.arena.bytes c))) holds.place ∙ ap (λ (ws : List ℕ). Some (value_in p.place ws)) holds.words), l.1 ∙ stamp_found)

  learned : w.knowledge ≡ taught_by (of_key_to key n) (map knowledge_of t.table.states) v.knowledge
  learned = ap (λ (y : PassState). y.knowledge) t.after ∙ (ap (λ (c : ℕ). knows_stamp p.header c v.headers.pin qs v.knowledge) stamp_found
      ∙ stamp_knowledge z m is_key_word t.table.states t.rule.covers t.rule.keys t.rule.callers t.rule.histories t.rule.headers t.rule.heard t.seat v t.here p is good.wanted key knows named n (sym stamp_found) (inl good.live) qs)

  sighted : w.findings.sights ≡ v.findings.sights ++ record { call = call; taught = of_key_to key n } ∷ []
  sighted = ap (λ (y : PassState). y.findings.sights) t.after ∙ (ap (λ (c : ℕ). sights_stamp p.header c call v.headers.pin v.knowledge v.findings) stamp_found
      ∙ stamp_sights z m is_key_word t.table.states t.rule.covers t.rule.keys t.rule.callers t.rule.histories t.rule.headers t.rule.heard t.seat v t.here p is good.wanted key knows named n (sym stamp_found) (inl good.live) call (live_now call p v.knowledge good.live))

  level : n ≤ level_now z m t.table.states (key_number key)
  level = let l = live_level z t.table t.rule t.seat v t.here p.header p.wanted inside key knows holds.live holds.generation in let f = stamp_found in omega arith

  -- the key was read: it had the value
  pub stamp_reads : ReadsLast (key_number key) n (Some (value_in p.place p.words)) v w
  stamp_reads = key_last z call (load (in_headers (at_stamp p.header))) v n w t key n learned sighted (let s = now.1 in omega arith) level (Some (value_in p.place p.words)) now.0

  -- the life is the last that the pass has seen of the key
  pub stamp_home : home_behind (seen_of (key_number key) w.knowledge) ≡ home_of p.header p.wanted
  stamp_home = ap home_behind (key_whole z t.table t.rule t.seat v t.here w key n learned (let s = now.1 in omega arith) level) ∙ (live_home z t.table t.rule t.seat v t.here p.header p.wanted inside key knows holds.live holds.generation).home

-- the stamp was found for the key, under a pin that found the life live or dead, where the life is the key's or was within the call
module _ (z : Sizes) (call : ℕ) (v : PassState) (n : ℕ) (w : PassState) (p : PinnedHeader) (is : v.headers.pin ≡ Some p) (wanted : generation_of p.found ≡ p.wanted) (state : (state_of p.found ≡ LIVE) ⊎ (state_of p.found ≡ DEAD)) (key : List ℕ) (knows : key_known p.header p.wanted v.knowledge ≡ Some key)
    (now : finds_now call (Some p) v.knowledge ≡ true) (t : Told z call (load (in_headers (at_stamp p.header))) v n w) where
  abbrev sight : Sight
  sight = record { call = call; taught = of_key_to key n }

  number_is : (memory z t.table.words).headers.stamp p.header ≡ n
  number_is = memory_read z t.table.words (in_headers (at_stamp p.header)) t.may ∙ t.finds

  within : p.header < z.headers
  within = pin_inside z t.table t.seat v t.rule t.here p is

  pub stamp_sighted : SightedSince (key_number key) n v.findings w.findings
  stamp_sighted = (
    sight ∷ [],
    ap (λ (y : PassState). y.findings.sights) t.after ∙ (ap (λ (c : ℕ). sights_stamp p.header c call v.headers.pin v.knowledge v.findings) number_is
        ∙ stamp_sights z (memory z t.table.words) is_key_word t.table.states t.rule.covers t.rule.keys t.rule.callers t.rule.histories t.rule.headers t.rule.heard t.seat v t.here p is wanted key knows
        (named_at z t.table t.rule t.seat v t.here p.header p.wanted within key knows) n (sym number_is) state call now),
    record { sight = sight; there = inl refl; just = reach_here key n },
  )

-- so it is where the pass loaded the life from an entry of the key
module _ (z : Sizes) (call : ℕ) (v : PassState) (n : ℕ) (w : PassState) (p : PinnedHeader) (is : v.headers.pin ≡ Some p) (good : IsGood p) (named : ℕ) (key : List ℕ) (life : KnowsLifeOf named key (home_of p.header p.wanted) v.knowledge) (t : Told z call (load (in_headers (at_stamp p.header))) v n w) where
  names : NamesAt p.header p.wanted
  names = good_names z t.table t.seat v t.rule t.here p is good

  knows_it : KnowsKeyOf p.header p.wanted key v.knowledge
  knows_it = loaded_key z t.table t.rule t.seat v t.here p.header p.wanted names named key life

  pub life_stamp_reads : ReadsLast (key_number key) n (Some (value_in p.place p.words)) v w
  life_stamp_reads = subst (λ (k : ℕ). ReadsLast k n (Some (value_in p.place p.words)) v w) knows_it.number (stamp_reads z call v n w p is good knows_it.known knows_it.is t)

  pub life_stamp_home : home_behind (seen_of (key_number key) w.knowledge) ≡ home_of p.header p.wanted
  life_stamp_home = subst (λ (k : ℕ). home_behind (seen_of k w.knowledge) ≡ home_of p.header p.wanted) knows_it.number (stamp_home z call v n w p is good knows_it.known knows_it.is t)
