-- The load of the stamp word of a pinned header, whose life the pin found, live or dead: the pass learns all that was written of the life's key up to the stamp.
use Rattle.std.specs.Prelude.{not}
use Rattle.std.proofs.Common.{◌≡◌, ℕ, ◌+◌, ◌⊎◌, ◌==◌, ◌&&◌, Bool, true, false, List, [], ◌∷◌, ◌++◌, map, set, sym, refl, ap, ◌∙◌, subst, inl, inr, ⊎_elim, Option, Some, eq-eqb}
use mathlib.Core.Option.{some}
use lib.ListN.{get_elem?}
use Rattle.pin_word.specs.PinWord.{generation_of, state_of}
use Rattle.oak_model.specs.KeyNumber.{key_number}
use Rattle.oak_model.specs.Limits.{Sizes}
use Rattle.oak_model.proofs.Counting.{true_both}
use Rattle.oak_model.proofs.Lists.{at_map}
use Rattle.arena_core.specs.Place.{content}
use Rattle.header_core.specs.HeaderRule.{OnPin, PinHolds, GoodPinHolds, RemovalStands, DeadPinHolds}
use Rattle.header_core.specs.declared.holds.PinnedHeader.{PinnedHeader}
use Rattle.header_core.specs.declared.states.TheConstants.{LIVE, DEAD}
use Rattle.chunk_core.specs.CoverRule.{CoversPartition}
use Rattle.chunk_core.specs.CoverSums.{word_of}
use Rattle.oak_core.specs.declared.states.Knowledge.{Knowledge}
use Rattle.oak_core.specs.declared.states.PassState.{PassState}
use Rattle.oak_core.specs.Callers.{CallersAgree}
use Rattle.oak_core.specs.KeyHistories.{IsRemovedAt}
use Rattle.oak_core.specs.KeyReads.{home_of, level_now, history_now}
use Rattle.oak_core.specs.KeyRule.{KeysStand}
use Rattle.oak_core.specs.Known.{known}
use Rattle.oak_core.specs.Learning.{taught_by, taught_where, lesson_by, of_key_to}
use Rattle.oak_core.specs.Lessons.{KnowsRemoval, PinsKnow, HeardStands}
use Rattle.oak_core.specs.LifeKeys.{is_known, key_or, key_known}
use Rattle.oak_core.specs.Memory.{Memory}
use Rattle.oak_core.specs.Owners.{HeadersAreHeld}
use Rattle.oak_core.specs.PassState.{history, knowledge_of, headers_held, rooms_held}
use Rattle.oak_core.specs.Rule.{HistoriesStand}
use Rattle.oak_core.specs.Sights.{sights_with}
use Rattle.oak_core.specs.StampLoads.{stamp_key, wanted_of, counts_stamp, finds_life, finds_now, shows_stamp, knows_stamp, sights_stamp}
use Rattle.oak_core.proofs.memory.HomeWords.{NamesAt}
use Rattle.oak_core.proofs.keyed.KeyLoads.{live_heard, removed_heard}
use Rattle.oak_core.proofs.known.KnownHeaders.{none_fresh}
use Rattle.oak_core.proofs.known.KnownKeys.{IsKeyOfLife, known_is}
use Rattle.oak_core.proofs.held.NamedLives.{named_by}
use Rattle.oak_core.proofs.known.PinsKnown.{pins_stay}
use Rattle.oak_core.proofs.known.RemovalsKnown.{known_removal, removal_key}

module _ (z : Sizes) (m : Memory) (is_key_word : ℕ → ℕ) (vs : List PassState) (parts : CoversPartition z m.rooms (content m.arena.bytes) is_key_word (map rooms_held vs)) (keys : KeysStand z m vs) (callers : CallersAgree vs) (histories : HistoriesStand (map knowledge_of vs))
    (heads : HeadersAreHeld m.headers m.arena.bytes (known (map knowledge_of vs)) (map headers_held vs)) (heard : HeardStands z m vs) (seat : ℕ) (v : PassState) (here : get_elem? vs seat ≡ some v) (p : PinnedHeader) (is : v.headers.pin ≡ Some p) (wanted : generation_of p.found ≡ p.wanted)
    (key : List ℕ) (knows : key_known p.header p.wanted v.knowledge ≡ Some key) (named_at : NamesAt p.header p.wanted) (n : ℕ) (finds : n ≡ m.headers.stamp p.header) where
  abbrev qs : List Knowledge
  qs = map knowledge_of vs

  h_here : get_elem? (map headers_held vs) seat ≡ some v.headers
  h_here = at_map headers_held vs seat v here

  key_is : stamp_key p.header v.headers.pin v.knowledge ≡ Some key
  key_is = ap (λ (o : Option PinnedHeader). key_known p.header (wanted_of o) v.knowledge) is ∙ knows

  life : IsKeyOfLife (λ k. history k (map knowledge_of vs)) p.header p.wanted key
  life = known_is (map knowledge_of vs) histories keys.legal keys.loaded seat v.knowledge (at_map knowledge_of vs seat v here) p.header p.wanted key knows

  test_is : (state_of p.found ≡ LIVE) ⊎ (state_of p.found ≡ DEAD) → finds_life p.header (Some p) ≡ true
  test_is o = true_both (p.header == p.header) ((generation_of p.found == p.wanted) && not (not (state_of p.found == LIVE) && not (state_of p.found == DEAD))) (eq-eqb p.header p.header refl)
      (true_both (generation_of p.found == p.wanted) (not (not (state_of p.found == LIVE) && not (state_of p.found == DEAD))) (eq-eqb (generation_of p.found) p.wanted wanted) (either (state_of p.found == LIVE) (state_of p.found == DEAD)
      (⊎_elim (λ (e : state_of p.found ≡ LIVE). inl (eq-eqb (state_of p.found) LIVE e)) (λ (e : state_of p.found ≡ DEAD). inr (eq-eqb (state_of p.found) DEAD e)) o)))
    where
      either : (a b : Bool) → (a ≡ true) ⊎ (b ≡ true) → not (not a && not b) ≡ true
      either true b o = refl
      either false true o = refl
      either false false (inl e) = absurd cc
      either false false (inr e) = absurd cc

  shown : (state_of p.found ≡ LIVE) ⊎ (state_of p.found ≡ DEAD) → shows_stamp p.header v.headers.pin v.knowledge ≡ true
  shown o = true_both (finds_life p.header v.headers.pin) (is_known (stamp_key p.header v.headers.pin v.knowledge)) (ap (finds_life p.header) is ∙ test_is o) (ap is_known key_is)

  -- the pass learns all that was written of the key up to the stamp
  pub stamp_knowledge : (state_of p.found ≡ LIVE) ⊎ (state_of p.found ≡ DEAD) → (qs : List Knowledge) → knows_stamp p.header n v.headers.pin qs v.knowledge ≡ taught_by (of_key_to key n) qs v.knowledge
  stamp_knowledge o qs = λ i. taught_where (shown o i) (of_key_to (key_or (key_is i)) n) qs v.knowledge

  counted : (state_of p.found ≡ LIVE) ⊎ (state_of p.found ≡ DEAD) → (call : ℕ) → finds_now call (Some p) v.knowledge ≡ true → counts_stamp call p.header v.headers.pin v.knowledge ≡ true
  counted o call now = true_both (shows_stamp p.header v.headers.pin v.knowledge) (finds_now call v.headers.pin v.knowledge) (shown o) (ap (λ (t : Option PinnedHeader). finds_now call t v.knowledge) is ∙ now)

  -- and the stamp counts as found for the key where the life is the key's, or was within the call
  pub stamp_sights : (state_of p.found ≡ LIVE) ⊎ (state_of p.found ≡ DEAD) → (call : ℕ) → finds_now call (Some p) v.knowledge ≡ true → sights_stamp p.header n call v.headers.pin v.knowledge v.findings ≡ v.findings.sights ++ record { call = call; taught = of_key_to key n } ∷ []
  stamp_sights o call now = λ i. sights_with (counted o call now i) call (of_key_to (key_or (key_is i)) n) v.findings

  -- under a good pin what it found is there, and the key's entry names the header
  module _ (found : state_of p.found ≡ LIVE) where
    pub good_stamp_holds : PinHolds m.headers (content m.arena.bytes) p
    good_stamp_holds = subst (OnPin (GoodPinHolds m.headers (content m.arena.bytes))) is (heads.good seat v.headers h_here) (record { live = found; wanted = wanted })

    pub good_stamp_word : word_of z m.rooms (content m.arena.bytes) (map rooms_held vs) (key_number key) ≡ home_of p.header p.wanted + 1
    good_stamp_word = let g = good_stamp_holds.generation in named_by z m vs keys heads p.header good_stamp_holds.live
        (none_fresh m.headers m.arena.bytes (map knowledge_of vs) (map headers_held vs) heads seat v.knowledge (at_map knowledge_of vs seat v here) p.header key (ap (λ (t : ℕ). key_known p.header t v.knowledge) g ∙ knows)) is_key_word parts callers p.wanted g named_at.names (key_number key) life.there

  module _ (u : PassState) (knowledge : u.knowledge ≡ taught_by (of_key_to key n) (map knowledge_of vs) v.knowledge) (rooms : u.rooms ≡ v.rooms) (pin : u.headers.pin ≡ v.headers.pin) where
    pins : PinsKnow u
    pins = pins_stay v u pin (lesson_by (of_key_to key n) (map knowledge_of vs) ∷ []) (ap (λ (q : Knowledge). q.heard) knowledge) (heard.pins seat v here)

    -- a good pin
    pub good_stamp_heard : state_of p.found ≡ LIVE → HeardStands z m (set vs seat u)
    good_stamp_heard found = live_heard z m m refl refl vs keys histories heard seat v u here key n rooms pins (ap (λ (q : Knowledge). q.seen) knowledge) (ap (λ (q : Knowledge). q.heard) knowledge) (home_of p.header p.wanted)
        (good_stamp_word found) named_at.names (ap (λ (h : ℕ). state_of (m.headers.pin h)) named_at.header ∙ (good_stamp_holds found).live) (finds ∙ ap m.headers.stamp (sym named_at.header))

    -- a pin that found the header dead knows the removal, whose stamp is there still
    pub dead_stamp_heard : state_of p.found ≡ DEAD → HeardStands z m (set vs seat u)
    dead_stamp_heard found = removed_heard z m m refl refl vs keys histories heard seat v u here key n rooms pins (ap (λ (q : Knowledge). q.seen) knowledge) (ap (λ (q : Knowledge). q.heard) knowledge) (home_of p.header p.wanted)
        (removal_key vs callers keys.legal (home_of p.header p.wanted) n removal.0 (key_number key) named_at.names removal.1 life.there)
      where
        stands : RemovalStands m.headers p
        stands = subst (OnPin (DeadPinHolds m.headers)) is (heads.dead seat v.headers h_here) found

        removal : (k : ℕ) × IsRemovedAt (home_of p.header p.wanted) n (history k (map knowledge_of vs))
        removal = let t = subst (OnPin (λ (o : PinnedHeader). state_of o.found ≡ DEAD → generation_of o.found ≡ o.wanted → (k : ℕ) × KnowsRemoval k (home_of o.header o.wanted) o.stamp v.knowledge)) is (heard.pins seat v here).removed found wanted in
            (t.0, subst (λ (y : ℕ). IsRemovedAt (home_of p.header p.wanted) y (history t.0 (map knowledge_of vs))) (sym (finds ∙ stands.stamp)) (known_removal (level_now z m vs) (history_now vs) t.0 (home_of p.header p.wanted) p.stamp v.knowledge (heard.lessons seat v.knowledge (at_map knowledge_of vs seat v here)) t.1))
