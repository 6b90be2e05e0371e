-- The steps on headers that teach: a lock, and a pin that finds a life over.
use Rattle.std.proofs.Common.{◌≡◌, ◌≢◌, ℕ, ◌-◌, List, [], ◌∷◌, ◌++◌, map, set, sym, refl, ap, ◌∙◌, subst, inl, Some}
use mathlib.Core.Option.{some}
use lib.ListN.{get_elem?}
use Rattle.pin_word.specs.PinWord.{generation_of, state_of}
use Rattle.oak_model.specs.Counts.{total, Has}
use Rattle.oak_model.specs.History.{StampsRise}
use Rattle.oak_model.specs.KeyNumber.{key_number}
use Rattle.oak_model.specs.Limits.{Sizes}
use Rattle.oak_model.proofs.Lists.{at_map}
use Rattle.arena_core.specs.Place.{content}
use Rattle.header_core.specs.HeaderHolds.{in_state}
use Rattle.header_core.specs.HeaderRule.{OnPin}
use Rattle.header_core.specs.declared.holds.PinnedHeader.{PinnedHeader}
use Rattle.header_core.specs.declared.states.TheConstants.{LIVE, DEAD, LOCKED}
use Rattle.chunk_core.specs.CoverRule.{CoversPartition}
use Rattle.chunk_core.specs.ValueWord.{names_header}
use Rattle.oak_core.specs.declared.states.Findings.{Findings}
use Rattle.oak_core.specs.declared.states.KeyedWrite.{KeyedWrite}
use Rattle.oak_core.specs.declared.states.Knowledge.{Knowledge}
use Rattle.oak_core.specs.declared.states.Lesson.{Lesson}
use Rattle.oak_core.specs.declared.states.PassState.{PassState}
use Rattle.oak_core.specs.Callers.{CallersAgree}
use Rattle.oak_core.specs.KeyHistories.{writes_of, IsRemoved, IsRemovedAt, removed_at}
use Rattle.oak_core.specs.KeyReads.{home_of}
use Rattle.oak_core.specs.KeyRule.{KeysStand}
use Rattle.oak_core.specs.Known.{known}
use Rattle.oak_core.specs.Learning.{taught_by, lesson_by, of_key_to}
use Rattle.oak_core.specs.Lessons.{KnowsRemoval, PinsKnow, HeardStands}
use Rattle.oak_core.specs.LifeKeys.{key_known}
use Rattle.oak_core.specs.Memory.{Memory}
use Rattle.oak_core.specs.Owners.{HeadersAreHeld}
use Rattle.oak_core.specs.PassState.{history, knowledge_of, headers_held, rooms_held}
use Rattle.oak_core.specs.Rule.{HistoriesStand}
use Rattle.oak_core.proofs.memory.HomeWords.{NamesAt}
use Rattle.oak_core.proofs.keyed.KeyLoads.{live_heard, removed_heard}
use Rattle.oak_core.proofs.histories.LivesOnce.{begins_once}
use Rattle.oak_core.proofs.known.PinsKnown.{pins_stay, has_later}
use Rattle.oak_core.proofs.histories.Removals.{removed_at_is, removed_at_some}
use Rattle.oak_core.proofs.known.RemovalsKnown.{pin_removal, removed_at_once}
use Rattle.oak_core.proofs.held.LockKeys as locks

-- a lock teaches all of its key's history
module _ (z : Sizes) (m : Memory) (is_key_word : ℕ → ℕ) (vs : List PassState) (parts : CoversPartition z m.rooms (content m.arena.bytes) is_key_word (map rooms_held vs)) (keys : KeysStand z m vs) (callers : CallersAgree vs) (histories : HistoriesStand (map knowledge_of vs))
    (heads : HeadersAreHeld m.headers m.arena.bytes (known (map knowledge_of vs)) (map headers_held vs)) (heard : HeardStands z m vs)
    (seat : ℕ) (v : PassState) (here : get_elem? vs seat ≡ some v) (fs : Findings) (h x : ℕ) (live : state_of (m.headers.pin h) ≡ LIVE) (now : state_of x ≡ LOCKED) (generation : generation_of x ≡ generation_of (m.headers.pin h)) (named_at : NamesAt h (generation_of (m.headers.pin h)))
    (no_fresh : total (in_state h LIVE) (map headers_held vs) ≡ 0) (key : List ℕ) (knows : key_known h (generation_of (m.headers.pin h)) v.knowledge ≡ Some key) where
  abbrev u : PassState
  u = locks.u z m is_key_word vs parts keys callers histories heads seat v here fs h x live now generation named_at no_fresh key knows

  pub lock_step_heard : HeardStands z (locks.m' z m is_key_word vs parts keys callers histories heads seat v here fs h x live now generation named_at no_fresh key knows) (set vs seat u)
  lock_step_heard = live_heard z m (locks.m' z m is_key_word vs parts keys callers histories heads seat v here fs h x live now generation named_at no_fresh key knows) refl refl vs keys histories heard seat v u here key (m.headers.stamp h) refl
      (pins_stay v u refl (lesson_by (of_key_to key (m.headers.stamp h)) (map knowledge_of vs) ∷ []) refl (heard.pins seat v here)) refl refl (home_of h (generation_of (m.headers.pin h)))
      (locks.lock_named z m is_key_word vs parts keys callers histories heads seat v here fs h x live now generation named_at no_fresh key knows) named_at.names
      (ap (λ (t : ℕ). state_of (m.headers.pin t)) named_at.header ∙ live) (ap m.headers.stamp (sym named_at.header))

-- A pin that finds a life over teaches its removal, and where it finds the header dead, knows that its stamp is the removal's.
module _ (z : Sizes) (m m' : Memory) (words : m'.rooms ≡ m.rooms) (bytes : m'.arena ≡ m.arena) (vs : List PassState) (keys : KeysStand z m vs) (callers : CallersAgree vs) (histories : HistoriesStand (map knowledge_of vs)) (heard : HeardStands z m vs)
    (seat : ℕ) (v u : PassState) (here : get_elem? vs seat ≡ some v) (h g : ℕ) (key : List ℕ) (names : names_header (home_of h g) ≡ 1) (named : home_of h g ≢ 0)
    (removed : IsRemoved (home_of h g) (history (key_number key) (map knowledge_of vs))) (dead : state_of (m.headers.pin h) ≡ DEAD → generation_of (m.headers.pin h) ≡ g → IsRemovedAt (home_of h g) (m.headers.stamp h) (history (key_number key) (map knowledge_of vs)))
    (rooms : u.rooms ≡ v.rooms) (p : PinnedHeader) (is : u.headers.pin ≡ Some p) (at : p.header ≡ h) (wanted : p.wanted ≡ g) (found : p.found ≡ m.headers.pin h) (stamp : p.stamp ≡ m.headers.stamp h)
    (knowledge : u.knowledge ≡ taught_by (of_key_to key (removed_at (home_of h g) (history (key_number key) (map knowledge_of vs)) - 1)) (map knowledge_of vs) v.knowledge) where
  abbrev hist : List KeyedWrite
  hist = history (key_number key) (map knowledge_of vs)

  abbrev lesson : Lesson
  lesson = lesson_by (of_key_to key (removed_at (home_of h g) (history (key_number key) (map knowledge_of vs)) - 1)) (map knowledge_of vs)

  rise : (k : ℕ) → StampsRise 0 (writes_of (history k (map knowledge_of vs)))
  rise k = (keys.legal k).legal.stamps

  heard_is : u.knowledge.heard ≡ v.knowledge.heard ++ lesson ∷ []
  heard_is = ap (λ (q : Knowledge). q.heard) knowledge

  found_removal : IsRemovedAt (home_of h g) (removed_at (home_of h g) hist - 1) hist
  found_removal = let r = removed.1 in removed_at_is (home_of h g) hist (removed_at_some (home_of h g) hist r.write r.there r.home_is r.after)

  pins : PinsKnow u
  pins = record {
    removed = subst (OnPin (λ q. state_of q.found ≡ DEAD → generation_of q.found ≡ q.wanted → (k : ℕ) × KnowsRemoval k (home_of q.header q.wanted) q.stamp u.knowledge)) (sym is) (λ d e. (key_number key, knows_it d e));
  }
    where
      knows_it : state_of p.found ≡ DEAD → generation_of p.found ≡ p.wanted → KnowsRemoval (key_number key) (home_of p.header p.wanted) p.stamp u.knowledge
      knows_it d e = let r = dead (sym (ap state_of found) ∙ d) (sym (ap generation_of found) ∙ (e ∙ wanted)) in
          let same = removed_at_once (home_of h g) hist named (keys.legal (key_number key)).lives (rise (key_number key)) (begins_once vs callers (home_of h g) (key_number key) names) (m.headers.stamp h) r in
          let there = has_later v.knowledge.heard (lesson ∷ []) lesson (inl refl) in
          subst (λ (t : ℕ × ℕ). KnowsRemoval (key_number key) t.0 t.1 u.knowledge) (λ i. (home_of (sym at i) (sym wanted i), sym stamp i))
          (pin_removal (map knowledge_of vs) histories rise seat v.knowledge u.knowledge (at_map knowledge_of vs seat v here) key (home_of h g) (m.headers.stamp h) r
          (subst (λ (n : ℕ). Has (lesson_by (of_key_to key n) (map knowledge_of vs)) u.knowledge.heard) same (subst (Has lesson) (sym heard_is) there)))

  pub pin_step_heard : HeardStands z m' (set vs seat u)
  pin_step_heard = removed_heard z m m' words bytes vs keys histories heard seat v u here key (removed_at (home_of h g) (history (key_number key) (map knowledge_of vs)) - 1) rooms pins (ap (λ (q : Knowledge). q.seen) knowledge) heard_is (home_of h g) found_removal
