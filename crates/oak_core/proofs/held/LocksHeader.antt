-- A pass locks a live header whose key it knows, and takes back a dead one that no entry names: by what these steps ask, and the points before them, all points on keys, histories, lessons, callers and bounds stand behind them.
use Rattle.std.proofs.Common.{◌≡◌, ℕ, ◌+◌, ◌^◌, ◌<◌, false, List, ◌∷◌, map, set, sym, refl, ap, ◌∙◌, subst, arith, Some}
use mathlib.Core.Option.{some}
use lib.ListN.{get_elem?}
use Rattle.pin_word.specs.PinWord.{state_of, generation_of}
use Rattle.oak_model.specs.Counts.{one_at, total, Has, Each}
use Rattle.oak_model.specs.Limits.{Sizes}
use Rattle.oak_model.proofs.Counting.{total_at}
use Rattle.oak_model.proofs.Lists.{at_map}
use Rattle.arena_core.specs.Place.{content, IsPlace}
use Rattle.header_core.specs.HeaderHolds.{in_state, held_state, without_header}
use Rattle.header_core.specs.HeaderRule.{stocked}
use Rattle.header_core.specs.HeaderStep.{put_header, locked_at}
use Rattle.header_core.specs.Headers.{at_pin}
use Rattle.header_core.specs.declared.holds.HeaderHolds.{HeaderHolds}
use Rattle.header_core.specs.declared.holds.HeldAs.TheVariants.{Buried}
use Rattle.header_core.specs.declared.holds.HeldHeader.{HeldHeader}
use Rattle.header_core.specs.declared.states.TheConstants.{LIVE, LOCKED, DEAD}
use Rattle.header_core.proofs.HeaderFacts.{held_is, known_unheld}
use Rattle.header_core.proofs.HeldChanges.{each_without}
use Rattle.header_core.proofs.HeldHeaders.{held_in, rows_have}
use Rattle.chunk_core.specs.CoverRule.{CoversPartition}
use Rattle.oak_core.specs.declared.states.Findings.{Findings}
use Rattle.oak_core.specs.declared.states.Knowledge.{Knowledge}
use Rattle.oak_core.specs.declared.states.PassState.{PassState}
use Rattle.oak_core.specs.Bounds.{BasesBound}
use Rattle.oak_core.specs.Callers.{CallersAgree}
use Rattle.oak_core.specs.EntryOwners.{is_key_word}
use Rattle.oak_core.specs.KeyRule.{KeysStand}
use Rattle.oak_core.specs.KeyStates.{unnamed}
use Rattle.oak_core.specs.KeyedHeaders.{keyed_at}
use Rattle.oak_core.specs.Known.{known}
use Rattle.oak_core.specs.Learning.{taught_by, of_key_to}
use Rattle.oak_core.specs.Lessons.{HeardStands}
use Rattle.oak_core.specs.LifeKeys.{key_known}
use Rattle.oak_core.specs.Memory.{Memory}
use Rattle.oak_core.specs.Owners.{HeadersAreHeld}
use Rattle.oak_core.specs.PassState.{rooms_held, headers_held, knowledge_of}
use Rattle.oak_core.specs.Rule.{HistoriesStand}
use Rattle.oak_core.proofs.lessons.HeaderLessons.{lock_step_heard}
use Rattle.oak_core.proofs.held.HeldTruths.{held_names, held_only, held_generation}
use Rattle.oak_core.proofs.memory.HomeWords.{NamesAt, home_names}
use Rattle.oak_core.proofs.known.KnownHeaders.{known_life, none_fresh}
use Rattle.oak_core.proofs.known.KnownLaws.{known_some}
use Rattle.oak_core.proofs.held.LocksEnded.{returned_fresh, returned_unnamed}
use Rattle.oak_core.proofs.held.UnlinkedHolds.{locked_keyed}
use Rattle.oak_core.proofs.held.LockKeys as locks
use Rattle.oak_core.proofs.kinds.TakesBack as returns

module _ (z : Sizes) (m : Memory) (vs : List PassState) (parts : CoversPartition z m.rooms (content m.arena.bytes) is_key_word (map rooms_held vs)) (keys : KeysStand z m vs) (callers : CallersAgree vs) (histories : HistoriesStand (map knowledge_of vs))
    (heads : HeadersAreHeld m.headers m.arena.bytes (known (map knowledge_of vs)) (map headers_held vs)) (heard : HeardStands z m vs) (bases : BasesBound z m vs) (seat : ℕ) (v : PassState) (here : get_elem? vs seat ≡ some v) (fs : Findings) where
  abbrev qs : List Knowledge
  qs = map knowledge_of vs

  h_here : get_elem? (map headers_held vs) seat ≡ some v.headers
  h_here = at_map headers_held vs seat v here

  q_here : get_elem? qs seat ≡ some v.knowledge
  q_here = at_map knowledge_of vs seat v here

  -- a lock
  module _ (h x : ℕ) (live : state_of (m.headers.pin h) ≡ LIVE) (now : state_of x ≡ LOCKED) (generation : generation_of x ≡ generation_of (m.headers.pin h)) (low : h < 2 ^ 31) (small : m.headers.pin h < 2 ^ 64) (key : List ℕ) (knows : key_known h (generation_of (m.headers.pin h)) v.knowledge ≡ Some key) where
    named_at : NamesAt h (generation_of (m.headers.pin h))
    unfolding generation_of
    named_at = home_names h (generation_of (m.headers.pin h)) low (omega arith)

    no_fresh : total (in_state h LIVE) (map headers_held vs) ≡ 0
    no_fresh = none_fresh m.headers m.arena.bytes qs (map headers_held vs) heads seat v.knowledge q_here h key knows

    -- the pass behind the step
    abbrev pub u_locked : PassState
    u_locked = record v { findings = fs; knowledge = taught_by (of_key_to key (m.headers.stamp h)) (map knowledge_of vs) v.knowledge; headers = record v.headers { held = record (locked_at m.headers (content m.arena.bytes) h) { key = key } ∷ v.headers.held } }

    pub keys_locked : KeysStand z (record m { headers = put_header m.headers (at_pin h) x }) (set vs seat u_locked)
    keys_locked = locks.lock_keys z m is_key_word vs parts keys callers histories heads seat v here fs h x live now generation named_at no_fresh key knows

    pub histories_after : HistoriesStand (map knowledge_of (set vs seat u_locked))
    histories_after = locks.lock_histories z m is_key_word vs parts keys callers histories heads seat v here fs h x live now generation named_at no_fresh key knows

    pub heard_after : HeardStands z (record m { headers = put_header m.headers (at_pin h) x }) (set vs seat u_locked)
    heard_after = lock_step_heard z m is_key_word vs parts keys callers histories heads heard seat v here fs h x live now generation named_at no_fresh key knows

    -- what it holds is what the step leaves, with the key put in
    pub held_keyed : keyed_at h key (locked_at m.headers (content m.arena.bytes) h ∷ v.headers.held) ≡ record (locked_at m.headers (content m.arena.bytes) h) { key = key } ∷ v.headers.held
    held_keyed = locked_keyed m.headers (content m.arena.bytes) h key v.headers.held (let k = known_some h (generation_of (m.headers.pin h)) qs seat v.knowledge q_here (known_life h (generation_of (m.headers.pin h)) key v.knowledge knows) in
        let n = known_unheld m.headers (content m.arena.bytes) IsPlace (known qs) (map headers_held vs) heads h (generation_of (m.headers.pin h)) (omega arith) refl live in let t = total_at (λ (a : HeaderHolds). held_in h a.held) (map headers_held vs) seat v.headers h_here in omega arith)

  -- a dead header is taken back
  module _ (own : HeldHeader) (has : Has own v.headers.held) (buried : own.held_as ≡ Buried) (flag : own.named ≡ false) (low : own.header < 2 ^ 31) (small : m.headers.pin own.header < 2 ^ 64) (x : ℕ) (rises : generation_of x ≡ own.generation + 1) (gone : stocked (state_of x) ≡ 0)
      (u : PassState) (knowledge : u.knowledge ≡ v.knowledge) (rooms : u.rooms ≡ v.rooms) (headers : u.headers ≡ record v.headers { held = without_header own.header v.headers.held }) where
    one : held_in own.header v.headers.held ≡ 1
    one = held_only m qs (map headers_held vs) heads seat v.headers h_here own has

    is_dead : state_of (m.headers.pin own.header) ≡ DEAD
    is_dead = held_is m.headers (content m.arena.bytes) IsPlace (known qs) (map headers_held vs) heads seat v.headers own.header DEAD h_here (omega arith) (omega arith) (rows_have own.header DEAD v.headers.held own has refl (ap held_state buried))

    pub keys_returned : KeysStand z (record m { headers = put_header m.headers (at_pin own.header) x }) (set vs seat u)
    keys_returned = returns.back_keys z m is_key_word vs parts keys callers seat v here u knowledge rooms own has buried flag (held_names m qs (map headers_held vs) heads seat v.headers h_here own has low small) (held_generation m qs (map headers_held vs) heads seat v.headers h_here own has) is_dead x rises gone
        (λ h. ap (in_state h LIVE) headers ∙ returned_fresh v.headers own has one buried h) (λ h. ap (λ (a : HeaderHolds). unnamed h a + one_at own.header h) headers ∙ returned_unnamed v.headers own has one buried flag h)
        (λ P e. subst (λ (a : HeaderHolds). Each P a.held) (sym headers) (each_without P own.header v.headers.held e))
