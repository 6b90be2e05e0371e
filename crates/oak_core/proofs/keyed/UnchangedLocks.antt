-- The points on keys where the holder of a lock gives the header up as it was at the lock: nothing was written, and the header is live again.
use Rattle.std.proofs.Common.{◌≡◌, ◌≢◌, ℕ, ◌+◌, List, map, set, sym, refl, ap, ◌∙◌, subst, ⊎_elim, arith, Some}
use mathlib.Core.Logic.{dite}
use mathlib.Core.Option.{some}
use native.Mathlib.Decide.{ℕ_discrete}
use lib.ListN.{get_elem?}
use Rattle.pin_word.specs.PinWord.{state_of, generation_of}
use Rattle.oak_model.specs.Counts.{one_at, total, Each, Has}
use Rattle.oak_model.specs.KeyNumber.{key_number}
use Rattle.oak_model.specs.Limits.{Sizes}
use Rattle.oak_model.proofs.Counting.{total_set, one_at-same}
use Rattle.oak_model.proofs.Lists.{at_map, at_set, map_set, map_set_same, each_map}
use Rattle.oak_model.proofs.MemberLaws.{each_has}
use Rattle.oak_model.proofs.PutLaws.{put-here, put-else, put-cases}
use Rattle.oak_model.proofs.SumLaws.{times-one}
use Rattle.arena_core.specs.Place.{content, IsPlace}
use Rattle.header_core.specs.HeaderHolds.{held_state, without_header, in_state}
use Rattle.header_core.specs.HeaderRule.{stocked}
use Rattle.header_core.specs.HeaderStep.{put_header}
use Rattle.header_core.specs.Headers.{at_pin, HeaderMemory}
use Rattle.header_core.specs.declared.holds.AtLock.{AtLock}
use Rattle.header_core.specs.declared.holds.HeaderHolds.{HeaderHolds}
use Rattle.header_core.specs.declared.holds.HeldAs.{HeldAs}
use Rattle.header_core.specs.declared.holds.HeldAs.TheVariants.{Locked}
use Rattle.header_core.specs.declared.holds.HeldHeader.{HeldHeader}
use Rattle.header_core.specs.declared.states.TheConstants.{LIVE, LOCKED}
use Rattle.header_core.proofs.HeaderFacts.{held_is}
use Rattle.header_core.proofs.HeldHeaders.{held_in, rows_have}
use Rattle.header_core.proofs.StockedStates.{stocked_le, stocked_high}
use Rattle.chunk_core.specs.CoverRule.{CoversPartition}
use Rattle.chunk_core.specs.CoverSums.{each, naming, word_for, base_for, all_of}
use Rattle.chunk_core.specs.Covers.{Cover}
use Rattle.chunk_core.specs.ValueWord.{names_header, header_in}
use Rattle.chunk_core.specs.declared.holds.RoomHolds.{RoomHolds}
use Rattle.chunk_core.proofs.CoverFacts.{named_once}
use Rattle.oak_core.specs.declared.states.KeyedWrite.{KeyedWrite}
use Rattle.oak_core.specs.declared.states.Knowledge.{Knowledge}
use Rattle.oak_core.specs.declared.states.PassState.{PassState}
use Rattle.oak_core.specs.KeyHistories.{state_behind, stamp_behind, IsKeyHistory}
use Rattle.oak_core.specs.KeyReads.{value_in, word_now, base_now, history_now, sum_now, shown_by, home_of}
use Rattle.oak_core.specs.KeyRule.{KeysStand, OverIsRemoved}
use Rattle.oak_core.specs.KeyStates.{IsLockOf, KeyStands, HoldStands, unnamed}
use Rattle.oak_core.specs.Known.{known}
use Rattle.oak_core.specs.Memory.{Memory}
use Rattle.oak_core.specs.Owners.{HeadersAreHeld}
use Rattle.oak_core.specs.PassState.{rooms_held, headers_held, knowledge_of, history}
use Rattle.oak_core.proofs.held.HeldTruths.{held_only}
use Rattle.oak_core.proofs.memory.HomeWords.{NamesAt}
use Rattle.oak_core.proofs.keyed.KeyFrames.{stands_same, hold_same, loaded_same}
use Rattle.oak_core.proofs.held.LocksEnded.{unlocked_fresh, unlocked_unnamed, unlocked_holds}

module _ (z : Sizes) (m : Memory) (is_key_word : ℕ → ℕ) (vs : List PassState) (parts : CoversPartition z m.rooms (content m.arena.bytes) is_key_word (map rooms_held vs)) (keys : KeysStand z m vs) (heads : HeadersAreHeld m.headers m.arena.bytes (known (map knowledge_of vs)) (map headers_held vs))
    (seat : ℕ) (v u : PassState) (here : get_elem? vs seat ≡ some v) (rooms : u.rooms ≡ v.rooms) (knowledge : u.knowledge ≡ v.knowledge) (own : HeldHeader) (has : Has own v.headers.held) (at : AtLock) (locked : own.held_as ≡ Locked at) (named_at : NamesAt own.header own.generation)
    (headers : u.headers ≡ record v.headers { held = without_header own.header v.headers.held }) (stamp : m.headers.stamp own.header ≡ at.stamp) (shown : Some (value_in at.place at.words) ≡ shown_by m own.header) (x : ℕ) (generation : generation_of x ≡ generation_of (m.headers.pin own.header)) (live : state_of x ≡ LIVE) where
  abbrev vs' : List PassState
  vs' = set vs seat u

  abbrev n : HeaderMemory
  n = put_header m.headers (at_pin own.header) x

  abbrev home0 : ℕ
  home0 = home_of own.header own.generation

  abbrev k : ℕ
  k = key_number own.key

  h_here : get_elem? (map headers_held vs) seat ≡ some v.headers
  h_here = at_map headers_held vs seat v here

  one : held_in own.header v.headers.held ≡ 1
  one = held_only m (map knowledge_of vs) (map headers_held vs) heads seat v.headers h_here own has

  sums : (F : Cover → ℕ) → sum_now z m (set vs seat u) F ≡ sum_now z m vs F
  sums F = ap (λ (hs : List RoomHolds). all_of z m.rooms (content m.arena.bytes) hs F) (map_set_same rooms_held vs seat v u here rooms)

  knows_same : map knowledge_of (set vs seat u) ≡ map knowledge_of vs
  knows_same = map_set_same knowledge_of vs seat v u here knowledge

  same : (j : ℕ) → history_now (set vs seat u) j ≡ history_now vs j
  same j = ap (history j) knows_same

  heads_same : (f : HeaderHolds → ℕ) → f u.headers ≡ f v.headers → total f (map headers_held (set vs seat u)) ≡ total f (map headers_held vs)
  heads_same f e = let t = total_set f (map headers_held vs) seat v.headers u.headers h_here in let q = ap (total f) (map_set headers_held vs seat u) in omega arith

  lock : IsLockOf (word_now z m vs) (history_now vs) at own
  lock = subst (λ (s : HeldAs). HoldStands (word_now z m vs) (history_now vs) s own) locked (each_has (λ (t : HeldHeader). HoldStands (word_now z m vs) (history_now vs) t.held_as t) v.headers.held own (keys.locks seat v.headers h_here) has)

  is_locked : state_of (m.headers.pin own.header) ≡ LOCKED
  is_locked = held_is m.headers (content m.arena.bytes) IsPlace (known (map knowledge_of vs)) (map headers_held vs) heads seat v.headers own.header LOCKED h_here (omega arith) (omega arith) (rows_have own.header LOCKED v.headers.held own has refl (ap held_state locked))

  generations : (j : ℕ) → generation_of (n.pin j) ≡ generation_of (m.headers.pin j)
  generations j = put-cases m.headers.pin own.header x j (λ t. generation_of t ≡ generation_of (m.headers.pin j)) (λ e. generation ∙ ap (λ (t : ℕ). generation_of (m.headers.pin t)) (sym e)) (λ _. refl)

  stocked_same : (j : ℕ) → stocked (state_of (n.pin j)) ≡ stocked (state_of (m.headers.pin j))
  stocked_same j = put-cases m.headers.pin own.header x j (λ t. stocked (state_of t) ≡ stocked (state_of (m.headers.pin j)))
      (λ e. let a = stocked_high (state_of x) (omega arith) (omega arith) in let l = is_locked in let b = stocked_high (state_of (m.headers.pin own.header)) (omega arith) (omega arith) in let c = ap (λ (t : ℕ). stocked (state_of (m.headers.pin t))) e in omega arith) (λ _. refl)

  -- the header's key is the lock's alone
  one_key : (j y : ℕ) → word_now z m vs j ≡ y + 1 → names_header y ≡ 1 → header_in y ≡ own.header → j ≡ k
  one_key j y e high d = named_once z m.rooms (content m.arena.bytes) (map rooms_held vs) parts.once own.header j k y home0 (let a = keys.named own.header in let l = stocked_le (state_of (m.headers.pin own.header)) in omega arith) e lock.named
      (times-one (names_header y) (one_at (header_in y) own.header) high ∙ one_at-same (header_in y) own.header d) (times-one (names_header home0) (one_at (header_in home0) own.header) named_at.names ∙ one_at-same (header_in home0) own.header named_at.header)

  stands : (j : ℕ) → KeyStands z n (shown_by m) (base_now z m vs j) (word_now z m vs j) (history_now vs j)
  stands j = record {
    none = (keys.states j).none;
    floor = (keys.states j).floor;
    named = λ y e high. let i = (keys.states j).named y e high in record {
      inside = i.inside;
      generation = generations (header_in y) ∙ i.generation;
      home = i.home;
      live = λ s. dite (ℕ_discrete (header_in y) own.header) (λ d. let q = ap (history_now vs) (one_key j y e high d) in (ap state_behind q ∙ (lock.state ∙ (shown ∙ ap (shown_by m) (sym d))), ap stamp_behind q ∙ (lock.stamp ∙ (sym stamp ∙ ap m.headers.stamp (sym d)))))
          (λ ne. i.live (ap state_of (sym (put-else m.headers.pin own.header x (header_in y) ne)) ∙ s));
      dead = λ s. dite (ℕ_discrete (header_in y) own.header) (λ d. absurd (let t = ap state_of (put-here m.headers.pin own.header x (header_in y) d) in let w = live in omega arith)) (λ ne. i.dead (ap state_of (sym (put-else m.headers.pin own.header x (header_in y) ne)) ∙ s));
    };
  }

  holds_on : (a : HeaderHolds) → Each (λ (r : HeldHeader). HoldStands (word_now z m vs) (history_now vs) r.held_as r) a.held → Each (λ (r : HeldHeader). HoldStands (word_now z m (set vs seat u)) (history_now (set vs seat u)) r.held_as r) a.held
  holds_on a p = each_map (λ (r : HeldHeader). HoldStands (word_now z m vs) (history_now vs) r.held_as r) (λ (r : HeldHeader). HoldStands (word_now z m vs') (history_now vs') r.held_as r) a.held
      (λ r q. hold_same (word_now z m vs) (word_now z m vs') (history_now vs) (history_now vs') (λ j. sums (each (word_for j))) same r.held_as r q) p

  left_holds : Each (λ (r : HeldHeader). HoldStands (word_now z m vs) (history_now vs) r.held_as r) u.headers.held
  left_holds = subst (λ (a : HeaderHolds). Each (λ (r : HeldHeader). HoldStands (word_now z m vs) (history_now vs) r.held_as r) a.held) (sym headers) (unlocked_holds v.headers own has one (word_now z m vs) (history_now vs)
      (each_map (λ (r : HeldHeader). HoldStands (word_now z m vs) (history_now vs) r.held_as r) (λ (r : HeldHeader). r.header ≢ own.header → HoldStands (word_now z m vs) (history_now vs) r.held_as r) v.headers.held (λ r p _. p) (keys.locks seat v.headers h_here)))

  pub keys_given_up : KeysStand z (record m { headers = put_header m.headers (at_pin own.header) x }) (set vs seat u)
  keys_given_up = record {
    named = λ j. let s = sums (each (naming j)) in let a = heads_same (in_state j LIVE) (ap (in_state j LIVE) headers ∙ unlocked_fresh v.headers own has one at locked j) in let b = heads_same (unnamed j) (ap (unnamed j) headers ∙ unlocked_unnamed v.headers own has one at locked j) in let c = stocked_same j in let q = keys.named j in omega arith;
    states = λ j. stands_same z n (shown_by m) (base_now z m vs j) (base_now z m vs' j) (word_now z m vs j) (word_now z m vs' j) (history_now vs j) (history_now vs' j) (sums (each (word_for j))) (same j) (let b = sums (base_for j) in omega arith) (stands j);
    locks = λ j a at. ⊎_elim (λ (y : (j ≡ seat) × (u.headers ≡ a)). subst (λ (b : HeaderHolds). Each (λ (r : HeldHeader). HoldStands (word_now z m vs') (history_now vs') r.held_as r) b.held) y.1 (holds_on u.headers left_holds))
        (λ (y : (j ≢ seat) × (get_elem? (map headers_held vs) j ≡ some a)). holds_on a (keys.locks j a y.1))
        (at_set (map headers_held vs) seat j u.headers a (subst (λ (l : List HeaderHolds). get_elem? l j ≡ some a) (map_set headers_held vs seat u) at));
    legal = λ j. subst (IsKeyHistory j) (sym (same j)) (keys.legal j);
    over = λ j. subst (λ (l : List KeyedWrite). Each (OverIsRemoved n.pin l) l) (sym (same j)) (each_map (OverIsRemoved m.headers.pin (history_now vs j)) (OverIsRemoved n.pin (history_now vs j)) (history_now vs j) (λ w f l. f (let g = generations (header_in w.home) in omega arith)) (keys.over j));
    loaded = λ j q at. loaded_same (history_now vs) (history_now vs') same q (keys.loaded j q (subst (λ (l : List Knowledge). get_elem? l j ≡ some q) knows_same at));
  }
