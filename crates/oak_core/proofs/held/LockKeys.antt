-- A live header that the pass knows is locked: its key is the one whose entry names it, and the pass learns all that was written of it.
use Rattle.std.specs.Prelude.{not}
use Rattle.std.proofs.Common.{◌≡◌, ◌≢◌, ℕ, ◌+◌, ◌*◌, List, [], ◌∷◌, map, set, sym, refl, ap, ◌∙◌, subst, ⊎_elim, arith, Some}
use mathlib.Core.Logic.{dite}
use mathlib.Core.Option.{some}
use native.Mathlib.Decide.{ℕ_discrete}
use lib.ListN.{get_elem?}
use Rattle.pin_word.specs.PinWord.{state_of, generation_of}
use Rattle.oak_model.specs.Counts.{one_at, one_if, total, Each}
use Rattle.oak_model.specs.History.{StampsRise}
use Rattle.oak_model.specs.KeyNumber.{key_number}
use Rattle.oak_model.specs.Limits.{Sizes}
use Rattle.oak_model.proofs.Counting.{one_at-other, total_set}
use Rattle.oak_model.proofs.Lists.{at_set, at_map, map_set, map_set_same, each_map}
use Rattle.oak_model.proofs.PutLaws.{put-here, put-else, put-cases}
use Rattle.arena_core.specs.Place.{content}
use Rattle.header_core.specs.HeaderHolds.{in_state, held_state}
use Rattle.header_core.specs.HeaderRule.{stocked}
use Rattle.header_core.specs.HeaderStep.{put_header, locked_at}
use Rattle.header_core.specs.Headers.{at_pin}
use Rattle.header_core.specs.declared.holds.HeaderHolds.{HeaderHolds}
use Rattle.header_core.specs.declared.holds.HeldHeader.{HeldHeader}
use Rattle.header_core.specs.declared.states.TheConstants.{LIVE, LOCKED, DEAD}
use Rattle.header_core.proofs.StockedStates.{stocked_high}
use Rattle.chunk_core.specs.CoverRule.{CoversPartition}
use Rattle.chunk_core.specs.CoverSums.{each, naming, all_of, word_of, base_of}
use Rattle.chunk_core.specs.ValueWord.{header_in}
use Rattle.chunk_core.specs.declared.holds.RoomHolds.{RoomHolds}
use Rattle.oak_core.specs.declared.states.Findings.{Findings}
use Rattle.oak_core.specs.declared.states.KeyedWrite.{KeyedWrite}
use Rattle.oak_core.specs.declared.states.Knowledge.{Knowledge}
use Rattle.oak_core.specs.declared.states.Lesson.{Lesson}
use Rattle.oak_core.specs.declared.states.PassState.{PassState}
use Rattle.oak_core.specs.Callers.{CallersAgree}
use Rattle.oak_core.specs.KeyHistories.{writes_of, IsKeyHistory}
use Rattle.oak_core.specs.KeyReads.{shown_by, home_of}
use Rattle.oak_core.specs.KeyRule.{KeysStand, OverIsRemoved, LoadedStand}
use Rattle.oak_core.specs.KeyStates.{KeyStands, IsLockOf, HoldStands, unnamed}
use Rattle.oak_core.specs.Known.{known}
use Rattle.oak_core.specs.Learning.{taught, reach_of, lesson_by, taught_by, of_key_to}
use Rattle.oak_core.specs.LifeKeys.{key_known}
use Rattle.oak_core.specs.Memory.{Memory}
use Rattle.oak_core.specs.Owners.{HeadersAreHeld}
use Rattle.oak_core.specs.PassState.{history, headers_held, knowledge_of, rooms_held}
use Rattle.oak_core.specs.Rule.{HistoriesStand}
use Rattle.oak_core.proofs.memory.HomeWords.{NamesAt}
use Rattle.oak_core.proofs.keyed.KeyFrames.{hold_same, loaded_same}
use Rattle.oak_core.proofs.known.KnownKeys.{IsKeyOfLife, known_is}
use Rattle.oak_core.proofs.held.NamedLives.{named_by}
use Rattle.oak_core.proofs.lessons.Teaching.{taught_same, taught_stand}

module _ (z : Sizes) (m : Memory) (is_key_word : ℕ → ℕ) (vs : List PassState) (parts : CoversPartition z m.rooms (content m.arena.bytes) is_key_word (map rooms_held vs)) (keys : KeysStand z m vs) (callers : CallersAgree vs) (histories : HistoriesStand (map knowledge_of vs))
    (heads : HeadersAreHeld m.headers m.arena.bytes (known (map knowledge_of vs)) (map headers_held vs))
    (seat : ℕ) (v : PassState) (here : get_elem? vs seat ≡ some v) (fs : Findings) (h x : ℕ) (live : state_of (m.headers.pin h) ≡ LIVE) (now : state_of x ≡ LOCKED) (generation : generation_of x ≡ generation_of (m.headers.pin h)) (named_at : NamesAt h (generation_of (m.headers.pin h)))
    (no_fresh : total (in_state h LIVE) (map headers_held vs) ≡ 0) (key : List ℕ) (knows : key_known h (generation_of (m.headers.pin h)) v.knowledge ≡ Some key) where
  abbrev bytes : ℕ → List ℕ
  bytes = content m.arena.bytes

  abbrev qs : List Knowledge
  qs = map knowledge_of vs

  abbrev hist : ℕ → List KeyedWrite
  hist j = history j (map knowledge_of vs)

  abbrev home0 : ℕ
  home0 = home_of h (generation_of (m.headers.pin h))

  abbrev T : ℕ → ℕ
  T = reach_of (of_key_to key (m.headers.stamp h))

  abbrev ls : List Lesson
  ls = lesson_by (of_key_to key (m.headers.stamp h)) (map knowledge_of vs) ∷ []

  abbrev pub new : HeldHeader
  new = record (locked_at m.headers (content m.arena.bytes) h) { key = key }

  abbrev pub m' : Memory
  m' = record m { headers = put_header m.headers (at_pin h) x }

  abbrev pub u : PassState
  u = record v { findings = fs; knowledge = taught_by (of_key_to key (m.headers.stamp h)) (map knowledge_of vs) v.knowledge; headers = record v.headers { held = record (locked_at m.headers (content m.arena.bytes) h) { key = key } ∷ v.headers.held } }

  abbrev pub vs' : List PassState
  vs' = set vs seat u

  abbrev word : ℕ → ℕ
  word j = word_of z m.rooms (content m.arena.bytes) (map rooms_held vs) j

  q_here : get_elem? qs seat ≡ some v.knowledge
  q_here = at_map knowledge_of vs seat v here

  h_here : get_elem? (map headers_held vs) seat ≡ some v.headers
  h_here = at_map headers_held vs seat v here

  rooms_same : map rooms_held vs' ≡ map rooms_held vs
  rooms_same = map_set_same rooms_held vs seat v u here refl

  word_same : (j : ℕ) → word_of z m.rooms (content m.arena.bytes) (map rooms_held vs') j ≡ word j
  word_same j = ap (λ l. word_of z m.rooms (content m.arena.bytes) l j) rooms_same

  rise : (k : ℕ) → StampsRise 0 (writes_of (history k qs))
  rise k = (keys.legal k).legal.stamps

  qs_is : map knowledge_of vs' ≡ set qs seat (taught T ls qs v.knowledge)
  qs_is = map_set knowledge_of vs seat u

  hist_same : (k : ℕ) → history k (map knowledge_of vs') ≡ hist k
  hist_same k = ap (history k) qs_is ∙ taught_same T ls qs histories rise seat v.knowledge q_here k

  pub lock_histories : HistoriesStand (map knowledge_of vs')
  lock_histories = subst HistoriesStand (sym qs_is) (taught_stand T ls qs histories rise seat v.knowledge q_here)

  life : IsKeyOfLife hist h (generation_of (m.headers.pin h)) key
  life = known_is qs histories keys.legal keys.loaded seat v.knowledge q_here h (generation_of (m.headers.pin h)) key knows

  -- the entry of the known key names the header
  pub lock_named : word (key_number key) ≡ home0 + 1
  lock_named = named_by z m vs keys heads h live no_fresh is_key_word parts callers (generation_of (m.headers.pin h)) refl named_at.names (key_number key) life.there

  pin_else : (j : ℕ) → j ≢ h → m'.headers.pin j ≡ m.headers.pin j
  pin_else j ne = put-else m.headers.pin h x j ne

  generation_same : (j : ℕ) → generation_of (m'.headers.pin j) ≡ generation_of (m.headers.pin j)
  generation_same j = put-cases m.headers.pin h x j (λ t. generation_of t ≡ generation_of (m.headers.pin j)) (λ e. generation ∙ ap (λ (t : ℕ). generation_of (m.headers.pin t)) (sym e)) (λ _. refl)

  stands : (j : ℕ) → KeyStands z m'.headers (shown_by m) (base_of z m.rooms bytes (map rooms_held vs) j) (word j) (hist j)
  stands j = record {
    none = (keys.states j).none;
    floor = (keys.states j).floor;
    named = λ y e n. let i = (keys.states j).named y e n in record {
      inside = i.inside;
      generation = generation_same (header_in y) ∙ i.generation;
      home = i.home;
      live = λ s. dite (ℕ_discrete (header_in y) h) (λ q. absurd (let t = ap state_of (put-here m.headers.pin h x (header_in y) q) in let w = now in omega arith)) (λ ne. i.live (ap state_of (sym (pin_else (header_in y) ne)) ∙ s));
      dead = λ s. dite (ℕ_discrete (header_in y) h) (λ q. absurd (let t = ap state_of (put-here m.headers.pin h x (header_in y) q) in let w = now in omega arith)) (λ ne. i.dead (ap state_of (sym (pin_else (header_in y) ne)) ∙ s));
    };
  }

  -- what the lock keeps
  lock : IsLockOf word hist (record { place = m.headers.place h; stamp = m.headers.stamp h; words = content m.arena.bytes (m.headers.place h) }) new
  lock = let i = ((keys.states (key_number key)).named home0 lock_named named_at.names).live (ap (λ (t : ℕ). state_of (m.headers.pin t)) named_at.header ∙ live) in record {
    named = lock_named;
    flag = refl;
    key = life.key_is;
    state = i.0 ∙ ap (shown_by m) named_at.header;
    stamp = i.1 ∙ ap m.headers.stamp named_at.header;
  }

  h_total : (f : HeaderHolds → ℕ) → f u.headers ≡ f v.headers → total f (map headers_held vs') ≡ total f (map headers_held vs)
  h_total f e = let t = total_set f (map headers_held vs) seat v.headers u.headers h_here in let q = ap (total f) (map_set headers_held vs seat u) in omega arith

  one_more : (f : HeldHeader → ℕ) → f new ≡ 0 → total f (new ∷ v.headers.held) ≡ total f v.headers.held
  unfolding total
  one_more f e = omega arith

  stocked_same : (j : ℕ) → stocked (state_of (m'.headers.pin j)) ≡ stocked (state_of (m.headers.pin j))
  stocked_same j = put-cases m.headers.pin h x j (λ t. stocked (state_of t) ≡ stocked (state_of (m.headers.pin j))) (λ e. let a = stocked_high (state_of x) (omega arith) (omega arith) in let b = stocked_high (state_of (m.headers.pin h)) (omega arith) (omega arith) in let c = ap (λ (t : ℕ). stocked (state_of (m.headers.pin t))) e in omega arith) (λ _. refl)

  pub lock_keys : KeysStand z m' vs'
  lock_keys = record {
    named = λ j. let a = h_total (in_state j LIVE) (one_more (λ r. one_at r.header j * one_at (held_state r.held_as) LIVE) (no_times (one_at h j) (one_at LOCKED LIVE) (one_at-other LOCKED LIVE (λ q. absurd (omega arith))))) in
        let b = h_total (unnamed j) (one_more (λ r. one_at r.header j * one_at (held_state r.held_as) DEAD * one_if (not r.named)) (no_times (one_at h j * one_at LOCKED DEAD) 0 refl)) in
        let s = stocked_same j in let n = keys.named j in let r = ap (λ l. all_of z m.rooms (content m.arena.bytes) l (each (naming j))) rooms_same in omega arith;
    states = λ j. subst (λ (t : (List RoomHolds) × (List KeyedWrite)). KeyStands z m'.headers (shown_by m) (base_of z m.rooms bytes t.0 j) (word_of z m.rooms (content m.arena.bytes) t.0 j) t.1) (λ i. (sym rooms_same i, sym (hist_same j) i)) (stands j);
    locks = λ j a e. each_map (λ (t : HeldHeader). HoldStands word hist t.held_as t) (λ (t : HeldHeader). HoldStands (word_of z m.rooms (content m.arena.bytes) (map rooms_held vs')) (λ k. history k (map knowledge_of vs')) t.held_as t) a.held (λ t p. hold_same word (word_of z m.rooms (content m.arena.bytes) (map rooms_held vs')) hist (λ k. history k (map knowledge_of vs')) word_same hist_same t.held_as t p)
        (⊎_elim (λ (y : (j ≡ seat) × (u.headers ≡ a)). subst (λ (b : HeaderHolds). Each (λ (t : HeldHeader). HoldStands word hist t.held_as t) b.held) y.1 (lock, keys.locks seat v.headers h_here)) (λ (y : (j ≢ seat) × (get_elem? (map headers_held vs) j ≡ some a)). keys.locks j a y.1)
        (at_set (map headers_held vs) seat j u.headers a (subst (λ (l : List HeaderHolds). get_elem? l j ≡ some a) (map_set headers_held vs seat u) e)));
    legal = λ j. subst (IsKeyHistory j) (sym (hist_same j)) (keys.legal j);
    over = λ j. subst (λ (l : List KeyedWrite). Each (OverIsRemoved m'.headers.pin l) l) (sym (hist_same j)) (each_map (OverIsRemoved m.headers.pin (hist j)) (OverIsRemoved m'.headers.pin (hist j)) (hist j) (λ y f l. f (let g = generation_same (header_in y.home) in omega arith)) (keys.over j));
    loaded = λ j q at. ⊎_elim (λ (t : (j ≡ seat) × (taught T ls qs v.knowledge ≡ q)). subst (LoadedStand (λ k. history k (map knowledge_of vs'))) t.1 (loaded_same hist (λ k. history k (map knowledge_of vs')) hist_same (taught T ls qs v.knowledge) (keys.loaded seat v.knowledge q_here)))
        (λ (t : (j ≢ seat) × (get_elem? qs j ≡ some q)). loaded_same hist (λ k. history k (map knowledge_of vs')) hist_same q (keys.loaded j q t.1)) (at_set qs seat j (taught T ls qs v.knowledge) q (subst (λ (l : List Knowledge). get_elem? l j ≡ some q) qs_is at));
  }
    where
      no_times : (a b : ℕ) → b ≡ 0 → a * b ≡ 0
      no_times a b e = grind arith
