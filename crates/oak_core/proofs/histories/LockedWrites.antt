-- A write that ends a lock: the header becomes live again with other bytes, or dead, and the key's history has one write more.
use Rattle.std.proofs.Common.{◌≡◌, ◌≢◌, ℕ, ◌+◌, ◌*◌, ◌^◌, ◌<◌, ◌≤◌, ◌⊎◌, true, false, List, [], ◌∷◌, ◌++◌, map, set, sym, refl, ap, ◌∙◌, subst, inl, inr, ⊎_elim, arith, Some, None}
use mathlib.Core.Logic.{dite}
use mathlib.Core.Option.{some}
use native.Mathlib.Decide.{ℕ_discrete}
use lib.ListN.{get_elem?}
use Rattle.pin_word.specs.PinWord.{state_of, generation_of}
use Rattle.pin_word.proofs.Laws.{generation_small}
use Rattle.oak_model.specs.Counts.{one_at, total, Has, Each, Every}
use Rattle.oak_model.specs.History.{IsWriteOn}
use Rattle.oak_model.specs.KeyNumber.{key_number}
use Rattle.oak_model.specs.Limits.{Sizes}
use Rattle.oak_model.specs.State.{State}
use Rattle.oak_model.proofs.Counting.{one_at-same, total_set}
use Rattle.oak_model.proofs.Lists.{at_set, at_map, map_set, map_set_same, each_map, each_append}
use Rattle.oak_model.proofs.MemberLaws.{each_has, total_has}
use Rattle.oak_model.proofs.PutLaws.{put-here, put-else, put-cases}
use Rattle.arena_core.specs.Place.{content, IsPlace}
use Rattle.header_core.specs.HeaderHolds.{in_state, held_state}
use Rattle.header_core.specs.HeaderRule.{stocked}
use Rattle.header_core.specs.HeaderStep.{put_header}
use Rattle.header_core.specs.Headers.{at_pin}
use Rattle.header_core.specs.declared.holds.AtLock.{AtLock}
use Rattle.header_core.specs.declared.holds.HeaderHolds.{HeaderHolds}
use Rattle.header_core.specs.declared.holds.HeldAs.{HeldAs}
use Rattle.header_core.specs.declared.holds.HeldAs.TheVariants.{Owned, Fresh, Locked, Buried}
use Rattle.header_core.specs.declared.holds.HeldHeader.{HeldHeader}
use Rattle.header_core.specs.declared.states.TheConstants.{LIVE, LOCKED, DEAD}
use Rattle.header_core.proofs.HeaderFacts.{held_is, unheld_else}
use Rattle.header_core.proofs.HeldHeaders.{rows_have}
use Rattle.header_core.proofs.StockedStates.{stocked_le, stocked_high}
use Rattle.chunk_core.specs.CoverRule.{CoversPartition}
use Rattle.chunk_core.specs.CoverSums.{each, naming, all_of, word_of, base_of}
use Rattle.chunk_core.specs.ValueWord.{names_header, header_in, generation_in}
use Rattle.chunk_core.proofs.CoverFacts.{named_once}
use Rattle.oak_core.specs.declared.states.Findings.{Findings}
use Rattle.oak_core.specs.declared.states.KeyedWrite.{KeyedWrite}
use Rattle.oak_core.specs.declared.states.Knowledge.{Knowledge}
use Rattle.oak_core.specs.declared.states.KnownLife.{KnownLife}
use Rattle.oak_core.specs.declared.states.PassState.{PassState}
use Rattle.oak_core.specs.KeyHistories.{state_behind, stamp_behind, is_absent, IsKeyOf, IsKeyHistory, IsRemovedAt, homes_in}
use Rattle.oak_core.specs.KeyReads.{shown_by, value_in, home_of}
use Rattle.oak_core.specs.KeyRule.{KeysStand, OverIsRemoved, LoadedStand}
use Rattle.oak_core.specs.KeyStates.{KeyStands, IsHome, IsLockOf, IsBurialOf, HoldStands, unnamed}
use Rattle.oak_core.specs.Known.{known}
use Rattle.oak_core.specs.Learning.{wrote}
use Rattle.oak_core.specs.Memory.{Memory}
use Rattle.oak_core.specs.Owners.{HeadersAreHeld}
use Rattle.oak_core.specs.PassState.{history, headers_held, knowledge_of, rooms_held}
use Rattle.oak_core.specs.Rule.{HistoriesStand}
use Rattle.oak_core.proofs.histories.HistoryEnds.{last_snoc, GoesOn, history_goes_on, state_snoc, stamp_snoc, removed_snoc, homes_snoc}
use Rattle.oak_core.proofs.memory.HomeWords.{NamesAt}
use Rattle.oak_core.proofs.histories.WrittenHistories.{wrote_here, wrote_others, wrote_stand}

pub each_in : {A : Type 0} (P Q : A → Type 0) (xs : List A) → ((x : A) → Has x xs → P x → Q x) → Each P xs → Each Q xs
each_in P Q [] f h = tt
each_in P Q (x ∷ xs) f h = (f x (inl refl) h.0, each_in P Q xs (λ y m. f y (inr m)) h.1)

module _ (z : Sizes) (m : Memory) (is_key_word : ℕ → ℕ) (vs : List PassState) (parts : CoversPartition z m.rooms (content m.arena.bytes) is_key_word (map rooms_held vs)) (keys : KeysStand z m vs) (histories : HistoriesStand (map knowledge_of vs))
    (heads : HeadersAreHeld m.headers m.arena.bytes (known (map knowledge_of vs)) (map headers_held vs))
    (seat : ℕ) (v : PassState) (here : get_elem? vs seat ≡ some v) (fs : Findings) (own : HeldHeader) (has : Has own v.headers.held) (at : AtLock) (locked : own.held_as ≡ Locked at) (named_at : NamesAt own.header own.generation) (inside : own.header < z.headers)
    (small : (j : ℕ) → m.headers.pin j < 2 ^ 64) (next : own.stamp ≡ at.stamp + 1) (stamp_is : m.headers.stamp own.header ≡ own.stamp)
    (x : ℕ) (generation : generation_of x ≡ generation_of (m.headers.pin own.header)) (left : (state_of x ≡ LIVE) ⊎ (state_of x ≡ DEAD))
    (w : KeyedWrite) (key : w.key ≡ own.key) (home : w.home ≡ home_of own.header own.generation) (inserts : w.inserts ≡ false) (stamp : w.write.stamp ≡ own.stamp)
    (live : state_of x ≡ LIVE → w.write.after ≡ shown_by m own.header) (dead : state_of x ≡ DEAD → w.write.after ≡ None) (writes : IsWriteOn (Some (value_in at.place at.words)) w.write)
    (held : List HeldHeader) (fresh_same : (h : ℕ) → in_state h LIVE (record v.headers { held = held }) ≡ in_state h LIVE v.headers) (unnamed_same : (h : ℕ) → unnamed h (record v.headers { held = held }) ≡ unnamed h v.headers)
    (kept : (word : ℕ → ℕ) (hist : ℕ → List KeyedWrite) → Each (λ (t : HeldHeader). t.header ≢ own.header → HoldStands word hist t.held_as t) v.headers.held → (state_of x ≡ DEAD → IsBurialOf word hist own) → Each (λ (t : HeldHeader). HoldStands word hist t.held_as t) held) where
  abbrev bytes : ℕ → List ℕ
  bytes = content m.arena.bytes

  abbrev qs : List Knowledge
  qs = map knowledge_of vs

  abbrev h : ℕ
  h = own.header

  abbrev home0 : ℕ
  home0 = home_of own.header own.generation

  abbrev k : ℕ
  k = key_number own.key

  abbrev pub m' : Memory
  m' = record m { headers = put_header m.headers (at_pin own.header) x }

  abbrev pub u : PassState
  u = record v { findings = fs; knowledge = wrote (key_number own.key) w (map knowledge_of vs) v.knowledge; headers = record v.headers { held = held } }

  abbrev pub vs' : List PassState
  vs' = set vs seat u

  h_here : get_elem? (map headers_held vs) seat ≡ some v.headers
  h_here = at_map headers_held vs seat v here

  q_here : get_elem? qs seat ≡ some v.knowledge
  q_here = at_map knowledge_of vs seat v here

  rooms_same : map rooms_held vs' ≡ map rooms_held vs
  rooms_same = map_set_same rooms_held vs seat v u here refl

  key_is : key_number w.key ≡ k
  key_is = ap key_number key

  qs_is : map knowledge_of vs' ≡ set qs seat (wrote k w qs v.knowledge)
  qs_is = map_set knowledge_of vs seat u

  hist_here : history k (map knowledge_of vs') ≡ history k qs ++ w ∷ []
  hist_here = ap (history k) qs_is ∙ wrote_here qs histories seat v.knowledge q_here k w key_is

  hist_else : (j : ℕ) → j ≢ k → history j (map knowledge_of vs') ≡ history j qs
  hist_else j ne = ap (history j) qs_is ∙ wrote_others qs histories seat v.knowledge q_here k w key_is j ne

  pub write_histories : HistoriesStand (map knowledge_of vs')
  write_histories = subst HistoriesStand (sym qs_is) (wrote_stand qs histories seat v.knowledge q_here k w key_is)

  abbrev word : ℕ → ℕ
  word j = word_of z m.rooms (content m.arena.bytes) (map rooms_held vs) j

  abbrev word' : ℕ → ℕ
  word' j = word_of z m.rooms (content m.arena.bytes) (map rooms_held (set vs seat u)) j

  word_same : (j : ℕ) → word' j ≡ word j
  word_same j = ap (λ l. word_of z m.rooms (content m.arena.bytes) l j) rooms_same

  lock : IsLockOf word (λ j. history j qs) at own
  lock = subst (λ (s : HeldAs). HoldStands word (λ j. history j qs) s own) locked (each_has (λ (t : HeldHeader). HoldStands word (λ j. history j qs) t.held_as t) v.headers.held own (keys.locks seat v.headers h_here) has)

  is_locked : state_of (m.headers.pin h) ≡ LOCKED
  is_locked = held_is m.headers bytes IsPlace (known qs) (map headers_held vs) heads seat v.headers h LOCKED h_here (omega arith) (omega arith) (rows_have h LOCKED v.headers.held own has refl (ap held_state locked))

  at_generation : generation_of (m.headers.pin h) ≡ own.generation
  at_generation = each_has (λ (t : HeldHeader). generation_of (m.headers.pin t.header) ≡ t.generation) v.headers.held own (heads.generations seat v.headers h_here) has

  -- a header is named by one entry at most
  naming_le : (j : ℕ) → all_of z m.rooms bytes (map rooms_held vs) (each (naming j)) ≤ 1
  naming_le j = let n = keys.named j in let l = stocked_le (state_of (m.headers.pin j)) in omega arith

  -- the header's key is k alone
  one_key : (j y : ℕ) → word j ≡ y + 1 → names_header y ≡ 1 → header_in y ≡ h → j ≡ k
  one_key j y e n d = named_once z m.rooms bytes (map rooms_held vs) parts.once h j k y home0 (naming_le h) e lock.named (ap (λ (t : ℕ). t * one_at (header_in y) h) n ∙ (one (one_at (header_in y) h) ∙ one_at-same (header_in y) h d))
      (ap (λ (t : ℕ). t * one_at (header_in home0) h) named_at.names ∙ (one (one_at (header_in home0) h) ∙ one_at-same (header_in home0) h named_at.header))
    where
      one : (t : ℕ) → 1 * t ≡ t
      one t = omega arith

  goes_on : GoesOn k (history k qs) w
  goes_on = let s = lock.stamp in record {
    later = omega arith;
    writes = subst (λ (t : State). IsWriteOn t w.write) (sym lock.state) writes;
    inserts = inserts ∙ sym (ap is_absent lock.state);
    new = λ e. absurd (apart (sym inserts ∙ e));
    same = λ _. home ∙ sym ((keys.states k).named home0 lock.named named_at.names).home;
    key = subst (IsKeyOf k) (sym key) lock.key;
  }
    where
      apart : false ≡ true → ⊥
      apart e = cc

  pin_else : (j : ℕ) → j ≢ h → m'.headers.pin j ≡ m.headers.pin j
  pin_else j ne = put-else m.headers.pin h x j ne

  generation_same : (j : ℕ) → generation_of (m'.headers.pin j) ≡ generation_of (m.headers.pin j)
  generation_same j = put-cases m.headers.pin h x j (λ t. generation_of t ≡ generation_of (m.headers.pin j)) (λ e. generation ∙ ap (λ (t : ℕ). generation_of (m.headers.pin t)) (sym e)) (λ _. refl)

  state_here : state_of (m'.headers.pin h) ≡ state_of x
  state_here = ap state_of (put-here m.headers.pin h x h refl)

  -- of another key nothing changes
  stands_else : (j : ℕ) → j ≢ k → KeyStands z m'.headers (shown_by m) (base_of z m.rooms bytes (map rooms_held vs) j) (word j) (history j qs)
  stands_else j ne = record {
    none = (keys.states j).none;
    floor = (keys.states j).floor;
    named = λ y e n. let i = (keys.states j).named y e n in let apart : header_in y ≢ h = (λ d. ne (one_key j y e n d)) in record {
      inside = i.inside;
      generation = generation_same (header_in y) ∙ i.generation;
      home = i.home;
      live = λ s. i.live (ap state_of (sym (pin_else (header_in y) apart)) ∙ s);
      dead = λ s. i.dead (ap state_of (sym (pin_else (header_in y) apart)) ∙ s);
    };
  }

  stands_here : KeyStands z m'.headers (shown_by m) (base_of z m.rooms bytes (map rooms_held vs) k) (word k) (history k qs ++ w ∷ [])
  stands_here = let n = lock.named in record {
    none = λ e. absurd (omega arith);
    floor = λ f e no. absurd (let same : f ≡ home0 = omega arith in let q = ap names_header same in let y = named_at.names in omega arith);
    named = λ f e yes_named. let same : f ≡ home0 = omega arith in subst (λ (t : ℕ). IsHome z m'.headers (shown_by m) t (history k qs ++ w ∷ [])) (sym same) (record {
      inside = subst (λ (t : ℕ). t < z.headers) (sym named_at.header) inside;
      generation = generation_same (header_in home0) ∙ (ap (λ (t : ℕ). generation_of (m.headers.pin t)) named_at.header ∙ (at_generation ∙ sym named_at.generation));
      home = last_snoc (λ t. t.home) 0 (history k qs) w ∙ home;
      live = λ s. (state_snoc (history k qs) w ∙ (live (at_x s) ∙ ap (shown_by m) (sym named_at.header)), stamp_snoc (history k qs) w ∙ (stamp ∙ (sym stamp_is ∙ ap m.headers.stamp (sym named_at.header))));
      dead = λ s. (state_snoc (history k qs) w ∙ dead (at_x s), stamp_snoc (history k qs) w ∙ (stamp ∙ (sym stamp_is ∙ ap m.headers.stamp (sym named_at.header))));
    });
  }
    where
      at_x : {s : ℕ} → state_of (m'.headers.pin (header_in home0)) ≡ s → state_of x ≡ s
      at_x e = sym state_here ∙ (ap (λ (t : ℕ). state_of ((put_header m.headers (at_pin own.header) x).pin t)) (sym named_at.header) ∙ e)

  generations_of : (j : ℕ) (a : HeaderHolds) → get_elem? (map headers_held vs) j ≡ some a → (t : HeldHeader) → Has t a.held → t.generation < 2 ^ 32
  generations_of j a e t m0 = let g = each_has (λ (y : HeldHeader). generation_of (m.headers.pin y.header) ≡ y.generation) a.held t (heads.generations j a e) m0 in let s = generation_small (m.headers.pin t.header) (small t.header) in omega arith

  -- a held header of another number is none of the key's
  not_it : (t : HeldHeader) → t.header ≢ h → t.generation < 2 ^ 32 → word (key_number t.key) ≡ home_of t.header t.generation + 1 → key_number t.key ≢ k
  not_it t ne l e same = ne (let q = ap (λ (y : ℕ). word_of z m.rooms (content m.arena.bytes) (map rooms_held vs) y) same in let o = lock.named in let g = generations_of seat v.headers h_here own has in omega arith)

  hold_on : (s : HeldAs) (t : HeldHeader) → t.header ≢ h → t.generation < 2 ^ 32 → HoldStands word (λ j. history j qs) s t → HoldStands word' (λ j. history j (map knowledge_of vs')) s t
  hold_on Owned t ne l p = p
  hold_on Fresh t ne l p = p
  hold_on (Locked a) t ne l p = let other = not_it t ne l p.named in record { named = word_same (key_number t.key) ∙ p.named; flag = p.flag; key = p.key; state = ap state_behind (hist_else (key_number t.key) other) ∙ p.state; stamp = ap stamp_behind (hist_else (key_number t.key) other) ∙ p.stamp }
  hold_on Buried t ne l p = record {
    named = λ e. word_same (key_number t.key) ∙ p.named e;
    removed = dite (ℕ_discrete (key_number t.key) k) (λ e. grown t p.removed e) (λ no. subst (IsRemovedAt (home_of t.header t.generation) t.stamp) (sym (hist_else (key_number t.key) no)) p.removed);
  }
    where
      grown : (t : HeldHeader) → IsRemovedAt (home_of t.header t.generation) t.stamp (history (key_number t.key) qs) → key_number t.key ≡ k → IsRemovedAt (home_of t.header t.generation) t.stamp (history (key_number t.key) (map knowledge_of vs'))
      grown t p e = subst (λ (y : ℕ). IsRemovedAt (home_of t.header t.generation) t.stamp (history y (map knowledge_of vs'))) (sym e) (subst (IsRemovedAt (home_of t.header t.generation) t.stamp) (sym hist_here)
          (removed_snoc (home_of t.header t.generation) t.stamp (history k qs) w (subst (λ (y : ℕ). IsRemovedAt (home_of t.header t.generation) t.stamp (history y qs)) e p)))

  -- what is buried was removed by this write
  buried : state_of x ≡ DEAD → IsBurialOf word' (λ j. history j (map knowledge_of vs')) own
  buried d = record {
    named = λ _. word_same k ∙ lock.named;
    removed = subst (IsRemovedAt home0 own.stamp) (sym hist_here) (record { write = w; there = last_has (history k qs) w; home_is = home; after = dead d; stamp_is = stamp });
  }
    where
      last_has : (l : List KeyedWrite) (y : KeyedWrite) → Has y (l ++ y ∷ [])
      last_has [] y = inl refl
      last_has (a ∷ as0) y = inr (last_has as0 y)

  locks' : Every (λ (a : HeaderHolds). Each (λ (t : HeldHeader). HoldStands word' (λ j. history j (map knowledge_of vs')) t.held_as t) a.held) (map headers_held vs')
  locks' j a e = ⊎_elim (λ (y : (j ≡ seat) × (u.headers ≡ a)). subst (λ (b : HeaderHolds). Each (λ (t : HeldHeader). HoldStands word' (λ j. history j (map knowledge_of vs')) t.held_as t) b.held) y.1
      (kept word' (λ j. history j (map knowledge_of vs')) (each_in (λ (t : HeldHeader). HoldStands word (λ j. history j qs) t.held_as t) (λ (t : HeldHeader). t.header ≢ own.header → HoldStands word' (λ j. history j (map knowledge_of vs')) t.held_as t) v.headers.held (λ t m0 p ne. hold_on t.held_as t ne (generations_of seat v.headers h_here t m0) p) (keys.locks seat v.headers h_here)) buried))
      (λ (y : (j ≢ seat) × (get_elem? (map headers_held vs) j ≡ some a)). each_in (λ (t : HeldHeader). HoldStands word (λ j. history j qs) t.held_as t) (λ (t : HeldHeader). HoldStands word' (λ j. history j (map knowledge_of vs')) t.held_as t) a.held
      (λ t m0 p. hold_on t.held_as t (elsewhere j a y.0 y.1 t m0) (generations_of j a y.1 t m0) p) (keys.locks j a y.1))
      (at_set (map headers_held vs) seat j u.headers a (subst (λ (l : List HeaderHolds). get_elem? l j ≡ some a) (map_set headers_held vs seat u) e))
    where
      elsewhere : (j : ℕ) (a : HeaderHolds) → j ≢ seat → get_elem? (map headers_held vs) j ≡ some a → (t : HeldHeader) → Has t a.held → t.header ≢ h
      elsewhere j a ne e t m0 d = let none = unheld_else m.headers bytes IsPlace (known qs) (map headers_held vs) heads seat v.headers h h_here (let y = total_has (λ (r : HeldHeader). one_at r.header h) v.headers.held own has in let o = one_at-same own.header h refl in omega arith) j a e ne in
          let y = total_has (λ (r : HeldHeader). one_at r.header h) a.held t m0 in let o = one_at-same t.header h d in omega arith

  h_total : (f : HeaderHolds → ℕ) → f u.headers ≡ f v.headers → total f (map headers_held vs') ≡ total f (map headers_held vs)
  h_total f e = let t = total_set f (map headers_held vs) seat v.headers u.headers h_here in let q = ap (total f) (map_set headers_held vs seat u) in omega arith

  stocked_same : (j : ℕ) → stocked (state_of (m'.headers.pin j)) ≡ stocked (state_of (m.headers.pin j))
  stocked_same j = put-cases m.headers.pin h x j (λ t. stocked (state_of t) ≡ stocked (state_of (m.headers.pin j))) (λ e. let a = stocked_high (state_of x) (⊎_elim (λ (l : state_of x ≡ LIVE). omega arith) (λ (l : state_of x ≡ DEAD). omega arith) left) (⊎_elim (λ (l : state_of x ≡ LIVE). omega arith) (λ (l : state_of x ≡ DEAD). omega arith) left) in
      let l = is_locked in let b = stocked_high (state_of (m.headers.pin h)) (omega arith) (omega arith) in let c = ap (λ (t : ℕ). stocked (state_of (m.headers.pin t))) e in omega arith) (λ _. refl)

  pub write_keys : KeysStand z m' vs'
  write_keys = record {
    named = λ j. let a = h_total (in_state j LIVE) (fresh_same j) in let b = h_total (unnamed j) (unnamed_same j) in let s = stocked_same j in let n = keys.named j in let r = ap (λ l. all_of z m.rooms (content m.arena.bytes) l (each (naming j))) rooms_same in omega arith;
    states = λ j. subst (λ l. KeyStands z m'.headers (shown_by m) (base_of z m.rooms bytes l j) (word_of z m.rooms (content m.arena.bytes) l j) (history j (map knowledge_of vs'))) (sym rooms_same) (dite (ℕ_discrete j k)
        (λ e. subst (λ (t : ℕ). KeyStands z m'.headers (shown_by m) (base_of z m.rooms bytes (map rooms_held vs) t) (word t) (history t (map knowledge_of vs'))) (sym e)
        (subst (KeyStands z m'.headers (shown_by m) (base_of z m.rooms bytes (map rooms_held vs) k) (word k)) (sym hist_here) stands_here))
        (λ ne. subst (KeyStands z m'.headers (shown_by m) (base_of z m.rooms bytes (map rooms_held vs) j) (word j)) (sym (hist_else j ne)) (stands_else j ne)));
    locks = locks';
    legal = λ j. dite (ℕ_discrete j k) (λ e. subst (λ (t : ℕ). IsKeyHistory t (history t (map knowledge_of vs'))) (sym e) (subst (IsKeyHistory k) (sym hist_here) (history_goes_on k (history k qs) w (keys.legal k) goes_on)))
        (λ ne. subst (IsKeyHistory j) (sym (hist_else j ne)) (keys.legal j));
    over = λ j. dite (ℕ_discrete j k)
        (λ e. subst (λ (t : ℕ). Each (OverIsRemoved m'.headers.pin (history t (map knowledge_of vs'))) (history t (map knowledge_of vs'))) (sym e) (subst (λ (l : List KeyedWrite). Each (OverIsRemoved m'.headers.pin l) l) (sym hist_here)
        (each_append (OverIsRemoved m'.headers.pin (history k qs ++ w ∷ [])) (history k qs) (w ∷ []) (each_map (OverIsRemoved m.headers.pin (history k qs)) (OverIsRemoved m'.headers.pin (history k qs ++ w ∷ [])) (history k qs) (λ y f l. let r = f (was_over y l) in (r.0, removed_snoc y.home r.0 (history k qs) w r.1)) (keys.over k))
        ((λ l. absurd (now_there (was_over w l))), tt))))
        (λ ne. subst (λ (l : List KeyedWrite). Each (OverIsRemoved m'.headers.pin l) l) (sym (hist_else j ne)) (each_map (OverIsRemoved m.headers.pin (history j qs)) (OverIsRemoved m'.headers.pin (history j qs)) (history j qs) (λ y f l. f (was_over y l)) (keys.over j)));
    loaded = λ j q e. ⊎_elim (λ (y : (j ≡ seat) × (wrote k w qs v.knowledge ≡ q)). subst (LoadedStand (λ t. history t (map knowledge_of vs'))) y.1 (lives v.knowledge (keys.loaded seat v.knowledge q_here)))
        (λ (y : (j ≢ seat) × (get_elem? qs j ≡ some q)). lives q (keys.loaded j q y.1)) (at_set qs seat j (wrote k w qs v.knowledge) q (subst (λ (l : List Knowledge). get_elem? l j ≡ some q) qs_is e));
  }
    where
      was_over : (y : KeyedWrite) → generation_in y.home < generation_of (m'.headers.pin (header_in y.home)) → generation_in y.home < generation_of (m.headers.pin (header_in y.home))
      was_over y l = let g = generation_same (header_in y.home) in omega arith

      now_there : generation_in w.home < generation_of (m.headers.pin (header_in w.home)) → ⊥
      now_there l = let e = ap generation_in home ∙ named_at.generation in let f = ap (λ (t : ℕ). generation_of (m.headers.pin t)) (ap header_in home ∙ named_at.header) in let g = at_generation in omega arith

      lives : (q : Knowledge) → LoadedStand (λ t. history t qs) q → LoadedStand (λ t. history t (map knowledge_of vs')) q
      lives q p = each_map (λ (l : KnownLife). (names_header l.home ≡ 1) × (0 < homes_in l.home (history (key_number l.key) qs)) × IsKeyOf (key_number l.key) l.key) (λ (l : KnownLife). (names_header l.home ≡ 1) × (0 < homes_in l.home (history (key_number l.key) (map knowledge_of vs'))) × IsKeyOf (key_number l.key) l.key) q.loaded
          (λ l t. (
            t.0,
            dite (ℕ_discrete (key_number l.key) k)
                (λ e. subst (λ (y : ℕ). 0 < homes_in l.home (history y (map knowledge_of vs'))) (sym e) (subst (λ (ws : List KeyedWrite). 0 < homes_in l.home ws) (sym hist_here) (homes_snoc l.home (history k qs) w (subst (λ (y : ℕ). 0 < homes_in l.home (history y qs)) e t.1))))
                (λ ne. subst (λ (ws : List KeyedWrite). 0 < homes_in l.home ws) (sym (hist_else (key_number l.key) ne)) t.1),
            t.2,
          )) p
