-- A buried header that no entry names comes to the next generation: the lives that it had are over, and were removed.
use Rattle.std.proofs.Common.{◌≡◌, ◌≢◌, ℕ, ◌+◌, ◌*◌, ◌<◌, ◌≤◌, true, false, List, [], ◌∷◌, map, set, sym, refl, ap, ◌∙◌, subst, ⊎_elim, arith, None}
use mathlib.Core.Logic.{dite}
use mathlib.Core.Option.{some}
use native.Mathlib.Decide.{ℕ_discrete, dec_lt}
use lib.ListN.{get_elem?}
use Rattle.pin_word.specs.PinWord.{state_of, generation_of}
use Rattle.oak_model.specs.Counts.{one_at, total, Has, Each, Every}
use Rattle.oak_model.specs.KeyNumber.{key_number}
use Rattle.oak_model.specs.Limits.{Sizes}
use Rattle.oak_model.specs.State.{State}
use Rattle.oak_model.proofs.Counting.{one_at-same, one_at-other, one_at-le, test-cases, total_set, total_at}
use Rattle.oak_model.proofs.Lists.{at_set, at_map, map_set, map_set_same}
use Rattle.oak_model.proofs.MemberLaws.{each_has, total_has}
use Rattle.oak_model.proofs.PutLaws.{put-here, put-else}
use Rattle.arena_core.specs.Place.{content}
use Rattle.header_core.specs.HeaderHolds.{in_state}
use Rattle.header_core.specs.HeaderRule.{stocked}
use Rattle.header_core.specs.HeaderStep.{put_header}
use Rattle.header_core.specs.Headers.{at_pin}
use Rattle.header_core.specs.declared.holds.HeaderHolds.{HeaderHolds}
use Rattle.header_core.specs.declared.holds.HeldAs.{HeldAs}
use Rattle.header_core.specs.declared.holds.HeldAs.TheVariants.{Buried}
use Rattle.header_core.specs.declared.holds.HeldHeader.{HeldHeader}
use Rattle.header_core.specs.declared.states.TheConstants.{LIVE, DEAD}
use Rattle.header_core.proofs.StockedStates.{stocked_le, stocked_high}
use Rattle.chunk_core.specs.CoverRule.{CoversPartition}
use Rattle.chunk_core.specs.CoverSums.{each, has_key, naming, names, all_of, word_of, base_of}
use Rattle.chunk_core.specs.ValueWord.{names_header, header_in, generation_in}
use Rattle.chunk_core.specs.declared.holds.RoomHolds.{RoomHolds}
use Rattle.chunk_core.proofs.Lookups.{picked, each_le}
use Rattle.oak_core.specs.declared.states.KeyedWrite.{KeyedWrite}
use Rattle.oak_core.specs.declared.states.Knowledge.{Knowledge}
use Rattle.oak_core.specs.declared.states.PassState.{PassState}
use Rattle.oak_core.specs.Callers.{CallersAgree}
use Rattle.oak_core.specs.KeyHistories.{is_absent, LivesFollow, IsKeyHistory, IsRemovedAt, IsRemoved, homes_in}
use Rattle.oak_core.specs.KeyReads.{shown_by, home_of}
use Rattle.oak_core.specs.KeyRule.{KeysStand, OverIsRemoved, LoadedStand}
use Rattle.oak_core.specs.KeyStates.{KeyStands, IsBurialOf, HoldStands, unnamed}
use Rattle.oak_core.specs.Memory.{Memory}
use Rattle.oak_core.specs.PassState.{history, headers_held, knowledge_of, rooms_held}
use Rattle.oak_core.proofs.histories.HomeKeys.{home_key}
use Rattle.oak_core.proofs.memory.HomeWords.{home_is, NamesAt}
use Rattle.oak_core.proofs.histories.LockedWrites.{each_in}

-- each write of a history is of a life of a header
lives_named : (s : State) (home : ℕ) (h : List KeyedWrite) → LivesFollow s home h → (is_absent s ≡ false → names_header home ≡ 1) → Each (λ (w : KeyedWrite). names_header w.home ≡ 1) h
lives_named s home [] l n = tt
lives_named s home (w ∷ ws) l n = let here : names_header w.home ≡ 1 = test-cases w.inserts (λ b. (w.inserts ≡ b) → names_header w.home ≡ 1) (λ _ e. l.1 e) (λ _ e. ap names_header (l.2 e) ∙ n (sym l.0 ∙ e)) refl in (here, lives_named w.write.after w.home ws l.3 (λ _. here))

has_home : (h : List KeyedWrite) (w : KeyedWrite) → Has w h → 0 < homes_in w.home h
has_home h w m = let t = total_has (λ (x : KeyedWrite). one_at x.home w.home) h w m in let o = one_at-same w.home w.home refl in omega arith

module _ (z : Sizes) (m : Memory) (is_key_word : ℕ → ℕ) (vs : List PassState) (parts : CoversPartition z m.rooms (content m.arena.bytes) is_key_word (map rooms_held vs)) (keys : KeysStand z m vs) (callers : CallersAgree vs)
    (seat : ℕ) (v : PassState) (here : get_elem? vs seat ≡ some v) (u : PassState) (knowledge : u.knowledge ≡ v.knowledge) (rooms : u.rooms ≡ v.rooms)
    (own : HeldHeader) (has : Has own v.headers.held) (buried : own.held_as ≡ Buried) (flag : own.named ≡ false) (named_at : NamesAt own.header own.generation) (at_generation : generation_of (m.headers.pin own.header) ≡ own.generation) (is_dead : state_of (m.headers.pin own.header) ≡ DEAD)
    (x : ℕ) (rises : generation_of x ≡ own.generation + 1) (gone : stocked (state_of x) ≡ 0)
    (fresh_same : (h : ℕ) → in_state h LIVE u.headers ≡ in_state h LIVE v.headers) (unnamed_less : (h : ℕ) → unnamed h u.headers + one_at own.header h ≡ unnamed h v.headers) (fewer : (P : HeldHeader → Type 0) → Each P v.headers.held → Each P u.headers.held) where
  abbrev bytes : ℕ → List ℕ
  bytes = content m.arena.bytes

  abbrev h : ℕ
  h = own.header

  abbrev pub m' : Memory
  m' = record m { headers = put_header m.headers (at_pin own.header) x }

  abbrev pub vs' : List PassState
  vs' = set vs seat u

  abbrev hist : ℕ → List KeyedWrite
  hist j = history j (map knowledge_of vs)

  abbrev word : ℕ → ℕ
  word j = word_of z m.rooms (content m.arena.bytes) (map rooms_held vs) j

  h_here : get_elem? (map headers_held vs) seat ≡ some v.headers
  h_here = at_map headers_held vs seat v here

  rooms_same : map rooms_held vs' ≡ map rooms_held vs
  rooms_same = map_set_same rooms_held vs seat v u here rooms

  knows_same : map knowledge_of vs' ≡ map knowledge_of vs
  knows_same = map_set_same knowledge_of vs seat v u here knowledge

  burial : IsBurialOf word hist own
  burial = subst (λ (s : HeldAs). HoldStands word hist s own) buried (each_has (λ (t : HeldHeader). HoldStands word hist t.held_as t) v.headers.held own (keys.locks seat v.headers h_here) has)

  h_total : (f : HeaderHolds → ℕ) → total f (map headers_held vs') + f v.headers ≡ total f (map headers_held vs) + f u.headers
  h_total f = subst (λ (l : List HeaderHolds). total f l + f v.headers ≡ total f (map headers_held vs) + f u.headers) (sym (map_set headers_held vs seat u)) (total_set f (map headers_held vs) seat v.headers u.headers h_here)

  -- no entry names the header
  none_names : all_of z m.rooms bytes (map rooms_held vs) (each (naming h)) ≡ 0
  none_names = let n = keys.named h in let t = total_at (unnamed h) (map headers_held vs) seat v.headers h_here in let l = unnamed_less h in let o = one_at-same h h refl in
      let s = stocked_le (state_of (m.headers.pin h)) in omega arith

  no_key : (j y : ℕ) → word j ≡ y + 1 → names_header y ≡ 1 → header_in y ≢ h
  no_key j y e n d = let p = picked z m.rooms bytes (map rooms_held vs) j y (names h) (parts.once j) e in
      let q : names h y ≡ 1 = ap (λ (t : ℕ). t * one_at (header_in y) h) n ∙ ((let q : 1 * one_at (header_in y) h ≡ one_at (header_in y) h = omega arith in q) ∙ one_at-same (header_in y) h d) in
      let l = each_le z m.rooms bytes (map rooms_held vs) (λ s t. has_key j s t * names h t.value) (naming h) (λ s t. less (has_key j s t) (names h t.value) (one_at-le t.key j)) in let none = none_names in omega arith
    where
      less : (o q : ℕ) → o ≤ 1 → o * q ≤ q
      less o q h = grind arith

  pin_else : (j : ℕ) → j ≢ h → m'.headers.pin j ≡ m.headers.pin j
  pin_else j ne = put-else m.headers.pin h x j ne

  stands : (j : ℕ) → KeyStands z m'.headers (shown_by m) (base_of z m.rooms bytes (map rooms_held vs) j) (word j) (hist j)
  stands j = record {
    none = (keys.states j).none;
    floor = (keys.states j).floor;
    named = λ y e n. let i = (keys.states j).named y e n in let ne = no_key j y e n in record {
      inside = i.inside;
      generation = ap generation_of (pin_else (header_in y) ne) ∙ i.generation;
      home = i.home;
      live = λ s. i.live (ap state_of (sym (pin_else (header_in y) ne)) ∙ s);
      dead = λ s. i.dead (ap state_of (sym (pin_else (header_in y) ne)) ∙ s);
    };
  }

  -- the life that ends was removed
  over_on : (j : ℕ) (w : KeyedWrite) → Has w (hist j) → names_header w.home ≡ 1 → OverIsRemoved m.headers.pin (hist j) w → OverIsRemoved m'.headers.pin (hist j) w
  over_on j w there n old l = dite (ℕ_discrete (header_in w.home) h) same (λ ne. old (let e = ap generation_of (pin_else (header_in w.home) ne) in omega arith))
    where
      same : header_in w.home ≡ h → IsRemoved w.home (hist j)
      same e = dite (dec_lt (generation_in w.home) own.generation) (λ y. old (let g = ap (λ (t : ℕ). generation_of (m.headers.pin t)) e in let a = at_generation in omega arith))
          (λ no. let g : generation_of (m'.headers.pin (header_in w.home)) ≡ own.generation + 1 = ap generation_of (put-here m.headers.pin h x (header_in w.home) e) ∙ rises in let now : generation_in w.home ≡ own.generation = omega arith in
          let home : w.home ≡ home_of own.header own.generation = sym (home_is w.home n) ∙ (λ i. home_of (e i) (now i)) in
          let r = burial.removed in let k = home_key vs callers keys.legal (home_of own.header own.generation) j (key_number own.key) named_at.names (subst (λ (t : ℕ). 0 < homes_in t (hist j)) home (has_home (hist j) w there))
          (subst (λ (t : ℕ). 0 < homes_in t (hist (key_number own.key))) r.home_is (has_home (hist (key_number own.key)) r.write r.there)) in
          (own.stamp, subst (λ (t : ℕ × ℕ). IsRemovedAt t.0 own.stamp (hist t.1)) (λ i. (sym home i, sym k i)) r))

  pub back_keys : KeysStand z m' vs'
  back_keys = record {
    named = λ j. let n = keys.named j in let l = h_total (in_state j LIVE) in let d = h_total (unnamed j) in let f = fresh_same j in let g = unnamed_less j in let r = ap (λ l. all_of z m.rooms (content m.arena.bytes) l (each (naming j))) rooms_same in
        dite (ℕ_discrete j h) (λ e. let s = ap (λ (t : ℕ). stocked (state_of t)) (put-here m.headers.pin h x j e) in let o = one_at-same h j (sym e) in
        let w : stocked (state_of (m.headers.pin j)) ≡ 1 = ap (λ (t : ℕ). stocked (state_of (m.headers.pin t))) e ∙ (let y = is_dead in stocked_high (state_of (m.headers.pin h)) (omega arith) (omega arith)) in omega arith)
        (λ ne. let s = ap (λ (t : ℕ). stocked (state_of t)) (pin_else j ne) in let o = one_at-other h j (λ e. ne (sym e)) in omega arith);
    states = λ j. subst (λ (t : (List RoomHolds) × (List Knowledge)). KeyStands z m'.headers (shown_by m) (base_of z m.rooms bytes t.0 j) (word_of z m.rooms (content m.arena.bytes) t.0 j) (history j t.1)) (λ i. (sym rooms_same i, sym knows_same i)) (stands j);
    locks = λ j a e. subst (λ (t : (List RoomHolds) × (List Knowledge)). Each (λ (y : HeldHeader). HoldStands (word_of z m.rooms (content m.arena.bytes) t.0) (λ k. history k t.1) y.held_as y) a.held) (λ i. (sym rooms_same i, sym knows_same i))
        (⊎_elim (λ (y : (j ≡ seat) × (u.headers ≡ a)). subst (λ (b : HeaderHolds). Each (λ (t : HeldHeader). HoldStands word hist t.held_as t) b.held) y.1 (fewer (λ (t : HeldHeader). HoldStands word hist t.held_as t) (keys.locks seat v.headers h_here)))
        (λ (y : (j ≢ seat) × (get_elem? (map headers_held vs) j ≡ some a)). keys.locks j a y.1) (at_set (map headers_held vs) seat j u.headers a (subst (λ (l : List HeaderHolds). get_elem? l j ≡ some a) (map_set headers_held vs seat u) e)));
    legal = λ j. subst (λ (l : List Knowledge). IsKeyHistory j (history j l)) (sym knows_same) (keys.legal j);
    over = λ j. subst (λ (l : List Knowledge). Each (OverIsRemoved m'.headers.pin (history j l)) (history j l)) (sym knows_same)
        (each_in (λ (w : KeyedWrite). (names_header w.home ≡ 1) × OverIsRemoved m.headers.pin (hist j) w) (OverIsRemoved m'.headers.pin (hist j)) (hist j) (λ w there p. over_on j w there p.0 p.1) (both (λ (w : KeyedWrite). names_header w.home ≡ 1) (OverIsRemoved m.headers.pin (hist j)) (hist j) (lives_named None 0 (hist j) (keys.legal j).lives (λ e. absurd (apart e))) (keys.over j)));
    loaded = subst (λ (l : List Knowledge). Every (LoadedStand (λ k. history k l)) l) (sym knows_same) keys.loaded;
  }
    where
      apart : true ≡ false → ⊥
      apart e = cc

      both : (P Q : KeyedWrite → Type 0) (l : List KeyedWrite) → Each P l → Each Q l → Each (λ (w : KeyedWrite). P w × Q w) l
      both P Q [] p q = tt
      both P Q (w ∷ ws) p q = ((p.0, q.0), both P Q ws p.1 q.1)
