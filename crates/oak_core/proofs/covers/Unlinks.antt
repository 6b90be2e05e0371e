-- The entry of a buried header's key gets the removal's stamp as its floor: the header is named no more.
use Rattle.std.proofs.Common.{◌≡◌, ◌≢◌, ℕ, ◌+◌, ◌*◌, ◌^◌, ◌<◌, ◌≤◌, true, false, List, [], ◌∷◌, map, set, sym, refl, ap, ◌∙◌, subst, ⊎_elim, arith, None}
use mathlib.Core.Logic.{dite}
use mathlib.Core.Option.{some}
use native.Mathlib.Decide.{ℕ_discrete}
use lib.ListN.{get_elem?}
use Rattle.pin_word.specs.PinWord.{state_of, generation_of}
use Rattle.pin_word.proofs.Laws.{generation_small}
use Rattle.oak_model.specs.Counts.{one_at, total, Has, Each, Every}
use Rattle.oak_model.specs.KeyNumber.{key_number}
use Rattle.oak_model.specs.Limits.{Sizes}
use Rattle.oak_model.proofs.Changes.{Change, stepped}
use Rattle.oak_model.proofs.Counting.{one_at-same, total_set}
use Rattle.oak_model.proofs.Lists.{at_set, at_map, map_set, map_set_same}
use Rattle.oak_model.proofs.MemberLaws.{each_has, total_has}
use Rattle.arena_core.specs.Place.{content, IsPlace}
use Rattle.header_core.specs.HeaderHolds.{in_state, held_state}
use Rattle.header_core.specs.declared.holds.HeaderHolds.{HeaderHolds}
use Rattle.header_core.specs.declared.holds.HeldAs.{HeldAs}
use Rattle.header_core.specs.declared.holds.HeldAs.TheVariants.{Owned, Fresh, Locked, Buried}
use Rattle.header_core.specs.declared.holds.HeldHeader.{HeldHeader}
use Rattle.header_core.specs.declared.states.TheConstants.{LIVE, DEAD}
use Rattle.header_core.proofs.HeaderFacts.{held_is, unheld_else}
use Rattle.header_core.proofs.HeldHeaders.{rows_have}
use Rattle.chunk_core.specs.CoverRule.{CoversPartition}
use Rattle.chunk_core.specs.CoverSums.{weight, naming, names, word_of, base_of}
use Rattle.chunk_core.specs.Covers.{key_at}
use Rattle.chunk_core.specs.LinkedEntries.{linked}
use Rattle.chunk_core.specs.RoomStep.{put_room}
use Rattle.chunk_core.specs.Rooms.{at_value}
use Rattle.chunk_core.specs.ValueWord.{names_header, header_in}
use Rattle.chunk_core.specs.declared.holds.RoomHolds.{RoomHolds}
use Rattle.chunk_core.proofs.ValueLaws.{value_all, covers_valued, base_valued, word_before, word_valued, word_others}
use Rattle.oak_core.specs.declared.states.Findings.{Findings}
use Rattle.oak_core.specs.declared.states.KeyedWrite.{KeyedWrite}
use Rattle.oak_core.specs.declared.states.Knowledge.{Knowledge}
use Rattle.oak_core.specs.declared.states.PassState.{PassState}
use Rattle.oak_core.specs.KeyHistories.{state_behind, stamp_behind, IsKeyHistory, IsRemovedAt}
use Rattle.oak_core.specs.KeyReads.{shown_by, home_of}
use Rattle.oak_core.specs.KeyRule.{KeysStand, LoadedStand, OverIsRemoved}
use Rattle.oak_core.specs.KeyStates.{KeyStands, IsBurialOf, HoldStands, unnamed}
use Rattle.oak_core.specs.Known.{known}
use Rattle.oak_core.specs.Memory.{Memory}
use Rattle.oak_core.specs.Owners.{HeadersAreHeld}
use Rattle.oak_core.specs.PassState.{history, headers_held, knowledge_of, rooms_held}
use Rattle.oak_core.proofs.memory.HomeWords.{NamesAt}
use Rattle.oak_core.proofs.keyed.KeyFrames.{stands_same}
use Rattle.oak_core.proofs.histories.LockedWrites.{each_in}

module _ (z : Sizes) (m : Memory) (is_key_word : ℕ → ℕ) (vs : List PassState) (parts : CoversPartition z m.rooms (content m.arena.bytes) is_key_word (map rooms_held vs)) (keys : KeysStand z m vs)
    (heads : HeadersAreHeld m.headers m.arena.bytes (known (map knowledge_of vs)) (map headers_held vs)) (small : (j : ℕ) → m.headers.pin j < 2 ^ 64)
    (seat : ℕ) (v : PassState) (here : get_elem? vs seat ≡ some v) (fs : Findings)
    (r i : ℕ) (lr : r < z.chunks) (cover : weight (m.rooms.pin r) ≡ 1) (once : total (λ j. one_at j i) (linked m.rooms r) ≡ 1)
    (own : HeldHeader) (has : Has own v.headers.held) (buried : own.held_as ≡ Buried) (flag : own.named ≡ true) (key : key_number own.key ≡ key_at (content m.arena.bytes) (m.rooms.key r i)) (named_at : NamesAt own.header own.generation)
    (stamp_is : m.headers.stamp own.header ≡ own.stamp) (low : names_header own.stamp ≡ 0)
    (held : List HeldHeader) (fresh_same : (h : ℕ) → in_state h LIVE (record v.headers { held = held }) ≡ in_state h LIVE v.headers) (unnamed_more : (h : ℕ) → unnamed h (record v.headers { held = held }) ≡ unnamed h v.headers + one_at own.header h)
    (kept : (word : ℕ → ℕ) (hist : ℕ → List KeyedWrite) → Each (λ (t : HeldHeader). t.header ≢ own.header → HoldStands word hist t.held_as t) v.headers.held → IsBurialOf word hist (record own { named = false }) → Each (λ (t : HeldHeader). HoldStands word hist t.held_as t) held) where
  abbrev bytes : ℕ → List ℕ
  bytes = content m.arena.bytes

  abbrev qs : List Knowledge
  qs = map knowledge_of vs

  abbrev h : ℕ
  h = own.header

  abbrev home0 : ℕ
  home0 = home_of own.header own.generation

  abbrev k : ℕ
  k = key_at (content m.arena.bytes) (m.rooms.key r i)

  abbrev pub m' : Memory
  m' = record m { rooms = put_room m.rooms (at_value r i) own.stamp }

  abbrev pub u : PassState
  u = record v { findings = fs; headers = record v.headers { held = held } }

  abbrev pub vs' : List PassState
  vs' = set vs seat u

  h_here : get_elem? (map headers_held vs) seat ≡ some v.headers
  h_here = at_map headers_held vs seat v here

  c : Change (map rooms_held vs) (map rooms_held vs') (v.rooms ∷ []) (v.rooms ∷ [])
  c = subst (λ (l : List RoomHolds). Change (map rooms_held vs) l (v.rooms ∷ []) (v.rooms ∷ [])) (sym (map_set rooms_held vs seat u)) (stepped (map rooms_held vs) seat v.rooms v.rooms (at_map rooms_held vs seat v here))

  knows_same : map knowledge_of vs' ≡ map knowledge_of vs
  knows_same = map_set_same knowledge_of vs seat v u here refl

  hist_same : (j : ℕ) → history j (map knowledge_of vs') ≡ history j (map knowledge_of vs)
  hist_same j = ap (history j) knows_same

  abbrev word : ℕ → ℕ
  word j = word_of z m.rooms (content m.arena.bytes) (map rooms_held vs) j

  abbrev word' : ℕ → ℕ
  word' j = word_of z (put_room m.rooms (at_value r i) own.stamp) (content m.arena.bytes) (map rooms_held (set vs seat u)) j

  pub unlink_partition : CoversPartition z m'.rooms bytes is_key_word (map rooms_held vs')
  unlink_partition = covers_valued z m.rooms bytes is_key_word (map rooms_held vs) (map rooms_held vs') (v.rooms ∷ []) (v.rooms ∷ []) parts c (λ _. refl) r i own.stamp lr cover once

  burial : IsBurialOf word (λ j. history j qs) own
  burial = subst (λ (s : HeldAs). HoldStands word (λ j. history j qs) s own) buried (each_has (λ (t : HeldHeader). HoldStands word (λ j. history j qs) t.held_as t) v.headers.held own (keys.locks seat v.headers h_here) has)

  was : word k ≡ home0 + 1
  was = ap (λ (t : ℕ). word_of z m.rooms (content m.arena.bytes) (map rooms_held vs) t) (sym key) ∙ burial.named flag

  value_is : m.rooms.value r i ≡ home0
  value_is = let b = word_before z m.rooms bytes is_key_word (map rooms_held vs) (map rooms_held vs') (v.rooms ∷ []) (v.rooms ∷ []) parts c (λ _. refl) r i own.stamp lr cover once in let w = was in omega arith

  now : word' k ≡ own.stamp + 1
  now = word_valued z m.rooms bytes is_key_word (map rooms_held vs) (map rooms_held vs') (v.rooms ∷ []) (v.rooms ∷ []) parts c (λ _. refl) r i own.stamp lr cover once

  else_same : (j : ℕ) → j ≢ k → word' j ≡ word j
  else_same = word_others z m.rooms bytes is_key_word (map rooms_held vs) (map rooms_held vs') (v.rooms ∷ []) (v.rooms ∷ []) parts c (λ _. refl) r i own.stamp lr cover once

  base_more : (j : ℕ) → base_of z m.rooms bytes (map rooms_held vs) j ≤ base_of z m'.rooms bytes (map rooms_held vs') j
  base_more = base_valued z m.rooms bytes is_key_word (map rooms_held vs) (map rooms_held vs') (v.rooms ∷ []) (v.rooms ∷ []) parts c (λ _. refl) r i own.stamp lr cover once

  is_dead : state_of (m.headers.pin h) ≡ DEAD
  is_dead = held_is m.headers bytes IsPlace (known qs) (map headers_held vs) heads seat v.headers h DEAD h_here (omega arith) (omega arith) (rows_have h DEAD v.headers.held own has refl (ap held_state buried))

  -- the key is absent since the removal
  stood : (state_behind (history k qs) ≡ None) × (stamp_behind (history k qs) ≡ own.stamp)
  stood = let d = ((keys.states k).named home0 was named_at.names).dead (ap (λ (t : ℕ). state_of (m.headers.pin t)) named_at.header ∙ is_dead) in (d.0, d.1 ∙ (ap m.headers.stamp named_at.header ∙ stamp_is))

  h_total : (f : HeaderHolds → ℕ) → total f (map headers_held vs') + f v.headers ≡ total f (map headers_held vs) + f u.headers
  h_total f = subst (λ (l : List HeaderHolds). total f l + f v.headers ≡ total f (map headers_held vs) + f u.headers) (sym (map_set headers_held vs seat u)) (total_set f (map headers_held vs) seat v.headers u.headers h_here)

  generations_of : (j : ℕ) (a : HeaderHolds) → get_elem? (map headers_held vs) j ≡ some a → (t : HeldHeader) → Has t a.held → t.generation < 2 ^ 32
  generations_of j a e t m0 = let g = each_has (λ (y : HeldHeader). generation_of (m.headers.pin y.header) ≡ y.generation) a.held t (heads.generations j a e) m0 in let s = generation_small (m.headers.pin t.header) (small t.header) in omega arith

  not_it : (t : HeldHeader) → t.header ≢ h → t.generation < 2 ^ 32 → word (key_number t.key) ≡ home_of t.header t.generation + 1 → key_number t.key ≢ k
  not_it t ne l e same = ne (let q = ap (λ (y : ℕ). word_of z m.rooms (content m.arena.bytes) (map rooms_held vs) y) same in let o = was in let g = generations_of seat v.headers h_here own has in omega arith)

  hold_on : (s : HeldAs) (t : HeldHeader) → t.header ≢ h → t.generation < 2 ^ 32 → HoldStands word (λ j. history j qs) s t → HoldStands word' (λ j. history j (map knowledge_of vs')) s t
  hold_on Owned t ne l p = p
  hold_on Fresh t ne l p = p
  hold_on (Locked a) t ne l p = record { named = else_same (key_number t.key) (not_it t ne l p.named) ∙ p.named; flag = p.flag; key = p.key; state = ap state_behind (hist_same (key_number t.key)) ∙ p.state; stamp = ap stamp_behind (hist_same (key_number t.key)) ∙ p.stamp }
  hold_on Buried t ne l p = record { named = λ e. else_same (key_number t.key) (not_it t ne l (p.named e)) ∙ p.named e; removed = subst (IsRemovedAt (home_of t.header t.generation) t.stamp) (sym (hist_same (key_number t.key))) p.removed }

  freed : IsBurialOf word' (λ j. history j (map knowledge_of vs')) (record own { named = false })
  freed = record { named = λ e. absurd (apart e); removed = subst (IsRemovedAt (home_of own.header own.generation) own.stamp) (sym (hist_same (key_number own.key))) burial.removed }
    where
      apart : false ≡ true → ⊥
      apart e = cc

  locks' : Every (λ (a : HeaderHolds). Each (λ (t : HeldHeader). HoldStands word' (λ j. history j (map knowledge_of vs')) t.held_as t) a.held) (map headers_held vs')
  locks' j a e = ⊎_elim (λ (y : (j ≡ seat) × (u.headers ≡ a)). subst (λ (b : HeaderHolds). Each (λ (t : HeldHeader). HoldStands word' (λ j. history j (map knowledge_of vs')) t.held_as t) b.held) y.1
      (kept word' (λ j. history j (map knowledge_of vs')) (each_in (λ (t : HeldHeader). HoldStands word (λ j. history j qs) t.held_as t) (λ (t : HeldHeader). t.header ≢ own.header → HoldStands word' (λ j. history j (map knowledge_of vs')) t.held_as t) v.headers.held (λ t m0 p ne. hold_on t.held_as t ne (generations_of seat v.headers h_here t m0) p) (keys.locks seat v.headers h_here)) freed))
      (λ (y : (j ≢ seat) × (get_elem? (map headers_held vs) j ≡ some a)). each_in (λ (t : HeldHeader). HoldStands word (λ j. history j qs) t.held_as t) (λ (t : HeldHeader). HoldStands word' (λ j. history j (map knowledge_of vs')) t.held_as t) a.held
      (λ t m0 p. hold_on t.held_as t (elsewhere j a y.0 y.1 t m0) (generations_of j a y.1 t m0) p) (keys.locks j a y.1))
      (at_set (map headers_held vs) seat j u.headers a (subst (λ (l : List HeaderHolds). get_elem? l j ≡ some a) (map_set headers_held vs seat u) e))
    where
      elsewhere : (j : ℕ) (a : HeaderHolds) → j ≢ seat → get_elem? (map headers_held vs) j ≡ some a → (t : HeldHeader) → Has t a.held → t.header ≢ h
      elsewhere j a ne e t m0 d = let none = unheld_else m.headers bytes IsPlace (known qs) (map headers_held vs) heads seat v.headers h h_here (let y = total_has (λ (r : HeldHeader). one_at r.header h) v.headers.held own has in let o = one_at-same own.header h refl in omega arith) j a e ne in
          let y = total_has (λ (r : HeldHeader). one_at r.header h) a.held t m0 in let o = one_at-same t.header h d in omega arith

  stands_here : KeyStands z m.headers (shown_by m) (base_of z m'.rooms bytes (map rooms_held vs') k) (word' k) (history k qs)
  stands_here = let n = now in record {
    none = λ e. absurd (omega arith);
    floor = λ f e no. let s = stood.1 in (stood.0, omega arith);
    named = λ f e yes_named. absurd (let same : f ≡ own.stamp = omega arith in let q = ap names_header same in let l = low in omega arith);
  }

  pub unlink_keys : KeysStand z m' vs'
  unlink_keys = record {
    named = λ j. let a = value_all z m.rooms bytes is_key_word (map rooms_held vs) (map rooms_held vs') (v.rooms ∷ []) (v.rooms ∷ []) parts c (λ _. refl) r i own.stamp lr cover once (naming j) in
        let l = h_total (in_state j LIVE) in let n = h_total (unnamed j) in let f = fresh_same j in let g = unnamed_more j in let t = keys.named j in
        let none : names j own.stamp ≡ 0 = ap (λ (y : ℕ). y * one_at (header_in own.stamp) j) low ∙ (let q : 0 * one_at (header_in own.stamp) j ≡ 0 = omega arith in q) in
        let some_one : names j (m.rooms.value r i) ≡ one_at h j = ap (names j) value_is ∙ (ap (λ (y : ℕ). y * one_at (header_in home0) j) named_at.names ∙ ((let q : 1 * one_at (header_in home0) j ≡ one_at (header_in home0) j = omega arith in q) ∙ ap (λ (y : ℕ). one_at y j) named_at.header)) in omega arith;
    states = λ j. subst (KeyStands z m.headers (shown_by m) (base_of z m'.rooms bytes (map rooms_held vs') j) (word' j)) (sym (hist_same j)) (dite (ℕ_discrete j k)
        (λ e. subst (λ (t : ℕ). KeyStands z m.headers (shown_by m) (base_of z m'.rooms bytes (map rooms_held vs') t) (word' t) (history t qs)) (sym e) stands_here)
        (λ ne. stands_same z m.headers (shown_by m) (base_of z m.rooms bytes (map rooms_held vs) j) (base_of z m'.rooms bytes (map rooms_held vs') j) (word j) (word' j) (history j qs) (history j qs) (else_same j ne) refl (base_more j) (keys.states j)));
    locks = locks';
    legal = λ j. subst (IsKeyHistory j) (sym (hist_same j)) (keys.legal j);
    over = λ j. subst (λ (l : List KeyedWrite). Each (OverIsRemoved m.headers.pin l) l) (sym (hist_same j)) (keys.over j);
    loaded = subst (λ (l : List Knowledge). Every (LoadedStand (λ j. history j l)) l) (sym knows_same) keys.loaded;
  }
