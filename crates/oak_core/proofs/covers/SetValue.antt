-- An entry with a floor gets a fresh header: the write that inserts.
use Rattle.std.proofs.Common.{◌≡◌, ◌≢◌, ℕ, ◌+◌, ◌*◌, ◌^◌, ◌<◌, ◌≤◌, true, false, List, [], ◌∷◌, ◌++◌, map, set, sym, refl, ap, ◌∙◌, subst, ⊎_elim, arith, None}
use mathlib.Core.Logic.{dite}
use mathlib.Core.Option.{some}
use native.Mathlib.Decide.{ℕ_discrete}
use lib.ListN.{get_elem?}
use Rattle.pin_word.specs.PinWord.{state_of, generation_of}
use Rattle.oak_model.specs.Counts.{one_at, total, Has, Each, Every}
use Rattle.oak_model.specs.History.{IsWriteOn}
use Rattle.oak_model.specs.KeyNumber.{key_number}
use Rattle.oak_model.specs.Limits.{Sizes}
use Rattle.oak_model.specs.State.{State}
use Rattle.oak_model.proofs.Changes.{Change, stepped}
use Rattle.oak_model.proofs.Counting.{one_at-same, one_at-other, total_set, total_at}
use Rattle.oak_model.proofs.Lists.{at_set, at_map, map_set, map_set_same, each_map, each_append}
use Rattle.oak_model.proofs.MemberLaws.{each_has}
use Rattle.arena_core.specs.Place.{content, IsPlace}
use Rattle.header_core.specs.HeaderHolds.{in_state, held_state, without_header}
use Rattle.header_core.specs.HeaderRule.{stocked}
use Rattle.header_core.specs.declared.holds.HeaderHolds.{HeaderHolds}
use Rattle.header_core.specs.declared.holds.HeldAs.{HeldAs}
use Rattle.header_core.specs.declared.holds.HeldAs.TheVariants.{Owned, Fresh, Locked, Buried}
use Rattle.header_core.specs.declared.holds.HeldHeader.{HeldHeader}
use Rattle.header_core.specs.declared.states.TheConstants.{LIVE, DEAD}
use Rattle.header_core.proofs.HeaderFacts.{fresh_is, held_once}
use Rattle.header_core.proofs.HeldChanges.{rows_without-here, rows_without-others, each_without}
use Rattle.header_core.proofs.HeldHeaders.{rows_have}
use Rattle.chunk_core.specs.CoverRule.{CoversPartition}
use Rattle.chunk_core.specs.CoverSums.{weight, each, naming, names, all_of, word_of, base_of}
use Rattle.chunk_core.specs.Covers.{key_at}
use Rattle.chunk_core.specs.LinkedEntries.{linked}
use Rattle.chunk_core.specs.RoomStep.{put_room}
use Rattle.chunk_core.specs.Rooms.{at_value}
use Rattle.chunk_core.specs.ValueWord.{names_header, header_in, generation_in}
use Rattle.chunk_core.specs.declared.holds.RoomHolds.{RoomHolds}
use Rattle.chunk_core.proofs.ValueLaws.{value_all, covers_valued, base_valued, word_before, word_valued, word_others}
use Rattle.oak_core.specs.declared.states.Findings.{Findings}
use Rattle.oak_core.specs.declared.states.KeyedWrite.{KeyedWrite}
use Rattle.oak_core.specs.declared.states.Knowledge.{Knowledge}
use Rattle.oak_core.specs.declared.states.KnownLife.{KnownLife}
use Rattle.oak_core.specs.declared.states.PassState.{PassState}
use Rattle.oak_core.specs.KeyHistories.{state_behind, stamp_behind, is_absent, IsKeyOf, IsKeyHistory, IsRemovedAt, homes_in}
use Rattle.oak_core.specs.KeyReads.{shown_by, home_of}
use Rattle.oak_core.specs.KeyRule.{KeysStand, OverIsRemoved, LoadedStand}
use Rattle.oak_core.specs.KeyStates.{KeyStands, IsHome, HoldStands, unnamed}
use Rattle.oak_core.specs.Known.{known}
use Rattle.oak_core.specs.Learning.{wrote}
use Rattle.oak_core.specs.Memory.{Memory}
use Rattle.oak_core.specs.Owners.{HeadersAreHeld}
use Rattle.oak_core.specs.PassState.{history, headers_held, knowledge_of, rooms_held}
use Rattle.oak_core.specs.Rule.{HistoriesStand}
use Rattle.oak_core.proofs.histories.HistoryEnds.{last_snoc, GoesOn, history_goes_on, state_snoc, stamp_snoc, removed_snoc, homes_snoc}
use Rattle.oak_core.proofs.memory.HomeWords.{names_low, NamesAt}
use Rattle.oak_core.proofs.keyed.KeyFrames.{stands_same}
use Rattle.oak_core.proofs.held.UnnamedHeaders.{unnamed_le, unnamed_in, unnamed_without-others}
use Rattle.oak_core.proofs.histories.WrittenHistories.{wrote_here, wrote_others, wrote_stand}

module _ (z : Sizes) (m : Memory) (is_key_word : ℕ → ℕ) (vs : List PassState) (parts : CoversPartition z m.rooms (content m.arena.bytes) is_key_word (map rooms_held vs)) (keys : KeysStand z m vs) (histories : HistoriesStand (map knowledge_of vs))
    (heads : HeadersAreHeld m.headers m.arena.bytes (known (map knowledge_of vs)) (map headers_held vs))
    (seat : ℕ) (v : PassState) (here : get_elem? vs seat ≡ some v) (fs : Findings)
    (r i old : ℕ) (lr : r < z.chunks) (cover : weight (m.rooms.pin r) ≡ 1) (once : total (λ j. one_at j i) (linked m.rooms r) ≡ 1) (found : m.rooms.value r i ≡ old) (floor : names_header old ≡ 0) (small : old < 2 ^ 64)
    (own : HeldHeader) (has : Has own v.headers.held) (fresh : own.held_as ≡ Fresh) (inside : own.header < z.headers) (named_at : NamesAt own.header own.generation) (next : own.stamp ≡ old + 1)
    (stamp_is : m.headers.stamp own.header ≡ own.stamp)
    (w : KeyedWrite) (home : w.home ≡ home_of own.header own.generation) (inserts : w.inserts ≡ true) (stamp : w.write.stamp ≡ own.stamp) (after : w.write.after ≡ shown_by m own.header)
    (key : key_number w.key ≡ key_at (content m.arena.bytes) (m.rooms.key r i)) (is_key : IsKeyOf (key_at (content m.arena.bytes) (m.rooms.key r i)) w.key) (writes : IsWriteOn None w.write) where
  abbrev bytes : ℕ → List ℕ
  bytes = content m.arena.bytes

  abbrev qs : List Knowledge
  qs = map knowledge_of vs

  abbrev h : ℕ
  h = own.header

  abbrev x : ℕ
  x = home_of own.header own.generation

  abbrev k : ℕ
  k = key_at (content m.arena.bytes) (m.rooms.key r i)

  abbrev pub m' : Memory
  m' = record m { rooms = put_room m.rooms (at_value r i) x }

  abbrev pub u : PassState
  u = record v { findings = fs; knowledge = wrote k w qs v.knowledge; headers = record v.headers { held = without_header own.header v.headers.held } }

  abbrev pub vs' : List PassState
  vs' = set vs seat u

  h_here : get_elem? (map headers_held vs) seat ≡ some v.headers
  h_here = at_map headers_held vs seat v here

  q_here : get_elem? qs seat ≡ some v.knowledge
  q_here = at_map knowledge_of vs seat v here

  rooms_same : map rooms_held vs' ≡ map rooms_held vs
  rooms_same = map_set_same rooms_held vs seat v u here refl

  c : Change (map rooms_held vs) (map rooms_held vs') (v.rooms ∷ []) (v.rooms ∷ [])
  c = subst (λ (l : List RoomHolds). Change (map rooms_held vs) l (v.rooms ∷ []) (v.rooms ∷ [])) (sym (map_set rooms_held vs seat u)) (stepped (map rooms_held vs) seat v.rooms v.rooms (at_map rooms_held vs seat v here))

  qs_is : map knowledge_of vs' ≡ set qs seat (wrote k w qs v.knowledge)
  qs_is = map_set knowledge_of vs seat u

  hist_here : history k (map knowledge_of vs') ≡ history k qs ++ w ∷ []
  hist_here = ap (history k) qs_is ∙ wrote_here qs histories seat v.knowledge q_here k w key

  hist_else : (j : ℕ) → j ≢ k → history j (map knowledge_of vs') ≡ history j qs
  hist_else j ne = ap (history j) qs_is ∙ wrote_others qs histories seat v.knowledge q_here k w key j ne

  pub set_histories : HistoriesStand (map knowledge_of vs')
  set_histories = subst HistoriesStand (sym qs_is) (wrote_stand qs histories seat v.knowledge q_here k w key)

  abbrev word : ℕ → ℕ
  word j = word_of z m.rooms bytes (map rooms_held vs) j

  abbrev word' : ℕ → ℕ
  word' j = word_of z m'.rooms bytes (map rooms_held vs') j

  pub set_partition : CoversPartition z m'.rooms bytes is_key_word (map rooms_held vs')
  set_partition = covers_valued z m.rooms bytes is_key_word (map rooms_held vs) (map rooms_held vs') (v.rooms ∷ []) (v.rooms ∷ []) parts c (λ _. refl) r i x lr cover once

  pub was : word k ≡ old + 1
  was = word_before z m.rooms bytes is_key_word (map rooms_held vs) (map rooms_held vs') (v.rooms ∷ []) (v.rooms ∷ []) parts c (λ _. refl) r i x lr cover once ∙ ap (λ (t : ℕ). t + 1) found

  pub now : word' k ≡ x + 1
  now = word_valued z m.rooms bytes is_key_word (map rooms_held vs) (map rooms_held vs') (v.rooms ∷ []) (v.rooms ∷ []) parts c (λ _. refl) r i x lr cover once

  pub else_same : (j : ℕ) → j ≢ k → word' j ≡ word j
  else_same = word_others z m.rooms bytes is_key_word (map rooms_held vs) (map rooms_held vs') (v.rooms ∷ []) (v.rooms ∷ []) parts c (λ _. refl) r i x lr cover once

  pub base_more : (j : ℕ) → base_of z m.rooms bytes (map rooms_held vs) j ≤ base_of z m'.rooms bytes (map rooms_held vs') j
  base_more = base_valued z m.rooms bytes is_key_word (map rooms_held vs) (map rooms_held vs') (v.rooms ∷ []) (v.rooms ∷ []) parts c (λ _. refl) r i x lr cover once

  -- the header is live, and the pass's alone
  in_here : 0 < in_state h LIVE v.headers
  in_here = rows_have h LIVE v.headers.held own has refl (ap held_state fresh)

  live : state_of (m.headers.pin h) ≡ LIVE
  live = fresh_is m.headers bytes IsPlace (known qs) (map headers_held vs) heads seat v.headers h h_here in_here

  one_fresh : (in_state h LIVE v.headers ≡ 1) × (total (in_state h LIVE) (map headers_held vs) ≡ 1)
  one_fresh = held_once m.headers bytes IsPlace (known qs) (map headers_held vs) heads seat v.headers h LIVE h_here (omega arith) (omega arith) in_here

  generation : generation_of (m.headers.pin h) ≡ own.generation
  generation = each_has (λ (t : HeldHeader). generation_of (m.headers.pin t.header) ≡ t.generation) v.headers.held own (heads.generations seat v.headers h_here) has

  h_total : (f : HeaderHolds → ℕ) → total f (map headers_held vs') + f v.headers ≡ total f (map headers_held vs) + f u.headers
  h_total f = subst (λ (l : List HeaderHolds). total f l + f v.headers ≡ total f (map headers_held vs) + f u.headers) (sym (map_set headers_held vs seat u)) (total_set f (map headers_held vs) seat v.headers u.headers h_here)

  named' : (j : ℕ) → all_of z m'.rooms bytes (map rooms_held vs') (each (naming j)) + total (in_state j LIVE) (map headers_held vs') + total (unnamed j) (map headers_held vs') ≡ stocked (state_of (m.headers.pin j))
  unfolding unnamed_in
  named' j = let a = value_all z m.rooms bytes is_key_word (map rooms_held vs) (map rooms_held vs') (v.rooms ∷ []) (v.rooms ∷ []) parts c (λ _. refl) r i x lr cover once (naming j) in
      let l = h_total (in_state j LIVE) in let n = h_total (unnamed j) in let t = keys.named j in
      let none : names j (m.rooms.value r i) ≡ 0 = ap (λ (y : ℕ). names j y) found ∙ (ap (λ (y : ℕ). y * one_at (header_in old) j) floor ∙ (let q : 0 * one_at (header_in old) j ≡ 0 = omega arith in q)) in
      let some_one : names j x ≡ one_at h j = ap (λ (y : ℕ). y * one_at (header_in x) j) named_at.names ∙ ((let q : 1 * one_at (header_in x) j ≡ one_at (header_in x) j = omega arith in q) ∙ ap (λ (y : ℕ). one_at y j) named_at.header) in
      dite (ℕ_discrete j h)
      (λ e. let o = one_at-same h j (sym e) in let w0 = rows_without-here h LIVE v.headers.held in let w1 = subst (λ (y : ℕ). in_state y LIVE u.headers ≡ 0) (sym e) w0 in let b = one_fresh.0 in let b1 = subst (λ (y : ℕ). in_state y LIVE v.headers ≡ 1) (sym e) b in
      let d0 = unnamed_le j v.headers.held in let d1 = unnamed_le j u.headers.held in
      let e1 = subst (λ (y : ℕ). in_state y DEAD u.headers ≡ 0) (sym e) (rows_without-here h DEAD v.headers.held) in let e0 : in_state j DEAD v.headers ≡ 0 = dead_none j e in omega arith)
      (λ ne. let o = one_at-other h j (λ e. ne (sym e)) in let w0 = rows_without-others h j LIVE v.headers.held ne in let d = unnamed_without-others h j v.headers.held ne in omega arith)
    where
      dead_none : (j : ℕ) → j ≡ h → in_state j DEAD v.headers ≡ 0
      dead_none j e = let t = total_at (in_state j DEAD) (map headers_held vs) seat v.headers h_here in let d = heads.held j DEAD (omega arith) (omega arith) (λ q. absurd (omega arith)) in
          let o = one_at-other (state_of (m.headers.pin j)) DEAD (λ q. absurd (let y = ap (λ (s : ℕ). state_of (m.headers.pin s)) e in let l = live in omega arith)) in omega arith

  -- a header that a pass holds locked, or buries while it is named, is none of the key's
  not_it : (g j : ℕ) (t : ℕ) → word t ≡ home_of g j + 1 → t ≢ k
  not_it g j t e same = let y = ap (λ (s : ℕ). word_of z m.rooms (content m.arena.bytes) (map rooms_held vs) s) same in let o = was in let l = names_low old floor small in omega arith

  hold_on : (s : HeldAs) (t : HeldHeader) → HoldStands word (λ j. history j qs) s t → HoldStands word' (λ j. history j (map knowledge_of vs')) s t
  hold_on Owned t p = p
  hold_on Fresh t p = p
  hold_on (Locked at) t p = let ne = not_it t.header t.generation (key_number t.key) p.named in record {
    named = else_same (key_number t.key) ne ∙ p.named;
    flag = p.flag;
    key = p.key;
    state = ap state_behind (hist_else (key_number t.key) ne) ∙ p.state;
    stamp = ap stamp_behind (hist_else (key_number t.key) ne) ∙ p.stamp;
  }
  hold_on Buried t p = record {
    named = λ e. let ne = not_it t.header t.generation (key_number t.key) (p.named e) in else_same (key_number t.key) ne ∙ p.named e;
    removed = dite (ℕ_discrete (key_number t.key) k) (λ e. grown t p.removed e) (λ ne. subst (IsRemovedAt (home_of t.header t.generation) t.stamp) (sym (hist_else (key_number t.key) ne)) p.removed);
  }
    where
      grown : (t : HeldHeader) → IsRemovedAt (home_of t.header t.generation) t.stamp (history (key_number t.key) qs) → key_number t.key ≡ k → IsRemovedAt (home_of t.header t.generation) t.stamp (history (key_number t.key) (map knowledge_of vs'))
      grown t p e = subst (λ (y : ℕ). IsRemovedAt (home_of t.header t.generation) t.stamp (history y (map knowledge_of vs'))) (sym e) (subst (IsRemovedAt (home_of t.header t.generation) t.stamp) (sym hist_here)
          (removed_snoc (home_of t.header t.generation) t.stamp (history k qs) w (subst (λ (y : ℕ). IsRemovedAt (home_of t.header t.generation) t.stamp (history y qs)) e p)))

  locks' : Every (λ (a : HeaderHolds). Each (λ (t : HeldHeader). HoldStands word' (λ j. history j (map knowledge_of vs')) t.held_as t) a.held) (map headers_held vs')
  locks' j a at = ⊎_elim (λ (y : (j ≡ seat) × (u.headers ≡ a)). subst (λ (b : HeaderHolds). Each (λ (t : HeldHeader). HoldStands word' (λ j. history j (map knowledge_of vs')) t.held_as t) b.held) y.1
      (each_without (λ (t : HeldHeader). HoldStands word' (λ j. history j (map knowledge_of vs')) t.held_as t) h v.headers.held (on v.headers (keys.locks seat v.headers h_here))))
      (λ (y : (j ≢ seat) × (get_elem? (map headers_held vs) j ≡ some a)). on a (keys.locks j a y.1))
      (at_set (map headers_held vs) seat j u.headers a (subst (λ (l : List HeaderHolds). get_elem? l j ≡ some a) (map_set headers_held vs seat u) at))
    where
      on : (a : HeaderHolds) → Each (λ (t : HeldHeader). HoldStands word (λ j. history j qs) t.held_as t) a.held → Each (λ (t : HeldHeader). HoldStands word' (λ j. history j (map knowledge_of vs')) t.held_as t) a.held
      on a p = each_map (λ (t : HeldHeader). HoldStands word (λ j. history j qs) t.held_as t) (λ (t : HeldHeader). HoldStands word' (λ j. history j (map knowledge_of vs')) t.held_as t) a.held (λ t q. hold_on t.held_as t q) p

  -- the key was absent, with all its stamps at most the floor
  stood : (state_behind (history k qs) ≡ None) × (stamp_behind (history k qs) ≤ old)
  stood = (keys.states k).floor old was floor

  goes_on : GoesOn k (history k qs) w
  goes_on = let l = stood.1 in record {
    later = omega arith;
    writes = subst (λ (s : State). IsWriteOn s w.write) (sym stood.0) writes;
    inserts = inserts ∙ sym (ap is_absent stood.0);
    new = λ _. ap names_header home ∙ named_at.names;
    same = λ e. absurd (apart (sym inserts ∙ e));
    key = is_key;
  }
    where
      apart : true ≡ false → ⊥
      apart e = cc

  stands_here : KeyStands z m.headers (shown_by m) (base_of z m'.rooms bytes (map rooms_held vs') k) (word' k) (history k qs ++ w ∷ [])
  stands_here = let n = now in record {
    none = λ e. absurd (omega arith);
    floor = λ f e no. absurd (let same : f ≡ x = omega arith in let q = ap names_header same in let y = named_at.names in omega arith);
    named = λ f e yes. let same : f ≡ x = omega arith in subst (λ (t : ℕ). IsHome z m.headers (shown_by m) t (history k qs ++ w ∷ [])) (sym same) (record {
      inside = subst (λ (t : ℕ). t < z.headers) (sym named_at.header) inside;
      generation = ap (λ (t : ℕ). generation_of (m.headers.pin t)) named_at.header ∙ (generation ∙ sym named_at.generation);
      home = last_snoc (λ t. t.home) 0 (history k qs) w ∙ home;
      live = λ _. (state_snoc (history k qs) w ∙ (after ∙ ap (shown_by m) (sym named_at.header)), stamp_snoc (history k qs) w ∙ (stamp ∙ (sym stamp_is ∙ ap m.headers.stamp (sym named_at.header))));
      dead = λ e. absurd (let y = ap (λ (t : ℕ). state_of (m.headers.pin t)) named_at.header in let l = live in omega arith);
    });
  }

  pub set_keys : KeysStand z m' vs'
  set_keys = record {
    named = named';
    states = λ j. dite (ℕ_discrete j k)
        (λ e. subst (λ (t : ℕ). KeyStands z m.headers (shown_by m) (base_of z m'.rooms bytes (map rooms_held vs') t) (word' t) (history t (map knowledge_of vs'))) (sym e)
        (subst (KeyStands z m.headers (shown_by m) (base_of z m'.rooms bytes (map rooms_held vs') k) (word' k)) (sym hist_here) stands_here))
        (λ ne. stands_same z m.headers (shown_by m) (base_of z m.rooms bytes (map rooms_held vs) j) (base_of z m'.rooms bytes (map rooms_held vs') j) (word j) (word' j) (history j qs) (history j (map knowledge_of vs')) (else_same j ne) (hist_else j ne) (base_more j) (keys.states j));
    locks = locks';
    legal = λ j. dite (ℕ_discrete j k) (λ e. subst (λ (t : ℕ). IsKeyHistory t (history t (map knowledge_of vs'))) (sym e) (subst (IsKeyHistory k) (sym hist_here) (history_goes_on k (history k qs) w (keys.legal k) goes_on)))
        (λ ne. subst (IsKeyHistory j) (sym (hist_else j ne)) (keys.legal j));
    over = λ j. dite (ℕ_discrete j k)
        (λ e. subst (λ (t : ℕ). Each (OverIsRemoved m.headers.pin (history t (map knowledge_of vs'))) (history t (map knowledge_of vs'))) (sym e) (subst (λ (l : List KeyedWrite). Each (OverIsRemoved m.headers.pin l) l) (sym hist_here)
        (each_append (OverIsRemoved m.headers.pin (history k qs ++ w ∷ [])) (history k qs) (w ∷ []) (each_map (OverIsRemoved m.headers.pin (history k qs)) (OverIsRemoved m.headers.pin (history k qs ++ w ∷ [])) (history k qs) (λ y f l. let r = f l in (r.0, removed_snoc y.home r.0 (history k qs) w r.1)) (keys.over k))
        ((λ l. absurd (now_there l)), tt))))
        (λ ne. subst (λ (l : List KeyedWrite). Each (OverIsRemoved m.headers.pin l) l) (sym (hist_else j ne)) (keys.over j));
    loaded = λ j q at. ⊎_elim (λ (y : (j ≡ seat) × (wrote k w qs v.knowledge ≡ q)). subst (LoadedStand (λ t. history t (map knowledge_of vs'))) y.1 (lives v.knowledge (keys.loaded seat v.knowledge q_here)))
        (λ (y : (j ≢ seat) × (get_elem? qs j ≡ some q)). lives q (keys.loaded j q y.1)) (at_set qs seat j (wrote k w qs v.knowledge) q (subst (λ (l : List Knowledge). get_elem? l j ≡ some q) qs_is at));
  }
    where
      now_there : generation_in w.home < generation_of (m.headers.pin (header_in w.home)) → ⊥
      now_there l = let e = ap generation_in home ∙ named_at.generation in let f = ap (λ (t : ℕ). generation_of (m.headers.pin t)) (ap header_in home ∙ named_at.header) in let g = generation in omega arith

      lives : (q : Knowledge) → LoadedStand (λ t. history t qs) q → Each (λ (l : KnownLife). (names_header l.home ≡ 1) × (0 < homes_in l.home (history (key_number l.key) (map knowledge_of vs'))) × IsKeyOf (key_number l.key) l.key) q.loaded
      lives q p = each_map (λ (l : KnownLife). (names_header l.home ≡ 1) × (0 < homes_in l.home (history (key_number l.key) qs)) × IsKeyOf (key_number l.key) l.key) (λ (l : KnownLife). (names_header l.home ≡ 1) × (0 < homes_in l.home (history (key_number l.key) (map knowledge_of vs'))) × IsKeyOf (key_number l.key) l.key) q.loaded
          (λ l t. (
            t.0,
            dite (ℕ_discrete (key_number l.key) k)
                (λ e. subst (λ (y : ℕ). 0 < homes_in l.home (history y (map knowledge_of vs'))) (sym e) (subst (λ (ws : List KeyedWrite). 0 < homes_in l.home ws) (sym hist_here) (homes_snoc l.home (history k qs) w (subst (λ (y : ℕ). 0 < homes_in l.home (history y qs)) e t.1))))
                (λ ne. subst (λ (ws : List KeyedWrite). 0 < homes_in l.home ws) (sym (hist_else (key_number l.key) ne)) t.1),
            t.2,
          )) p
