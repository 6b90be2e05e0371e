-- The points on keys where a step of one seat changes a header that no entry names, at its generation: a header that is claimed, stored to, opened or released.
use Rattle.std.proofs.Common.{◌≡◌, ◌≢◌, ℕ, ◌+◌, ◌*◌, ◌≤◌, List, map, set, sym, ap, ◌∙◌, subst, ⊎_elim, arith, Some}
use mathlib.Core.Logic.{dite}
use mathlib.Core.Option.{some}
use native.Mathlib.Decide.{ℕ_discrete}
use lib.ListN.{get_elem?}
use Rattle.pin_word.specs.PinWord.{state_of, generation_of}
use Rattle.oak_model.specs.Counts.{one_at, total, Each}
use Rattle.oak_model.specs.Limits.{Sizes}
use Rattle.oak_model.proofs.Counting.{total_set, one_at-same, one_at-le}
use Rattle.oak_model.proofs.Lists.{at_map, at_set, map_set, map_set_same, each_map}
use Rattle.oak_model.proofs.SumLaws.{times-none, times-one}
use Rattle.arena_core.specs.Place.{content}
use Rattle.header_core.specs.HeaderHolds.{in_state}
use Rattle.header_core.specs.HeaderRule.{stocked}
use Rattle.header_core.specs.Headers.{HeaderMemory}
use Rattle.header_core.specs.declared.holds.HeaderHolds.{HeaderHolds}
use Rattle.header_core.specs.declared.holds.HeldHeader.{HeldHeader}
use Rattle.header_core.specs.declared.states.TheConstants.{LIVE}
use Rattle.chunk_core.specs.CoverRule.{CoversPartition}
use Rattle.chunk_core.specs.CoverSums.{each, naming, names, has_key, word_for, base_for, all_of}
use Rattle.chunk_core.specs.Covers.{Cover}
use Rattle.chunk_core.specs.ValueWord.{names_header, header_in}
use Rattle.chunk_core.specs.declared.holds.RoomHolds.{RoomHolds}
use Rattle.chunk_core.proofs.Lookups.{picked, each_le}
use Rattle.oak_core.specs.declared.states.KeyedWrite.{KeyedWrite}
use Rattle.oak_core.specs.declared.states.Knowledge.{Knowledge}
use Rattle.oak_core.specs.declared.states.PassState.{PassState}
use Rattle.oak_core.specs.KeyHistories.{IsKeyHistory}
use Rattle.oak_core.specs.KeyReads.{value_in, word_now, base_now, history_now, sum_now, shown_by}
use Rattle.oak_core.specs.KeyRule.{KeysStand, OverIsRemoved}
use Rattle.oak_core.specs.KeyStates.{KeyStands, HoldStands, unnamed}
use Rattle.oak_core.specs.Memory.{Memory}
use Rattle.oak_core.specs.PassState.{rooms_held, headers_held, knowledge_of, history}
use Rattle.oak_core.proofs.keyed.KeyFrames.{stands_same, hold_same, loaded_same}

-- an entry's header is another than one that no entry names
pub names_other : (z : Sizes) (m : Memory) (is_key_word : ℕ → ℕ) (vs : List PassState) → CoversPartition z m.rooms (content m.arena.bytes) is_key_word (map rooms_held vs) → (h : ℕ) → sum_now z m vs (each (naming h)) ≡ 0 → (k y : ℕ) → word_now z m vs k ≡ y + 1 → names_header y ≡ 1 → header_in y ≢ h
names_other z m is_key_word vs parts h none k y is high same = let p = picked z m.rooms (content m.arena.bytes) (map rooms_held vs) k y (names h) (parts.once k) is in let t = times-one (names_header y) (one_at (header_in y) h) high in let o = one_at-same (header_in y) h same in
    let l = each_le z m.rooms (content m.arena.bytes) (map rooms_held vs) (λ s x. has_key k s x * names h x.value) (naming h) (λ s x. part (one_at x.key k) (names h x.value) (one_at-le x.key k)) in absurd (omega arith)
  where
    part : (a b : ℕ) → a ≤ 1 → a * b ≤ b
    part a b l = dite (ℕ_discrete a 0) (λ e. let f = times-none a b e in omega arith) (λ ne. let f = times-one a b (omega arith) in omega arith)

module _ (z : Sizes) (m : Memory) (is_key_word : ℕ → ℕ) (vs : List PassState) (parts : CoversPartition z m.rooms (content m.arena.bytes) is_key_word (map rooms_held vs)) (keys : KeysStand z m vs)
    (seat : ℕ) (v u : PassState) (here : get_elem? vs seat ≡ some v) (rooms : u.rooms ≡ v.rooms) (knowledge : u.knowledge ≡ v.knowledge) (h : ℕ) (none : sum_now z m vs (each (naming h)) ≡ 0)
    (n : HeaderMemory) (pins : (j : ℕ) → j ≢ h → n.pin j ≡ m.headers.pin j) (places : (j : ℕ) → j ≢ h → n.place j ≡ m.headers.place j) (stamps : (j : ℕ) → j ≢ h → n.stamp j ≡ m.headers.stamp j) (generation : generation_of (n.pin h) ≡ generation_of (m.headers.pin h))
    (counts : (j : ℕ) → in_state j LIVE u.headers + unnamed j u.headers + stocked (state_of (m.headers.pin j)) ≡ in_state j LIVE v.headers + unnamed j v.headers + stocked (state_of (n.pin j)))
    (holds : (word : ℕ → ℕ) (hist : ℕ → List KeyedWrite) → Each (λ (r : HeldHeader). HoldStands word hist r.held_as r) v.headers.held → Each (λ (r : HeldHeader). HoldStands word hist r.held_as r) u.headers.held) where
  abbrev vs' : List PassState
  vs' = set vs seat u

  abbrev m' : Memory
  m' = record m { headers = n }

  h_here : get_elem? (map headers_held vs) seat ≡ some v.headers
  h_here = at_map headers_held vs seat v here

  sums : (F : Cover → ℕ) → sum_now z m (set vs seat u) F ≡ sum_now z m vs F
  sums F = ap (λ (hs : List RoomHolds). all_of z m.rooms (content m.arena.bytes) hs F) (map_set_same rooms_held vs seat v u here rooms)

  knows_same : map knowledge_of (set vs seat u) ≡ map knowledge_of vs
  knows_same = map_set_same knowledge_of vs seat v u here knowledge

  same : (k : ℕ) → history_now (set vs seat u) k ≡ history_now vs k
  same k = ap (history k) knows_same

  heads_sum : (f : HeaderHolds → ℕ) → total f (map headers_held (set vs seat u)) + f v.headers ≡ total f (map headers_held vs) + f u.headers
  heads_sum f = let t = total_set f (map headers_held vs) seat v.headers u.headers h_here in let q = ap (total f) (map_set headers_held vs seat u) in omega arith

  generations : (j : ℕ) → generation_of (n.pin j) ≡ generation_of (m.headers.pin j)
  generations j = dite (ℕ_discrete j h) (λ e. subst (λ (t : ℕ). generation_of (n.pin t) ≡ generation_of (m.headers.pin t)) (sym e) generation) (λ ne. ap generation_of (pins j ne))

  stands : (k : ℕ) → KeyStands z n (shown_by m') (base_now z m vs k) (word_now z m vs k) (history_now vs k)
  stands k = record {
    none = (keys.states k).none;
    floor = (keys.states k).floor;
    named = λ y e high. let i = (keys.states k).named y e high in let ne = names_other z m is_key_word vs parts h none k y e high in record {
      inside = i.inside;
      generation = generations (header_in y) ∙ i.generation;
      home = i.home;
      live = λ s. let t = i.live (ap state_of (sym (pins (header_in y) ne)) ∙ s) in (t.0 ∙ ap (λ (p : ℕ). Some (value_in p (content m.arena.bytes p))) (sym (places (header_in y) ne)), t.1 ∙ sym (stamps (header_in y) ne));
      dead = λ s. let t = i.dead (ap state_of (sym (pins (header_in y) ne)) ∙ s) in (t.0, t.1 ∙ sym (stamps (header_in y) ne));
    };
  }

  holds_on : (a : HeaderHolds) → Each (λ (r : HeldHeader). HoldStands (word_now z m vs) (history_now vs) r.held_as r) a.held → Each (λ (r : HeldHeader). HoldStands (word_now z m (set vs seat u)) (history_now (set vs seat u)) r.held_as r) a.held
  holds_on a p = each_map (λ (r : HeldHeader). HoldStands (word_now z m vs) (history_now vs) r.held_as r) (λ (r : HeldHeader). HoldStands (word_now z m vs') (history_now vs') r.held_as r) a.held
      (λ r q. hold_same (word_now z m vs) (word_now z m vs') (history_now vs) (history_now vs') (λ k. sums (each (word_for k))) same r.held_as r q) p

  pub keys_unnamed : KeysStand z (record m { headers = n }) (set vs seat u)
  keys_unnamed = record {
    named = λ j. let s = sums (each (naming j)) in let a = heads_sum (in_state j LIVE) in let b = heads_sum (unnamed j) in let c = counts j in let k = keys.named j in omega arith;
    states = λ k. stands_same z n (shown_by m') (base_now z m vs k) (base_now z m vs' k) (word_now z m vs k) (word_now z m vs' k) (history_now vs k) (history_now vs' k) (sums (each (word_for k))) (same k) (let b = sums (base_for k) in omega arith) (stands k);
    locks = λ j a at. ⊎_elim (λ (y : (j ≡ seat) × (u.headers ≡ a)). subst (λ (b : HeaderHolds). Each (λ (r : HeldHeader). HoldStands (word_now z m vs') (history_now vs') r.held_as r) b.held) y.1
        (holds_on u.headers (holds (word_now z m vs) (history_now vs) (keys.locks seat v.headers h_here))))
        (λ (y : (j ≢ seat) × (get_elem? (map headers_held vs) j ≡ some a)). holds_on a (keys.locks j a y.1))
        (at_set (map headers_held vs) seat j u.headers a (subst (λ (l : List HeaderHolds). get_elem? l j ≡ some a) (map_set headers_held vs seat u) at));
    legal = λ k. subst (IsKeyHistory k) (sym (same k)) (keys.legal k);
    over = λ k. subst (λ (l : List KeyedWrite). Each (OverIsRemoved n.pin l) l) (sym (same k)) (each_map (OverIsRemoved m.headers.pin (history_now vs k)) (OverIsRemoved n.pin (history_now vs k)) (history_now vs k) (λ w f l. f (let g = generations (header_in w.home) in omega arith)) (keys.over k));
    loaded = λ j q at. loaded_same (history_now vs) (history_now vs') same q (keys.loaded j q (subst (λ (l : List Knowledge). get_elem? l j ≡ some q) knows_same at));
  }
