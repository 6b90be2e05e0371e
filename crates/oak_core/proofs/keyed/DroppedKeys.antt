-- The points on keys, behind a store to a held room that drops a carried entry without a value: its key was absent by its floor, and is absent by the base of its cover, which is not below that.
use Rattle.std.proofs.Common.{◌≡◌, ◌≢◌, ℕ, ◌+◌, ◌-◌, ◌<◌, ◌≤◌, true, List, map, set, sym, refl, ap, ◌∙◌, subst, arith}
use mathlib.Core.Logic.{dite}
use mathlib.Core.Option.{some}
use native.Mathlib.Decide.{ℕ_discrete}
use lib.ListN.{get_elem?}
use Rattle.oak_model.specs.Counts.{total, Has, Each, Every}
use Rattle.oak_model.specs.KeyNumber.{key_number}
use Rattle.oak_model.specs.Limits.{Sizes}
use Rattle.oak_model.proofs.Lists.{at_map, map_set_same}
use Rattle.arena_core.specs.Place.{content}
use Rattle.header_core.specs.declared.states.TheConstants.{LIVE}
use Rattle.header_core.specs.declared.holds.HeldAs.{HeldAs}
use Rattle.header_core.specs.declared.holds.HeldAs.TheVariants.{Owned, Fresh, Locked, Buried}
use Rattle.header_core.specs.declared.holds.HeldHeader.{HeldHeader}
use Rattle.header_core.specs.declared.holds.HeaderHolds.{HeaderHolds}
use Rattle.header_core.specs.HeaderHolds.{in_state}
use Rattle.chunk_core.specs.ValueWord.{names_header}
use Rattle.chunk_core.specs.declared.holds.Carried.{Carried}
use Rattle.chunk_core.specs.declared.holds.MovingRange.{MovingRange}
use Rattle.chunk_core.specs.declared.holds.RoomHolds.{RoomHolds}
use Rattle.chunk_core.specs.CoverRule.{CoversPartition}
use Rattle.chunk_core.specs.CoverSums.{all_of, each, naming}
use Rattle.chunk_core.specs.Covers.{Cover, cover_at, cover_from, key_at, moving_of}
use Rattle.chunk_core.specs.MovingRanges.{drops as drops_of, is_dropped, range_without}
use Rattle.chunk_core.specs.RoomRule.{AreTrueRanges}
use Rattle.chunk_core.specs.Rooms.{RoomMemory}
use Rattle.chunk_core.proofs.CoverLaws.{moves_le}
use Rattle.chunk_core.proofs.DroppedEntries as drops
use Rattle.chunk_core.proofs.DroppedSums.{drops_are}
use Rattle.oak_core.specs.declared.states.KeyedWrite.{KeyedWrite}
use Rattle.oak_core.specs.declared.states.Knowledge.{Knowledge}
use Rattle.oak_core.specs.declared.states.PassState.{PassState}
use Rattle.oak_core.specs.Bounds.{BasesBound, base_over, floor_in, floor_over}
use Rattle.oak_core.specs.Callers.{made_by, removes}
use Rattle.oak_core.specs.KeyHistories.{state_behind, stamp_behind, IsKeyHistory, IsRemovedAt}
use Rattle.oak_core.specs.KeyReads.{home_of, history_now, shown_by, word_now, base_now}
use Rattle.oak_core.specs.KeyRule.{KeysStand, LoadedStand, OverIsRemoved}
use Rattle.oak_core.specs.KeyStates.{KeyStands, HoldStands, unnamed}
use Rattle.oak_core.specs.Lessons.{HeardStands, PinsKnow}
use Rattle.oak_core.specs.Memory.{Memory}
use Rattle.oak_core.specs.PassState.{history, headers_held, knowledge_of, rooms_held}
use Rattle.oak_core.proofs.histories.BoundWrites.{bases_kept}
use Rattle.oak_core.proofs.histories.CallersKept.{without_hand, callers_kept, made_kept, made_same}
use Rattle.oak_core.proofs.histories.DroppedBounds.{ranges_bound}
use Rattle.oak_core.proofs.lessons.HeardKeeps.{heard_idle}
use Rattle.oak_core.proofs.memory.HomeWords.{NamesAt}
use Rattle.oak_core.proofs.keyed.KeyBundles.{KeyBundles, opened_kept}
use Rattle.oak_core.proofs.keyed.KeyFrames.{stands_same}
use Rattle.oak_core.proofs.keyed.Levels.{goes_dropped, level_at}
use Rattle.oak_core.proofs.histories.LockedWrites.{each_in}

-- The words of the rooms become others, and the entries of the word `word0` without a value are dropped from the ranges of the pass of the seat.
module _ (z : Sizes) (m : Memory) (rm : RoomMemory) (is_key_word : ℕ → ℕ) (vs : List PassState) (parts : CoversPartition z m.rooms (content m.arena.bytes) is_key_word (map rooms_held vs)) (b : KeyBundles z m vs)
    (bounded : (j : ℕ) (a : HeaderHolds) → get_elem? (map headers_held vs) j ≡ some a → (t : HeldHeader) → Has t a.held → NamesAt t.header t.generation)
    (seat : ℕ) (v u : PassState) (here : get_elem? vs seat ≡ some v) (heads : u.headers ≡ v.headers) (knowledge : u.knowledge ≡ v.knowledge) (numbers : without_hand u.numbers ≡ without_hand v.numbers) (pins : PinsKnow u)
    (true_to : AreTrueRanges (content m.arena.bytes) v.rooms.moving) (word0 : ℕ) (moving : u.rooms.moving ≡ map (range_without word0) v.rooms.moving)
    (step : (F : Cover → ℕ) → all_of z rm (content m.arena.bytes) (map rooms_held (set vs seat u)) F + total F (moving_of v.rooms) ≡ all_of z m.rooms (content m.arena.bytes) (map rooms_held vs) F + total F (moving_of u.rooms)) where
  abbrev bytes : ℕ → List ℕ
  bytes = content m.arena.bytes

  abbrev hs : List RoomHolds
  hs = map rooms_held vs

  abbrev m' : Memory
  m' = record m { rooms = rm }

  abbrev vs' : List PassState
  vs' = set vs seat u

  abbrev hs' : List RoomHolds
  hs' = map rooms_held (set vs seat u)

  r_here : get_elem? hs seat ≡ some v.rooms
  r_here = at_map rooms_held vs seat v here

  -- the key of what is dropped
  abbrev k0 : ℕ
  k0 = key_at (content m.arena.bytes) word0

  more : (j : ℕ) → base_now z m vs j ≤ base_now z m' vs' j
  more = drops.base_more z m.rooms rm bytes is_key_word hs hs' parts seat v.rooms u.rooms r_here true_to word0 moving step

  names : (h : ℕ) → all_of z rm bytes hs' (each (naming h)) ≡ all_of z m.rooms bytes hs (each (naming h))
  names = drops.names_still z m.rooms rm bytes is_key_word hs hs' parts seat v.rooms u.rooms r_here true_to word0 moving step

  else_same : (j : ℕ) → j ≢ k0 → word_now z m' vs' j ≡ word_now z m vs j
  else_same = drops.word_else z m.rooms rm bytes is_key_word hs hs' parts seat v.rooms u.rooms r_here true_to word0 moving step

  knows_same : map knowledge_of vs' ≡ map knowledge_of vs
  knows_same = map_set_same knowledge_of vs seat v u here knowledge

  hist_same : (j : ℕ) → history_now vs' j ≡ history_now vs j
  hist_same j = ap (history j) knows_same

  heads_same : map headers_held vs' ≡ map headers_held vs
  heads_same = map_set_same headers_held vs seat v u here heads

  -- no floor and no base comes above the number of all writes
  bounds_kept : BasesBound z m' vs'
  bounds_kept = let n : ℕ = total made_by vs in bases_kept z m m' vs vs' b.bounds (made_kept vs seat v u here numbers (ap (λ (q : Knowledge). q.mine) knowledge)) hist_same
      (let d = drops.with_dropped z m.rooms rm bytes is_key_word hs hs' parts seat v.rooms u.rooms r_here true_to word0 moving step (λ x. floor_in x.value - n) in omega arith)
      (let s = step (base_over n) in let l = own_le (base_over n) in let f = own_le (each (floor_over n)) in let none = b.bounds.bases in let low = b.bounds.floors in
      let r = ranges_bound n word0 v.rooms.moving (omega arith) (omega arith) in let e = ap (λ (gs : List MovingRange). total (base_over n) (map cover_from gs)) moving in omega arith)
    where
      own_le : (F : Cover → ℕ) → total F (moving_of v.rooms) ≤ all_of z m.rooms bytes hs F
      own_le F = moves_le z.chunks m.rooms.pin (cover_at m.rooms bytes) hs F seat v.rooms r_here

  -- the entry that is dropped
  module _ (i : ℕ) (g : MovingRange) (range : get_elem? v.rooms.moving i ≡ some g) (c0 : Carried) (has : Has c0 g.carried) (drop : is_dropped word0 c0 ≡ true) (true_word : content m.arena.bytes c0.word ≡ c0.words) where
    low : names_header c0.value ≡ 0
    low = drops.floor z m.rooms rm bytes is_key_word hs hs' parts seat v.rooms u.rooms r_here true_to word0 moving step i g range c0 has drop true_word

    was : word_now z m vs k0 ≡ c0.value + 1
    was = drops.word_was z m.rooms rm bytes is_key_word hs hs' parts seat v.rooms u.rooms r_here true_to word0 moving step i g range c0 has drop true_word

    now : word_now z m' vs' k0 ≡ 0
    now = drops.word_now z m.rooms rm bytes is_key_word hs hs' parts seat v.rooms u.rooms r_here true_to word0 moving step i g range c0 has drop true_word

    above : c0.value ≤ base_now z m' vs' k0
    above = drops.base_now z m.rooms rm bytes is_key_word hs hs' parts seat v.rooms u.rooms r_here true_to word0 moving step i g range c0 has drop true_word

    not_it : (t : HeldHeader) → NamesAt t.header t.generation → word_now z m vs (key_number t.key) ≡ home_of t.header t.generation + 1 → key_number t.key ≢ k0
    not_it t n e same = let q = ap (λ (y : ℕ). word_now z m vs y) same in let w = was in let y : c0.value ≡ home_of t.header t.generation = omega arith in let l = low in let s = ap names_header y in let nn = n.names in absurd (omega arith)

    hold_on : (s : HeldAs) (t : HeldHeader) → NamesAt t.header t.generation → HoldStands (word_now z m vs) (history_now vs) s t → HoldStands (word_now z m' vs') (history_now vs') s t
    hold_on Owned t n q = q
    hold_on Fresh t n q = q
    hold_on (Locked a) t n q = record { named = else_same (key_number t.key) (not_it t n q.named) ∙ q.named; flag = q.flag; key = q.key; state = ap state_behind (hist_same (key_number t.key)) ∙ q.state; stamp = ap stamp_behind (hist_same (key_number t.key)) ∙ q.stamp }
    hold_on Buried t n q = record { named = λ e. else_same (key_number t.key) (not_it t n (q.named e)) ∙ q.named e; removed = subst (IsRemovedAt (home_of t.header t.generation) t.stamp) (sym (hist_same (key_number t.key))) q.removed }

    -- its key is absent, by the base
    stands_here : KeyStands z m.headers (shown_by m) (base_now z m' vs' k0) (word_now z m' vs' k0) (history_now vs k0)
    stands_here = let s = (b.keys.states k0).floor c0.value was low in let n = now in let a = above in record { none = λ _. let l = s.1 in (s.0, (omega arith)); floor = λ f q _. absurd (omega arith); named = λ f q _. absurd (omega arith) }

    drop_keys : KeysStand z m' vs'
    drop_keys = record {
      named = λ h. let n = names h in let f = ap (total (in_state h LIVE)) heads_same in let d = ap (total (unnamed h)) heads_same in let w = b.keys.named h in omega arith;
      states = λ j. subst (KeyStands z m.headers (shown_by m) (base_now z m' vs' j) (word_now z m' vs' j)) (sym (hist_same j)) (dite (ℕ_discrete j k0)
          (λ e. subst (λ (t : ℕ). KeyStands z m.headers (shown_by m) (base_now z m' vs' t) (word_now z m' vs' t) (history_now vs t)) (sym e) stands_here)
          (λ ne. stands_same z m.headers (shown_by m) (base_now z m vs j) (base_now z m' vs' j) (word_now z m vs j) (word_now z m' vs' j) (history_now vs j) (history_now vs j) (else_same j ne) refl (more j) (b.keys.states j)));
      locks = subst (Every (λ (a : HeaderHolds). Each (λ (t : HeldHeader). HoldStands (word_now z m' vs') (history_now vs') t.held_as t) a.held)) (sym heads_same)
          (λ j a e. each_in (λ (t : HeldHeader). HoldStands (word_now z m vs) (history_now vs) t.held_as t) (λ (t : HeldHeader). HoldStands (word_now z m' vs') (history_now vs') t.held_as t) a.held (λ t m0 q. hold_on t.held_as t (bounded j a e t m0) q) (b.keys.locks j a e));
      legal = λ j. subst (IsKeyHistory j) (sym (hist_same j)) (b.keys.legal j);
      over = λ j. subst (λ (l : List KeyedWrite). Each (OverIsRemoved m.headers.pin l) l) (sym (hist_same j)) (b.keys.over j);
      loaded = subst (λ (l : List Knowledge). Every (LoadedStand (λ j. history j l)) l) (sym knows_same) b.keys.loaded;
    }

    -- and its level does not fall: it was the floor, and is the base
    drop_heard : HeardStands z m' vs'
    drop_heard = heard_idle z m m' vs seat v u here b.heard (level_at z m m' vs vs' k0
        (goes_dropped (base_now z m vs k0) (base_now z m' vs' k0) (word_now z m vs k0) (word_now z m' vs' k0) c0.value (history_now vs k0) (history_now vs' k0) was low now above (hist_same k0)) else_same more (λ k _. hist_same k)) knowledge pins

    -- so all points on keys, callers, bounds and lessons stand then
    pub entry_bundles : KeyBundles z (record m { rooms = rm }) (set vs seat u)
    entry_bundles = record {
      keys = drop_keys;
      callers = callers_kept vs seat v u here numbers (ap (λ (q : Knowledge). q.mine) knowledge) b.callers hist_same;
      bounds = bounds_kept;
      opened = opened_kept z m m' vs vs' record { dead = λ h e. e; generations = λ h. refl } (λ none. let s = made_same vs seat v u here numbers (ap (λ (q : Knowledge). q.mine) knowledge) removes in omega arith) b.opened;
      heard = drop_heard;
    }

  -- so they do where any entry is dropped
  pub drop_bundles : 0 < drops_of word0 v.rooms.moving → KeyBundles z (record m { rooms = rm }) (set vs seat u)
  drop_bundles l = let t = drops.which z m.rooms rm bytes is_key_word hs hs' parts seat v.rooms u.rooms r_here true_to word0 moving step (let e = drops_are word0 v.rooms.moving in omega arith) in let d = t.3 in entry_bundles t.0 t.1 t.2 d.0 d.1 d.2 d.3
