-- A room that gains a linked entry keeps the points on keys, callers and bounds: its key had none, and gets the base as its floor.
use Rattle.std.proofs.Common.{◌≡◌, ◌≢◌, ℕ, ◌+◌, ◌<◌, ◌≤◌, List, [], ◌∷◌, map, set, sym, refl, ap, ◌∙◌, subst, arith}
use mathlib.Core.Logic.{dite}
use mathlib.Core.Option.{some}
use native.Mathlib.Decide.{ℕ_discrete}
use lib.ListN.{get_elem?}
use Rattle.oak_model.specs.Counts.{total, Each, Every}
use Rattle.oak_model.specs.KeyNumber.{key_number}
use Rattle.oak_model.specs.Limits.{Sizes}
use Rattle.oak_model.proofs.Lists.{each_map, map_set_same}
use Rattle.arena_core.specs.Place.{content}
use Rattle.header_core.specs.HeaderHolds.{in_state}
use Rattle.header_core.specs.declared.holds.HeaderHolds.{HeaderHolds}
use Rattle.header_core.specs.declared.holds.HeldAs.{HeldAs}
use Rattle.header_core.specs.declared.holds.HeldAs.TheVariants.{Owned, Fresh, Locked, Buried}
use Rattle.header_core.specs.declared.holds.HeldHeader.{HeldHeader}
use Rattle.header_core.specs.declared.states.TheConstants.{LIVE}
use Rattle.chunk_core.specs.CoverRule.{CoversPartition}
use Rattle.chunk_core.specs.CoverSums.{each, naming, weight}
use Rattle.chunk_core.specs.Covers.{key_at}
use Rattle.chunk_core.specs.Rooms.{RoomMemory}
use Rattle.chunk_core.specs.ValueWord.{names_header}
use Rattle.chunk_core.proofs.GainedEntries.{GainsEntry, IsNewEntry}
use Rattle.oak_core.specs.declared.states.KeyedWrite.{KeyedWrite}
use Rattle.oak_core.specs.declared.states.Knowledge.{Knowledge}
use Rattle.oak_core.specs.declared.states.PassState.{PassState}
use Rattle.oak_core.specs.Callers.{removes}
use Rattle.oak_core.specs.KeyHistories.{IsKeyHistory, IsRemovedAt, state_behind, stamp_behind}
use Rattle.oak_core.specs.KeyReads.{sum_now, word_now, base_now, history_now, home_of, shown_by}
use Rattle.oak_core.specs.KeyRule.{KeysStand, LoadedStand, OverIsRemoved}
use Rattle.oak_core.specs.KeyStates.{KeyStands, HoldStands, unnamed}
use Rattle.oak_core.specs.Lessons.{PinsKnow}
use Rattle.oak_core.specs.Memory.{Memory}
use Rattle.oak_core.specs.PassState.{headers_held, rooms_held, knowledge_of, history}
use Rattle.oak_core.proofs.histories.BoundSteps.{bases_gained}
use Rattle.oak_core.proofs.histories.CallersKept.{without_hand, callers_kept, made_kept, made_same}
use Rattle.oak_core.proofs.keyed.KeyBundles.{KeyBundles, opened_kept}
use Rattle.oak_core.proofs.keyed.KeyFrames.{stands_same}
use Rattle.oak_core.proofs.lessons.GainedLessons.{change, still, gained_none, gained_floor, gained_other, gained_base, gained_names, gained_low, gained_above, gain_heard}

-- the words of the rooms become others, by which the key k gets an entry, with a floor that is not below the base
module _ (z : Sizes) (m : Memory) (rm : RoomMemory) (vs vs' : List PassState) (keys : KeysStand z m vs) (heads : map headers_held vs' ≡ map headers_held vs) (knows : map knowledge_of vs' ≡ map knowledge_of vs)
    (k f : ℕ) (was : word_now z m vs k ≡ 0) (now : word_now z (record m { rooms = rm }) vs' k ≡ f + 1) (low : names_header f ≡ 0) (above : base_now z m vs k ≤ f) (other : (j : ℕ) → j ≢ k → word_now z (record m { rooms = rm }) vs' j ≡ word_now z m vs j)
    (base_more : (j : ℕ) → base_now z m vs j ≤ base_now z (record m { rooms = rm }) vs' j) (names : (h : ℕ) → sum_now z (record m { rooms = rm }) vs' (each (naming h)) ≡ sum_now z m vs (each (naming h))) where
  abbrev m' : Memory
  m' = record m { rooms = rm }

  same : (j : ℕ) → history_now vs' j ≡ history_now vs j
  same j = ap (history j) knows

  -- no header is named by the key's entry: it had none
  not_it : (t y : ℕ) → word_now z m vs t ≡ y + 1 → t ≢ k
  not_it t y e is = let q = ap (word_now z m vs) is in absurd (omega arith)

  hold_on : (s : HeldAs) (t : HeldHeader) → HoldStands (word_now z m vs) (history_now vs) s t → HoldStands (word_now z m' vs') (history_now vs') s t
  hold_on Owned t p = p
  hold_on Fresh t p = p
  hold_on (Locked at) t p = record {
    named = other (key_number t.key) (not_it (key_number t.key) (home_of t.header t.generation) p.named) ∙ p.named;
    flag = p.flag;
    key = p.key;
    state = ap state_behind (same (key_number t.key)) ∙ p.state;
    stamp = ap stamp_behind (same (key_number t.key)) ∙ p.stamp;
  }
  hold_on Buried t p = record { named = λ e. other (key_number t.key) (not_it (key_number t.key) (home_of t.header t.generation) (p.named e)) ∙ p.named e; removed = subst (IsRemovedAt (home_of t.header t.generation) t.stamp) (sym (same (key_number t.key))) p.removed }

  stands_here : KeyStands z m.headers (shown_by m) (base_now z m' vs' k) (word_now z m' vs' k) (history_now vs' k)
  stands_here = subst (KeyStands z m.headers (shown_by m) (base_now z m' vs' k) (word_now z m' vs' k)) (sym (same k)) (let s = (keys.states k).none was in record {
    none = λ e. absurd (omega arith);
    floor = λ x e _. let l = s.1 in (s.0, omega arith);
    named = λ x e high. absurd (let q = ap names_header (let is : x ≡ f = omega arith in is) in omega arith);
  })

  pub floored_keys : KeysStand z (record m { rooms = rm }) vs'
  floored_keys = record {
    named = λ h. let n = names h in let a = ap (total (in_state h LIVE)) heads in let b = ap (total (unnamed h)) heads in let w = keys.named h in omega arith;
    states = λ j. dite (ℕ_discrete j k) (λ e. subst (λ (t : ℕ). KeyStands z m.headers (shown_by m) (base_now z m' vs' t) (word_now z m' vs' t) (history_now vs' t)) (sym e) stands_here)
        (λ ne. stands_same z m.headers (shown_by m) (base_now z m vs j) (base_now z m' vs' j) (word_now z m vs j) (word_now z m' vs' j) (history_now vs j) (history_now vs' j) (other j ne) (same j) (base_more j) (keys.states j));
    locks = subst (Every (λ (a : HeaderHolds). Each (λ (t : HeldHeader). HoldStands (word_now z m' vs') (history_now vs') t.held_as t) a.held)) (sym heads)
        (λ j a at. each_map (λ (t : HeldHeader). HoldStands (word_now z m vs) (history_now vs) t.held_as t) (λ (t : HeldHeader). HoldStands (word_now z m' vs') (history_now vs') t.held_as t) a.held (λ t p. hold_on t.held_as t p) (keys.locks j a at));
    legal = λ j. subst (IsKeyHistory j) (sym (same j)) (keys.legal j);
    over = λ j. subst (λ (l : List KeyedWrite). Each (OverIsRemoved m.headers.pin l) l) (sym (same j)) (keys.over j);
    loaded = subst (λ (l : List Knowledge). Every (LoadedStand (λ j. history j l)) l) (sym knows) keys.loaded;
  }

-- The room gains an entry, whose floor is the base.
module _ (z : Sizes) (m : Memory) (is_key_word : ℕ → ℕ) (vs : List PassState) (parts : CoversPartition z m.rooms (content m.arena.bytes) is_key_word (map rooms_held vs)) (b : KeyBundles z m vs) (seat : ℕ) (v u : PassState) (here : get_elem? vs seat ≡ some v)
    (r n : ℕ) (lr : r < z.chunks) (cover : weight (m.rooms.pin r) ≡ 1) (rm : RoomMemory) (gains : GainsEntry m.rooms rm (content m.arena.bytes) r n) (entry : IsNewEntry is_key_word m.rooms (content m.arena.bytes) r n) (floor : m.rooms.value r n ≡ m.rooms.base r)
    (moving : u.rooms.moving ≡ v.rooms.moving) (headers : u.headers ≡ v.headers) (knowledge : u.knowledge ≡ v.knowledge) (numbers : without_hand u.numbers ≡ without_hand v.numbers) where
  abbrev after : Memory
  after = record m { rooms = rm }

  abbrev states : List PassState
  states = set vs seat u

  knows_same : map knowledge_of states ≡ map knowledge_of vs
  knows_same = map_set_same knowledge_of vs seat v u here knowledge

  mine : u.knowledge.mine ≡ v.knowledge.mine
  mine = ap (λ (q : Knowledge). q.mine) knowledge

  history_same : (k : ℕ) → history_now states k ≡ history_now vs k
  history_same k = ap (history k) knows_same

  gain_keys : KeysStand z after states
  gain_keys = floored_keys z m rm vs states b.keys (map_set_same headers_held vs seat v u here headers) knows_same (key_at (content m.arena.bytes) (m.rooms.key r n)) (m.rooms.base r)
      (gained_none z m after is_key_word vs parts b.heard seat v u here r n lr cover refl gains entry floor moving knowledge)
      (gained_floor z m after is_key_word vs parts b.heard seat v u here r n lr cover refl gains entry floor moving knowledge)
      (gained_low z m after is_key_word vs parts b.heard seat v u here r n lr cover refl gains entry floor moving knowledge)
      (gained_above z m after is_key_word vs parts b.heard seat v u here r n lr cover refl gains entry floor moving knowledge)
      (gained_other z m after is_key_word vs parts b.heard seat v u here r n lr cover refl gains entry floor moving knowledge)
      (gained_base z m after is_key_word vs parts b.heard seat v u here r n lr cover refl gains entry floor moving knowledge)
      (gained_names z m after is_key_word vs parts b.heard seat v u here r n lr cover refl gains entry floor moving knowledge)

  pub gain_bundles : PinsKnow u → KeyBundles z (record m { rooms = rm }) (set vs seat u)
  gain_bundles pins = record {
    keys = gain_keys;
    callers = callers_kept vs seat v u here numbers mine b.callers history_same;
    bounds = bases_gained z m is_key_word vs states parts b.bounds (v.rooms ∷ []) (u.rooms ∷ []) (change z m after is_key_word vs parts b.heard seat v u here r n lr cover refl gains entry floor moving knowledge)
        (still z m after is_key_word vs parts b.heard seat v u here r n lr cover refl gains entry floor moving knowledge) r lr cover rm n gains entry floor (made_kept vs seat v u here numbers mine) history_same;
    opened = opened_kept z m after vs states record { dead = λ h e. e; generations = λ h. refl } (λ none. let s = made_same vs seat v u here numbers mine removes in omega arith) b.opened;
    heard = gain_heard z m after is_key_word vs parts b.heard seat v u here r n lr cover refl gains entry floor moving knowledge pins;
  }
