-- The points on keys and histories, where nothing changes that they speak of but what passes hold of rooms: each key has the entry that it had, and its cover's base is not lower.
use Rattle.std.proofs.Common.{◌≡◌, ℕ, ◌<◌, ◌≤◌, List, map, sym, ap, ◌∙◌, subst, arith}
use Rattle.oak_model.specs.Counts.{total, Each, Every}
use Rattle.oak_model.specs.KeyNumber.{key_number}
use Rattle.oak_model.specs.Limits.{Sizes}
use Rattle.oak_model.specs.State.{State}
use Rattle.oak_model.proofs.Lists.{each_map}
use Rattle.arena_core.specs.Place.{content}
use Rattle.header_core.specs.HeaderHolds.{in_state}
use Rattle.header_core.specs.Headers.{HeaderMemory}
use Rattle.header_core.specs.declared.holds.HeaderHolds.{HeaderHolds}
use Rattle.header_core.specs.declared.holds.HeldAs.{HeldAs}
use Rattle.header_core.specs.declared.holds.HeldAs.TheVariants.{Owned, Fresh, Locked, Buried}
use Rattle.header_core.specs.declared.holds.HeldHeader.{HeldHeader}
use Rattle.header_core.specs.declared.states.TheConstants.{LIVE}
use Rattle.chunk_core.specs.CoverSums.{each, naming, all_of, word_of, base_of}
use Rattle.chunk_core.specs.Rooms.{RoomMemory}
use Rattle.chunk_core.specs.ValueWord.{names_header}
use Rattle.oak_core.specs.declared.states.KeyedWrite.{KeyedWrite}
use Rattle.oak_core.specs.declared.states.Knowledge.{Knowledge}
use Rattle.oak_core.specs.declared.states.KnownLife.{KnownLife}
use Rattle.oak_core.specs.declared.states.PassState.{PassState}
use Rattle.oak_core.specs.KeyHistories.{state_behind, stamp_behind, IsKeyOf, IsKeyHistory, IsRemovedAt, homes_in}
use Rattle.oak_core.specs.KeyReads.{home_of, shown_by}
use Rattle.oak_core.specs.KeyRule.{OverIsRemoved, KeysStand, LoadedStand}
use Rattle.oak_core.specs.KeyStates.{KeyStands, HoldStands, unnamed}
use Rattle.oak_core.specs.Memory.{Memory}
use Rattle.oak_core.specs.PassState.{history, headers_held, knowledge_of, rooms_held}

-- the base rises, and all else stays
pub stands_same : (z : Sizes) (m : HeaderMemory) (shown : ℕ → State) (base base' w w' : ℕ) (h h' : List KeyedWrite) → w' ≡ w → h' ≡ h → base ≤ base' → KeyStands z m shown base w h → KeyStands z m shown base' w' h'
stands_same z m shown base base' w w' h h' ew eh le k = subst (λ (t : ℕ × List KeyedWrite). KeyStands z m shown base' t.0 t.1) (λ i. (sym ew i, sym eh i)) (record {
  none = λ e. let n = k.none e in let l = n.1 in (n.0, (omega arith));
  floor = k.floor;
  named = k.named;
})

-- what is said of held headers speaks of the word of a key and of its history
pub hold_same : (word word' : ℕ → ℕ) (hist hist' : ℕ → List KeyedWrite) → ((k : ℕ) → word' k ≡ word k) → ((k : ℕ) → hist' k ≡ hist k) → (s : HeldAs) (r : HeldHeader) → HoldStands word hist s r → HoldStands word' hist' s r
hold_same word word' hist hist' ew eh Owned r h = h
hold_same word word' hist hist' ew eh Fresh r h = h
hold_same word word' hist hist' ew eh (Locked at) r h = record { named = ew (key_number r.key) ∙ h.named; flag = h.flag; key = h.key; state = ap state_behind (eh (key_number r.key)) ∙ h.state; stamp = ap stamp_behind (eh (key_number r.key)) ∙ h.stamp }
hold_same word word' hist hist' ew eh Buried r h = record { named = λ e. ew (key_number r.key) ∙ h.named e; removed = subst (IsRemovedAt (home_of r.header r.generation) r.stamp) (sym (eh (key_number r.key))) h.removed }

-- the words of the rooms become others, and some passes' states
module _ (z : Sizes) (m : Memory) (rm : RoomMemory) (vs vs' : List PassState) where
  abbrev pub moved : Memory
  moved = record m { rooms = rm }

  abbrev word : ℕ → ℕ
  word k = word_of z m.rooms (content m.arena.bytes) (map rooms_held vs) k

  abbrev word' : ℕ → ℕ
  word' k = word_of z rm (content m.arena.bytes) (map rooms_held vs') k

  abbrev hist : ℕ → List KeyedWrite
  hist k = history k (map knowledge_of vs)

  abbrev hist' : ℕ → List KeyedWrite
  hist' k = history k (map knowledge_of vs')

  pub keys_framed : KeysStand z m vs → map headers_held vs' ≡ map headers_held vs
      → ((k : ℕ) → hist' k ≡ hist k) → ((k : ℕ) → word' k ≡ word k)
      → ((k : ℕ) → base_of z m.rooms (content m.arena.bytes) (map rooms_held vs) k ≤ base_of z rm (content m.arena.bytes) (map rooms_held vs') k)
      → ((h : ℕ) → all_of z rm (content m.arena.bytes) (map rooms_held vs') (each (naming h)) ≡ all_of z m.rooms (content m.arena.bytes) (map rooms_held vs) (each (naming h)))
      → Every (LoadedStand hist') (map knowledge_of vs')
      → KeysStand z moved vs'
  keys_framed keys heads eh ew base names loaded = record {
    named = λ h. let n = names h in let a = ap (total (in_state h LIVE)) heads in let b = ap (total (unnamed h)) heads in let was = keys.named h in omega arith;
    states = λ k. stands_same z m.headers (shown_by m) (base_of z m.rooms (content m.arena.bytes) (map rooms_held vs) k) (base_of z rm (content m.arena.bytes) (map rooms_held vs') k) (word k) (word' k) (hist k) (hist' k) (ew k) (eh k) (base k) (keys.states k);
    locks = subst (Every (λ (a : HeaderHolds). Each (λ (r : HeldHeader). HoldStands word' hist' r.held_as r) a.held)) (sym heads)
        (λ j a at. each_map (λ (r : HeldHeader). HoldStands word hist r.held_as r) (λ (r : HeldHeader). HoldStands word' hist' r.held_as r) a.held (λ r h. hold_same word word' hist hist' ew eh r.held_as r h) (keys.locks j a at));
    legal = λ k. subst (IsKeyHistory k) (sym (eh k)) (keys.legal k);
    over = λ k. subst (λ (h : List KeyedWrite). Each (OverIsRemoved m.headers.pin h) h) (sym (eh k)) (keys.over k);
    loaded = loaded;
  }

-- what was loaded stays one of its key's lives
pub loaded_same : (hist hist' : ℕ → List KeyedWrite) → ((k : ℕ) → hist' k ≡ hist k) → (q : Knowledge) → LoadedStand hist q → LoadedStand hist' q
loaded_same hist hist' eh q h = each_map (λ (l : KnownLife). (names_header l.home ≡ 1) × (0 < homes_in l.home (hist (key_number l.key))) × IsKeyOf (key_number l.key) l.key) (λ (l : KnownLife). (names_header l.home ≡ 1) × (0 < homes_in l.home (hist' (key_number l.key))) × IsKeyOf (key_number l.key) l.key) q.loaded
    (λ l t. (t.0, subst (λ (ws : List KeyedWrite). 0 < homes_in l.home ws) (sym (eh (key_number l.key))) t.1, t.2)) h
