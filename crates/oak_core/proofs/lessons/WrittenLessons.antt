-- Writes keep the points on lessons: the one that inserts, and those of the holder of a lock.
use Rattle.std.proofs.Common.{◌≡◌, ℕ, ◌+◌, ◌^◌, ◌<◌, true, List, [], ◌∷◌, map, set, refl, ap, ◌∙◌, arith, None}
use mathlib.Core.Option.{some}
use lib.ListN.{get_elem?}
use Rattle.oak_model.specs.Counts.{one_at, total, Has}
use Rattle.oak_model.specs.History.{StampsRise, IsWriteOn}
use Rattle.oak_model.specs.KeyNumber.{key_number}
use Rattle.oak_model.specs.Limits.{Sizes}
use Rattle.oak_model.proofs.Lists.{map_set_same}
use Rattle.arena_core.specs.Place.{content}
use Rattle.header_core.specs.declared.holds.AtLock.{AtLock}
use Rattle.header_core.specs.declared.holds.HeldAs.TheVariants.{Fresh}
use Rattle.header_core.specs.declared.holds.HeldHeader.{HeldHeader}
use Rattle.chunk_core.specs.CoverRule.{CoversPartition}
use Rattle.chunk_core.specs.CoverSums.{weight, each, word_for, base_for, word_of, base_of, all_of}
use Rattle.chunk_core.specs.Covers.{Cover, key_at}
use Rattle.chunk_core.specs.LinkedEntries.{linked}
use Rattle.chunk_core.specs.ValueWord.{names_header}
use Rattle.oak_core.specs.declared.states.Findings.{Findings}
use Rattle.oak_core.specs.declared.states.KeyedWrite.{KeyedWrite}
use Rattle.oak_core.specs.declared.states.Knowledge.{Knowledge}
use Rattle.oak_core.specs.declared.states.PassState.{PassState}
use Rattle.oak_core.specs.KeyHistories.{writes_of, stamp_behind, IsKeyOf}
use Rattle.oak_core.specs.KeyReads.{shown_by, home_of}
use Rattle.oak_core.specs.KeyRule.{KeysStand}
use Rattle.oak_core.specs.KeyStates.{IsLockOf}
use Rattle.oak_core.specs.Known.{known}
use Rattle.oak_core.specs.Learning.{wrote, write_lesson}
use Rattle.oak_core.specs.Lessons.{HeardStands}
use Rattle.oak_core.specs.Memory.{Memory}
use Rattle.oak_core.specs.Owners.{HeadersAreHeld}
use Rattle.oak_core.specs.PassState.{history, knowledge_of, headers_held, rooms_held}
use Rattle.oak_core.specs.Rule.{HistoriesStand}
use Rattle.oak_core.proofs.memory.HomeWords.{NamesAt}
use Rattle.oak_core.proofs.keyed.Levels.{level-floor, level-named}
use Rattle.oak_core.proofs.known.PinsKnown.{pins_stay}
use Rattle.oak_core.proofs.lessons.WriteLessons.{heard_write}
use Rattle.oak_core.proofs.covers.SetValue as sets

-- the write that inserts
module _ (z : Sizes) (m : Memory) (is_key_word : ℕ → ℕ) (vs : List PassState) (parts : CoversPartition z m.rooms (content m.arena.bytes) is_key_word (map rooms_held vs)) (keys : KeysStand z m vs) (histories : HistoriesStand (map knowledge_of vs))
    (heads : HeadersAreHeld m.headers m.arena.bytes (known (map knowledge_of vs)) (map headers_held vs))
    (seat : ℕ) (v : PassState) (here : get_elem? vs seat ≡ some v) (fs : Findings)
    (r i old : ℕ) (lr : r < z.chunks) (cover : weight (m.rooms.pin r) ≡ 1) (once : total (λ j. one_at j i) (linked m.rooms r) ≡ 1) (found : m.rooms.value r i ≡ old) (floor : names_header old ≡ 0) (small : old < 2 ^ 64)
    (own : HeldHeader) (has : Has own v.headers.held) (fresh : own.held_as ≡ Fresh) (inside : own.header < z.headers) (named_at : NamesAt own.header own.generation) (next : own.stamp ≡ old + 1)
    (stamp_is : m.headers.stamp own.header ≡ own.stamp)
    (w : KeyedWrite) (home : w.home ≡ home_of own.header own.generation) (inserts : w.inserts ≡ true) (stamp : w.write.stamp ≡ own.stamp) (after : w.write.after ≡ shown_by m own.header)
    (key : key_number w.key ≡ key_at (content m.arena.bytes) (m.rooms.key r i)) (is_key : IsKeyOf (key_at (content m.arena.bytes) (m.rooms.key r i)) w.key) (writes : IsWriteOn None w.write) (heard : HeardStands z m vs) where
  abbrev k : ℕ
  k = key_at (content m.arena.bytes) (m.rooms.key r i)

  abbrev u : PassState
  u = sets.u z m is_key_word vs parts keys histories heads seat v here fs r i old lr cover once found floor small own has fresh inside named_at next stamp_is w home inserts stamp after key is_key writes

  was : word_of z m.rooms (content m.arena.bytes) (map rooms_held vs) (key_at (content m.arena.bytes) (m.rooms.key r i)) ≡ old + 1
  was = sets.was z m is_key_word vs parts keys histories heads seat v here fs r i old lr cover once found floor small own has fresh inside named_at next stamp_is w home inserts stamp after key is_key writes

  pub set_heard : HeardStands z (sets.m' z m is_key_word vs parts keys histories heads seat v here fs r i old lr cover once found floor small own has fresh inside named_at next stamp_is w home inserts stamp after key is_key writes) (set vs seat u)
  set_heard = heard_write z m (sets.m' z m is_key_word vs parts keys histories heads seat v here fs r i old lr cover once found floor small own has fresh inside named_at next stamp_is w home inserts stamp after key is_key writes) vs seat v u here heard
      k w (home_of own.header own.generation) key histories
      (λ j. ((sets.set_keys z m is_key_word vs parts keys histories heads seat v here fs r i old lr cover once found floor small own has fresh inside named_at next stamp_is w home inserts stamp after key is_key writes).legal j).legal.stamps)
      refl
      (let l = level-floor (base_of z m.rooms (content m.arena.bytes) (map rooms_held vs) (key_at (content m.arena.bytes) (m.rooms.key r i))) (stamp_behind (history (key_at (content m.arena.bytes) (m.rooms.key r i)) (map knowledge_of vs))) (word_of z m.rooms (content m.arena.bytes) (map rooms_held vs) (key_at (content m.arena.bytes) (m.rooms.key r i))) old was floor in omega arith)
      (sets.now z m is_key_word vs parts keys histories heads seat v here fs r i old lr cover once found floor small own has fresh inside named_at next stamp_is w home inserts stamp after key is_key writes)
      named_at.names
      (sets.else_same z m is_key_word vs parts keys histories heads seat v here fs r i old lr cover once found floor small own has fresh inside named_at next stamp_is w home inserts stamp after key is_key writes)
      (sets.base_more z m is_key_word vs parts keys histories heads seat v here fs r i old lr cover once found floor small own has fresh inside named_at next stamp_is w home inserts stamp after key is_key writes)
      (pins_stay v u refl (write_lesson w (history k (map knowledge_of vs)) ∷ []) refl (heard.pins seat v here))

-- The writes of a lock's holder, by an unlock or a mark: the rooms' words and what passes hold of rooms stay.
module _ (z : Sizes) (m m' : Memory) (words : m'.rooms ≡ m.rooms) (bytes : m'.arena ≡ m.arena) (vs : List PassState) (histories : HistoriesStand (map knowledge_of vs)) (heard : HeardStands z m vs)
    (seat : ℕ) (v u : PassState) (here : get_elem? vs seat ≡ some v) (rooms : u.rooms ≡ v.rooms) (pin : u.headers.pin ≡ v.headers.pin) (w : KeyedWrite) (own : HeldHeader) (at : AtLock)
    (lock : IsLockOf (word_of z m.rooms (content m.arena.bytes) (map rooms_held vs)) (λ k. history k (map knowledge_of vs)) at own) (names : names_header (home_of own.header own.generation) ≡ 1)
    (key : key_number w.key ≡ key_number own.key) (later : at.stamp < w.write.stamp) (knowledge : u.knowledge ≡ wrote (key_number own.key) w (map knowledge_of vs) v.knowledge)
    (rise : (j : ℕ) → StampsRise 0 (writes_of (history j (map knowledge_of (set vs seat u))))) where
  hs_same : map rooms_held (set vs seat u) ≡ map rooms_held vs
  hs_same = map_set_same rooms_held vs seat v u here rooms

  covers_same : (F : Cover → ℕ) → all_of z m'.rooms (content m'.arena.bytes) (map rooms_held (set vs seat u)) F ≡ all_of z m.rooms (content m.arena.bytes) (map rooms_held vs) F
  covers_same F = λ i. all_of z (words i) (content (bytes i).bytes) (hs_same i) F

  pub lock_heard : HeardStands z m' (set vs seat u)
  lock_heard = heard_write z m m' vs seat v u here heard (key_number own.key) w (home_of own.header own.generation) key histories rise knowledge
      (let n = level-named (base_of z m.rooms (content m.arena.bytes) (map rooms_held vs) (key_number own.key)) (stamp_behind (history (key_number own.key) (map knowledge_of vs))) (word_of z m.rooms (content m.arena.bytes) (map rooms_held vs) (key_number own.key)) (home_of own.header own.generation) lock.named names in
      let s = lock.stamp in omega arith)
      (covers_same (each (word_for (key_number own.key))) ∙ lock.named) names (λ j _. covers_same (each (word_for j))) (λ j. let e = covers_same (base_for j) in omega arith)
      (pins_stay v u pin (write_lesson w (history (key_number own.key) (map knowledge_of vs)) ∷ []) (ap (λ (q : Knowledge). q.heard) knowledge) (heard.pins seat v here))
