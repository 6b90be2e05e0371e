-- Steps that teach of one key, and leave the words of the rooms: the lesson goes to the level of the key at most.
use Rattle.std.proofs.Common.{◌≡◌, ℕ, ◌+◌, ◌≤◌, List, [], ◌∷◌, map, set, sym, ap, ◌∙◌, arith}
use mathlib.Core.Option.{some}
use lib.ListN.{get_elem?}
use Rattle.pin_word.specs.PinWord.{state_of}
use Rattle.oak_model.specs.Counts.{longest}
use Rattle.oak_model.specs.History.{StampsRise}
use Rattle.oak_model.specs.KeyNumber.{key_number}
use Rattle.oak_model.specs.Limits.{Sizes}
use Rattle.oak_model.proofs.Lists.{at_map, map_set_same, map_set}
use Rattle.arena_core.specs.Place.{content}
use Rattle.header_core.specs.declared.states.TheConstants.{LIVE}
use Rattle.chunk_core.specs.CoverSums.{word_of, base_of, word_for, base_for, each, all_of}
use Rattle.chunk_core.specs.ValueWord.{names_header, header_in}
use Rattle.oak_core.specs.declared.states.KeyedWrite.{KeyedWrite}
use Rattle.oak_core.specs.declared.states.PassState.{PassState}
use Rattle.oak_core.specs.KeyHistories.{writes_of, stamp_behind, IsRemovedAt}
use Rattle.oak_core.specs.KeyReads.{shown_by, level_of}
use Rattle.oak_core.specs.KeyRule.{KeysStand}
use Rattle.oak_core.specs.Learning.{reach_of, lesson_by, taught_by, of_key_to}
use Rattle.oak_core.specs.Lessons.{PinsKnow, HeardStands}
use Rattle.oak_core.specs.Memory.{Memory}
use Rattle.oak_core.specs.PassState.{of_key, history, seen_of, knowledge_of, rooms_held}
use Rattle.oak_core.specs.Rule.{HistoriesStand}
use Rattle.oak_core.proofs.lessons.HeardKeeps.{heard_load}
use Rattle.oak_core.proofs.lessons.LessonReach.{reach_one}
use Rattle.oak_core.proofs.keyed.Levels.{level-floor, level-last}
use Rattle.oak_core.proofs.histories.Removals.{removal_within}
use Rattle.oak_core.proofs.lessons.Teaching.{taught_same}

-- a step that leaves the words of the rooms, and what passes have of rooms
module _ (z : Sizes) (m m' : Memory) (words : m'.rooms ≡ m.rooms) (bytes : m'.arena ≡ m.arena) (vs : List PassState) (keys : KeysStand z m vs) (histories : HistoriesStand (map knowledge_of vs)) (heard : HeardStands z m vs)
    (seat : ℕ) (v u : PassState) (here : get_elem? vs seat ≡ some v) (key : List ℕ) (n : ℕ) (rooms : u.rooms ≡ v.rooms) (pins : PinsKnow u)
    (seen : u.knowledge.seen ≡ (taught_by (of_key_to key n) (map knowledge_of vs) v.knowledge).seen) (is : u.knowledge.heard ≡ (taught_by (of_key_to key n) (map knowledge_of vs) v.knowledge).heard) where
  abbrev level : ℕ → ℕ
  level = level_of z m.rooms (content m.arena.bytes) (map rooms_held vs) (λ k. history k (map knowledge_of vs))

  abbrev vs' : List PassState
  vs' = set vs seat u

  hs_same : map rooms_held (set vs seat u) ≡ map rooms_held vs
  hs_same = map_set_same rooms_held vs seat v u here rooms

  all_rise : (k : ℕ) → StampsRise 0 (writes_of (history k (map knowledge_of vs)))
  all_rise k = (keys.legal k).legal.stamps

  covers_same : (F : _) → all_of z m'.rooms (content m'.arena.bytes) (map rooms_held (set vs seat u)) F ≡ all_of z m.rooms (content m.arena.bytes) (map rooms_held vs) F
  covers_same F = λ i. all_of z (words i) (content (bytes i).bytes) (hs_same i) F

  seen_only : (k : ℕ) → history k (map knowledge_of (set vs seat u)) ≡ history k (map knowledge_of vs)
  seen_only k = ap (history k) (map_set knowledge_of vs seat u) ∙ (same_seen k ∙ taught_same (reach_of (of_key_to key n)) (lesson_by (of_key_to key n) (map knowledge_of vs) ∷ []) (map knowledge_of vs) histories all_rise seat v.knowledge (at_map knowledge_of vs seat v here) k)
    where
      same_seen : (k : ℕ) → history k (set (map knowledge_of vs) seat u.knowledge) ≡ history k (set (map knowledge_of vs) seat (taught_by (of_key_to key n) (map knowledge_of vs) v.knowledge))
      same_seen k = ap longest (map_set (seen_of k) (map knowledge_of vs) seat u.knowledge ∙ (ap (λ (s : List KeyedWrite). set (map (seen_of k) (map knowledge_of vs)) seat s) (ap (λ (l : List (List KeyedWrite)). longest (map (of_key k) l)) seen)
          ∙ sym (map_set (seen_of k) (map knowledge_of vs) seat (taught_by (of_key_to key n) (map knowledge_of vs) v.knowledge))))

  pub key_heard : n ≤ level (key_number key) → HeardStands z m' vs'
  key_heard le = heard_load z m m' vs seat v u here heard (of_key_to key n) histories all_rise (λ k. covers_same (each (word_for k))) (λ k. let e = covers_same (base_for k) in omega arith) seen_only seen is (reach_one level key n le) (λ k. tt) pins

  abbrev k : ℕ
  k = key_number key

  -- of a floor
  pub floor_heard : word_of z m.rooms (content m.arena.bytes) (map rooms_held vs) (key_number key) ≡ n + 1 → names_header n ≡ 0 → HeardStands z m' vs'
  floor_heard w f = key_heard (let l = level-floor (base_of z m.rooms (content m.arena.bytes) (map rooms_held vs) (key_number key)) (stamp_behind (history (key_number key) (map knowledge_of vs))) (word_of z m.rooms (content m.arena.bytes) (map rooms_held vs) (key_number key)) n w f in omega arith)

  -- up to the last stamp, or one before it
  pub last_heard : n ≤ stamp_behind (history (key_number key) (map knowledge_of vs)) → HeardStands z m' vs'
  last_heard le = key_heard (let l = level-last z m.headers (shown_by m) (base_of z m.rooms (content m.arena.bytes) (map rooms_held vs) (key_number key)) (word_of z m.rooms (content m.arena.bytes) (map rooms_held vs) (key_number key)) (history (key_number key) (map knowledge_of vs)) (keys.states (key_number key)) in omega arith)

  -- of the stamp word of the header that the key's entry names, while it is live: under a good pin, or at a lock
  pub live_heard : (h : ℕ) → word_of z m.rooms (content m.arena.bytes) (map rooms_held vs) (key_number key) ≡ h + 1 → names_header h ≡ 1 → state_of (m.headers.pin (header_in h)) ≡ LIVE → n ≡ m.headers.stamp (header_in h) → HeardStands z m' vs'
  live_heard h w names live e = last_heard (let s = (((keys.states (key_number key)).named h w names).live live).1 in omega arith)

  -- of a removal: under a pin that found the header dead, or by a pin that finds the life over
  pub removed_heard : (home : ℕ) → IsRemovedAt home n (history (key_number key) (map knowledge_of vs)) → HeardStands z m' vs'
  removed_heard home x = last_heard (removal_within home n (history (key_number key) (map knowledge_of vs)) (all_rise (key_number key)) x)
