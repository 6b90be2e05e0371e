-- The points on keys, behind a step that cuts the same ranges and entries otherwise, with bases not lower.
use Rattle.std.proofs.Common.{◌≡◌, ℕ, ◌+◌, ◌-◌, ◌≤◌, List, map, set, refl, sym, ap, subst, arith}
use mathlib.Core.Option.{some}
use lib.ListN.{get_elem?}
use Rattle.oak_model.specs.Counts.{total, Every}
use Rattle.oak_model.specs.Limits.{Sizes}
use Rattle.oak_model.proofs.Lists.{map_set_same}
use Rattle.arena_core.specs.Place.{content}
use Rattle.header_core.specs.declared.holds.HeaderHolds.{HeaderHolds}
use Rattle.chunk_core.specs.Covers.{Cover}
use Rattle.chunk_core.specs.CoverSums.{all_of}
use Rattle.chunk_core.specs.Rooms.{RoomMemory}
use Rattle.chunk_core.proofs.Ranges.{Parted, base_more, entries_still, names_still, word_still}
use Rattle.oak_core.specs.declared.states.Knowledge.{Knowledge}
use Rattle.oak_core.specs.declared.states.PassState.{PassState}
use Rattle.oak_core.specs.Bounds.{BasesBound, HasOpened, base_over, floor_in}
use Rattle.oak_core.specs.Callers.{made_by, removes}
use Rattle.oak_core.specs.KeyReads.{history_now, word_now, base_now}
use Rattle.oak_core.specs.KeyRule.{KeysStand, LoadedStand}
use Rattle.oak_core.specs.Memory.{Memory}
use Rattle.oak_core.specs.PassState.{headers_held, history, knowledge_of, rooms_held}
use Rattle.oak_core.proofs.histories.BoundWrites.{bases_kept}
use Rattle.oak_core.proofs.histories.CallersKept.{without_hand, callers_kept, made_kept, made_same}
use Rattle.oak_core.proofs.keyed.KeyBundles.{KeyBundles, opened_kept}
use Rattle.oak_core.proofs.keyed.KeyFrames.{keys_framed}
use Rattle.oak_core.proofs.lessons.LessonRanges.{heard_left, history_left}

-- A step of one seat, whose pass learns nothing, and has the room pin, the headers and the numbers that it had. The parts of the covers that go have no base above the number of all writes.
module _ (z : Sizes) (m : Memory) (rm : RoomMemory) (is_key_word : ℕ → ℕ) (vs : List PassState) (b : KeyBundles z m vs) (seat : ℕ) (v u : PassState) (here : get_elem? vs seat ≡ some v)
    (room : u.rooms.pin ≡ v.rooms.pin) (headers : u.headers ≡ v.headers) (knowledge : u.knowledge ≡ v.knowledge) (numbers : without_hand u.numbers ≡ without_hand v.numbers)
    (gone come : List Cover) (parted : Parted gone come)
    (step : (F : Cover → ℕ) → all_of z rm (content m.arena.bytes) (map rooms_held (set vs seat u)) F + total F gone ≡ all_of z m.rooms (content m.arena.bytes) (map rooms_held vs) F + total F come)
    (low : total (base_over (total made_by vs)) gone ≡ 0) where
  abbrev m' : Memory
  m' = record m { rooms = rm }

  abbrev vs' : List PassState
  vs' = set vs seat u

  abbrev bytes : ℕ → List ℕ
  bytes = content m.arena.bytes

  mine : u.knowledge.mine ≡ v.knowledge.mine
  mine = ap (λ (q : Knowledge). q.mine) knowledge

  knows_same : map knowledge_of vs' ≡ map knowledge_of vs
  knows_same = map_set_same knowledge_of vs seat v u here knowledge

  history_same : (k : ℕ) → history_now vs' k ≡ history_now vs k
  history_same = history_left z m m' vs seat v u here b.heard knowledge

  word_same : (k : ℕ) → word_now z m' vs' k ≡ word_now z m vs k
  word_same = word_still z m.rooms rm bytes is_key_word (map rooms_held vs) (map rooms_held vs') gone come parted step

  bases_rise : (k : ℕ) → base_now z m vs k ≤ base_now z m' vs' k
  bases_rise = base_more z m.rooms rm bytes is_key_word (map rooms_held vs) (map rooms_held vs') gone come parted step

  parted_keys : KeysStand z m' vs'
  parted_keys = keys_framed z m rm vs vs' b.keys (map_set_same headers_held vs seat v u here headers) history_same word_same bases_rise
      (names_still z m.rooms rm bytes is_key_word (map rooms_held vs) (map rooms_held vs') gone come parted step)
      (subst (λ (qs : List Knowledge). Every (LoadedStand (λ k. history k qs)) qs) (sym knows_same) b.keys.loaded)

  parted_bounds : BasesBound z m' vs'
  parted_bounds = let n : ℕ = total made_by vs in
      bases_kept z m m' vs vs' b.bounds (made_kept vs seat v u here numbers mine) history_same
      (let e = entries_still z m.rooms rm bytes is_key_word (map rooms_held vs) (map rooms_held vs') gone come parted step (λ x. floor_in x.value - n) in omega arith)
      (let s = step (base_over n) in let e = parted.bases (λ base. base - n) low in omega arith)

  parted_opened : HasOpened z m' vs'
  parted_opened = opened_kept z m m' vs vs' record { dead = λ h e. e; generations = λ h. refl } (λ none. let s = made_same vs seat v u here numbers mine removes in omega arith) b.opened

  -- the points on keys, on writers and on lessons stand
  pub parted_bundles : KeyBundles z (record m { rooms = rm }) (set vs seat u)
  parted_bundles = record {
    keys = parted_keys;
    callers = callers_kept vs seat v u here numbers mine b.callers history_same;
    bounds = parted_bounds;
    opened = parted_opened;
    heard = heard_left z m m' vs seat v u here b.heard knowledge room (ap (λ (a : HeaderHolds). a.pin) headers) word_same bases_rise;
  }
