-- A pass sets its fresh header as the value of an entry that it found: by what the step asks of it, and the points before it, all points on keys, covers, headers, histories, lessons, callers and bounds stand behind it.
use Rattle.std.proofs.Common.{◌≡◌, ◌≢◌, ℕ, ◌+◌, ◌^◌, ◌<◌, ◌≤◌, cond, Bool, false, List, [], ◌∷◌, ◌++◌, map, set, sym, refl, ap, ◌∙◌, subst, inl, inr, arith, Some, eq-eqb, ne_eqb}
use Rattle.std.proofs.lemmas.Option.{none-some, same_Some}
use mathlib.Core.Logic.{dite}
use mathlib.Core.Option.{some}
use native.Mathlib.Decide.{ℕ_discrete}
use lib.ListN.{get_elem?}
use Rattle.pin_word.specs.PinWord.{state_of}
use Rattle.oak_model.specs.Counts.{one_at, total, Has, Every}
use Rattle.oak_model.specs.Kept.{AreTrueTo}
use Rattle.oak_model.specs.KeyNumber.{key_number}
use Rattle.oak_model.specs.Limits.{Sizes}
use Rattle.oak_model.specs.declared.writes.Kind.{Kind}
use Rattle.oak_model.proofs.Changes.{Change, stepped}
use Rattle.oak_model.proofs.Counting.{total_at}
use Rattle.oak_model.proofs.Lists.{at_map, map_set}
use Rattle.arena_core.specs.Arena.{read_arena}
use Rattle.arena_core.specs.HeldBlocks.{kept_of_blocks}
use Rattle.arena_core.specs.Place.{IsPlace, content}
use Rattle.header_core.specs.HeaderHolds.{kept_of_headers, in_state, held_state, without_header}
use Rattle.header_core.specs.HeaderRule.{HeadersStand, stocked}
use Rattle.header_core.specs.Headers.{read_header}
use Rattle.header_core.specs.declared.holds.HeaderHolds.{HeaderHolds}
use Rattle.header_core.specs.declared.holds.HeldHeader.{HeldHeader}
use Rattle.header_core.specs.declared.states.TheConstants.{LIVE}
use Rattle.header_core.proofs.HeaderFacts.{fresh_is}
use Rattle.header_core.proofs.HeldHeaders.{rows_have}
use Rattle.header_core.proofs.StockedStates.{stocked_le}
use Rattle.chunk_core.specs.CoverRule.{CoversPartition}
use Rattle.chunk_core.specs.CoverSums.{weight}
use Rattle.chunk_core.specs.Covers.{key_at}
use Rattle.chunk_core.specs.KeyWords.{key_bytes}
use Rattle.chunk_core.specs.LinkedEntries.{linked}
use Rattle.chunk_core.specs.RoomRule.{RoomsStand}
use Rattle.chunk_core.specs.RoomStep.{put_room}
use Rattle.chunk_core.specs.Rooms.{at_value}
use Rattle.chunk_core.specs.ValueWord.{header_in}
use Rattle.chunk_core.specs.declared.holds.RoomHolds.{RoomHolds}
use Rattle.oak_core.specs.declared.states.Findings.{Findings}
use Rattle.oak_core.specs.declared.states.KeyedWrite.{KeyedWrite}
use Rattle.oak_core.specs.declared.states.Knowledge.{Knowledge}
use Rattle.oak_core.specs.declared.states.PassState.{PassState}
use Rattle.oak_core.specs.Bounds.{BasesBound}
use Rattle.oak_core.specs.Callers.{CallersAgree, made_by, made_of, begins, removes}
use Rattle.oak_core.specs.EntryOwners.{is_key_word}
use Rattle.oak_core.specs.KeyHistories.{IsKeyOf}
use Rattle.oak_core.specs.KeyReads.{value_in, word_now, history_now, shown_by, home_of}
use Rattle.oak_core.specs.KeyRule.{KeysStand}
use Rattle.oak_core.specs.Known.{known}
use Rattle.oak_core.specs.Learning.{wrote}
use Rattle.oak_core.specs.Lessons.{HeardStands}
use Rattle.oak_core.specs.MadeWrites.{held_header, insertion}
use Rattle.oak_core.specs.MayWrite.{MaySet}
use Rattle.oak_core.specs.Memory.{Memory}
use Rattle.oak_core.specs.Owners.{HeadersAreHeld, HeadersAreWhole, header_blocks}
use Rattle.oak_core.specs.PassState.{rooted, numbers_of, rooms_held, headers_held, knowledge_of, history}
use Rattle.oak_core.specs.Rule.{HistoriesStand, SpentIsSpent}
use Rattle.oak_core.proofs.histories.BoundSteps.{bases_set}
use Rattle.oak_core.proofs.histories.BoundWrites.{floor_le}
use Rattle.oak_core.proofs.histories.CallerWrites.{callers_wrote, made_all, made_one}
use Rattle.oak_core.proofs.covers.FoundEntries.{entry_once, key_of_number, key_stands, room_covers, room_inside}
use Rattle.oak_core.proofs.held.HeldTruths.{held_generation, held_names, held_place, held_stamp, held_content}
use Rattle.oak_core.proofs.memory.HomeWords.{NamesAt}
use Rattle.oak_core.proofs.histories.NewLives.{none_begun}
use Rattle.oak_core.proofs.histories.WrittenHistories.{wrote_here, wrote_others}
use Rattle.oak_core.proofs.lessons.WrittenLessons.{set_heard}
use Rattle.oak_core.proofs.covers.SetValue as sets
use Rattle.oak_core.proofs.histories.KnownWrites as knows

-- the record that is looked up
pub held_row : (h : ℕ) (rs : List HeldHeader) (r : HeldHeader) → held_header h rs ≡ Some r → Has r rs × (r.header ≡ h)
unfolding held_header
held_row h [] r e = absurd (none-some r e)
held_row h (x ∷ xs) r e = dite (ℕ_discrete x.header h)
    (λ y. let s = same_Some x r (sym (ap (λ (t : Bool). cond t (Some x) (held_header h xs)) (eq-eqb x.header h y)) ∙ e) in (inl (sym s), ap (λ (t : HeldHeader). t.header) (sym s) ∙ y))
    (λ n. let t = held_row h xs r (sym (ap (λ (b : Bool). cond b (Some x) (held_header h xs)) (ne_eqb x.header h n)) ∙ e) in (inr t.0, t.1))

module _ (z : Sizes) (m : Memory) (vs : List PassState) (rooms : RoomsStand z m.rooms (content m.arena.bytes) (map rooms_held vs)) (parts : CoversPartition z m.rooms (content m.arena.bytes) is_key_word (map rooms_held vs)) (keys : KeysStand z m vs) (callers : CallersAgree vs) (histories : HistoriesStand (map knowledge_of vs))
    (heads : HeadersAreHeld m.headers m.arena.bytes (known (map knowledge_of vs)) (map headers_held vs)) (heard : HeardStands z m vs) (bases : BasesBound z m vs) (roots : (i : ℕ) → total (rooted i) (map numbers_of vs) ≤ 1) (spent : Every SpentIsSpent vs)
    (seat : ℕ) (v : PassState) (here : get_elem? vs seat ≡ some v) (going : v.numbers.spent ≡ false) (call r i old new : ℕ) (kind : Kind) (may : MaySet call r i old new kind v) (found : m.rooms.value r i ≡ old) (small : old < 2 ^ 64)
    (inside : may.header.header < z.headers) (low : may.header.header < 2 ^ 31) (word_small : m.headers.pin may.header.header < 2 ^ 64) (numbers : AreTrueTo (read_header m.headers) (kept_of_headers v.headers.held)) (blocks : AreTrueTo (read_arena m.arena) (kept_of_blocks (header_blocks v.headers.held))) (whole : HeadersAreWhole v.headers) (fs : Findings) where
  abbrev bytes : ℕ → List ℕ
  bytes = content m.arena.bytes

  abbrev qs : List Knowledge
  qs = map knowledge_of vs

  abbrev own : HeldHeader
  own = may.header

  abbrev key : List ℕ
  key = key_bytes may.entry.word may.entry.words

  abbrev w : KeyedWrite
  w = insertion v.numbers.number call kind (key_bytes may.entry.word may.entry.words) may.header

  abbrev k : ℕ
  k = key_at (content m.arena.bytes) (m.rooms.key r i)

  -- the pass behind the step
  abbrev pub u : PassState
  u = record v { findings = fs; knowledge = wrote (key_at (content m.arena.bytes) (m.rooms.key r i)) (insertion v.numbers.number call kind (key_bytes may.entry.word may.entry.words) may.header) (map knowledge_of vs) v.knowledge; headers = record v.headers { held = without_header may.header.header v.headers.held } }

  abbrev vs' : List PassState
  vs' = set vs seat u

  h_here : get_elem? (map headers_held vs) seat ≡ some v.headers
  h_here = at_map headers_held vs seat v here

  q_here : get_elem? qs seat ≡ some v.knowledge
  q_here = at_map knowledge_of vs seat v here

  has : Has own v.headers.held
  has = (held_row (header_in new) v.headers.held own may.held).0

  -- the entry
  inside_there : r < z.chunks
  inside_there = room_inside z m vs rooms parts seat v here r i may.pinned may.entry may.finds

  cover : weight (m.rooms.pin r) ≡ 1
  cover = room_covers z m vs rooms parts seat v here r i may.pinned may.entry may.finds

  once : total (λ j. one_at j i) (linked m.rooms r) ≡ 1
  once = entry_once z m vs rooms parts seat v here r i may.pinned may.entry may.finds

  key_is : key_number key ≡ k
  key_is = key_stands z m vs rooms parts seat v here r i may.pinned may.entry may.finds

  is_key : IsKeyOf k key
  is_key = key_of_number z m vs rooms parts seat v here r i may.pinned may.entry may.finds

  -- the header
  live : state_of (m.headers.pin own.header) ≡ LIVE
  live = fresh_is m.headers bytes IsPlace (known qs) (map headers_held vs) heads seat v.headers own.header h_here (rows_have own.header LIVE v.headers.held own has refl (ap held_state may.fresh))

  named_at : NamesAt own.header own.generation
  named_at = held_names m qs (map headers_held vs) heads seat v.headers h_here own has low word_small

  after : Some (value_in own.place own.words) ≡ shown_by m own.header
  unfolding one_at
  after = let place = held_place m qs (map headers_held vs) heads seat v.headers h_here own has numbers in let words = held_content m qs (map headers_held vs) heads seat v.headers h_here own has numbers (live ∙ sym (ap held_state may.fresh)) (subst (λ (s : ℕ). 0 < stocked s) (sym (ap held_state may.fresh)) some_block) whole blocks in
      sym (ap (λ (t : ℕ). Some (value_in t (content m.arena.bytes t))) place ∙ ap (λ (t : List ℕ). Some (value_in own.place t)) words)
    where
      some_block : 0 < stocked LIVE
      some_block = omega arith

  stamp_is : m.headers.stamp own.header ≡ own.stamp
  stamp_is = held_stamp m qs (map headers_held vs) heads seat v.headers h_here own has numbers

  pub keys_set : KeysStand z (record m { rooms = put_room m.rooms (at_value r i) (home_of may.header.header may.header.generation) }) (set vs seat u)
  keys_set = sets.set_keys z m is_key_word vs parts keys histories heads seat v here fs r i old inside_there cover once found may.floor small own has may.fresh inside named_at may.next stamp_is w refl refl refl after key_is is_key may.writes

  pub covers_set : CoversPartition z (put_room m.rooms (at_value r i) (home_of may.header.header may.header.generation)) (content m.arena.bytes) is_key_word (map rooms_held (set vs seat u))
  covers_set = sets.set_partition z m is_key_word vs parts keys histories heads seat v here fs r i old inside_there cover once found may.floor small own has may.fresh inside named_at may.next stamp_is w refl refl refl after key_is is_key may.writes

  pub histories_set : HistoriesStand (map knowledge_of (set vs seat u))
  histories_set = sets.set_histories z m is_key_word vs parts keys histories heads seat v here fs r i old inside_there cover once found may.floor small own has may.fresh inside named_at may.next stamp_is w refl refl refl after key_is is_key may.writes

  pub heard_set : HeardStands z (record m { rooms = put_room m.rooms (at_value r i) (home_of may.header.header may.header.generation) }) (set vs seat u)
  heard_set = set_heard z m is_key_word vs parts keys histories heads seat v here fs r i old inside_there cover once found may.floor small own has may.fresh inside named_at may.next stamp_is w refl refl refl after key_is is_key may.writes heard

  pub heads_set : HeadersAreHeld m.headers m.arena.bytes (known (map knowledge_of (set vs seat u))) (map headers_held (set vs seat u))
  heads_set = subst (λ (t : List Knowledge × List HeaderHolds). HeadersStand m.headers bytes IsPlace (known t.0) t.1) (λ j. (sym (map_set knowledge_of vs seat u) j, sym (map_set headers_held vs seat u) j))
      (knows.set_heads m.headers bytes qs (map headers_held vs) heads seat v.knowledge q_here v.headers h_here k w own has may.fresh named_at refl)

  -- no write began the life
  begun_by_none : total (made_of (begins (home_of own.header own.generation))) vs ≡ 0
  begun_by_none = none_begun vs callers (λ j t at e. ap (λ (x : PassState). x.knowledge.mine) (spent j t at e)) own.header own.generation named_at unknown
    where
      unknown : known qs own.header own.generation ≡ 0
      unknown = let g = held_generation m qs (map headers_held vs) heads seat v.headers h_here own has in let s = heads.settled own.header in let l = stocked_le (state_of (m.headers.pin own.header)) in
          let f = total_at (in_state own.header LIVE) (map headers_held vs) seat v.headers h_here in let r = rows_have own.header LIVE v.headers.held own has refl (ap held_state may.fresh) in let e = ap (known qs own.header) g in omega arith

  pub callers_set : CallersAgree (set vs seat u)
  callers_set = callers_wrote vs callers histories roots seat v here going k w key_is u refl refl refl may.new_call.1 may.new_call.0 (λ _ _. begun_by_none)

  pub made_set : total made_by (set vs seat u) ≡ total made_by vs + 1
  made_set = made_one vs callers histories roots seat v here going k w key_is u refl refl refl may.new_call.1 may.new_call.0 (λ _ _. begun_by_none)

  -- which removes nothing
  pub removed_set : total (made_of removes) (set vs seat u) ≡ total (made_of removes) vs
  removed_set = let a = made_all vs callers histories roots seat v here going k w key_is u refl refl refl may.new_call.1 may.new_call.0 (λ _ _. begun_by_none) removes in omega arith

  hist_here : history_now (set vs seat u) k ≡ history_now vs k ++ w ∷ []
  hist_here = ap (history k) (map_set knowledge_of vs seat u) ∙ wrote_here qs histories seat v.knowledge q_here k w key_is

  hist_else : (j : ℕ) → j ≢ k → history_now (set vs seat u) j ≡ history_now vs j
  hist_else j ne = ap (history j) (map_set knowledge_of vs seat u) ∙ wrote_others qs histories seat v.knowledge q_here k w key_is j ne

  change : Change (map rooms_held vs) (map rooms_held (set vs seat u)) (v.rooms ∷ []) (v.rooms ∷ [])
  change = subst (λ (l : List RoomHolds). Change (map rooms_held vs) l (v.rooms ∷ []) (v.rooms ∷ [])) (sym (map_set rooms_held vs seat u)) (stepped (map rooms_held vs) seat v.rooms v.rooms (at_map rooms_held vs seat v here))

  pub bounds_set : BasesBound z (record m { rooms = put_room m.rooms (at_value r i) (home_of may.header.header may.header.generation) }) (set vs seat u)
  bounds_set = bases_set z m is_key_word vs (set vs seat u) parts bases (v.rooms ∷ []) (v.rooms ∷ []) change (λ _. refl) r inside_there cover i (home_of own.header own.generation) once named_at.names made_set k w hist_here hist_else
      (let l = floor_le z m is_key_word vs parts bases k old was may.floor in let n = may.next in omega arith)
    where
      was : word_now z m vs k ≡ old + 1
      was = sets.was z m is_key_word vs parts keys histories heads seat v here fs r i old inside_there cover once found may.floor small own has may.fresh inside named_at may.next stamp_is w refl refl refl after key_is is_key may.writes
