-- A pass unlinks the header that it buries from the entry that it found: by what the step asks of it, and the points before it, all points on keys, covers, lessons, callers and bounds stand behind it.
use Rattle.std.proofs.Common.{◌≡◌, ℕ, ◌/◌, ◌^◌, ◌<◌, ◌≤◌, true, List, [], ◌∷◌, map, set, sym, refl, ap, ◌∙◌, subst, inl, inr, arith}
use mathlib.Core.Option.{some}
use lib.ListN.{get_elem?}
use Rattle.pin_word.specs.PinWord.{state_of}
use Rattle.oak_model.specs.Counts.{one_at, total, Has, Each}
use Rattle.oak_model.specs.Kept.{AreTrueTo}
use Rattle.oak_model.specs.KeyNumber.{key_number}
use Rattle.oak_model.specs.Limits.{Sizes}
use Rattle.oak_model.proofs.Changes.{Change, stepped}
use Rattle.oak_model.proofs.Counting.{one_at-other}
use Rattle.oak_model.proofs.Lists.{at_map, map_set, map_set_same}
use Rattle.oak_model.proofs.MemberLaws.{each_has}
use Rattle.arena_core.specs.Place.{content, IsPlace}
use Rattle.header_core.specs.HeaderHolds.{kept_of_headers, held_state}
use Rattle.header_core.specs.Headers.{read_header}
use Rattle.header_core.specs.declared.holds.HeldHeader.{HeldHeader}
use Rattle.header_core.specs.declared.states.TheConstants.{DEAD}
use Rattle.header_core.proofs.HeaderFacts.{held_is}
use Rattle.header_core.proofs.HeldHeaders.{held_in, rows_have}
use Rattle.chunk_core.specs.CoverRule.{CoversPartition}
use Rattle.chunk_core.specs.CoverSums.{weight}
use Rattle.chunk_core.specs.Covers.{key_at}
use Rattle.chunk_core.specs.KeyWords.{key_in, key_bytes}
use Rattle.chunk_core.specs.LinkedEntries.{linked}
use Rattle.chunk_core.specs.RoomRule.{RoomsStand}
use Rattle.chunk_core.specs.RoomStep.{put_room}
use Rattle.chunk_core.specs.Rooms.{at_value}
use Rattle.chunk_core.specs.ValueWord.{names_header, header_in}
use Rattle.chunk_core.specs.declared.holds.RoomHolds.{RoomHolds}
use Rattle.chunk_core.proofs.ValueLaws.{word_before}
use Rattle.oak_core.specs.declared.states.Findings.{Findings}
use Rattle.oak_core.specs.declared.states.Knowledge.{Knowledge}
use Rattle.oak_core.specs.declared.states.PassState.{PassState}
use Rattle.oak_core.specs.Bounds.{BasesBound}
use Rattle.oak_core.specs.Callers.{CallersAgree, made_by}
use Rattle.oak_core.specs.EntryOwners.{is_key_word}
use Rattle.oak_core.specs.KeyHistories.{stamp_behind}
use Rattle.oak_core.specs.KeyReads.{word_now, history_now, home_of}
use Rattle.oak_core.specs.KeyRule.{KeysStand}
use Rattle.oak_core.specs.KeyStates.{HoldStands, IsBurialOf}
use Rattle.oak_core.specs.KeyedHeaders.{unlinked}
use Rattle.oak_core.specs.Known.{known}
use Rattle.oak_core.specs.Lessons.{HeardStands}
use Rattle.oak_core.specs.MayWrite.{MayUnlink}
use Rattle.oak_core.specs.Memory.{Memory}
use Rattle.oak_core.specs.Owners.{HeadersAreHeld}
use Rattle.oak_core.specs.PassState.{rooms_held, headers_held, knowledge_of, history}
use Rattle.oak_core.proofs.histories.BoundSteps.{bases_unlinked}
use Rattle.oak_core.proofs.histories.CallersKept.{callers_kept, made_kept}
use Rattle.oak_core.proofs.covers.FoundEntries.{entry_once, key_stands, room_covers, room_inside}
use Rattle.oak_core.proofs.held.HeldTruths.{held_names, held_only, held_stamp}
use Rattle.oak_core.proofs.memory.HomeWords.{NamesAt}
use Rattle.oak_core.proofs.histories.OverLives.{buried_row}
use Rattle.oak_core.proofs.histories.Removals.{removal_within}
use Rattle.oak_core.proofs.lessons.UnlinkLessons.{unlink_heard}
use Rattle.oak_core.proofs.held.UnlinkedHolds.{unlinked_fresh, unlinked_unnamed, unlinked_holds}
use Rattle.oak_core.proofs.covers.Unlinks as unlinks

-- a small number names no header
pub names_small : (v : ℕ) → v < 2 ^ 63 → names_header v ≡ 0
unfolding names_header
names_small v l = one_at-other (v / 2 ^ 63) 1 (λ e. absurd (omega arith))

-- what holds of each member holds of each
pub each_all : {A : Type 0} (P : A → Type 0) (xs : List A) → ((x : A) → Has x xs → P x) → Each P xs
each_all P [] h = tt
each_all P (x ∷ xs) h = (h x (inl refl), each_all P xs (λ y m. h y (inr m)))

module _ (z : Sizes) (m : Memory) (vs : List PassState) (rooms : RoomsStand z m.rooms (content m.arena.bytes) (map rooms_held vs)) (parts : CoversPartition z m.rooms (content m.arena.bytes) is_key_word (map rooms_held vs)) (keys : KeysStand z m vs) (callers : CallersAgree vs)
    (heads : HeadersAreHeld m.headers m.arena.bytes (known (map knowledge_of vs)) (map headers_held vs)) (heard : HeardStands z m vs) (bases : BasesBound z m vs) (few : total made_by vs < 2 ^ 39)
    (seat : ℕ) (v : PassState) (here : get_elem? vs seat ≡ some v) (r i x : ℕ) (may : MayUnlink r i x v) (lows : (t : HeldHeader) → Has t v.headers.held → t.header < 2 ^ 31) (small : (j : ℕ) → m.headers.pin j < 2 ^ 64) (numbers : AreTrueTo (read_header m.headers) (kept_of_headers v.headers.held)) (fs : Findings) where
  abbrev bytes : ℕ → List ℕ
  bytes = content m.arena.bytes

  abbrev qs : List Knowledge
  qs = map knowledge_of vs

  abbrev own : HeldHeader
  own = may.header

  abbrev key : List ℕ
  key = key_bytes may.entry.word may.entry.words

  -- the pass behind the step
  abbrev pub u : PassState
  u = record v { findings = fs; headers = record v.headers { held = unlinked (key_bytes may.entry.word may.entry.words) v.headers.held } }

  h_here : get_elem? (map headers_held vs) seat ≡ some v.headers
  h_here = at_map headers_held vs seat v here

  inside_there : r < z.chunks
  inside_there = room_inside z m vs rooms parts seat v here r i may.pinned may.entry may.finds

  cover : weight (m.rooms.pin r) ≡ 1
  cover = room_covers z m vs rooms parts seat v here r i may.pinned may.entry may.finds

  once : total (λ j. one_at j i) (linked m.rooms r) ≡ 1
  once = entry_once z m vs rooms parts seat v here r i may.pinned may.entry may.finds

  key_there_is : key_at bytes (m.rooms.key r i) ≡ key_number key
  key_there_is = sym (key_stands z m vs rooms parts seat v here r i may.pinned may.entry may.finds)

  own_key : key_number own.key ≡ key_number key
  unfolding key_in
  own_key = may.key

  named_of : (t : HeldHeader) → Has t v.headers.held → NamesAt t.header t.generation
  named_of t has = held_names m qs (map headers_held vs) heads seat v.headers h_here t has (lows t has) (small t.header)

  burial_of : (t : HeldHeader) → Has t v.headers.held → held_state t.held_as ≡ DEAD → IsBurialOf (word_now z m vs) (history_now vs) t
  burial_of t has dead = buried_row (word_now z m vs) (history_now vs) t.held_as t dead (each_has (λ (r : HeldHeader). HoldStands (word_now z m vs) (history_now vs) r.held_as r) v.headers.held t (keys.locks seat v.headers h_here) has)

  burial : IsBurialOf (word_now z m vs) (history_now vs) own
  burial = burial_of own may.held (ap held_state may.buried)

  -- no other buried header is named by the key's entry
  alone : Each (λ (t : HeldHeader). held_state t.held_as ≡ DEAD → t.named ≡ true → key_number t.key ≡ key_number key → t.header ≡ own.header) v.headers.held
  alone = each_all _ v.headers.held (λ t has dead flag same. let a = (burial_of t has dead).named flag in let b = burial.named may.named in let e = ap (word_now z m vs) (same ∙ sym own_key) in
      let home : home_of t.header t.generation ≡ home_of own.header own.generation = omega arith in sym (named_of t has).header ∙ (ap header_in home ∙ (named_of own may.held).header))

  stamp_is : m.headers.stamp own.header ≡ own.stamp
  stamp_is = held_stamp m qs (map headers_held vs) heads seat v.headers h_here own may.held numbers

  stamp_within : own.stamp ≤ stamp_behind (history_now vs (key_number own.key))
  stamp_within = removal_within (home_of own.header own.generation) own.stamp (history_now vs (key_number own.key)) (keys.legal (key_number own.key)).legal.stamps burial.removed

  low : names_header own.stamp ≡ 0
  low = names_small own.stamp (let a = stamp_within in let b = bases.stamps (key_number own.key) in omega arith)

  one : held_in own.header v.headers.held ≡ 1
  one = held_only m qs (map headers_held vs) heads seat v.headers h_here own may.held

  pub keys_unlinked : KeysStand z (record m { rooms = put_room m.rooms (at_value r i) may.header.stamp }) (set vs seat u)
  keys_unlinked = unlinks.unlink_keys z m is_key_word vs parts keys heads small seat v here fs r i inside_there cover once own may.held may.buried may.named (own_key ∙ sym key_there_is) (named_of own may.held) stamp_is low (unlinked key v.headers.held)
      (unlinked_fresh key own may.buried may.named own_key v.headers may.held one alone) (unlinked_unnamed key own may.buried may.named own_key v.headers may.held one alone) (unlinked_holds key own may.buried may.named own_key v.headers may.held one alone)

  pub covers_unlinked : CoversPartition z (put_room m.rooms (at_value r i) may.header.stamp) (content m.arena.bytes) is_key_word (map rooms_held (set vs seat u))
  covers_unlinked = unlinks.unlink_partition z m is_key_word vs parts keys heads small seat v here fs r i inside_there cover once own may.held may.buried may.named (own_key ∙ sym key_there_is) (named_of own may.held) stamp_is low (unlinked key v.headers.held)
      (unlinked_fresh key own may.buried may.named own_key v.headers may.held one alone) (unlinked_unnamed key own may.buried may.named own_key v.headers may.held one alone) (unlinked_holds key own may.buried may.named own_key v.headers may.held one alone)

  change : Change (map rooms_held vs) (map rooms_held (set vs seat u)) (v.rooms ∷ []) (v.rooms ∷ [])
  change = subst (λ (l : List RoomHolds). Change (map rooms_held vs) l (v.rooms ∷ []) (v.rooms ∷ [])) (sym (map_set rooms_held vs seat u)) (stepped (map rooms_held vs) seat v.rooms v.rooms (at_map rooms_held vs seat v here))

  same : (k : ℕ) → history_now (set vs seat u) k ≡ history_now vs k
  same k = ap (history k) (map_set_same knowledge_of vs seat v u here refl)

  value_is : m.rooms.value r i ≡ home_of own.header own.generation
  value_is = let w = word_before z m.rooms bytes is_key_word (map rooms_held vs) (map rooms_held (set vs seat u)) (v.rooms ∷ []) (v.rooms ∷ []) parts change (λ _. refl) r i own.stamp inside_there cover once in
      let b = burial.named may.named in let e = ap (word_now z m vs) (own_key ∙ sym key_there_is) in omega arith

  -- the header is dead, so the last stamp of the key is its own
  last_stamp : stamp_behind (history_now vs (key_number own.key)) ≡ own.stamp
  last_stamp = let n = named_of own may.held in let home = (keys.states (key_number own.key)).named (home_of own.header own.generation) (burial.named may.named) n.names in
      (home.dead (ap (λ (j : ℕ). state_of (m.headers.pin j)) n.header ∙ is_dead)).1 ∙ (ap m.headers.stamp n.header ∙ stamp_is)
    where
      is_dead : state_of (m.headers.pin own.header) ≡ DEAD
      is_dead = held_is m.headers bytes IsPlace (known qs) (map headers_held vs) heads seat v.headers own.header DEAD h_here (omega arith) (omega arith) (rows_have own.header DEAD v.headers.held own may.held refl (ap held_state may.buried))

  pub heard_unlinked : HeardStands z (record m { rooms = put_room m.rooms (at_value r i) may.header.stamp }) (set vs seat u)
  heard_unlinked = unlink_heard z m is_key_word vs parts heard seat v u here change (λ _. refl) refl refl refl r i own.stamp inside_there cover once (ap names_header value_is ∙ (named_of own may.held).names) low
      (let e = key_there_is ∙ sym own_key in subst (λ (k : ℕ). stamp_behind (history_now vs k) ≤ own.stamp) (sym e) (let l = last_stamp in omega arith))

  pub callers_unlinked : CallersAgree (set vs seat u)
  callers_unlinked = callers_kept vs seat v u here refl refl callers same

  pub bounds_unlinked : BasesBound z (record m { rooms = put_room m.rooms (at_value r i) may.header.stamp }) (set vs seat u)
  bounds_unlinked = bases_unlinked z m is_key_word vs (set vs seat u) parts bases (v.rooms ∷ []) (v.rooms ∷ []) change (λ _. refl) r inside_there cover i own.stamp once low (let a = stamp_within in let b = bases.stamps (key_number own.key) in omega arith) (made_kept vs seat v u here refl refl) same
