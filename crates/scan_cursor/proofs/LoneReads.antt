-- To a pass that is alone: a life that an entry names is live, so that a read of its key is never in vain.
use Rattle.std.proofs.Common.{◌≡◌, ℕ, ◌+◌, ◌*◌, ◌<◌, false, List, map, refl, sym, ap, ◌∙◌, subst, arith}
use Rattle.pin_word.specs.PinWord.{count_of, generation_of, state_of}
use Rattle.oak_model.specs.Limits.{Sizes}
use Rattle.oak_model.specs.Counts.{one_at, total}
use Rattle.oak_model.proofs.Counting.{one_at-same, one_at-true}
use Rattle.arena_core.specs.Place.{content}
use Rattle.header_core.specs.declared.states.TheConstants.{LIVE}
use Rattle.header_core.specs.HeaderRule.{stocked}
use Rattle.chunk_core.specs.declared.states.TheConstants.{OPEN}
use Rattle.chunk_core.specs.Covers.{key_at}
use Rattle.chunk_core.specs.CoverSums.{naming, names, weight}
use Rattle.chunk_core.specs.LinkedEntries.{linked}
use Rattle.chunk_core.specs.Rooms.{RoomSpot, at_first, at_next, at_room_pin, at_value}
use Rattle.chunk_core.specs.ValueWord.{header_in}
use Rattle.chunk_core.proofs.CoverFacts.{entry_adds, entry_word}
use Rattle.chunk_core.proofs.RoomLinks.{linked_same}
use Rattle.oak_core.specs.declared.states.PassState.{PassState}
use Rattle.oak_core.specs.AloneWords.{Moment, Runs}
use Rattle.oak_core.specs.KeyReads.{history_now, shown_by, word_now}
use Rattle.oak_core.specs.KeyStates.{IsHome}
use Rattle.oak_core.specs.Memory.{Memory, in_rooms, memory, number_at, same_spot}
use Rattle.oak_core.specs.PassState.{HoldsNothing, rooms_held}
use Rattle.oak_core.proofs.seats.AloneRuns.{Then, runs_as, runs_then}
use Rattle.chunk_ops.specs.declared.entries.Content.TheVariants.{Value}
use Rattle.chunk_ops.specs.declared.entries.EntryNo.{EntryNo}
use Rattle.chunk_ops.specs.Contents.{Says}
use Rattle.chunk_ops.specs.AddsAlone.{Never}
use Rattle.chunk_ops.specs.RoomPins.{AddsRoomPin, DropsRoomPin}
use Rattle.chunk_ops.proofs.KeptKeys.{number_other}
use Rattle.chunk_ops.proofs.PinSteps.{undone}
use Rattle.value_ops.specs.AloneLocks.{pin_in}
use Rattle.value_ops.specs.Pinning.{IsLiveAt}
use Rattle.point_ops.specs.LoneLives.{EntrySays, RefusesLook}
use Rattle.lone_counts.specs.LoneTable.{LoneTable}
use Rattle.lone_counts.proofs.LoneHeaders.{still_at}
use Rattle.lone_counts.proofs.ValuedRooms.{open_weight}

-- a linked entry of an open room names a header, while the pass holds nothing
module _ (z : Sizes) (words : List ℕ) (v : PassState) (l : LoneTable z words v) (r i h g : ℕ) (inside : r < z.chunks) (opened : state_of ((memory z words).rooms.pin r) ≡ OPEN) (once : total (λ j. one_at j i) (linked (memory z words).rooms r) ≡ 1) (says : Says (Value h g) ((memory z words).rooms.value r i)) where
  abbrev m : Memory
  m = memory z words

  abbrev bytes : ℕ → List ℕ
  bytes = content m.arena.bytes

  abbrev k : ℕ
  k = key_at bytes (m.rooms.key r i)

  weighs : weight (m.rooms.pin r) ≡ 1
  weighs = open_weight z words v l r opened

  word : word_now z m l.moment.states k ≡ m.rooms.value r i + 1
  word = entry_word z m.rooms bytes (map rooms_held l.moment.states) l.moment.rule.covers.once r i k inside weighs once refl

  home : IsHome z m.headers (shown_by m) (m.rooms.value r i) (history_now l.moment.states k)
  home = (l.moment.rule.keys.states k).named (m.rooms.value r i) word says.0

  -- it is at the generation
  generation_is : generation_of (pin_in z h words) ≡ g
  generation_is = ap (λ (q : ℕ). generation_of (m.headers.pin q)) (sym says.1) ∙ (home.generation ∙ says.2)

  one_name : names h (m.rooms.value r i) ≡ 1
  one_name = λ j. says.0 j * one_at-same (header_in (m.rooms.value r i)) h says.1 j

  -- has a block
  has_block : 0 < stocked (state_of (pin_in z h words))
  has_block = let a = entry_adds z m.rooms bytes (map rooms_held l.moment.states) (naming h) r i inside weighs once in let o = one_name in let q = l.moment.rule.keys.named h in omega arith

  -- and is live
  pub entry_live : IsLiveAt g (pin_in z h words)
  entry_live = (generation_is, (let b = has_block in let s = still_at z words v l h in one_at-true (state_of (pin_in z h words)) LIVE (omega arith)))

-- A room was pinned from v to u, and in it an entry found that names the life, up to w; the room unpinned up to x, and the life looked at up to y: it is never found not live.
module _ (z : Sizes) (r h g : ℕ) (i : EntryNo) (key : List ℕ) (v u w x y : PassState) (inside : r < z.chunks) (idle : HoldsNothing x) where
  abbrev Rest : List ℕ → List ℕ → Type 0
  Rest = Then (DropsRoomPin z r) (RefusesLook z h g x)

  -- but for the room's pin word the words are those before the pin
  same : (a b : List ℕ) → AddsRoomPin z r a b → (p : RoomSpot) → same_spot (in_rooms p) (in_rooms (at_room_pin r)) ≡ false → number_at z b (in_rooms p) ≡ number_at z a (in_rooms p)
  same a b up p f = ap (λ (ws : List ℕ). number_at z ws (in_rooms p)) up.1 ∙ number_other z a (in_rooms (at_room_pin r)) ((memory z a).rooms.pin r + 1) (inside, omega arith) (in_rooms p) f

  no_look : (a d : List ℕ) → Then (AddsRoomPin z r) (Then (EntrySays i (Value h g) z r key) Rest) a d → ⊥
  no_look a d s =
      let b : List ℕ = s.0 in
      let up : AddsRoomPin z r a b = s.1 in
      let found = s.2.1 in
      let down : DropsRoomPin z r s.2.0 s.2.2.0 = s.2.2.1 in
      let look = s.2.2.2 in
      let back : s.2.2.0 ≡ a = undone z r inside a b s.2.2.0 (λ n. state_of n ≡ OPEN) (λ n. 0 < count_of n) up (subst (λ (ws : List ℕ). DropsRoomPin z r ws s.2.2.0) found.0.0 down) in
      let l : LoneTable z a x = record { moment = subst (λ (ws : List ℕ). Moment z ws x) back look.moment; alone = look.alone; idle = idle } in
      let links = linked_same (memory z a).rooms (memory z b).rooms r (same a b up (at_first r) refl) (λ t j. same a b up (at_next r j) refl t) in
      let once : total (λ j. one_at j i.0) (linked (memory z a).rooms r) ≡ 1 = subst (λ (is : List ℕ). total (λ j. one_at j i.0) is ≡ 1) links found.0.1.0 in
      let says : Says (Value h g) ((memory z a).rooms.value r i.0) = subst (Says (Value h g)) (same a b up (at_value r i.0) refl) found.1 in
      look.says (subst (λ (ws : List ℕ). IsLiveAt g (pin_in z h ws)) (sym back) (entry_live z a x l r i.0 h g inside up.0 once says))

  pub read_never : Runs (AddsRoomPin z r) v u → Runs (EntrySays i (Value h g) z r key) u w → Runs (DropsRoomPin z r) w x → Runs (RefusesLook z h g x) x y → Runs Never v y
  read_never up found down look = let Says' : List ℕ → List ℕ → Type 0 = EntrySays i (Value h g) z r key in
      runs_as (Then (AddsRoomPin z r) (Then Says' Rest)) Never v y no_look
      (runs_then (AddsRoomPin z r) (Then Says' Rest) v u y up (runs_then Says' Rest u w y found (runs_then (DropsRoomPin z r) (RefusesLook z h g x) w x y down look)))
