-- No base falls by any event.
use Rattle.std.proofs.Common.{◌≡◌, ◌≢◌, ℕ, ◌≤◌, false, List, [], ◌∷◌, ◌++◌, map, get_or, set, refl, sym, ap, subst, arith}
use Rattle.std.proofs.lemmas.List.{set-get_or}
use mathlib.Core.Option.{some}
use lib.ListN.{get_elem?}
use Rattle.oak_model.specs.Counts.{total}
use Rattle.oak_model.specs.Limits.{Sizes}
use Rattle.oak_model.proofs.Changes.{change_parts, divided, joined}
use Rattle.oak_model.proofs.Lists.{at_map, map_set}
use Rattle.arena_core.specs.Place.{content}
use Rattle.chunk_core.specs.declared.holds.RoomHolds.{RoomHolds}
use Rattle.chunk_core.specs.Covers.{cover_at}
use Rattle.chunk_core.specs.CoverSums.{base_for, base_of}
use Rattle.chunk_core.specs.RoomHolds.{no_rooms}
use Rattle.chunk_core.specs.RoomsAfter.{rooms_after}
use Rattle.chunk_core.specs.RoomStep.{RoomStep, pin_room, unpin_room, claim_entry, own_entry, link_entry, set_value, unlink_entry, freeze_room, thaw_room, hold_room, claim_room, store_room, open_room, retire_room, put_room, room_effect, room_spot}
use Rattle.chunk_core.specs.Rooms.{IsInRooms}
use Rattle.chunk_core.proofs.CoverLaws.{all_still, covers_still, moves}
use Rattle.oak_core.specs.declared.states.PassState.{PassState}
use Rattle.oak_core.specs.KeyReads.{base_now}
use Rattle.oak_core.specs.Loading.{rooms_by_load}
use Rattle.oak_core.specs.Memory.{Memory, Spot, IsInside, at_given, in_rooms, index, memory, write}
use Rattle.oak_core.specs.PassState.{both_state, left_state, right_state, rooms_held, spent_state}
use Rattle.oak_core.specs.Rebalancing.{BasesRise}
use Rattle.oak_core.specs.Rule.{Rule}
use Rattle.oak_core.specs.Schedule.{Event, Goes, joins, splits, steps}
use Rattle.oak_core.specs.Step.{Step, load, give_number, on_arena, on_headers, on_rooms, store_locked, note_full, May, MayOnRooms, effect, found, spot, state_after, table_after}
use Rattle.oak_core.specs.TableState.{TableState}
use Rattle.oak_core.proofs.kinds.KeepsArena.{arena_inside}
use Rattle.oak_core.proofs.kinds.KeepsLocked.{inside_it}
use Rattle.oak_core.proofs.told.PlainLoads.{plain_or_taught, plain_teaches, rooms_linked}
use Rattle.oak_core.proofs.covers.RoomBases.{room_rises}
use Rattle.oak_core.proofs.memory.Words.{memory_read, memory_set}

-- a load leaves the moving ranges of its pass
moving_by_load : (m : Memory) (v : PassState) (p : Spot) → (rooms_by_load p m v).moving ≡ v.rooms.moving
moving_by_load m v = plain_or_taught (λ p. (rooms_by_load p m v).moving ≡ v.rooms.moving) (λ p plain. ap (λ (a : RoomHolds). a.moving) (plain_teaches 0 m [] v p plain).rooms) (λ k. refl) (λ k from. ap (λ (a : RoomHolds). a.moving) (rooms_linked m v k from)) (λ k i. refl) (λ h. refl)

-- no base is lower at t than at s
abbrev AllRise : Sizes → TableState → TableState → Type 0
AllRise z s t = (k : ℕ) → base_now z (memory z s.words) s.states k ≤ base_now z (memory z t.words) t.states k

module _ (z : Sizes) (s : TableState) (seat : ℕ) (v : PassState) (r : Rule z s) (here : get_elem? s.states seat ≡ some v) where
  abbrev m : Memory
  m = memory z s.words

  abbrev bytes : ℕ → List ℕ
  bytes = content m.arena.bytes

  abbrev hs : List RoomHolds
  hs = map rooms_held s.states

  own : get_elem? hs seat ≡ some v.rooms
  own = at_map rooms_held s.states seat v here

  -- the words of the rooms stay, and the moving ranges
  idle : (content' : ℕ → List ℕ) (a : RoomHolds) → a.moving ≡ v.rooms.moving → (k : ℕ) → base_of z m.rooms bytes hs k ≤ base_of z m.rooms content' (set hs seat a) k
  idle content' a moving k = let e = all_still z m.rooms m.rooms bytes content' hs seat v.rooms a own moving (base_for k) (λ j _. refl) in omega arith

  -- a word becomes what it is
  unwritten : (p : Spot) (w : PassState) → w.rooms.moving ≡ v.rooms.moving → AllRise z s (record { words = set s.words (index z p) (get_or s.words (index z p) 0); states = set s.states seat w })
  unwritten p w moving k = subst (λ (t : List ℕ × List RoomHolds). base_of z m.rooms bytes hs k ≤ base_of z (memory z t.0).rooms (content (memory z t.0).arena.bytes) t.1 k)
      (λ i. (sym (set-get_or s.words (index z p) 0) i, sym (map_set rooms_held s.states seat w) i)) (idle bytes w.rooms moving k)

  -- a word of the table becomes another
  written : (p : Spot) (y : ℕ) (w : PassState) → IsInside z p → ((k : ℕ) → base_of z m.rooms bytes hs k ≤ base_of z (write m p y).rooms (content (write m p y).arena.bytes) (set hs seat w.rooms) k) → AllRise z s (record { words = set s.words (index z p) y; states = set s.states seat w })
  written p y w inside rise k = subst (λ (t : Memory × List RoomHolds). base_of z m.rooms bytes hs k ≤ base_of z t.0.rooms (content t.0.arena.bytes) t.1 k)
      (λ i. (sym (memory_set z s.words p y r.words.counted inside) i, sym (map_set rooms_held s.states seat w) i)) (rise k)

  module _ (call : ℕ) (going : v.numbers.spent ≡ false) where
    pub room_inside : (x : RoomStep) → MayOnRooms z call x v → IsInRooms z (room_spot x)
    room_inside (pin_room j) may = may.inside
    room_inside (unpin_room j) may = may.inside
    room_inside (claim_entry j old) may = may.inside
    room_inside (own_entry f j i x) may = may.inside
    room_inside (link_entry j from i old) may = may.inside
    room_inside (set_value j i old new kind) may = may.inside
    room_inside (unlink_entry j i x) may = may.inside
    room_inside (freeze_room j old) may = may.inside
    room_inside (thaw_room j) may = may.inside
    room_inside (hold_room j old) may = may.inside
    room_inside (claim_room j old) may = may.inside
    room_inside (store_room p x) may = may.inside
    room_inside (open_room j) may = may.inside
    room_inside (retire_room j) may = may.inside

    on_room : (x : RoomStep) → MayOnRooms z call x v → AllRise z s (table_after z call (on_rooms x) seat v s)
    on_room x may = written (in_rooms (room_spot x)) (room_effect x (found z (on_rooms x) s)) (state_after z call (on_rooms x) s v) (room_inside x may)
        (subst (λ (n : ℕ). (k : ℕ) → base_of z m.rooms bytes hs k ≤ base_of z (put_room m.rooms (room_spot x) (room_effect x n)) bytes (set hs seat (rooms_after z m.rooms bytes x v.rooms)) k)
        (memory_read z s.words (in_rooms (room_spot x)) (room_inside x may)) (room_rises z s seat v r here call going x may))

    -- no base falls by a step
    step_rises : (x : Step) → May z call x v → AllRise z s (table_after z call x seat v s)
    step_rises (load p) may = unwritten p (state_after z call (load p) s v) (moving_by_load m v p)
    step_rises (give_number n) may = let x : Step = give_number n in written (spot x) (effect x (found z x s)) (state_after z call x s v) tt (idle bytes v.rooms refl)
    step_rises (on_arena a) may = let x : Step = on_arena a in written (spot x) (effect x (found z x s)) (state_after z call x s v) (arena_inside z a v.blocks may) (idle (content (write m (spot x) (effect x (found z x s))).arena.bytes) v.rooms refl)
    step_rises (on_headers h) may = let x : Step = on_headers h in written (spot x) (effect x (found z x s)) (state_after z call x s v) may.0.inside (idle bytes v.rooms refl)
    step_rises (on_rooms x) may = on_room x may
    step_rises (store_locked h c b i n) may = let x : Step = store_locked h c b i n in written (spot x) n (state_after z call x s v) (inside_it z s seat v r here h c b may.block call going i n may) (idle (content (write m (spot x) n).arena.bytes) v.rooms refl)
    step_rises (note_full lack began) may = unwritten at_given (state_after z call (note_full lack began) s v) refl

-- a split leaves each base
split_rises : (z : Sizes) (s : TableState) (seat : ℕ) (v : PassState) → get_elem? s.states seat ≡ some v → AllRise z s (record { words = s.words; states = set s.states seat (left_state v) ++ right_state v ∷ [] })
unfolding total
split_rises z s seat v here k = let m : Memory = memory z s.words in
    let e = covers_still z.chunks m.rooms.pin (cover_at m.rooms (content m.arena.bytes)) (map rooms_held s.states) (map rooms_held (set s.states seat (left_state v) ++ right_state v ∷ [])) (v.rooms ∷ []) (v.rooms ∷ no_rooms ∷ [])
    (change_parts rooms_held (divided s.states seat v (left_state v) (right_state v) here)) (base_for k) in omega arith

-- and a join does, since the pass that is joined has nothing of rooms
join_rises : (z : Sizes) (s : TableState) (seat other : ℕ) (v w : PassState) (here : get_elem? s.states seat ≡ some v) (there : get_elem? s.states other ≡ some w) (apart : other ≢ seat) → w.rooms ≡ no_rooms
    → AllRise z s (record { words = s.words; states = set (set s.states seat (both_state v w)) other spent_state })
unfolding total
join_rises z s seat other v w here there apart none k = let m : Memory = memory z s.words in
    let e = covers_still z.chunks m.rooms.pin (cover_at m.rooms (content m.arena.bytes)) (map rooms_held s.states) (map rooms_held (set (set s.states seat (both_state v w)) other spent_state)) (v.rooms ∷ w.rooms ∷ []) (v.rooms ∷ no_rooms ∷ [])
    (change_parts rooms_held (joined s.states seat other v w (both_state v w) spent_state here there apart)) (base_for k) in
    let n = ap (moves (base_for k)) none in omega arith

all_rise : (z : Sizes) (s t : TableState) → Rule z s → (e : Event) → Goes z e s t → AllRise z s t
all_rise z s t r (steps seat call x) g = subst (AllRise z s) (sym g.after) (step_rises z s seat g.state r g.here call g.going x g.may)
all_rise z s t r (splits seat) g = subst (AllRise z s) (sym g.after) (split_rises z s seat g.state g.here)
all_rise z s t r (joins seat other) g = subst (AllRise z s) (sym g.after) (join_rises z s seat other g.state g.taken g.here g.there g.apart g.may.idle.rooms)

-- so that of a key without an entry does not
pub bases_rise : (z : Sizes) (s t : TableState) → Rule z s → (e : Event) → Goes z e s t → BasesRise z s t
bases_rise z s t r e g k none = all_rise z s t r e g k
