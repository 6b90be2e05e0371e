-- A room comes to be held only by a step that finds it without a pin.
use Rattle.std.proofs.Common.{◌≡◌, ◌≢◌, ℕ, ◌*◌, ◌≤◌, ◌⊎◌, ◌==◌, cond, List, [], ◌∷◌, sym, refl, ap, ◌∙◌, subst, inl, inr, ⊎_elim, arith}
use mathlib.Core.Logic.{dite}
use native.Mathlib.Decide.{ℕ_discrete}
use Rattle.pin_word.specs.PinWord.{state_of, count_of}
use Rattle.oak_model.specs.Counts.{one_at, total}
use Rattle.oak_model.specs.Limits.{Sizes}
use Rattle.oak_model.proofs.Changes.{divided, joined}
use Rattle.oak_model.proofs.Counting.{decided, one_at-other, one_at-same, total_map, total_set}
use Rattle.arena_core.specs.Place.{content}
use Rattle.chunk_core.specs.declared.holds.HeldRoom.{HeldRoom}
use Rattle.chunk_core.specs.declared.holds.RoomHeldAs.TheVariants.{Frozen, Held}
use Rattle.chunk_core.specs.declared.holds.RoomHolds.{RoomHolds}
use Rattle.chunk_core.specs.declared.states.TheConstants.{FROZEN, HELD}
use Rattle.chunk_core.specs.RoomCopies.{without_room}
use Rattle.chunk_core.specs.RoomReads.{copy_at}
use Rattle.chunk_core.specs.RoomRule.{in_room_state}
use Rattle.chunk_core.specs.RoomsAfter.{rooms_after}
use Rattle.chunk_core.specs.RoomStep.{RoomStep, pin_room, unpin_room, claim_entry, own_entry, link_entry, set_value, unlink_entry, freeze_room, thaw_room, hold_room, claim_room, store_room, open_room, retire_room}
use Rattle.chunk_core.proofs.HeldRooms.{room_rows, row_else, without_else, without_here}
use Rattle.chunk_core.proofs.StoredRooms.{rows_with}
use Rattle.oak_core.specs.declared.states.PassState.{PassState}
use Rattle.oak_core.specs.Loading.{rooms_by_load}
use Rattle.oak_core.specs.Memory.{Memory, Spot, memory}
use Rattle.oak_core.specs.PassState.{both_state, left_state, right_state, rooms_held, spent_state}
use Rattle.oak_core.specs.Rebalancing.{HoldsNoPin}
use Rattle.oak_core.specs.Rule.{Rule}
use Rattle.oak_core.specs.Schedule.{Event, Goes, joins, splits, steps}
use Rattle.oak_core.specs.Step.{Step, load, give_number, on_arena, on_headers, on_rooms, store_locked, note_full, May, MayOnRooms, state_after}
use Rattle.oak_core.specs.TableState.{TableState}
use Rattle.oak_core.proofs.kinds.EachEvent.{event_keeps}
use Rattle.oak_core.proofs.told.PlainLoads.{plain_or_taught, plain_teaches, rooms_linked}

-- a load leaves the rooms that its pass holds
held_by_load : (m : Memory) (v : PassState) (p : Spot) → (rooms_by_load p m v).held ≡ v.rooms.held
held_by_load m v = plain_or_taught (λ p. (rooms_by_load p m v).held ≡ v.rooms.held) (λ p plain. ap (λ (a : RoomHolds). a.held) (plain_teaches 0 m [] v p plain).rooms) (λ k. refl) (λ k from. ap (λ (a : RoomHolds). a.held) (rooms_linked m v k from)) (λ k i. refl) (λ h. refl)

-- the rooms that a pass holds, before and after it lost one, or froze one

fewer : (k r : ℕ) (hs : List HeldRoom) → room_rows r HELD (without_room k hs) ≤ room_rows r HELD hs
fewer k r hs = dite (ℕ_discrete r k) (λ e. let n = subst (λ (j : ℕ). room_rows j HELD (without_room k hs) ≡ 0) (sym e) (without_here k HELD hs) in omega arith)
    (λ ne. let n = without_else k r HELD hs ne in omega arith)

frozen_more : (k r : ℕ) (hs : List HeldRoom) → room_rows r HELD (record { room = k; held_as = Frozen } ∷ hs) ≡ room_rows r HELD hs
unfolding room_rows total
frozen_more k r hs = let e = ap (λ (n : ℕ). one_at k r * n) (one_at-other FROZEN HELD (λ q. absurd (omega arith))) in omega arith

module _ (z : Sizes) (s : TableState) (v : PassState) (r : ℕ) where
  abbrev m : Memory
  m = memory z s.words

  -- the rooms have the room held no more often than the pass had, or it had no pin
  abbrev NoMore : List HeldRoom → Type 0
  NoMore hs = (room_rows r HELD hs ≤ room_rows r HELD v.rooms.held) ⊎ (count_of ((memory z s.words).rooms.pin r) ≡ 0)

  still : (hs : List HeldRoom) → hs ≡ v.rooms.held → NoMore hs
  still hs e = let q = ap (room_rows r HELD) e in inl (omega arith)

  -- the room k is taken, where its word is a number without a pin
  taken : (k old : ℕ) → count_of old ≡ 0 → (hs : List HeldRoom) → (r ≢ k → room_rows r HELD hs ≡ room_rows r HELD v.rooms.held) → NoMore (cond (m.rooms.pin k == old) hs v.rooms.held)
  taken k old none hs other = decided (m.rooms.pin k) old (λ t. NoMore (cond t hs v.rooms.held))
      (λ e. dite (ℕ_discrete r k) (λ i. inr (ap (λ (j : ℕ). count_of (m.rooms.pin j)) i ∙ (ap count_of e ∙ none))) (λ ne. let q = other ne in inl (omega arith)))
      (λ _. still v.rooms.held refl)

  -- so it is behind a step on a room
  room_more : (call : ℕ) (x : RoomStep) → MayOnRooms z call x v → NoMore (rooms_after z m.rooms (content m.arena.bytes) x v.rooms).held
  room_more call (pin_room k) may = still v.rooms.held refl
  room_more call (unpin_room k) may = still v.rooms.held refl
  room_more call (claim_entry k old) may = still v.rooms.held refl
  room_more call (own_entry f k i x) may = still v.rooms.held refl
  room_more call (link_entry k from i old) may = still v.rooms.held refl
  room_more call (set_value k i old new kind) may = still v.rooms.held refl
  room_more call (unlink_entry k i x) may = still v.rooms.held refl
  room_more call (freeze_room k old) may = decided (m.rooms.pin k) old (λ t. NoMore (cond t (record { room = k; held_as = Frozen } ∷ v.rooms.held) v.rooms.held)) (λ _. let e = frozen_more k r v.rooms.held in inl (omega arith)) (λ _. still v.rooms.held refl)
  room_more call (thaw_room k) may = inl (fewer k r v.rooms.held)
  room_more call (hold_room k old) may = taken k old may.rooms.0.count (record { room = k; held_as = Held (copy_at z m.rooms k) } ∷ without_room k v.rooms.held)
      (λ ne. row_else k r HELD (record { room = k; held_as = Held (copy_at z m.rooms k) }) (without_room k v.rooms.held) refl ne ∙ without_else k r HELD v.rooms.held ne)
  room_more call (claim_room k old) may = taken k old may.rooms.count (record { room = k; held_as = Held (copy_at z m.rooms k) } ∷ v.rooms.held) (λ ne. row_else k r HELD (record { room = k; held_as = Held (copy_at z m.rooms k) }) v.rooms.held refl ne)
  room_more call (store_room p x) may = let e = rows_with p x r HELD v.rooms.held in inl (omega arith)
  room_more call (open_room k) may = inl (fewer k r v.rooms.held)
  room_more call (retire_room k) may = inl (fewer k r v.rooms.held)

  -- and behind any other step
  step_more : (call : ℕ) (x : Step) → May z call x v → NoMore (state_after z call x s v).rooms.held
  step_more call (load p) may = still (rooms_by_load p m v).held (held_by_load m v p)
  step_more call (give_number k) may = still v.rooms.held refl
  step_more call (on_arena a) may = still v.rooms.held refl
  step_more call (on_headers x) may = still v.rooms.held refl
  step_more call (on_rooms x) may = room_more call x may
  step_more call (store_locked h c b k x) may = still v.rooms.held refl
  step_more call (note_full lack began) may = still v.rooms.held refl

-- how often the pass has the room held
abbrev holds : ℕ → PassState → ℕ
holds r v = room_rows r HELD v.rooms.held

-- no event makes a room held more often, unless it had no pin
event_more : (z : Sizes) (s t : TableState) (r : ℕ) (e : Event) → Goes z e s t → (total (holds r) t.states ≤ total (holds r) s.states) ⊎ (count_of ((memory z s.words).rooms.pin r) ≡ 0)
unfolding total room_rows
event_more z s t r (steps seat call x) g = let w : PassState = state_after z call x s g.state in let q = total_set (holds r) s.states seat g.state w g.here in let a = ap (λ (u : TableState). total (holds r) u.states) g.after in
    ⊎_elim (λ (l : room_rows r HELD w.rooms.held ≤ room_rows r HELD g.state.rooms.held). inl (omega arith)) (λ (c : count_of ((memory z s.words).rooms.pin r) ≡ 0). inr c) (step_more z s g.state r call x g.may)
event_more z s t r (splits seat) g = let q = (divided s.states seat g.state (left_state g.state) (right_state g.state) g.here).sums (holds r) in let a = ap (λ (u : TableState). total (holds r) u.states) g.after in inl (omega arith)
event_more z s t r (joins seat other) g = let q = (joined s.states seat other g.state g.taken (both_state g.state g.taken) spent_state g.here g.there g.apart).sums (holds r) in let a = ap (λ (u : TableState). total (holds r) u.states) g.after in inl (omega arith)

-- a room that comes to be held had no pin
pub held_alone : (z : Sizes) (s t : TableState) → Rule z s → (e : Event) → Goes z e s t → HoldsNoPin z s t
unfolding room_rows
held_alone z s t rule e g r was is = let before = rule.rooms.held r HELD (inr refl) in let after = (event_keeps z e s t g rule).rooms.held r HELD (inr refl) in
    let a = total_map rooms_held (in_room_state r HELD) s.states in let b = total_map rooms_held (in_room_state r HELD) t.states in
    let none = one_at-other (state_of ((memory z s.words).rooms.pin r)) HELD was in let one = one_at-same (state_of ((memory z t.words).rooms.pin r)) HELD is in
    ⊎_elim (λ (l : total (holds r) t.states ≤ total (holds r) s.states). absurd (omega arith)) (λ (c : count_of ((memory z s.words).rooms.pin r) ≡ 0). c) (event_more z s t r e g)
