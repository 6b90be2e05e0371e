-- What a store of a pass to a word of a room that it holds leaves.
use Rattle.std.proofs.Common.{◌≡◌, ℕ, ◌<◌, ◌^◌, ◌==◌, ◌++◌, cond, Bool, List, [], ◌∷◌, map, sym, refl, ap, ◌∙◌, subst, arith, ne_eqb, eqb-true}
use Rattle.std.specs.Prelude.{not, filter}
use Rattle.std.proofs.lemmas.List.Elements.{filter-append}
use mathlib.Core.Logic.{dite}
use native.Mathlib.Decide.{ℕ_discrete}
use Rattle.oak_model.specs.Counts.{Each}
use Rattle.oak_model.specs.Limits.{Sizes}
use Rattle.oak_model.proofs.Counting.{test-cases, both_true}
use Rattle.chunk_core.specs.declared.states.TheConstants.{HELD}
use Rattle.chunk_core.specs.declared.holds.Carried.{Carried}
use Rattle.chunk_core.specs.declared.holds.HeldRoom.{HeldRoom}
use Rattle.chunk_core.specs.declared.holds.MovingRange.{MovingRange}
use Rattle.chunk_core.specs.declared.holds.RoomHeldAs.{RoomHeldAs}
use Rattle.chunk_core.specs.declared.holds.RoomHeldAs.TheVariants.{Frozen, Held}
use Rattle.chunk_core.specs.declared.holds.RoomHolds.{RoomHolds}
use Rattle.chunk_core.specs.MovingRanges.{is_dropped, range_without, ranges_with, word_dropped}
use Rattle.chunk_core.specs.RoomCopies.{copy_of, copy_with, held_with, rooms_with}
use Rattle.chunk_core.specs.RoomRule.{in_room_state, room_state}
use Rattle.chunk_core.specs.RoomStep.{put_room, store_room}
use Rattle.chunk_core.specs.Rooms.{RoomMemory, RoomSpot, room_at}
use Rattle.chunk_core.specs.ValueWord.{names_header}
use Rattle.chunk_core.proofs.HeldRooms.{room_rows}
use Rattle.chunk_core.proofs.StoredRooms.{rows_with, whole_with}
use Rattle.oak_core.specs.declared.states.PassState.{PassState}
use Rattle.oak_core.specs.AloneWords.{Runs}
use Rattle.oak_core.specs.Memory.{memory}
use Rattle.oak_core.specs.RoomCalls.{StoresRoom}
use Rattle.oak_core.specs.Step.{blocks_dropped, on_rooms, MayOnRooms, Told}
use Rattle.oak_core.proofs.seats.AloneRuns.{moment_after}
use Rattle.chunk_ops.specs.RoomPins.{HadMoment}
use Rattle.rebalance.specs.declared.held_rooms.RoomWord.{RoomWord}
use Rattle.rebalance.specs.declared.held_rooms.RoomWord.TheVariants.{Base, Count, First, Low, High, Key, Value, Next}
use Rattle.rebalance.specs.HeldRooms.{IsPlain, IsWithin, spot}
use Rattle.rebalance.specs.HeldTables.{AwayFromPins, HoldsAlone, HoldsRoom, IsHeldAs, IsHeldRow, RowsStay, WorksOnRooms, away_both, away_none, carried_in, is_valued, valued}
use Rattle.rebalance.specs.ListedRows.{rows_of}
use Rattle.rebalance.specs.LoneWords.{LeavesBut, held_by, no_room, runs_leave_both, runs_leave_more, runs_leave_none}
use Rattle.rebalance.specs.Mirrors.{held_memory}
use Rattle.rebalance.proofs.AwayFromPins.{away_one, is_room_word, room_word_away}
use Rattle.rebalance.proofs.HeldMemory.{word_inside}
use Rattle.rebalance.proofs.LoneStores.{store_runs}
use Rattle.rebalance.proofs.StoredMemory.{copy_stored, copy_else, memory_stored}
use Rattle.rebalance.specs.Resting.{Rests, rests_both, rests_none}

-- the entries with a value are carried still, whichever key word was taken away

valued_left : (word : ℕ) (cs : List Carried) → filter is_valued (filter (λ c. not (is_dropped word c)) cs) ≡ filter is_valued cs
valued_left word [] = refl
valued_left word (c ∷ cs) = test-cases (is_dropped word c) (λ t. filter is_valued (cond (not t) (c ∷ filter (λ y. not (is_dropped word y)) cs) (filter (λ y. not (is_dropped word y)) cs)) ≡ filter is_valued (c ∷ cs))
    (λ d. let bare = eqb-true (names_header c.value) 0 (both_true (c.word == word) (names_header c.value == 0) d).1 in valued_left word cs ∙ ap (λ (b : Bool). cond b (c ∷ filter is_valued cs) (filter is_valued cs)) (sym (ne_eqb (names_header c.value) 1 (λ e. absurd (omega arith)))))
    (λ _. ap (λ (xs : List Carried). cond (is_valued c) (c ∷ xs) xs) (valued_left word cs))

pub valued_still : (word : ℕ) (gs : List MovingRange) → valued (ranges_with word gs) ≡ valued gs
unfolding carried_in
valued_still word gs = test-cases (word == 0) (λ t. valued (cond t gs (map (range_without word) gs)) ≡ valued gs) (λ _. refl) (λ _. each gs)
  where
    each : (gs : List MovingRange) → valued (map (range_without word) gs) ≡ valued gs
    each [] = refl
    each (g ∷ gs) = filter-append is_valued (filter (λ c. not (is_dropped word c)) g.carried) (carried_in (map (range_without word) gs))
        ∙ ((λ i. valued_left word g.carried i ++ each gs i) ∙ sym (filter-append is_valued g.carried (carried_in gs)))

-- a store that takes no key word away
plain_drops : (m : RoomMemory) (r x : ℕ) (word : RoomWord) → IsPlain word x → word_dropped m (spot r word) x ≡ 0
plain_drops m r x Base p = refl
plain_drops m r x Count p = refl
plain_drops m r x First p = refl
plain_drops m r x (Low j) p = refl
plain_drops m r x (High j) p = refl
plain_drops m r x (Key i) p = ap (λ (b : Bool). cond b (m.key r i) 0) (ne_eqb x 0 (λ e. absurd (omega arith)))
plain_drops m r x (Value i) p = refl
plain_drops m r x (Next i) p = refl

spot_room : (r : ℕ) (word : RoomWord) → room_at (spot r word) ≡ r
spot_room r Base = refl
spot_room r Count = refl
spot_room r First = refl
spot_room r (Low j) = refl
spot_room r (High j) = refl
spot_room r (Key i) = refl
spot_room r (Value i) = refl
spot_room r (Next i) = refl

pub may_store : (z : Sizes) (call r x : ℕ) (word : RoomWord) (v : PassState) → HoldsAlone z r v → IsWithin z.entries word → x < 2 ^ 64 → MayOnRooms z call (store_room (spot r word) x) v
may_store z call r x word v h within small = record {
  inside = word_inside z r h.room.inside word within;
  rooms = (subst (λ (k : ℕ). in_room_state k HELD v.rooms ≡ 1) (sym (spot_room r word)) h.room.held, is_room_word r x word, small);
}

-- the rows are of the same rooms, held still

same_rooms : (p : RoomSpot) (x : ℕ) (hs : List HeldRoom) → map (λ (h : HeldRoom). h.room) (rooms_with p x hs) ≡ map (λ (h : HeldRoom). h.room) hs
same_rooms p x [] = refl
same_rooms p x (h ∷ hs) = ap (λ (rs : List ℕ). h.room ∷ rs) (same_rooms p x hs)

held_as_with : (z : Sizes) (p : RoomSpot) (x : ℕ) (s : RoomHeldAs) → IsHeldAs z s → IsHeldAs z (held_with p x s)
held_as_with z p x Frozen h = h
held_as_with z p x (Held w) h = whole_with z p x w h

each_held : (z : Sizes) (p : RoomSpot) (x : ℕ) (hs : List HeldRoom) → Each (IsHeldRow z) hs → Each (IsHeldRow z) (rooms_with p x hs)
each_held z p x [] e = tt
each_held z p x (h ∷ hs) e = (test-cases (h.room == room_at p) (λ t. IsHeldAs z (cond t (held_with p x h.held_as) h.held_as)) (λ _. held_as_with z p x h.held_as e.0) (λ _. e.0), each_held z p x hs e.1)

pub rows_stored : (z : Sizes) (p : RoomSpot) (x : ℕ) (hs : List HeldRoom) → RowsStay z hs (rooms_with p x hs)
rows_stored z p x hs = record { rooms = same_rooms p x hs; held = each_held z p x hs }

-- the pass has the same rooms, in the same states

state_stored : (p : RoomSpot) (x : ℕ) (s : RoomHeldAs) → room_state (held_with p x s) ≡ room_state s
state_stored p x Frozen = refl
state_stored p x (Held w) = refl

listed_stored : (p : RoomSpot) (x : ℕ) (hs : List HeldRoom) → rows_of (rooms_with p x hs) ≡ rows_of hs
listed_stored p x [] = refl
listed_stored p x (h ∷ hs) = let s : room_state (cond (h.room == room_at p) (held_with p x h.held_as) h.held_as) ≡ room_state h.held_as = test-cases (h.room == room_at p) (λ b. room_state (cond b (held_with p x h.held_as) h.held_as) ≡ room_state h.held_as) (λ _. state_stored p x h.held_as) (λ _. refl) in
    let t = listed_stored p x hs in λ i. (h.room, s i) ∷ t i

-- a store to a room that the pass holds
module _ (z : Sizes) (call : ℕ) (p : RoomSpot) (x n : ℕ) (v w : PassState) (t : Told z call (on_rooms (store_room p x)) v n w) where
  abbrev m : RoomMemory
  m = (memory z t.table.words).rooms

  pub stored_rooms : w.rooms ≡ record v.rooms { held = rooms_with p x v.rooms.held; moving = ranges_with (word_dropped (memory z t.table.words).rooms p x) v.rooms.moving }
  stored_rooms = ap (λ (y : PassState). y.rooms) t.after

  stored_stands : Rests call v w
  stored_stands = subst (Rests call v) (sym t.after) (record { met = record { more = _ ∷ []; met = refl; calls = (refl, tt) }; numbers = refl; knowledge = refl; fulls = refl; swept = refl; sights = refl; gones = refl; claims = refl })

  still_held : (a : RoomHolds) → a ≡ record v.rooms { held = rooms_with p x v.rooms.held; moving = ranges_with (word_dropped m p x) v.rooms.moving } → (r : ℕ) → HoldsRoom z r v.rooms → HoldsRoom z r a
  unfolding room_rows
  still_held a e r h = subst (HoldsRoom z r) (sym e) (dite (ℕ_discrete r (room_at p))
      (λ s. record {
        inside = h.inside;
        copy = copy_with p x h.copy;
        is = ap (λ (k : ℕ). copy_of k (rooms_with p x v.rooms.held)) s ∙ copy_stored p x h.copy v.rooms.held (ap (λ (k : ℕ). copy_of k v.rooms.held) (sym s) ∙ h.is);
        whole = whole_with z p x h.copy h.whole;
        held = rows_with p x r HELD v.rooms.held ∙ h.held;
      })
      (λ ne. record { inside = h.inside; copy = h.copy; is = copy_else p x r ne v.rooms.held ∙ h.is; whole = h.whole; held = rows_with p x r HELD v.rooms.held ∙ h.held }))

  stored_away : AwayFromPins z v w
  stored_away = away_one z v w _ (ap (λ (y : PassState). y.findings.met) t.after) (room_word_away z p x t.may.inside t.may.rooms.1)

  -- and what is done behind it that leaves the rooms
  pub stored_works : (u : PassState) → Rests call w u → u.blocks ≡ v.blocks → u.headers ≡ w.headers → u.rooms ≡ w.rooms → AwayFromPins z w u → HadMoment z u → Runs (LeavesBut z no_room no_room) w u → WorksOnRooms z call v u
  unfolding room_rows
  stored_works u stands blocks headers rooms away moment left = let e = rooms ∙ stored_rooms in record {
    stands = rests_both call v w u stored_stands stands;
    blocks = blocks;
    headers = headers ∙ ap (λ (y : PassState). y.headers) t.after;
    pin = ap (λ (a : RoomHolds). a.pin) e;
    claim = ap (λ (a : RoomHolds). a.claim) e;
    states = λ r s. ap (in_room_state r s) e ∙ rows_with p x r s v.rooms.held;
    listed = ap (λ (a : RoomHolds). rows_of a.held) e ∙ listed_stored p x v.rooms.held;
    copies = still_held u.rooms e;
    rows = subst (λ (a : RoomHolds). RowsStay z v.rooms.held a.held) (sym e) (rows_stored z p x v.rooms.held);
    away = away_both z v w u stored_away away;
    carried = ap (λ (a : RoomHolds). valued a.moving) e ∙ valued_still (word_dropped m p x) v.rooms.moving;
    moment = λ _. moment;
    words = runs_leave_both z no_room (held_by v) v w u (store_runs z call p x n v w t) (runs_leave_more z no_room no_room no_room (held_by v) w u (λ q m. m) (λ q m. absurd m) left);
  }

  pub stored_moment : HadMoment z w
  stored_moment = (_, moment_after z call (on_rooms (store_room p x)) v n w t)

-- a store to a word of the room
module _ (z : Sizes) (call r x : ℕ) (word : RoomWord) (v w : PassState) (h : HoldsAlone z r v) (within : IsWithin z.entries word) (t : StoresRoom z call (spot r word) x v w) where
  pub store_memory : held_memory w.rooms.held ≡ put_room (held_memory v.rooms.held) (spot r word) x
  store_memory = ap (λ (a : RoomHolds). held_memory a.held) (stored_rooms z call (spot r word) x t.0 v w t.1) ∙ memory_stored z r x h.room.copy v.rooms.held h.room.is h.room.whole word within

  module _ (plain : IsPlain word x) where
    none : word_dropped (memory z t.1.table.words).rooms (spot r word) x ≡ 0
    none = plain_drops (memory z t.1.table.words).rooms r x word plain

    pub store_ranges : w.rooms.moving ≡ v.rooms.moving
    store_ranges = ap (λ (a : RoomHolds). a.moving) (stored_rooms z call (spot r word) x t.0 v w t.1) ∙ ap (λ (k : ℕ). ranges_with k v.rooms.moving) none

    store_blocks : w.blocks ≡ v.blocks
    store_blocks = ap (λ (y : PassState). y.blocks) t.1.after ∙ ap (λ (k : ℕ). blocks_dropped k (memory z t.1.table.words) v.rooms v.blocks) none

    pub store_works : WorksOnRooms z call v w
    store_works = stored_works z call (spot r word) x t.0 v w t.1 w (rests_none call w) store_blocks refl refl (away_none z w) (stored_moment z call (spot r word) x t.0 v w t.1) (runs_leave_none z no_room no_room w)
