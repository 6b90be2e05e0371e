-- What the steps that pin a room and undo a pin leave.
use Rattle.std.proofs.Common.{◌≡◌, ℕ, ◌+◌, ◌-◌, ◌%◌, ◌^◌, ◌<◌, ◌≤◌, List, [], ◌∷◌, length, map, set, get_or, sym, refl, ap, ◌∙◌, subst, arith, Option, Some, None, get_or-set_same}
use Rattle.std.proofs.lemmas.List.{set-set, set_past}
use lib.Seq.{set-get_or}
use mathlib.Core.Logic.{dite}
use native.Mathlib.Decide.{dec_lt}
use Rattle.pin_word.specs.PinWord.{state_of, count_of}
use Rattle.oak_model.specs.Counts.{one_at}
use Rattle.oak_model.specs.Limits.{Sizes}
use Rattle.oak_model.proofs.Counting.{one_at-same, total_at}
use Rattle.oak_model.proofs.Lists.{at_map, rows_at, rows_length}
use Rattle.chunk_core.specs.declared.states.TheConstants.{OPEN, FROZEN, HELD}
use Rattle.chunk_core.specs.declared.layout.TheConstants.{BOUND_WORDS}
use Rattle.chunk_core.specs.declared.holds.Claim.{Claim}
use Rattle.chunk_core.specs.declared.holds.PinnedRoom.{PinnedRoom}
use Rattle.chunk_core.specs.declared.holds.RoomHolds.{RoomHolds}
use Rattle.chunk_core.specs.CoverSums.{weight}
use Rattle.chunk_core.specs.RoomHolds.{pins_of}
use Rattle.chunk_core.specs.RoomReads.{pinned_at}
use Rattle.chunk_core.specs.RoomRule.{room_pins, AreBounds, ClaimIsPinned, RoomHoldsStand}
use Rattle.chunk_core.specs.RoomStep.{RoomStep, pin_room, unpin_room, room_spot, room_effect}
use Rattle.chunk_core.specs.Rooms.{at_room_pin}
use Rattle.oak_core.specs.declared.states.PassState.{PassState}
use Rattle.oak_core.specs.AloneWords.{Runs}
use Rattle.oak_core.specs.CallSteps.{Stands}
use Rattle.oak_core.specs.Memory.{Memory, in_rooms, index, memory}
use Rattle.oak_core.specs.PassState.{rooms_held}
use Rattle.oak_core.specs.RoomCalls.{PinsRoomWord, UnpinsRoomWord}
use Rattle.oak_core.specs.Step.{on_rooms, MayOnRooms, Told}
use Rattle.oak_core.proofs.seats.AloneRuns.{DoesStep, moment_after, step_runs, runs_as}
use Rattle.oak_core.proofs.calls.QuietCalls.{quiet_unpin_room}
use Rattle.oak_core.proofs.memory.Words.{memory_read}
use Rattle.chunk_ops.specs.PinRecords.{PinIsOn, RoomPinned, with_room_pin}
use Rattle.chunk_ops.specs.RoomPins.{ChangesRoomPin, Unpins}

-- a pass without a pin has claimed nothing
no_claim : (o : Option Claim) → ClaimIsPinned None o → o ≡ None
no_claim None h = refl
no_claim (Some c) h = absurd h

-- an open room is a cover
open_weight : (w : ℕ) → state_of w ≡ OPEN → weight w ≡ 1
unfolding one_at
open_weight w e = ap (λ (s : ℕ). one_at s OPEN + one_at s FROZEN) e

-- one pin more, and one less, as the steps reckon them

pub more_fits : (n : ℕ) → n < 2 ^ 64 → state_of n ≤ 3 → (n + 1) % 2 ^ 64 ≡ n + 1
unfolding state_of
more_fits n lt low = omega arith

less_is : (n : ℕ) → n < 2 ^ 64 → 0 < count_of n → (n + (2 ^ 64 - 1)) % 2 ^ 64 ≡ n - 1
unfolding count_of
less_is n lt some_of = omega arith

-- a step on the pin word of a room
module _ (z : Sizes) (call r : ℕ) (x : RoomStep) (is : room_spot x ≡ at_room_pin r) (v : PassState) (n : ℕ) (w : PassState) (t : Told z call (on_rooms x) v n w) (inside : r < z.chunks) where
  abbrev m : Memory
  m = memory z t.table.words

  i : ℕ
  i = index z (in_rooms (at_room_pin r))

  pub number_is : get_or t.table.words (index z (in_rooms (at_room_pin r))) 0 ≡ n
  number_is = ap (λ q. get_or t.table.words (index z (in_rooms q)) 0) (sym is) ∙ t.finds

  pub pin_found : m.rooms.pin r ≡ n
  pin_found = memory_read z t.table.words (in_rooms (at_room_pin r)) (inside, omega arith) ∙ number_is

  pub small : n < 2 ^ 64
  small = subst (λ (k : ℕ). k < 2 ^ 64) number_is (t.rule.words.small (index z (in_rooms (at_room_pin r))))

  pub low_state : state_of n ≤ 3
  low_state = subst (λ (k : ℕ). state_of k ≤ HELD) pin_found (t.rule.rooms.states r)

  -- the number found has P, and becomes f of it
  pub changes_at : (P : ℕ → Type 0) (f : ℕ → ℕ) → P n → room_effect x n ≡ f n → (a b : List ℕ) → DoesStep z (on_rooms x) n a b → ChangesRoomPin z r P f a b
  changes_at P f p becomes a b d = let e = found_in d.0 in (subst P (sym e) p, d.1 ∙ ((λ j. set a (index z (in_rooms (is j))) (room_effect x (sym d.0 j))) ∙ ap (set a (index z (in_rooms (at_room_pin r)))) (becomes ∙ ap f (sym e))))
    where
      found_in : n ≡ get_or a (index z (in_rooms (room_spot x))) 0 → (memory z a).rooms.pin r ≡ n
      found_in e = memory_read z a (in_rooms (at_room_pin r)) (inside, omega arith) ∙ sym (subst (λ q. n ≡ get_or a (index z (in_rooms q)) 0) is e)

  -- to a pass that is alone
  pub word_changes : (P : ℕ → Type 0) (f : ℕ → ℕ) → P n → room_effect x n ≡ f n → Runs (ChangesRoomPin z r P f) v w
  word_changes P f p becomes = runs_as (DoesStep z (on_rooms x) n) (ChangesRoomPin z r P f) v w (λ a b d. changes_at P f p becomes a b d) (step_runs z call (on_rooms x) v n w tt t)

-- a pin that is undone leaves the words as they were
back : (a : List ℕ) (i n m : ℕ) → n ≡ get_or a i 0 → m ≡ get_or (set a i (n + 1)) i 0 → set (set a i (n + 1)) i (m - 1) ≡ a
back a i n m e f = set-set a i (n + 1) (m - 1) ∙ dite (dec_lt i (length a))
    (λ l. let s : get_or (set a i (n + 1)) i 0 ≡ n + 1 = get_or-set_same a i (n + 1) 0 l in let d : m - 1 ≡ n = omega arith in ap (set a i) (d ∙ e) ∙ set-get_or a i 0)
    (λ k. set_past a i (m - 1) (omega arith))

pub undone : (z : Sizes) (r : ℕ) → r < z.chunks → (a b d : List ℕ) (P Q : ℕ → Type 0) → ChangesRoomPin z r P (λ n. n + 1) a b → ChangesRoomPin z r Q (λ n. n - 1) b d → d ≡ a
undone z r lt a b d P Q up down = let k : ℕ = index z (in_rooms (at_room_pin r)) in let p : (memory z a).rooms.pin r ≡ get_or a k 0 = memory_read z a (in_rooms (at_room_pin r)) (lt, omega arith) in
    let q : (memory z b).rooms.pin r ≡ get_or b k 0 = memory_read z b (in_rooms (at_room_pin r)) (lt, omega arith) in
    down.1 ∙ ((λ i. set (up.1 i) k ((memory z b).rooms.pin r - 1))
    ∙ back a k ((memory z a).rooms.pin r) ((memory z b).rooms.pin r) p (q ∙ ap (λ (ws : List ℕ). get_or ws k 0) up.1))

-- ---- the pin of a room, by a pass that has none

module _ (z : Sizes) (call r n : ℕ) (v w : PassState) (t : PinsRoomWord z call r v n w) where
  there : r < z.chunks
  there = t.may.inside.0

  abbrev pub made : PinnedRoom
  made = pinned_at (memory z t.table.words).rooms r

  pub pin_stands : Stands call v w
  pin_stands = subst (Stands call v) (sym t.after) (record { met = record { more = _ ∷ []; met = refl; calls = (refl, tt) }; numbers = refl; knowledge = refl; fulls = refl; swept = refl; sights = refl; gones = refl; rebalances = refl })

  pub pin_blocks : w.blocks ≡ v.blocks
  pin_blocks = ap (λ (y : PassState). y.blocks) t.after

  pub pin_headers : w.headers ≡ v.headers
  pin_headers = ap (λ (y : PassState). y.headers) t.after

  pub pin_rooms : w.rooms ≡ with_room_pin (Some made) v.rooms
  pin_rooms = ap (λ (y : PassState). y.rooms) t.after

  bare : RoomHoldsStand z v.rooms
  bare = t.rule.rooms.passes t.seat v.rooms (at_map rooms_held t.table.states t.seat v t.here)

  pub pin_on : PinIsOn z r w.rooms
  pin_on = subst (PinIsOn z r) (sym pin_rooms) (record {
    inside = there;
    is = refl;
    room = refl;
    claim = no_claim v.rooms.claim (subst (λ (o : Option PinnedRoom). ClaimIsPinned o v.rooms.claim) t.may.rooms bare.claim);
  })

  pub pin_good : state_of n ≡ OPEN → RoomPinned z r w.rooms
  pin_good opened = subst (RoomPinned z r) (sym pin_rooms) (record {
    inside = there;
    pin = record { is = refl; room = refl; good = ap state_of (pin_found z call r (pin_room r) refl v n w t there) ∙ opened };
    bounds = record {
      fit = subst (λ (b : ℕ × ℕ). AreBounds b.0 b.1) (λ i. (sym (rows_at 0 BOUND_WORDS 0 ((memory z t.table.words).rooms.low r) 0 (omega arith)) i, sym (rows_at 0 BOUND_WORDS 0 ((memory z t.table.words).rooms.high r) 0 (omega arith)) i))
          (t.rule.rooms.ordered r (open_weight ((memory z t.table.words).rooms.pin r) (ap state_of (pin_found z call r (pin_room r) refl v n w t there) ∙ opened))).bounds;
      low = rows_length 0 BOUND_WORDS ((memory z t.table.words).rooms.low r);
      high = rows_length 0 BOUND_WORDS ((memory z t.table.words).rooms.high r);
    };
    few = t.rule.sizes.entries_greatest;
    found = tt;
    alike = λ e f has. absurd has;
  })

  pub pin_runs : (P : ℕ → Type 0) → P n → Runs (ChangesRoomPin z r P (λ k. k + 1)) v w
  pin_runs P p = word_changes z call r (pin_room r) refl v n w t there P (λ k. k + 1) p (more_fits n (small z call r (pin_room r) refl v n w t there) (low_state z call r (pin_room r) refl v n w t there))

-- ---- the end of a pin

pub pins_one : (z : Sizes) (r : ℕ) (a : RoomHolds) → PinIsOn z r a → room_pins r a ≡ 1
pins_one z r a p = ap (pins_of r) p.is ∙ one_at-same _ r p.room

pub may_unpin : (z : Sizes) (call r : ℕ) (v : PassState) → PinIsOn z r v.rooms → MayOnRooms z call (unpin_room r) v
may_unpin z call r v p = record { inside = (p.inside, omega arith); rooms = (pins_one z r v.rooms p, p.claim) }

module _ (z : Sizes) (call r n : ℕ) (v w : PassState) (t : UnpinsRoomWord z call r v n w) where
  counts : 0 < count_of n
  counts = let a = total_at (room_pins r) (map rooms_held t.table.states) t.seat v.rooms (at_map rooms_held t.table.states t.seat v t.here) in let c = t.rule.rooms.counted r in
      let one = t.may.rooms.0 in let e : count_of ((memory z t.table.words).rooms.pin r) ≡ count_of n = ap count_of (pin_found z call r (unpin_room r) refl v n w t t.may.inside.0) in omega arith

  pub unpins : Unpins z call r v w
  unpins = record {
    stands = subst (Stands call v) (sym t.after) (record { met = record { more = _ ∷ []; met = refl; calls = (refl, tt) }; numbers = refl; knowledge = refl; fulls = refl; swept = refl; sights = refl; gones = refl; rebalances = refl });
    quiet = quiet_unpin_room z call r v n w t;
    blocks = ap (λ (y : PassState). y.blocks) t.after;
    headers = ap (λ (y : PassState). y.headers) t.after;
    rooms = ap (λ (y : PassState). y.rooms) t.after;
    ended = (_, moment_after z call (on_rooms (unpin_room r)) v n w t);
    still = word_changes z call r (unpin_room r) refl v n w t t.may.inside.0 (λ k. 0 < count_of k) (λ k. k - 1) counts (less_is n (small z call r (unpin_room r) refl v n w t t.may.inside.0) counts);
  }

pub unpins_in : (z : Sizes) (first now r : ℕ) (v w : PassState) → now ≡ first → Unpins z now r v w → Unpins z first r v w
unpins_in z first now r v w e u = subst (λ (k : ℕ). Unpins z k r v w) e u
