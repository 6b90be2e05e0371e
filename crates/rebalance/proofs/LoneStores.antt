-- What the steps of a pass that is alone leave of the words of the headers and of the rooms: a store to a word of a room, a bit that is cleared, and a load.
use Rattle.std.proofs.Common.{◌≡◌, ◌≢◌, ℕ, cond, List, length, get_or, set, sym, refl, ap, ◌∙◌, subst, arith}
use Rattle.pin_word.specs.PinWord.{state_of}
use Rattle.oak_model.specs.Counts.{rows}
use Rattle.oak_model.specs.declared.classes.Class.{Class}
use Rattle.oak_model.specs.Limits.{Sizes}
use Rattle.arena_core.specs.Arena.{ArenaSpot, IsInArena}
use Rattle.arena_core.specs.ArenaStep.{arena_effect, arena_spot, clear_bit}
use Rattle.chunk_core.specs.declared.layout.TheConstants.{BOUND_WORDS}
use Rattle.chunk_core.specs.MayOnRooms.{IsRoomWord}
use Rattle.chunk_core.specs.RoomReads.{copy_at}
use Rattle.chunk_core.specs.RoomStep.{put_room, store_room}
use Rattle.chunk_core.specs.Rooms.{RoomMemory, RoomSpot, IsInRooms, at_base, at_count, at_latch, at_first, at_low, at_high, at_key, at_value, at_next, read_room, room_at, same_room_spot}
use Rattle.chunk_core.proofs.RoomStores.{read_else}
use Rattle.chunk_core.proofs.RoomWords.{read_room-of}
use Rattle.chunk_core.proofs.StoredRooms.{pin_still}
use Rattle.oak_core.specs.declared.states.PassState.{PassState}
use Rattle.oak_core.specs.AloneWords.{Runs}
use Rattle.oak_core.specs.Memory.{Memory, in_arena, in_rooms, index, memory, word_count}
use Rattle.oak_core.specs.Splitting.{Loads}
use Rattle.oak_core.specs.Step.{on_arena, on_rooms, Told}
use Rattle.oak_core.proofs.seats.AloneRuns.{loads_run, runs_as}
use Rattle.oak_core.proofs.kinds.KeepsArena.{arena_inside}
use Rattle.oak_core.proofs.memory.Words.{memory_set}
use Rattle.chunk_ops.specs.PinRecords.{WordsStay}
use Rattle.rebalance.specs.LoneWords.{LeavesBut, held_by, no_room}
use Rattle.rebalance.proofs.LoneSteps.{StepAt, step_at}

-- ---- a room in two memories

-- where each of its words is what it was, so is the copy
pub copy_by : (z : Sizes) (m m' : RoomMemory) (q : ℕ) → ((s : RoomSpot) → room_at s ≡ q → read_room m' s ≡ read_room m s) → copy_at z m' q ≡ copy_at z m q
copy_by z m m' q h = λ j. record {
  base = h (at_base q) refl j;
  count = h (at_count q) refl j;
  latch = h (at_latch q) refl j;
  first = h (at_first q) refl j;
  low = rows 0 BOUND_WORDS (λ i. h (at_low q i) refl j);
  high = rows 0 BOUND_WORDS (λ i. h (at_high q i) refl j);
  entries = rows 0 z.entries (λ i. record { word = h (at_key q i) refl j; value = h (at_value q i) refl j; next = h (at_next q i) refl j });
}

-- a store to a word of another room leaves it
pub copy_apart : (z : Sizes) (m : RoomMemory) (p : RoomSpot) (x q : ℕ) → q ≢ room_at p → copy_at z (put_room m p x) q ≡ copy_at z m q
copy_apart z m p x q ne = copy_by z m (put_room m p x) q (λ s e. read_room-of (λ t. cond (same_room_spot t p) x (read_room m t)) s ∙ read_else m p x s (λ f. ne (sym e ∙ f)))

-- ---- one word of the table

-- a word of a room but its pin word leaves the headers, the states of all rooms, and the words of each other one
pub store_leaves : (z : Sizes) (p : RoomSpot) (x : ℕ) (M S : ℕ → Type 0) → IsInRooms z p → IsRoomWord p x → S (room_at p) → (a : List ℕ) → length a ≡ word_count z → LeavesBut z M S a (set a (index z (in_rooms p)) x)
store_leaves z p x M S inside is stored a wide = let e = memory_set z a (in_rooms p) x wide inside in record {
  headers = ap (λ (m : Memory). m.headers) e;
  states = λ q n. ap (λ (m : Memory). state_of (m.rooms.pin q)) e ∙ ap state_of (pin_still (memory z a).rooms p x is q);
  words = λ q n. ap (λ (m : Memory). copy_at z m.rooms q) e ∙ copy_apart z (memory z a).rooms p x q (λ f. n (subst S (sym f) stored));
}

-- a word of the arena leaves all of them
pub arena_leaves : (z : Sizes) (p : ArenaSpot) (x : ℕ) (M S : ℕ → Type 0) → IsInArena z p → (a : List ℕ) → length a ≡ word_count z → LeavesBut z M S a (set a (index z (in_arena p)) x)
arena_leaves z p x M S inside a wide = let e = memory_set z a (in_arena p) x wide inside in record {
  headers = ap (λ (m : Memory). m.headers) e;
  states = λ q n. ap (λ (m : Memory). state_of (m.rooms.pin q)) e;
  words = λ q n. ap (λ (m : Memory). copy_at z m.rooms q) e;
}

-- ---- what a pass that is alone leaves

-- a store to a word of a room that it holds
pub store_runs : (z : Sizes) (call : ℕ) (p : RoomSpot) (x n : ℕ) (v w : PassState) → Told z call (on_rooms (store_room p x)) v n w → Runs (LeavesBut z no_room (held_by v)) v w
store_runs z call p x n v w t = let held = t.may.rooms.0 in
    runs_as (StepAt z call (on_rooms (store_room p x)) v n w t) (LeavesBut z no_room (held_by v)) v w
    (λ a b s. subst (LeavesBut z no_room (held_by v) a) (sym s.is) (store_leaves z p x no_room (held_by v) t.may.inside t.may.rooms.1 (omega arith) a (ap length s.was ∙ t.rule.words.counted)))
    (step_at z call (on_rooms (store_room p x)) v n w tt t)

-- a bit that is cleared
pub clear_runs : (z : Sizes) (call : ℕ) (c : Class) (b n : ℕ) (v w : PassState) → Told z call (on_arena (clear_bit c b)) v n w → (M S : ℕ → Type 0) → Runs (LeavesBut z M S) v w
clear_runs z call c b n v w t M S = let x = clear_bit c b in
    runs_as (StepAt z call (on_arena (clear_bit c b)) v n w t) (LeavesBut z M S) v w
    (λ a k s. subst (LeavesBut z M S a) (sym s.is) (arena_leaves z (arena_spot x) (arena_effect x n) M S (arena_inside z x v.blocks t.may) a (ap length s.was ∙ t.rule.words.counted)))
    (step_at z call (on_arena (clear_bit c b)) v n w tt t)

-- a load
pub load_stays : (z : Sizes) (call word : ℕ) (v : PassState) (n : ℕ) (w : PassState) → Loads z call word v n w → Runs WordsStay v w
load_stays z call word v n w l = runs_as (λ a b. (n ≡ get_or a word 0) × (b ≡ a)) WordsStay v w (λ a b d. d.1) (loads_run z call word v n w l)
