-- What the parts of a rebalance do to the table's words, where their pass is alone.
use Rattle.std.specs.Prelude.{◌≡◌, ◌≢◌, ℕ, ◌<◌, ◌≤◌, ◌⊎◌, List, refl}
use Rattle.std.proofs.Common.{sym, ◌∙◌, subst}
use Rattle.pin_word.specs.PinWord.{state_of}
use Rattle.oak_model.specs.Limits.{Sizes}
use Rattle.chunk_core.specs.declared.holds.RoomCopy.{RoomCopy}
use Rattle.chunk_core.specs.declared.states.TheConstants.{FREE, OPEN, FROZEN, HELD}
use Rattle.chunk_core.specs.CoverSums.{keyless}
use Rattle.chunk_core.specs.PinnedRooms.{span_of}
use Rattle.chunk_core.specs.RoomReads.{copy_at}
use Rattle.chunk_core.specs.RoomRule.{in_room_state}
use Rattle.chunk_core.specs.Spans.{within}
use Rattle.oak_core.specs.declared.states.PassState.{PassState}
use Rattle.oak_core.specs.AloneWords.{Runs}
use Rattle.oak_core.specs.Memory.{memory}
use Rattle.oak_core.proofs.seats.AloneRuns.{Then, runs_as, runs_none, runs_then}
use Rattle.chunk_ops.specs.LoneRooms.{HasNoRoom}
use Rattle.chunk_ops.specs.PinRecords.{WordsStay, room_pin}
use Rattle.rebalance.specs.Copies.{copy_span}

-- ---- rooms in words of the table

-- the words of the room but its pin word
abbrev pub room_in : Sizes → List ℕ → ℕ → RoomCopy
room_in z words r = copy_at z (memory z words).rooms r

-- its state
abbrev pub state_in : Sizes → List ℕ → ℕ → ℕ
state_in z words r = state_of ((memory z words).rooms.pin r)

-- the table has the room, which is open
pub record IsOpen (z : Sizes) (words : List ℕ) (r : ℕ) : Type 0 where
  pub inside : r < z.chunks
  pub state : state_in z words r ≡ OPEN

-- Each room is free or open, and the open ones divide the keys among them.
pub record Divides (z : Sizes) (words : List ℕ) : Type 0 where
  pub states : (r : ℕ) → r < z.chunks → (state_in z words r ≡ FREE) ⊎ (state_in z words r ≡ OPEN)
  -- each number is in the range of an open room
  pub covered : (k : ℕ) → (r : ℕ) × IsOpen z words r × (within (copy_span (room_in z words r)) k ≡ 1)
  -- and of no two
  pub once : (k r s : ℕ) → IsOpen z words r → IsOpen z words s → within (copy_span (room_in z words r)) k ≡ 1 → within (copy_span (room_in z words s)) k ≡ 1 → r ≡ s
  -- each range has its low bound
  pub begun : (r : ℕ) → IsOpen z words r → within (copy_span (room_in z words r)) (copy_span (room_in z words r)).low ≡ 1
  -- and a key
  pub keyed : (r : ℕ) → IsOpen z words r → keyless (copy_span (room_in z words r)) ≡ 0

-- ---- what stays

-- no room
abbrev pub no_room : ℕ → Type 0
no_room r = ⊥

-- this room
abbrev pub this_room : ℕ → ℕ → Type 0
this_room r q = q ≡ r

-- one of the two
abbrev pub these_two : ℕ → ℕ → ℕ → Type 0
these_two r s q = (q ≡ r) ⊎ (q ≡ s)

-- a room that the pass holds
abbrev pub held_by : PassState → ℕ → Type 0
held_by v q = 0 < in_room_state q HELD v.rooms

-- this room, or one that the pass holds
abbrev pub or_held : ℕ → PassState → ℕ → Type 0
or_held r v q = (q ≡ r) ⊎ (0 < in_room_state q HELD v.rooms)

-- The words of the headers stay, the state of each room but those that are moved, and the other words of each but those that are stored.
pub record LeavesBut (z : Sizes) (moved stored : ℕ → Type 0) (before after : List ℕ) : Type 0 where
  pub headers : (memory z after).headers ≡ (memory z before).headers
  pub states : (q : ℕ) → (moved q → ⊥) → state_in z after q ≡ state_in z before q
  pub words : (q : ℕ) → (stored q → ⊥) → room_in z after q ≡ room_in z before q

-- ---- what changes

-- the room comes from one state to another, and nothing else but pins changes
pub record MovesRoom (z : Sizes) (r from to : ℕ) (before after : List ℕ) : Type 0 where
  pub leaves : LeavesBut z (this_room r) no_room before after
  pub was : state_in z before r ≡ from
  pub is : state_in z after r ≡ to

-- so does a room with these words
pub record MovesWith (z : Sizes) (r from to : ℕ) (w : RoomCopy) (before after : List ℕ) : Type 0 where
  pub moves : MovesRoom z r from to before after
  pub words : room_in z before r ≡ w

-- The room is frozen. v is a state of the pass before, which had a pin of the room, with the range that this found, and may have had nothing of rooms else.
pub record FreezesWords (z : Sizes) (v : PassState) (r : ℕ) (before after : List ℕ) : Type 0 where
  pub moves : MovesRoom z r OPEN FROZEN before after
  pub ranged : copy_span (room_in z before r) ≡ span_of (room_pin v)
  pub divided : HasNoRoom v → Divides z before

-- The open room with these words comes to be held, beside those that the pass holds in the state v.
pub record TakesRoom (z : Sizes) (v : PassState) (r : ℕ) (w : RoomCopy) (before after : List ℕ) : Type 0 where
  pub leaves : LeavesBut z (this_room r) (or_held r v) before after
  pub was : state_in z before r ≡ OPEN
  pub words : room_in z before r ≡ w
  pub divided : HasNoRoom v → Divides z before

-- the room is not free, in words that stay
abbrev pub IsTaken : Sizes → ℕ → List ℕ → List ℕ → Type 0
IsTaken z r before after = (after ≡ before) × (state_in z before r ≢ FREE)

-- none from one on and below another is free but one, in words that stay
abbrev pub TakenBetween : Sizes → ℕ → ℕ → ℕ → List ℕ → List ℕ → Type 0
TakenBetween z but from to before after = (after ≡ before) × ((r : ℕ) → from ≤ r → r < to → r ≢ but → state_in z before r ≢ FREE)

-- no other room is free, in words that stay
pub record NoneFree (z : Sizes) (but : ℕ) (before after : List ℕ) : Type 0 where
  pub stay : after ≡ before
  pub used : (r : ℕ) → r < z.chunks → r ≢ but → state_in z before r ≢ FREE

-- the one held room becomes free, and words of the two may change
pub record FreesUpper (z : Sizes) (lower upper : ℕ) (before after : List ℕ) : Type 0 where
  pub leaves : LeavesBut z (this_room upper) (these_two lower upper) before after
  pub freed : state_in z after upper ≡ FREE

-- both held rooms become open, with these words
pub record OpensBoth (z : Sizes) (lower upper : ℕ) (low high : RoomCopy) (before after : List ℕ) : Type 0 where
  pub leaves : LeavesBut z (these_two lower upper) (these_two lower upper) before after
  pub lower_open : state_in z after lower ≡ OPEN
  pub upper_open : state_in z after upper ≡ OPEN
  pub lower_is : room_in z after lower ≡ low
  pub upper_is : room_in z after upper ≡ high

-- ---- laws of what stays

-- in the same words all stays
pub leaves_all : (z : Sizes) (M S : ℕ → Type 0) (a : List ℕ) → LeavesBut z M S a a
leaves_all z M S a = record { headers = refl; states = λ q n. refl; words = λ q n. refl }

pub leaves_same : (z : Sizes) (M S : ℕ → Type 0) (a b : List ℕ) → b ≡ a → LeavesBut z M S a b
leaves_same z M S a b e = subst (LeavesBut z M S a) (sym e) (leaves_all z M S a)

-- where more may change
pub leaves_more : (z : Sizes) (M S M' S' : ℕ → Type 0) (a b : List ℕ) → ((q : ℕ) → M q → M' q) → ((q : ℕ) → S q → S' q) → LeavesBut z M S a b → LeavesBut z M' S' a b
leaves_more z M S M' S' a b m s l = record { headers = l.headers; states = λ q n. l.states q (λ h. n (m q h)); words = λ q n. l.words q (λ h. n (s q h)) }

-- one part behind another
pub leaves_both : (z : Sizes) (M S : ℕ → Type 0) (a b c : List ℕ) → LeavesBut z M S a b → LeavesBut z M S b c → LeavesBut z M S a c
leaves_both z M S a b c l m = record { headers = m.headers ∙ l.headers; states = λ q n. m.states q n ∙ l.states q n; words = λ q n. m.words q n ∙ l.words q n }

-- the same of runs
pub stay_leaves : (z : Sizes) (M S : ℕ → Type 0) (v w : PassState) → Runs WordsStay v w → Runs (LeavesBut z M S) v w
stay_leaves z M S v w r = runs_as WordsStay (LeavesBut z M S) v w (λ a b e. leaves_same z M S a b e) r

pub runs_leave_none : (z : Sizes) (M S : ℕ → Type 0) (v : PassState) → Runs (LeavesBut z M S) v v
runs_leave_none z M S v = runs_none (LeavesBut z M S) v (λ a. leaves_all z M S a)

pub runs_leave_more : (z : Sizes) (M S M' S' : ℕ → Type 0) (v w : PassState) → ((q : ℕ) → M q → M' q) → ((q : ℕ) → S q → S' q) → Runs (LeavesBut z M S) v w → Runs (LeavesBut z M' S') v w
runs_leave_more z M S M' S' v w m s r = runs_as (LeavesBut z M S) (LeavesBut z M' S') v w (λ a b l. leaves_more z M S M' S' a b m s l) r

pub runs_leave_both : (z : Sizes) (M S : ℕ → Type 0) (u v w : PassState) → Runs (LeavesBut z M S) u v → Runs (LeavesBut z M S) v w → Runs (LeavesBut z M S) u w
runs_leave_both z M S u v w a b = runs_as (Then (LeavesBut z M S) (LeavesBut z M S)) (LeavesBut z M S) u w (λ x y d. leaves_both z M S x d.0 y d.1 d.2) (runs_then (LeavesBut z M S) (LeavesBut z M S) u v w a b)
