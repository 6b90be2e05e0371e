-- What a scan does to the words of the table where its pass is alone, one step behind the other.
use Rattle.std.proofs.Common.{◌≡◌, ℕ, ◌<◌, List, Option, Some, None, refl, subst}
use Rattle.std.specs.Prelude.{IfSome}
use Rattle.pin_word.specs.PinWord.{count_of, state_of}
use Rattle.oak_model.specs.Limits.{Sizes}
use Rattle.chunk_core.specs.declared.states.TheConstants.{OPEN}
use Rattle.oak_core.specs.declared.states.PassState.{PassState}
use Rattle.oak_core.specs.AloneWords.{Runs}
use Rattle.oak_core.proofs.seats.AloneRuns.{Then, runs_as, runs_none, runs_then}
use Rattle.chunk_ops.specs.PinRecords.{WordsStay}
use Rattle.chunk_ops.specs.RoomPins.{AddsRoomPin, DropsRoomPin}
use Rattle.chunk_ops.proofs.MeetingCalls.{both_stay, stays_then, then_stays}
use Rattle.chunk_ops.proofs.PinSteps.{undone as room_undone}
use Rattle.value_ops.specs.declared.pinned_value.PinnedValue.{PinnedValue}
use Rattle.value_ops.specs.Pinning.{DropsPin, IsLiveAt}
use Rattle.value_ops.proofs.AlonePins.{undone}
use Rattle.scan_cursor.specs.Leaving.{AddsPinOf, LeavesValue}

-- no step was made
pub none_leaves : (v : PassState) → Runs WordsStay v v
none_leaves v = runs_none WordsStay v (λ a. refl)

-- a pin of a value that is undone leaves the words as they were
pin_undone : (z : Sizes) (x : PinnedValue) → x.header < z.headers → (a b c : List ℕ) → AddsPinOf z x a b → DropsPin z x.header b c → c ≡ a
pin_undone z x inside a b c up down = undone z x.header inside a b c (IsLiveAt up.0) (λ n. 0 < count_of n) up.1 down

-- the value's pin was undone, and then another value pinned, or none
pub left_leaves : (z : Sizes) (o p : Option PinnedValue) (u v w : PassState) → Runs (LeavesValue z o None) u v → Runs (LeavesValue z None p) v w → Runs (LeavesValue z o p) u w
left_leaves z None None u v w a b = both_stay u v w a b
left_leaves z None (Some y) u v w a b = stays_then (AddsPinOf z y) u v w a b
left_leaves z (Some x) None u v w a b = then_stays (DropsPin z x.header) u v w a b
left_leaves z (Some x) (Some y) u v w a b = runs_then (DropsPin z x.header) (AddsPinOf z y) u v w a b

-- the value was pinned, and then its pin undone, and another value pinned, or none
pub given_leaves : (z : Sizes) (o p : Option PinnedValue) (u v w : PassState) → IfSome o (λ x. x.header < z.headers) → Runs (LeavesValue z None o) u v → Runs (LeavesValue z o p) v w → Runs (LeavesValue z None p) u w
given_leaves z None p u v w inside a b = stays_then (LeavesValue z None p) u v w a b
given_leaves z (Some x) None u v w inside a b = runs_as (Then (AddsPinOf z x) (DropsPin z x.header)) WordsStay u w (λ c e d. pin_undone z x inside c d.0 e d.1 d.2) (runs_then (AddsPinOf z x) (DropsPin z x.header) u v w a b)
given_leaves z (Some x) (Some y) u v w inside a b = let Both = Then (DropsPin z x.header) (AddsPinOf z y) in
    runs_as (Then (AddsPinOf z x) Both) (AddsPinOf z y) u w (λ c e d. subst (λ (m : List ℕ). AddsPinOf z y m e) (pin_undone z x inside c d.0 d.2.0 d.1 d.2.1) d.2.2) (runs_then (AddsPinOf z x) Both u v w a b)

-- a room was pinned, of which the pass only made loads, and its pin undone
pub room_left : (z : Sizes) (r : ℕ) (p q s t u : PassState) → r < z.chunks → Runs (AddsRoomPin z r) p q → Runs WordsStay q s → Runs WordsStay s t → Runs (DropsRoomPin z r) t u → Runs WordsStay p u
room_left z r p q s t u inside up loads more down = runs_as (Then (AddsRoomPin z r) (DropsRoomPin z r)) WordsStay p u (λ a b d. room_undone z r inside a d.0 b (λ n. state_of n ≡ OPEN) (λ n. 0 < count_of n) d.1 d.2)
    (runs_then (AddsRoomPin z r) (DropsRoomPin z r) p q u up (stays_then (DropsRoomPin z r) q t u (both_stay q s t loads more) down))
