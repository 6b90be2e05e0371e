-- Calls that only met more, one behind another.
use Rattle.std.proofs.Common.{◌≡◌, ℕ, ◌+◌, ◌<◌, List, sym, refl, ap, ◌∙◌, subst, Option, None}
use Rattle.pin_word.specs.PinWord.{count_of}
use Rattle.oak_model.specs.Limits.{Sizes}
use Rattle.chunk_core.specs.declared.holds.PinnedRoom.{PinnedRoom}
use Rattle.oak_core.specs.declared.states.PassState.{PassState}
use Rattle.oak_core.specs.AloneWords.{Runs}
use Rattle.oak_core.specs.QuietSteps.{IsQuiet}
use Rattle.oak_core.specs.RoomCalls.{PinsRoomWord}
use Rattle.oak_core.proofs.seats.AloneRuns.{Then, runs_then, runs_as, runs_none}
use Rattle.oak_core.proofs.calls.CallSteps.{stands_none, stands_both}
use Rattle.oak_core.proofs.calls.QuietCalls as steps
use Rattle.chunk_ops.specs.PinRecords.{OnlyMeets, WordsStay, with_room_pin}
use Rattle.chunk_ops.specs.RoomPins.{ChangesRoomPin, DropsRoomPin, Unpins}
use Rattle.chunk_ops.proofs.PinSteps.{undone, pin_stands, pin_blocks, pin_headers, pin_rooms, pin_runs}

pub only_none : (call : ℕ) (v : PassState) → OnlyMeets call v v
only_none call v = record { stands = stands_none call v; quiet = steps.only_none IsQuiet v v refl; blocks = refl; headers = refl; rooms = refl; still = runs_none WordsStay v (λ a. refl) }

pub both_stay : (u v w : PassState) → Runs WordsStay u v → Runs WordsStay v w → Runs WordsStay u w
both_stay u v w a b = runs_as (Then WordsStay WordsStay) WordsStay u w (λ x y d. d.2 ∙ d.1) (runs_then WordsStay WordsStay u v w a b)

-- what is done behind loads is done to the words before them
pub stays_then : (P : List ℕ → List ℕ → Type 0) (u v w : PassState) → Runs WordsStay u v → Runs P v w → Runs P u w
stays_then P u v w a b = runs_as (Then WordsStay P) P u w (λ x y d. subst (λ (m : List ℕ). P m y) d.1 d.2) (runs_then WordsStay P u v w a b)

pub then_stays : (P : List ℕ → List ℕ → Type 0) (u v w : PassState) → Runs P u v → Runs WordsStay v w → Runs P u w
then_stays P u v w a b = runs_as (Then P WordsStay) P u w (λ x y d. subst (λ (m : List ℕ). P x m) (sym d.2) d.1) (runs_then P WordsStay u v w a b)

pub only_both : (call : ℕ) (u v w : PassState) → OnlyMeets call u v → OnlyMeets call v w → OnlyMeets call u w
only_both call u v w a b = record {
  stands = stands_both call u v w a.stands b.stands;
  quiet = steps.only_both IsQuiet u v w a.quiet b.quiet;
  blocks = b.blocks ∙ a.blocks;
  headers = b.headers ∙ a.headers;
  rooms = b.rooms ∙ a.rooms;
  still = both_stay u v w a.still b.still;
}

pub only_in : (first now : ℕ) (v w : PassState) → now ≡ first → OnlyMeets now v w → OnlyMeets first v w
only_in first now v w e o = subst (λ (k : ℕ). OnlyMeets k v w) e o

-- a pin that is undone at once, or after loads, only met more
pub round : (z : Sizes) (call r : ℕ) (v w x u : PassState) (n : ℕ) (t : PinsRoomWord z call r v n w) → OnlyMeets call w x → Unpins z call r x u → OnlyMeets call v u
round z call r v w x u n t a b = record {
  stands = stands_both call v w u (pin_stands z call r n v w t) (stands_both call w x u a.stands b.stands);
  quiet = steps.only_both IsQuiet v w u (steps.quiet_pin_room z call r v n w t) (steps.only_both IsQuiet w x u a.quiet b.quiet);
  blocks = b.blocks ∙ (a.blocks ∙ pin_blocks z call r n v w t);
  headers = b.headers ∙ (a.headers ∙ pin_headers z call r n v w t);
  rooms = b.rooms ∙ (ap (with_room_pin None) (a.rooms ∙ pin_rooms z call r n v w t) ∙ ap (λ (o : Option PinnedRoom). with_room_pin o v.rooms) (sym t.may.rooms));
  still = runs_as (Then (ChangesRoomPin z r Any (λ k. k + 1)) (DropsRoomPin z r)) WordsStay v u (λ p q d. undone z r t.may.inside.0 p d.0 q Any (λ k. 0 < count_of k) d.1 d.2)
      (runs_then (ChangesRoomPin z r Any (λ k. k + 1)) (DropsRoomPin z r) v w u (pin_runs z call r n v w t Any tt) (stays_then (DropsRoomPin z r) w x u a.still b.still));
}
  where
    Any : ℕ → Type 0
    Any k = Unit {0}
