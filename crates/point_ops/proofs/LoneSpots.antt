-- Where a key is found by a pass that is alone: the words that its search and the load behind it find stay.
use Rattle.std.proofs.Common.{◌≡◌, ℕ, List, sym, ap, ◌∙◌, subst}
use Rattle.oak_model.specs.Limits.{Sizes}
use Rattle.chunk_core.specs.declared.holds.RoomHolds.{RoomHolds}
use Rattle.oak_core.specs.declared.states.PassState.{PassState}
use Rattle.oak_core.specs.AloneWords.{LeavesWords, Moment, Runs}
use Rattle.oak_core.specs.Memory.{memory}
use Rattle.oak_core.specs.Step.{Step, Told}
use Rattle.oak_core.proofs.seats.AloneRuns.{Then, moment_after, runs_as, runs_then}
use Rattle.oak_core.proofs.covers.FoundValues.{pin_holds}
use Rattle.chunk_ops.specs.declared.entries.Content.{Content}
use Rattle.chunk_ops.specs.declared.entries.EntryNo.{EntryNo}
use Rattle.chunk_ops.specs.declared.entries.Found.TheVariants.{Entry, Missing}
use Rattle.chunk_ops.specs.Contents.{Says, SaysIn}
use Rattle.chunk_ops.specs.FindsAlone.{FindsIn, LacksIn}
use Rattle.chunk_ops.specs.PinRecords.{HasRoomPin, OnlyMeets, WordsStay, pin_or, room_pin}
use Rattle.chunk_ops.specs.RoomWords.{FindsBase}
use Rattle.chunk_ops.proofs.MeetingCalls.{then_stays}
use Rattle.point_ops.proofs.LoneTakes.{left_words}
use Rattle.point_ops.specs.declared.spots.Spot.{Spot}
use Rattle.point_ops.specs.declared.spots.Spot.TheVariants.{Absent, Present}
use Rattle.point_ops.specs.LoneLives.{EntrySays, SpotIn}

module _ (z : Sizes) (r : ℕ) (key : List ℕ) (v u w : PassState) where
  pub missing_alone : (call : ℕ) → Runs (LacksIn z r key) v u → OnlyMeets call u w → Runs (LacksIn z r key) v w
  missing_alone call a o = then_stays (LacksIn z r key) v u w a o.still

  pub says_alone : (i : EntryNo) (c : Content) → Runs (FindsIn z r key (Entry i)) v u → Runs (SaysIn c z r i.0) u w → Runs (EntrySays i c z r key) v w
  says_alone i c a b = runs_as (Then (FindsIn z r key (Entry i)) (SaysIn c z r i.0)) (EntrySays i c z r key) v w
      (λ x y d. ((d.2.0 ∙ d.1.0, d.1.1), subst (λ (ws : List ℕ). Says c ((memory z ws).rooms.value r i.0)) d.1.0 d.2.1))
      (runs_then (FindsIn z r key (Entry i)) (SaysIn c z r i.0) v u w a b)

-- whatever is found where a key is looked up, the words stay
pub spot_stays : (z : Sizes) (r : ℕ) (key : List ℕ) (s : Spot) (v u : PassState) → Runs (SpotIn s z r key) v u → Runs WordsStay v u
spot_stays z r key s v u a = runs_as (SpotIn s z r key) WordsStay v u (stays s) a
  where
    stays : (t : Spot) (x y : List ℕ) → SpotIn t z r key x y → y ≡ x
    stays (Absent (Missing behind link) floor) x y d = d.0
    stays (Absent (Entry i) floor) x y d = d.0.0
    stays (Present i o) x y d = d.0.0

-- the base that was loaded is that of the pin that the pass has behind the load
pub base_behind : (z : Sizes) (call r base : ℕ) (u w : PassState) → FindsBase z call r base u w → OnlyMeets call u w → base ≡ (room_pin w).base
base_behind z call r base u w b o = b.pinned ∙ ap (λ (a : RoomHolds). (pin_or a.pin).base) (sym o.rooms)

-- at each moment that base is the room's base word
pub base_there : (z : Sizes) (words : List ℕ) (v : PassState) → Moment z words v → (r : ℕ) → HasRoomPin z r v → (memory z words).rooms.base r ≡ (room_pin v).base
base_there z words v m r p = ap (λ (k : ℕ). (memory z words).rooms.base k) (sym p.pin.room)
    ∙ (pin_holds z (memory z words) m.states m.rule.rooms m.rule.covers m.seat v m.here (room_pin v) p.pin.is p.pin.good).base

-- so it is in the words that a pass that is alone leaves behind a step
pub base_left : (z : Sizes) (call : ℕ) (x : Step) (v : PassState) (n : ℕ) (w : PassState) → Told z call x v n w → (words : List ℕ) → LeavesWords words w → (r : ℕ) → HasRoomPin z r w → (memory z words).rooms.base r ≡ (room_pin w).base
base_left z call x v n w t words l r p = ap (λ (ws : List ℕ). (memory z ws).rooms.base r) (left_words z call x v n w t words l) ∙ base_there z _ w (moment_after z call x v n w t) r p
