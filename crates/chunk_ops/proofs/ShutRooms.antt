-- A room whose pin word is loaded before it is tried.
use Rattle.std.proofs.Common.{◌≡◌, ◌≢◌, ℕ, sym, refl, ap, ◌∙◌, subst, inl, arith}
use lib.Seq.{set-get_or}
use Rattle.pin_word.specs.PinWord.{state_of}
use Rattle.oak_model.specs.Limits.{Sizes}
use Rattle.chunk_core.specs.declared.states.TheConstants.{OPEN}
use Rattle.chunk_core.specs.declared.holds.RoomHolds.{RoomHolds}
use Rattle.chunk_core.specs.Rooms.{at_room_pin}
use Rattle.chunk_core.specs.Spans.{Span}
use Rattle.oak_core.specs.declared.states.PassState.{PassState}
use Rattle.oak_core.specs.AloneWords.{Runs}
use Rattle.oak_core.specs.Memory.{Spot, in_rooms, index}
use Rattle.oak_core.specs.RoomCalls.{NamesRoomPin}
use Rattle.oak_core.specs.Splitting.{Loads}
use Rattle.oak_core.specs.Step.{load, Told}
use Rattle.oak_core.proofs.seats.AloneRuns.{moment_after, runs_as}
use Rattle.oak_core.proofs.calls.CallSteps.{step_alone}
use Rattle.chunk_ops.specs.LoneRooms.{IsOff, LoneTry}
use Rattle.chunk_ops.specs.PinRecords.{OnlyMeets}
use Rattle.chunk_ops.specs.RoomPins.{FoundOff, HadMoment, PinsOpen}
use Rattle.chunk_ops.proofs.FoundRooms.{opens_since}
use Rattle.chunk_ops.proofs.LoneRoomLaws.{StepAt, step_at}
use Rattle.chunk_ops.proofs.MeetingCalls.{stays_then}
use Rattle.chunk_ops.proofs.WordLoads.{load_at, load_reads, only_loaded}

-- the load of the room's pin word, which finds n
module _ (z : Sizes) (call r word n : ℕ) (u v : PassState) (names : NamesRoomPin z r word) (l : Loads z call word u n v) where
  abbrev pin_spot : Spot
  pin_spot = in_rooms (at_room_pin r)

  pub told : Told z call (load (in_rooms (at_room_pin r))) u n v
  told = load_at z call word n u v pin_spot (names.inside, omega arith) names.word_is l

  pub load_only : OnlyMeets call u v
  load_only = only_loaded z call word n u v pin_spot (names.inside, omega arith) tt names.word_is l

  load_begun : HadMoment z u
  load_begun = (told.table.words, record { states = told.table.states; rule = told.rule; seat = told.seat; here = told.here })

  pub load_ended : HadMoment z v
  load_ended = (_, moment_after z call (load pin_spot) u n v told)

  -- it finds the room not open
  module _ (P : Span → Type 0) (shut : state_of n ≢ OPEN) where
    pub load_off : FoundOff z call r P u v
    load_off = inl record { step = step_alone z call (load pin_spot) u n v told; shut = shut }

    -- to a pass that is alone it is off
    pub load_alone : Runs (LoneTry z (IsOff z r P) u.rooms) u v
    load_alone = runs_as (StepAt z (load pin_spot) u n (IsOff z r P)) (LoneTry z (IsOff z r P) u.rooms) u v
        (λ a b s. record { stay = s.does.1 ∙ set-get_or a (index z pin_spot) 0; at = record { says = s.says; state = u; rooms = refl; alone = s.alone; moment = s.moment } })
        (step_at z call (load pin_spot) u n v tt told (IsOff z r P) (inl (λ e. shut (ap state_of (sym (load_reads z call n u v pin_spot told)) ∙ e))))

  -- behind it the room is tried
  module _ (P : Span → Type 0) (w : PassState) where
    pub opens_then : (k : ℕ) → PinsOpen z call k P v w → PinsOpen z call k P u w
    opens_then k = opens_since z call k P u v w load_only load_begun

    pub alone_then : Runs (LoneTry z (IsOff z r P) v.rooms) v w → Runs (LoneTry z (IsOff z r P) u.rooms) u w
    alone_then t = subst (λ (h : RoomHolds). Runs (LoneTry z (IsOff z r P) h) u w) load_only.rooms (stays_then (LoneTry z (IsOff z r P) v.rooms) u v w load_only.still t)
