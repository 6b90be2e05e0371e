-- Steps under the pin of a room, one behind another: what stays of the room, and of what the pass holds.
use Rattle.std.proofs.Common.{◌≡◌, ℕ, sym, ap, ◌∙◌, subst, Option, Some, None}
use Rattle.oak_model.specs.Limits.{Sizes}
use Rattle.chunk_core.specs.declared.holds.FoundEntry.{FoundEntry}
use Rattle.chunk_core.specs.declared.holds.RoomHolds.{RoomHolds}
use Rattle.chunk_core.specs.KeyWords.{high_number, low_number}
use Rattle.chunk_core.specs.MayOnRooms.{FindsEntry}
use Rattle.chunk_core.specs.PinnedRooms.{span_of}
use Rattle.oak_core.specs.declared.states.Numbers.{Numbers}
use Rattle.oak_core.specs.declared.states.PassState.{PassState}
use Rattle.oak_core.specs.AloneWords.{Runs}
use Rattle.oak_core.specs.QuietSteps.{IsQuiet, Quiet}
use Rattle.oak_core.proofs.calls.CallSteps.{learns_both}
use Rattle.oak_core.proofs.calls.QuietCalls.{only_both as quiet_both}
use Rattle.oak_core.proofs.seats.AloneRuns.{runs_as}
use Rattle.chunk_ops.specs.declared.entries.EntryNo.{EntryNo}
use Rattle.chunk_ops.specs.Listing.{IsEntryOrNone, StepsIn, StepsTo}
use Rattle.chunk_ops.specs.PinRecords.{HasRoomPin, OnlyLearns, PinKept, PinStays, UnderPin, WordsStay, pin_or, room_pin, with_room_pin}
use Rattle.chunk_ops.proofs.MeetingCalls.{both_stay, only_none}
use Rattle.chunk_ops.proofs.PinsKept.{under_both, under_only}
use Rattle.scan_cursor.specs.Holding.{HasRoom, room_at, room_of}
use Rattle.scan_cursor.specs.Views.{Later, view_of}
use Rattle.scan_cursor.proofs.GatherViews.{later_of}

-- under the pin the call may have learned, by loads alone; to a pass that is alone the words stay
pub record Goes (z : Sizes) (call r : ℕ) (v w : PassState) : Type 0 where
  pub under : UnderPin z call r v w
  pub quiet : Quiet v w
  pub still : Runs WordsStay v w

module _ (z : Sizes) (call r : ℕ) where
  pub goes_none : (v : PassState) → HasRoomPin z r v → Goes z call r v v
  goes_none v p = let o = only_none call v in record { under = under_only z call r v v p o; quiet = o.quiet; still = o.still }

  module _ (v w u : PassState) (g : Goes z call r v w) where
    -- a link was loaded
    pub goes_step : (from next : Option EntryNo) → StepsTo z call r from next w u → Goes z call r v u
    goes_step from next s = record {
      under = under_both z call r v w u g.under s.under;
      quiet = quiet_both IsQuiet v w u g.quiet s.quiet;
      still = both_stay v w u g.still (runs_as (StepsIn z r from next) WordsStay w u (λ a b d. d.0) s.alone);
    }

    -- or an entry
    pub goes_learned : OnlyLearns call w u → Goes z call r v u
    goes_learned o = record {
      under = record {
        learns = learns_both call v w u g.under.learns o.learns;
        blocks = o.blocks ∙ g.under.blocks;
        headers = o.headers ∙ g.under.headers;
        pin = subst (λ (a : RoomHolds). PinKept z r v.rooms a) (sym o.rooms) g.under.pin;
      };
      quiet = quiet_both IsQuiet v w u g.quiet o.quiet;
      still = both_stay v w u g.still o.still;
    }

  -- what stays
  module _ (v w : PassState) (g : Goes z call r v w) where
    pub goes_later : Later (view_of z call v) (view_of z call w)
    goes_later = later_of z call v w g.under.learns g.quiet

    stays : PinStays (room_pin v) (room_pin w)
    stays = g.under.pin.stays

    pub goes_range : span_of (room_pin w) ≡ span_of (room_pin v)
    goes_range = λ j. record { low = low_number (stays.low j); high = high_number (stays.high j); base = stays.base j }

    pub goes_room : room_at w ≡ room_at v
    goes_room = λ j. room_of (record (room_pin v) { low = stays.low j; high = stays.high j })

    pub goes_has : HasRoom z r v → HasRoom z r w
    goes_has h = record {
      pin = g.under.pin.has;
      rooms = g.under.pin.rooms ∙ ap (with_room_pin (Some (room_pin w))) h.rooms;
      hand = ap (λ (n : Numbers). n.hand) g.under.learns.all.numbers ∙ h.hand;
      blocks = g.under.blocks ∙ h.blocks;
      headers = g.under.headers ∙ h.headers;
    }

-- ---- the entry at which a walk stands

-- there is one of its number
pub same_entry : (z : Sizes) (r : ℕ) (w : PassState) → HasRoomPin z r w → (i : Option EntryNo) (o p : Option FoundEntry) → IsEntryOrNone r i w o → IsEntryOrNone r i w p → o ≡ p
same_entry z r w h None o p a b = a ∙ sym b
same_entry z r w h (Some i) o p a b = a.2 ∙ (ap (λ (e : FoundEntry). Some e) (h.alike a.0 b.0 a.1.there b.1.there (a.1.number ∙ sym b.1.number)) ∙ sym b.2)

-- it stays found where the rooms of the pass stay
pub entry_stays : (r : ℕ) (i : Option EntryNo) (o : Option FoundEntry) (u x : PassState) → x.rooms ≡ u.rooms → IsEntryOrNone r i u o → IsEntryOrNone r i x o
entry_stays r None o u x e a = a
entry_stays r (Some i) o u x e a = (a.0, subst (λ (b : RoomHolds). FindsEntry r i.0 b (pin_or b.pin) a.0) (sym e) a.1, a.2)
