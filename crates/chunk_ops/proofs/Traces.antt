-- What a call leaves that adds an entry under its pin: it may have learned, it holds what it held but for its block, and of rooms it has what it had, with its pin, but for its claim.
use Rattle.std.proofs.Common.{◌≡◌, ℕ, sym, refl, ap, ◌∙◌, subst, Option, Some, None}
use Rattle.oak_model.specs.declared.classes.Class.{Class}
use Rattle.oak_model.specs.Limits.{Sizes}
use Rattle.chunk_core.specs.declared.holds.Claim.{Claim}
use Rattle.chunk_core.specs.declared.holds.PinnedRoom.{PinnedRoom}
use Rattle.chunk_core.specs.declared.holds.RoomHolds.{RoomHolds}
use Rattle.oak_core.specs.declared.states.PassState.{PassState}
use Rattle.oak_core.specs.CallSteps.{Learns, Stands}
use Rattle.oak_core.specs.QuietSteps.{MetOnly, TookNone}
use Rattle.oak_core.proofs.calls.CallSteps.{learns_both, learns_none, stands_learns}
use Rattle.oak_core.proofs.calls.QuietCalls.{only_both, only_none}
use Rattle.arena_ops.specs.Storing.{given}
use Rattle.chunk_ops.specs.PinRecords.{HasRoomPin, KeepsPin, PinStays, RoomPinned, room_pin}
use Rattle.chunk_ops.proofs.ClaimSteps.{with_claim}
use Rattle.chunk_ops.proofs.KeyClaims.{pin_stays, pinned_still}
use Rattle.chunk_ops.proofs.PinsKept.{pins_both, pins_same}

pub record Traces (z : Sizes) (call r : ℕ) (c : Class) (b : ℕ) (v w : PassState) : Type 0 where
  pub learns : Learns call v w
  pub headers : w.headers ≡ v.headers
  pub blocks : given c b w.blocks ≡ given c b v.blocks
  pub took : MetOnly TookNone v w
  pub pin : RoomPinned z r w.rooms
  pub stays : PinStays (room_pin v) (room_pin w)
  pub rooms : w.rooms ≡ record v.rooms { claim = w.rooms.claim; pin = Some (room_pin w) }

module _ (z : Sizes) (call r : ℕ) (c : Class) (b : ℕ) where
  pub traces_none : (v : PassState) → HasRoomPin z r v → Traces z call r c b v v
  traces_none v p = record { learns = learns_none call v; headers = refl; blocks = refl; took = only_none TookNone v v refl; pin = p; stays = pins_same (room_pin v); rooms = λ j. record v.rooms { pin = p.pin.is j } }

  pub traces_both : (u v w : PassState) → Traces z call r c b u v → Traces z call r c b v w → Traces z call r c b u w
  traces_both u v w s t = record {
    learns = learns_both call u v w s.learns t.learns;
    headers = t.headers ∙ s.headers;
    blocks = t.blocks ∙ s.blocks;
    took = only_both TookNone u v w s.took t.took;
    pin = t.pin;
    stays = pins_both (room_pin u) (room_pin v) (room_pin w) s.stays t.stays;
    rooms = t.rooms ∙ ap (λ (a : RoomHolds). record a { claim = w.rooms.claim; pin = Some (room_pin w) }) s.rooms;
  }

  -- a step behind which the claim alone is another
  pub claim_traces : (v w : PassState) (o : Option Claim) → HasRoomPin z r v → w.rooms ≡ with_claim o v.rooms → Stands call v w → w.headers ≡ v.headers → given c b w.blocks ≡ given c b v.blocks → MetOnly TookNone v w → Traces z call r c b v w
  claim_traces v w o p e stands headers blocks took = let pin = pin_stays z r v w o e in record {
    learns = stands_learns call v w stands;
    headers = headers;
    blocks = blocks;
    took = took;
    pin = pinned_still z r v w o e p;
    stays = subst (PinStays (room_pin v)) (sym pin) (pins_same (room_pin v));
    rooms = e ∙ (λ j. record v.rooms { claim = sym (ap (λ (a : RoomHolds). a.claim) e) j; pin = (p.pin.is ∙ ap (λ (x : PinnedRoom). Some x) (sym pin)) j });
  }

-- where nothing is claimed before and behind it, it keeps its pin
pub traced_keeps : (z : Sizes) (call r : ℕ) (c : Class) (b : ℕ) (v w : PassState) → Traces z call r c b v w → v.rooms.claim ≡ None → w.rooms.claim ≡ None → KeepsPin z r v w
traced_keeps z call r c b v w t before behind = record { has = t.pin; stays = t.stays; rooms = t.rooms ∙ ap (λ (o : Option Claim). record v.rooms { claim = o; pin = Some (room_pin w) }) (behind ∙ sym before) }
