-- The key word of a claimed entry is stored, or another link.
use Rattle.std.proofs.Common.{◌≡◌, ℕ, ◌<◌, Bool, cond, List, take, sym, refl, ap, ◌∙◌, subst, arith, ne_eqb, Option, Some, None}
use Rattle.std.specs.Prelude.{not}
use Rattle.oak_model.specs.Class.{class_number}
use Rattle.oak_model.specs.Limits.{Sizes}
use Rattle.oak_model.specs.WordBytes.{bytes_of}
use Rattle.oak_model.proofs.Lists.{at_map}
use Rattle.arena_core.specs.Blocks.{HoldsBlock, words_held}
use Rattle.arena_core.specs.Place.{block_in, class_from, class_in, content}
use Rattle.arena_core.proofs.HeldWords.{held_words}
use Rattle.chunk_core.specs.declared.holds.Claim.{Claim}
use Rattle.chunk_core.specs.declared.holds.EntryWords.{EntryWords}
use Rattle.chunk_core.specs.declared.holds.RoomHolds.{RoomHolds}
use Rattle.chunk_core.specs.KeyWords.{key_bytes}
use Rattle.chunk_core.specs.MayOnRooms.{HasClaim}
use Rattle.chunk_core.specs.RoomCopies.{claim_after, claim_with, entry_with}
use Rattle.chunk_core.specs.RoomStep.{of_key, of_next, own_entry}
use Rattle.link_search.specs.Linked.{IsFound}
use Rattle.oak_core.specs.declared.states.PassState.{PassState}
use Rattle.oak_core.specs.Memory.{Memory, memory}
use Rattle.oak_core.specs.PassState.{blocks_of}
use Rattle.oak_core.specs.Step.{on_rooms, Told}
use Rattle.oak_core.proofs.held.HeaderStanding.{parts}
use Rattle.chunk_ops.specs.LinkedTable.{ClaimsIn, HoldsIn}
use Rattle.chunk_ops.specs.PinRecords.{HasRoomPin, pin_or, room_pin}
use Rattle.chunk_ops.specs.RoomLoads.{linked_in}
use Rattle.chunk_ops.proofs.ClaimSteps.{own_rooms, with_claim}
use Rattle.chunk_ops.proofs.EntryKeys.{key_length-is}
use Rattle.chunk_ops.specs.LinkedTable.{PointsIn}
use Rattle.oak_core.proofs.seats.AloneRuns.{moment_after}
use Rattle.chunk_ops.specs.ClaimLaws.{apart_now}
use Rattle.chunk_ops.proofs.KeyClaims.{HasClaimed, pins_still, some_place}

-- ---- the key word is stored

-- the words of such an entry then
pub record HasPlaced (base l : ℕ) (e : EntryWords) : Type 0 where
  pub word : e.word ≡ 0
  pub value : e.value ≡ base
  pub next : e.next ≡ l

-- the block is held
pub block_held : (z : Sizes) (base place : ℕ) (k : List ℕ) (v : PassState) → HoldsIn z base place k v → HoldsBlock z (class_in place) (block_in place) v.blocks
block_held z base place k v h = subst (λ (c : ℕ). HoldsBlock z c (block_in place) v.blocks) (sym h.names.class) h.may.block.block

module _ (z : Sizes) (call r i base place l : ℕ) (k : List ℕ) (v u : PassState) (p : HasRoomPin z r v) (h : HoldsIn z base place k v) (c : HasClaimed r i (HasPlaced base l) v u) (lt : i < z.entries)
    (n : ℕ) (w : PassState) (t : Told z call (on_rooms (own_entry of_key r i place)) u n w) where
  abbrev m : Memory
  m = memory z t.table.words

  abbrev bytes : ℕ → List ℕ
  bytes = content m.arena.bytes

  abbrev class : ℕ
  class = class_number (class_from (class_in place))

  abbrev ws : List ℕ
  ws = words_held class (block_in place) v.blocks.held

  some_word : 0 < place
  some_word = some_place z place k h.names

  -- the words of the block, as it stands then, are those that the pass held
  content_is : bytes place ≡ ws
  content_is = held_words m.arena (class_in place) (block_in place) u.blocks.held (t.rule.blocks.whole t.seat u.blocks (at_map blocks_of t.table.states t.seat u t.here)) (parts z t.table t.seat u t.rule t.here).blocks (t.may.block some_word).1.held
      ∙ (λ j. words_held (h.names.class j) (block_in place) (c.blocks j).held)

  key_is : key_bytes place (bytes place) ≡ k
  key_is = ap (key_bytes place) content_is ∙ (ap (λ (y : ℕ). take y (bytes_of ws)) (key_length-is place ∙ h.names.long) ∙ h.may.block.bytes_are)

  abbrev now : Claim
  now = record c.claim { entry = entry_with of_key place c.claim.entry; words = bytes place }

  rooms_are : w.rooms ≡ with_claim (Some now) v.rooms
  rooms_are = own_rooms z call of_key r i place u n w t ∙ (ap (λ (a : RoomHolds). with_claim (claim_after bytes of_key place a.claim) a) c.rooms
      ∙ ap (λ (b : Bool). with_claim (cond (not b) (Some (claim_with bytes of_key place c.claim)) None) v.rooms) (ne_eqb place 0 (let s = some_word in omega arith)))

  pub key_rooms : (x : Claim) × (w.rooms ≡ with_claim (Some x) v.rooms)
  key_rooms = (now, rooms_are)

  has_now : HasClaim r i w.rooms (room_pin w) now
  has_now = record { is = ap (λ (a : RoomHolds). a.claim) rooms_are; room = c.room; number = c.number; pin = pins_still z r v w (Some now) rooms_are p.pin }

  pub claims_key : ClaimsIn z r i base place k w.rooms
  claims_key = subst (ClaimsIn z r i base place k) (sym rooms_are) (record {
    claim = now;
    has = record { is = refl; room = c.room; number = c.number; pin = record { is = p.pin.is; room = p.pin.room; good = p.pin.good } };
    value = c.entry.value;
    word = refl;
    key = key_is;
    base = h.base;
    covers = h.may.covers;
    names = h.names;
    entry = lt;
    apart = subst (λ (a : RoomHolds). IsFound (linked_in (pin_or a.pin)) i → ⊥) rooms_are (apart_now z r i _ w (moment_after z call (on_rooms (own_entry of_key r i place)) u n w t) now has_now);
  })

  pub points_key : PointsIn l w.rooms
  points_key = record { claim = now; is = ap (λ (a : RoomHolds). a.claim) rooms_are; link = c.entry.next }

-- ---- another link is stored

module _ (z : Sizes) (call r i base place l : ℕ) (k : List ℕ) (v : PassState) (h : ClaimsIn z r i base place k v.rooms) (n : ℕ) (w : PassState) (t : Told z call (on_rooms (own_entry of_next r i l)) v n w) where
  pub next_rooms : w.rooms ≡ with_claim (Some (record h.claim { entry = entry_with of_next l h.claim.entry })) v.rooms
  next_rooms = own_rooms z call of_next r i l v n w t ∙ ap (λ (o : Option Claim). with_claim (claim_after (content (memory z t.table.words).arena.bytes) of_next l o) v.rooms) h.has.is

  pub claims_next : ClaimsIn z r i base place k w.rooms
  claims_next = subst (ClaimsIn z r i base place k) (sym next_rooms) (record {
    claim = record h.claim { entry = entry_with of_next l h.claim.entry };
    has = record { is = refl; room = h.has.room; number = h.has.number; pin = record { is = h.has.pin.is; room = h.has.pin.room; good = h.has.pin.good } };
    value = h.value;
    word = h.word;
    key = h.key;
    base = h.base;
    covers = h.covers;
    names = h.names;
    entry = h.entry;
    apart = h.apart;
  })

  pub points_next : PointsIn l w.rooms
  points_next = record { claim = record h.claim { entry = entry_with of_next l h.claim.entry }; is = ap (λ (a : RoomHolds). a.claim) next_rooms; link = refl }
