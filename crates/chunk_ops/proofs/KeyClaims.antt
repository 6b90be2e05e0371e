-- The key of an entry that a pass adds: from the block that it holds into the entry that it has claimed, and back.
use Rattle.std.proofs.Common.{◌≡◌, ℕ, ◌^◌, ◌<◌, List, length, sym, refl, ap, ◌∙◌, subst, arith, inl, inr, Option, Some, None}
use Rattle.oak_model.specs.declared.classes.Class.{Class}
use Rattle.oak_model.specs.Class.{class_number}
use Rattle.oak_model.specs.Limits.{Sizes, IsInLimits}
use Rattle.arena_core.specs.Arena.{blocks}
use Rattle.arena_core.specs.Blocks.{HoldsBlock}
use Rattle.arena_core.specs.Place.{block_in, class_from, class_in, content, length_in, place_word}
use Rattle.arena_core.proofs.ArenaSizes.{greatest_blocks}
use Rattle.arena_core.proofs.PlaceLaws.{block_in-word, class_below, class_from-number, class_in-word, length_in-word}
use Rattle.chunk_core.specs.declared.holds.Claim.{Claim}
use Rattle.chunk_core.specs.declared.holds.EntryWords.{EntryWords}
use Rattle.chunk_core.specs.declared.holds.PinnedRoom.{PinnedRoom}
use Rattle.chunk_core.specs.declared.holds.RoomHolds.{RoomHolds}
use Rattle.chunk_core.specs.LinkedEntries.{entries_in, linked}
use Rattle.chunk_core.specs.MayOnRooms.{HasClaim, PinsRoom}
use Rattle.chunk_core.specs.PinnedRooms.{RoomPinHolds}
use Rattle.chunk_core.specs.RoomCopies.{claim_after, entry_with}
use Rattle.chunk_core.specs.RoomReads.{claimed_at}
use Rattle.chunk_core.specs.RoomRule.{IsInOrder}
use Rattle.chunk_core.specs.RoomStep.{claim_entry, of_key, of_next, of_value, own_entry}
use Rattle.link_search.specs.Linked.{Later}
use Rattle.oak_core.specs.declared.states.PassState.{PassState}
use Rattle.oak_core.specs.EntryOwners.{is_key_word}
use Rattle.oak_core.specs.Memory.{Memory, memory}
use Rattle.oak_core.specs.RoomCalls.{ClaimsEntry}
use Rattle.oak_core.specs.Step.{MayOnRooms, on_rooms, Told}
use Rattle.chunk_ops.specs.Adds.{MayAdd}
use Rattle.chunk_ops.specs.LinkedTable.{HoldsIn, NamesKey}
use Rattle.chunk_ops.specs.PinRecords.{HasRoomPin, RoomPinned, pin_or, room_pin}
use Rattle.chunk_ops.specs.RoomLoads.{linked_in}
use Rattle.chunk_ops.proofs.ClaimSteps.{claim_blocks, claim_count, claim_made, next_blocks, own_rooms, value_blocks, with_claim}
use Rattle.chunk_ops.proofs.EntryKeys.{is_key-word}
use Rattle.chunk_ops.proofs.WordLoads.{pin_holds}

-- the place is a key word
pub key_named : (z : Sizes) (place : ℕ) (k : List ℕ) → NamesKey z place k → is_key_word place ≡ 1
key_named z place k n = is_key-word place (length k) (class_from (class_in place)) n.long n.class n.is_key.0 n.is_key.1 n.fits

-- and not 0
pub some_place : (z : Sizes) (place : ℕ) (k : List ℕ) → NamesKey z place k → 0 < place
unfolding length_in
some_place z place k n = let l = n.long in let a = n.is_key.0 in omega arith

-- a place word names the block that it is of
module _ (z : Sizes) (place : ℕ) (c : Class) (b : ℕ) (k : List ℕ) (v : PassState) (limits : IsInLimits z) (may : MayAdd z c b k v) (e : place ≡ place_word (class_number c) b (length k)) where
  small_block : b < 2 ^ 32
  small_block = let a = may.block.block.inside in let l = limits.blocks_greatest (class_number c) (class_below c) in let g = greatest_blocks (class_number c) in omega arith

  small_length : length k < 2 ^ 16
  small_length = let l = may.is_key.1 in omega arith

  number_is : class_in place ≡ class_number c
  number_is = ap class_in e ∙ class_in-word (class_number c) b (length k) small_block small_length

  pub class_is : class_from (class_in place) ≡ c
  class_is = ap class_from number_is ∙ class_from-number c

  pub block_is : block_in place ≡ b
  block_is = ap block_in e ∙ block_in-word (class_number c) b (length k) small_block small_length

  -- what a call begins with that may add a key
  pub begins_holding : (base : ℕ) → v.rooms.claim ≡ None → base ≡ (room_pin v).base → HoldsIn z base place k v
  begins_holding base none is = record {
    none = none;
    base = is;
    may = subst (λ (q : Class × ℕ). MayAdd z q.0 q.1 k v) (λ j. (sym class_is j, sym block_is j)) may;
    names = record {
      is_key = may.is_key;
      long = ap length_in e ∙ length_in-word (class_number c) b (length k) small_length;
      class = number_is ∙ ap class_number (sym class_is);
      fits = may.block.fits ∙ ap Some (sym class_is);
      inside = subst (λ (q : ℕ × ℕ). q.0 < blocks z q.1) (λ j. (sym block_is j, sym number_is j)) may.block.block.inside;
    };
  }

-- ---- where the claim alone is another

module _ (z : Sizes) (r : ℕ) (v w : PassState) (o : Option Claim) (e : w.rooms ≡ with_claim o v.rooms) where
  pub pin_stays : room_pin w ≡ room_pin v
  pin_stays = ap (λ (a : RoomHolds). pin_or a.pin) e

  pub pins_still : PinsRoom r v.rooms (room_pin v) → PinsRoom r w.rooms (room_pin w)
  pins_still q = subst (λ (a : RoomHolds). PinsRoom r a (pin_or a.pin)) (sym e) (record { is = q.is; room = q.room; good = q.good })

  pub pinned_still : HasRoomPin z r v → HasRoomPin z r w
  pinned_still p = subst (RoomPinned z r) (sym e) (record { inside = p.inside; pin = record { is = p.pin.is; room = p.pin.room; good = p.pin.good }; bounds = p.bounds; few = p.few; found = p.found; alike = p.alike })

-- where all is found that was
pub view_same : (p q : PinnedRoom) → q ≡ p → Later (linked_in p) (linked_in q)
view_same p q e = subst (λ (x : PinnedRoom). Later (linked_in p) (linked_in x)) (sym e) (record { counted = refl; prefix = refl; found = λ i f. f; key = λ i f. refl })

-- ---- the claim, before its key word is stored: the entry's words are as P says, and the pass has all else that it had

pub record HasClaimed (r i : ℕ) (P : EntryWords → Type 0) (v w : PassState) : Type 0 where
  pub claim : Claim
  pub room : claim.room ≡ r
  pub number : claim.number ≡ i
  pub entry : P claim.entry
  pub rooms : w.rooms ≡ with_claim (Some claim) v.rooms
  pub blocks : w.blocks ≡ v.blocks

module _ (z : Sizes) (call r old : ℕ) (v : PassState) (n : ℕ) (w : PassState) (p : HasRoomPin z r v) (t : ClaimsEntry z call r old v n w) (same : n ≡ old) where
  abbrev m : Memory
  m = memory z t.table.words

  abbrev bytes : ℕ → List ℕ
  bytes = content m.arena.bytes

  abbrev q : PinnedRoom
  q = room_pin v

  holds : RoomPinHolds z m.rooms bytes q
  holds = pin_holds z call r (on_rooms (claim_entry r old)) v n w p t

  order : IsInOrder z bytes (m.rooms.count q.room) (m.rooms.key q.room) (m.rooms.value q.room) (linked m.rooms q.room) (m.rooms.low q.room 0) (m.rooms.high q.room 0)
  order = t.rule.rooms.ordered q.room holds.cover

  count_is : entries_in (m.rooms.count q.room) ≡ entries_in old
  count_is = ap entries_in (ap m.rooms.count p.pin.room ∙ (claim_count z call r old v n w t ∙ same))

  no_word : m.rooms.key r (entries_in old) ≡ 0
  no_word = ap (λ (s : ℕ). m.rooms.key s (entries_in old)) (sym p.pin.room) ∙ (order.zeros (entries_in old) (let c = count_is in omega arith) t.may.rooms.1.room).0

  pub claimed_first : HasClaimed r (entries_in old) (λ (x : EntryWords). x.word ≡ 0) v w
  claimed_first = record { claim = claimed_at m.rooms bytes r (entries_in old); room = refl; number = refl; entry = no_word; rooms = claim_made z call r old v n w t same; blocks = claim_blocks z call r old v n w t }

module _ (z : Sizes) (call r i j x : ℕ) (P Q : EntryWords → Type 0) (v u : PassState) (h : HasClaimed r i P v u) (n : ℕ) (w : PassState) where
  pub owned_value : ((e : EntryWords) → P e → Q (entry_with of_value x e)) → Told z call (on_rooms (own_entry of_value r j x)) u n w → HasClaimed r i Q v w
  owned_value f t = record {
    claim = record h.claim { entry = entry_with of_value x h.claim.entry };
    room = h.room;
    number = h.number;
    entry = f h.claim.entry h.entry;
    rooms = own_rooms z call of_value r j x u n w t ∙ ap (λ (a : RoomHolds). with_claim (claim_after (content (memory z t.table.words).arena.bytes) of_value x a.claim) a) h.rooms;
    blocks = value_blocks z call r j x u n w t ∙ h.blocks;
  }

  pub owned_next : ((e : EntryWords) → P e → Q (entry_with of_next x e)) → Told z call (on_rooms (own_entry of_next r j x)) u n w → HasClaimed r i Q v w
  owned_next f t = record {
    claim = record h.claim { entry = entry_with of_next x h.claim.entry };
    room = h.room;
    number = h.number;
    entry = f h.claim.entry h.entry;
    rooms = own_rooms z call of_next r j x u n w t ∙ ap (λ (a : RoomHolds). with_claim (claim_after (content (memory z t.table.words).arena.bytes) of_next x a.claim) a) h.rooms;
    blocks = next_blocks z call r j x u n w t ∙ h.blocks;
  }

pub claims_it : (r i : ℕ) (P : EntryWords → Type 0) (v w : PassState) → (h : HasClaimed r i P v w) → PinsRoom r v.rooms (room_pin v) → HasClaim r i w.rooms (room_pin v) h.claim
claims_it r i P v w h q = record { is = ap (λ (a : RoomHolds). a.claim) h.rooms; room = h.room; number = h.number; pin = record { is = ap (λ (a : RoomHolds). a.pin) h.rooms ∙ q.is; room = q.room; good = q.good } }

-- ---- what stores to the claimed entry ask

module _ (z : Sizes) (call r i : ℕ) (v : PassState) (p : PinnedRoom) (c : Claim) (has : HasClaim r i v.rooms p c) (lr : r < z.chunks) (li : i < z.entries) where
  pub may_value : (x : ℕ) → x < 2 ^ 64 → MayOnRooms z call (own_entry of_value r i x) v
  may_value x small = record { inside = (lr, li); rooms = (p, c, has, tt, small); block = tt }

  pub may_next : (x : ℕ) → x < 2 ^ 64 → MayOnRooms z call (own_entry of_next r i x) v
  may_next x small = record { inside = (lr, li); rooms = (p, c, has, tt, small); block = tt }

  pub may_key : (x : ℕ) → x < 2 ^ 64 → c.entry.word ≡ 0 → is_key_word x ≡ 1 → HoldsBlock z (class_in x) (block_in x) v.blocks → MayOnRooms z call (own_entry of_key r i x) v
  may_key x small bare key block = record { inside = (lr, li); rooms = (p, c, has, inr bare, small); block = λ _. (key, block) }

  pub may_drop : MayOnRooms z call (own_entry of_key r i 0) v
  may_drop = record { inside = (lr, li); rooms = (p, c, has, inl refl, (omega arith)); block = λ l. absurd (omega arith) }
