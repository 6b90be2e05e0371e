-- The call that claims an entry for the key of a block that the pass holds, step by step: the count, then the three words of the entry.
use Rattle.std.proofs.Common.{◌≡◌, ℕ, ◌+◌, ◌^◌, ◌<◌, ◌≤◌, List, refl, sym, subst, arith}
use Rattle.oak_model.specs.declared.limits.TheConstants.{GREATEST_ENTRIES}
use Rattle.oak_model.specs.Limits.{Sizes}
use Rattle.arena_core.specs.Blocks.{HoldsBlock}
use Rattle.arena_core.specs.Place.{block_in, class_in}
use Rattle.chunk_core.specs.declared.holds.EntryWords.{EntryWords}
use Rattle.chunk_core.specs.LinkedEntries.{entries_in}
use Rattle.chunk_core.specs.RoomStep.{claim_entry, of_key, of_next, of_value, own_entry}
use Rattle.link_search.specs.Linked.{Later}
use Rattle.oak_core.specs.declared.states.PassState.{PassState}
use Rattle.oak_core.specs.RoomCalls.{ClaimsEntry}
use Rattle.oak_core.specs.Step.{MayOnRooms, on_rooms, Told}
use Rattle.chunk_ops.specs.LinkedTable.{ClaimsIn, HoldsIn, PointsIn}
use Rattle.chunk_ops.specs.PinRecords.{HasRoomPin, room_pin}
use Rattle.chunk_ops.specs.RoomLoads.{linked_in}
use Rattle.chunk_ops.proofs.KeyClaims.{HasClaimed, claimed_first, claims_it, key_named, may_key, may_next, may_value, owned_next, owned_value, pin_stays, pinned_still, view_same}
use Rattle.chunk_ops.proofs.KeyStores.{HasPlaced, block_held, claims_key, key_rooms, points_key}

-- the count with one entry more is one of 64 bits
pub count_fits : (entries n : ℕ) → entries ≤ GREATEST_ENTRIES → n < 2 ^ 64 → entries_in n < entries → n + 1 < 2 ^ 64
unfolding entries_in
count_fits entries n few small room = omega arith

module _ (z : Sizes) (r base place old l : ℕ) (k : List ℕ) (v : PassState) (p : HasRoomPin z r v) (h : HoldsIn z base place k v) (few : entries_in old < z.entries) where
  abbrev i : ℕ
  i = entries_in old

  pub may_claim : (call : ℕ) → MayOnRooms z call (claim_entry r old) v
  may_claim call = record { inside = (p.inside, omega arith); rooms = (room_pin v, record { pin = p.pin; none = h.none; room = few }) }

  module _ (first n : ℕ) (v1 : PassState) (t1 : ClaimsEntry z first r old v n v1) (same : n ≡ old) where
    claimed : HasClaimed r (entries_in old) (λ (x : EntryWords). x.word ≡ 0) v v1
    claimed = claimed_first z first r old v n v1 p t1 same

    pub may_floor : (call : ℕ) → base < 2 ^ 64 → MayOnRooms z call (own_entry of_value r (entries_in old) base) v1
    may_floor call small = may_value z call r i v1 (room_pin v) claimed.claim (claims_it r i (λ (x : EntryWords). x.word ≡ 0) v v1 claimed p.pin) p.inside few base small

    module _ (second n2 : ℕ) (v2 : PassState) (t2 : Told z second (on_rooms (own_entry of_value r (entries_in old) base)) v1 n2 v2) where
      abbrev HasFloor : EntryWords → Type 0
      HasFloor x = (x.word ≡ 0) × (x.value ≡ base)

      floored : HasClaimed r (entries_in old) (λ (x : EntryWords). (x.word ≡ 0) × (x.value ≡ base)) v v2
      floored = owned_value z second r i i base (λ (x : EntryWords). x.word ≡ 0) HasFloor v v1 claimed n2 v2 (λ x w. (w, refl)) t2

      pub may_point : (call : ℕ) → l < 2 ^ 64 → MayOnRooms z call (own_entry of_next r (entries_in old) l) v2
      may_point call small = may_next z call r i v2 (room_pin v) floored.claim (claims_it r i HasFloor v v2 floored p.pin) p.inside few l small

      module _ (third n3 : ℕ) (v3 : PassState) (t3 : Told z third (on_rooms (own_entry of_next r (entries_in old) l)) v2 n3 v3) where
        placed : HasClaimed r (entries_in old) (HasPlaced base l) v v3
        placed = owned_next z third r i i l HasFloor (HasPlaced base l) v v2 floored n3 v3 (λ x w. record { word = w.0; value = w.1; next = refl }) t3

        pub may_name : (call : ℕ) → place < 2 ^ 64 → MayOnRooms z call (own_entry of_key r (entries_in old) place) v3
        may_name call small = may_key z call r i v3 (room_pin v) placed.claim (claims_it r i (HasPlaced base l) v v3 placed p.pin) p.inside few place small placed.entry.word (key_named z place k h.names)
            (subst (HoldsBlock z (class_in place) (block_in place)) (sym placed.blocks) (block_held z base place k v h))

        module _ (fourth n4 : ℕ) (v4 : PassState) (t4 : Told z fourth (on_rooms (own_entry of_key r (entries_in old) place)) v3 n4 v4) where
          pub claims_then : ClaimsIn z r (entries_in old) base place k v4.rooms
          claims_then = claims_key z fourth r i base place l k v v3 p h placed few n4 v4 t4

          pub points_then : PointsIn l v4.rooms
          points_then = points_key z fourth r i base place l k v v3 p h placed few n4 v4 t4

          pub pinned_then : HasRoomPin z r v4
          pinned_then = let e = key_rooms z fourth r i base place l k v v3 p h placed few n4 v4 t4 in pinned_still z r v v4 _ e.1 p

          pub later_then : Later (linked_in (room_pin v)) (linked_in (room_pin v4))
          later_then = let e = key_rooms z fourth r i base place l k v v3 p h placed few n4 v4 t4 in view_same (room_pin v) (room_pin v4) (pin_stays z r v v4 _ e.1)
