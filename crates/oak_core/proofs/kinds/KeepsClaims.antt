-- A pass that claims the entry past the count of a room keeps the rule.
use Rattle.std.proofs.Common.{◌≡◌, ℕ, ◌+◌, ◌^◌, ◌<◌, ◌==◌, cond, false, List, map, set, sym, refl, ap, ◌∙◌, subst, arith, Some}
use mathlib.Core.Option.{some}
use lib.ListN.{get_elem?}
use Rattle.oak_model.specs.Kept.{KeptNumbersStand}
use Rattle.oak_model.specs.Limits.{Sizes}
use Rattle.oak_model.proofs.Lists.{map_set}
use Rattle.arena_core.specs.Place.{content}
use Rattle.chunk_core.specs.declared.holds.PinnedRoom.{PinnedRoom}
use Rattle.chunk_core.specs.declared.holds.RoomHolds.{RoomHolds}
use Rattle.chunk_core.specs.KeptRooms.{kept_of_rooms}
use Rattle.chunk_core.specs.LinkedEntries.{entries_in}
use Rattle.chunk_core.specs.MayOnRooms.{MayClaim}
use Rattle.chunk_core.specs.RoomReads.{claimed_at}
use Rattle.chunk_core.specs.RoomStep.{claim_entry, put_room}
use Rattle.chunk_core.specs.Rooms.{at_count, read_room, same_room_spot}
use Rattle.chunk_core.proofs.ClaimEntry.{claim_covers, claim_owners, claim_rooms, unclaimed}
use Rattle.chunk_core.proofs.CountLoads.{pin_holds}
use Rattle.chunk_core.proofs.KeptClaims.{kept_claimed}
use Rattle.oak_core.specs.declared.states.PassState.{PassState}
use Rattle.oak_core.specs.EntryOwners.{is_key_word}
use Rattle.oak_core.specs.Memory.{Memory, memory}
use Rattle.oak_core.specs.PassState.{rooms_held}
use Rattle.oak_core.specs.Rule.{ClaimHasKey, Rule}
use Rattle.oak_core.specs.Step.{on_rooms, MayOnRoom, table_after}
use Rattle.oak_core.specs.TableState.{TableState}
use Rattle.oak_core.proofs.covers.PinExchanges.{RoomsBehind, rooms_behind, word_exchange_small, word_exchanged, word_small}
use Rattle.oak_core.proofs.kinds.KeepsRoomPins.{at_rooms, step_rule}
use Rattle.oak_core.proofs.known.PinsKnown.{pins_same}
use Rattle.oak_model.proofs.Counting.{decided}
use Rattle.std.proofs.Common.{inl}

-- a count that has room for one entry more is below the last number
pub count_small : (n : ℕ) → n < 2 ^ 64 → entries_in n + 1 < 2 ^ 16 → n + 1 < 2 ^ 64
unfolding entries_in
count_small n small left = omega arith

module _ (z : Sizes) (s : TableState) (seat : ℕ) (v : PassState) (r : Rule z s) (here : get_elem? s.states seat ≡ some v) (call : ℕ) (going : v.numbers.spent ≡ false) where
  abbrev m : Memory
  m = memory z s.words

  abbrev bytes : ℕ → List ℕ
  bytes = content m.arena.bytes

  abbrev hs : List RoomHolds
  hs = map rooms_held s.states

  own : get_elem? hs seat ≡ some v.rooms
  own = at_rooms z s seat v r here

  module _ (k old : ℕ) (may : MayOnRoom z (claim_entry k old) v) where
    abbrev p : PinnedRoom
    p = may.rooms.0

    abbrev asks : MayClaim z k old v.rooms p
    asks = may.rooms.1

    -- there is room for the entry
    left : entries_in old + 1 < 2 ^ 16
    left = let f = asks.room in let e = r.sizes.entries_greatest in omega arith

    -- what stands behind the step, where the count of the room t was n
    abbrev Stands : ℕ → ℕ → Type 0
    Stands t n = RoomsBehind z s seat v r here (put_room m.rooms (at_count t) (n + 1)) (set hs seat (record v.rooms { claim = Some (claimed_at m.rooms bytes t (entries_in n)) }))

    in_room : m.rooms.count p.room ≡ old → Stands p.room (m.rooms.count p.room)
    in_room e = let few : entries_in (m.rooms.count p.room) < z.entries = (let c = ap entries_in e in let f = asks.room in omega arith) in let more : entries_in (m.rooms.count p.room) + 1 < 2 ^ 16 = (let c = ap entries_in e in let f = left in omega arith) in
        rooms_behind z s seat v r here (put_room m.rooms (at_count p.room) (m.rooms.count p.room + 1)) (set hs seat (record v.rooms { claim = Some (claimed_at m.rooms bytes p.room (entries_in (m.rooms.count p.room))) }))
        (claim_rooms z m.rooms bytes is_key_word hs r.rooms r.covers seat v.rooms own p asks.pin.is asks.pin.good asks.none few more)
        (claim_covers z m.rooms bytes is_key_word hs r.rooms r.covers seat v.rooms own p asks.pin.is asks.pin.good asks.none few more)
        (claim_owners z m.rooms bytes is_key_word hs r.rooms r.covers seat v.rooms own p asks.pin.is asks.pin.good asks.none few more)
        (subst (KeptNumbersStand same_room_spot (read_room (put_room m.rooms (at_count p.room) (m.rooms.count p.room + 1)))) (sym (map_set kept_of_rooms hs seat (record v.rooms { claim = Some (claimed_at m.rooms bytes p.room (entries_in (m.rooms.count p.room))) })))
        (kept_claimed z m.rooms bytes hs r.rooms r.kept_in_rooms seat v.rooms own p.room (entries_in (m.rooms.count p.room)) (m.rooms.count p.room + 1) (pin_holds z m.rooms bytes is_key_word hs r.rooms r.covers seat v.rooms own p asks.pin.is asks.pin.good).cover asks.none
        (unclaimed z m.rooms bytes is_key_word hs r.rooms r.covers seat v.rooms own p asks.pin.is asks.pin.good asks.none few more)))

    claimed : m.rooms.count k ≡ old → Stands k old
    claimed e = let same : m.rooms.count p.room ≡ old = ap m.rooms.count asks.pin.room ∙ e in subst (λ (t : ℕ × ℕ). Stands t.0 t.1) (λ i. (asks.pin.room i, same i)) (in_room same)

    -- the entry past the count has no key word
    none_there : m.rooms.count k ≡ old → m.rooms.key k (entries_in old) ≡ 0
    none_there e = let o = (r.rooms.ordered p.room (pin_holds z m.rooms bytes is_key_word hs r.rooms r.covers seat v.rooms own p asks.pin.is asks.pin.good).cover).zeros (entries_in old) (let c = ap entries_in (ap m.rooms.count asks.pin.room ∙ e) in omega arith) asks.room in
        ap (λ (t : ℕ). m.rooms.key t (entries_in old)) (sym asks.pin.room) ∙ o.0

    no_key : ClaimHasKey (cond (m.rooms.count k == old) (Some (claimed_at m.rooms bytes k (entries_in old))) v.rooms.claim)
    no_key = decided (m.rooms.count k) old (λ t. ClaimHasKey (cond t (Some (claimed_at m.rooms bytes k (entries_in old))) v.rooms.claim)) (λ e. inl (none_there e)) (λ _. (r.passes seat v here).claim)

    pub claim_entry_keeps : Rule z (table_after z call (on_rooms (claim_entry k old)) seat v s)
    claim_entry_keeps = let u = word_exchanged z s seat v r here (at_count k) old (old + 1) may.inside (λ t. record v.rooms { claim = cond t (Some (claimed_at m.rooms bytes k (entries_in old))) v.rooms.claim }) refl claimed in
        step_rule z s seat v r here call going (claim_entry k old) may.inside refl refl refl (word_exchange_small z s seat v r here (at_count k) old (old + 1) may.inside (λ e. count_small old (word_small z s seat v r here (at_count k) old (old + 1) may.inside e) left))
        u.bundles u.blocks u.covers (pins_same v _ refl refl (r.heard.pins seat v here)) no_key
