-- Where the value of a key stands in the table of a pass that is alone: in the one open room that has the key in its range.
use Rattle.std.proofs.Common.{◌≡◌, ℕ, ◌+◌, true, List, sym, ap, ◌∙◌, subst}
use Rattle.pin_word.specs.PinWord.{state_of}
use Rattle.oak_model.specs.Counts.{one_at, total}
use Rattle.oak_model.specs.Key.{is_key}
use Rattle.oak_model.specs.KeyNumber.{key_number}
use Rattle.oak_model.specs.Limits.{Sizes}
use Rattle.oak_model.proofs.KeyLaws.{is_key-is}
use Rattle.oak_model.proofs.NumberLaws.{key_number_is}
use Rattle.arena_core.specs.Place.{content}
use Rattle.chunk_core.specs.declared.holds.RoomCopy.{RoomCopy}
use Rattle.chunk_core.specs.declared.states.TheConstants.{FROZEN, OPEN}
use Rattle.chunk_core.specs.CoverSums.{weight}
use Rattle.chunk_core.specs.Covers.{key_at}
use Rattle.chunk_core.specs.Spans.{within}
use Rattle.oak_core.specs.declared.states.PassState.{PassState}
use Rattle.oak_core.specs.Memory.{memory}
use Rattle.chunk_ops.specs.AskedRanges.{CoversKey}
use Rattle.chunk_ops.specs.FindsAlone.{IsLinked, LacksKeyAt, linked_key}
use Rattle.chunk_core.specs.Covers.{span_in}
use Rattle.lone_counts.specs.LoneTable.{HasValue, LoneTable}
use Rattle.point_ops.specs.LoneInserts.{SpareOnly}
use Rattle.point_ops.specs.LonePuts.{IsOpenIn}
use Rattle.rebalance.specs.Copies.{copy_span}
use Rattle.rebalance.specs.LoneWords.{IsOpen, room_in}
use Rattle.oak_map.proofs.LoneStates.{table_divides}
use Rattle.oak_map.proofs.SettledStays.{RoomsStay, carried, opens_still, spare_stays}
use Rattle.oak_map.proofs.SpareWords.{links_stay, linked_is_key, linked_key_stays}

-- an open room is a cover
pub weighs_one : (n : ℕ) → state_of n ≡ OPEN → weight n ≡ 1
unfolding one_at
weighs_one n e = ap (λ (s : ℕ). one_at s OPEN + one_at s FROZEN) e

pub room_opens : (z : Sizes) (words : List ℕ) (key : List ℕ) (h : HasValue z words key) → IsOpen z words h.room
room_opens z words key h = record { inside = h.inside; state = h.open_is }

-- two open rooms that have the key are one
pub one_room : (z : Sizes) (words key : List ℕ) (v : PassState) (r s : ℕ) → LoneTable z words v → IsOpen z words r → IsOpen z words s → within (copy_span (room_in z words r)) (key_number key) ≡ 1 → within (copy_span (room_in z words s)) (key_number key) ≡ 1 → r ≡ s
one_room z words key v r s l o p e f = (table_divides z words v l).once (key_number key) r s o p e f

-- the number of the linked key is that which stands there
pub linked_number : (z : Sizes) (words : List ℕ) (v : PassState) (r i : ℕ) → LoneTable z words v → IsOpen z words r → IsLinked (memory z words) r i → key_number (linked_key (memory z words) r i) ≡ key_at (content (memory z words).arena.bytes) ((memory z words).rooms.key r i)
linked_number z words v r i l o used = (linked_is_key z words v l.moment r i o.inside (weighs_one ((memory z words).rooms.pin r) o.state) used).number

-- where no entry of the room had the key before words changed that nobody has, the key has no value behind it
pub missing_valueless : (z : Sizes) (key : List ℕ) (w : PassState) (b c : List ℕ) (r : ℕ) → is_key key ≡ true → LoneTable z c w → SpareOnly z b c → IsOpenIn z r b → CoversKey key (span_in (memory z b).rooms r) → LacksKeyAt (memory z b) r key → HasValue z c key → ⊥
missing_valueless z key w b c r is table spare o covers none h = none h.entry linked_before key_same
  where
    stays : RoomsStay z b c
    stays = spare_stays z b c spare

    open_now : IsOpen z c r
    open_now = opens_still z b c stays r (record { inside = o.0; state = o.1 })

    same : h.room ≡ r
    same = one_room z c key w h.room r table (room_opens z c key h) open_now h.covers (carried z b c stays (λ (x : RoomCopy). within (copy_span x) (key_number key) ≡ 1) r covers)

    linked_now : IsLinked (memory z c) r h.entry
    linked_now = subst (λ (n : ℕ). IsLinked (memory z c) n h.entry) same h.linked

    linked_before : IsLinked (memory z b) r h.entry
    linked_before = ap (total (λ j. one_at j h.entry)) (sym (links_stay z b c spare r)) ∙ linked_now

    number_is : key_number (linked_key (memory z c) r h.entry) ≡ key_number key
    number_is = linked_number z c w r h.entry table open_now linked_now ∙ subst (λ (n : ℕ). key_at (content (memory z c).arena.bytes) ((memory z c).rooms.key n h.entry) ≡ key_number key) same h.key_is

    key_same : linked_key (memory z b) r h.entry ≡ key
    key_same = let one = weighs_one ((memory z c).rooms.pin r) open_now.state in let k = linked_is_key z c w table.moment r h.entry open_now.inside one linked_now in let q = is_key-is key is in
        sym (linked_key_stays z b c spare w table.moment r h.entry open_now.inside one linked_now) ∙ key_number_is (linked_key (memory z c) r h.entry) key k.bytes q.1 k.is_key q.0 number_is
