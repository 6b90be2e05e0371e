-- A word names at most one room, and one word of it, so a step that may be taken is told of whatever it names.
use Rattle.std.proofs.Common.{◌≡◌, ℕ, Option, Some, None, ◌+◌, ◌-◌, ◌%◌, ◌^◌, ◌<◌, ◌==◌, false, sym, refl, ap, ◌∙◌, subst, arith}
use prog.Atomic.{either}
use Rattle.atomic_table.specs.Table.{Me, Allows}
use Rattle.oak_model.specs.declared.writes.Kind.{Kind}
use Rattle.oak_model.specs.Limits.{Sizes}
use Rattle.chunk_core.specs.RoomStep.{EntryField, of_key, of_value, of_next, entry_spot, pin_room, unpin_room, claim_entry, own_entry, link_entry, set_value, unlink_entry}
use Rattle.chunk_core.specs.LinkWords.{link_spot}
use Rattle.chunk_core.specs.Rooms.{RoomSpot, at_room_pin, at_value, at_next, room_at, part_at, IsInRooms, at_count}
use Rattle.oak_core.specs.declared.states.PassState.{PassState}
use Rattle.oak_core.specs.Memory.{Spot, in_rooms, word_count}
use Rattle.oak_core.specs.RoomCalls.{NamesRoomPin, NamesEntryWord, NamesCount, NamesLink, PinsRoomWord, UnpinsRoomWord, ClaimsEntry, OwnsEntry, LinksEntry, SetsValueWord, UnlinksEntryWord}
use Rattle.oak_core.specs.Running.{Holds, KeepsSeat}
use Rattle.oak_core.specs.Step.{on_rooms, MayOnRooms}
use Rattle.oak_core.proofs.seats.Allowed.{allows_at}
use Rattle.oak_core.proofs.memory.Words.{index_below, index_apart}

-- the room in a spot
pub room_of_spot : Spot → ℕ
room_of_spot (in_rooms p) = room_at p
room_of_spot _ = 0

pub room_of_spot-is : (p : RoomSpot) → room_of_spot (in_rooms p) ≡ room_at p
unfolding room_of_spot
room_of_spot-is p = refl

pub one_room : (z : Sizes) (r k word : ℕ) → NamesRoomPin z r word → NamesRoomPin z k word → r ≡ k
one_room z r k word n m = let s = index_apart z (in_rooms (at_room_pin r)) (in_rooms (at_room_pin k)) (n.inside, (omega arith)) (m.inside, (omega arith)) (sym n.word_is ∙ m.word_is) in
    sym (room_of_spot-is (at_room_pin r)) ∙ (ap room_of_spot s ∙ room_of_spot-is (at_room_pin k))

-- it is one of the table's
pub room_pin_below : (z : Sizes) (r word : ℕ) → NamesRoomPin z r word → word < word_count z
room_pin_below z r word n = let e = n.word_is in let b = index_below z (in_rooms (at_room_pin r)) (n.inside, (omega arith)) in omega arith

pub one_count : (z : Sizes) (r k word : ℕ) → NamesCount z r word → NamesCount z k word → r ≡ k
one_count z r k word n m = let s = index_apart z (in_rooms (at_count r)) (in_rooms (at_count k)) (n.inside, (omega arith)) (m.inside, (omega arith)) (sym n.word_is ∙ m.word_is) in
    sym (room_of_spot-is (at_count r)) ∙ (ap room_of_spot s ∙ room_of_spot-is (at_count k))

pub count_below : (z : Sizes) (r word : ℕ) → NamesCount z r word → word < word_count z
count_below z r word n = let e = n.word_is in let b = index_below z (in_rooms (at_count r)) (n.inside, (omega arith)) in omega arith

-- the entry that the link in a spot is of, where it is not a first one
from_of_spot : Spot → Option ℕ
from_of_spot (in_rooms (at_next r i)) = Some i
from_of_spot _ = None

room_of_link : (r : ℕ) (from : Option ℕ) → room_of_spot (in_rooms (link_spot r from)) ≡ r
unfolding room_of_spot
room_of_link r None = refl
room_of_link r (Some q) = refl

from_of_link : (r : ℕ) (from : Option ℕ) → from_of_spot (in_rooms (link_spot r from)) ≡ from
unfolding from_of_spot
from_of_link r None = refl
from_of_link r (Some q) = refl

-- a word is one link at most
pub one_link : (z : Sizes) (r k : ℕ) (from other : Option ℕ) (word : ℕ) → NamesLink z r from word → NamesLink z k other word → (r ≡ k) × (from ≡ other)
one_link z r k from other word n m = let s = index_apart z (in_rooms (link_spot r from)) (in_rooms (link_spot k other)) n.inside m.inside (sym n.word_is ∙ m.word_is) in (
  sym (room_of_link r from) ∙ (ap room_of_spot s ∙ room_of_link k other),
  sym (from_of_link r from) ∙ (ap from_of_spot s ∙ from_of_link k other),
)

pub link_below : (z : Sizes) (r : ℕ) (from : Option ℕ) (word : ℕ) → NamesLink z r from word → word < word_count z
link_below z r from word n = let e = n.word_is in let b = index_below z (in_rooms (link_spot r from)) n.inside in omega arith

-- the number of the entry in a spot, and which of its words it is

entry_of_spot : Spot → ℕ
entry_of_spot (in_rooms p) = part_at p
entry_of_spot _ = 0

field_of_spot : Spot → EntryField
field_of_spot (in_rooms (at_value r i)) = of_value
field_of_spot (in_rooms (at_next r i)) = of_next
field_of_spot _ = of_key

field_in : (f : EntryField) (r i : ℕ) → field_of_spot (in_rooms (entry_spot f r i)) ≡ f
unfolding field_of_spot
field_in of_key r i = refl
field_in of_value r i = refl
field_in of_next r i = refl

room_in : (f : EntryField) (r i : ℕ) → room_of_spot (in_rooms (entry_spot f r i)) ≡ r
unfolding room_of_spot
room_in of_key r i = refl
room_in of_value r i = refl
room_in of_next r i = refl

entry_in : (f : EntryField) (r i : ℕ) → entry_of_spot (in_rooms (entry_spot f r i)) ≡ i
unfolding entry_of_spot
entry_in of_key r i = refl
entry_in of_value r i = refl
entry_in of_next r i = refl

entry_inside : (z : Sizes) (f : EntryField) (r i : ℕ) → r < z.chunks → i < z.entries → IsInRooms z (entry_spot f r i)
entry_inside z of_key r i h l = (h, l)
entry_inside z of_value r i h l = (h, l)
entry_inside z of_next r i h l = (h, l)

-- a word is one of one entry's, and one of its words
pub one_entry : (z : Sizes) (f g : EntryField) (r i k j word : ℕ) → NamesEntryWord z f r i word → NamesEntryWord z g k j word → (f ≡ g) × (r ≡ k) × (i ≡ j)
one_entry z f g r i k j word n m = let s = index_apart z (in_rooms (entry_spot f r i)) (in_rooms (entry_spot g k j)) (entry_inside z f r i n.inside n.entry) (entry_inside z g k j m.inside m.entry) (sym n.word_is ∙ m.word_is) in (
  sym (field_in f r i) ∙ (ap field_of_spot s ∙ field_in g k j),
  sym (room_in f r i) ∙ (ap room_of_spot s ∙ room_in g k j),
  sym (entry_in f r i) ∙ (ap entry_of_spot s ∙ entry_in g k j),
)

pub entry_below : (z : Sizes) (f : EntryField) (r i word : ℕ) → NamesEntryWord z f r i word → word < word_count z
entry_below z f r i word n = let e = n.word_is in let b = index_below z (in_rooms (entry_spot f r i)) (entry_inside z f r i n.inside n.entry) in omega arith

module _ (z : Sizes) (start call : ℕ) (slots id : ℕ) (me : Me (Unit {0}) PassState) (going : me.0.numbers.spent ≡ false) where
  pub allows_pin_room : (word operand r : ℕ) → NamesRoomPin z r word → operand ≡ 1 → MayOnRooms z call (pin_room r) me.0
      → Allows (Holds z start) slots id me word (λ n. (n + operand) % 2 ^ 64) (λ n m. ((k : ℕ) → NamesRoomPin z k word → PinsRoomWord z call k me.0 n m.0) × KeepsSeat me m)
  allows_pin_room word operand r names e may = allows_at z start call slots id me going (on_rooms (pin_room r)) (λ n w. (k : ℕ) → NamesRoomPin z k word → PinsRoomWord z call k me.0 n w) word (λ n. (n + operand) % 2 ^ 64)
      (sym names.word_is) (λ i n. (n + sym e i) % 2 ^ 64) may
      (λ n w told k named. subst (λ (j : ℕ). PinsRoomWord z call j me.0 n w) (one_room z r k word names named) told)

  pub allows_unpin_room : (word operand r : ℕ) → NamesRoomPin z r word → operand ≡ 1 → MayOnRooms z call (unpin_room r) me.0
      → Allows (Holds z start) slots id me word (λ n. (n + (2 ^ 64 - operand)) % 2 ^ 64) (λ n m. ((k : ℕ) → NamesRoomPin z k word → UnpinsRoomWord z call k me.0 n m.0) × KeepsSeat me m)
  allows_unpin_room word operand r names e may = allows_at z start call slots id me going (on_rooms (unpin_room r)) (λ n w. (k : ℕ) → NamesRoomPin z k word → UnpinsRoomWord z call k me.0 n w) word (λ n. (n + (2 ^ 64 - operand)) % 2 ^ 64)
      (sym names.word_is) (λ i n. (n + (2 ^ 64 - sym e i)) % 2 ^ 64) may
      (λ n w told k named. subst (λ (j : ℕ). UnpinsRoomWord z call j me.0 n w) (one_room z r k word names named) told)

  pub allows_claim : (word old new r : ℕ) → NamesCount z r word → new ≡ old + 1 → MayOnRooms z call (claim_entry r old) me.0
      → Allows (Holds z start) slots id me word (λ n. either (n == old) new n) (λ n m. ((k : ℕ) → NamesCount z k word → ClaimsEntry z call k old me.0 n m.0) × KeepsSeat me m)
  allows_claim word old new r names e may = allows_at z start call slots id me going (on_rooms (claim_entry r old)) (λ n w. (k : ℕ) → NamesCount z k word → ClaimsEntry z call k old me.0 n w) word (λ n. either (n == old) new n)
      (sym names.word_is) (λ i n. either (n == old) (sym e i) n) may
      (λ n w told k named. subst (λ (j : ℕ). ClaimsEntry z call j old me.0 n w) (one_count z r k word names named) told)

  pub allows_own : (word x : ℕ) (f : EntryField) (r i : ℕ) → NamesEntryWord z f r i word → MayOnRooms z call (own_entry f r i x) me.0
      → Allows (Holds z start) slots id me word (λ _. x) (λ _ m. ((g : EntryField) (k j : ℕ) → NamesEntryWord z g k j word → OwnsEntry z call g k j x me.0 m.0) × KeepsSeat me m)
  allows_own word x f r i names may = allows_at z start call slots id me going (on_rooms (own_entry f r i x)) (λ _ w. (g : EntryField) (k j : ℕ) → NamesEntryWord z g k j word → OwnsEntry z call g k j x me.0 w) word (λ _. x)
      (sym names.word_is) refl may
      (λ n w told g k j named. let o = one_entry z f g r i k j word names named in subst (λ (t : EntryField × (ℕ × ℕ)). OwnsEntry z call t.0 t.1.0 t.1.1 x me.0 w) (λ q. (o.0 q, (o.1 q, o.2 q))) (n, told))

  pub allows_link : (word old new r : ℕ) (from : Option ℕ) (i : ℕ) → NamesLink z r from word → new ≡ i + 1 → MayOnRooms z call (link_entry r from i old) me.0
      → Allows (Holds z start) slots id me word (λ n. either (n == old) new n) (λ n m. ((k : ℕ) (other : Option ℕ) (j : ℕ) → NamesLink z k other word → new ≡ j + 1 → LinksEntry z call k other j old me.0 n m.0) × KeepsSeat me m)
  allows_link word old new r from i names e may = allows_at z start call slots id me going (on_rooms (link_entry r from i old)) (λ n w. (k : ℕ) (other : Option ℕ) (j : ℕ) → NamesLink z k other word → new ≡ j + 1 → LinksEntry z call k other j old me.0 n w) word (λ n. either (n == old) new n)
      (sym names.word_is) (λ q n. either (n == old) (sym e q) n) may
      (λ n w told k other j named g. let o = one_link z r k from other word names named in let same : i ≡ j = omega arith in subst (λ (t : ℕ × (Option ℕ × ℕ)). LinksEntry z call t.0 t.1.0 t.1.1 old me.0 n w) (λ q. (o.0 q, (o.1 q, same q))) told)

  pub allows_set : (word old new r i : ℕ) (kind : Kind) → NamesEntryWord z of_value r i word → MayOnRooms z call (set_value r i old new kind) me.0
      → Allows (Holds z start) slots id me word (λ n. either (n == old) new n) (λ n m. ((k j : ℕ) → NamesEntryWord z of_value k j word → SetsValueWord z call k j old new kind me.0 n m.0) × KeepsSeat me m)
  allows_set word old new r i kind names may = allows_at z start call slots id me going (on_rooms (set_value r i old new kind)) (λ n w. (k j : ℕ) → NamesEntryWord z of_value k j word → SetsValueWord z call k j old new kind me.0 n w) word (λ n. either (n == old) new n)
      (sym names.word_is) refl may
      (λ n w told k j named. let o = one_entry z of_value of_value r i k j word names named in subst (λ (t : ℕ × ℕ). SetsValueWord z call t.0 t.1 old new kind me.0 n w) (λ q. (o.1 q, o.2 q)) told)

  pub allows_unlink : (word x r i : ℕ) → NamesEntryWord z of_value r i word → MayOnRooms z call (unlink_entry r i x) me.0
      → Allows (Holds z start) slots id me word (λ _. x) (λ _ m. ((k j : ℕ) → NamesEntryWord z of_value k j word → UnlinksEntryWord z call k j x me.0 m.0) × KeepsSeat me m)
  allows_unlink word x r i names may = allows_at z start call slots id me going (on_rooms (unlink_entry r i x)) (λ _ w. (k j : ℕ) → NamesEntryWord z of_value k j word → UnlinksEntryWord z call k j x me.0 w) word (λ _. x)
      (sym names.word_is) refl may
      (λ n w told k j named. let o = one_entry z of_value of_value r i k j word names named in subst (λ (t : ℕ × ℕ). UnlinksEntryWord z call t.0 t.1 x me.0 w) (λ q. (o.1 q, o.2 q)) (n, told))
