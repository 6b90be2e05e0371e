-- A word names at most one word of the rooms, so a step of a rebalance that may be taken is told of whatever it names.
use Rattle.std.proofs.Common.{◌≡◌, ℕ, ◌+◌, ◌-◌, ◌*◌, ◌%◌, ◌^◌, ◌<◌, ◌==◌, false, sym, ap, ◌∙◌, refl, subst, arith}
use prog.Atomic.{either}
use Rattle.atomic_table.specs.Table.{Me, Allows}
use Rattle.pin_word.specs.PinWord.{STATE}
use Rattle.oak_model.specs.Limits.{Sizes}
use Rattle.chunk_core.specs.declared.states.TheConstants.{OPEN, FROZEN, HELD}
use Rattle.chunk_core.specs.Rooms.{RoomSpot, at_room_pin}
use Rattle.chunk_core.specs.RoomStep.{freeze_room, thaw_room, hold_room, claim_room, store_room, open_room, retire_room}
use Rattle.oak_core.specs.declared.states.PassState.{PassState}
use Rattle.oak_core.specs.Memory.{Spot, in_rooms, word_count}
use Rattle.oak_core.specs.RoomCalls.{NamesRoomPin, NamesRoomWord, FreezesRoom, HoldsRoomWord, ClaimsRoom, StoresRoom, OpensRoom, RetiresRoom}
use Rattle.oak_core.specs.Running.{Holds, KeepsSeat}
use Rattle.oak_core.specs.Step.{on_rooms, MayOnRooms}
use Rattle.oak_core.specs.Thawing.{ThawsRoom}
use Rattle.oak_core.proofs.seats.Allowed.{allows_at}
use Rattle.oak_core.proofs.memory.RoomNames.{one_room}
use Rattle.oak_core.proofs.covers.ThawedRooms.{thaws}
use Rattle.oak_core.proofs.memory.Words.{index_below, index_apart}

-- the word of the rooms in a spot
word_in : Spot → RoomSpot
word_in (in_rooms p) = p
word_in _ = at_room_pin 0

-- a word is one word of the rooms
pub one_room_word : (z : Sizes) (p q : RoomSpot) (word : ℕ) → NamesRoomWord z p word → NamesRoomWord z q word → p ≡ q
unfolding word_in
one_room_word z p q word n m = ap word_in (index_apart z (in_rooms p) (in_rooms q) n.inside m.inside (sym n.word_is ∙ m.word_is))

-- it is one of the table's
pub room_word_below : (z : Sizes) (p : RoomSpot) (word : ℕ) → NamesRoomWord z p word → word < word_count z
room_word_below z p word n = let e = n.word_is in let b = index_below z (in_rooms p) n.inside in omega arith

-- each step may be taken, and tells of the room or the word that is named

module _ (z : Sizes) (start call : ℕ) (slots id : ℕ) (me : Me (Unit {0}) PassState) (going : me.0.numbers.spent ≡ false) where
  pub allows_freeze : (word old new r : ℕ) → NamesRoomPin z r word → new ≡ old + STATE → MayOnRooms z call (freeze_room r old) me.0
      → Allows (Holds z start) slots id me word (λ n. either (n == old) new n) (λ n m. ((k : ℕ) → NamesRoomPin z k word → FreezesRoom z call k old me.0 n m.0) × KeepsSeat me m)
  allows_freeze word old new r names e may = allows_at z start call slots id me going (on_rooms (freeze_room r old)) (λ n w. (k : ℕ) → NamesRoomPin z k word → FreezesRoom z call k old me.0 n w) word (λ n. either (n == old) new n)
      (sym names.word_is) (λ i n. either (n == old) (sym e i) n) may
      (λ n w told k named. subst (λ (j : ℕ). FreezesRoom z call j old me.0 n w) (one_room z r k word names named) told)

  pub allows_thaw : (word operand r : ℕ) → NamesRoomPin z r word → operand ≡ (FROZEN - OPEN) * STATE → MayOnRooms z call (thaw_room r) me.0
      → Allows (Holds z start) slots id me word (λ n. (n + (2 ^ 64 - operand)) % 2 ^ 64) (λ n m. ((k : ℕ) → NamesRoomPin z k word → ThawsRoom z call k me.0 n m.0) × KeepsSeat me m)
  allows_thaw word operand r names e may = allows_at z start call slots id me going (on_rooms (thaw_room r)) (λ n w. (k : ℕ) → NamesRoomPin z k word → ThawsRoom z call k me.0 n w) word (λ n. (n + (2 ^ 64 - operand)) % 2 ^ 64)
      (sym names.word_is) (λ i n. (n + (2 ^ 64 - sym e i)) % 2 ^ 64) may
      (λ n w told k named. subst (λ (j : ℕ). ThawsRoom z call j me.0 n w) (one_room z r k word names named) (thaws z call r me.0 n w told))

  pub allows_hold : (word old new r : ℕ) → NamesRoomPin z r word → new ≡ old + STATE → MayOnRooms z call (hold_room r old) me.0
      → Allows (Holds z start) slots id me word (λ n. either (n == old) new n) (λ n m. ((k : ℕ) → NamesRoomPin z k word → HoldsRoomWord z call k old me.0 n m.0) × KeepsSeat me m)
  allows_hold word old new r names e may = allows_at z start call slots id me going (on_rooms (hold_room r old)) (λ n w. (k : ℕ) → NamesRoomPin z k word → HoldsRoomWord z call k old me.0 n w) word (λ n. either (n == old) new n)
      (sym names.word_is) (λ i n. either (n == old) (sym e i) n) may
      (λ n w told k named. subst (λ (j : ℕ). HoldsRoomWord z call j old me.0 n w) (one_room z r k word names named) told)

  pub allows_claim_room : (word old new r : ℕ) → NamesRoomPin z r word → new ≡ old + HELD * STATE → MayOnRooms z call (claim_room r old) me.0
      → Allows (Holds z start) slots id me word (λ n. either (n == old) new n) (λ n m. ((k : ℕ) → NamesRoomPin z k word → ClaimsRoom z call k old me.0 n m.0) × KeepsSeat me m)
  allows_claim_room word old new r names e may = allows_at z start call slots id me going (on_rooms (claim_room r old)) (λ n w. (k : ℕ) → NamesRoomPin z k word → ClaimsRoom z call k old me.0 n w) word (λ n. either (n == old) new n)
      (sym names.word_is) (λ i n. either (n == old) (sym e i) n) may
      (λ n w told k named. subst (λ (j : ℕ). ClaimsRoom z call j old me.0 n w) (one_room z r k word names named) told)

  pub allows_room_word : (word x : ℕ) (p : RoomSpot) → NamesRoomWord z p word → MayOnRooms z call (store_room p x) me.0
      → Allows (Holds z start) slots id me word (λ _. x) (λ _ m. ((q : RoomSpot) → NamesRoomWord z q word → StoresRoom z call q x me.0 m.0) × KeepsSeat me m)
  allows_room_word word x p names may = allows_at z start call slots id me going (on_rooms (store_room p x)) (λ _ w. (q : RoomSpot) → NamesRoomWord z q word → StoresRoom z call q x me.0 w) word (λ _. x)
      (sym names.word_is) refl may
      (λ n w told q named. subst (λ (o : RoomSpot). StoresRoom z call o x me.0 w) (one_room_word z p q word names named) (n, told))

  pub allows_open_room : (word operand r : ℕ) → NamesRoomPin z r word → operand ≡ (HELD - OPEN) * STATE → MayOnRooms z call (open_room r) me.0
      → Allows (Holds z start) slots id me word (λ n. (n + (2 ^ 64 - operand)) % 2 ^ 64) (λ n m. ((k : ℕ) → NamesRoomPin z k word → OpensRoom z call k me.0 n m.0) × KeepsSeat me m)
  allows_open_room word operand r names e may = allows_at z start call slots id me going (on_rooms (open_room r)) (λ n w. (k : ℕ) → NamesRoomPin z k word → OpensRoom z call k me.0 n w) word (λ n. (n + (2 ^ 64 - operand)) % 2 ^ 64)
      (sym names.word_is) (λ i n. (n + (2 ^ 64 - sym e i)) % 2 ^ 64) may
      (λ n w told k named. subst (λ (j : ℕ). OpensRoom z call j me.0 n w) (one_room z r k word names named) told)

  pub allows_retire : (word operand r : ℕ) → NamesRoomPin z r word → operand ≡ HELD * STATE → MayOnRooms z call (retire_room r) me.0
      → Allows (Holds z start) slots id me word (λ n. (n + (2 ^ 64 - operand)) % 2 ^ 64) (λ n m. ((k : ℕ) → NamesRoomPin z k word → RetiresRoom z call k me.0 n m.0) × KeepsSeat me m)
  allows_retire word operand r names e may = allows_at z start call slots id me going (on_rooms (retire_room r)) (λ n w. (k : ℕ) → NamesRoomPin z k word → RetiresRoom z call k me.0 n w) word (λ n. (n + (2 ^ 64 - operand)) % 2 ^ 64)
      (sym names.word_is) (λ i n. (n + (2 ^ 64 - sym e i)) % 2 ^ 64) may
      (λ n w told k named. subst (λ (j : ℕ). RetiresRoom z call j me.0 n w) (one_room z r k word names named) told)
