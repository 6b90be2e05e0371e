-- The rows of the rooms that a pass holds, read off the words that it keeps of them.
use Rattle.std.proofs.Common.{◌≡◌, ◌≢◌, ℕ, ◌*◌, ◌<◌, ◌≤◌, inr, cond, Bool, List, [], ◌∷◌, map, sym, refl, ap, ◌∙◌, subst, arith, eq-eqb}
use Rattle.oak_model.specs.Counts.{Each, one_at, total}
use Rattle.oak_model.specs.Limits.{Sizes}
use Rattle.oak_model.proofs.Counting.{one_at-le, one_at-same, total_at, total_map}
use Rattle.oak_model.proofs.Lists.{at_map, rows_length}
use Rattle.oak_model.proofs.RowLaws.{rows_same}
use Rattle.oak_model.proofs.SumLaws.{times-one}
use Rattle.pin_word.specs.PinWord.{state_of}
use Rattle.chunk_core.specs.declared.holds.HeldRoom.{HeldRoom}
use Rattle.chunk_core.specs.declared.holds.RoomCopy.{RoomCopy}
use Rattle.chunk_core.specs.declared.holds.RoomHeldAs.{RoomHeldAs}
use Rattle.chunk_core.specs.declared.holds.RoomHeldAs.TheVariants.{Frozen, Held}
use Rattle.chunk_core.specs.declared.layout.TheConstants.{BOUND_WORDS}
use Rattle.chunk_core.specs.declared.states.TheConstants.{HELD}
use Rattle.chunk_core.specs.RoomCopies.{copy_in, copy_of}
use Rattle.chunk_core.specs.RoomReads.{copy_at, words_at}
use Rattle.chunk_core.specs.RoomRule.{IsWholeCopy, in_room_state, room_state}
use Rattle.chunk_core.specs.Rooms.{RoomMemory}
use Rattle.oak_core.specs.declared.states.PassState.{PassState}
use Rattle.oak_core.specs.Memory.{memory}
use Rattle.oak_core.specs.PassState.{rooms_held}
use Rattle.chunk_ops.specs.RoomPins.{HadMoment}
use Rattle.rebalance.specs.Chunks.{held_row}
use Rattle.rebalance.specs.HeldTables.{Apart, AreApart, IsHeldAs, IsHeldRow, RowsStay}
use Rattle.rebalance.specs.Mirrors.{held_memory}
use Rattle.rebalance.proofs.HeldBeside.{copy_behind}
use Rattle.rebalance.proofs.HeldMemory.{held_copy}

-- the words that a copy has of a room are the same in both
pub record SameWords (z : Sizes) (q : ℕ) (m m' : RoomMemory) : Type 0 where
  pub base : m'.base q ≡ m.base q
  pub count : m'.count q ≡ m.count q
  pub latch : m'.latch q ≡ m.latch q
  pub first : m'.first q ≡ m.first q
  pub low : (j : ℕ) → j < BOUND_WORDS → m'.low q j ≡ m.low q j
  pub high : (j : ℕ) → j < BOUND_WORDS → m'.high q j ≡ m.high q j
  pub key : (i : ℕ) → i < z.entries → m'.key q i ≡ m.key q i
  pub value : (i : ℕ) → i < z.entries → m'.value q i ≡ m.value q i
  pub next : (i : ℕ) → i < z.entries → m'.next q i ≡ m.next q i

-- so its copy is
pub same_copy : (z : Sizes) (q : ℕ) (m m' : RoomMemory) → SameWords z q m m' → copy_at z m' q ≡ copy_at z m q
same_copy z q m m' h = let low = rows_same 0 BOUND_WORDS (m'.low q) (m.low q) (λ j _ l. h.low j (omega arith)) in let high = rows_same 0 BOUND_WORDS (m'.high q) (m.high q) (λ j _ l. h.high j (omega arith)) in
    let entries = rows_same 0 z.entries (words_at m' q) (words_at m q) (λ i _ l. let s : i < z.entries = omega arith in λ t. record { word = h.key i s t; value = h.value i s t; next = h.next i s t }) in
    λ t. record { base = h.base t; count = h.count t; latch = h.latch t; first = h.first t; low = low t; high = high t; entries = entries t }

-- a copy of the words that a memory has is whole
pub whole_at : (z : Sizes) (m : RoomMemory) (r : ℕ) → IsWholeCopy z (copy_at z m r)
whole_at z m r = record { low = rows_length 0 BOUND_WORDS (m.low r); high = rows_length 0 BOUND_WORDS (m.high r); entries = rows_length 0 z.entries (words_at m r) }

-- the copy of the room of each row is the one that the row has

own_more : (u : HeldRoom) (us gs : List HeldRoom) → total (λ (h : HeldRoom). one_at h.room u.room) gs ≡ 0 → Each (λ (h : HeldRoom). copy_of h.room us ≡ copy_in h.held_as) gs → Each (λ (h : HeldRoom). copy_of h.room (u ∷ us) ≡ copy_in h.held_as) gs
unfolding total
own_more u us [] none e = tt
own_more u us (g ∷ gs) none e = (copy_behind g.room u us (λ s. let one = one_at-same g.room u.room (sym s) in absurd (omega arith)) ∙ e.0, own_more u us gs (omega arith) e.1)

own_first : (u : HeldRoom) (us : List HeldRoom) → copy_of u.room (u ∷ us) ≡ copy_in u.held_as
unfolding copy_of
own_first u us = ap (λ (b : Bool). cond b (copy_in u.held_as) (copy_of u.room us)) (eq-eqb u.room u.room refl)

own_copies : (us : List HeldRoom) → Apart us → Each (λ (h : HeldRoom). copy_of h.room us ≡ copy_in h.held_as) us
own_copies [] a = tt
own_copies (u ∷ us) a = (own_first u us, own_more u us us (sym (total_map (λ (h : HeldRoom). h.room) (λ (q : ℕ). one_at q u.room) us) ∙ a.0) (own_copies us a.1))

-- so each row is that of the room's words

abbrev row_at : Sizes → RoomMemory → ℕ → HeldRoom
row_at z m q = held_row q (copy_at z m q)

held_as_at : (z : Sizes) (us : List HeldRoom) (q : ℕ) (s : RoomHeldAs) → IsHeldAs z s → copy_of q us ≡ copy_in s → s ≡ Held (copy_at z (held_memory us) q)
held_as_at z us q Frozen h e = absurd h
held_as_at z us q (Held w) h e = ap Held (sym (held_copy z q w us e h))

rows_at : (z : Sizes) (us gs : List HeldRoom) → Each (IsHeldRow z) gs → Each (λ (h : HeldRoom). copy_of h.room us ≡ copy_in h.held_as) gs → gs ≡ map (λ (h : HeldRoom). row_at z (held_memory us) h.room) gs
rows_at z us [] held e = refl
rows_at z us (g ∷ gs) held e = let s = held_as_at z us g.room g.held_as held.0 e.0 in let t = rows_at z us gs held.1 e.1 in λ i. record { room = g.room; held_as = s i } ∷ t i

map_rooms : (f : ℕ → HeldRoom) (hs : List HeldRoom) → map (λ (h : HeldRoom). f h.room) hs ≡ map f (map (λ (h : HeldRoom). h.room) hs)
map_rooms f [] = refl
map_rooms f (h ∷ hs) = ap (λ (gs : List HeldRoom). f h.room ∷ gs) (map_rooms f hs)

-- where the rows before were held, each of another room, the later ones of the same rooms are those of the words that the pass keeps
pub rows_from : (z : Sizes) (vs us : List HeldRoom) → Each (IsHeldRow z) vs → Apart vs → RowsStay z vs us → us ≡ map (λ (h : HeldRoom). held_row h.room (copy_at z (held_memory us) h.room)) vs
rows_from z vs us held apart stay = let f : ℕ → HeldRoom = row_at z (held_memory us) in
    rows_at z us us (stay.held held) (own_copies us (subst AreApart (sym stay.rooms) apart)) ∙ (map_rooms f us ∙ (ap (map f) stay.rooms ∙ sym (map_rooms f vs)))

-- what is so for each room among the rows is so for each row
each_room : (P : ℕ → Type 0) (hs : List HeldRoom) → ((q : ℕ) → 0 < total (λ (h : HeldRoom). one_at h.room q) hs → P q) → Each (λ (h : HeldRoom). P h.room) hs
unfolding total
each_room P [] f = tt
each_room P (h ∷ hs) f = (f h.room (let one = one_at-same h.room h.room refl in omega arith), each_room P hs (λ q l. f q (omega arith)))

map_each : (f g : HeldRoom → HeldRoom) (hs : List HeldRoom) → Each (λ (h : HeldRoom). f h ≡ g h) hs → map f hs ≡ map g hs
map_each f g [] e = refl
map_each f g (h ∷ hs) e = let t = map_each f g hs e.1 in λ i. e.0 i ∷ t i

-- where the words of the other rooms are as before, only the first row has other ones, which are those that the pass keeps of its room
pub rows_are : (z : Sizes) (r : ℕ) (w : RoomCopy) (hs us : List HeldRoom) → IsWholeCopy z w → Each (IsHeldRow z) hs → total (λ (h : HeldRoom). one_at h.room r) hs ≡ 0 → Apart hs → RowsStay z (held_row r w ∷ hs) us
    → ((q : ℕ) → q ≢ r → 0 < total (λ (h : HeldRoom). one_at h.room q) hs → SameWords z q (held_memory (held_row r w ∷ hs)) (held_memory us))
    → (us ≡ held_row r (copy_at z (held_memory us) r) ∷ hs) × IsWholeCopy z (copy_at z (held_memory us) r)
rows_are z r w hs us whole held none apart stay same = let m : RoomMemory = held_memory us in let n : RoomMemory = held_memory (held_row r w ∷ hs) in
    let all : Apart (held_row r w ∷ hs) = (total_map (λ (h : HeldRoom). h.room) (λ (q : ℕ). one_at q r) hs ∙ none, apart) in
    let old : hs ≡ map (λ (h : HeldRoom). row_at z n h.room) hs = rows_at z (held_row r w ∷ hs) hs held (own_copies (held_row r w ∷ hs) all).1 in
    let others = each_room (λ q. row_at z m q ≡ row_at z n q) hs (λ q l. ap (held_row q) (same_copy z q n m (same q (λ e. let some_row : 0 < total (λ (h : HeldRoom). one_at h.room r) hs = subst (λ (k : ℕ). 0 < total (λ (h : HeldRoom). one_at h.room k) hs) e l in absurd (omega arith)) l))) in (
      rows_from z (held_row r w ∷ hs) us (whole, held) all stay ∙ ap (λ (gs : List HeldRoom). held_row r (copy_at z m r) ∷ gs) (map_each (λ (h : HeldRoom). row_at z m h.room) (λ (h : HeldRoom). row_at z n h.room) hs others ∙ sym old),
      whole_at z m r,
    )

-- where all rows are held, those of a room are the held ones of that room
held_once : (z : Sizes) (r : ℕ) (hs : List HeldRoom) → Each (IsHeldRow z) hs → total (λ (h : HeldRoom). one_at h.room r) hs ≡ total (λ (h : HeldRoom). one_at h.room r * one_at (room_state h.held_as) HELD) hs
unfolding total
held_once z r [] e = refl
held_once z r (h ∷ hs) e = let t = held_once z r hs e.1 in let s = state_held h.held_as e.0 in let p = times-one (one_at (room_state h.held_as) HELD) (one_at h.room r) s in omega arith
  where
    state_held : (s : RoomHeldAs) → IsHeldAs z s → one_at (room_state s) HELD ≡ 1
    state_held Frozen h = absurd h
    state_held (Held w) h = one_at-same HELD HELD refl

apart_once : (rs : List ℕ) → ((r : ℕ) → total (λ (q : ℕ). one_at q r) rs ≤ 1) → AreApart rs
unfolding total
apart_once [] few = tt
apart_once (r ∷ rs) few = (let one = one_at-same r r refl in let f = few r in omega arith, apart_once rs (λ q. let f = few q in omega arith))

-- the rows of a pass are of different rooms, where all of them are held
pub rows_apart : (z : Sizes) (v : PassState) → HadMoment z v → Each (IsHeldRow z) v.rooms.held → Apart v.rooms.held
rows_apart z v moment held = let t = moment.1 in apart_once (map (λ (h : HeldRoom). h.room) v.rooms.held)
    (λ r. let a = total_map (λ (h : HeldRoom). h.room) (λ (q : ℕ). one_at q r) v.rooms.held in let b = held_once z r v.rooms.held held in
    let c = total_at (in_room_state r HELD) (map rooms_held t.states) t.seat v.rooms (at_map rooms_held t.states t.seat v t.here) in
    let d = t.rule.rooms.held r HELD (inr refl) in let e = one_at-le (state_of ((memory z moment.0).rooms.pin r)) HELD in omega arith)
