-- The words that a pass keeps of the rooms that it holds, as functions.
use Rattle.std.proofs.Common.{◌≡◌, ℕ, suc, ◌+◌, ◌<◌, List, [], ◌∷◌, length, map, get_or, sym, refl, ap, ◌∙◌, arith, Some}
use Rattle.oak_model.specs.Counts.{rows}
use Rattle.oak_model.specs.Limits.{Sizes}
use Rattle.oak_model.proofs.Lists.{rows_at, rows_length, same_elements}
use Rattle.oak_model.proofs.RowLaws.{rows_map}
use Rattle.chunk_core.specs.declared.layout.TheConstants.{BOUND_WORDS}
use Rattle.chunk_core.specs.declared.holds.EntryWords.{EntryWords}
use Rattle.chunk_core.specs.declared.holds.HeldRoom.{HeldRoom}
use Rattle.chunk_core.specs.declared.holds.RoomCopy.{RoomCopy}
use Rattle.chunk_core.specs.RoomCopies.{copy_of}
use Rattle.chunk_core.specs.RoomReads.{copy_at, words_at}
use Rattle.chunk_core.specs.RoomRule.{IsWholeCopy}
use Rattle.chunk_core.specs.Rooms.{RoomMemory, read_room, IsInRooms}
use Rattle.rebalance.specs.declared.held_rooms.RoomWord.{RoomWord}
use Rattle.rebalance.specs.declared.held_rooms.RoomWord.TheVariants.{Base, Count, First, Low, High, Key, Value, Next}
use Rattle.rebalance.specs.HeldRooms.{IsWithin, spot}
use Rattle.rebalance.specs.Mirrors.{copy_or, entry_words, held_memory}

-- a word of a room is one of the table's
pub word_inside : (z : Sizes) (r : ℕ) → r < z.chunks → (word : RoomWord) → IsWithin z.entries word → IsInRooms z (spot r word)
word_inside z r inside Base within = (inside, omega arith)
word_inside z r inside Count within = (inside, omega arith)
word_inside z r inside First within = (inside, omega arith)
word_inside z r inside (Low j) within = (inside, within)
word_inside z r inside (High j) within = (inside, within)
word_inside z r inside (Key i) within = (inside, within)
word_inside z r inside (Value i) within = (inside, within)
word_inside z r inside (Next i) within = (inside, within)

-- where a copy has the words of a room, they are read off it
module _ (z : Sizes) (m : RoomMemory) (r : ℕ) (hs : List HeldRoom) (is : copy_or (copy_of r hs) ≡ copy_at z m r) where
  bound_read : (f : ℕ → ℕ) (ws : List ℕ) (j : ℕ) → j < BOUND_WORDS → ws ≡ rows 0 BOUND_WORDS f → get_or ws j 0 ≡ f j
  bound_read f ws j lt e = ap (λ (xs : List ℕ). get_or xs j 0) e ∙ (rows_at 0 BOUND_WORDS j f 0 lt ∙ ap f (let e : 0 + j ≡ j = omega arith in e))

  entry_read : (f : EntryWords → ℕ) (i : ℕ) → i < z.entries → entry_words (copy_or (copy_of r hs)) i f ≡ f (words_at m r i)
  entry_read f i lt = ap (λ (w : RoomCopy). get_or (map f w.entries) i 0) is
      ∙ (ap (λ (xs : List ℕ). get_or xs i 0) (rows_map f 0 z.entries (words_at m r))
      ∙ (rows_at 0 z.entries i (λ k. f (words_at m r k)) 0 lt ∙ ap (λ (k : ℕ). f (words_at m r k)) (let e : 0 + i ≡ i = omega arith in e)))

  pub word_read : (word : RoomWord) → IsWithin z.entries word → read_room (held_memory hs) (spot r word) ≡ read_room m (spot r word)
  word_read Base within = ap (λ (w : RoomCopy). w.base) is
  word_read Count within = ap (λ (w : RoomCopy). w.count) is
  word_read First within = ap (λ (w : RoomCopy). w.first) is
  word_read (Low j) within = bound_read (m.low r) (copy_or (copy_of r hs)).low j within (ap (λ (w : RoomCopy). w.low) is)
  word_read (High j) within = bound_read (m.high r) (copy_or (copy_of r hs)).high j within (ap (λ (w : RoomCopy). w.high) is)
  word_read (Key i) within = entry_read (λ e. e.word) i within
  word_read (Value i) within = entry_read (λ e. e.value) i within
  word_read (Next i) within = entry_read (λ e. e.next) i within

-- a whole copy is that of these words

bound_back : (ws : List ℕ) → length ws ≡ BOUND_WORDS → rows 0 BOUND_WORDS (λ j. get_or ws j 0) ≡ ws
bound_back ws l = let n = rows_length 0 BOUND_WORDS (λ j. get_or ws j 0) in same_elements (rows 0 BOUND_WORDS (λ j. get_or ws j 0)) ws 0 (n ∙ sym l) (λ k lt. rows_at 0 BOUND_WORDS k (λ j. get_or ws j 0) 0 (omega arith) ∙ ap (λ (j : ℕ). get_or ws j 0) (let e : 0 + k ≡ k = omega arith in e))

abbrev read_entry : List EntryWords → ℕ → EntryWords
read_entry es i = record { word = get_or (map (λ (e : EntryWords). e.word) es) i 0; value = get_or (map (λ (e : EntryWords). e.value) es) i 0; next = get_or (map (λ (e : EntryWords). e.next) es) i 0 }

entries_back : (i : ℕ) (es : List EntryWords) (f : ℕ → EntryWords) → ((k : ℕ) → f (i + k) ≡ read_entry es k) → rows i (length es) f ≡ es
unfolding rows
entries_back i [] f h = refl
entries_back i (e ∷ es) f h = let first : f i ≡ e = ap f (let q : i ≡ i + 0 = omega arith in q) ∙ h 0 in let rest = entries_back (suc i) es f (λ k. ap f (let q : suc i + k ≡ i + suc k = omega arith in q) ∙ h (suc k)) in λ t. first t ∷ rest t

pub held_copy : (z : Sizes) (r : ℕ) (w : RoomCopy) (hs : List HeldRoom) → copy_of r hs ≡ Some w → IsWholeCopy z w → copy_at z (held_memory hs) r ≡ w
held_copy z r w hs is whole = let e = ap copy_or is in
    let entries = ap (λ (n : ℕ). rows 0 n (read_entry w.entries)) (sym whole.entries) ∙ entries_back 0 w.entries (read_entry w.entries) (λ k. ap (read_entry w.entries) (let q : 0 + k ≡ k = omega arith in q)) in
    let low = bound_back w.low whole.low in let high = bound_back w.high whole.high in
    ap (λ (u : RoomCopy). record { base = u.base; count = u.count; latch = u.latch; first = u.first; low = rows 0 BOUND_WORDS (λ j. get_or u.low j 0); high = rows 0 BOUND_WORDS (λ j. get_or u.high j 0); entries = rows 0 z.entries (read_entry u.entries) }) e
    ∙ (λ t. record w { low = low t; high = high t; entries = entries t })
