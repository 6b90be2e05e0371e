-- What a pass keeps of the words of a room: a copy keeps no word twice, and what is copied is true.
use Rattle.std.proofs.Common.{◌≡◌, ℕ, zero, suc, ◌+◌, ◌*◌, ◌<◌, ◌≤◌, List, [], ◌∷◌, ◌++◌, sym, refl, ap, ◌∙◌, subst, arith}
use Rattle.std.specs.Prelude.{slice_index}
use Rattle.oak_model.specs.Counts.{one_if, total, rows}
use Rattle.oak_model.specs.Kept.{KeptWord, AreTrueTo, keeps}
use Rattle.oak_model.specs.Limits.{Sizes}
use Rattle.oak_model.proofs.Counting.{test-cases}
use Rattle.oak_model.proofs.Lists.{each_append, rows_at}
use Rattle.oak_model.proofs.RowLaws.{each_rows}
use Rattle.chunk_core.specs.declared.layout.TheConstants.{BOUND_WORDS, ENTRY_WORDS}
use Rattle.chunk_core.specs.declared.holds.EntryWords.{EntryWords}
use Rattle.chunk_core.specs.declared.holds.RoomCopy.{RoomCopy}
use Rattle.chunk_core.specs.KeptRooms.{kept_of_copy, kept_of_entries}
use Rattle.chunk_core.specs.RoomReads.{copy_at, words_at}
use Rattle.chunk_core.specs.Rooms.{RoomMemory, RoomSpot, at_low, at_high, entries_at, place_in_room, read_room, same_room_spot}
use Rattle.chunk_core.proofs.RoomWords.{same_room_spot-is}

-- the words lie one behind the other, none before the place n
RiseFrom : ℕ → List (KeptWord RoomSpot) → Type 0
RiseFrom n [] = Unit {0}
RiseFrom n (w ∷ ws) = (n ≤ place_in_room w.spot) × RiseFrom (suc (place_in_room w.spot)) ws

-- so a word before them is none of them
rise_none : (q : RoomSpot) (n : ℕ) (ws : List (KeptWord RoomSpot)) → place_in_room q < n → RiseFrom n ws → keeps same_room_spot q ws ≡ 0
unfolding total RiseFrom
rise_none q n [] low h = refl
rise_none q n (w ∷ ws) low h = let a = h.0 in let t = rise_none q (suc (place_in_room w.spot)) ws (omega arith) h.1 in
    let e : one_if (same_room_spot w.spot q) ≡ 0 = test-cases (same_room_spot w.spot q) (λ b. one_if b ≡ 0) (λ s. let p = ap place_in_room (same_room_spot-is w.spot q s) in absurd (omega arith)) (λ _. refl) in omega arith

-- and none is there twice
rise_most : (q : RoomSpot) (n : ℕ) (ws : List (KeptWord RoomSpot)) → RiseFrom n ws → keeps same_room_spot q ws ≤ 1
unfolding total RiseFrom
rise_most q n [] h = omega arith
rise_most q n (w ∷ ws) h = test-cases (same_room_spot w.spot q) (λ b. one_if b + keeps same_room_spot q ws ≤ 1)
    (λ s. let p = ap place_in_room (same_room_spot-is w.spot q s) in let t = rise_none q (suc (place_in_room w.spot)) ws (omega arith) h.1 in omega arith)
    (λ _. let t = rise_most q (suc (place_in_room w.spot)) ws h.1 in omega arith)

rise_entries : (r i : ℕ) (es : List EntryWords) → RiseFrom (entries_at + i * ENTRY_WORDS) (kept_of_entries r i es)
unfolding RiseFrom kept_of_entries place_in_room
rise_entries r i [] = tt
rise_entries r i (e ∷ es) = (omega arith, (omega arith, (omega arith, subst (λ (t : ℕ). RiseFrom t (kept_of_entries r (suc i) es)) (let n : entries_at + suc i * ENTRY_WORDS ≡ suc (entries_at + i * ENTRY_WORDS + 2) = omega arith in n) (rise_entries r (suc i) es))))

rise_rows : (spot : ℕ → RoomSpot) (number : ℕ → ℕ) (from i n : ℕ) (rest : List (KeptWord RoomSpot)) → ((k : ℕ) → place_in_room (spot k) ≡ from + k) → RiseFrom (from + (i + n)) rest → RiseFrom (from + i) (rows i n (λ j. record { spot = spot j; number = number j }) ++ rest)
unfolding RiseFrom rows
rise_rows spot number from i zero rest is h = subst (λ (t : ℕ). RiseFrom (from + t) rest) (let e : i + 0 ≡ i = omega arith in e) h
rise_rows spot number from i (suc n) rest is h = let a = is i in (
  omega arith,
  subst (λ (t : ℕ). RiseFrom t (rows (suc i) n (λ j. record { spot = spot j; number = number j }) ++ rest)) (let e : from + suc i ≡ suc (place_in_room (spot i)) = omega arith in e)
      (rise_rows spot number from (suc i) n rest is (subst (λ (t : ℕ). RiseFrom (from + t) rest) (let e : i + suc n ≡ suc i + n = omega arith in e) h)),
)

-- a copy keeps no word twice
pub copy_once : (q : RoomSpot) (r : ℕ) (w : RoomCopy) → keeps same_room_spot q (kept_of_copy r w) ≤ 1
unfolding RiseFrom place_in_room
copy_once q r w = rise_most q 1 (kept_of_copy r w) (
  omega arith,
  (
    omega arith,
    (
      omega arith,
      (
        omega arith,
        rise_rows (at_low r) (slice_index w.low) 5 0 BOUND_WORDS (rows 0 BOUND_WORDS (λ j. record { spot = at_high r j; number = slice_index w.high j }) ++ kept_of_entries r 0 w.entries) (λ k. refl)
            (rise_rows (at_high r) (slice_index w.high) 14 0 BOUND_WORDS (kept_of_entries r 0 w.entries) (λ k. refl) (rise_entries r 0 w.entries)),
      ),
    ),
  ),
)

-- the words of entries that were copied
entries_read : (m : RoomMemory) (r i n : ℕ) → AreTrueTo (read_room m) (kept_of_entries r i (rows i n (words_at m r)))
unfolding rows kept_of_entries
entries_read m r i zero = tt
entries_read m r i (suc n) = (refl, (refl, (refl, entries_read m r (suc i) n)))

-- what is copied is true
pub copy_read : (z : Sizes) (m : RoomMemory) (r : ℕ) → AreTrueTo (read_room m) (kept_of_copy r (copy_at z m r))
copy_read z m r = let P : KeptWord RoomSpot → Type 0 = (λ (t : KeptWord RoomSpot). read_room m t.spot ≡ t.number) in let w : RoomCopy = copy_at z m r in
    let lows : List (KeptWord RoomSpot) = rows 0 BOUND_WORDS (λ j. record { spot = at_low r j; number = slice_index w.low j }) in let highs : List (KeptWord RoomSpot) = rows 0 BOUND_WORDS (λ j. record { spot = at_high r j; number = slice_index w.high j }) in
    let read_back = (λ (f : ℕ → ℕ) (k : ℕ) (lt : k < BOUND_WORDS). let e : 0 + k ≡ k = omega arith in sym (rows_at 0 BOUND_WORDS k f 0 lt ∙ ap f e)) in (
      refl,
      (
        refl,
        (
          refl,
          (
            refl,
            each_append P lows (highs ++ kept_of_entries r 0 w.entries) (each_rows P 0 BOUND_WORDS (λ j. record { spot = at_low r j; number = slice_index w.low j }) (λ k le lt. read_back (m.low r) k (omega arith)))
                (each_append P highs (kept_of_entries r 0 w.entries) (each_rows P 0 BOUND_WORDS (λ j. record { spot = at_high r j; number = slice_index w.high j }) (λ k le lt. read_back (m.high r) k (omega arith))) (entries_read m r 0 z.entries)),
          ),
        ),
      ),
    )
