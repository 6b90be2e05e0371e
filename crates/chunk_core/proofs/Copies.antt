-- What a pass keeps of a room that it holds is what stands in the room's words.
use Rattle.std.proofs.Common.{◌≡◌, ℕ, zero, suc, ◌+◌, ◌<◌, ◌≤◌, cond, Bool, List, [], ◌∷◌, ◌++◌, length, get_or, sym, refl, ap, ◌∙◌, subst, arith, Some, eq-eqb, ne_eqb}
use Rattle.std.proofs.lemmas.Option.{none-some, same_Some}
use mathlib.Core.Logic.{dite}
use native.Mathlib.Decide.{ℕ_discrete}
use Rattle.chunk_core.specs.declared.layout.TheConstants.{BOUND_WORDS}
use Rattle.chunk_core.specs.declared.holds.EntryWords.{EntryWords}
use Rattle.chunk_core.specs.declared.holds.RoomCopy.{RoomCopy}
use Rattle.chunk_core.specs.declared.holds.RoomHeldAs.{RoomHeldAs}
use Rattle.chunk_core.specs.declared.holds.RoomHeldAs.TheVariants.{Frozen, Held}
use Rattle.chunk_core.specs.declared.holds.HeldRoom.{HeldRoom}
use Rattle.oak_model.specs.Counts.{rows, Each}
use Rattle.oak_model.specs.Kept.{KeptWord, AreTrueTo}
use Rattle.oak_model.specs.Limits.{Sizes}
use Rattle.oak_model.proofs.Lists.{rows_length, rows_at, same_elements}
use Rattle.oak_model.proofs.RowLaws.{each_first, each_rest}
use Rattle.chunk_core.specs.KeptRooms.{kept_of_copy, kept_of_entries, kept_of_held, kept_of_rooms_held}
use Rattle.chunk_core.specs.RoomCopies.{copy_of, copy_in}
use Rattle.chunk_core.specs.RoomReads.{words_at, copy_at}
use Rattle.chunk_core.specs.RoomRule.{IsWholeCopy, IsWholeHeld}
use Rattle.chunk_core.specs.Rooms.{RoomMemory, RoomSpot, read_room, at_low, at_high}

rows_each : {A : Type 0} (P : A → Type 0) (i n : ℕ) (f : ℕ → A) → Each P (rows i n f) → (k : ℕ) → i ≤ k → k < i + n → P (f k)
unfolding rows
rows_each P i zero f h k le lt = absurd (omega arith)
rows_each P i (suc n) f h k le lt = dite (ℕ_discrete k i) (λ e. subst (λ (t : ℕ). P (f t)) (sym e) h.0) (λ ne. rows_each P (suc i) n f h.1 k (omega arith) (omega arith))

-- a bound
bound_true : (f : ℕ → ℕ) (ws : List ℕ) → length ws ≡ BOUND_WORDS → ((j : ℕ) → j < BOUND_WORDS → f j ≡ get_or ws j 0) → rows 0 BOUND_WORDS f ≡ ws
bound_true f ws l h = let n = rows_length 0 BOUND_WORDS f in same_elements (rows 0 BOUND_WORDS f) ws 0 (n ∙ sym l) (λ k lt. rows_at 0 BOUND_WORDS k f 0 (omega arith) ∙ (ap f (let q : 0 + k ≡ k = omega arith in q) ∙ h k (omega arith)))

entries_true : (m : RoomMemory) (r i : ℕ) (es : List EntryWords) → AreTrueTo (read_room m) (kept_of_entries r i es) → rows i (length es) (words_at m r) ≡ es
unfolding rows kept_of_entries
entries_true m r i [] h = refl
entries_true m r i (e ∷ es) h = let t = entries_true m r (suc i) es h.1.1.1 in λ j. record { word = h.0 j; value = h.1.0 j; next = h.1.1.0 j } ∷ t j

-- all of a copy
pub copy_true : (z : Sizes) (m : RoomMemory) (r : ℕ) (w : RoomCopy) → IsWholeCopy z w → AreTrueTo (read_room m) (kept_of_copy r w) → copy_at z m r ≡ w
copy_true z m r w whole h = let P : KeptWord RoomSpot → Type 0 = (λ (t : KeptWord RoomSpot). read_room m t.spot ≡ t.number) in
    let lows : List (KeptWord RoomSpot) = rows 0 BOUND_WORDS (λ j. record { spot = at_low r j; number = get_or w.low j 0 }) in let highs : List (KeptWord RoomSpot) = rows 0 BOUND_WORDS (λ j. record { spot = at_high r j; number = get_or w.high j 0 }) in
    let l : Each P lows = each_first P lows (highs ++ kept_of_entries r 0 w.entries) h.1.1.1.1 in let s : Each P (highs ++ kept_of_entries r 0 w.entries) = each_rest P lows (highs ++ kept_of_entries r 0 w.entries) h.1.1.1.1 in
    let g : Each P highs = each_first P highs (kept_of_entries r 0 w.entries) s in let e : Each P (kept_of_entries r 0 w.entries) = each_rest P highs (kept_of_entries r 0 w.entries) s in
    let low = bound_true (m.low r) w.low whole.low (λ j lt. rows_each P 0 BOUND_WORDS (λ j. record { spot = at_low r j; number = get_or w.low j 0 }) l j (omega arith) (omega arith)) in
    let high = bound_true (m.high r) w.high whole.high (λ j lt. rows_each P 0 BOUND_WORDS (λ j. record { spot = at_high r j; number = get_or w.high j 0 }) g j (omega arith) (omega arith)) in
    let entries = ap (λ (n : ℕ). rows 0 n (words_at m r)) (sym whole.entries) ∙ entries_true m r 0 w.entries e in
    λ j. record { base = h.0 j; count = h.1.0 j; latch = h.1.1.0 j; first = h.1.1.1.0 j; low = low j; high = high j; entries = entries j }

-- the copy of a room that a pass holds, of all that it keeps of rooms
pub held_true : (z : Sizes) (m : RoomMemory) (r : ℕ) (w : RoomCopy) (hs : List HeldRoom) → Each (λ (h : HeldRoom). IsWholeHeld z h.held_as) hs → AreTrueTo (read_room m) (kept_of_rooms_held hs) → copy_of r hs ≡ Some w → copy_at z m r ≡ w
unfolding copy_of kept_of_rooms_held
held_true z m r w [] whole h e = absurd (none-some w e)
held_true z m r w (x ∷ xs) whole h e = let P : KeptWord RoomSpot → Type 0 = (λ (t : KeptWord RoomSpot). read_room m t.spot ≡ t.number) in
    let first = each_first P (kept_of_held x.room x.held_as) (kept_of_rooms_held xs) h in let second = each_rest P (kept_of_held x.room x.held_as) (kept_of_rooms_held xs) h in
    dite (ℕ_discrete x.room r)
    (λ s. one x.room s x.held_as whole.0 first (sym (ap (λ (t : Bool). cond t (copy_in x.held_as) (copy_of r xs)) (eq-eqb x.room r s)) ∙ e))
    (λ n. held_true z m r w xs whole.1 second (sym (ap (λ (t : Bool). cond t (copy_in x.held_as) (copy_of r xs)) (ne_eqb x.room r n)) ∙ e))
  where
    one : (q : ℕ) → q ≡ r → (s : RoomHeldAs) → IsWholeHeld z s → AreTrueTo (read_room m) (kept_of_held q s) → copy_in s ≡ Some w → copy_at z m r ≡ w
    one q s Frozen u h e = absurd (none-some w e)
    one q s (Held v) u h e = ap (λ (t : ℕ). copy_at z m t) (sym s) ∙ (copy_true z m q v u h ∙ same_Some v w e)
