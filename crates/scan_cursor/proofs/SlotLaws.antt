-- The slots of a pass in which a scan has the entries of a room: their keys, and what one of them being taken leaves.
use Rattle.std.proofs.Common.{◌≡◌, ℕ, zero, suc, ◌+◌, ◌-◌, ◌<◌, ◌≤◌, List, [], ◌∷◌, ◌++◌, drop, get_or, length, map, min, reverse, take, refl, sym, ap, ◌∙◌, arith}
use Rattle.std.proofs.Math.Nat.{min-eq_left, min-eq_right}
use Rattle.std.proofs.Math.Seq.{drop-cons}
use Rattle.std.proofs.lemmas.List.{get_or-drop, length-drop, reverse-append, take_all}
use mathlib.Core.Logic.{dite}
use native.Mathlib.Decide.{dec_lt}
use Rattle.oak_model.specs.declared.limits.TheConstants.{GREATEST_KEY}
use Rattle.oak_model.specs.WordBytes.{bytes_of}
use Rattle.arena_core.proofs.ByteFacts.{length-bytes_of}
use Rattle.chunk_ops.specs.declared.stored.TheConstants.{KEY_WORDS}
use Rattle.oak_core.specs.declared.sorting.SortSlot.{SortSlot}
use Rattle.scan_cursor.specs.Gathered.{Loaded, in_slot, slots_ahead}
use Rattle.scan_cursor.specs.declared.ways.Way.TheVariants.{Up, Down}

take_one : {A : Type 0} (n : ℕ) (l : List A) (d : A) → n < length l → take (suc n) l ≡ take n l ++ get_or l n d ∷ []
take_one zero [] d lt = absurd (omega arith)
take_one zero (x ∷ xs) d lt = refl
take_one (suc n) [] d lt = absurd (omega arith)
take_one (suc n) (x ∷ xs) d lt = ap (λ (l : List _). x ∷ l) (take_one n xs d (omega arith))

pub map_end : (l : List SortSlot) (s : SortSlot) → map in_slot (l ++ s ∷ []) ≡ map in_slot l ++ in_slot s ∷ []
map_end [] s = refl
map_end (x ∷ xs) s = ap (λ (l : List Loaded). in_slot x ∷ l) (map_end xs s)

-- up the first is taken
pub taken_up : (from to : ℕ) (slots : List SortSlot) (d : SortSlot) → from < to → to ≤ length slots → slots_ahead Up from to slots ≡ in_slot (get_or slots from d) ∷ slots_ahead Up (from + 1) to slots
taken_up from to slots d lt le =
    let n : to - from ≡ suc (to - (from + 1)) = omega arith in
    let m : suc from ≡ from + 1 = omega arith in
    (λ j. map in_slot (take (n j) (drop-cons slots from d (omega arith) j))) ∙ ap (λ (k : ℕ). in_slot (get_or slots from d) ∷ map in_slot (take (to - (from + 1)) (drop k slots))) m

-- down the last
pub taken_down : (from to : ℕ) (slots : List SortSlot) (d : SortSlot) → from < to → to ≤ length slots → slots_ahead Down from to slots ≡ in_slot (get_or slots (to - 1) d) ∷ slots_ahead Down from (to - 1) slots
taken_down from to slots d lt le =
    let n : to - from ≡ suc (to - 1 - from) = omega arith in
    let at : from + (to - 1 - from) ≡ to - 1 = omega arith in
    let long : to - 1 - from < length (drop from slots) = let k = length-drop from slots in omega arith in
    ap (λ (k : ℕ). reverse (map in_slot (take k (drop from slots)))) n
    ∙ (ap (λ (l : List SortSlot). reverse (map in_slot l)) (take_one (to - 1 - from) (drop from slots) d long)
    ∙ (ap (λ (l : List Loaded). reverse l) (map_end (take (to - 1 - from) (drop from slots)) (get_or (drop from slots) (to - 1 - from) d))
    ∙ (reverse-append (map in_slot (take (to - 1 - from) (drop from slots))) (in_slot (get_or (drop from slots) (to - 1 - from) d) ∷ [])
    ∙ ap (λ (s : SortSlot). in_slot s ∷ slots_ahead Down from (to - 1) slots) (get_or-drop from slots (to - 1 - from) d ∙ ap (λ (k : ℕ). get_or slots k d) at))))

-- ---- the key of a slot

-- as many of the bytes as a key may have
pub slot_key : (words : List ℕ) (n m : ℕ) → length words ≡ KEY_WORDS → m ≡ min n GREATEST_KEY → take m (bytes_of words) ≡ take n (bytes_of words)
slot_key words n m wide e =
    let long : length (bytes_of words) ≡ GREATEST_KEY = let l = length-bytes_of words in omega arith in
    dite (dec_lt GREATEST_KEY n)
    (λ lt. let is : m ≡ GREATEST_KEY = e ∙ min-eq_right (let le : GREATEST_KEY ≤ n = omega arith in le) in
    ap (λ (k : ℕ). take k (bytes_of words)) is ∙ (take_all GREATEST_KEY (bytes_of words) (omega arith) ∙ sym (take_all n (bytes_of words) (omega arith))))
    (λ le. let is : m ≡ n = e ∙ min-eq_left (let k : n ≤ GREATEST_KEY = omega arith in k) in ap (λ (k : ℕ). take k (bytes_of words)) is)
