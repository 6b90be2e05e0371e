-- A copy of which each entry in use is linked.
use Rattle.std.proofs.Common.{◌≡◌, ℕ, zero, suc, ◌<◌, cond, Bool, List, [], ◌∷◌, map, take, refl, ap, ◌∙◌, arith, lt-ltb}
use Rattle.std.specs.Prelude.{slice_index}
use Rattle.std.specs.List.{filter}
use Rattle.chunk_core.specs.declared.holds.EntryWords.{EntryWords}
use Rattle.chunk_core.specs.declared.holds.RoomCopy.{RoomCopy}
use Rattle.chunk_core.specs.LinkedEntries.{entries_in}
use Rattle.chunk_core.specs.RoomCopies.{entries_held}
use Rattle.rebalance.specs.Copies.{AllLinked, has_key_word, linked_held}

all_have : (n : ℕ) (es : List EntryWords) → ((i : ℕ) → i < n → 0 < slice_index (map (λ (e : EntryWords). e.word) es) i) → filter has_key_word (take n es) ≡ take n es
all_have zero es h = refl
all_have (suc n) [] h = refl
all_have (suc n) (e ∷ es) h = ap (λ (b : Bool). cond b (e ∷ filter has_key_word (take n es)) (filter has_key_word (take n es))) (lt-ltb 0 e.word (h zero (omega arith)))
    ∙ ap (λ (l : List EntryWords). e ∷ l) (all_have n es (λ i l. h (suc i) (omega arith)))

-- the linked ones are those in use
pub linked_are : (w : RoomCopy) → AllLinked w → linked_held w ≡ entries_held w
linked_are w all = all_have (entries_in w.count) w.entries all
