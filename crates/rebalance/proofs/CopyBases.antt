-- The base of a copy, where each of its entries is linked and has a value.
use Rattle.std.proofs.Common.{◌≡◌, ℕ, ◌≤◌, ◌==◌, not, cond, List, [], ◌∷◌, length, map, refl, ap, ◌∙◌, arith}
use Rattle.std.proofs.lemmas.List.{length-take}
use Rattle.oak_model.specs.Counts.{total}
use Rattle.chunk_core.specs.declared.holds.EntryWords.{EntryWords}
use Rattle.chunk_core.specs.declared.holds.RoomCopy.{RoomCopy}
use Rattle.chunk_core.specs.LinkedEntries.{entries_in}
use Rattle.chunk_core.specs.RoomCopies.{entries_held}
use Rattle.chunk_core.specs.ValueWord.{names_header}
use Rattle.rebalance.specs.declared.entries.Entry.{Entry}
use Rattle.rebalance.specs.Copies.{base_without, has_key_word, linked_held, values_in}
use Rattle.rebalance.specs.Entries.{dropped, greatest}
use Rattle.rebalance.proofs.DroppedRange.{named-cases}
use Rattle.rebalance.proofs.PassedOnes.{fewer_pass}

-- a word names a header or not
pub value_small : (v : ℕ) → names_header v ≤ 1
value_small v = named-cases v (λ _. names_header v ≤ 1) (λ e. omega arith) (λ e. omega arith)

values_few : (es : List EntryWords) → total (λ (e : EntryWords). names_header e.value) es ≤ length es
unfolding total
values_few [] = omega arith
values_few (e ∷ es) = let t = values_few es in let v = value_small e.value in omega arith

-- with as many values as entries none is without one
none_without : (es : List EntryWords) → length es ≤ total (λ (e : EntryWords). names_header e.value) es → dropped (map (λ (e : EntryWords). let x : Entry = record { place = e.word; value = e.value } in x) es) ≡ []
unfolding total
none_without [] h = refl
none_without (e ∷ es) h = let t = values_few es in let v = value_small e.value in let here : names_header e.value ≡ 1 = omega arith in let rest = none_without es (omega arith) in λ i. cond (not (here i == 1)) (record { place = e.word; value = e.value } ∷ rest i) (rest i)

-- of none the greatest is the first
pub first_only : (b : ℕ) → greatest b [] ≡ b
unfolding greatest
first_only b = refl

-- where none was dropped the base is what it was
pub base_still : (w : RoomCopy) → entries_in w.count ≡ values_in w → base_without w ≡ w.base
base_still w e = let n = length-take (entries_in w.count) w.entries in let p = fewer_pass has_key_word (entries_held w) in ap (greatest w.base) (none_without (linked_held w) (omega arith)) ∙ first_only w.base
