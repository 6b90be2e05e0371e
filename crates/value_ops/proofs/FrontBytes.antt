-- The bytes of one word in the front of a list, and of a value that is read.
use Rattle.std.proofs.Common.{◌≡◌, ℕ, ◌+◌, ◌-◌, ◌*◌, ◌<◌, ◌≤◌, List, length, get_or, take, drop, sym, ap, ◌∙◌, arith}
use mathlib.Core.Logic.{dite}
use native.Mathlib.Decide.{dec_le}
use Rattle.std.proofs.lemmas.List.{drop-take, length-take, take-take, take_all}
use Rattle.std.proofs.Math.Nat.{min-le_left}
use Rattle.oak_model.specs.Limits.{Sizes}
use Rattle.oak_model.specs.WordBytes.{word_bytes}
use Rattle.arena_core.specs.Words.{bytes_in}
use Rattle.oak_core.specs.Passes.{state}
use Rattle.oak_core.specs.declared.table.Pass.{Pass}
use Rattle.value_ops.specs.declared.pinned_value.PinnedValue.{PinnedValue}
use Rattle.value_ops.specs.PinnedValues.{ReadsPinned, value_under, words_under}
use Rattle.value_ops.proofs.ValueFacts.{bytes_loaded, pinned_same}

short : (a : ℕ) (l : List ℕ) → length (take a l) ≤ a
short a l = let e = length-take a l in let m = min-le_left a (length l) in omega arith

takes_swap : (a b : ℕ) (l : List ℕ) → take a (take b l) ≡ take b (take a l)
takes_swap a b l = dite (dec_le a b)
    (λ h. take-take a b l h ∙ sym (take_all b (take a l) (let s = short a l in omega arith)))
    (λ n. take_all a (take b l) (let s = short b l in omega arith) ∙ sym (take-take b a l (omega arith)))

-- what word i has of a list, cut at the list's front of n elements, is what it has of that front
pub front_in_word : (n i : ℕ) (xs bs : List ℕ) → 8 * i < n → n ≤ length xs → take (length xs - 8 * i) bs ≡ bytes_in i xs → take (n - 8 * i) bs ≡ bytes_in i (take n xs)
front_in_word n i xs bs inside front loaded = let from : ℕ = 8 * i in
    sym (take-take (n - from) (length xs - from) bs (omega arith))
    ∙ (ap (take (n - from)) loaded
    ∙ (takes_swap (n - from) 8 (drop from xs)
    ∙ ap (take 8) (sym (drop-take from (n - from) xs) ∙ ap (λ (j : ℕ). drop from (take j xs)) (let e : from + (n - from) ≡ n = omega arith in e))))

-- a word of the value, loaded after other loads, has the bytes that the value's front has there
pub front_loaded : (z : Sizes) (x : PinnedValue) (p q : Pass) (n i word : ℕ) → ReadsPinned z x p q → 8 * i < n → n ≤ length (value_under (state p)) → word ≡ get_or (words_under (state q)) i 0
    → take (n - 8 * i) (word_bytes word) ≡ bytes_in i (take n (value_under (state p)))
front_loaded z x p q n i word reads inside front is = let v = state q in let same = pinned_same z x p q reads in let long : length (value_under v) ≡ length (value_under (state p)) = ap length same in
    front_in_word n i (value_under v) (word_bytes word) inside (omega arith) (bytes_loaded z x v reads.pinned i (omega arith) word is) ∙ ap (λ (xs : List ℕ). bytes_in i (take n xs)) same
