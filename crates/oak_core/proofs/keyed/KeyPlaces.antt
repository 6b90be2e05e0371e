-- A key word names a block of the class that its length has, so the bytes that stand there are those of a key.
use Rattle.std.proofs.Common.{◌≡◌, ℕ, zero, suc, ◌<◌, ◌≤◌, ◌&&◌, nat_lt, nat_le, true, false, Bool, List, [], ◌∷◌, length, get_or, take, sym, refl, subst, arith, Option, Some, None, leb-true, ltb-true, eqb-true}
use Rattle.std.proofs.lemmas.List.{length-take, length-take-le, get_or-take, get_or_past}
use mathlib.Core.Logic.{dite}
use native.Mathlib.Decide.{dec_lt}
use Rattle.oak_model.specs.Class.{class_number, class_of}
use Rattle.oak_model.specs.Counts.{one_if}
use Rattle.oak_model.specs.WordBytes.{bytes_of}
use Rattle.oak_model.specs.declared.classes.Class.{Class}
use Rattle.oak_model.specs.declared.limits.TheConstants.{GREATEST_KEY}
use Rattle.oak_model.proofs.Counting.{test-cases, both_true}
use Rattle.arena_core.specs.Arena.{block_words}
use Rattle.arena_core.specs.Place.{IsPlace, class_in, length_in}
use Rattle.arena_core.proofs.ByteFacts.{length-bytes_of}
use Rattle.arena_core.proofs.ClassRooms.{place_room}
use Rattle.arena_core.proofs.PlaceLaws.{class_below}
use Rattle.chunk_core.specs.KeyWords.{key_length, key_bytes, key_in}
use Rattle.oak_core.specs.EntryOwners.{is_class, is_key_word}
use Rattle.oak_core.specs.KeyHistories.{IsKeyOf}

-- what a key word names
pub record NamesKey (word : ℕ) : Type 0 where
  pub some_byte : 0 < length_in word
  pub few : length_in word ≤ GREATEST_KEY
  pub place : IsPlace word

one_true : (t : Bool) → one_if t ≡ 1 → t ≡ true
one_true true h = refl
one_true false h = absurd (omega arith)

pub names_key : (word : ℕ) → is_key_word word ≡ 1 → NamesKey word
names_key word e = let b = both_true (nat_lt 0 (length_in word)) (nat_le (length_in word) GREATEST_KEY && is_class (class_in word) (class_of (length_in word))) (one_true _ e) in
    let d = both_true (nat_le (length_in word) GREATEST_KEY) (is_class (class_in word) (class_of (length_in word))) b.1 in record {
      some_byte = ltb-true 0 (length_in word) b.0;
      few = leb-true (length_in word) GREATEST_KEY d.0;
      place = by (class_of (length_in word)) refl d.1;
    }
  where
    by : (o : Option Class) → class_of (length_in word) ≡ o → is_class (class_in word) o ≡ true → IsPlace word
    by None f t = absurd cc
    by (Some d) f t = record { class = d; is_in = eqb-true (class_in word) (class_number d) t; fits = f }

-- it names one of the classes
pub key_class : (word : ℕ) → is_key_word word ≡ 1 → class_in word < 4
key_class word is = let p = (names_key word is).place in let e = p.is_in in let b = class_below p.class in omega arith

pub key_word_few : (word : ℕ) → is_key_word word ≤ 1
key_word_few word = test-cases (nat_lt 0 (length_in word) && (nat_le (length_in word) GREATEST_KEY && is_class (class_in word) (class_of (length_in word)))) (λ t. one_if t ≤ 1) (λ _. omega arith) (λ _. omega arith)

-- bytes of words

bytes_small : (ns : List ℕ) (i : ℕ) → get_or (bytes_of ns) i 0 < 256
unfolding bytes_of
bytes_small [] i = omega arith
bytes_small (n ∷ ns) zero = omega arith
bytes_small (n ∷ ns) (suc zero) = omega arith
bytes_small (n ∷ ns) (suc (suc zero)) = omega arith
bytes_small (n ∷ ns) (suc (suc (suc zero))) = omega arith
bytes_small (n ∷ ns) (suc (suc (suc (suc zero)))) = omega arith
bytes_small (n ∷ ns) (suc (suc (suc (suc (suc zero))))) = omega arith
bytes_small (n ∷ ns) (suc (suc (suc (suc (suc (suc zero)))))) = omega arith
bytes_small (n ∷ ns) (suc (suc (suc (suc (suc (suc (suc zero))))))) = omega arith
bytes_small (n ∷ ns) (suc (suc (suc (suc (suc (suc (suc (suc i)))))))) = bytes_small ns i

part_small : (len : ℕ) (ns : List ℕ) (i : ℕ) → get_or (take len (bytes_of ns)) i 0 < 256
part_small len ns i = dite (dec_lt i len)
    (λ l. subst (λ (n : ℕ). n < 256) (sym (get_or-take len (bytes_of ns) i 0 l)) (bytes_small ns i))
    (λ n. let e = length-take len (bytes_of ns) in subst (λ (n : ℕ). n < 256) (sym (get_or_past (take len (bytes_of ns)) i 0 (let x : ℕ = length (bytes_of ns) in omega arith))) (omega arith))

-- the bytes of a key word, in the words of its block, are those of the key with their number
pub word_is_key : (word : ℕ) (words : List ℕ) → is_key_word word ≡ 1 → length words ≡ block_words (class_in word) → IsKeyOf (key_in word words) (key_bytes word words)
unfolding key_in key_length length_in
word_is_key word words e long = let is = names_key word e in let room = place_room word is.place in let some = is.some_byte in let few = is.few in let b : ℕ = block_words (class_in word) in
    let all = length-bytes_of words in let l = length-take-le (key_length word) (bytes_of words) (omega arith) in record {
      is_key = ((omega arith), (omega arith));
      bytes = λ i. part_small (key_length word) words i;
      number = refl;
    }
