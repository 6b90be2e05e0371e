-- The key of an entry by its key word and the words of its block, and an entry as a pin finds it.
use Rattle.std.proofs.Common.{◌≡◌, ℕ, ◌<◌, ◌≤◌, ◌&&◌, nat_lt, nat_le, Bool, List, [], ◌∷◌, sym, refl, ap, ◌∙◌, inl, inr, Some, eq-eqb}
use Rattle.std.proofs.lemmas.Bool.{lt-ltb, le-leb}
use Rattle.oak_model.specs.declared.classes.Class.{Class}
use Rattle.oak_model.specs.declared.limits.TheConstants.{GREATEST_KEY}
use Rattle.oak_model.specs.Class.{class_number, class_of}
use Rattle.oak_model.specs.Counts.{one_if, Each, Has}
use Rattle.oak_model.specs.KeyNumber.{key_number}
use Rattle.oak_model.proofs.Counting.{true_both}
use Rattle.arena_core.specs.Place.{class_in, length_in}
use Rattle.chunk_core.specs.declared.holds.FoundEntry.{FoundEntry}
use Rattle.chunk_core.specs.KeyWords.{key_length, key_bytes, key_in}
use Rattle.oak_core.specs.EntryOwners.{is_class, is_key_word}

pub each_has : {A : Type 0} (P : A → Type 0) (xs : List A) → ((x : A) → Has x xs → P x) → Each P xs
each_has P [] f = tt
each_has P (x ∷ xs) f = (f x (inl refl), each_has P xs (λ y h. f y (inr h)))

-- the key word that names a key's block is one
pub is_key-word : (word n : ℕ) (c : Class) → length_in word ≡ n → class_in word ≡ class_number c → 0 < n → n ≤ GREATEST_KEY → class_of n ≡ Some c → is_key_word word ≡ 1
is_key-word word n c long is some_byte few fits = let lt = lt-ltb 0 n some_byte in let le = le-leb n GREATEST_KEY few in
    ap (λ (b : Bool). one_if b) (true_both (nat_lt 0 (length_in word)) (nat_le (length_in word) GREATEST_KEY && is_class (class_in word) (class_of (length_in word))) (ap (nat_lt 0) long ∙ lt)
    (true_both (nat_le (length_in word) GREATEST_KEY) (is_class (class_in word) (class_of (length_in word))) (ap (λ (k : ℕ). nat_le k GREATEST_KEY) long ∙ le)
    (ap (is_class (class_in word)) (ap class_of long ∙ fits) ∙ eq-eqb (class_in word) (class_number c) is)))

pub key_length-is : (word : ℕ) → key_length word ≡ length_in word
unfolding key_length length_in
key_length-is word = refl

pub key_in-is : (word : ℕ) (words key : List ℕ) → key_bytes word words ≡ key → key_in word words ≡ key_number key
unfolding key_in
key_in-is word words key e = ap key_number e

-- an entry as it is found

abbrev pub entry_of : ℕ → ℕ → List ℕ → FoundEntry
entry_of n word words = record { number = n; word = word; words = words }

pub found_same : (bytes : ℕ → List ℕ) (f : ℕ → ℕ) (i j : ℕ) (e : FoundEntry) → i ≡ j → e.number ≡ j → f e.number ≡ e.word → bytes e.word ≡ e.words → entry_of i (f i) (bytes (f i)) ≡ e
found_same bytes f i j e is n w b = let a : i ≡ e.number = is ∙ sym n in let there : f i ≡ e.word = ap f a ∙ w in let all : bytes (f i) ≡ e.words = ap bytes there ∙ b in λ k. entry_of (a k) (there k) (all k)
