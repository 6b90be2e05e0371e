-- Words that have no fault are those that keys, values, bounds, names and recipes are spelled by.
use Rattle.std.proofs.Common.{◌≡◌, ℕ, zero, suc, ◌<◌, ◌≤◌, Bool, true, false, not, ◌||◌, ◌&&◌, List, [], ◌∷◌, ◌++◌, length, Option, Some, None, refl, ap, sym, ◌∙◌, inl, inr, arith, codes, ltb, leb, eqb}
use Rattle.std.specs.Prelude.{IfSome}
use Rattle.std.specs.List.{list_any, list_all}
use Rattle.std.specs.Str.{bytes_eq}
use Rattle.std.specs.Fmt.{decimal}
use Rattle.std.proofs.lemmas.Bool.Decides.{nat_tests}
use Rattle.std.proofs.lemmas.Slice.Eq.{bytes_eq-Decides}
use Rattle.hex.specs.Hex.{encode_lower, IsBytes}
use Rattle.oak_model.specs.declared.recipes.RecipeKind.{RecipeKind}
use Rattle.oak_model.specs.declared.recipes.RecipeKind.TheVariants.{Add, Xor, Rev}
use Rattle.oak_script.specs.declared.faults.What.{What}
use Rattle.oak_script.specs.declared.faults.What.TheVariants as what
use Rattle.oak_script.specs.Lines.{Words}
use Rattle.oak_script.specs.Words.{value_word, bound_word, recipe_words, is_name, is_name_byte}
use Rattle.oak_script.specs.Grammar.{KeyFits, ValueFits, ArgumentFits}
use Rattle.oak_script.specs.Numbers.{is_number}
use Rattle.oak_script.specs.Forms.{is_dash, is_hex, is_recipe, KeySlot, ValueSlot, NameSlot, BoundSlot}
use Rattle.oak_script.specs.Faults.{is_empty, where_so, word_faults}
use Rattle.oak_script.proofs.FormLemmas.{or-true}
use Rattle.std.proofs.lemmas.Bool.{cases_Bool}
use Rattle.oak_script.proofs.HexWords.{length-written, hex-written, written-injective, hex-read, byte-read}
use Rattle.oak_script.proofs.NumberLemmas.{written, read, decimal-injective}

-- ---- tests

pub word_is : (w text : List ℕ) → bytes_eq w text ≡ true → w ≡ text
word_is w text e = (bytes_eq-Decides w text).0 e

pub not-empty : (w : List ℕ) → 0 < length w → is_empty w ≡ false
not-empty w h = grind (arith, nat_tests)

some-in : (w : List ℕ) → is_empty w ≡ false → 0 < length w
some-in w h = grind (arith, nat_tests)

short-enough : (m n : ℕ) → n ≤ m → ltb m n ≡ false
short-enough m n h = grind (arith, nat_tests)

least-one : (n : ℕ) → leb 1 n ≡ true → 0 < n
least-one n h = grind (arith, nat_tests)

not-longer : (m n : ℕ) → ltb m n ≡ false → n ≤ m
not-longer m n h = grind (arith, nat_tests)

pub and-parts : (a b : Bool) → (a && b) ≡ true → (a ≡ true) × (b ≡ true)
and-parts true true e = (refl, refl)
and-parts true false e = absurd cc
and-parts false b e = absurd cc

pub none-so : (b : Bool) (w : What) → where_so b w ≡ [] → b ≡ false
none-so true w e = absurd cc
none-so false w e = refl

pub none-both : (fs gs : List What) → fs ++ gs ≡ [] → (fs ≡ []) × (gs ≡ [])
none-both [] gs e = (refl, e)
none-both (f ∷ fs) gs e = absurd cc

pub not-true : (b : Bool) → not b ≡ false → b ≡ true
not-true true e = refl
not-true false e = absurd cc

and-false : (b : Bool) → (b && false) ≡ false
and-false true = refl
and-false false = refl

-- ---- what is spelled has no fault

pub key-spelled : (k : List ℕ) → KeyFits k → (is_empty (encode_lower k) ≡ false) × (word_faults KeySlot (encode_lower k) ≡ []) × (word_faults BoundSlot (encode_lower k) ≡ [])
key-spelled k fits =
    let len = length-written k in
    let hex = hex-written k fits.1 in
    let short = short-enough 128 (length (encode_lower k)) (omega (arith, len)) in
    (not-empty (encode_lower k) (omega (arith, len)), rw (hex, short) refl, rw (hex, or-true (is_dash (encode_lower k)), short) refl)

pub value-spelled : (v : List ℕ) → ValueFits v → (is_empty (value_word v) ≡ false) × (word_faults ValueSlot (value_word v) ≡ [])
value-spelled [] fits = (refl, refl)
value-spelled (b ∷ bs) fits =
    let len = length-written (b ∷ bs) in
    let hex = hex-written (b ∷ bs) fits.1 in
    (not-empty (encode_lower (b ∷ bs)) (omega (arith, len)), rw (hex, or-true (is_dash (encode_lower (b ∷ bs))), short-enough 2048 (length (encode_lower (b ∷ bs))) (omega (arith, len))) refl)

pub bound-spelled : (bound : Option (List ℕ)) → IfSome bound KeyFits → (is_empty (bound_word bound) ≡ false) × (word_faults BoundSlot (bound_word bound) ≡ [])
bound-spelled None fits = (refl, refl)
bound-spelled (Some k) fits = let s = key-spelled k fits in (s.0, s.2)

pub name-spelled : (a : List ℕ) → is_name a ≡ true → (is_empty a ≡ false) × (word_faults NameSlot a ≡ [])
name-spelled a is =
    let p = and-parts (leb 1 (length a) && leb (length a) 16) (list_all is_name_byte a) is in
    let q = and-parts (leb 1 (length a)) (leb (length a) 16) p.0 in
    (not-empty a (least-one (length a) q.0), rw is refl)

one : (b : ℕ) → b < 256 → IsBytes (b ∷ [])
one b h zero = h
one b h (suc i) = omega arith

pub recipe-spelled : (r : RecipeKind) (n : ℕ) → ArgumentFits r n → (list_any is_empty (recipe_words r n) ≡ false) × (is_recipe (recipe_words r n) ≡ true)
recipe-spelled Add n fits = let w = written n fits in (rw (not-empty (decimal n) w.1) refl, rw w.0 refl)
recipe-spelled Xor n fits =
    let bytes = one n fits in
    let len = length-written (n ∷ []) in
    let two : eqb (length (encode_lower (n ∷ []))) 2 ≡ true = rw len refl in
    (rw (not-empty (encode_lower (n ∷ [])) (omega (arith, len))) refl, rw (two, hex-written (n ∷ []) bytes) refl)
recipe-spelled Rev n fits = (refl, refl)

-- ---- what has no fault spells something

pub key-read : (w : List ℕ) → is_empty w ≡ false → word_faults KeySlot w ≡ [] → (k : List ℕ) × (encode_lower k ≡ w) × KeyFits k
key-read w some none =
    let p = none-both (where_so (not (is_hex w)) what.Hex) _ none in
    let q = none-both (where_so (ltb 128 (length w)) what.Key) [] p.1 in
    let r = hex-read w (not-true (is_hex w) (none-so (not (is_hex w)) what.Hex p.0)) in
    let short = not-longer 128 (length w) (none-so (ltb 128 (length w)) what.Key q.0) in
    let long = some-in w some in
    (r.0, r.2.spelled, ((omega (arith, r.2.twice), omega (arith, r.2.twice)), r.2.in_range))

undashed : (d b : Bool) → not (d || b) ≡ false → d ≡ false → b ≡ true
undashed true b e d = absurd cc
undashed false b e d = not-true b e

pub value-read : (w : List ℕ) → is_empty w ≡ false → word_faults ValueSlot w ≡ [] → (v : List ℕ) × (value_word v ≡ w) × ValueFits v
value-read w some none =
    let p = none-both (where_so (not (is_dash w || is_hex w)) what.Hex) (where_so (ltb 2048 (length w)) what.Value) none in
    let bad = none-so (not (is_dash w || is_hex w)) what.Hex p.0 in
    let short = not-longer 2048 (length w) (none-so (ltb 2048 (length w)) what.Value p.1) in
    elim (cases_Bool (is_dash w)) [
      | inl dash ↦ ([], sym (word_is w (codes "-") dash), (omega arith, λ i. omega arith))
      | inr other ↦
          let r = hex-read w (undashed (is_dash w) (is_hex w) bad other) in
          let long = some-in w some in
          (r.0, by r.0 r.2.spelled (omega (arith, r.2.twice)), (omega (arith, r.2.twice), r.2.in_range))
    ]
  where
    by : (bytes : List ℕ) → encode_lower bytes ≡ w → 0 < length bytes → value_word bytes ≡ w
    by [] e h = absurd (omega arith)
    by (b ∷ bs) e h = e

pub bound-read : (w : List ℕ) → is_empty w ≡ false → word_faults BoundSlot w ≡ [] → (bound : Option (List ℕ)) × (bound_word bound ≡ w) × IfSome bound KeyFits
bound-read w some none =
    let p = none-both (where_so (not (is_dash w || is_hex w)) what.Hex) (where_so (ltb 128 (length w)) what.Key ++ []) none in
    let q = none-both (where_so (ltb 128 (length w)) what.Key) [] p.1 in
    let bad = none-so (not (is_dash w || is_hex w)) what.Hex p.0 in
    elim (cases_Bool (is_dash w)) [
      | inl dash ↦ (None, sym (word_is w (codes "-") dash), tt)
      | inr other ↦
          let hex = undashed (is_dash w) (is_hex w) bad other in
          let none_so : word_faults KeySlot w ≡ [] = rw (hex, q.0) refl in
          let r = key-read w some none_so in
          (Some r.0, r.1, r.2)
    ]

pub name-read : (w : List ℕ) → word_faults NameSlot w ≡ [] → is_name w ≡ true
name-read w none = not-true (is_name w) (none-so (not (is_name w)) what.Name (none-both (where_so (not (is_name w)) what.Name) [] none).0)

two_words : (r a s b : List ℕ) → r ≡ s → b ≡ a → s ∷ b ∷ [] ≡ r ∷ a ∷ []
two_words r a s b h e = rw (h, e) refl

pub recipe-read : (ws : Words) → is_recipe ws ≡ true → (r : RecipeKind) × (n : ℕ) × (recipe_words r n ≡ ws) × ArgumentFits r n
recipe-read [] e = absurd cc
recipe-read (r ∷ []) e = (Rev, 0, rw (word_is r (codes "rev") e) refl, refl)
recipe-read (r ∷ a ∷ []) e =
    elim (cases_Bool (bytes_eq r (codes "add") && is_number a)) [
      | inl add ↦
          let p = and-parts (bytes_eq r (codes "add")) (is_number a) add in
          let n = read a p.1 in
          (Add, n.0, two_words r a (codes "add") (decimal n.0) (word_is r (codes "add") p.0) n.1, n.2)
      | inr other ↦
          let xor : (bytes_eq r (codes "xor") && (eqb (length a) 2 && is_hex a)) ≡ true = rw other at e in
          let p = and-parts (bytes_eq r (codes "xor")) (eqb (length a) 2 && is_hex a) xor in
          let b = byte-read a p.1 in
          (Xor, b.0, two_words r a (codes "xor") (encode_lower (b.0 ∷ [])) (word_is r (codes "xor") p.0) b.2, b.3)
    ]
recipe-read (r ∷ a ∷ b ∷ more) e = absurd cc

-- ---- and only one thing

pub value-injective : (a b : List ℕ) → IsBytes a → IsBytes b → value_word a ≡ value_word b → a ≡ b
value-injective [] [] ha hb e = refl
value-injective [] (y ∷ b) ha hb e = absurd (omega (arith, length-written (y ∷ b), ap length e))
value-injective (x ∷ a) [] ha hb e = absurd (omega (arith, length-written (x ∷ a), ap length e))
value-injective (x ∷ a) (y ∷ b) ha hb e = written-injective (x ∷ a) (y ∷ b) ha hb e

pub bound-injective : (a b : Option (List ℕ)) → IfSome a KeyFits → IfSome b KeyFits → bound_word a ≡ bound_word b → a ≡ b
bound-injective None None ha hb e = refl
bound-injective None (Some k) ha hb e = absurd (omega (arith, length-written k, ap length e))
bound-injective (Some k) None ha hb e = absurd (omega (arith, length-written k, ap length e))
bound-injective (Some k) (Some l) ha hb e = ap (λ (x : List ℕ). Some x) (written-injective k l ha.1 hb.1 e)

-- the first word of a line
abbrev pub first_word : Words → List ℕ
first_word [] = []
first_word (w ∷ ws) = w

apart : true ≡ false → ⊥
apart e = cc

pub recipe-injective : (r q : RecipeKind) (n m : ℕ) → ArgumentFits r n → ArgumentFits q m → recipe_words r n ≡ recipe_words q m → (r ≡ q) × (n ≡ m)
recipe-injective Add Add n m hn hm e = let d : decimal n ≡ decimal m = cc in (refl, decimal-injective n m hn hm d)
recipe-injective Xor Xor n m hn hm e =
    let d : encode_lower (n ∷ []) ≡ encode_lower (m ∷ []) = cc in
    let s = written-injective (n ∷ []) (m ∷ []) (one n hn) (one m hm) d in
    (refl, cc)
recipe-injective Rev Rev n m hn hm e = (refl, hn ∙ sym hm)
recipe-injective Add Xor n m hn hm e = absurd (apart (ap (λ (ws : Words). bytes_eq (first_word ws) (codes "add")) e))
recipe-injective Add Rev n m hn hm e = absurd (apart (ap (λ (ws : Words). bytes_eq (first_word ws) (codes "add")) e))
recipe-injective Xor Add n m hn hm e = absurd (apart (ap (λ (ws : Words). bytes_eq (first_word ws) (codes "xor")) e))
recipe-injective Xor Rev n m hn hm e = absurd (apart (ap (λ (ws : Words). bytes_eq (first_word ws) (codes "xor")) e))
recipe-injective Rev Add n m hn hm e = absurd (apart (ap (λ (ws : Words). bytes_eq (first_word ws) (codes "rev")) e))
recipe-injective Rev Xor n m hn hm e = absurd (apart (ap (λ (ws : Words). bytes_eq (first_word ws) (codes "rev")) e))
