-- A comparison, word by word.
use Rattle.std.proofs.Common.{◌≡◌, ◌≢◌, ℕ, zero, suc, refl, ◌+◌, ◌-◌, take, ◌*◌, ◌/◌, ◌<◌, ◌≤◌, min, ◌⊎◌, inl, inr, List, length, get_or, Fits, w8, sym, ◌∙◌, ap, subst, arith}
use Rattle.std.specs.Ordering.{nat_cmp}
use Rattle.std.specs.declared.cmp.Ordering.{Ordering}
use Rattle.std.specs.declared.cmp.Ordering.TheVariants.{Less, Equal, Greater}
use mathlib.Core.Logic.{dite}
use native.Mathlib.Decide.{dec_lt}
use Rattle.oak_model.specs.Key.{key_cmp, AreBytes}
use Rattle.arena_core.specs.Place.{length_in}
use Rattle.chunk_ops.specs.Comparing.{AreTied, Loaded}
use Rattle.chunk_ops.specs.Reads.{Met, LoadsKey}
use Rattle.chunk_ops.specs.Room.{Room, IsRoom, HasFound, key_at}
use Rattle.oak_model.specs.WordBytes.{word_bytes}
use Rattle.arena_core.specs.Words.{word_at, bytes_in}
use Rattle.chunk_ops.proofs.OrderLaws.{padded_cmp, cmp_less, cmp_equal, cmp_greater, padded_decides, word_order, lengths_decide, same_number}

-- what a slice's type says of its elements
pub slice_bytes : (k : List ℕ) → ((i : ℕ) → Fits w8 (get_or k i 0)) → AreBytes k
slice_bytes k h i = omega (arith, h i)

module _ (r : Room) (e place : ℕ) (is : IsRoom r) (lt : HasFound r e) (at : place ≡ r.place e) where
  pub stored_long : length_in place ≡ length (key_at r e)
  stored_long = ap length_in at ∙ is.long e lt

  pub words_order : (key : List ℕ) (i : ℕ) (now : Room) (o : Ordering) → now ≡ r
      → ((f : ℕ) → HasFound now f → place ≡ now.place f → o ≡ nat_cmp (word_at key i) (word_at (key_at now f) i)) → o ≡ nat_cmp (word_at key i) (word_at (key_at r e) i)
  words_order key i now o s h = subst (λ (q : Room). (f : ℕ) → HasFound q f → place ≡ q.place f → o ≡ nat_cmp (word_at key i) (word_at (key_at q f) i)) s h e lt at

  pub order_step : (key : List ℕ) (i : ℕ) (now : Room) (o : Ordering) → AreBytes key → now ≡ r → padded_cmp (8 * i) key (key_at r e) ≡ Equal
      → ((f : ℕ) → HasFound now f → place ≡ now.place f → o ≡ nat_cmp (word_at key i) (word_at (key_at now f) i)) → o ≡ padded_cmp (8 * i + 8) key (key_at r e)
  order_step key i now o b s t h = subst (λ (q : Room). (f : ℕ) → HasFound q f → place ≡ q.place f → o ≡ nat_cmp (word_at key i) (word_at (key_at q f) i)) s h e lt at ∙ word_order key (key_at r e) i b (is.bytes e lt) t

  pub first_of : (now : Room) (n : ℕ) → now ≡ r → ((f : ℕ) → HasFound now f → place ≡ now.place f → n ≡ word_at (key_at now f) 0) → n ≡ word_at (key_at r e) 0
  first_of now n s h = subst (λ (q : Room). (f : ℕ) → HasFound q f → place ≡ q.place f → n ≡ word_at (key_at q f) 0) s h e lt at

  pub tied_in : (key : List ℕ) (i : ℕ) (now : Room) → now ≡ r → AreTied i key (key_at r e) → (f : ℕ) × HasFound now f × (place ≡ now.place f) × AreTied i key (key_at now f)
  tied_in key i now s t = subst (λ (q : Room). (f : ℕ) × HasFound q f × (place ≡ q.place f) × AreTied i key (key_at q f)) (sym s) (e, lt, at, t)

  pub order_behind : (key : List ℕ) (i : ℕ) (now : Room) (o : Ordering) → now ≡ r → AreTied i key (key_at r e)
      → ((f : ℕ) → HasFound now f → place ≡ now.place f → AreTied i key (key_at now f) → o ≡ key_cmp key (key_at now f)) → o ≡ key_cmp key (key_at r e)
  order_behind key i now o s t h = subst (λ (q : Room). (f : ℕ) → HasFound q f → place ≡ q.place f → AreTied i key (key_at q f) → o ≡ key_cmp key (key_at q f)) s h e lt at t

  pub loads_behind : {S : Type 0} (meets : S → S → List Met → Type 0) (key : List ℕ) (i : ℕ) (u v w : S) (now : Room) → now ≡ r → AreTied i key (key_at r e) → Loaded meets e place i u v
      → ((s : S) (f : ℕ) → HasFound now f → place ≡ now.place f → AreTied i key (key_at now f) → Loaded meets f place i s v → LoadsKey meets f key (key_at now f) s w) → LoadsKey meets e key (key_at r e) u w
  loads_behind {S = S} meets key i u v w now s t l h = subst (λ (q : Room). (s : S) (f : ℕ) → HasFound q f → place ≡ q.place f → AreTied i key (key_at q f) → Loaded meets f place i s v → LoadsKey meets f key (key_at q f) s w) s h u e lt at t l

-- after as many words as the shorter key has
pub lengths_last : (a b : List ℕ) (i n m : ℕ) → padded_cmp (8 * i) a b ≡ Equal → m ≡ min (length a) n → n ≡ length b → (m + 7) / 8 ≤ i → key_cmp a b ≡ nat_cmp (length a) n
lengths_last a b i n m t e s le = lengths_decide (8 * i) a b t (short (length a) (length b) (omega arith)) ∙ ap (nat_cmp (length a)) (sym s)
  where
    short : (x y : ℕ) → min x y ≤ 8 * i → (x ≤ 8 * i) ⊎ (y ≤ 8 * i)
    short x y le = dite (dec_lt x y) (λ l. inl (omega arith)) (λ n. inr (omega arith))

-- the bytes of a word that was loaded, as many as the key has there
pub word_loaded : (r : Room) (e place : ℕ) (is : IsRoom r) (lt : HasFound r e) (at : place ≡ r.place e) (i n len : ℕ) (now : Room) → now ≡ r → len ≡ length (key_at r e)
    → ((f : ℕ) → HasFound now f → place ≡ now.place f → take (length (key_at now f) - 8 * i) (word_bytes n) ≡ bytes_in i (key_at now f)) → take (len - 8 * i) (word_bytes n) ≡ bytes_in i (key_at r e)
word_loaded r e place is lt at i n len now s l h = ap (λ (m : ℕ). take (m - 8 * i) (word_bytes n)) l ∙ subst (λ (q : Room). (f : ℕ) → HasFound q f → place ≡ q.place f → take (length (key_at q f) - 8 * i) (word_bytes n) ≡ bytes_in i (key_at q f)) s h e lt at

-- one word more agrees
pub agree_more : (a b : List ℕ) (i : ℕ) → ((j : ℕ) → j < i → word_at a j ≡ word_at b j) → nat_cmp (word_at a i) (word_at b i) ≡ Equal → (j : ℕ) → j < i + 1 → word_at a j ≡ word_at b j
agree_more a b i h e j l = dite (dec_lt j i) (λ m. h j m) (λ n. subst (λ (k : ℕ). word_at a k ≡ word_at b k) (let s : i ≡ j = omega arith in s) (same_number (word_at a i) (word_at b i) e))

-- as many words agree, so as many bytes do
pub tied_words : (a b : List ℕ) (n : ℕ) → AreBytes a → AreBytes b → ((j : ℕ) → j < n → word_at a j ≡ word_at b j) → padded_cmp (8 * n) a b ≡ Equal
tied_words a b zero s t h = refl
tied_words a b (suc n) s t h = ap (λ (m : ℕ). padded_cmp m a b) (let e : 8 * suc n ≡ 8 * n + 8 = omega arith in e)
    ∙ (sym (word_order a b n s t (tied_words a b n s t (λ j l. h j (omega arith)))) ∙ cmp_equal (word_at a n) (word_at b n) (h n (omega arith)))

-- two keys, and their first words
pub record FirstWords (a b : List ℕ) (x y : ℕ) : Type 0 where
  pub first_bytes : AreBytes a
  pub second_bytes : AreBytes b
  pub first : x ≡ word_at a 0
  pub second : y ≡ word_at b 0

module _ {a b : List ℕ} {x y : ℕ} (w : FirstWords a b x y) where
  first_order : nat_cmp x y ≡ padded_cmp 8 a b
  first_order = (λ i. nat_cmp (w.first i) (w.second i)) ∙ word_order a b 0 w.first_bytes w.second_bytes refl

  -- where they differ they decide
  first_decides : (o : Ordering) → nat_cmp x y ≡ o → o ≢ Equal → o ≡ key_cmp a b
  first_decides o e n = sym (padded_decides 8 a b o (sym first_order ∙ e) n)

  pub first_less : x < y → Less ≡ key_cmp a b
  first_less l = first_decides Less (cmp_less x y l) (λ e. cc)

  pub first_greater : y < x → Greater ≡ key_cmp a b
  first_greater l = first_decides Greater (cmp_greater x y l) (λ e. cc)

  -- where they are the same, keys of one word are
  pub one_word : x ≡ y → length a ≡ 8 → length b ≡ 8 → Equal ≡ key_cmp a b
  one_word e m n = sym (lengths_decide 8 a b (sym first_order ∙ cmp_equal x y e) (inl (let l : length a ≤ 8 = omega arith in l)) ∙ cmp_equal (length a) (length b) (m ∙ sym n))

  -- and longer ones go on behind them
  pub first_tied : x ≡ y → 0 < length a → 0 < length b → AreTied 1 a b
  first_tied e f g = record {
    agree = λ j l. subst (λ (k : ℕ). word_at a k ≡ word_at b k) (let z : 0 ≡ j = omega arith in z) (sym w.first ∙ e ∙ w.second);
    first = omega arith;
    second = omega arith;
  }
