-- How a key compares with the bounds of a range, as bytes and as numbers.
use Rattle.std.proofs.Common.{◌≡◌, ◌≢◌, ℕ, ◌-◌, ◌<◌, ◌≤◌, inl, inr, ⊎_elim, true, false, Bool, cond, MatchBool, List, length, sym, refl, ap, ◌∙◌, subst, arith, eq-eqb, ne_eqb}
use Rattle.std.specs.Ordering.{nat_cmp, is_lt, is_le, is_gt, ordering_reverse, is_eq}
use Rattle.std.specs.declared.cmp.Ordering.{Ordering}
use Rattle.std.specs.declared.cmp.Ordering.TheVariants.{Less, Equal, Greater}
use Rattle.std.specs.Cmp.Lexicographic.{nat_list_cmp_total}
use mathlib.Core.Logic.{dite}
use native.Mathlib.Decide.{ℕ_discrete}
use Rattle.oak_model.specs.declared.limits.TheConstants.{GREATEST_KEY}
use Rattle.oak_model.specs.Key.{AreBytes, key_cmp}
use Rattle.oak_model.specs.KeyNumber.{key_number}
use Rattle.oak_model.proofs.KeyLaws.{same_is}
use Rattle.oak_model.proofs.NumberLaws.{number_less}
use Rattle.chunk_core.specs.Spans.{Span, past, past_high}
use Rattle.chunk_core.proofs.SpanLaws.{past-cases, high-none, high-some}
use Rattle.chunk_ops.specs.AskedRanges.{CoversKey, EndsUnder, high_cmp}
use Rattle.chunk_ops.proofs.OrderLaws.{cmp-cases, cmp_less, cmp_equal, cmp_greater}

-- the order of keys is that of their numbers
pub by_numbers : (a b : List ℕ) → AreBytes a → AreBytes b → length a ≤ GREATEST_KEY → length b ≤ GREATEST_KEY → key_cmp a b ≡ nat_cmp (key_number a) (key_number b)
unfolding key_number
by_numbers a b s t l m = by (key_cmp a b) refl
  where
    by : (o : Ordering) → key_cmp a b ≡ o → key_cmp a b ≡ nat_cmp (key_number a) (key_number b)
    by Less h = h ∙ sym (cmp_less (key_number a) (key_number b) (number_less GREATEST_KEY a b s t m h))
    by Equal h = h ∙ sym (cmp_equal (key_number a) (key_number b) (ap key_number (same_is a b (ap is_eq h))))
    by Greater h = h ∙ sym (cmp_greater (key_number a) (key_number b) (number_less GREATEST_KEY b a t s l (nat_list_cmp_total.antisymm b a ∙ ap ordering_reverse h)))

-- what the tests on an order say of two numbers

pub less_is : (x y : ℕ) → is_lt (nat_cmp x y) ≡ true → x < y
less_is x y = cmp-cases x y (λ o. is_lt o ≡ true → x < y) (λ h _. h) (λ h e. absurd cc) (λ h e. absurd cc)

pub not_less : (x y : ℕ) → is_lt (nat_cmp x y) ≡ false → y ≤ x
not_less x y = cmp-cases x y (λ o. is_lt o ≡ false → y ≤ x) (λ h e. absurd cc) (λ h _. omega arith) (λ h _. omega arith)

greater_is : (x y : ℕ) → is_gt (nat_cmp x y) ≡ true → y < x
greater_is x y = cmp-cases x y (λ o. is_gt o ≡ true → y < x) (λ h e. absurd cc) (λ h e. absurd cc) (λ h _. h)

not_greater : (x y : ℕ) → is_gt (nat_cmp x y) ≡ false → x ≤ y
not_greater x y = cmp-cases x y (λ o. is_gt o ≡ false → x ≤ y) (λ h _. omega arith) (λ h _. omega arith) (λ h e. absurd cc)

pub high_cmp-none : (k h : ℕ) → h ≡ 0 → high_cmp k h ≡ Less
high_cmp-none k h e = ap (λ (b : Bool). cond b Less (nat_cmp k (h - 1))) (eq-eqb h 0 e)

pub high_cmp-some : (k h : ℕ) → h ≢ 0 → high_cmp k h ≡ nat_cmp k (h - 1)
high_cmp-some k h ne = ap (λ (b : Bool). cond b Less (nat_cmp k (h - 1))) (ne_eqb h 0 ne)

-- the range of a key

module _ (key : List ℕ) (s : Span) where
  pub before_low : (o : Ordering) → o ≡ nat_cmp (key_number key) s.low → is_lt o ≡ true → CoversKey key s → ⊥
  before_low o e t w = let l = less_is (key_number key) s.low (ap is_lt (sym e) ∙ t) in past-cases s.low (key_number key) (λ (p : ℕ). p - past_high s.high (key_number key) ≡ 1 → ⊥) (λ g _. omega arith) (λ _ f. omega arith) w

  from_low : s.low ≤ key_number key → past s.low (key_number key) ≡ 1
  from_low le = past-cases s.low (key_number key) (λ (p : ℕ). p ≡ 1) (λ _. refl) (λ l. absurd (omega arith))

  pub in_range : (o p : Ordering) → o ≡ nat_cmp (key_number key) s.low → is_lt o ≡ false → p ≡ high_cmp (key_number key) s.high → MatchBool (is_lt p) (CoversKey key s) (CoversKey key s → ⊥)
  in_range o p e f g = let low = from_low (not_less (key_number key) s.low (ap is_lt (sym e) ∙ f)) in dite (ℕ_discrete s.high 0)
      (λ z. subst (λ (q : Ordering). MatchBool (is_lt q) (CoversKey key s) (CoversKey key s → ⊥)) (sym (g ∙ high_cmp-none (key_number key) s.high z))
      (let n : past_high s.high (key_number key) ≡ 0 = ap (λ (h : ℕ). past_high h (key_number key)) z ∙ high-none (key_number key) in omega arith))
      (λ ne. let q = high-some s.high (key_number key) ne in subst (λ (q : Ordering). MatchBool (is_lt q) (CoversKey key s) (CoversKey key s → ⊥)) (sym (g ∙ high_cmp-some (key_number key) s.high ne))
      (cmp-cases (key_number key) (s.high - 1) (λ (r : Ordering). MatchBool (is_lt r) (CoversKey key s) (CoversKey key s → ⊥))
      (λ l. let p = past-cases (s.high - 1) (key_number key) (λ (t : ℕ). t ≡ 0) (λ g. absurd (omega arith)) (λ _. refl) in omega arith)
      (λ l w. let p = past-cases (s.high - 1) (key_number key) (λ (t : ℕ). t ≡ 1) (λ _. refl) (λ g. absurd (omega arith)) in omega arith)
      (λ l w. let p = past-cases (s.high - 1) (key_number key) (λ (t : ℕ). t ≡ 1) (λ _. refl) (λ g. absurd (omega arith)) in omega arith)))

  -- the range next below a bound

  pub not_under : (o : Ordering) → o ≡ nat_cmp (key_number key) s.low → is_gt o ≡ false → EndsUnder key s → ⊥
  not_under o e f u = let l = not_greater (key_number key) s.low (ap is_gt (sym e) ∙ f) in let m = u.low in omega arith

  pub ends_there : (o p : Ordering) → o ≡ nat_cmp (key_number key) s.low → is_gt o ≡ true → p ≡ high_cmp (key_number key) s.high → MatchBool (is_le p) (EndsUnder key s) (EndsUnder key s → ⊥)
  ends_there o p e t g = let low = greater_is (key_number key) s.low (ap is_gt (sym e) ∙ t) in dite (ℕ_discrete s.high 0)
      (λ z. subst (λ (q : Ordering). MatchBool (is_le q) (EndsUnder key s) (EndsUnder key s → ⊥)) (sym (g ∙ high_cmp-none (key_number key) s.high z)) (record { low = low; high = inl z }))
      (λ ne. subst (λ (q : Ordering). MatchBool (is_le q) (EndsUnder key s) (EndsUnder key s → ⊥)) (sym (g ∙ high_cmp-some (key_number key) s.high ne))
      (cmp-cases (key_number key) (s.high - 1) (λ (r : Ordering). MatchBool (is_le r) (EndsUnder key s) (EndsUnder key s → ⊥))
      (λ l. record { low = low; high = inr (omega arith) })
      (λ l. record { low = low; high = inr (omega arith) })
      (λ l u. ⊎_elim (λ (z : s.high ≡ 0). ne z) (λ (m : key_number key < s.high). let f : ⊥ = omega arith in f) u.high)))
