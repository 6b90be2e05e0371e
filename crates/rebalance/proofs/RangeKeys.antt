-- The keys of a room's bounds, and how a key lies to its range.
use Rattle.std.proofs.Common.{◌≡◌, ◌≢◌, ℕ, ◌+◌, ◌-◌, ◌==◌, Bool, true, false, cond, MatchBool, Option, Some, None, List, get_or, take, drop, sym, refl, ap, ◌∙◌, subst, arith, eq-eqb, ne_eqb}
use Rattle.std.specs.Ordering.{nat_cmp, is_lt}
use Rattle.std.specs.declared.cmp.Ordering.{Ordering}
use Rattle.std.specs.declared.cmp.Ordering.TheVariants.{Less}
use Rattle.oak_model.specs.Key.{key_cmp}
use Rattle.oak_model.specs.KeyNumber.{key_number}
use Rattle.oak_model.specs.WordBytes.{bytes_of}
use Rattle.chunk_core.specs.Covers.{span_in}
use Rattle.chunk_core.specs.KeyWords.{low_bytes, high_bytes, low_number, high_number}
use Rattle.chunk_core.specs.Rooms.{RoomMemory}
use Rattle.chunk_core.specs.Spans.{within}
use Rattle.chunk_ops.specs.declared.stored.StoredKey.{StoredKey}
use Rattle.chunk_ops.specs.AskedRanges.{high_cmp}
use Rattle.chunk_ops.specs.Stored.{IsStored}
use Rattle.chunk_ops.proofs.BoundOrder.{by_numbers, before_low, in_range, high_cmp-none, high_cmp-some}
use Rattle.rebalance.specs.declared.ranges.Bound.TheVariants.{Low, High}
use Rattle.rebalance.specs.Ranges.{IsKeyOf, bound_bytes, bound_words, high_words, low_words}
use Rattle.rebalance.proofs.LoadedBounds.{bound_word_is}

-- the number of a high bound, by its key
abbrev pub number_of : Option (List ℕ) → ℕ
number_of None = 0
number_of (Some b) = key_number b + 1

pub high_number-is : (ws : List ℕ) → high_number ws ≡ number_of (high_bytes ws)
unfolding high_number
high_number-is ws = by (get_or ws 0 0 == 0) (take (get_or ws 0 0 - 1) (bytes_of (drop 1 ws)))
  where
    by : (t : Bool) (b : List ℕ) → cond t 0 (key_number b + 1) ≡ number_of (cond t None (Some b))
    by true b = refl
    by false b = refl

module _ (m : RoomMemory) (r : ℕ) where
  -- the low bound, by the length that was loaded
  pub low_loaded : (n : RoomMemory) (x : ℕ) (k : StoredKey) → n ≡ m → x ≡ m.low r 0 → IsStored k (bound_bytes x (bound_words Low n r)) → IsStored k (low_bytes (low_words m r))
  low_loaded n x k same is h = subst (IsStored k) (λ j. bound_bytes ((is ∙ bound_word_is m r Low 0 (omega arith)) j) (bound_words Low (same j) r)) h

  -- no high bound
  pub none_loaded : (x : ℕ) → x ≡ m.high r 0 → x ≡ 0 → high_bytes (high_words m r) ≡ None
  none_loaded x is z = let ws : List ℕ = high_words m r in
      ap (λ (t : Bool). cond t None (Some (bound_bytes (get_or ws 0 0 - 1) ws))) (eq-eqb (get_or ws 0 0) 0 (sym (is ∙ bound_word_is m r High 0 (omega arith)) ∙ z))

  -- the high bound, by the first word that was loaded
  pub high_loaded : (n : RoomMemory) (x : ℕ) (k : StoredKey) → n ≡ m → x ≡ m.high r 0 → x ≢ 0 → IsStored k (bound_bytes (x - 1) (bound_words High n r)) → IsKeyOf (high_words m r) k
  high_loaded n x k same is some h = let ws : List ℕ = high_words m r in let e : x ≡ get_or ws 0 0 = is ∙ bound_word_is m r High 0 (omega arith) in record {
    bytes = bound_bytes (get_or ws 0 0 - 1) ws;
    are = ap (λ (t : Bool). cond t None (Some (bound_bytes (get_or ws 0 0 - 1) ws))) (ne_eqb (get_or ws 0 0) 0 (λ z. some (e ∙ z)));
    stored = subst (IsStored k) (λ j. bound_bytes (e j - 1) (bound_words High (same j) r)) h;
  }

  -- a key against the bounds

  module _ (k : StoredKey) (b : List ℕ) (key : IsStored k b) where
    low_order : (l : StoredKey) (o : Ordering) → IsStored l (low_bytes (low_words m r)) → ((a c : List ℕ) → IsStored k a → IsStored l c → o ≡ key_cmp a c) → o ≡ nat_cmp (key_number b) (span_in m r).low
    unfolding low_number
    low_order l o low cmp = cmp b (low_bytes (low_words m r)) key low ∙ by_numbers b (low_bytes (low_words m r)) key.bytes low.bytes key.few low.few

    high_order : (l : StoredKey) (o : Ordering) → IsKeyOf (high_words m r) l → ((a c : List ℕ) → IsStored k a → IsStored l c → o ≡ key_cmp a c) → o ≡ high_cmp (key_number b) (span_in m r).high
    high_order l o high cmp = let n : ℕ = key_number high.bytes in
        cmp b high.bytes key high.stored ∙ (by_numbers b high.bytes key.bytes high.stored.bytes key.few high.stored.few
        ∙ (ap (nat_cmp (key_number b)) (let e : n ≡ n + 1 - 1 = omega arith in e)
        ∙ (sym (high_cmp-some (key_number b) (n + 1) (λ e. absurd (omega arith))) ∙ ap (high_cmp (key_number b)) (sym (high_number-is (high_words m r) ∙ ap number_of high.are)))))

    -- a key below the low bound
    pub is_before : (l : StoredKey) (o : Ordering) → IsStored l (low_bytes (low_words m r)) → ((a c : List ℕ) → IsStored k a → IsStored l c → o ≡ key_cmp a c) → is_lt o ≡ true → within (span_in m r) (key_number b) ≡ 1 → ⊥
    is_before l o low cmp below = before_low b (span_in m r) o (low_order l o low cmp) below

    module _ (l : StoredKey) (o : Ordering) (low : IsStored l (low_bytes (low_words m r))) (cmp : (a c : List ℕ) → IsStored k a → IsStored l c → o ≡ key_cmp a c) (from : is_lt o ≡ false) where
      -- a key not below it is in the range where it is below the high one
      pub is_inside : (h : StoredKey) (p : Ordering) → IsKeyOf (high_words m r) h → ((a c : List ℕ) → IsStored k a → IsStored h c → p ≡ key_cmp a c) → MatchBool (is_lt p) (within (span_in m r) (key_number b) ≡ 1) (within (span_in m r) (key_number b) ≡ 1 → ⊥)
      is_inside h p high order = in_range b (span_in m r) o p (low_order l o low cmp) from (high_order h p high order)

      -- or where there is none
      pub is_last : high_bytes (high_words m r) ≡ None → within (span_in m r) (key_number b) ≡ 1
      is_last none = in_range b (span_in m r) o Less (low_order l o low cmp) from (sym (high_cmp-none (key_number b) (span_in m r).high (high_number-is (high_words m r) ∙ ap number_of none)))
