-- How many blocks and headers are used where the premises of the counting hold, and what the free ones say of it.
use Rattle.std.proofs.Common.{◌≡◌, ◌≢◌, ℕ, zero, suc, ◌+◌, ◌/◌, ◌%◌, ◌<◌, ◌≤◌, not, Bool, List, length, sym, refl, ap, ◌∙◌, subst, arith}
use Rattle.std.proofs.lemmas.Nat.Bits.{bit_at-lt}
use mathlib.Core.Logic.{dite}
use native.Mathlib.Decide.{ℕ_discrete}
use Rattle.oak_model.specs.declared.classes.Class.{Class}
use Rattle.oak_model.specs.declared.replies.Pair.{Pair}
use Rattle.oak_model.specs.Class.{blocks_of, class_number}
use Rattle.oak_model.specs.Counts.{one_if, below}
use Rattle.oak_model.specs.Limits.{Sizes}
use Rattle.oak_model.specs.State.{State}
use Rattle.oak_model.proofs.Counting.{one_if_le}
use Rattle.arena_core.specs.Arena.{blocks}
use Rattle.oak_core.specs.Memory.{Memory, memory}
use Rattle.oak_core.specs.Usage.{is_free, used_blocks}
use Rattle.lone_counts.specs.Entries.{entries_of, floored, floors, is_of_class, floor_blocks}
use Rattle.lone_counts.specs.Exactly.{BlocksExactly, HeadersExactly, block_bit}
use Rattle.lone_counts.specs.LoneTable.{retired_in}
use Rattle.lone_counts.specs.Maps.{IsMapOf}
use Rattle.lone_counts.specs.Premises.{TableStands}
use Rattle.lone_counts.proofs.Sums.{total_unweighed}
use Rattle.lone_counts.proofs.SetBits.{set_bits_below}
use Rattle.lone_counts.proofs.Used.{set_bits_are, headers_are}

-- of so many that are 0 or 1 no more are 1

below_most : (f : ℕ → ℕ) (n : ℕ) → ((k : ℕ) → f k ≤ 1) → below f n ≤ n
unfolding below
below_most f zero h = omega arith
below_most f (suc n) h = let a = h n in let t = below_most f n h in omega arith

below_all : (f : ℕ → ℕ) (n : ℕ) → ((k : ℕ) → k < n → f k ≡ 1) → below f n ≡ n
unfolding below
below_all f zero h = refl
below_all f (suc n) h = let a = h n (omega arith) in let t = below_all f n (λ k l. h k (omega arith)) in omega arith

-- one is 0
below_one : (f : ℕ → ℕ) (n k : ℕ) → ((j : ℕ) → f j ≤ 1) → k < n → f k ≡ 0 → below f n + 1 ≤ n
unfolding below
below_one f zero k h l z = absurd (omega arith)
below_one f (suc n) k h l z = dite (ℕ_discrete k n)
    (λ e. let y : f n ≡ 0 = ap f (sym e) ∙ z in let t = below_most f n h in omega arith)
    (λ ne. let t = below_one f n k h (omega arith) z in let a = h n in omega arith)

-- two are
below_two : (f : ℕ → ℕ) (n k i : ℕ) → ((j : ℕ) → f j ≤ 1) → k ≢ i → k < n → i < n → f k ≡ 0 → f i ≡ 0 → below f n + 2 ≤ n
unfolding below
below_two f zero k i h ne l q z y = absurd (omega arith)
below_two f (suc n) k i h ne l q z y = dite (ℕ_discrete k n)
    (λ e. let x : f n ≡ 0 = ap f (sym e) ∙ z in let t = below_one f n i h (let d : i ≢ n = (λ u. ne (e ∙ sym u)) in omega arith) y in omega arith)
    (λ nk. dite (ℕ_discrete i n)
    (λ e. let x : f n ≡ 0 = ap f (sym e) ∙ y in let t = below_one f n k h (omega arith) z in omega arith)
    (λ ni. let t = below_two f n k i h ne (omega arith) (omega arith) z y in let a = h n in omega arith))

-- just one is
below_but_one : (f : ℕ → ℕ) (n k : ℕ) → k < n → f k ≡ 0 → ((j : ℕ) → j < n → j ≢ k → f j ≡ 1) → below f n + 1 ≡ n
unfolding below
below_but_one f zero k l z h = absurd (omega arith)
below_but_one f (suc n) k l z h = dite (ℕ_discrete k n)
    (λ e. let y : f n ≡ 0 = ap f (sym e) ∙ z in let t = below_all f n (λ j m. h j (omega arith) (λ u. absurd (omega arith))) in omega arith)
    (λ ne. let t = below_but_one f n k (omega arith) z (λ j m. h j (omega arith)) in let a = h n (omega arith) (λ u. ne (sym u)) in omega arith)

-- where no entry has a floor, none has a key block beside those of the map
no_floor_blocks : (c : ℕ) (es : List _) → floors es ≡ 0 → floor_blocks c es ≡ 0
no_floor_blocks c es none = total_unweighed floored (is_of_class c) es none

module _ (z : Sizes) (words : List ℕ) (state : List ℕ → State) (t : TableStands z (memory z words).arena.bits (memory z words).headers (entries_of z (memory z words)) state) (m : List Pair) (is : IsMapOf state m) where
  abbrev mem : Memory
  mem = memory z words

  bits_counted : (c : Class) → below (block_bit z words c) (blocks z (class_number c)) ≡ blocks_of m c + floor_blocks (class_number c) (entries_of z mem)
  bits_counted c = let n : ℕ = class_number c in sym (set_bits_below z (mem.arena.bits n) n (t.blocks.small n) (λ b le. t.blocks.owned n b ∙ t.blocks.inside n b le)) ∙ set_bits_are z mem.arena.bits mem.headers (entries_of z mem) state t m is c

  bit_most : (c : Class) (b : ℕ) → block_bit z words c b ≤ 1
  bit_most c b = let l = bit_at-lt (mem.arena.bits (class_number c) (b / 64)) (b % 64) in omega arith

  pub map_fits : (c : Class) → blocks_of m c ≤ blocks z (class_number c)
  map_fits c = let e = bits_counted c in let l = below_most (block_bit z words c) (blocks z (class_number c)) (bit_most c) in
      let x : ℕ = below (block_bit z words c) (blocks z (class_number c)) in let y : ℕ = blocks_of m c in let f : ℕ = floor_blocks (class_number c) (entries_of z mem) in
      let e' : x ≡ y + f = e in let l' : x ≤ blocks z (class_number c) = l in let r : y ≤ blocks z (class_number c) = omega arith in r

  -- as many headers are not free
  pub headers_counted : below (λ h. one_if (not (is_free (mem.headers.pin h)))) z.headers ≡ length m + retired_in z words
  headers_counted = headers_are z mem.arena.bits mem.headers (entries_of z mem) state t m is

  pub map_headers : HeadersExactly z words (length m + retired_in z words)
  map_headers = record {
    fits = subst (λ (n : ℕ). n ≤ z.headers) headers_counted (below_most (λ h. one_if (not (is_free (mem.headers.pin h)))) z.headers (λ h. one_if_le (not (is_free (mem.headers.pin h)))));
    all = λ all. sym headers_counted ∙ below_all (λ h. one_if (not (is_free (mem.headers.pin h)))) z.headers (λ h l. ap (λ (b : Bool). one_if (not b)) (all h l));
    one = λ h lt free. subst (λ (n : ℕ). n + 1 ≤ z.headers) headers_counted (below_one (λ h. one_if (not (is_free (mem.headers.pin h)))) z.headers h (λ j. one_if_le (not (is_free (mem.headers.pin j)))) lt (ap (λ (b : Bool). one_if (not b)) free));
  }

  module _ (none : floors (entries_of z mem) ≡ 0) (c : Class) where
    counted : below (block_bit z words c) (blocks z (class_number c)) ≡ blocks_of m c
    counted = let e = bits_counted c in let n = no_floor_blocks (class_number c) (entries_of z mem) none in
        let x : ℕ = below (block_bit z words c) (blocks z (class_number c)) in let y : ℕ = blocks_of m c in let f : ℕ = floor_blocks (class_number c) (entries_of z mem) in
        let e' : x ≡ y + f = e in let n' : f ≡ 0 = n in let r : x ≡ y = omega arith in r

    pub map_blocks : BlocksExactly z words c (blocks_of m c)
    map_blocks = record {
      fits = map_fits c;
      all = λ all. sym counted ∙ below_all (block_bit z words c) (blocks z (class_number c)) all;
      one = λ b lt clear. subst (λ (n : ℕ). n + 1 ≤ blocks z (class_number c)) counted (below_one (block_bit z words c) (blocks z (class_number c)) b (bit_most c) lt clear);
      two = λ b d ne lt less clear free. subst (λ (n : ℕ). n + 2 ≤ blocks z (class_number c)) counted (below_two (block_bit z words c) (blocks z (class_number c)) b d (bit_most c) ne lt less clear free);
      but_one = λ b lt clear others. subst (λ (n : ℕ). n + 1 ≡ blocks z (class_number c)) counted (below_but_one (block_bit z words c) (blocks z (class_number c)) b lt clear others);
    }

    pub map_usage : used_blocks z mem (class_number c) ≡ blocks_of m c
    map_usage = let e = set_bits_are z mem.arena.bits mem.headers (entries_of z mem) state t m is c in let n = no_floor_blocks (class_number c) (entries_of z mem) none in
        let x : ℕ = used_blocks z mem (class_number c) in let y : ℕ = blocks_of m c in let f : ℕ = floor_blocks (class_number c) (entries_of z mem) in
        let e' : x ≡ y + f = e in let n' : f ≡ 0 = n in let r : x ≡ y = omega arith in r
