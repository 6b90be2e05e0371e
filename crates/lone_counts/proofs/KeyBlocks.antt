-- A map of so many keys, that are no longer than so many bytes with their values, needs no more blocks than the sizes for such keys have.
use Rattle.std.proofs.Common.{◌≡◌, refl, ℕ, ◌+◌, ◌<◌, ◌≤◌, ◌==◌, if◌then◌else◌, cond, Bool, true, false, List, length, Option, Some, None, ap, subst, arith}
use Rattle.std.specs.Option.{option_map_or}
use Rattle.std.specs.Prelude.{count_by, nat_le}
use Rattle.std.proofs.lemmas.Bool.{lt-ltb}
use Rattle.std.proofs.lemmas.List.Sums.{count_by-le-length}
use mathlib.Core.Logic.{dite}
use mathlib.Core.Option.{some}
use native.Mathlib.Decide.{ℕ_discrete}
use lib.ListN.{get_elem?}
use Rattle.oak_model.specs.declared.classes.Class.{Class}
use Rattle.oak_model.specs.declared.classes.Class.TheVariants.{B16, B64, B256, B1024}
use Rattle.oak_model.specs.declared.replies.Pair.{Pair}
use Rattle.oak_model.specs.Class.{blocks_of, class_number, has_class}
use Rattle.oak_model.specs.Counts.{Every, one_if}
use Rattle.oak_model.specs.KeyShapes.{if_longer, sizes_for_keys}
use Rattle.oak_model.specs.State.{State}
use Rattle.oak_model.proofs.Counting.{le-cases, total_some}
use Rattle.arena_core.specs.Arena.{blocks}
use Rattle.lone_counts.specs.Maps.{IsMapOf}
use Rattle.lone_counts.proofs.KeyLaw.{pair_of}
use Rattle.lone_counts.proofs.Sums.{total_count}

-- ---- what has a class is longer than the class below has bytes

abbrev IsAbove : Class → ℕ → Type 0
IsAbove B16 n = Unit {0}
IsAbove B64 n = 16 < n
IsAbove B256 n = 64 < n
IsAbove B1024 n = 256 < n

-- whether a class that was found is this one
abbrev is_this : Class → Option Class → Bool
is_this c o = option_map_or (λ d. class_number d == class_number c) o false

abbrev from_256 : ℕ → Option Class
from_256 n = cond (nat_le n 256) (Some B256) (cond (nat_le n 1024) (Some B1024) None)

abbrev from_64 : ℕ → Option Class
from_64 n = cond (nat_le n 64) (Some B64) (from_256 n)

above : (c : Class) (n : ℕ) → has_class c n ≡ true → IsAbove c n
above B16 n = λ _. tt
above B64 n = le-cases n 16 (λ t. is_this B64 (cond t (Some B16) (from_64 n)) ≡ true → 16 < n) (λ _ e. absurd cc) (λ l _. l)
above B256 n = le-cases n 16 (λ t. is_this B256 (cond t (Some B16) (from_64 n)) ≡ true → 64 < n) (λ _ e. absurd cc)
    (λ _. le-cases n 64 (λ t. is_this B256 (cond t (Some B64) (from_256 n)) ≡ true → 64 < n) (λ _ e. absurd cc) (λ l _. l))
above B1024 n = le-cases n 16 (λ t. is_this B1024 (cond t (Some B16) (from_64 n)) ≡ true → 256 < n) (λ _ e. absurd cc)
    (λ _. le-cases n 64 (λ t. is_this B1024 (cond t (Some B64) (from_256 n)) ≡ true → 256 < n) (λ _ e. absurd cc)
    (λ _. le-cases n 256 (λ t. is_this B1024 (cond t (Some B256) (cond (nat_le n 1024) (Some B1024) None)) ≡ true → 256 < n) (λ _ e. absurd cc) (λ l _. l)))

-- ---- how many have it

is_true : (b : Bool) → 0 < one_if b → b ≡ true
is_true true e = refl
is_true false e = absurd (omega arith)

-- of at most n pairs no more than k pass a test, which is n where any does
few_pass : (p : Pair → Bool) (m : List Pair) (n k : ℕ) → length m ≤ n → ((i : ℕ) (x : Pair) → get_elem? m i ≡ some x → p x ≡ true → n ≤ k) → count_by p m ≤ k
few_pass p m n k few each = dite (ℕ_discrete (count_by p m) 0) (λ none. omega arith)
    (λ more. let t = total_count p m in let s = total_some (λ (x : Pair). one_if (p x)) m (omega arith) in let e = each s.0 s.1 s.2 (is_true (p s.1) s.3) in let l = count_by-le-length p m in omega arith)

longer : (bytes longest count n : ℕ) → bytes < n → n ≤ longest → count ≤ if_longer bytes longest count
longer bytes longest count n l m = let e = ap (λ (b : Bool). if b then count else 0) (lt-ltb bytes longest (omega arith)) in omega arith

-- a pair of a key of at most so many bytes, and of a value of at most so many; no key has more than 64
abbrev pub IsShort : (key_bytes value_bytes : ℕ) → Pair → Type 0
IsShort key_bytes value_bytes p = (length p.key ≤ 64) × (length p.key ≤ key_bytes) × (length p.value ≤ value_bytes)

module _ (count key_bytes value_bytes passes : ℕ) (m : List Pair) (few : length m ≤ count) (each : Every (IsShort key_bytes value_bytes) m) where
  keys_of : (c : Class) → ℕ
  keys_of c = count_by (λ (p : Pair). has_class c (length p.key)) m

  values_of : (c : Class) → ℕ
  values_of c = count_by (λ (p : Pair). has_class c (length p.value)) m

  few_keys : (c : Class) (k : ℕ) → ((p : Pair) → IsAbove c (length p.key) → length p.key ≤ 64 → length p.key ≤ key_bytes → count ≤ k) → keys_of c ≤ k
  unfolding keys_of
  few_keys c k h = few_pass (λ (p : Pair). has_class c (length p.key)) m count k few (λ i p there e. let b = each i p there in h p (above c (length p.key) e) b.0 b.1)

  few_values : (c : Class) (k : ℕ) → ((p : Pair) → IsAbove c (length p.value) → length p.value ≤ value_bytes → count ≤ k) → values_of c ≤ k
  unfolding values_of
  few_values c k h = few_pass (λ (p : Pair). has_class c (length p.value)) m count k few (λ i p there e. let b = each i p there in h p (above c (length p.value) e) b.2)

  both_kinds : (c : Class) → keys_of c + values_of c ≤ blocks (sizes_for_keys count key_bytes value_bytes passes) (class_number c)
  both_kinds B16 = let k = few_keys B16 count (λ p _ _ _. omega arith) in let v = few_values B16 count (λ p _ _. omega arith) in omega arith
  both_kinds B64 = let k = few_keys B64 (if_longer 16 key_bytes count) (λ p l _ b. longer 16 key_bytes count (length p.key) l b) in let v = few_values B64 (if_longer 16 value_bytes count) (λ p l b. longer 16 value_bytes count (length p.value) l b) in omega arith
  both_kinds B256 = let k = few_keys B256 0 (λ p l s _. absurd (omega arith)) in let v = few_values B256 (if_longer 64 value_bytes count) (λ p l b. longer 64 value_bytes count (length p.value) l b) in omega arith
  both_kinds B1024 = let k = few_keys B1024 0 (λ p l s _. absurd (omega arith)) in let v = few_values B1024 (if_longer 256 value_bytes count) (λ p l b. longer 256 value_bytes count (length p.value) l b) in omega arith

  pub blocks_suffice : (c : Class) → blocks_of m c ≤ blocks (sizes_for_keys count key_bytes value_bytes passes) (class_number c)
  unfolding keys_of values_of
  blocks_suffice c = both_kinds c

-- where each pair of a map is so short, so is each key with what it holds
pub short_states : (key_bytes value_bytes : ℕ) (state : List ℕ → State) (m : List Pair) → IsMapOf state m → Every (IsShort key_bytes value_bytes) m → (q b : List ℕ) → state q ≡ Some b → IsShort key_bytes value_bytes (record { key = q; value = b; at = 0 })
short_states key_bytes value_bytes state m is each q b e = let p = pair_of state m is q b e in let s = each p.place p.pair p.there in
    (subst (λ (k : List ℕ). length k ≤ 64) p.key s.0, subst (λ (k : List ℕ). length k ≤ key_bytes) p.key s.1, subst (λ (x : List ℕ). length x ≤ value_bytes) p.value s.2)
