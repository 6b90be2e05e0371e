-- When the pairs of a scan fit the histories.
use Rattle.std.specs.Prelude.{◌≡◌, ℕ, ◌≤◌, ◌&&◌, not, Bool, true, if◌then◌else◌, List, [], ◌∷◌, map, Option, Some, None}
use Rattle.std.specs.List.{AllByRecursion}
use Rattle.std.specs.List.Sorted.{IsStrictlySortedBy}
use Rattle.std.specs.Ordering.{is_gt, flip_args}
use Rattle.oak_model.specs.declared.replies.Pair.{Pair}
use Rattle.oak_model.specs.Key.{key_cmp, same_key}
use Rattle.oak_model.specs.State.{State}
use Rattle.oak_model.specs.History.{Histories, state_at, place_of}

-- neither bound excludes the key; both belong to the range
abbrev pub not_below : Option (List ℕ) → List ℕ → Bool
not_below None k = true
not_below (Some low) k = not (is_gt (key_cmp low k))

abbrev pub not_above : Option (List ℕ) → List ℕ → Bool
not_above None k = true
not_above (Some high) k = not (is_gt (key_cmp k high))

abbrev pub in_range : Option (List ℕ) → Option (List ℕ) → List ℕ → Bool
in_range low high k = not_below low k && not_above high k

-- what the pairs say of a key
abbrev pub value_in : List Pair → List ℕ → State
value_in [] k = None
value_in (p ∷ ps) k = if same_key k p.key then Some p.value else value_in ps k

abbrev pub pair_keys : List Pair → List (List ℕ)
pair_keys ps = map (λ (p : Pair). p.key) ps

abbrev pub IsRising : List Pair → Type 0
IsRising ps = IsStrictlySortedBy key_cmp (pair_keys ps)

abbrev pub IsFalling : List Pair → Type 0
IsFalling ps = IsStrictlySortedBy (flip_args key_cmp) (pair_keys ps)

-- Each key of the range was read once, at a place of its own that is not before the one seen at the
-- start nor behind the one seen at the end. The pairs are just the keys that were read present, each
-- with its bytes and its place.
pub record ScanFits (h : Histories) (seen_before seen_after : List ℕ → ℕ) (low high : Option (List ℕ)) (pairs : List Pair) (places : List ℕ → ℕ) : Type 0 where
  pub from : (k : List ℕ) → in_range low high k ≡ true → seen_before k ≤ places k
  pub to : (k : List ℕ) → in_range low high k ≡ true → places k ≤ seen_after k
  pub reads : (k : List ℕ) → value_in pairs k ≡ (if in_range low high k then state_at (h k) (places k) else None)
  pub each : AllByRecursion (λ (p : Pair). place_of (h p.key) p.at ≡ places p.key) pairs
