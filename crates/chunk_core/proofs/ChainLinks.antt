-- Links that rise by the keys of their entries, all below a count: they end, each entry is there once, what a link names is there, and no key lies between an entry and the one that its link names.
use Rattle.std.proofs.Common.{◌≡◌, ◌≢◌, ℕ, suc, ◌+◌, ◌-◌, ◌<◌, ◌≤◌, ◌⊎◌, sym, subst, inl, inr, ⊎_elim, arith, Option, Some, None}
use Rattle.std.specs.Prelude.{length}
use Rattle.oak_model.specs.Counts.{one_at, total, Each}
use Rattle.chunk_core.specs.LinkedEntries.{reached, farthest, Rises}
use Rattle.chunk_core.proofs.Chains.{first_least, first_there, next_least, next_there, reached_ends, rises_once}
use Rattle.chunk_core.proofs.EntryNumbers.{each_at}

-- what a link says: the first one, or that of an entry
abbrev pub link_of : (ℕ → ℕ) → ℕ → Option ℕ → ℕ
link_of next first None = first
link_of next first (Some q) = next q

-- the entry that it is of is reached
abbrev pub IsReachedFrom : (ℕ → ℕ) → ℕ → Option ℕ → Type 0
IsReachedFrom next first None = Unit {0}
IsReachedFrom next first (Some q) = total (λ j. one_at j q) (reached next first) ≡ 1

-- the number is above the key of the entry that it is of
abbrev pub IsAbove : (ℕ → ℕ) → Option ℕ → ℕ → Type 0
IsAbove key None k = Unit {0}
IsAbove key (Some q) k = key q < k

module _ (n : ℕ) (small : n < 65536) (key next : ℕ → ℕ) (first : ℕ) (used : Each (λ i. i < n) (reached next first)) (rises : Rises key (reached next first)) where
  pub reached_once : (i : ℕ) → total (λ j. one_at j i) (reached next first) ≤ 1
  reached_once = rises_once key (reached next first) rises

  pub reached_few : length (reached next first) < farthest
  reached_few = reached_ends n next first small used reached_once

  pub reached_below : (i : ℕ) → 0 < total (λ j. one_at j i) (reached next first) → i < n
  reached_below i l = each_at (λ k. k < n) (reached next first) i used l

  -- what a link that leads on names is reached
  pub named_reached : (from : Option ℕ) (y : ℕ) → IsReachedFrom next first from → link_of next first from ≡ y + 1 → total (λ j. one_at j y) (reached next first) ≡ 1
  named_reached None y h e = let t = first_there farthest next y first e reached_few in let q = reached_once y in omega arith
  named_reached (Some p) y h e = let t = next_there farthest next p y first e (omega arith) reached_few in let q = reached_once y in omega arith

  -- all keys above that are at or above b, where the link names none below b
  pub reached_least : (from : Option ℕ) (b : ℕ) → IsReachedFrom next first from → (link_of next first from ≡ 0) ⊎ (b ≤ key (link_of next first from - 1)) → (x : ℕ) → 0 < total (λ j. one_at j x) (reached next first) → IsAbove key from (key x) → b ≤ key x
  reached_least None b h l x there a = each_at (λ k. b ≤ key k) (reached next first) x (first_least key b farthest next first rises l) there
  reached_least (Some q) b h l x there a = each_at (λ k. key q < key k → b ≤ key k) (reached next first) x (next_least key b farthest next q first rises l (omega arith)) there a

  -- so no entry has a key between the two
  pub none_between : (from : Option ℕ) (k : ℕ) → IsReachedFrom next first from → IsAbove key from k → (link_of next first from ≡ 0) ⊎ (k < key (link_of next first from - 1)) → (x : ℕ) → 0 < total (λ j. one_at j x) (reached next first) → key x ≢ k
  none_between from k h a l x there e = let q = reached_least from (suc k) h (⊎_elim (λ (n : link_of next first from ≡ 0). inl n) (λ (t : k < key (link_of next first from - 1)). inr (let u = t in omega arith)) l) x there (above from a) in absurd (omega arith)
    where
      above : (from : Option ℕ) → IsAbove key from k → IsAbove key from (key x)
      above None t = tt
      above (Some q) t = subst (λ (n : ℕ). key q < n) (sym e) t
