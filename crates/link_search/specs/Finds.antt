-- What a search finds, and by how many loads of key words.
use Rattle.std.specs.Prelude.{◌≡◌, ◌≢◌, ℕ, ◌+◌, ◌-◌, ◌<◌, ◌≤◌, List, ◌∷◌, ◌++◌, Option}
use Rattle.oak_model.specs.Counts.{Each}
use Rattle.oak_model.specs.Key.{IsKeyBefore}
use Rattle.chunk_core.specs.LinkedEntries.{entries_in}
use Rattle.link_search.specs.declared.finding.Sought.{Sought}
use Rattle.link_search.specs.declared.finding.Sought.TheVariants.{Entry, Missing}
use Rattle.link_search.specs.declared.room.Sorted.{Sorted}
use Rattle.link_search.specs.declared.room.Sorted.TheVariants.{At, Between}
use Rattle.link_search.specs.Bits.{bits}
use Rattle.link_search.specs.Linked.{Linked, BelongsBehind, IsFound}
use Rattle.link_search.specs.Met.{Met, met_count, key_loads, IsLoad, IsEntryLoad}
use Rattle.link_search.specs.Walks.{StepsOver}

-- entry i of the prefix has the key
abbrev pub IsAt : Linked → List ℕ → ℕ → Type 0
IsAt r k i = (i < r.prefix) × (r.key i ≡ k)

-- of the prefix the first i entries have smaller keys, and the others greater ones
pub record IsBetween (r : Linked) (k : List ℕ) (i : ℕ) : Type 0 where
  pub within : i ≤ r.prefix
  pub below : (j : ℕ) → j < i → IsKeyBefore (r.key j) k
  pub above : (j : ℕ) → i ≤ j → j < r.prefix → IsKeyBefore k (r.key j)

abbrev pub SortedAs : Sorted → Linked → List ℕ → Type 0
SortedAs (At i) r k = IsAt r k i
SortedAs (Between i) r k = IsBetween r k i

-- an entry that was found has the key
abbrev pub IsEntryOf : Linked → List ℕ → ℕ → Type 0
IsEntryOf r k i = IsFound r i × (r.key i ≡ k)

-- the link of the entry, or the first one, was loaded and leads over the key, and no entry that was found has it
pub record Misses {S : Type 0} (view : S → Linked) (meets : S → S → List Met → Type 0) (k : List ℕ) (from : Option ℕ) (link : ℕ) (s t : S) : Type 0 where
  pub over : StepsOver view meets (λ q. IsKeyBefore q k) (IsKeyBefore k) from link s t
  pub none : (j : ℕ) → IsFound (view t) j → (view t).key j ≢ k

-- the entry of the key, or that it is missing, the entry behind which it belongs, and the link that leads over it
abbrev pub Finds : {S : Type 0} → (S → Linked) → (S → S → List Met → Type 0) → Sought → List ℕ → S → S → Type 0
Finds view meets (Entry i) k s t = IsEntryOf (view t) k i
Finds view meets (Missing behind link) k s t = Misses view meets k behind link s t × BelongsBehind (view t) behind k

-- Loads alone were made. The last of the count told how many entries are in use, and there are no more loads of key words than halving the prefix takes, and a walk over what that count has behind it, and one.
pub record LoadsFew {S : Type 0} (meets : S → S → List Met → Type 0) (r : Linked) (s t : S) : Type 0 where
  pub word : ℕ
  pub before : List Met
  pub behind : List Met
  pub on : meets s t (before ++ met_count word ∷ behind)
  pub loads : Each IsLoad before
  pub last : Each IsEntryLoad behind
  pub few : key_loads (before ++ met_count word ∷ behind) ≤ bits r.prefix + (entries_in word - r.prefix) + 1
