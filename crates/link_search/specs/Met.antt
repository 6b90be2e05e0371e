-- The steps of a pass on a room that it has pinned, with the numbers that they found.
use Rattle.std.specs.Prelude.{◌≡◌, ◌≢◌, ℕ, suc, ◌≤◌, List, [], ◌∷◌, Option, Some}
use Rattle.oak_model.specs.Counts.{Each}

-- A load of the count, of the first link or an entry's, or of an entry's key word; an exchange of the count, or of a link, for one that names an entry, each with the number sought and the one found; a store of the value word, the link or the key word of the claimed entry, which may be given up by it.
pub data Met : Type 0 where
  met_count : ℕ → Met
  met_link : Option ℕ → ℕ → Met
  met_key : ℕ → Met
  tried_count : ℕ → ℕ → Met
  tried_link : Option ℕ → ℕ → ℕ → ℕ → Met
  stored_value : ℕ → Met
  stored_link : ℕ → ℕ → Met
  stored_key : ℕ → Met
  gave_up : ℕ → Met

-- how many of them are loads of key words
unfoldable pub key_loads : List Met → ℕ
key_loads [] = 0
key_loads (met_count n ∷ ms) = key_loads ms
key_loads (met_link f n ∷ ms) = key_loads ms
key_loads (met_key i ∷ ms) = suc (key_loads ms)
key_loads (tried_count o n ∷ ms) = key_loads ms
key_loads (tried_link f i o n ∷ ms) = key_loads ms
key_loads (stored_value i ∷ ms) = key_loads ms
key_loads (stored_link i l ∷ ms) = key_loads ms
key_loads (stored_key i ∷ ms) = key_loads ms
key_loads (gave_up i ∷ ms) = key_loads ms

-- it is a load of a link or of a key word
abbrev pub IsEntryLoad : Met → Type 0
IsEntryLoad (met_count n) = ⊥
IsEntryLoad (met_link f n) = Unit {0}
IsEntryLoad (met_key i) = Unit {0}
IsEntryLoad (tried_count o n) = ⊥
IsEntryLoad (tried_link f i o n) = ⊥
IsEntryLoad (stored_value i) = ⊥
IsEntryLoad (stored_link i l) = ⊥
IsEntryLoad (stored_key i) = ⊥
IsEntryLoad (gave_up i) = ⊥

-- or of the count
abbrev pub IsLoad : Met → Type 0
IsLoad (met_count n) = Unit {0}
IsLoad (met_link f n) = Unit {0}
IsLoad (met_key i) = Unit {0}
IsLoad (tried_count o n) = ⊥
IsLoad (tried_link f i o n) = ⊥
IsLoad (stored_value i) = ⊥
IsLoad (stored_link i l) = ⊥
IsLoad (stored_key i) = ⊥
IsLoad (gave_up i) = ⊥

-- it is a load, but of no link
abbrev pub LoadsNoLink : Met → Type 0
LoadsNoLink (met_count n) = Unit {0}
LoadsNoLink (met_link f n) = ⊥
LoadsNoLink (met_key i) = Unit {0}
LoadsNoLink (tried_count o n) = ⊥
LoadsNoLink (tried_link f i o n) = ⊥
LoadsNoLink (stored_value i) = ⊥
LoadsNoLink (stored_link i l) = ⊥
LoadsNoLink (stored_key i) = ⊥
LoadsNoLink (gave_up i) = ⊥

-- it changes no link but others than this
abbrev pub LeavesLink : Option ℕ → Met → Type 0
LeavesLink from (met_count n) = Unit {0}
LeavesLink from (met_link f n) = Unit {0}
LeavesLink from (met_key i) = Unit {0}
LeavesLink from (tried_count o n) = Unit {0}
LeavesLink from (tried_link f i o n) = f ≢ from
LeavesLink from (stored_value i) = Unit {0}
LeavesLink from (stored_link i l) = from ≢ Some i
LeavesLink from (stored_key i) = Unit {0}
LeavesLink from (gave_up i) = Unit {0}

-- it found the count to be n
abbrev pub TellsCount : ℕ → Met → Type 0
TellsCount n (met_count c) = c ≡ n
TellsCount n (met_link f l) = ⊥
TellsCount n (met_key i) = ⊥
TellsCount n (tried_count o c) = c ≡ n
TellsCount n (tried_link f i o l) = ⊥
TellsCount n (stored_value i) = ⊥
TellsCount n (stored_link i l) = ⊥
TellsCount n (stored_key i) = ⊥
TellsCount n (gave_up i) = ⊥

-- from s to t links and key words alone were loaded, at most n key words
abbrev pub LoadsKeys : {S : Type 0} → (S → S → List Met → Type 0) → ℕ → S → S → Type 0
LoadsKeys meets n s t = (ms : List Met) × meets s t ms × Each IsEntryLoad ms × (key_loads ms ≤ n)

-- key words alone, one at most
abbrev pub LoadsOneKey : {S : Type 0} → (S → S → List Met → Type 0) → S → S → Type 0
LoadsOneKey meets s t = (ms : List Met) × meets s t ms × Each IsEntryLoad ms × (key_loads ms ≤ 1) × Each LoadsNoLink ms

-- Between s and t the link was loaded, and no step behind that changed it.
pub record Looked {S : Type 0} (meets : S → S → List Met → Type 0) (from : Option ℕ) (link : ℕ) (s t : S) : Type 0 where
  pub moment : S
  pub before : List Met
  pub between : List Met
  pub start : meets s moment before
  pub on : meets moment t (met_link from link ∷ between)
  pub kept : Each (LeavesLink from) between
