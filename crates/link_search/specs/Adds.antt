-- What became of an entry that was to be added.
use Rattle.std.specs.Prelude.{◌≡◌, ◌≢◌, ℕ, ◌<◌, ◌⊎◌, List, [], ◌∷◌, Option}
use Rattle.oak_model.specs.Counts.{Each}
use Rattle.chunk_core.specs.LinkedEntries.{entries_in}
use Rattle.link_search.specs.declared.adding.Outcome.{Outcome}
use Rattle.link_search.specs.declared.adding.Outcome.TheVariants.{Found, Added, Full, Busy}
use Rattle.oak_model.specs.Key.{IsKeyBefore}
use Rattle.link_search.specs.Finds.{IsEntryOf, Misses}
use Rattle.link_search.specs.Linked.{Linked, IsFound}
use Rattle.link_search.specs.Met.{Met, met_count, met_link, tried_count, tried_link, stored_value, stored_link, stored_key, IsLoad, IsEntryLoad, LeavesLink, TellsCount}
use Rattle.link_search.specs.Walks.{StepsOver}

-- The count was found other than it was loaded before, with no step of the call between that changed it.
pub record CountChanged {S : Type 0} (meets : S → S → List Met → Type 0) (s t : S) : Type 0 where
  pub moment : S
  pub again : S
  pub before : List Met
  pub old : ℕ
  pub between : List Met
  pub number : ℕ
  pub second : Met
  pub start : meets s moment before
  pub looked : meets moment again (met_count old ∷ between)
  pub kept : Each IsEntryLoad between
  pub tried : meets again t (second ∷ [])
  pub tells : TellsCount number second
  pub other : number ≢ old

-- A link was found other than it was loaded before, with no step of the call between that changed it.
pub record LinkChanged {S : Type 0} (meets : S → S → List Met → Type 0) (s t : S) : Type 0 where
  pub moment : S
  pub again : S
  pub behind : S
  pub before : List Met
  pub from : Option ℕ
  pub old : ℕ
  pub between : List Met
  pub entry : ℕ
  pub number : ℕ
  pub rest : List Met
  pub start : meets s moment before
  pub looked : meets moment again (met_link from old ∷ between)
  pub kept : Each (LeavesLink from) between
  pub tried : meets again behind (tried_link from entry old number ∷ [])
  pub end : meets behind t rest
  pub other : number ≢ old

-- The count was found at the most that the room may have, and a link that was loaded behind that leads over the key. The call made loads alone.
pub record FoundFull {S : Type 0} (view : S → Linked) (meets : S → S → List Met → Type 0) (k : List ℕ) (most : ℕ) (s t : S) : Type 0 where
  pub word : ℕ
  pub counted : S
  pub on : meets s counted (met_count word ∷ [])
  pub full : entries_in word ≡ most
  pub from : Option ℕ
  pub link : ℕ
  pub misses : Misses view meets k from link counted t
  pub met : List Met
  pub whole : meets s t met
  pub loads : Each IsLoad met

-- The last step of the call linked the entry, by an exchange of the link that is to name it.
pub record LinksLast {S : Type 0} (meets : S → S → List Met → Type 0) (entry : ℕ) (s t : S) : Type 0 where
  pub moment : S
  pub before : List Met
  pub start : meets s moment before
  pub from : Option ℕ
  pub old : ℕ
  pub on : meets moment t (tried_link from entry old old ∷ [])

-- From the claim on: an entry of the key was found, and the claim given up, or the claimed one is linked at last, or a link was changed, and the claim given up.
abbrev pub LinkedAs : {S : Type 0} → (S → Linked) → (S → S → List Met → Type 0) → (S → List ℕ → Type 0) → (S → Type 0) → Outcome → ℕ → List ℕ → S → S → Type 0
LinkedAs view meets holds free (Found i) entry k s t = IsEntryOf (view t) k i × holds t k
LinkedAs view meets holds free (Added i) entry k s t = (i ≡ entry) × IsEntryOf (view t) k i × free t × LinksLast meets i s t
LinkedAs view meets holds free Full entry k s t = ⊥
LinkedAs view meets holds free Busy entry k s t = LinkChanged meets s t × holds t k

-- An entry of the key was found, or one was added, and linked at last; or there is no room for one, or the count or a link was changed. Where none was added the pass has the block still.
abbrev pub AddedAs : {S : Type 0} → (S → Linked) → (S → S → List Met → Type 0) → (S → List ℕ → Type 0) → (S → Type 0) → Outcome → List ℕ → ℕ → S → S → Type 0
AddedAs view meets holds free (Found i) k most s t = IsEntryOf (view t) k i × holds t k
AddedAs view meets holds free (Added i) k most s t = (i < most) × IsEntryOf (view t) k i × free t × LinksLast meets i s t
AddedAs view meets holds free Full k most s t = FoundFull view meets k most s t × holds t k
AddedAs view meets holds free Busy k most s t = (CountChanged meets s t ⊎ LinkChanged meets s t) × holds t k

abbrev pub IfBusy : Outcome → Type 0 → Type 0
IfBusy (Found i) P = Unit {0}
IfBusy (Added i) P = Unit {0}
IfBusy Full P = Unit {0}
IfBusy Busy P = P

-- what a call of a pass that is alone did

-- it loaded the count, and then made loads alone
abbrev pub LoadsAlone : {S : Type 0} → (S → S → List Met → Type 0) → S → S → Type 0
LoadsAlone meets s t = (word : ℕ) × (ms : List Met) × meets s t (met_count word ∷ ms) × Each IsLoad ms

-- By loads alone a link was found to lead over the key, which no entry that was found has. Then the entry past the count was claimed, stored, and linked there, each at the first try, and nothing else was done.
pub record AddsStraight {S : Type 0} (view : S → Linked) (meets : S → S → List Met → Type 0) (i : ℕ) (k : List ℕ) (s t : S) : Type 0 where
  pub moment : S
  pub loads : List Met
  pub start : meets s moment loads
  pub are : Each IsLoad loads
  pub from : Option ℕ
  pub link : ℕ
  pub over : StepsOver view meets (λ q. IsKeyBefore q k) (IsKeyBefore k) from link s moment
  pub none : (j : ℕ) → IsFound (view moment) j → (view moment).key j ≢ k
  pub old : ℕ
  pub number : i ≡ entries_in old
  pub puts : meets moment t (tried_count old old ∷ stored_value i ∷ stored_link i link ∷ stored_key i ∷ tried_link from i link link ∷ [])

-- from the claim on: the first try linked the entry
abbrev pub LinkedStraight : {S : Type 0} → (S → S → List Met → Type 0) → Outcome → Option ℕ → ℕ → ℕ → S → S → Type 0
LinkedStraight meets (Found i) from link entry s t = ⊥
LinkedStraight meets (Added i) from link entry s t = (i ≡ entry) × meets s t (tried_link from entry link link ∷ [])
LinkedStraight meets Full from link entry s t = ⊥
LinkedStraight meets Busy from link entry s t = ⊥

-- An entry was added straight, or loads alone were made; nothing was changed between its steps.
abbrev pub StraightAs : {S : Type 0} → (S → Linked) → (S → S → List Met → Type 0) → Outcome → List ℕ → S → S → Type 0
StraightAs view meets (Found i) k s t = LoadsAlone meets s t
StraightAs view meets (Added i) k s t = AddsStraight view meets i k s t
StraightAs view meets Full k s t = LoadsAlone meets s t
StraightAs view meets Busy k s t = ⊥
