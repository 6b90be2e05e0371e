-- What a walk along links loads, and where it ends.
use Rattle.std.specs.Prelude.{true, ◌≡◌, ◌≢◌, ℕ, ◌+◌, ◌-◌, ◌≤◌, List, [], ◌∷◌, length, Option}
use Rattle.std.specs.Ordering.{is_eq}
use Rattle.std.specs.declared.cmp.Ordering.{Ordering}
use Rattle.std.specs.declared.cmp.Ordering.TheVariants.{Less}
use Rattle.oak_model.specs.Counts.{Each}
use Rattle.oak_model.specs.Key.{IsKeyBefore}
use Rattle.link_search.specs.Linked.{Linked, Grown, Later, IsFound, IsAboveFrom, IsCut, SkipsNone}
use Rattle.link_search.specs.Met.{Met, key_loads, IsLoad, IsEntryLoad, LoadsNoLink, Looked}
use Rattle.link_search.specs.Ties.{order_to}

-- entries that a walk passed from one to a place, the last first: each lies between the two, and its key is above that of those before it
abbrev pub ArePassed : Linked → Option ℕ → (List ℕ → Type 0) → List ℕ → Type 0
ArePassed r from P [] = Unit {0}
ArePassed r from P (i ∷ is) = (IsFound r i × IsAboveFrom r from (r.key i) × P (r.key i)) × (Each (λ j. IsKeyBefore (r.key j) (r.key i)) is × ArePassed r from P is)

-- From s to t links and key words were loaded, n key words of which all but `rest` are of entries that were passed.
pub record Walks {S : Type 0} (pinned : S → Type 0) (view : S → Linked) (meets : S → S → List Met → Type 0) (from : Option ℕ) (P : List ℕ → Type 0) (rest : ℕ) (s t : S) : Type 0 where
  pub pin : pinned t
  pub later : Later (view s) (view t)
  pub met : List Met
  pub on : meets s t met
  pub loads : Each IsEntryLoad met
  pub passed : List ℕ
  pub are : ArePassed (view t) from P passed
  pub few : key_loads met ≤ length passed + rest

-- Between s and t a link was loaded that leads from a key with P, or from the low bound, to a key with Q, or to the high bound. Loads alone were made before, and behind it loads of other words than links. None of the entries found lies between.
pub record StepsOver {S : Type 0} (view : S → Linked) (meets : S → S → List Met → Type 0) (P Q : List ℕ → Type 0) (from : Option ℕ) (link : ℕ) (s t : S) : Type 0 where
  pub looked : Looked meets from link s t
  pub loads : Each IsLoad looked.before
  pub still : Each LoadsNoLink looked.between
  -- the entry that the link is of was found before it was loaded
  pub cut : IsCut (view looked.moment) from P
  pub grown : Grown (view looked.moment) (view t)
  pub leads : link ≢ 0 → IsFound (view t) (link - 1) × Q ((view t).key (link - 1))
  pub none : SkipsNone (view t) from link

-- a walk to the place stops at the link: what it names was found, and the key that is sought lies before it
abbrev pub StopsAt : Linked → Option (List ℕ) → ℕ → Type 0
StopsAt r bound link = link ≢ 0 → IsFound r (link - 1) × (order_to bound (r.key (link - 1)) ≡ Less)

-- it is how the key that was sought compares with that of the entry that the link names, or `Less`
pub record TellsOrder (order : Ordering) (r : Linked) (bound : Option (List ℕ)) (link : ℕ) : Type 0 where
  pub named : link ≢ 0 → order_to bound (r.key (link - 1)) ≡ order
  pub none : link ≡ 0 → order ≡ Less

-- the link names the entry, whose key was tied with the one sought
abbrev pub IsTied : Ordering → ℕ → ℕ → Type 0
IsTied order i link = (is_eq order ≡ true) × (link ≡ i + 1)
