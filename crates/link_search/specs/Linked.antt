-- What a pin found of a room whose entries are linked.
use Rattle.std.specs.Prelude.{◌≡◌, ◌≢◌, ℕ, ◌-◌, ◌<◌, ◌≤◌, List, Option, Some, None}
use Rattle.oak_model.specs.Key.{IsKeyBefore}

-- more than 0 where the count was found, the length of the prefix that it told, how often an entry of each number was found, and the keys of those
pub record Linked : Type 0 where
  pub counted : ℕ
  pub prefix : ℕ
  pub found : ℕ → ℕ
  pub key : ℕ → List ℕ

abbrev pub IsCounted : Linked → Type 0
IsCounted r = 0 < r.counted

abbrev pub IsFound : Linked → ℕ → Type 0
IsFound r i = 0 < r.found i

-- more may have been found since
pub record Grown (r s : Linked) : Type 0 where
  pub found : (i : ℕ) → IsFound r i → IsFound s i
  pub key : (i : ℕ) → IsFound r i → s.key i ≡ r.key i

-- but the count told the same prefix, if any
pub record Later (r s : Linked) : Type 0 where
  pub counted : s.counted ≡ r.counted
  pub prefix : s.prefix ≡ r.prefix
  pub found : (i : ℕ) → IsFound r i → IsFound s i
  pub key : (i : ℕ) → IsFound r i → s.key i ≡ r.key i

-- the entries of the prefix are found
abbrev pub FrontStands : Linked → Type 0
FrontStands r = (i : ℕ) → i < r.prefix → IsFound r i

-- and rise
pub record IsFront (r : Linked) : Type 0 where
  pub found : FrontStands r
  pub rises : (i j : ℕ) → i < j → j < r.prefix → IsKeyBefore (r.key i) (r.key j)

-- where a link leads

-- the key is above that of the entry, or there is none
abbrev pub IsAboveFrom : Linked → Option ℕ → List ℕ → Type 0
IsAboveFrom r None k = Unit {0}
IsAboveFrom r (Some i) k = IsFound r i × IsKeyBefore (r.key i) k

-- the key is below that of the entry that the link names, or it names none
abbrev pub IsBelowTo : Linked → ℕ → List ℕ → Type 0
IsBelowTo r link k = link ≢ 0 → IsFound r (link - 1) × IsKeyBefore k (r.key (link - 1))

-- no entry found lies between the two
abbrev pub SkipsNone : Linked → Option ℕ → ℕ → Type 0
SkipsNone r from link = (j : ℕ) → IsFound r j → IsAboveFrom r from (r.key j) → IsBelowTo r link (r.key j) → ⊥

-- a place in the order of keys, P saying of a key that it lies before it

-- the entry lies before it, or there is none
abbrev pub IsCut : Linked → Option ℕ → (List ℕ → Type 0) → Type 0
IsCut r None P = Unit {0}
IsCut r (Some i) P = IsFound r i × P (r.key i)

-- no entry of the prefix lies between the entry and the place
abbrev pub IsBare : Linked → Option ℕ → (List ℕ → Type 0) → Type 0
IsBare r from P = (j : ℕ) → j < r.prefix → IsAboveFrom r from (r.key j) → P (r.key j) → ⊥

-- of the prefix the first n entries lie before it, and the others do not
pub record IsSplit (r : Linked) (P : List ℕ → Type 0) (n : ℕ) : Type 0 where
  pub within : n ≤ r.prefix
  pub lower : (j : ℕ) → j < n → P (r.key j)
  pub upper : (j : ℕ) → n ≤ j → j < r.prefix → P (r.key j) → ⊥

-- a new key belongs between the entry and the one that the link names
pub record IsPlaced (r : Linked) (from : Option ℕ) (link : ℕ) (k : List ℕ) : Type 0 where
  pub behind : IsAboveFrom r from k
  pub before : IsBelowTo r link k

-- The key belongs right behind the entry, or before all where there is none: the entry's key is smaller, and no entry that was found lies between.
pub record BelongsBehind (r : Linked) (from : Option ℕ) (k : List ℕ) : Type 0 where
  pub above : IsAboveFrom r from k
  pub next : (j : ℕ) → IsFound r j → IsAboveFrom r from (r.key j) → IsKeyBefore (r.key j) k → ⊥
