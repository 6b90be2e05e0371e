-- On which side of a place in the order of keys a key lies.
use Rattle.std.specs.Prelude.{◌≡◌, ℕ, ◌+◌, Bool, true, false, List, Option, Some, None}
use Rattle.std.specs.declared.cmp.Ordering.{Ordering}
use Rattle.std.specs.declared.cmp.Ordering.TheVariants.{Less, Equal, Greater}
use denote.Ref.{Bor}
use Rattle.oak_model.specs.Key.{key_cmp}
use Rattle.link_search.specs.declared.ties.Tie.{Tie}
use Rattle.link_search.specs.declared.ties.Tie.TheVariants.{Passed, Reached}

-- whether a walk passes an entry, by how the key that is sought compares with the entry's
abbrev pub passes : Tie → Ordering → Bool
passes tie Less = false
passes tie Greater = true
passes Passed Equal = true
passes Reached Equal = false

-- how the key that is sought compares with k; without one, the place is behind all keys
abbrev pub order_to : Option (List ℕ) → List ℕ → Ordering
order_to None k = Greater
order_to (Some b) k = key_cmp b k

-- how many entries of a sorted prefix lie before the place, where entry i has the very key
abbrev pub lower_at : Tie → ℕ → ℕ
lower_at Passed i = i + 1
lower_at Reached i = i

-- k lies before the place
abbrev pub IsPassed : Tie → Option (List ℕ) → List ℕ → Type 0
IsPassed tie bound k = passes tie (order_to bound k) ≡ true

-- k lies behind the place
abbrev pub IsReached : Tie → Option (List ℕ) → List ℕ → Type 0
IsReached tie bound k = passes tie (order_to bound k) ≡ false

-- the bytes that an optional slice has
abbrev pub bytes_in_option : Option (Bor (List ℕ)) → Option (List ℕ)
bytes_in_option None = None
bytes_in_option (Some b) = Some b.now
