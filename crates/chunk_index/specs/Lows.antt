-- Minima of chunks with their rooms, one that is set among them, and the greatest of some.
use Rattle.std.specs.Prelude.{◌≡◌, ◌≢◌, ℕ, Bool, true, false, ◌&&◌, not, nat_eq, List, [], ◌∷◌, Option, Some, None, MatchOption, filter, if◌then◌else◌}
use Rattle.std.specs.List.{All, AllPairs, Any}
use Rattle.std.specs.Ordering.{is_le, is_lt}
use Rattle.oak_model.specs.Key.{IsKeyBefore, key_cmp, same_key}

-- a minimum and its room
abbrev pub Low : Type 0
Low = List ℕ × ℕ

-- the minimum comes before the key
abbrev pub comes_before : List ℕ → Low → Bool
comes_before k p = is_lt (key_cmp p.0 k)

-- the minimum is not above the key
abbrev pub comes_upto : List ℕ → Low → Bool
comes_upto k p = is_le (key_cmp p.0 k)

-- the minimum comes before the key, or is the key where that is asked
abbrev pub comes : Bool → List ℕ → Low → Bool
comes true k p = comes_upto k p
comes false k p = comes_before k p

-- the minimum comes before the bound, where there is one
abbrev pub comes_under : Option (List ℕ) → Low → Bool
comes_under None p = true
comes_under (Some k) p = comes_before k p

-- they have neither one room nor one minimum
abbrev pub is_apart : Low → Low → Bool
is_apart p q = not (nat_eq q.1 p.1) && not (same_key q.0 p.0)

-- p stands right before the first whose minimum does not come before its own
abbrev pub put_low : Low → List Low → List Low
put_low p [] = p ∷ []
put_low p (q ∷ qs) = if comes_before p.0 q then q ∷ put_low p qs else p ∷ q ∷ qs

-- p takes out the pair of its room and the pair of its minimum, and stands at its place
abbrev pub set_low : List Low → Low → List Low
set_low ps p = put_low p (filter (is_apart p) ps)

-- each minimum comes before all behind it
abbrev pub IsRising : List Low → Type 0
IsRising ps = AllPairs (λ p q. IsKeyBefore p.0 q.0) ps

-- no two have one room
abbrev pub IsOnePerRoom : List Low → Type 0
IsOnePerRoom ps = AllPairs (λ p q. p.1 ≢ q.1) ps

-- p passes the test, and none that passes has a greater minimum
abbrev pub IsGreatest : (Low → Bool) → List Low → Low → Type 0
IsGreatest t ps p = (t p ≡ true) × All (λ q. t q ≡ true → IsKeyBefore p.0 q.0 → ⊥) ps

-- the room is that of the pair with the greatest minimum of those that pass the test, and none where none passes
abbrev pub NamesGreatest : (Low → Bool) → List Low → Option ℕ → Type 0
NamesGreatest t ps room = MatchOption room (All (λ p. t p ≡ false) ps) (λ r. Any (λ p. (p.1 ≡ r) × IsGreatest t ps p) ps)
