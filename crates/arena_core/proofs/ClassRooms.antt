-- The class of a length has room for it.
use Rattle.std.proofs.Common.{◌≡◌, ℕ, ◌*◌, ◌^◌, ◌≤◌, cond, List, [], ◌∷◌, sym, subst, arith, Some, leb-true}
use Rattle.std.specs.Prelude.{nat_le}
use Rattle.std.specs.List.{find}
use Rattle.oak_model.specs.declared.classes.Class.{Class}
use Rattle.oak_model.specs.Class.{class_number, class_bytes, classes, class_of}
use Rattle.oak_model.proofs.Counting.{test-cases}
use Rattle.arena_core.specs.Arena.{block_words}
use Rattle.arena_core.specs.Place.{IsPlace, class_in, length_in}

-- a class that is found for a length has room for it
found_fits : (n : ℕ) (c : Class) (cs : List Class) → find (λ d. nat_le n (class_bytes d)) cs ≡ Some c → n ≤ class_bytes c
found_fits n c [] e = absurd cc
found_fits n c (d ∷ ds) e = test-cases (nat_le n (class_bytes d)) (λ t. cond t (Some d) (find (λ d. nat_le n (class_bytes d)) ds) ≡ Some c → n ≤ class_bytes c)
    (λ t f. let g : d ≡ c = cc in subst (λ (k : Class). n ≤ class_bytes k) g (leb-true n (class_bytes d) t)) (λ _ f. found_fits n c ds f) e

class_fits : (n : ℕ) (c : Class) → class_of n ≡ Some c → n ≤ class_bytes c
class_fits n c e = found_fits n c classes e

pub class_room : (n : ℕ) (c : Class) → class_of n ≡ Some c → n ≤ 8 * block_words (class_number c)
class_room n c e = let f = class_fits n c e in let k : ℕ = 4 ^ class_number c in let f' : n ≤ 16 * k = f in let g : n ≤ 8 * (2 * k) = omega arith in g

-- so a block that a place word names has room for the length
pub place_room : (p : ℕ) → IsPlace p → length_in p ≤ 8 * block_words (class_in p)
place_room p is = subst (λ (c : ℕ). length_in p ≤ 8 * block_words c) (sym is.is_in) (class_room (length_in p) is.class is.fits)
