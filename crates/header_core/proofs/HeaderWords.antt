-- The words of the headers lie apart, and one behind the other.
use Rattle.std.proofs.Common.{◌≡◌, ℕ, ◌/◌, ◌%◌, ◌<◌, true, refl, ap, arith, lt-ltb, ltb-true, eqb-true, eq-eqb}
use mathlib.Core.Logic.{dite}
use native.Mathlib.Decide.{ℕ_discrete}
use Rattle.oak_model.specs.Limits.{Sizes}
use Rattle.header_core.specs.Headers.{header_words, HeaderSpot, at_pin, at_place, at_stamp, same_header_spot, read_header, headers_of, IsInHeaders, is_in_headers, header_index}

pub same_header_spot-is : (p q : HeaderSpot) → same_header_spot p q ≡ true → p ≡ q
same_header_spot-is (at_pin h) (at_pin k) e = ap at_pin (eqb-true h k e)
same_header_spot-is (at_place h) (at_place k) e = ap at_place (eqb-true h k e)
same_header_spot-is (at_stamp h) (at_stamp k) e = ap at_stamp (eqb-true h k e)
same_header_spot-is (at_pin h) (at_place k) e = absurd cc
same_header_spot-is (at_pin h) (at_stamp k) e = absurd cc
same_header_spot-is (at_place h) (at_pin k) e = absurd cc
same_header_spot-is (at_place h) (at_stamp k) e = absurd cc
same_header_spot-is (at_stamp h) (at_pin k) e = absurd cc
same_header_spot-is (at_stamp h) (at_place k) e = absurd cc

pub same_header_spot-self : (p : HeaderSpot) → same_header_spot p p ≡ true
same_header_spot-self (at_pin h) = eq-eqb h h refl
same_header_spot-self (at_place h) = eq-eqb h h refl
same_header_spot-self (at_stamp h) = eq-eqb h h refl

pub read_header-of : (f : HeaderSpot → ℕ) (p : HeaderSpot) → read_header (headers_of f) p ≡ f p
read_header-of f (at_pin h) = refl
read_header-of f (at_place h) = refl
read_header-of f (at_stamp h) = refl

pub in_headers : (z : Sizes) (p : HeaderSpot) → is_in_headers z p ≡ true → IsInHeaders z p
in_headers z p h = ltb-true _ _ h

pub headers_in : (z : Sizes) (p : HeaderSpot) → IsInHeaders z p → is_in_headers z p ≡ true
headers_in z p h = lt-ltb _ _ h

pub headers_below : (z : Sizes) (p : HeaderSpot) → IsInHeaders z p → header_index p < header_words z
unfolding header_index
headers_below z (at_pin h) l = omega arith
headers_below z (at_place h) l = omega arith
headers_below z (at_stamp h) l = omega arith

pub headers_apart : (p q : HeaderSpot) → header_index p ≡ header_index q → p ≡ q
unfolding header_index
headers_apart (at_pin h) (at_pin k) e = ap at_pin (omega arith)
headers_apart (at_place h) (at_place k) e = ap at_place (omega arith)
headers_apart (at_stamp h) (at_stamp k) e = ap at_stamp (omega arith)
headers_apart (at_pin h) (at_place k) e = absurd (omega arith)
headers_apart (at_pin h) (at_stamp k) e = absurd (omega arith)
headers_apart (at_place h) (at_pin k) e = absurd (omega arith)
headers_apart (at_place h) (at_stamp k) e = absurd (omega arith)
headers_apart (at_stamp h) (at_pin k) e = absurd (omega arith)
headers_apart (at_stamp h) (at_place k) e = absurd (omega arith)

pub headers_cover : (z : Sizes) (i : ℕ) → i < header_words z → (p : HeaderSpot) × IsInHeaders z p × (header_index p ≡ i)
unfolding header_index
headers_cover z i l = dite (ℕ_discrete (i % 3) 0) (λ a. (at_pin (i / 3), (omega arith), (omega arith)))
    (λ no. dite (ℕ_discrete (i % 3) 1) (λ a. (at_place (i / 3), (omega arith), (omega arith))) (λ nor. (at_stamp (i / 3), (omega arith), (omega arith))))
