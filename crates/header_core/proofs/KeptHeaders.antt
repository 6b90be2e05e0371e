-- The words that are kept with held headers.
use Rattle.std.proofs.Common.{◌≡◌, ℕ, ◌+◌, ◌≤◌, ◌==◌, cond, List, [], ◌∷◌, sym, refl, ap, ◌∙◌, arith}
use mathlib.Core.Logic.{dite}
use native.Mathlib.Decide.{ℕ_discrete}
use Rattle.oak_model.specs.Counts.{one_at, total}
use Rattle.oak_model.specs.Kept.{keeps, AreTrueTo, restored}
use Rattle.oak_model.proofs.Counting.{one_at-le, one_at-other, total_zero}
use Rattle.oak_model.proofs.RowLaws.{total_le}
use Rattle.header_core.specs.declared.holds.HeldHeader.{HeldHeader}
use Rattle.header_core.specs.declared.holds.HeaderHolds.{HeaderHolds}
use Rattle.header_core.specs.Headers.{HeaderMemory, HeaderSpot, at_pin, at_place, at_stamp, same_header_spot}
use Rattle.header_core.specs.HeaderHolds.{without_header, kept_of_headers}
use Rattle.header_core.specs.HeaderRule.{HeadersStand}
use Rattle.header_core.specs.HeaderStep.{placed_at, stamped_at, changed_at, freshened, reworded, buried_at}
use Rattle.header_core.proofs.HeldHeaders.{held_in}
use Rattle.header_core.proofs.HeldChanges.{held_taken, without-cases}
use Rattle.header_core.proofs.HeaderFacts.{headers_once}

-- no pin word is kept
pub keeps_pin : (h : ℕ) (rs : List HeldHeader) → keeps same_header_spot (at_pin h) (kept_of_headers rs) ≡ 0
unfolding kept_of_headers total
keeps_pin h [] = refl
keeps_pin h (r ∷ rs) = let t = keeps_pin h rs in omega arith

-- the place and the stamp word of a header are kept as often as it is held

pub keeps_place : (h : ℕ) (rs : List HeldHeader) → keeps same_header_spot (at_place h) (kept_of_headers rs) ≡ held_in h rs
unfolding kept_of_headers total one_at
keeps_place h [] = refl
keeps_place h (r ∷ rs) = let t = keeps_place h rs in omega arith

pub keeps_stamp : (h : ℕ) (rs : List HeldHeader) → keeps same_header_spot (at_stamp h) (kept_of_headers rs) ≡ held_in h rs
unfolding kept_of_headers total one_at
keeps_stamp h [] = refl
keeps_stamp h (r ∷ rs) = let t = keeps_stamp h rs in omega arith

-- a word that is stored changes its number

pub kept_placed : (h x : ℕ) (rs : List HeldHeader) → kept_of_headers (placed_at h x rs) ≡ restored same_header_spot (at_place h) x (kept_of_headers rs)
unfolding kept_of_headers
kept_placed h x [] = refl
kept_placed h x (r ∷ rs) = let t = kept_placed h x rs in λ i. record { spot = at_place r.header; number = cond (r.header == h) x r.place } ∷ record { spot = at_stamp r.header; number = r.stamp } ∷ t i

pub kept_stamped : (h x : ℕ) (rs : List HeldHeader) → kept_of_headers (stamped_at h x rs) ≡ restored same_header_spot (at_stamp h) x (kept_of_headers rs)
unfolding kept_of_headers
kept_stamped h x [] = refl
kept_stamped h x (r ∷ rs) = let t = kept_stamped h x rs in λ i. record { spot = at_place r.header; number = r.place } ∷ record { spot = at_stamp r.header; number = cond (r.header == h) x r.stamp } ∷ t i

pub kept_changed : (h x : ℕ) (words : List ℕ) (rs : List HeldHeader) → kept_of_headers (changed_at h x words rs) ≡ restored same_header_spot (at_place h) x (kept_of_headers rs)
unfolding kept_of_headers
kept_changed h x words [] = refl
kept_changed h x words (r ∷ rs) = let t = kept_changed h x words rs in λ i. record { spot = at_place r.header; number = cond (r.header == h) x r.place } ∷ record { spot = at_stamp r.header; number = r.stamp } ∷ t i

-- and one that isn't keeps it

pub kept_freshened : (h : ℕ) (words : List ℕ) (rs : List HeldHeader) → kept_of_headers (freshened h words rs) ≡ kept_of_headers rs
unfolding kept_of_headers
kept_freshened h words [] = refl
kept_freshened h words (r ∷ rs) = let t = kept_freshened h words rs in λ i. record { spot = at_place r.header; number = r.place } ∷ record { spot = at_stamp r.header; number = r.stamp } ∷ t i

pub kept_reworded : (h k x : ℕ) (rs : List HeldHeader) → kept_of_headers (reworded h k x rs) ≡ kept_of_headers rs
unfolding kept_of_headers
kept_reworded h k x [] = refl
kept_reworded h k x (r ∷ rs) = let t = kept_reworded h k x rs in λ i. record { spot = at_place r.header; number = r.place } ∷ record { spot = at_stamp r.header; number = r.stamp } ∷ t i

pub kept_buried : (h : ℕ) (rs : List HeldHeader) → kept_of_headers (buried_at h rs) ≡ kept_of_headers rs
unfolding kept_of_headers
kept_buried h [] = refl
kept_buried h (r ∷ rs) = let t = kept_buried h rs in λ i. record { spot = at_place r.header; number = r.place } ∷ record { spot = at_stamp r.header; number = r.stamp } ∷ t i

-- a header that a pass comes to hold comes with its two words

-- a header that is released takes them with it

pub keeps_without_header : (q : HeaderSpot) (h : ℕ) (rs : List HeldHeader) → keeps same_header_spot q (kept_of_headers (without_header h rs)) ≤ keeps same_header_spot q (kept_of_headers rs)
unfolding kept_of_headers total
keeps_without_header q h [] = omega arith
keeps_without_header q h (r ∷ rs) = let t = keeps_without_header q h rs in
    without-cases h r rs (λ l. keeps same_header_spot q (kept_of_headers l) ≤ keeps same_header_spot q (kept_of_headers (r ∷ rs))) (λ _. omega arith) (λ _. omega arith)

pub true_without_header : (read : HeaderSpot → ℕ) (h : ℕ) (rs : List HeldHeader) → AreTrueTo read (kept_of_headers rs) → AreTrueTo read (kept_of_headers (without_header h rs))
unfolding kept_of_headers
true_without_header read h [] t = tt
true_without_header read h (r ∷ rs) t = without-cases h r rs (λ l. AreTrueTo read (kept_of_headers l)) (λ _. true_without_header read h rs t.1.1) (λ _. (t.0, (t.1.0, true_without_header read h rs t.1.1)))

-- no word is kept twice, and the words of a header that no pass holds by none

abbrev pub keeps_of : HeaderSpot → HeaderHolds → ℕ
keeps_of q a = keeps same_header_spot q (kept_of_headers a.held)

module _ (m : HeaderMemory) (content : ℕ → List ℕ) (IsPlace : ℕ → Type 0) (known : ℕ → ℕ → ℕ) (hs : List HeaderHolds) (r : HeadersStand m content IsPlace known hs) where
  as_held : (q : HeaderSpot) (h : ℕ) → ((rs : List HeldHeader) → keeps same_header_spot q (kept_of_headers rs) ≡ held_in h rs) → total (keeps_of q) hs ≤ total (λ (a : HeaderHolds). held_in h a.held) hs
  as_held q h same = total_le (keeps_of q) (λ (a : HeaderHolds). held_in h a.held) hs (λ a. let e = same a.held in omega arith)

  none_keeps : (h : ℕ) → total (keeps_of (at_pin h)) hs ≡ 0
  none_keeps h = total_zero (keeps_of (at_pin h)) hs (λ j a _. keeps_pin h a.held)

  pub kept_once : (q : HeaderSpot) → total (keeps_of q) hs ≤ 1
  kept_once (at_pin h) = let z = none_keeps h in omega arith
  kept_once (at_place h) = let l = as_held (at_place h) h (keeps_place h) in let o = headers_once m content IsPlace known hs r h in omega arith
  kept_once (at_stamp h) = let l = as_held (at_stamp h) h (keeps_stamp h) in let o = headers_once m content IsPlace known hs r h in omega arith

  room : (h : ℕ) (x : HeldHeader) → x.header ≡ h → (k : ℕ) (rs : List HeldHeader) → total (λ (a : HeaderHolds). held_in h a.held) hs ≡ 0 → (q : HeaderSpot) → ((rs : List HeldHeader) → keeps same_header_spot q (kept_of_headers rs) ≡ held_in k rs)
      → total (keeps_of q) hs + keeps same_header_spot q (kept_of_headers (x ∷ rs)) ≤ 1 + keeps same_header_spot q (kept_of_headers rs)
  room h x is k rs none q same = let l = as_held q k same in let a = same rs in let b = same (x ∷ rs) in let c = held_taken x k rs in dite (ℕ_discrete h k)
      (λ e. let z = ap (λ (i : ℕ). total (λ (a : HeaderHolds). held_in i a.held) hs) e in let o = one_at-le x.header k in omega arith)
      (λ ne. let z = one_at-other x.header k (λ e. ne (sym is ∙ e)) in let o = headers_once m content IsPlace known hs r k in omega arith)

  -- so a pass that comes to hold it may keep them
  pub taken_once : (h : ℕ) (x : HeldHeader) → x.header ≡ h → (q : HeaderSpot) (rs : List HeldHeader) → total (λ (a : HeaderHolds). held_in h a.held) hs ≡ 0
      → total (keeps_of q) hs + keeps same_header_spot q (kept_of_headers (x ∷ rs)) ≤ 1 + keeps same_header_spot q (kept_of_headers rs)
  taken_once h x is (at_pin k) rs none = let z = none_keeps k in let a = keeps_pin k rs in let b = keeps_pin k (x ∷ rs) in omega arith
  taken_once h x is (at_place k) rs none = room h x is k rs none (at_place k) (keeps_place k)
  taken_once h x is (at_stamp k) rs none = room h x is k rs none (at_stamp k) (keeps_stamp k)
