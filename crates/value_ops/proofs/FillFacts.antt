-- Headers that are filled: what stands in them, and that the pass has them fresh.
use Rattle.std.proofs.Common.{◌≡◌, ℕ, ◌+◌, ◌*◌, ◌^◌, ◌<◌, ◌≤◌, ◌==◌, cond, List, [], ◌∷◌, sym, refl, ap, ◌∙◌, arith, inl, inr, Some, None, eq-eqb, leb}
use Rattle.std.proofs.lemmas.Bool.{leb-true}
use Rattle.std.proofs.lemmas.Option.{none-some}
use Rattle.oak_model.specs.declared.classes.Class.{Class}
use Rattle.oak_model.specs.declared.classes.Class.TheVariants.{B16, B64, B256, B1024}
use Rattle.oak_model.specs.Class.{class_number, class_of}
use Rattle.oak_model.specs.Counts.{one_if, one_at, total, Has}
use Rattle.oak_model.proofs.Counting.{one_at-same, test-cases}
use Rattle.arena_core.specs.Place.{IsPlace, place_word}
use Rattle.arena_core.proofs.PlaceLaws.{class_in-word, length_in-word}
use Rattle.header_core.specs.declared.states.TheConstants.{LIVE}
use Rattle.header_core.specs.declared.holds.HeldAs.TheVariants.{Fresh}
use Rattle.header_core.specs.declared.holds.HeldHeader.{HeldHeader}
use Rattle.header_core.specs.HeaderHolds.{held_state, place_held}
use Rattle.header_core.specs.HeaderStep.{placed_at, stamped_at, freshened}
use Rattle.header_core.proofs.HeldHeaders.{held_in, fresh_in}

-- what has a class is no longer than the greatest class
pub fits_class : (n : ℕ) (c : Class) → class_of n ≡ Some c → n ≤ 1024
fits_class n c = test-cases (leb n 16) (λ t. cond t (Some B16) (cond (leb n 64) (Some B64) (cond (leb n 256) (Some B256) (cond (leb n 1024) (Some B1024) None))) ≡ Some c → n ≤ 1024) (λ yes _. let l = leb-true n 16 yes in omega arith)
    (λ _. test-cases (leb n 64) (λ t. cond t (Some B64) (cond (leb n 256) (Some B256) (cond (leb n 1024) (Some B1024) None)) ≡ Some c → n ≤ 1024) (λ yes _. let l = leb-true n 64 yes in omega arith)
    (λ _. test-cases (leb n 256) (λ t. cond t (Some B256) (cond (leb n 1024) (Some B1024) None) ≡ Some c → n ≤ 1024) (λ yes _. let l = leb-true n 256 yes in omega arith)
    (λ _. test-cases (leb n 1024) (λ t. cond t (Some B1024) None ≡ Some c → n ≤ 1024) (λ yes _. leb-true n 1024 yes)
    (λ _ e. absurd (none-some c e)))))

pub is_place : (c : Class) (b len : ℕ) → b < 2 ^ 32 → class_of len ≡ Some c → IsPlace (place_word (class_number c) b len)
is_place c b len small fits = let l = fits_class len c fits in record {
  class = c;
  is_in = class_in-word (class_number c) b len small (omega arith);
  fits = ap class_of (length_in-word (class_number c) b len (omega arith)) ∙ fits;
}

-- the place word that was stored
pub placed_here : (h x : ℕ) (rs : List HeldHeader) → 0 < held_in h rs → place_held h (placed_at h x rs) ≡ x
unfolding total one_at
placed_here h x [] some_of = absurd (omega arith)
placed_here h x (r ∷ rs) some_of = test-cases (r.header == h) (λ t. 0 < one_if t + held_in h rs → cond t (cond t x r.place) (place_held h (placed_at h x rs)) ≡ x)
    (λ _ _. refl) (λ _ l. placed_here h x rs (omega arith)) some_of

pub stamped_place : (h k x : ℕ) (rs : List HeldHeader) → place_held h (stamped_at k x rs) ≡ place_held h rs
stamped_place h k x [] = refl
stamped_place h k x (r ∷ rs) = λ i. cond (r.header == h) r.place (stamped_place h k x rs i)

-- a header that was owned is fresh at its generation
pub freshened_known : (h : ℕ) (words : List ℕ) (rs : List HeldHeader) (x : HeldHeader) → Has x rs → x.header ≡ h → 0 < fresh_in h x.generation (freshened h words rs)
unfolding total
freshened_known h words [] x has e = absurd has
freshened_known h words (r ∷ rs) x (inr has) e = let t = freshened_known h words rs x has e in omega arith
freshened_known h words (r ∷ rs) x (inl same) e = let is : r.header ≡ h = ap (λ (y : HeldHeader). y.header) (sym same) ∙ e in let g : r.generation ≡ x.generation = ap (λ (y : HeldHeader). y.generation) (sym same) in
    let one : one_at r.header h * one_at r.generation x.generation * one_at (held_state (cond (r.header == h) Fresh r.held_as)) LIVE ≡ 1
    = (λ i. one_at-same r.header h is i * one_at-same r.generation x.generation g i * one_at (held_state (cond (eq-eqb r.header h is i) Fresh r.held_as)) LIVE) ∙ ap (λ (n : ℕ). 1 * 1 * n) (one_at-same LIVE LIVE refl) in
    more (one_at r.header h * one_at r.generation x.generation * one_at (held_state (cond (r.header == h) Fresh r.held_as)) LIVE) (fresh_in h x.generation (freshened h words rs)) one
  where
    more : (a b : ℕ) → a ≡ 1 → 0 < a + b
    more a b one = omega arith
