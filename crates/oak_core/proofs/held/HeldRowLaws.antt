-- The record of a header in the list of those that a pass holds.
use Rattle.std.proofs.Common.{◌≡◌, cond, Bool, List, [], ◌∷◌, ℕ, map, sym, ap, ◌∙◌, Some, eq-eqb, ne_eqb}
use Rattle.std.proofs.lemmas.Option.{none-some, same_Some}
use mathlib.Core.Logic.{dite}
use native.Mathlib.Decide.{ℕ_discrete}
use Rattle.header_core.specs.declared.holds.HeldHeader.{HeldHeader}
use Rattle.oak_core.specs.MadeWrites.{held_header}

-- the record of a header, behind a change of each record that leaves the headers
pub row_mapped : (f : HeldHeader → HeldHeader) → ((r : HeldHeader) → (f r).header ≡ r.header) → (h : ℕ) (q : HeldHeader) (rs : List HeldHeader) → held_header h rs ≡ Some q → held_header h (map f rs) ≡ Some (f q)
unfolding held_header
row_mapped f same h q [] e = absurd (none-some q e)
row_mapped f same h q (r ∷ rs) e = dite (ℕ_discrete r.header h)
    (λ y. ap (λ (b : Bool). cond b (Some (f r)) (held_header h (map f rs))) (eq-eqb (f r).header h (same r ∙ y)) ∙ ap (λ (x : HeldHeader). Some (f x)) (same_Some r q (sym (ap (λ (b : Bool). cond b (Some r) (held_header h rs)) (eq-eqb r.header h y)) ∙ e)))
    (λ n. ap (λ (b : Bool). cond b (Some (f r)) (held_header h (map f rs))) (ne_eqb (f r).header h (λ y. n (sym (same r) ∙ y))) ∙ row_mapped f same h q rs (sym (ap (λ (b : Bool). cond b (Some r) (held_header h rs)) (ne_eqb r.header h n)) ∙ e))
