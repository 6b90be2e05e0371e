-- How far a lesson of one key goes: to its number.
use Rattle.std.proofs.Common.{◌≡◌, ℕ, suc, ◌*◌, ◌≤◌, List, refl, ap, ◌∙◌, arith}
use mathlib.Core.Logic.{dite}
use native.Mathlib.Decide.{ℕ_discrete}
use Rattle.oak_model.specs.Counts.{one_at}
use Rattle.oak_model.specs.KeyNumber.{key_number}
use Rattle.oak_model.proofs.Counting.{one_at-same, one_at-other}
use Rattle.oak_core.specs.Learning.{reach_of, of_key_to}

-- a lesson of one key goes no further than its level, and for other keys nowhere
pub reach_one : (level : ℕ → ℕ) (key : List ℕ) (n : ℕ) → n ≤ level (key_number key) → (k : ℕ) → reach_of (of_key_to key n) k ≤ suc (level k)
reach_one level key n le k = dite (ℕ_discrete k (key_number key))
    (λ e. let o = one_at-same k (key_number key) e in let l = ap level e in let q : one_at k (key_number key) * suc n ≡ suc n = ap (λ (t : ℕ). t * suc n) o ∙ (let u : 1 * suc n ≡ suc n = omega arith in u) in omega arith)
    (λ ne. let o = one_at-other k (key_number key) ne in let q : one_at k (key_number key) * suc n ≡ 0 = ap (λ (t : ℕ). t * suc n) o ∙ (let u : 0 * suc n ≡ 0 = omega arith in u) in omega arith)

pub reach_here : (key : List ℕ) (n : ℕ) → reach_of (of_key_to key n) (key_number key) ≡ suc n
reach_here key n = ap (λ (t : ℕ). t * suc n) (one_at-same (key_number key) (key_number key) refl) ∙ (let u : 1 * suc n ≡ suc n = omega arith in u)
