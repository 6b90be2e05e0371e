-- A row that is taken apart from its front, one behind the other.
use Rattle.std.proofs.Common.{◌≡◌, ℕ, zero, suc, ◌+◌, ◌<◌, Bool, true, false, ◌&&◌, List, [], ◌∷◌, ◌++◌, length, map, take, drop, get_or, refl, sym, ap, ◌∙◌, arith}
use Rattle.std.specs.Prelude.{MatchBool, ⊤}
use Rattle.std.specs.List.{AllByRecursion, remove}
use Rattle.std.proofs.lemmas.List.{take_more, map_push}
use Rattle.oak_core.specs.declared.states.PassState.{PassState}
use Rattle.oak_core.specs.PassState.{both_state}
use Rattle.oak_run.specs.SplitPasses.{joined_passes}

-- the front of what is left
pub front : {W : Type 0} (xs : List W) (i : ℕ) (w : W) → i < length xs → w ≡ get_or (drop i xs) 0 w → (w ≡ get_or xs i w) × (drop i xs ≡ w ∷ drop (i + 1) xs)
front [] i w lt e = absurd (omega arith)
front (x ∷ xs) zero w lt e = (e, ap (λ (y : _). y ∷ xs) (sym e))
front (x ∷ xs) (suc i) w lt e =
    let r = front xs i w (omega arith) e in
    let n : suc i + 1 ≡ suc (i + 1) = omega arith in
    (r.0, rw n r.1)

-- what f makes of those that were taken, and of one more
pub taken_next : {W A : Type 0} (f : W → A) (xs : List W) (i : ℕ) (w : W) → i < length xs → w ≡ get_or xs i w → map f (take (i + 1) xs) ≡ map f (take i xs) ++ f w ∷ []
taken_next f xs i w lt e = ap (map f) (take_more xs i w lt ∙ ap (λ (y : _). take i xs ++ y ∷ []) (sym e)) ∙ map_push f (take i xs) w

joined_push : (v : PassState) (xs : List PassState) (x : PassState) → joined_passes v (xs ++ x ∷ []) ≡ both_state (joined_passes v xs) x
joined_push v [] x = refl
joined_push v (y ∷ ys) x = joined_push (both_state v y) ys x

pub joined_next : {W : Type 0} (f : W → PassState) (v s t : PassState) (xs : List W) (i : ℕ) (w : W) → i < length xs → w ≡ get_or xs i w → s ≡ joined_passes v (map f (take i xs)) → t ≡ both_state s (f w) → t ≡ joined_passes v (map f (take (i + 1) xs))
joined_next f v s t xs i w lt e before one = one ∙ (ap (λ (u : PassState). both_state u (f w)) before ∙ (sym (joined_push v (map f (take i xs)) (f w)) ∙ ap (joined_passes v) (sym (taken_next f xs i w lt e))))

pub kept_next : {W A : Type 0} (f : W → A) (before now : List A) (xs : List W) (i : ℕ) (w : W) (kept whole : Bool) → i < length xs → w ≡ get_or xs i w → MatchBool whole (map f (take i xs) ≡ before) ⊤ → MatchBool kept (now ≡ before ++ f w ∷ []) ⊤
    → MatchBool (kept && whole) (map f (take (i + 1) xs) ≡ now) ⊤
kept_next f before now xs i w true true lt e all one = taken_next f xs i w lt e ∙ (ap (λ (ys : List _). ys ++ f w ∷ []) all ∙ sym one)
kept_next f before now xs i w true false lt e all one = tt
kept_next f before now xs i w false true lt e all one = tt
kept_next f before now xs i w false false lt e all one = tt

pub all_removed : {W : Type 0} (P : W → Type 0) (xs : List W) → AllByRecursion P xs → AllByRecursion P (remove xs 0)
all_removed P [] all = all
all_removed P (x ∷ xs) all = all.1
