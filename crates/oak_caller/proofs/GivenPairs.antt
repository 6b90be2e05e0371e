-- A closure that is called at one more pair.
use Rattle.std.proofs.Common.{◌≡◌, ℕ, Bool, true, List, [], ◌∷◌, ◌++◌, Option, refl, sym, subst}
use Rattle.std.specs.Fn.{CalledAtTwo, Called, Mut}
use Rattle.std.specs.List.{FoldsTo}
use Rattle.std.specs.Borrow.{Bor}
use Rattle.oak_model.specs.declared.replies.Pair.{Pair}
use Rattle.oak_caller.specs.Scans.{GoesOver, front}

fold_snoc : {V X : Type 0} (R : V → X → V → Type 0) (a : V) (xs : List X) (b : V) (x : X) (c : V) → FoldsTo R a xs b → R b x c → FoldsTo R a (xs ++ x ∷ []) c
fold_snoc R a [] b x c p r = (c, subst (λ v. R v x c) (sym p) r, refl)
fold_snoc R a (y ∷ ys) b x c p r = (p.0, p.1, fold_snoc R p.0 ys b x c p.2 r)

-- the call at the two slices answered so
pub called_at : {F : Type 0} (g : Mut F (Bor (List ℕ) × (Bor (List ℕ) × Unit {0})) Bool) (f : F) (p q : Bor (List ℕ)) (r : Bool) (h : F) (k v : List ℕ) (b : Bool) → Called g f (p, (q, tt)) r h → p.now ≡ k → q.now ≡ v → r ≡ b → CalledAtTwo g f k v b h
called_at g f p q r h k v b called ke ve e = record { first = p; second = q; shows = (ke, ve); called = subst (λ (x : Bool). Called g f (p, (q, tt)) x h) e called }

pub goes_on : {F : Type 0} (most : Option ℕ) (g : Mut F (Bor (List ℕ) × (Bor (List ℕ) × Unit {0})) Bool) (f : F) (ps : List Pair) (m : F) (x : Pair) (l : F) → GoesOver most g f ps m → CalledAtTwo g m x.key (front most x.value) true l → GoesOver most g f (ps ++ x ∷ []) l
goes_on most g f ps m x l p r = fold_snoc (λ a y b. CalledAtTwo g a y.key (front most y.value) true b) f ps m x l p r
