-- What a run leaves of the recipes that it is lent.
use Rattle.std.specs.Prelude.{◌≡◌, ℕ, ◌+◌, List, [], ◌∷◌, Option, IfSome, ⊤}
use Rattle.oak_run.specs.declared.worker.Answered.{Answered}

-- These counts, behind calls: the first rose by the first of these numbers, the second by the second, and so on. Those that stand
-- behind as many as there are numbers are as they were.
abbrev pub risen : List ℕ → List ℕ → List ℕ
risen counts [] = counts
risen [] (k ∷ ks) = []
risen (n ∷ counts) (k ∷ ks) = (n + k) ∷ risen counts ks

-- the count of a thread's recipe rose as often as the thread answered that it computed
abbrev pub RoseBy : ℕ → ℕ → Option Answered → Type 0
RoseBy before now answered = IfSome answered (λ a. now ≡ before + a.computed)

-- the same of threads and their recipes, which stand in one order
abbrev pub AllRose : List ℕ → List ℕ → List (Option Answered) → Type 0
AllRose [] [] [] = ⊤
AllRose [] [] (o ∷ answered) = ⊥
AllRose [] (m ∷ now) answered = ⊥
AllRose (n ∷ before) [] answered = ⊥
AllRose (n ∷ before) (m ∷ now) [] = ⊥
AllRose (n ∷ before) (m ∷ now) (o ∷ answered) = RoseBy n m o × AllRose before now answered
