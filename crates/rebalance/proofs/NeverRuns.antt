-- Parts of a call that never come to a pass which is alone, with others beside them.
use Rattle.std.proofs.Common.{ℕ, List}
use Rattle.oak_core.specs.declared.states.PassState.{PassState}
use Rattle.oak_core.specs.AloneWords.{Runs}
use Rattle.oak_core.proofs.seats.AloneRuns.{Then, runs_as, runs_then}
use Rattle.chunk_ops.specs.AddsAlone.{Never}

-- all is so of what never comes
pub never_so : (Q : List ℕ → List ℕ → Type 0) (v w : PassState) → Runs Never v w → Runs Q v w
never_so Q v w a = runs_as Never Q v w (λ x y n. absurd n) a

-- what goes on behind it never comes
pub never_first : (P : List ℕ → List ℕ → Type 0) (u v w : PassState) → Runs Never u v → Runs P v w → Runs Never u w
never_first P u v w a b = runs_as (Then Never P) Never u w (λ x y s. s.1) (runs_then Never P u v w a b)

-- nor does what went before it
pub never_last : (P : List ℕ → List ℕ → Type 0) (u v w : PassState) → Runs P u v → Runs Never v w → Runs Never u w
never_last P u v w a b = runs_as (Then P Never) Never u w (λ x y s. s.2) (runs_then P Never u v w a b)

-- what never comes to a pass of which A is so, where A is so
pub unless_never : (A : Type 0) (v w : PassState) → A → Runs (λ _ _. A → ⊥) v w → Runs Never v w
unless_never A v w a r = runs_as (λ _ _. A → ⊥) Never v w (λ x y n. n a) r

-- and behind a part of a call, where A before makes B behind it
pub unless_last : (P : List ℕ → List ℕ → Type 0) (A B : Type 0) (u v w : PassState) → (A → B) → Runs P u v → Runs (λ _ _. B → ⊥) v w → Runs (λ _ _. A → ⊥) u w
unless_last P A B u v w f a b = runs_as (Then P (λ _ _. B → ⊥)) (λ _ _. A → ⊥) u w (λ x y s n. s.2 (f n)) (runs_then P (λ _ _. B → ⊥) u v w a b)

-- or before others
pub unless_first : (P : List ℕ → List ℕ → Type 0) (A : Type 0) (u v w : PassState) → Runs (λ _ _. A → ⊥) u v → Runs P v w → Runs (λ _ _. A → ⊥) u w
unless_first P A u v w a b = runs_as (Then (λ _ _. A → ⊥) P) (λ _ _. A → ⊥) u w (λ x y s n. s.1 n) (runs_then (λ _ _. A → ⊥) P u v w a b)
