-- Blocks of one class that a pass holds and nothing else, in the order in which it took them.
use Rattle.std.specs.Prelude.{◌≡◌, ℕ, zero, suc, ◌<◌, true, List, [], ◌∷◌}
use Rattle.oak_model.specs.declared.classes.Class.{Class}
use Rattle.oak_model.specs.Class.{class_number}
use Rattle.oak_model.specs.Limits.{Sizes}
use Rattle.oak_model.specs.Counts.{one_if, total}
use Rattle.arena_core.specs.declared.blocks.HeldBlock.{HeldBlock}
use Rattle.arena_core.specs.Arena.{blocks}
use Rattle.oak_core.specs.declared.states.PassState.{PassState}
use Rattle.arena_core.specs.Blocks.{is_block}

-- the last is in front; the k-th has the number f k
abbrev pub IsStack : Sizes → Class → (ℕ → ℕ) → ℕ → List HeldBlock → Type 0
IsStack z c f zero hs = hs ≡ []
IsStack z c f (suc i) [] = ⊥
IsStack z c f (suc i) (h ∷ hs) = (f i < blocks z (class_number c)) × (is_block (class_number c) (f i) h ≡ true) × (total (λ (o : HeldBlock). one_if (is_block (class_number c) (f i) o)) hs ≡ 0) × IsStack z c f i hs

-- what the pass holds beside blocks is as before, and so are its numbers
pub record KeepsRest (v w : PassState) : Type 0 where
  pub numbers : w.numbers ≡ v.numbers
  pub headers : w.headers ≡ v.headers
  pub rooms : w.rooms ≡ v.rooms
