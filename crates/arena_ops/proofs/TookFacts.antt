-- What a step took that took no block, or one.
use Rattle.std.proofs.Common.{◌≡◌, ℕ, List, sym, ◌∙◌, Option, Some, None}
use Rattle.oak_model.specs.declared.classes.Class.{Class}
use Rattle.oak_model.specs.declared.replies.Lack.TheVariants.{Block}
use Rattle.oak_model.specs.Counts.{Each}
use Rattle.oak_model.specs.Limits.{Sizes}
use Rattle.oak_model.proofs.Lists.{each_map}
use Rattle.oak_core.specs.declared.states.Finding.{Finding}
use Rattle.oak_core.specs.declared.states.Taken.{Taken}
use Rattle.oak_core.specs.Finding.{IsLoadOf}
use Rattle.oak_core.specs.Lack.{TookBut}
use Rattle.arena_ops.specs.Taking.{TookThis}

none_took : (o : Option Taken) (t : Taken) → o ≡ None → o ≡ Some t → ⊥
none_took o t none e = let k : None ≡ Some t = sym none ∙ e in absurd cc

-- a step that took this block took no other
pub took_one : (o : Option Taken) (a t : Taken) → o ≡ Some a → o ≡ Some t → t ≡ a
took_one o a t is e = let k : Some t ≡ Some a = sym e ∙ is in cc

module _ (z : Sizes) (call : ℕ) (c : Class) (more : List Finding) (loads : Each (IsLoadOf z call) more) where
  -- loads took no block, so none but this one, and none of the class

  pub loads_took : (b : ℕ) → Each (TookThis c b) more
  loads_took b = each_map (IsLoadOf z call) (TookThis c b) more (λ f is t e. absurd (none_took f.took t is.3 e)) loads

  pub loads_but : (spare : Option ℕ) → Each (TookBut (Block c) spare) more
  loads_but spare = each_map (IsLoadOf z call) (TookBut (Block c) spare) more (λ f is t e same. absurd (none_took f.took t is.3 e)) loads
