-- What the tests keep of a pass between two calls.
use Rattle.std.specs.Prelude.{◌≡◌, ℕ, ◌<◌, ◌≤◌}
use Rattle.oak_model.specs.Counts.{Begins, Each}
use Rattle.oak_model.specs.Limits.{Sizes}
use Rattle.oak_core.specs.declared.states.KeyedWrite.{KeyedWrite}
use Rattle.oak_core.specs.declared.states.PassState.{PassState}
use Rattle.oak_core.specs.PassState.{HoldsNothing}
use Rattle.value_ops.specs.Views.{LoadedView, Viewed}

-- all of its writes are of this call or of earlier ones
abbrev pub WroteBy : ℕ → PassState → Type 0
WroteBy call v = Each (λ (w : KeyedWrite). w.write.call ≤ call) v.knowledge.mine

-- it holds nothing, and made no write of a later call
pub record IsReady (call : ℕ) (v : PassState) : Type 0 where
  pub idle : HoldsNothing v
  pub wrote : WroteBy call v

-- it is so, has the numbers that it had, and knows the lives that it loaded
pub record IsReadyAgain (call : ℕ) (v w : PassState) : Type 0 where
  pub numbers : w.numbers ≡ v.numbers
  pub loaded : Begins v.knowledge.loaded w.knowledge.loaded
  pub ready : IsReady call w

-- the view is of a header of the table, and its life was loaded
pub record HasView (z : Sizes) (x : Viewed) (v : PassState) : Type 0 where
  pub inside : x.header < z.headers
  pub loaded : LoadedView x v
