-- What the names of a thread stand for on the map: v is the state of its pass at a call, w the one behind.
use Rattle.std.specs.Prelude.{◌≡◌, ℕ, List, Some, None, IsSomeAnd, MatchOption}
use Rattle.std.specs.BTreeMap.{BTreeMap, get}
use Rattle.oak_model.specs.declared.replies.Reply.{Reply}
use Rattle.oak_model.specs.Key.{key_cmp}
use Rattle.oak_model.specs.Limits.{Sizes}
use Rattle.oak_script.specs.declared.scripts.Call.{Call}
use Rattle.oak_script.specs.declared.scripts.Call.TheVariants.{Look}
use Rattle.oak_script.specs.Text.{CanReply}
use Rattle.oak_core.specs.declared.states.PassState.{PassState}
use Rattle.oak_run.specs.declared.looks.HeldView.{HeldView}
use Rattle.oak_run.specs.CallTurns.{TurnsWith}
use Rattle.oak_run.specs.LoneCalls.{LoneCall}
use Rattle.oak_run.specs.MapTurns.{HoldsLife}
use Rattle.oak_run.specs.Views.{Names, View, renamed}

-- the life that is held, which the pass knows
pub record IsHeld (z : Sizes) (v : PassState) (h : HeldView) (x : View) : Type 0 where
  pub key : h.key ≡ x.key
  pub life : HoldsLife z v h.view x

-- a name that is missing stands for nothing
abbrev pub KeepsViews : Sizes → BTreeMap (List ℕ) HeldView → PassState → Names → Type 0
KeepsViews z m v names = (a : List ℕ) → MatchOption (get key_cmp m a) (names a ≡ None) (λ h. IsSomeAnd (names a) (λ x. IsHeld z v h x))

-- the call is a turn that fits, and what is held is what the names stand for behind it
pub record TurnsNames (z : Sizes) (n : ℕ) (names : Names) (now : BTreeMap (List ℕ) HeldView) (c : Call) (y : Reply) (v w : PassState) : Type 0 where
  pub turns : TurnsWith z n names c y v w
  pub keeps : KeepsViews z now w (renamed names (record { call = c; reply = y; places = turns.places; floors = turns.floors }) c)

-- what the n-th call did, whatever the names that are held stand for
pub record CallDid (z : Sizes) (n : ℕ) (old now : BTreeMap (List ℕ) HeldView) (c : Call) (y : Reply) (v w : PassState) : Type 0 where
  pub can : CanReply c y
  pub does : (names : Names) → KeepsViews z old v names → TurnsNames z n names now c y v w
  pub lone : LoneCall z n c y v w

-- a look at a life that is held
pub record LookDid (z : Sizes) (n : ℕ) (h : HeldView) (y : Reply) (v w : PassState) : Type 0 where
  pub can : (a : List ℕ) → CanReply (Look a) y
  pub turns : (names : Names) (a : List ℕ) (x : View) → names a ≡ Some x → IsHeld z v h x → TurnsWith z n names (Look a) y v w
