-- A key that a call looked at.
use Rattle.std.proofs.Common.{ℕ, Bool, true, false, List, Option, sym, subst}
use Rattle.std.specs.Prelude.{IfSome}
use Rattle.oak_model.specs.Limits.{Sizes}
use Rattle.oak_model.specs.Counts.{Begins}
use Rattle.oak_core.specs.declared.states.PassState.{PassState}
use Rattle.value_ops.specs.Views.{Viewed}
use Rattle.value_ops.proofs.LoadedViews.{view_loaded}
use Rattle.point_ops.specs.TestStates.{HasView}
use Rattle.point_ops.specs.declared.gets.Got.{Got}
use Rattle.point_ops.specs.declared.gets.Got.TheVariants as gots
use Rattle.oak_caller.specs.Looks.{HasFits, IsView, IsViewOf, LooksAt, ViewAnswer}

-- what was loaded is kept, so each view is that could be looked at
pub views_kept : (z : Sizes) (v w : PassState) → Begins v.knowledge.loaded w.knowledge.loaded → (x : Viewed) → HasView z x v → HasView z x w
views_kept z v w b x h = record { inside = h.inside; loaded = view_loaded x v w b h.loaded }

pub got_loaded : (g : Got) (z : Sizes) (call : ℕ) (key : List ℕ) (v w : PassState) → LooksAt g z call key v w → Begins v.knowledge.loaded w.knowledge.loaded
got_loaded (gots.Absent at) z call key v w l = l.got.goes.loaded
got_loaded (gots.View x) z call key v w l = l.got.replies.goes.loaded

pub got_has : (g : Got) (b : Bool) (z : Sizes) (call : ℕ) (key : List ℕ) (v w : PassState) → IsView g b → LooksAt g z call key v w → HasFits b z call key v w
got_has (gots.Absent at) true z call key v w is l = absurd cc
got_has (gots.Absent at) false z call key v w is l = (at, l)
got_has (gots.View x) true z call key v w is l = (x, l)
got_has (gots.View x) false z call key v w is l = absurd cc

pub got_view : (g : Got) (o : Option Viewed) (z : Sizes) (call : ℕ) (key : List ℕ) (v w : PassState) → IsViewOf g o → LooksAt g z call key v w → ViewAnswer o z call key v w
got_view (gots.Absent at) o z call key v w is l = subst (λ (q : Option Viewed). ViewAnswer q z call key v w) (sym is) (at, l)
got_view (gots.View x) o z call key v w is l = subst (λ (q : Option Viewed). ViewAnswer q z call key v w) (sym is) l

-- it can be looked at from then on
pub got_known : (g : Got) (o : Option Viewed) (z : Sizes) (call : ℕ) (key : List ℕ) (v w : PassState) → IsViewOf g o → LooksAt g z call key v w → IfSome o (λ x. HasView z x w)
got_known (gots.Absent at) o z call key v w is l = subst (λ (q : Option Viewed). IfSome q (λ x. HasView z x w)) (sym is) tt
got_known (gots.View x) o z call key v w is l = subst (λ (q : Option Viewed). IfSome q (λ y. HasView z y w)) (sym is) (record { inside = l.got.knows.inside; loaded = l.got.loaded })
