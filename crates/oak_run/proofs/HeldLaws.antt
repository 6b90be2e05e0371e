-- What names stand for stays known to the pass, and one name may be given anew.
use Rattle.std.proofs.Common.{◌≡◌, Bool, true, false, cond, List, ℕ, Option, Some, None, refl, sym, subst}
use Rattle.std.specs.Prelude.{if◌then◌else◌, IsSomeAnd, MatchOption}
use Rattle.std.specs.BTreeMap.{BTreeMap, get}
use Rattle.oak_model.specs.Counts.{Begins}
use Rattle.oak_model.specs.Key.{key_cmp, same_key}
use Rattle.oak_model.specs.Limits.{Sizes}
use Rattle.oak_core.specs.declared.states.PassState.{PassState}
use Rattle.oak_core.specs.PassState.{Extends}
use Rattle.oak_run.specs.declared.looks.HeldView.{HeldView}
use Rattle.oak_run.specs.HeldNames.{IsHeld, KeepsViews}
use Rattle.oak_run.specs.Views.{Names, View, named}
use Rattle.oak_run.proofs.LookTurns.{holds_later}

-- what a name stands for, or nothing
abbrev pub Stands : Sizes → PassState → Option HeldView → Option View → Type 0
Stands z v o view = MatchOption o (view ≡ None) (λ h. IsSomeAnd view (λ x. IsHeld z v h x))

module _ (z : Sizes) (v w : PassState) (more : Extends v w) (loaded : Begins v.knowledge.loaded w.knowledge.loaded) where
  pub stands_later : (o : Option HeldView) (view : Option View) → Stands z v o view → Stands z w o view
  stands_later None view s = s
  stands_later (Some h) None s = s
  stands_later (Some h) (Some x) s = record { key = s.key; life = holds_later z v w h.view x more loaded s.life }

  pub keeps_later : (m : BTreeMap (List ℕ) HeldView) (names : Names) → KeepsViews z m v names → KeepsViews z m w names
  keeps_later m names keeps a = stands_later (get key_cmp m a) (names a) (keeps a)

  -- the name stands for the view, the others for what they stood for
  pub keeps_named : (old now : BTreeMap (List ℕ) HeldView) (names : Names) (a : List ℕ) (o : Option HeldView) (view : Option View) → ((q : List ℕ) → get key_cmp now q ≡ cond (same_key a q) o (get key_cmp old q)) → Stands z w o view → KeepsViews z old v names → KeepsViews z now w (named names a view)
  keeps_named old now names a o view updates stands keeps q = subst (λ (p : Option HeldView). Stands z w p (named names a view q)) (sym (updates q)) (by (same_key a q) (stands_later (get key_cmp old q) (names q) (keeps q)))
    where
      by : (b : Bool) → Stands z w (get key_cmp old q) (names q) → Stands z w (cond b o (get key_cmp old q)) (if b then view else names q)
      by true s = stands
      by false s = s

-- a name that stands for a life that is held
held_some : (z : Sizes) (v : PassState) (h : HeldView) (view : Option View) → Stands z v (Some h) view → (x : View) × (view ≡ Some x) × IsHeld z v h x
held_some z v h None s = absurd s
held_some z v h (Some x) s = (x, refl, s)

pub name_held : (z : Sizes) (v : PassState) (m : BTreeMap (List ℕ) HeldView) (names : Names) (a : List ℕ) (h : HeldView) → get key_cmp m a ≡ Some h → KeepsViews z m v names → (x : View) × (names a ≡ Some x) × IsHeld z v h x
name_held z v m names a h is keeps = held_some z v h (names a) (subst (λ (o : Option HeldView). Stands z v o (names a)) is (keeps a))
