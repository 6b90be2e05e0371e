-- A call lends the pass of the table in a map's pass, where it may end the loan at once: the whole's last value follows the part's.
use Rattle.std.proofs.Common.{◌≡◌, ◌∷◌, [], ap, subst}
use Rattle.std.specs.Prelude.{List, ℕ}
use mathlib.Core.Option.{Option, none, some}
use seplogic.Ra.Ura.{Ura}
use base.Logic.{ent, sep}
use base.Fml.{GName}
use types.Logic.{Logic, sem}
use types.Kit.{‵, ◌$◌, ◌∵◌, !, qed, move, use2, fpick, fpack, done}
use denote.RattleType.{RattleType}
use denote.Ref.{MutBor}
use denote.Follow.{follows, follows_if, follows_so, follows_by, such_by, followed, follows_then}
use Rattle.oak_model.specs.Limits.{Sizes}
use Rattle.oak_core.specs.declared.table.OakTable.{OakTable}
use Rattle.oak_core.specs.declared.table.Pass.{Pass}
use Rattle.oak_core.specs.contracts.table.Pass as pass
use Rattle.oak_core.specs.Passes.{Stays, call_of, key as sizes, state}
use Rattle.value_ops.specs.Views.{Viewed}
use Rattle.oak_map.specs.declared.lending.Lent.{Lent}
use Rattle.oak_map.specs.declared.lending.Lent.TheVariants as lent
use Rattle.oak_map.specs.declared.lending.Looked.{Looked}
use Rattle.oak_map.specs.declared.lending.Looked.TheVariants as looked
use Rattle.oak_map.specs.declared.map.MapPass.{MapPass}
use Rattle.oak_map.specs.contracts.map.MapPass.{the_row}
use Rattle.oak_map.specs.Lending.{LendsLife, LendsValue}
use Rattle.oak_map.specs.Rests.{with_pass, lent_name, LentLast, LentBack, LentRests, LentFits, MapLast, MapBack, MapRests, MapFits, looked_name, LookedLast, LookedBack, LookedRests, LookedFits, MapLookedLast, MapLookedBack, MapLookedRests, MapLookedFits}

module _ {M : Type 1} {𝓤 : Ura M} (𝓛 : Logic 𝓤) (R T U : RattleType) (F : T.Denot → R.Denot) (γ γ' : GName) where
  by_name : (m : Option GName) (G : U.Denot → T.Denot) (v : T.Denot)
      → ent 𝓤 (sep 𝓤 (sem 𝓛 (follows R T γ γ' F)) (sem 𝓛 (follows_if T U γ' m G v))) (sem 𝓛 (follows_if R U γ m (λ w. F (G w)) (F v)))
  unfolding follows_by
  by_name none G v = followed 𝓛 R T F γ γ' v
  by_name (some γ'') G v = follows_then 𝓛 R T U F G γ γ' γ''

  module _ (m : Option GName) (P : U.Denot → T.Denot → Type 0) (P₀ : T.Denot → Type 0) (Q : U.Denot → R.Denot → Type 0) (Q₀ : R.Denot → Type 0) where
    -- what is told of the part is told of the whole
    pub through : ((w : U.Denot) (t : T.Denot) → P w t → Q w (F t)) → ((t : T.Denot) → P₀ t → Q₀ (F t))
        → ent 𝓤 (sep 𝓤 (sem 𝓛 (follows R T γ γ' F)) (sem 𝓛 (follows_so T U γ' m P P₀))) (sem 𝓛 (follows_so R U γ m Q Q₀))
    unfolding such_by
    through q q₀ =
        let A : Type 0 = (s : (U.Denot → R.Denot) × R.Denot) × ((w : U.Denot) → Q w (s.0 w)) × Q₀ s.1 in
        qed 𝓛 (‵ (follows R T γ γ' F) ∷ ‵ (follows_so T U γ' m P P₀) ∷ []) ∵
        move ! (1 ∷ []) $ fpick ! (λ s. move ! (1 ∷ 0 ∷ []) $
        use2 𝓛 (‵ (follows_if R U γ m (λ w. F (s.0.0 w)) (F s.0.1))) (by_name m s.0.0 s.0.1) $
        fpack ! A (λ s'. follows_if R U γ m s'.0.0 s'.0.1) (((λ w. F (s.0.0 w)), F s.0.1), (λ w. q w (s.0.0 w) (s.1 w)), q₀ s.0.1 s.2) $ done !)

-- ---- a key

pub last_through : (m : MapPass) (y : Lent) (w t : Pass) → LentLast y w t → MapLast m y w (with_pass m t)
last_through m (lent.Absent at) w t p = tt
last_through m (lent.Present r) w t p = ap (with_pass m) p

pub back_through : (z : Sizes) (m : MapPass) (k : List ℕ) (y : Lent) (t : Pass) → LentBack z m.pass k y t → MapBack z m k y (with_pass m t)
back_through z m k (lent.Absent at) t p = p
back_through z m k (lent.Present r) t p = tt

pub fits_through : (z : OakTable) (p : MutBor MapPass) (r : MutBor Pass) (k : List ℕ) (y : Lent) → r.now ≡ p.now.pass → LentFits z r k y → MapFits z p k y
fits_through z p r k (lent.Absent at) e f = tt
fits_through z p r k (lent.Present x) e f = let g = subst (λ (v : Pass). Stays v x.pass.now × LendsValue (sizes z) (call_of v) k (state v) x) e (f.3, f.4) in (f.1, f.2, g.0, g.1)

pub rests_through : {M : Type 1} {𝓤 : Ura M} (𝓛 : Logic 𝓤) (z : Sizes) (p : MutBor MapPass) (r : MutBor Pass) (k : List ℕ) (y : Lent) → r.now ≡ p.now.pass
    → ent 𝓤 (sep 𝓤 (sem 𝓛 (follows the_row pass.the_row p.ghost_name r.ghost_name (with_pass p.now))) (sem 𝓛 (LentRests z r k y))) (sem 𝓛 (MapRests z p k y))
rests_through 𝓛 z p r k y e = through 𝓛 the_row pass.the_row pass.the_row (with_pass p.now) p.ghost_name r.ghost_name (lent_name y)
    (λ x n. LentLast y x n) (λ n. LentBack z r.now k y n) (λ x n. MapLast p.now y x n) (λ n. MapBack z p.now k y n)
    (λ w t q. last_through p.now y w t q) (λ t q. back_through z p.now k y t (subst (λ (v : Pass). LentBack z v k y t) e q))

-- ---- the life of a view

pub looked_last : (m : MapPass) (y : Looked) (w t : Pass) → LookedLast y w t → MapLookedLast m y w (with_pass m t)
looked_last m looked.Gone w t p = tt
looked_last m (looked.Present r) w t p = ap (with_pass m) p

pub looked_back : (z : Sizes) (m : MapPass) (v : Viewed) (y : Looked) (t : Pass) → LookedBack z m.pass v y t → MapLookedBack z m v y (with_pass m t)
looked_back z m v looked.Gone t p = p
looked_back z m v (looked.Present r) t p = tt

pub looked_fits : (z : OakTable) (p : MutBor MapPass) (r : MutBor Pass) (v : Viewed) (y : Looked) → r.now ≡ p.now.pass → LookedFits z r v y → MapLookedFits z p v y
looked_fits z p r v looked.Gone e f = tt
looked_fits z p r v (looked.Present x) e f = let g = subst (λ (u : Pass). Stays u x.pass.now × LendsLife (sizes z) (call_of u) v (state u) x) e (f.3, f.4) in (f.1, f.2, g.0, g.1)

pub looked_rests : {M : Type 1} {𝓤 : Ura M} (𝓛 : Logic 𝓤) (z : Sizes) (p : MutBor MapPass) (r : MutBor Pass) (v : Viewed) (y : Looked) → r.now ≡ p.now.pass
    → ent 𝓤 (sep 𝓤 (sem 𝓛 (follows the_row pass.the_row p.ghost_name r.ghost_name (with_pass p.now))) (sem 𝓛 (LookedRests z r v y))) (sem 𝓛 (MapLookedRests z p v y))
looked_rests 𝓛 z p r v y e = through 𝓛 the_row pass.the_row pass.the_row (with_pass p.now) p.ghost_name r.ghost_name (looked_name y)
    (λ x n. LookedLast y x n) (λ n. LookedBack z r.now v y n) (λ x n. MapLookedLast p.now y x n) (λ n. MapLookedBack z p.now v y n)
    (λ w t q. looked_last p.now y w t q) (λ t q. looked_back z p.now v y t (subst (λ (u : Pass). LookedBack z u v y t) e q))
