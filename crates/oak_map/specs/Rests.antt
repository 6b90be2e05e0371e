-- What is lent by a call, by its answer, and what becomes of the pass where nothing is.
use Rattle.std.specs.Prelude.{◌≡◌, List, ℕ, ⊤}
use Rattle.std.specs.Borrow.{Fml, GName, MutBor, follows_so}
use mathlib.Core.Option as maybe
use Rattle.oak_model.specs.Limits.{Sizes}
use Rattle.oak_core.specs.declared.table.OakTable.{OakTable}
use Rattle.oak_core.specs.declared.table.Pass.{Pass}
use Rattle.oak_core.specs.contracts.table.Pass as table_pass
use Rattle.oak_core.specs.Passes.{Stays, call_of, key as sizes, state}
use Rattle.oak_core.specs.PassState.{HoldsNothing}
use Rattle.value_ops.specs.Reading.{IsReading}
use Rattle.value_ops.specs.Views.{Viewed}
use Rattle.oak_map.specs.Lending.{FindsAbsent, FindsOver, LendsLife, LendsValue}
use Rattle.oak_map.specs.contracts.map.MapPass.{the_row}
use Rattle.oak_map.specs.declared.lending.Lent.{Lent}
use Rattle.oak_map.specs.declared.lending.Lent.TheVariants as lent
use Rattle.oak_map.specs.declared.lending.Looked.{Looked}
use Rattle.oak_map.specs.declared.lending.Looked.TheVariants as looked
use Rattle.oak_map.specs.declared.map.MapPass.{MapPass}

-- the map's pass with this pass on its table
abbrev pub with_pass : MapPass → Pass → MapPass
with_pass m x = record m { pass = x }

-- a call left the pass so, which looked for the key and found none
pub record RestsAbsent (z : Sizes) (key : List ℕ) (at : ℕ) (p q : Pass) : Type 0 where
  pub own : Stays p q
  pub idle : HoldsNothing (state q)
  pub finds : FindsAbsent z (call_of p) key at (state p) (state q)

-- or which looked for the life of the view and found it over
pub record RestsOver (z : Sizes) (x : Viewed) (p q : Pass) : Type 0 where
  pub own : Stays p q
  pub idle : HoldsNothing (state q)
  pub finds : FindsOver z (call_of p) x (state p) (state q)

-- ---- a key

-- the name under which the pass is lent, where it is
abbrev pub lent_name : Lent → maybe.Option GName
lent_name (lent.Absent at) = maybe.none
lent_name (lent.Present r) = maybe.some r.pass.ghost_name

-- a reading was of it, which left the pass at x
abbrev pub LentLast : Lent → Pass → Pass → Type 0
LentLast (lent.Absent at) x n = ⊤
LentLast (lent.Present r) x n = n ≡ x

abbrev pub LentBack : Sizes → Pass → List ℕ → Lent → Pass → Type 0
LentBack z p k (lent.Absent at) n = RestsAbsent z k at p n
LentBack z p k (lent.Present r) n = ⊤

-- the pass ends as the reading leaves it, and where there is none as the absence left it
abbrev pub LentRests : Sizes → MutBor Pass → List ℕ → Lent → Fml
LentRests z p k y = follows_so table_pass.the_row table_pass.the_row p.ghost_name (lent_name y) (λ x n. LentLast y x n) (λ n. LentBack z p.now k y n)

abbrev pub LentFits : OakTable → MutBor Pass → List ℕ → Lent → Type 0
LentFits t p k (lent.Absent at) = ⊤
LentFits t p k (lent.Present r) = (r.pass.ghost_name ≡ p.ghost_name) × IsReading r × (r.table.now ≡ t) × Stays p.now r.pass.now × LendsValue (sizes t) (call_of p.now) k (state p.now) r

-- the same of the pass in a map's pass

abbrev pub MapLast : MapPass → Lent → Pass → MapPass → Type 0
MapLast m (lent.Absent at) x n = ⊤
MapLast m (lent.Present r) x n = n ≡ with_pass m x

abbrev pub MapBack : Sizes → MapPass → List ℕ → Lent → MapPass → Type 0
MapBack z m k (lent.Absent at) n = RestsAbsent z k at m.pass n.pass
MapBack z m k (lent.Present r) n = ⊤

abbrev pub MapRests : Sizes → MutBor MapPass → List ℕ → Lent → Fml
MapRests z p k y = follows_so the_row table_pass.the_row p.ghost_name (lent_name y) (λ x n. MapLast p.now y x n) (λ n. MapBack z p.now k y n)

abbrev pub MapFits : OakTable → MutBor MapPass → List ℕ → Lent → Type 0
MapFits t p k (lent.Absent at) = ⊤
MapFits t p k (lent.Present r) = IsReading r × (r.table.now ≡ t) × Stays p.now.pass r.pass.now × LendsValue (sizes t) (call_of p.now.pass) k (state p.now.pass) r

-- ---- the life of a view

abbrev pub looked_name : Looked → maybe.Option GName
looked_name looked.Gone = maybe.none
looked_name (looked.Present r) = maybe.some r.pass.ghost_name

abbrev pub LookedLast : Looked → Pass → Pass → Type 0
LookedLast looked.Gone x n = ⊤
LookedLast (looked.Present r) x n = n ≡ x

abbrev pub LookedBack : Sizes → Pass → Viewed → Looked → Pass → Type 0
LookedBack z p v looked.Gone n = RestsOver z v p n
LookedBack z p v (looked.Present r) n = ⊤

abbrev pub LookedRests : Sizes → MutBor Pass → Viewed → Looked → Fml
LookedRests z p v y = follows_so table_pass.the_row table_pass.the_row p.ghost_name (looked_name y) (λ x n. LookedLast y x n) (λ n. LookedBack z p.now v y n)

abbrev pub LookedFits : OakTable → MutBor Pass → Viewed → Looked → Type 0
LookedFits t p v looked.Gone = ⊤
LookedFits t p v (looked.Present r) = (r.pass.ghost_name ≡ p.ghost_name) × IsReading r × (r.table.now ≡ t) × Stays p.now r.pass.now × LendsLife (sizes t) (call_of p.now) v (state p.now) r

-- the same of the pass in a map's pass

abbrev pub MapLookedLast : MapPass → Looked → Pass → MapPass → Type 0
MapLookedLast m looked.Gone x n = ⊤
MapLookedLast m (looked.Present r) x n = n ≡ with_pass m x

abbrev pub MapLookedBack : Sizes → MapPass → Viewed → Looked → MapPass → Type 0
MapLookedBack z m v looked.Gone n = RestsOver z v m.pass n.pass
MapLookedBack z m v (looked.Present r) n = ⊤

abbrev pub MapLookedRests : Sizes → MutBor MapPass → Viewed → Looked → Fml
MapLookedRests z p v y = follows_so the_row table_pass.the_row p.ghost_name (looked_name y) (λ x n. MapLookedLast p.now y x n) (λ n. MapLookedBack z p.now v y n)

abbrev pub MapLookedFits : OakTable → MutBor MapPass → Viewed → Looked → Type 0
MapLookedFits t p v looked.Gone = ⊤
MapLookedFits t p v (looked.Present r) = IsReading r × (r.table.now ≡ t) × Stays p.now.pass r.pass.now × LendsLife (sizes t) (call_of p.now.pass) v (state p.now.pass) r
