use Rattle.std.proofs.Common.{◌∙◌, List, Option, ap, refl, set, subst, sym}
use Rattle.oak_model.specs.Limits.{Sizes}
use Rattle.oak_core.specs.declared.sorting.SortSlot.{SortSlot}
use Rattle.oak_core.specs.Passes.{call_of, key as sizes, state}
use Rattle.scan_cursor.specs.declared.ways.Way.{Way}
use Rattle.scan_cursor.specs.Loading.{IsBehind, IsEnd, ReadsSlot}
use Rattle.scan_cursor.specs.Views.{view_of}
use Rattle.scan_cursor.proofs.gathering.load_known.Goals as goal

-- an entry whose key is not ahead

pub returns-in-Down-clause-loads : goal.returns-in-Down-clause-loads
returns-in-Down-clause-loads c k q s is h = let stored = c.requires.key q h in
    (refl, subst (λ (w : Way). IsEnd w c.args.aim.full k q) (sym c.in-Down.is) (λ behind. (c.is_behind.ensures k q s stored.0 is stored.1).1 c.if-not-is_behind.true (subst (λ (w : Way). IsBehind w k q) (sym c.in-Down.is) behind)))

-- one that is, before which a full batch ends

pub returns-then-ends_full-clause-loads : goal.returns-then-ends_full-clause-loads
returns-then-ends_full-clause-loads c k q s is h = let stored = c.requires.key q h in let full = c.ends_full.ensures c.if-ends_full.true in
    (refl, subst (λ (w : Way). IsEnd w c.args.aim.full k q) (sym full.0) (full.1, subst (λ (w : Way). IsBehind w k q) full.0 ((c.is_behind.ensures k q s stored.0 is stored.1).0 c.if-not-is_behind.false)))

-- or which is loaded

pub returns-in-Some-clause-loads : goal.returns-in-Some-clause-loads
returns-in-Some-clause-loads c k q s is h = let z : Sizes = sizes c.args.table.now in let call = call_of c.args.pass.now in let stored = c.requires.key q h in let slot = c.in-Some.slot in (
  slot,
  c.set.ensures ∙ ap (λ (xs : List SortSlot). set xs c.args.aim.slot slot) (c.sorting_mut.ensures.value ∙ c.load_slot.ensures.own.sorting),
  (
    (c.is_behind.ensures k q s stored.0 is stored.1).0 c.if-not-is_behind.false,
    subst (λ (o : Option SortSlot). ReadsSlot o q (view_of z call (state c.args.pass.now)) (view_of z call (state c.load_slot.new.pass))) c.in-Some.is (c.load_slot.ensures.reads q h),
  ),
)
