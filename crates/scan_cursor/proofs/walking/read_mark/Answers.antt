use Rattle.std.proofs.Common.{List, ℕ, refl, sym, subst}
use Rattle.oak_model.specs.Key.{AreBytes, IsKey}
use Rattle.oak_model.proofs.KeyLaws.{is_key-is}
use Rattle.oak_core.specs.Passes.{call_of, state, key as sizes}
use Rattle.scan_cursor.specs.declared.reading.Here.TheVariants.{Absent, Present}
use Rattle.scan_cursor.specs.Busy.{LooksInVain}
use Rattle.scan_cursor.specs.Reading.{ReadsHere}
use Rattle.scan_cursor.specs.Views.{view_of}
use Rattle.scan_cursor.specs.Walks.{view_at}
use Rattle.scan_cursor.proofs.RemainingLaws.{read_nearer}
use Rattle.scan_cursor.proofs.StepLaws.{mark_given, mark_passed, told_at, walk_waits}
use Rattle.scan_cursor.proofs.walking.read_mark.Goals as goal

pub read_key-requires-clause-key : goal.read_key-requires-clause-key
read_key-requires-clause-key c = subst (λ (k : List ℕ). IsKey k × AreBytes k) (sym c.as_slice.ensures) (is_key-is c.args.walk.now.mark.key c.requires.key)

pub returns-in-Present-clause-steps : goal.returns-in-Present-clause-steps
returns-in-Present-clause-steps c way low high i = let e = c.in-Present.ensures in let z = sizes c.args.table.now in let p = c.args.pass.now in let q = c.read_key.new.pass in
    mark_given way low high z c.args.walk.now p q e.own c.requires.going c.requires.at e.later i c.in-Present.value
    (subst (λ (k : List ℕ). ReadsHere (Present c.in-Present.value) k (view_of z (call_of p) (state p)) (view_of z (call_of p) (state q))) c.as_slice.ensures e.here)

pub returns-in-Absent-clause-steps : goal.returns-in-Absent-clause-steps
returns-in-Absent-clause-steps c way low high i = let e = c.in-Absent.ensures in let z = sizes c.args.table.now in let p = c.args.pass.now in let q = c.read_key.new.pass in
    mark_passed way low high z c.args.walk.now p q e.own c.requires.going c.requires.at e.later i
    (subst (λ (k : List ℕ). ReadsHere Absent k (view_of z (call_of p) (state p)) (view_of z (call_of p) (state q))) c.as_slice.ensures e.here)

pub returns-in-Again-clause-steps : goal.returns-in-Again-clause-steps
returns-in-Again-clause-steps c way low high i = let e = c.in-Again.ensures in
    walk_waits way low high (sizes c.args.table.now) c.args.walk.now c.args.pass.now c.read_key.new.pass e.own c.requires.going e.here e.later i

pub returns-in-Absent-clause-nearer : goal.returns-in-Absent-clause-nearer
returns-in-Absent-clause-nearer c way high is = read_nearer way high c.args.walk.now c.requires.at

pub returns-in-Again-clause-again : goal.returns-in-Again-clause-again
returns-in-Again-clause-again c is = let z = sizes c.args.table.now in let p = c.args.pass.now in let e = c.in-Again.ensures in
    subst (λ (k : List ℕ). LooksInVain k (view_at z p) (view_at z c.read_key.new.pass)) c.as_slice.ensures (subst (LooksInVain c.as_slice.result.now (view_at z p)) (told_at z p c.read_key.new.pass e.own.call) (e.again refl))
