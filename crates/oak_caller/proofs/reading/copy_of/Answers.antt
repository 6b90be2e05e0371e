use Rattle.std.proofs.Common.{rules, ◌≡◌, ℕ, sym, ap, ◌∙◌, subst, refl}
use Rattle.oak_core.specs.declared.table.Pass.{Pass}
use Rattle.oak_core.specs.Passes.{call_of as table_call, key as table_sizes, state as table_state}
use Rattle.value_ops.specs.Reading.{value}
use Rattle.oak_map.specs.Maps.{sizes}
use Rattle.oak_map.specs.Rests.{RestsAbsent}
use Rattle.oak_map.proofs.LentEnds.{value_refuses}
use Rattle.oak_caller.specs.Reads.{CopyFits, ReadsValue}
use Rattle.oak_caller.proofs.PresentPairs.{read_value}
use Rattle.oak_caller.proofs.ReadKeys.{absent_reads, copy_fits, value_reads}
use Rattle.oak_caller.specs.Callers.{PassKeepsViews}
use Rattle.oak_caller.proofs.LookedKeys.{views_kept}
use Rattle.oak_caller.proofs.reading.copy_of.Goals as goal

pub returns-in-Absent-clause-mine : goal.returns-in-Absent-clause-mine
returns-in-Absent-clause-mine g c = let z = sizes c.args.map.now in let v = table_state c.args.pass.now in
    let rest : RestsAbsent z c.args.key.now c.in-Absent.at c.args.pass.now c.get_of.follows.lender-at-none = search rules in
    let all : (table_state c.get_of.follows.lender-at-none).knowledge.mine ≡ v.knowledge.mine = rest.finds.replies.mine in
    all

pub returns-in-Absent-clause-copied : goal.returns-in-Absent-clause-copied
returns-in-Absent-clause-copied g c = let z = sizes c.args.map.now in let v = table_state c.args.pass.now in
    let rest : RestsAbsent z c.args.key.now c.in-Absent.at c.args.pass.now c.get_of.follows.lender-at-none = search rules in
    (absent_reads z (table_call c.args.pass.now) c.args.key.now c.in-Absent.at v (table_state c.get_of.follows.lender-at-none) rest.finds, refl)

pub returns-in-Present-clause-mine : goal.returns-in-Present-clause-mine
returns-in-Present-clause-mine g c = let z = sizes c.args.map.now in let call = table_call c.args.pass.now in let v = table_state c.args.pass.now in
    let r = c.in-Present.reading in let q = c.copy_reading-len.new.reading in let w = table_state c.done.new.self.1.0 in let f = c.in-Present.ensures.present in
    let first : table_sizes r.table.now ≡ z = ap table_sizes f.2 in
    let all : w.knowledge.mine ≡ v.knowledge.mine = (value_refuses z call c.args.key.now v w r q c.requires.idle f.4 first f.3.call c.copy_reading-len.ensures.reads c.done.ensures.undone).learns.all.mine in
    subst (λ (x : Pass). (table_state x).knowledge.mine ≡ v.knowledge.mine) (sym (c.pass-in-Present-1.given.1 (sym (c.copy_reading-len.ensures.same_reference ∙ f.0)))) all

pub returns-in-Present-clause-copied : goal.returns-in-Present-clause-copied
returns-in-Present-clause-copied g c = let z = sizes c.args.map.now in let call = table_call c.args.pass.now in let v = table_state c.args.pass.now in let k = c.args.key.now in
    let r = c.in-Present.reading in let q = c.copy_reading-len.new.reading in let w = table_state c.done.new.self.1.0 in let f = c.in-Present.ensures.present in let e = c.copy_reading-len.ensures in
    let old = c.args.out.now in let new = c.copy_reading-len.new.out in let y = c.told_copy.result in
    let first : table_sizes r.table.now ≡ z = ap table_sizes f.2 in
    let reads : ReadsValue z call k (value r) c.at-at.result v w = subst (λ (n : ℕ). ReadsValue z call k (value r) n v w) (sym c.at-at.ensures) (value_reads z call k v w r q c.requires.idle f.4 first f.3.call e.reads c.done.ensures.undone) in
    let all : CopyFits y z call k old new v w = copy_fits y z call k old new v w (value r) c.copy_reading-len.result c.at-at.result (search rules) e.len c.told_copy.ensures.whole c.told_copy.ensures.long reads (read_value r f.1) e.fits e.long in
    subst (λ (x : Pass). CopyFits y z call k old new v (table_state x)) (sym (c.pass-in-Present-1.given.1 (sym (e.same_reference ∙ f.0)))) all

pub returns-in-Absent-clause-views : goal.returns-in-Absent-clause-views
returns-in-Absent-clause-views g c = let z = sizes c.args.map.now in let v = table_state c.args.pass.now in
    let rest : RestsAbsent z c.args.key.now c.in-Absent.at c.args.pass.now c.get_of.follows.lender-at-none = search rules in
    views_kept z v (table_state c.get_of.follows.lender-at-none) rest.finds.replies.goes.loaded

pub returns-in-Present-clause-views : goal.returns-in-Present-clause-views
returns-in-Present-clause-views g c = let z = sizes c.args.map.now in let call = table_call c.args.pass.now in let v = table_state c.args.pass.now in
    let r = c.in-Present.reading in let q = c.copy_reading-len.new.reading in let x = c.done.new.self.1.0 in let f = c.in-Present.ensures.present in
    let first : table_sizes r.table.now ≡ z = ap table_sizes f.2 in
    let all : PassKeepsViews z c.args.pass.now x = views_kept z v (table_state x) (value_refuses z call c.args.key.now v (table_state x) r q c.requires.idle f.4 first f.3.call c.copy_reading-len.ensures.reads c.done.ensures.undone).learns.all.loaded in
    subst (λ (p : Pass). PassKeepsViews z c.args.pass.now p) (sym (c.pass-in-Present-1.given.1 (sym (c.copy_reading-len.ensures.same_reference ∙ f.0)))) all
