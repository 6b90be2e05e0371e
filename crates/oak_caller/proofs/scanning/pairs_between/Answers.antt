use Rattle.std.proofs.Common.{rules, ap, subst}
use Rattle.oak_core.specs.declared.table.Pass.{Pass}
use Rattle.oak_core.specs.Passes.{key as table_sizes, state}
use Rattle.oak_core.specs.Scratch.{StaysButSlots}
use Rattle.chunk_ops.specs.AskedRanges.{bytes_in_option}
use Rattle.scan_cursor.specs.Views.{Later}
use Rattle.scan_cursor.specs.Walks.{view_at}
use Rattle.scan_cursor.proofs.EndLaws.{high_is, low_is}
use Rattle.oak_map.specs.Maps.{sizes}
use Rattle.oak_caller.specs.Scans.{GaveFits}
use Rattle.oak_caller.specs.Callers.{PassKeepsViews}
use Rattle.oak_caller.proofs.LookedKeys.{views_kept}
use Rattle.oak_caller.proofs.CursorCalls.{scan_later, scan_own}
use Rattle.oak_caller.proofs.ScannedCalls.{gave_fits}
use Rattle.oak_caller.proofs.scanning.pairs_between.Goals as goal

pub returns-clause-own : goal.returns-clause-own
returns-clause-own g c = let z = sizes c.args.map.now in let p = c.args.pass.now in let b = c.scan_of-cursor.result in let e = c.scan_of-cursor.ensures in let n = c.give_pairs-ended.new.cursor in let q = c.finish.new.self.1.0 in
    let all : StaysButSlots p q = scan_own z p q b n (ap table_sizes e.table) e.same c.give_pairs-ended.ensures.on c.finish.ensures.own in
    subst (λ (x : Pass). StaysButSlots p x) (search rules) all

pub returns-clause-later : goal.returns-clause-later
returns-clause-later g c = let z = sizes c.args.map.now in let p = c.args.pass.now in let b = c.scan_of-cursor.result in let e = c.scan_of-cursor.ensures in let n = c.give_pairs-ended.new.cursor in let q = c.finish.new.self.1.0 in
    let all : Later (view_at z p) (view_at z q) = scan_later z p q b n (ap table_sizes e.table) e.same c.give_pairs-ended.ensures.on c.finish.ensures.later in
    search (rules, all)

pub returns-clause-views : goal.returns-clause-views
returns-clause-views g c = let z = sizes c.args.map.now in let p = c.args.pass.now in let b = c.scan_of-cursor.result in let e = c.scan_of-cursor.ensures in let n = c.give_pairs-ended.new.cursor in let q = c.finish.new.self.1.0 in
    let all : Later (view_at z p) (view_at z q) = scan_later z p q b n (ap table_sizes e.table) e.same c.give_pairs-ended.ensures.on c.finish.ensures.later in
    let kept : PassKeepsViews z p q = views_kept z (state p) (state q) all.learns.all.loaded in search (rules, kept)

pub returns-clause-gave : goal.returns-clause-gave
returns-clause-gave g c = let z = sizes c.args.map.now in let p = c.args.pass.now in let b = c.scan_of-cursor.result in let e = c.scan_of-cursor.ensures in let n = c.give_pairs-ended.new.cursor in let q = c.finish.new.self.1.0 in let r = c.give_pairs-ended.result in
    let low = bytes_in_option c.args.low in let high = bytes_in_option c.args.high in
    let all : GaveFits c.args.most r g.F.FnMut c.args.f c.args.way low high (view_at z p) (view_at z q) = gave_fits z p q b n c.args.way low high (ap table_sizes e.table) e.same c.give_pairs-ended.ensures.on e.way
    (low_is c.args.low b.low e.low) (high_is c.args.high b.high e.high) e.starts c.finish.ensures.later c.finish.ensures.still c.args.most r g.F.FnMut c.args.f c.give_pairs-ended.ensures.gives in
    search (rules, all)
