use Rattle.std.proofs.Common.{rules, ap, subst, None, not}
use Rattle.oak_core.specs.declared.table.Pass.{Pass}
use Rattle.oak_core.specs.Passes.{key as table_sizes, state}
use Rattle.oak_core.specs.Scratch.{StaysButSlots}
use Rattle.scan_cursor.specs.declared.ways.Way.TheVariants.{Up}
use Rattle.scan_cursor.specs.Views.{Later}
use Rattle.scan_cursor.specs.Walks.{view_at}
use Rattle.scan_cursor.proofs.EndLaws.{high_is, low_is}
use Rattle.oak_map.specs.Maps.{sizes}
use Rattle.oak_caller.specs.Callers.{PassKeepsViews}
use Rattle.oak_caller.specs.Scans.{EmptyFits, GoesOn}
use Rattle.oak_caller.proofs.CursorCalls.{advanced, scan_later, scan_own}
use Rattle.oak_caller.proofs.LookedKeys.{views_kept}
use Rattle.oak_caller.proofs.ScannedCalls.{empty_fits, pair_or_none}
use Rattle.oak_caller.proofs.ends.gives_none.Goals as goal

pub returns-clause-own : goal.returns-clause-own
returns-clause-own g c = let z = sizes c.args.map.now in let p = c.args.pass.now in let b = c.scan_of-cursor.result in let e = c.scan_of-cursor.ensures in let n = c.advance-found.new.self in let f = c.advance-found.ensures in let q = c.finish.new.self.1.0 in
    let on : GoesOn b n = advanced b n f.table f.low f.high f.way f.own f.cursor f.later in
    let all : StaysButSlots p q = scan_own z p q b n (ap table_sizes e.table) e.same on c.finish.ensures.own in
    subst (λ (x : Pass). StaysButSlots p x) (search rules) all

pub returns-clause-later : goal.returns-clause-later
returns-clause-later g c = let z = sizes c.args.map.now in let p = c.args.pass.now in let b = c.scan_of-cursor.result in let e = c.scan_of-cursor.ensures in let n = c.advance-found.new.self in let f = c.advance-found.ensures in let q = c.finish.new.self.1.0 in
    let on : GoesOn b n = advanced b n f.table f.low f.high f.way f.own f.cursor f.later in
    let all : Later (view_at z p) (view_at z q) = scan_later z p q b n (ap table_sizes e.table) e.same on c.finish.ensures.later in
    search (rules, all)

pub returns-clause-views : goal.returns-clause-views
returns-clause-views g c = let z = sizes c.args.map.now in let p = c.args.pass.now in let b = c.scan_of-cursor.result in let e = c.scan_of-cursor.ensures in let n = c.advance-found.new.self in let f = c.advance-found.ensures in let q = c.finish.new.self.1.0 in
    let on : GoesOn b n = advanced b n f.table f.low f.high f.way f.own f.cursor f.later in
    let all : Later (view_at z p) (view_at z q) = scan_later z p q b n (ap table_sizes e.table) e.same on c.finish.ensures.later in
    let kept : PassKeepsViews z p q = views_kept z (state p) (state q) all.learns.all.loaded in search (rules, kept)

pub returns-clause-empty : goal.returns-clause-empty
returns-clause-empty g c = let z = sizes c.args.map.now in let p = c.args.pass.now in let b = c.scan_of-cursor.result in let e = c.scan_of-cursor.ensures in let n = c.advance-found.new.self in let f = c.advance-found.ensures in let q = c.finish.new.self.1.0 in
    let on : GoesOn b n = advanced b n f.table f.low f.high f.way f.own f.cursor f.later in
    let all : EmptyFits (not c.advance-found.result) (view_at z p) (view_at z q) = empty_fits c.advance-found.result (view_at z p) (view_at z q) (pair_or_none z p q b n Up None None (ap table_sizes e.table) e.same on e.way (low_is None b.low e.low) (high_is None b.high e.high) e.starts c.finish.ensures.later c.finish.ensures.still c.advance-found.result f.advances) in
    search (rules, all)
