use Rattle.std.proofs.Common.{rules, ap, subst, None, []}
use Rattle.std.specs.Prelude.{IfNone, IfSome}
use Rattle.oak_core.specs.declared.table.Pass.{Pass}
use Rattle.oak_core.specs.Passes.{key as table_sizes, state}
use Rattle.oak_core.specs.Scratch.{StaysButSlots}
use Rattle.scan_cursor.specs.Scanned.{HasScanned}
use Rattle.scan_cursor.specs.Views.{Later}
use Rattle.scan_cursor.specs.Walks.{view_at}
use Rattle.scan_cursor.proofs.EndLaws.{high_is, low_is}
use Rattle.oak_map.specs.Maps.{sizes}
use Rattle.oak_caller.specs.Scans.{FindsNext}
use Rattle.oak_caller.specs.Callers.{PassKeepsViews}
use Rattle.oak_caller.proofs.LookedKeys.{views_kept}
use Rattle.oak_caller.proofs.CursorCalls.{scan_later, scan_own}
use Rattle.oak_caller.proofs.ScannedCalls.{next_fits, none_fits}
use Rattle.oak_caller.proofs.ends.end_pair.Goals as goal

pub returns-clause-own : goal.returns-clause-own
returns-clause-own g c = let z = sizes c.args.map.now in let p = c.args.pass.now in let b = c.scan_of-cursor.result in let e = c.scan_of-cursor.ensures in let n = c.next_pair-found.new.cursor in let q = c.finish.new.self.1.0 in
    let all : StaysButSlots p q = scan_own z p q b n (ap table_sizes e.table) e.same c.next_pair-found.ensures.on c.finish.ensures.own in
    subst (λ (x : Pass). StaysButSlots p x) (search rules) all

pub returns-clause-later : goal.returns-clause-later
returns-clause-later g c = let z = sizes c.args.map.now in let p = c.args.pass.now in let b = c.scan_of-cursor.result in let e = c.scan_of-cursor.ensures in let n = c.next_pair-found.new.cursor in let q = c.finish.new.self.1.0 in
    let all : Later (view_at z p) (view_at z q) = scan_later z p q b n (ap table_sizes e.table) e.same c.next_pair-found.ensures.on c.finish.ensures.later in
    search (rules, all)

pub returns-clause-views : goal.returns-clause-views
returns-clause-views g c = let z = sizes c.args.map.now in let p = c.args.pass.now in let b = c.scan_of-cursor.result in let e = c.scan_of-cursor.ensures in let n = c.next_pair-found.new.cursor in let q = c.finish.new.self.1.0 in
    let all : Later (view_at z p) (view_at z q) = scan_later z p q b n (ap table_sizes e.table) e.same c.next_pair-found.ensures.on c.finish.ensures.later in
    let kept : PassKeepsViews z p q = views_kept z (state p) (state q) all.learns.all.loaded in search (rules, kept)

pub returns-clause-none : goal.returns-clause-none
returns-clause-none g c = let z = sizes c.args.map.now in let p = c.args.pass.now in let b = c.scan_of-cursor.result in let e = c.scan_of-cursor.ensures in let n = c.next_pair-found.new.cursor in let f = c.next_pair-found.ensures in let r = c.next_pair-found.result in let q = c.finish.new.self.1.0 in
    let all : IfNone r (HasScanned c.args.way None None (view_at z p) (view_at z q) []) = none_fits z p q b n c.args.way None None (ap table_sizes e.table) e.same f.on e.way (low_is None b.low e.low) (high_is None b.high e.high) e.starts c.finish.ensures.later c.finish.ensures.still r f.ended in
    search (rules, all)

pub returns-clause-found : goal.returns-clause-found
returns-clause-found g c = let z = sizes c.args.map.now in let p = c.args.pass.now in let b = c.scan_of-cursor.result in let e = c.scan_of-cursor.ensures in let n = c.next_pair-found.new.cursor in let f = c.next_pair-found.ensures in let r = c.next_pair-found.result in let q = c.finish.new.self.1.0 in
    let all : IfSome r (λ i. FindsNext i c.next_pair-found.new.key c.next_pair-found.new.value c.args.way None None (view_at z p) (view_at z q)) = next_fits z p q b n c.args.way None None (ap table_sizes e.table) e.same f.on e.way (low_is None b.low e.low) (high_is None b.high e.high) e.starts c.finish.ensures.later c.finish.ensures.still r c.next_pair-found.new.key c.next_pair-found.new.value f.given f.key f.value in
    search (rules, all)
