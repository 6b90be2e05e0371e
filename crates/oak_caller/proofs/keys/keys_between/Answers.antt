use Rattle.std.proofs.Common.{rules, List, ℕ, ap, refl, subst}
use Rattle.std.specs.Prelude.{IfOk, MatchBool, OnErr}
use Rattle.oak_core.specs.declared.table.Pass.{Pass}
use Rattle.oak_core.specs.Passes.{key as table_sizes, state}
use Rattle.oak_core.specs.Scratch.{StaysButSlots}
use Rattle.chunk_ops.specs.AskedRanges.{bytes_in_option}
use Rattle.scan_cursor.specs.declared.ways.Way.TheVariants.{Up}
use Rattle.scan_cursor.specs.Views.{Later}
use Rattle.scan_cursor.specs.Walks.{view_at}
use Rattle.scan_cursor.proofs.EndLaws.{high_is, low_is}
use Rattle.oak_map.specs.Maps.{sizes}
use Rattle.oak_caller.specs.Keys.{AddsAll, AddsBefore, AddsEnough}
use Rattle.oak_caller.specs.Callers.{PassKeepsViews}
use Rattle.oak_caller.proofs.LookedKeys.{views_kept}
use Rattle.oak_caller.proofs.CursorCalls.{scan_later, scan_own}
use Rattle.oak_caller.proofs.ScannedCalls.{before_added, keys_added}
use Rattle.oak_caller.proofs.keys.keys_between.Goals as goal

pub returns-clause-own : goal.returns-clause-own
returns-clause-own g c = let z = sizes c.args.map.now in let p = c.args.pass.now in let b = c.scan_of-cursor.result in let e = c.scan_of-cursor.ensures in let n = c.gather_keys-all.new.cursor in let q = c.finish.new.self.1.0 in
    let all : StaysButSlots p q = scan_own z p q b n (ap table_sizes e.table) e.same c.gather_keys-all.ensures.on c.finish.ensures.own in
    subst (λ (x : Pass). StaysButSlots p x) (search rules) all

pub returns-clause-later : goal.returns-clause-later
returns-clause-later g c = let z = sizes c.args.map.now in let p = c.args.pass.now in let b = c.scan_of-cursor.result in let e = c.scan_of-cursor.ensures in let n = c.gather_keys-all.new.cursor in let q = c.finish.new.self.1.0 in
    let all : Later (view_at z p) (view_at z q) = scan_later z p q b n (ap table_sizes e.table) e.same c.gather_keys-all.ensures.on c.finish.ensures.later in
    search (rules, all)

pub returns-clause-views : goal.returns-clause-views
returns-clause-views g c = let z = sizes c.args.map.now in let p = c.args.pass.now in let b = c.scan_of-cursor.result in let e = c.scan_of-cursor.ensures in let n = c.gather_keys-all.new.cursor in let q = c.finish.new.self.1.0 in
    let all : Later (view_at z p) (view_at z q) = scan_later z p q b n (ap table_sizes e.table) e.same c.gather_keys-all.ensures.on c.finish.ensures.later in
    let kept : PassKeepsViews z p q = views_kept z (state p) (state q) all.learns.all.loaded in search (rules, kept)

pub returns-clause-all : goal.returns-clause-all
returns-clause-all g c = let z = sizes c.args.map.now in let p = c.args.pass.now in let b = c.scan_of-cursor.result in let e = c.scan_of-cursor.ensures in let n = c.gather_keys-all.new.cursor in let f = c.gather_keys-all.ensures in let q = c.finish.new.self.1.0 in let r = c.gather_keys-all.result in
    let low = bytes_in_option c.args.low in let high = bytes_in_option c.args.high in let had : List (List ℕ) = c.args.keys.now.items in let has : List (List ℕ) = c.gather_keys-all.new.keys.items in
    let all : IfOk r (λ a. MatchBool a (AddsAll low high (view_at z p) (view_at z q) had has) (AddsEnough c.args.most low high (view_at z p) (view_at z q) had has)) = keys_added z p q b n Up low high (ap table_sizes e.table) e.same f.on e.way
    (low_is c.args.low b.low e.low) (high_is c.args.high b.high e.high) e.starts c.finish.ensures.later c.finish.ensures.still refl r c.args.most had has f.all in
    search (rules, all)

pub returns-clause-some : goal.returns-clause-some
returns-clause-some g c = let z = sizes c.args.map.now in let p = c.args.pass.now in let b = c.scan_of-cursor.result in let e = c.scan_of-cursor.ensures in let n = c.gather_keys-all.new.cursor in let f = c.gather_keys-all.ensures in let q = c.finish.new.self.1.0 in let r = c.gather_keys-all.result in
    let low = bytes_in_option c.args.low in let high = bytes_in_option c.args.high in let had : List (List ℕ) = c.args.keys.now.items in let has : List (List ℕ) = c.gather_keys-all.new.keys.items in
    let all : OnErr r (AddsBefore low high (view_at z p) (view_at z q) had has) = before_added z p q b n Up low high (ap table_sizes e.table) e.same f.on e.way
    (low_is c.args.low b.low e.low) (high_is c.args.high b.high e.high) e.starts c.finish.ensures.later c.finish.ensures.still refl r had has f.some in
    search (rules, all)
