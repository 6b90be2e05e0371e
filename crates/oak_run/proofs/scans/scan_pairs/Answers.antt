use Rattle.std.proofs.Common.{rules, ◌≡◌, true, [], ap, ◌∙◌, subst}
use Rattle.std.specs.Prelude.{IfOk}
use Rattle.oak_core.specs.declared.table.Pass.{Pass}
use Rattle.oak_core.specs.Passes.{key as table_sizes}
use Rattle.oak_core.specs.Scratch.{StaysButSlots}
use Rattle.scan_cursor.specs.Scanned.{HasScanned, greatest_of, least_of}
use Rattle.scan_cursor.specs.Views.{Later}
use Rattle.scan_cursor.specs.Walks.{view_at}
use Rattle.scan_cursor.proofs.EndLaws.{high_is, low_is}
use Rattle.oak_map.specs.Maps.{sizes}
use Rattle.oak_run.specs.Gathering.{GivesOn}
use Rattle.oak_run.proofs.GatherLaws.{if_both, scan_ends, scan_later, scan_own}
use Rattle.oak_run.proofs.scans.scan_pairs.Goals as goal

pub returns-clause-own : goal.returns-clause-own
returns-clause-own g c = let z = sizes c.args.map.now in let p = c.args.pass.now in let b = c.scan_of-cursor.result in let e = c.scan_of-cursor.ensures in let n = c.gather-pairs.new.cursor in let q = c.finish.new.self.1.0 in
    let all : StaysButSlots p q = scan_own z p q b n (ap table_sizes e.table) e.same c.gather-pairs.ensures.on c.finish.ensures.own in
    subst (λ (x : Pass). StaysButSlots p x) (search rules) all

pub returns-clause-later : goal.returns-clause-later
returns-clause-later g c = let z = sizes c.args.map.now in let p = c.args.pass.now in let b = c.scan_of-cursor.result in let e = c.scan_of-cursor.ensures in let n = c.gather-pairs.new.cursor in let q = c.finish.new.self.1.0 in
    let all : Later (view_at z p) (view_at z q) = scan_later z p q b n (ap table_sizes e.table) e.same c.gather-pairs.ensures.on c.finish.ensures.later in
    search (rules, all)

pub returns-clause-scanned : goal.returns-clause-scanned
returns-clause-scanned g c = let z = sizes c.args.map.now in let p = c.args.pass.now in let b = c.scan_of-cursor.result in let e = c.scan_of-cursor.ensures in let n = c.gather-pairs.new.cursor in let f = c.gather-pairs.ensures in let q = c.finish.new.self.1.0 in let r = c.gather-pairs.result in
    let low = c.args.low.now in let high = c.args.high.now in let way = c.args.way in
    let all : IfOk r (λ v. HasScanned way low high (view_at z p) (view_at z q) v.items) = if_both (λ v. n.walk.mark.ended ≡ true) (λ v. GivesOn b n [] v.items) (λ v. HasScanned way low high (view_at z p) (view_at z q) v.items) r
    (λ v over gives. scan_ends z p q b n (ap table_sizes e.table) e.same f.on way low high v.items e.way
    (low_is c.bytes_of.result b.low e.low ∙ ap least_of c.bytes_of.ensures.bytes) (high_is c.bytes_of-2.result b.high e.high ∙ ap greatest_of c.bytes_of-2.ensures.bytes)
    e.starts over gives c.finish.ensures.later c.finish.ensures.still) f.ended f.gives in
    search (rules, all)
