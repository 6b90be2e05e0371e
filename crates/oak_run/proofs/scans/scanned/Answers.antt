use Rattle.std.proofs.Common.{rules, subst}
use Rattle.std.specs.Prelude.{IfOk}
use Rattle.oak_core.specs.declared.states.PassState.{PassState}
use Rattle.oak_core.specs.declared.table.Pass.{Pass}
use Rattle.oak_core.specs.CallSteps.{Learns}
use Rattle.oak_core.specs.Passes.{call_of as table_call, state as table_state}
use Rattle.scan_cursor.specs.Scanned.{HasScanned}
use Rattle.scan_cursor.specs.Walks.{view_at}
use Rattle.oak_map.specs.Maps.{call_of, pass_of, sizes, state}
use Rattle.oak_run.proofs.scans.scanned.Goals as goal

pub returns-clause-learns : goal.returns-clause-learns
returns-clause-learns g c = let m = c.args.pass.now in let w = table_state c.scan_pairs.new.pass in
    let all : Learns (call_of m) (state m) w = subst (λ (x : Pass). Learns (table_call x) (table_state x) w) c.pass_mut.ensures.pass c.scan_pairs.ensures.later.learns in
    subst (λ (x : PassState). Learns (call_of m) (state m) x) (search rules) all

pub returns-clause-scanned : goal.returns-clause-scanned
returns-clause-scanned g c = let z = sizes c.args.map.now in let m = c.args.pass.now in let q = c.scan_pairs.new.pass in let r = c.scan_pairs.result in let low = c.args.low.now in let high = c.args.high.now in let way = c.args.way in
    let all : IfOk r (λ v. HasScanned way low high (view_at z (pass_of m)) (view_at z q) v.items) = subst (λ (x : Pass). IfOk r (λ v. HasScanned way low high (view_at z x) (view_at z q) v.items)) c.pass_mut.ensures.pass c.scan_pairs.ensures.scanned in
    search (rules, all)
