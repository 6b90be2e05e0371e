use Rattle.std.proofs.Common.{rules, subst}
use Rattle.oak_core.specs.declared.states.PassState.{PassState}
use Rattle.oak_core.specs.declared.table.Pass.{Pass}
use Rattle.oak_core.specs.Passes.{state as table_state}
use Rattle.oak_core.specs.QuietSteps.{IsQuiet, Quiet}
use Rattle.oak_core.proofs.calls.QuietCalls.{only_both}
use Rattle.scan_cursor.specs.Cursors.{under}
use Rattle.map_tests.proofs.map.lending_tests.collects.Goals as goal

-- the whole scan was quiet
pub returns-clause-quiet : goal.returns-clause-quiet
returns-clause-quiet g c = let v = table_state c.args.pass.now in let t = under c.next_all.new.cursor in let w = table_state c.finish.new.self.1.0 in
    let given : Quiet v t = subst (λ (p : Pass). Quiet (table_state p) t) c.scan_of-cursor.ensures.same c.next_all.ensures.quiet in
    subst (λ (y : PassState). Quiet v y) (search rules) (only_both IsQuiet v t w given c.finish.ensures.later.quiet)
