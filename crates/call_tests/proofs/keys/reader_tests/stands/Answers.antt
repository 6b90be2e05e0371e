use Rattle.std.proofs.Common.{ℕ, subst}
use Rattle.oak_core.specs.Passes.{state, call_of}
use Rattle.point_ops.specs.TestStates.{IsReadyAgain}
use Rattle.point_ops.proofs.TestLaws.{again_both}
use Rattle.call_tests.proofs.keys.reader_tests.stands.Goals as goal

pub returns-clause-ready : goal.returns-clause-ready
returns-clause-ready g c = let v = state c.args.other.now in let u = state c.put_byte-busy.new.pass in let w = state c.gets-seen.new.pass in
    subst (λ (n : ℕ). IsReadyAgain n v w) c.put_byte-busy.ensures.call (again_both 2 (call_of c.put_byte-busy.new.pass) v u w c.put_byte-busy.ensures.ready c.gets-seen.ensures.ready)
