use Rattle.oak_core.specs.Passes.{state, key as sizes, call_of}
use Rattle.call_tests.proofs.TestLaws.{pinned_ready}
use Rattle.call_tests.proofs.rebalancing.linked_tests.is_found.Goals as goal

pub returns-clause-ready : goal.returns-clause-ready
returns-clause-ready g c = pinned_ready (sizes c.args.table.now) (call_of c.args.pass.now) (call_of c.pin_for.new.pass) (call_of c.find-found.new.pass) c.in-Ok.pin.room _ (state c.args.pass.now) (state c.pin_for.new.pass) (state c.find-found.new.pass) (state c.unpin.new.pass) c.in-Ok.ensures.pinned c.find-found.ensures.under c.unpin.ensures.unpinned c.requires.ready
