use Rattle.std.proofs.Common.{arith}
use Rattle.oak_core.specs.Schedule.{opening}
use Rattle.oak_core.proofs.kinds.EachEvent.{schedule_keeps}
use Rattle.oak_core.proofs.openings.Opening.{opening_rule}
use Rattle.value_ops.proofs.StandingPins.{block_kept}
use Rattle.value_ops.proofs.readers.no_block_changes_under_a_reader.Goals as goal

pub returns-clause-from_any_state : goal.returns-clause-from_any_state
returns-clause-from_any_state c z s t rule events run seat p at good = block_kept z t (schedule_keeps z events s t run rule) seat p at good

pub returns-clause-from_the_opening : goal.returns-clause-from_the_opening
returns-clause-from_the_opening c z is g lt events s run seat p at good = block_kept z s (schedule_keeps z events (opening z g) s run (opening_rule z g is (omega arith))) seat p at good
