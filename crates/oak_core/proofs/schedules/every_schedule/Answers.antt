use Rattle.std.proofs.Common.{arith}
use Rattle.oak_core.specs.Schedule.{opening}
use Rattle.oak_core.proofs.covers.BasesRise.{bases_rise}
use Rattle.oak_core.proofs.kinds.EachEvent.{schedule_keeps}
use Rattle.oak_core.proofs.covers.HeldAlone.{held_alone}
use Rattle.oak_core.proofs.openings.Opening.{opening_rule}
use Rattle.oak_core.proofs.covers.Rebalances.{rebalance_keys, held_dud}
use Rattle.oak_core.proofs.openings.SinceOpening.{at_opening}
use Rattle.oak_core.proofs.schedules.every_schedule.Goals as goal

pub returns-clause-from_any_state : goal.returns-clause-from_any_state
returns-clause-from_any_state c z s t rule events run = schedule_keeps z events s t run rule

pub returns-clause-from_the_opening : goal.returns-clause-from_the_opening
returns-clause-from_the_opening c z is g lt events s run = schedule_keeps z events (opening z g) s run (opening_rule z g is (omega arith))

pub returns-clause-opened : goal.returns-clause-opened
returns-clause-opened c z is g lt events s run = at_opening z is g (omega arith) events s run

pub returns-clause-rebalances : goal.returns-clause-rebalances
returns-clause-rebalances c z s t seat call x is g = rebalance_keys z s t seat call x is g

pub returns-clause-held : goal.returns-clause-held
returns-clause-held c z s t rule e g = held_alone z s t rule e g

pub returns-clause-duds : goal.returns-clause-duds
returns-clause-duds c z s t seat call r g held = held_dud z s t seat call r g held

pub returns-clause-bases : goal.returns-clause-bases
returns-clause-bases c z s t rule e g = bases_rise z s t rule e g
