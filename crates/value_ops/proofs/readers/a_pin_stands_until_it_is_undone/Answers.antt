use Rattle.value_ops.proofs.StandingPins.{schedule_stands}
use Rattle.value_ops.proofs.readers.a_pin_stands_until_it_is_undone.Goals as goal

pub returns : goal.returns
returns c = schedule_stands
