use Rattle.oakmap.proofs.Ends.{read_ends}
use Rattle.oakmap.proofs.ending.run_input.Goals as goal

pub returns : goal.returns
returns g c = read_ends c.answer.result _ _ _ _ c.in-Ok.text.items _ _ c.in-Ok.ensures.bytes (rw c.deref.ensures.value at c.answer.ensures)
