use Rattle.oakmap.proofs.TextLength.{accepted, refused}
use Rattle.oakmap.proofs.lengths.length_limit.Goals as goal

pub returns-clause-accepted : goal.returns-clause-accepted
returns-clause-accepted c = accepted

pub returns-clause-refused : goal.returns-clause-refused
returns-clause-refused c = refused
