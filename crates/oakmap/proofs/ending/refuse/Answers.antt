use Rattle.std.proofs.Common.{◌∙◌, refl}
use Rattle.oakmap.proofs.ending.refuse.Goals as goal

pub returns-in-Ok : goal.returns-in-Ok
returns-in-Ok g c = λ input counts is. ((c.args.fault, is, rw (c.as_bytes.ensures.value ∙ c.in-Ok.ensures) at c.say.ensures), refl)
