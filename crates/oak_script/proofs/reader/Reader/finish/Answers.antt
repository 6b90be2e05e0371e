use Rattle.std.proofs.Common.{arith}
use Rattle.oak_script.proofs.PastLemmas.{lines-few}
use Rattle.oak_script.proofs.EndLemmas.{no_line, ended_fine, unfinished}
use Rattle.oak_script.proofs.reader.Reader.finish.Goals as goal

pub told-requires : goal.told-requires
told-requires c = omega (arith, c.requires.count, lines-few c.args.self.stage c.args.self.calls c.requires.fit)

pub returns-in-Start-clause-exact : goal.returns-in-Start-clause-exact
returns-in-Start-clause-exact c = rw c.in-Start.is no_line

pub returns-in-Ended-clause-exact : goal.returns-in-Ended-clause-exact
returns-in-Ended-clause-exact c =
    let fine = rw c.in-Ended.is at c.requires.fine in
    rw c.in-Ended.is (ended_fine c.in-Ended.shape c.args.self.calls fine)

pub returns-in_default-clause-exact : goal.returns-in_default-clause-exact
returns-in_default-clause-exact c = unfinished c.args.self.stage c.args.self.calls c.told.result c.args.self.number c.in_default.not-Start c.in_default.not-Ended c.requires.count c.requires.fine c.told.ensures
