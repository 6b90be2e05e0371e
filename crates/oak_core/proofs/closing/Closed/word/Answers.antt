use Rattle.oak_core.specs.Closing.{closed_words}
use Rattle.oak_core.proofs.memory.UsedWords.{read_at}
use Rattle.oak_core.proofs.closing.Closed.word.Goals as goal

pub returns : goal.returns
returns c = read_at (closed_words c.args.self.now) c.args.i c.word.result c.word.ensures
