use Rattle.lone_counts.proofs.TableCounts.{blocks_exactly, blocks_fit}
use Rattle.lone_counts.proofs.blocks_are_counted.Goals as goal

pub returns-clause-fits : goal.returns-clause-fits
returns-clause-fits c = blocks_fit

pub returns-clause-exactly : goal.returns-clause-exactly
returns-clause-exactly c = blocks_exactly
