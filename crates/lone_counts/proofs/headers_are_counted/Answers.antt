use Rattle.lone_counts.proofs.TableCounts.{headers_exactly}
use Rattle.lone_counts.proofs.headers_are_counted.Goals as goal

pub returns : goal.returns
returns c = headers_exactly
