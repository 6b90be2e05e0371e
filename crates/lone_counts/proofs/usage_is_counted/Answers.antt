use Rattle.lone_counts.proofs.TableCounts.{used_blocks_are, used_headers_are}
use Rattle.lone_counts.proofs.usage_is_counted.Goals as goal

pub returns-clause-blocks : goal.returns-clause-blocks
returns-clause-blocks c = used_blocks_are

pub returns-clause-headers : goal.returns-clause-headers
returns-clause-headers c = used_headers_are
