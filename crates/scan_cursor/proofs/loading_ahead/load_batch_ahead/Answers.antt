use Rattle.oak_core.specs.Passes.{key as sizes}
use Rattle.oak_model.specs.declared.limits.TheConstants.{GREATEST_ENTRIES}
use Rattle.scan_cursor.specs.declared.loading_ahead.TheConstants.{LONGER, SHORT}
use Rattle.scan_cursor.proofs.WordsAhead.{words_0}
use Rattle.scan_cursor.proofs.loading_ahead.load_batch_ahead.Goals as goal

pub load_slots_ahead-requires-clause-words : goal.load_slots_ahead-requires-clause-words
load_slots_ahead-requires-clause-words c = words_0 (sizes c.args.table.now) c.args.filled SHORT

pub load_slots_ahead-requires-then-filled-le-LONGER-clause-words : goal.load_slots_ahead-requires-then-filled-le-LONGER-clause-words
load_slots_ahead-requires-then-filled-le-LONGER-clause-words c = words_0 (sizes c.args.table.now) c.args.filled LONGER

pub load_slots_ahead-requires-else-filled-le-LONGER-clause-words : goal.load_slots_ahead-requires-else-filled-le-LONGER-clause-words
load_slots_ahead-requires-else-filled-le-LONGER-clause-words c = words_0 (sizes c.args.table.now) c.args.filled GREATEST_ENTRIES
