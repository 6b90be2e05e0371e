use Rattle.std.proofs.Common.{arith}
use Rattle.oak_model.specs.Limits.{Sizes}
use Rattle.oak_core.specs.Passes.{state, key as sizes, call_of}
use Rattle.scan_cursor.proofs.BatchStarts.{found_before, starts_up, steps_in}
use Rattle.scan_cursor.proofs.gathering.start_up.Goals as goal

pub next_entry-first-requires-clause-from : goal.next_entry-first-requires-clause-from
next_entry-first-requires-clause-from c = let z : Sizes = sizes c.args.table.now in
    found_before z c.args.pin.now.room c.args.key.now (state c.prefix_below-below.new.pass) c.prefix_below-below.result 1 c.prefix_below-below.ensures.splits (omega arith) c.before-from.result c.before-from.ensures

pub returns-clause-starts : goal.returns-clause-starts
returns-clause-starts c = let z : Sizes = sizes c.args.table.now in let r = c.args.pin.now.room in let call = call_of c.args.pass.now in let b = c.prefix_below-below.ensures in let n = c.next_entry-first.ensures in
    starts_up z call r c.args.key.now (state c.args.pass.now) (state c.prefix_below-below.new.pass) record { under = b.under; quiet = b.quiet; still = b.still } c.requires.ahead c.prefix_below-below.result b.splits c.before-from.result c.before-from.ensures c.next_entry-first.result (state c.next_entry-first.new.pass)
    (steps_in z call (call_of c.prefix_below-below.new.pass) r c.before-from.result c.next_entry-first.result (state c.prefix_below-below.new.pass) (state c.next_entry-first.new.pass) b.own.call n.steps)
