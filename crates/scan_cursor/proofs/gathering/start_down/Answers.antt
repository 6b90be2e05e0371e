use Rattle.std.proofs.Common.{Some, None, subst}
use Rattle.oak_model.specs.Limits.{Sizes}
use Rattle.std.proofs.Common.{List, ℕ, arith, sym}
use Rattle.oak_core.specs.Passes.{state, key as sizes, call_of}
use Rattle.scan_cursor.specs.declared.ways.Way.TheVariants.{Down}
use Rattle.scan_cursor.specs.Batches.{Starts}
use Rattle.scan_cursor.proofs.BatchStarts.{some_below, starts_at, starts_first, steps_in}
use Rattle.chunk_ops.proofs.MeetingCalls.{only_in}
use Rattle.scan_cursor.proofs.gathering.start_down.Goals as goal

pub entry_key-least-requires-clause-entry : goal.entry_key-least-requires-clause-entry
entry_key-least-requires-clause-entry c = let z : Sizes = sizes c.args.table.now in let t = some_below z c.args.pin.now.room c.args.key.now (state c.prefix_below-below.new.pass) c.prefix_below-below.result c.args.many c.requires.some c.prefix_below-below.ensures.splits c.in-Some.entry c.in-Some.ensures in (t.0, t.1)

pub of-bound-requires : goal.of-bound-requires
of-bound-requires c = let z : Sizes = sizes c.args.table.now in let t = some_below z c.args.pin.now.room c.args.key.now (state c.prefix_below-below.new.pass) c.prefix_below-below.result c.args.many c.requires.some c.prefix_below-below.ensures.splits c.in-Some.entry c.in-Some.ensures in
    let k = (c.entry_key-least.ensures.key t.0 t.1).0 in let l = k.long in let f = k.few in omega arith

pub returns-in-Some-clause-starts : goal.returns-in-Some-clause-starts
returns-in-Some-clause-starts c = let z : Sizes = sizes c.args.table.now in let r = c.args.pin.now.room in let call = call_of c.args.pass.now in let b = c.prefix_below-below.ensures in let k = c.args.key.now in let v = state c.args.pass.now in let w = state c.prefix_below-below.new.pass in let u = state c.entry_key-least.new.pass in
    let t = some_below z r k w c.prefix_below-below.result c.args.many c.requires.some b.splits c.in-Some.entry c.in-Some.ensures in
    let stored = (c.entry_key-least.ensures.key t.0 t.1).0 in
    subst (λ (q : List ℕ). Starts z call r Down k (Some q) (Some c.in-Some.entry) v u) (sym (c.of-bound.ensures t.0 stored))
    (starts_at z call r k v w record { under = b.under; quiet = b.quiet; still = b.still } c.requires.ahead c.in-Some.entry t.0 t.1 t.2 t.3 u (only_in call (call_of c.prefix_below-below.new.pass) w u b.own.call c.entry_key-least.ensures.only))

pub returns-in-None-clause-starts : goal.returns-in-None-clause-starts
returns-in-None-clause-starts c = let z : Sizes = sizes c.args.table.now in let r = c.args.pin.now.room in let call = call_of c.args.pass.now in let b = c.prefix_below-below.ensures in let w = state c.prefix_below-below.new.pass in let u = state c.next_entry-first.new.pass in
    starts_first z call r c.args.key.now (state c.args.pass.now) w record { under = b.under; quiet = b.quiet; still = b.still } c.requires.ahead c.next_entry-first.result u
    (steps_in z call (call_of c.prefix_below-below.new.pass) r None c.next_entry-first.result w u b.own.call c.next_entry-first.ensures.steps)
