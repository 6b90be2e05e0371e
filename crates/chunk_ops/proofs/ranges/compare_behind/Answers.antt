use Rattle.std.proofs.Common.{◌≡◌, ℕ, ◌+◌, ◌*◌, refl, sym, ◌∙◌, ap, arith, rules}
use Rattle.std.specs.declared.cmp.Ordering.{Ordering}
use Rattle.std.specs.declared.cmp.Ordering.TheVariants.{Equal}
use Rattle.oak_core.specs.Passes.{state, key, call_of}
use Rattle.oak_core.proofs.seats.SamePass.{stays_both}
use Rattle.chunk_ops.specs.PinnedBounds.{bound_bytes}
use Rattle.chunk_ops.specs.PinRecords.{room_pin}
use Rattle.chunk_ops.proofs.BoundWords.{later_step, lengths_end, word_step}
use Rattle.chunk_ops.proofs.OrderLaws.{padded_cmp, padded_decides, is_unequal, is_equal}
use Rattle.chunk_ops.proofs.MeetingCalls.{only_both, only_in, only_none}
use Rattle.chunk_ops.proofs.RoomTries.{pins_both, pins_none}
use Rattle.chunk_ops.proofs.WordParts.{slice_bytes}
use Rattle.chunk_ops.proofs.ranges.compare_behind.Goals as goal

pub loop-i-init : goal.loop-i-init
loop-i-init c = let v = state c.args.pass.now in
    let is : Equal ≡ padded_cmp (8 * 0 + 8) c.args.key.now (bound_bytes c.args.bound (room_pin v)) = word_step (room_pin v) c.requires.pinned.bounds c.args.bound c.args.key.now 0 Equal (slice_bytes c.args.key.now c.type_inv.key) refl (sym c.requires.first) in record {
      stays = search rules;
      tries = pins_none (key c.args.table.now) c.args.pass.now;
      only = only_none (call_of c.args.pass.now) v;
      tied = sym is;
    }

pub loop-i-preserved : goal.loop-i-preserved
loop-i-preserved c = let i = c.loop-i.invariant in let w = c.compare_word-order in let k = c.loop-i.i in let o : Ordering = w.result in let call = call_of c.args.pass.now in let v = state c.args.pass.now in
    let o_is : o ≡ padded_cmp (8 * k + 8) c.args.key.now (bound_bytes c.args.bound (room_pin v)) = later_step call v (state c.loop-i.pass) i.only c.requires.pinned.bounds c.args.bound c.args.key.now k o (slice_bytes c.args.key.now c.type_inv.key) i.tied w.ensures.order in record {
      stays = stays_both i.stays w.ensures.own;
      tries = pins_both (key c.args.table.now) 0 0 c.args.pass.now c.loop-i.pass w.new.pass i.tries w.ensures.tries;
      only = only_both call v (state c.loop-i.pass) (state w.new.pass) i.only (only_in call (call_of c.loop-i.pass) (state c.loop-i.pass) (state w.new.pass) i.stays.call w.ensures.only);
      tied = ap (λ (n : ℕ). padded_cmp n c.args.key.now (bound_bytes c.args.bound (room_pin v))) (let e : 8 * (k + 1) ≡ 8 * k + 8 = omega arith in e) ∙ (sym o_is ∙ is_equal o (sym c.is_ne.ensures ∙ c.if-is_ne.false));
    }

pub returns-then-is_ne-clause-order : goal.returns-then-is_ne-clause-order
returns-then-is_ne-clause-order c = let i = c.loop-i.invariant in let w = c.compare_word-order in let k = c.loop-i.i in let o : Ordering = w.result in let call = call_of c.args.pass.now in let v = state c.args.pass.now in
    let o_is : o ≡ padded_cmp (8 * k + 8) c.args.key.now (bound_bytes c.args.bound (room_pin v)) = later_step call v (state c.loop-i.pass) i.only c.requires.pinned.bounds c.args.bound c.args.key.now k o (slice_bytes c.args.key.now c.type_inv.key) i.tied w.ensures.order in
    sym (padded_decides (8 * k + 8) c.args.key.now (bound_bytes c.args.bound (room_pin v)) o (sym o_is) (is_unequal o (sym c.is_ne.ensures ∙ c.if-is_ne.true)))

pub returns-then-is_ne-clause-only : goal.returns-then-is_ne-clause-only
returns-then-is_ne-clause-only c = let i = c.loop-i.invariant in let w = c.compare_word-order in let call = call_of c.args.pass.now in let v = state c.args.pass.now in
    only_both call v (state c.loop-i.pass) (state w.new.pass) i.only (only_in call (call_of c.loop-i.pass) (state c.loop-i.pass) (state w.new.pass) i.stays.call w.ensures.only)

pub returns-clause-order : goal.returns-clause-order
returns-clause-order c = let i = c.loop-i.invariant in let d = c.div_ceil-i-end.ensures in let f = c.loop-i-test.false in
    c.cmp.ensures ∙ sym (lengths_end (room_pin (state c.args.pass.now)) c.requires.pinned.bounds c.args.bound c.args.key.now c.loop-i.i c.args.len c.min.result i.tied c.min.ensures c.requires.long (omega arith))

pub returns-then-is_ne-clause-tries : goal.returns-then-is_ne-clause-tries
returns-then-is_ne-clause-tries c = pins_both (key c.args.table.now) 0 0 c.args.pass.now c.loop-i.pass c.compare_word-order.new.pass c.loop-i.invariant.tries c.compare_word-order.ensures.tries
