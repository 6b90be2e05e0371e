use Rattle.std.proofs.Common.{◌≡◌, ◌+◌, ◌*◌, length, min, refl, sym, ◌∙◌, ap, arith}
use Rattle.std.specs.Ordering.{nat_cmp}
use Rattle.std.specs.declared.cmp.Ordering.{Ordering}
use Rattle.chunk_core.specs.declared.holds.PinnedRoom.{PinnedRoom}
use Rattle.oak_model.specs.Key.{key_cmp}
use Rattle.oak_core.specs.Passes.{state, key, call_of}
use Rattle.arena_core.specs.Words.{word_at}
use Rattle.chunk_ops.specs.PinnedBounds.{bound_bytes}
use Rattle.chunk_ops.specs.PinRecords.{room_pin}
use Rattle.chunk_ops.proofs.BoundWords.{same_pin, word_step, lengths_end}
use Rattle.chunk_ops.proofs.OrderLaws.{padded_cmp, padded_decides, is_unequal, is_equal}
use Rattle.chunk_ops.proofs.MeetingCalls.{only_both, only_in}
use Rattle.chunk_ops.proofs.RoomTries.{pins_both}
use Rattle.chunk_ops.proofs.WordParts.{slice_bytes}
use Rattle.chunk_ops.proofs.ranges.compare_bound.Goals as goal
use Rattle.chunk_ops.proofs.ranges.compare_bound.Goals.{then-is_empty-via-then-is_empty, then-is_empty-via-else-is_empty+then-len-eq0}

pub returns-then-is_empty-clause-order : goal.returns-then-is_empty-clause-order
returns-then-is_empty-clause-order c =
    let zero : 0 ≡ min (length c.args.key.now) c.args.len = elim c.then-is_empty.branch [ then-is_empty-via-then-is_empty w ↦ (let e = w.if-is_empty in let i = c.is_empty.ensures in grind arith) | then-is_empty-via-else-is_empty+then-len-eq0 w ↦ (let e = w.if-len-eq0 in grind arith) ] in
    c.cmp.ensures ∙ sym (lengths_end (room_pin (state c.args.pass.now)) c.requires.pinned.bounds c.args.bound c.args.key.now 0 c.args.len 0 refl zero c.requires.long (omega arith))

pub returns-then-is_ne-clause-order : goal.returns-then-is_ne-clause-order
returns-then-is_ne-clause-order c = let v = state c.args.pass.now in let w = c.compare_word-first in let o : Ordering = w.result in
    let is : o ≡ padded_cmp (8 * 0 + 8) c.args.key.now (bound_bytes c.args.bound (room_pin v)) = word_step (room_pin v) c.requires.pinned.bounds c.args.bound c.args.key.now 0 o (slice_bytes c.args.key.now c.type_inv.key) refl w.ensures.order in
    sym (padded_decides (8 * 0 + 8) c.args.key.now (bound_bytes c.args.bound (room_pin v)) o (sym is) (is_unequal o (sym c.is_ne.ensures ∙ c.if-is_ne.true)))

pub compare_behind-requires-clause-first : goal.compare_behind-requires-clause-first
compare_behind-requires-clause-first c = let v = state c.args.pass.now in let w = c.compare_word-first in let o : Ordering = w.result in
    ap (λ (p : PinnedRoom). nat_cmp (word_at c.args.key.now 0) (word_at (bound_bytes c.args.bound p) 0)) (same_pin (call_of c.args.pass.now) v (state w.new.pass) w.ensures.only)
    ∙ (sym w.ensures.order ∙ is_equal o (sym c.is_ne.ensures ∙ c.if-is_ne.false))

pub returns-clause-order : goal.returns-clause-order
returns-clause-order c = let v = state c.args.pass.now in let w = c.compare_word-first in
    c.compare_behind.ensures.order ∙ ap (λ (p : PinnedRoom). key_cmp c.args.key.now (bound_bytes c.args.bound p)) (same_pin (call_of c.args.pass.now) v (state w.new.pass) w.ensures.only)

pub returns-clause-only : goal.returns-clause-only
returns-clause-only c = let call = call_of c.args.pass.now in let v = state c.args.pass.now in let w = c.compare_word-first in let x = state c.compare_behind.new.pass in
    only_both call v (state w.new.pass) x w.ensures.only (only_in call (call_of w.new.pass) (state w.new.pass) x w.ensures.own.call c.compare_behind.ensures.only)

pub returns-clause-tries : goal.returns-clause-tries
returns-clause-tries c = pins_both (key c.args.table.now) 0 0 c.args.pass.now c.compare_word-first.new.pass c.compare_behind.new.pass c.compare_word-first.ensures.tries c.compare_behind.ensures.tries
