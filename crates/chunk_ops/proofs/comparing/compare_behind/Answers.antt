use Rattle.std.proofs.Common.{◌≡◌, ◌+◌, ◌*◌, length, sym, ◌∙◌, arith}
use Rattle.std.specs.declared.cmp.Ordering.{Ordering}
use Rattle.chunk_ops.specs.Room.{Room, key_at}
use Rattle.chunk_ops.proofs.CompareFacts.{slice_bytes, stored_long, words_order, agree_more, tied_words, order_step, lengths_last}
use Rattle.chunk_ops.proofs.OrderLaws.{padded_cmp, padded_decides, is_unequal, is_equal}
use Rattle.chunk_ops.proofs.ReadLaws.{loaded_more, loaded_key}
use Rattle.chunk_ops.proofs.comparing.compare_behind.Goals as goal

pub loop-i-preserved : goal.loop-i-preserved
loop-i-preserved g c = let w = c.compare_word-order in let i = c.loop-i.invariant in let r : Room = g.R.SearchedRoom.room c.args.room.now in let k = c.loop-i.i in let o : Ordering = w.result in record {
  pin = w.ensures.pinned;
  same = w.ensures.same ∙ i.same;
  agree = λ e h p t. agree_more c.args.key.now (key_at r e) k (i.agree e h p t)
      (sym (words_order r e c.args.place (g.met.R.SearchedRoom.is_room c.args.room.now c.requires.pinned) h p c.args.key.now k (g.R.SearchedRoom.room c.loop-i.room) o i.same w.ensures.order)
      ∙ is_equal o (sym c.is_ne.ensures ∙ c.if-is_ne.false));
  words = λ s e l. loaded_more g.met.R.SearchedRoom.meets_both e c.args.place k s c.loop-i.room w.new.room (i.words s e l) w.ensures.meets;
}

pub returns-then-is_ne-clause-order : goal.returns-then-is_ne-clause-order
returns-then-is_ne-clause-order g c e h p t = let w = c.compare_word-order in let i = c.loop-i.invariant in let r : Room = g.R.SearchedRoom.room c.args.room.now in let k = c.loop-i.i in let o : Ordering = w.result in
    let is = g.met.R.SearchedRoom.is_room c.args.room.now c.requires.pinned in let bytes = slice_bytes c.args.key.now c.type_inv.key in
    let o_is : o ≡ padded_cmp (8 * k + 8) c.args.key.now (key_at r e) = order_step r e c.args.place is h p c.args.key.now k (g.R.SearchedRoom.room c.loop-i.room) o bytes i.same
    (tied_words c.args.key.now (key_at r e) k bytes (is.bytes e h) (i.agree e h p t)) w.ensures.order in
    sym (padded_decides (8 * k + 8) c.args.key.now (key_at r e) o (sym o_is) (is_unequal o (sym c.is_ne.ensures ∙ c.if-is_ne.true)))

pub returns-then-is_ne-clause-loads : goal.returns-then-is_ne-clause-loads
returns-then-is_ne-clause-loads g c s e h p t l = let w = c.compare_word-order in let i = c.loop-i.invariant in let r : Room = g.R.SearchedRoom.room c.args.room.now in let k = c.loop-i.i in
    let long : c.length_in-length.result ≡ length (key_at r e) = c.length_in-length.ensures.is ∙ stored_long r e c.args.place (g.met.R.SearchedRoom.is_room c.args.room.now c.requires.pinned) h p in
    let m = c.min.ensures in let d = c.div_ceil-i-end.ensures in let b = c.loop-i-test.true in
    loaded_key g.R.SearchedRoom.meets e c.args.place (k + 1) k c.args.key.now (key_at r e) s w.new.room
    (loaded_more g.met.R.SearchedRoom.meets_both e c.args.place k s c.loop-i.room w.new.room (i.words s e l) w.ensures.meets) (omega arith) (omega arith) (i.agree e h p t) (omega arith)

pub returns-clause-order : goal.returns-clause-order
returns-clause-order g c e h p t = let i = c.loop-i.invariant in let r : Room = g.R.SearchedRoom.room c.args.room.now in let k = c.loop-i.i in
    let is = g.met.R.SearchedRoom.is_room c.args.room.now c.requires.pinned in let bytes = slice_bytes c.args.key.now c.type_inv.key in
    let long : c.length_in-length.result ≡ length (key_at r e) = c.length_in-length.ensures.is ∙ stored_long r e c.args.place is h p in
    let d = c.div_ceil-i-end.ensures in let f = c.loop-i-test.false in
    c.cmp.ensures ∙ sym (lengths_last c.args.key.now (key_at r e) k c.length_in-length.result c.min.result (tied_words c.args.key.now (key_at r e) k bytes (is.bytes e h) (i.agree e h p t)) c.min.ensures long (omega arith))

pub returns-clause-loads : goal.returns-clause-loads
returns-clause-loads g c s e h p t l = let i = c.loop-i.invariant in let r : Room = g.R.SearchedRoom.room c.args.room.now in let k = c.loop-i.i in
    let long : c.length_in-length.result ≡ length (key_at r e) = c.length_in-length.ensures.is ∙ stored_long r e c.args.place (g.met.R.SearchedRoom.is_room c.args.room.now c.requires.pinned) h p in
    let m = c.min.ensures in let d = c.div_ceil-i-end.ensures in let u = c.loop-i.auto.i-end in let f = t.first in let g2 = t.second in
    loaded_key g.R.SearchedRoom.meets e c.args.place k k c.args.key.now (key_at r e) s c.loop-i.room (i.words s e l) (grind arith) (grind arith) (i.agree e h p t) (omega arith)
