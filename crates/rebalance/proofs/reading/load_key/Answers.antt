use Rattle.std.proofs.Common.{◌≡◌, length, sym, ◌∙◌, subst, arith}
use Rattle.chunk_ops.specs.Stored.{IsStored}
use Rattle.chunk_ops.proofs.StoredLaws.{filled_all}
use Rattle.rebalance.proofs.reading.load_key.Goals as goal

pub returns-clause-key : goal.returns-clause-key
returns-clause-key g c = let k = g.H.HeldRooms.keys c.args.rooms.now c.args.place in let is = g.met.H.HeldRooms.is_key c.args.rooms.now c.args.place c.requires in let d = c.div_ceil-i-end.ensures in let t = c.loop-i-test.false in
    let long : c.length_in-length.result ≡ length k = c.length_in-length.ensures.is ∙ is.long in
    subst (λ x. IsStored x k) (sym c.from_words.ensures) (record { words = filled_all k c.loop-i.words c.loop-i.i c.loop-i.invariant.words (omega arith); long = long; few = is.key.1; bytes = is.bytes })
