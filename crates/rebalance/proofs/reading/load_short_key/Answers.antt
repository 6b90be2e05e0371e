use Rattle.std.proofs.Common.{◌≡◌, ℕ, ◌-◌, ◌*◌, List, length, take, ap, sym, ◌∙◌, subst, arith}
use Rattle.oak_model.specs.WordBytes.{word_bytes}
use Rattle.arena_core.specs.Words.{word_of}
use Rattle.chunk_ops.specs.Stored.{IsStored}
use Rattle.chunk_ops.proofs.StoredLaws.{filled_none, filled_more, filled_all}
use Rattle.rebalance.proofs.reading.load_short_key.Goals as goal

pub block_word-requires-clause-within : goal.block_word-requires-clause-within
block_word-requires-clause-within g c = let is = g.met.H.HeldRooms.is_key c.args.rooms.now c.args.place c.requires.named in let some = is.key.0 in omega arith

pub first_bytes-word-requires : goal.first_bytes-word-requires
first_bytes-word-requires g c = let is = g.met.H.HeldRooms.is_key c.args.rooms.now c.args.place c.requires.named in let some = is.key.0 in let l = is.long in let n = c.length_in-length.ensures.is in omega arith

pub returns-clause-key : goal.returns-clause-key
returns-clause-key g c = let k : List ℕ = g.H.HeldRooms.keys c.args.rooms.now c.args.place in let is = g.met.H.HeldRooms.is_key c.args.rooms.now c.args.place c.requires.named in
    let long : c.length_in-length.result ≡ length k = c.length_in-length.ensures.is ∙ is.long in let short = c.requires.short in let n = c.length_in-length.ensures.is in let some = is.key.0 in
    let first : c.first_bytes-word.result ≡ word_of (take (length k - 8 * 0) (word_bytes c.block_word.result)) = c.first_bytes-word.ensures ∙ ap (λ (m : ℕ). word_of (take m (word_bytes c.block_word.result))) (let e : c.length_in-length.result ≡ length k - 8 * 0 = omega arith in e) in
    subst (λ x. IsStored x k) (sym c.from_words.ensures) (record { words = filled_all k _ 1 (filled_more k _ 0 c.first_bytes-word.result (filled_none k) (omega arith) (first ∙ ap word_of c.block_word.ensures.bytes)) (omega arith); long = long; few = is.key.1; bytes = is.bytes })
