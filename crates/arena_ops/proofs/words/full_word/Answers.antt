use Rattle.std.proofs.Common.{◌≡◌, ℕ, ◌+◌, ◌-◌, ◌*◌, take, drop, sym, ap, ◌∙◌, arith, w64}
use Rattle.std.specs.Int.{from_be_bytes}
use Rattle.arena_core.specs.Words.{bytes_in, word_of}
use Rattle.arena_core.proofs.WordLaws.{whole_long, filled_whole}
use Rattle.arena_ops.proofs.words.full_word.Goals as goal

pub returns : goal.returns
unfolding word_of
returns c = let i = c.args.i in let bytes = c.args.bytes.now in
    c.from_be_bytes.ensures ∙ (ap (from_be_bytes w64) (c.copy_from_slice.ensures.after ∙ ap (λ (j : ℕ). take j (drop (8 * i) bytes)) (let e : 8 * i + 8 - 8 * i ≡ 8 = omega arith in e))
    ∙ ap (from_be_bytes w64) (sym (filled_whole (bytes_in i bytes) (whole_long bytes i c.requires))))
