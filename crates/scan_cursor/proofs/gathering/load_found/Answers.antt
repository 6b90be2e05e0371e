use Rattle.std.proofs.Common.{◌≡◌, ◌∙◌, ℕ, List, ap, arith, get_or, refl}
use Rattle.arena_core.specs.Words.{word_at}
use Rattle.chunk_ops.specs.Stored.{key_words}
use Rattle.oak_model.specs.Counts.{rows}
use Rattle.chunk_ops.proofs.StoredLaws.{filled_all, filled_more, filled_none}
use Rattle.scan_cursor.proofs.gathering.load_found.Goals as goal

first_word : (q : List ℕ) → get_or (key_words q) 0 0 ≡ word_at q 0
unfolding rows
first_word q = refl

pub load_known-requires-clause-key : goal.load_known-requires-clause-key
load_known-requires-clause-key c = λ q h. let t = c.requires.key q h in let stored = t.0 in let l = stored.long in let parts = c.parts-length.ensures in let short = c.if-length-le-WORD.true in
    let long : c.parts-length.result.0 ≡ c.args.key.now.length = (λ j. (parts j).0) in
    let first : get_or c.parts-length.result.1 0 0 ≡ word_at q 0 = (λ j. get_or ((parts j).1) 0 0) ∙ ((λ j. get_or (stored.words j) 0 0) ∙ first_word q) in (
      record {
        words = ap (λ k. k.words) c.from_words-short.ensures ∙ filled_all q _ 1 (filled_more q _ 0 _ (filled_none q) (omega arith) first) (omega arith);
        long = ap (λ k. k.length) c.from_words-short.ensures ∙ (long ∙ stored.long);
        few = stored.few;
        bytes = stored.bytes;
      },
      t.1,
    )
