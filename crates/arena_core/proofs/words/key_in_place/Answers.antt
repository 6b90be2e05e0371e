use Rattle.std.proofs.Common.{◌≡◌, ℕ, ◌*◌, ◌+◌, ◌/◌, ◌<◌, ◌++◌, List, length, get_or, take, replicate, sym, ap, ◌∙◌, arith}
use Rattle.std.proofs.lemmas.List.{length-append, get_or_append_left}
use Rattle.oak_model.specs.declared.limits.TheConstants.{GREATEST_KEY}
use Rattle.arena_core.specs.Words.{words_of}
use Rattle.arena_core.proofs.WordLaws.{all_copied, put_more, word_of_loop, words_all, words_at, words_long}
use Rattle.arena_core.proofs.words.key_in_place.Goals as goal

pub loop-i-preserved : goal.loop-i-preserved
loop-i-preserved c = let key : List ℕ = c.args.key.now in let i : ℕ = c.loop-i.i in let s = c.loop-i.invariant in let ws : List ℕ = words_of key ++ replicate 8 0 in let few = c.requires in
    let inside : 8 * i < length key = word_of_loop (length key) i c.div_ceil-i-end.result c.loop-i-test.true c.div_ceil-i-end.ensures in
    let n : ℕ = length (words_of key) in let many : n ≡ (length key + 7) / 8 = words_long key in let wide : length ws ≡ n + 8 = length-append (words_of key) (replicate 8 0) in record {
      long = c.put_word.auto.out ∙ s.long;
      copied = put_more ws c.loop-i.bytes c.put_word.new.out GREATEST_KEY i c.word_from.result s.long (omega arith) (omega arith)
          (c.word_from.ensures ∙ (sym (words_at key i inside) ∙ sym (get_or_append_left (words_of key) (replicate 8 0) 0 i (omega arith)))) s.copied c.put_word.ensures.put;
    }

pub returns : goal.returns
returns c = let key : List ℕ = c.args.key.now in all_copied key (replicate 8 0) c.loop-i.bytes GREATEST_KEY c.loop-i.i (λ k. (c.type_inv.key k).fits) c.requires
    (let e = words_all (length key) c.div_ceil-i-end.result c.div_ceil-i-end.ensures in let h = c.loop-i-test.false in omega arith) c.loop-i.invariant.copied
