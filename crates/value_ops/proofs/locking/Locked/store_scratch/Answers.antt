use Rattle.std.proofs.Common.{◌≡◌, ◌+◌, ◌*◌, ◌/◌, ◌%◌, ◌<◌, min, ℕ, List, length, get_or, refl, ap, ◌∙◌, subst, sym}
use Rattle.oak_model.specs.Limits.{Sizes}
use Rattle.header_core.specs.HeaderStep.{reworded}
use Rattle.arena_ops.proofs.PutWords.{puts_none, puts_more, puts_all}
use Rattle.oak_core.specs.Passes.{state, key, call_of, scratch_of}
use Rattle.oak_core.proofs.seats.SamePass.{stays_both}
use Rattle.arena_core.specs.Words.{word_at}
use Rattle.value_ops.proofs.ComesFurther.{comes_in}
use Rattle.value_ops.proofs.RewriteFacts.{as_long_fits, begins, has_words, word_inside, stored_more, all_stored, rewrites}
use Rattle.value_ops.proofs.locking.Locked.store_scratch.Goals as goal
use Rattle.arena_core.proofs.WordLaws.{words_at, word_of_loop, words_done}

pub loop-i-init : goal.loop-i-init
loop-i-init c = let z : Sizes = key c.args.table.now in let h = c.args.self.now.header in let g = c.args.self.now.generation in let v = state c.args.pass.now in let bytes = scratch_of c.args.pass.now in let is = c.requires.words in record {
  stays = record { table = refl; seat = refl; call = refl; scratch = refl; sorting = refl };
  stored = begins z h g c.args.first v is bytes (as_long_fits z h g c.args.first v is bytes c.requires.long) (call_of c.args.pass.now);
  alone = puts_none c.args.first bytes v;
}

-- the words are as many as the scratch has
of_scratch : (bytes xs : List ℕ) (n : ℕ) → n ≡ length xs / 8 + min 1 (length xs % 8) → xs ≡ bytes → n ≡ length bytes / 8 + min 1 (length bytes % 8)
of_scratch bytes xs n e same = e ∙ ap (λ (ys : List ℕ). length ys / 8 + min 1 (length ys % 8)) same

pub store_word-requires-clause-words : goal.store_word-requires-clause-words
store_word-requires-clause-words c = let z : Sizes = key c.args.table.now in let h = c.args.self.now.header in let g = c.args.self.now.generation in let v = state c.args.pass.now in let bytes = scratch_of c.args.pass.now in let is = c.requires.words in
    let i = c.loop-i.i in let n = c.div_ceil-i-end.result in let lt : 8 * i < length bytes = word_of_loop (length bytes) i n c.loop-i-test.true (of_scratch bytes c.bytes.result.now n c.div_ceil-i-end.ensures (c.bytes.ensures.bytes ∙ c.scratch.ensures)) in
    has_words z h g c.args.first v is bytes (as_long_fits z h g c.args.first v is bytes c.requires.long) (call_of c.args.pass.now) i lt (state c.loop-i.pass) c.loop-i.invariant.stored

pub store_word-requires-clause-inside : goal.store_word-requires-clause-inside
store_word-requires-clause-inside c = let z : Sizes = key c.args.table.now in let h = c.args.self.now.header in let g = c.args.self.now.generation in let v = state c.args.pass.now in let bytes = scratch_of c.args.pass.now in let is = c.requires.words in
    let i = c.loop-i.i in let n = c.div_ceil-i-end.result in let lt : 8 * i < length bytes = word_of_loop (length bytes) i n c.loop-i-test.true (of_scratch bytes c.bytes.result.now n c.div_ceil-i-end.ensures (c.bytes.ensures.bytes ∙ c.scratch.ensures)) in
    word_inside z h g c.args.first v is bytes (as_long_fits z h g c.args.first v is bytes c.requires.long) (call_of c.args.pass.now) i lt (state c.loop-i.pass) c.loop-i.invariant.stored

pub loop-i-preserved : goal.loop-i-preserved
loop-i-preserved c = let z : Sizes = key c.args.table.now in let h = c.args.self.now.header in let g = c.args.self.now.generation in let v = state c.args.pass.now in let u = state c.loop-i.pass in let w = state c.store_word.new.pass in let bytes = scratch_of c.args.pass.now in let is = c.requires.words in
    let s = c.loop-i.invariant in let o = c.store_word.ensures in let x = c.word_from-word.result in
    let i = c.loop-i.i in let n = c.div_ceil-i-end.result in let lt : 8 * i < length bytes = word_of_loop (length bytes) i n c.loop-i-test.true (of_scratch bytes c.bytes.result.now n c.div_ceil-i-end.ensures (c.bytes.ensures.bytes ∙ c.scratch.ensures)) in
    let same : c.bytes-in-loop-i.result.now ≡ bytes = c.bytes-in-loop-i.ensures.bytes ∙ (c.scratch-in-loop-i.ensures ∙ s.stays.scratch) in record {
      stays = stays_both s.stays o.own;
      stored = stored_more z h g c.args.first v is bytes (as_long_fits z h g c.args.first v is bytes c.requires.long) (call_of c.args.pass.now) i lt u s.stored x w (c.word_from-word.ensures ∙ (ap (λ (xs : List ℕ). word_at xs i) same ∙ sym (words_at bytes i lt)))
          (comes_in z (call_of c.args.pass.now) (call_of c.loop-i.pass) u.blocks.held (reworded h i x u.headers.held) u w s.stays.call o.stored);
      alone = puts_more c.args.first bytes i x v u w lt (c.word_from-word.ensures ∙ (ap (λ (xs : List ℕ). word_at xs i) same ∙ sym (words_at bytes i lt))) s.alone o.alone;
    }

pub returns-clause-stored : goal.returns-clause-stored
returns-clause-stored c = let z : Sizes = key c.args.table.now in let h = c.args.self.now.header in let g = c.args.self.now.generation in let v = state c.args.pass.now in let w = state c.loop-i.pass in let bytes = scratch_of c.args.pass.now in let is = c.requires.words in
    let fits = as_long_fits z h g c.args.first v is bytes c.requires.long in let n = c.div_ceil-i-end.result in let call = call_of c.args.pass.now in
    let same : c.bytes.result.now ≡ bytes = c.bytes.ensures.bytes ∙ c.scratch.ensures in
    rewrites z h g c.args.first v is bytes fits call w c.requires.long (subst (λ (xs : List ℕ). (k : ℕ) → get_or xs k 0 < 256) c.scratch.ensures c.bytes.ensures.small)
    (all_stored z h g c.args.first v is bytes fits call c.loop-i.i w (words_done bytes c.loop-i.i n c.loop-i.auto.i-end c.loop-i-test.false (of_scratch bytes c.bytes.result.now n c.div_ceil-i-end.ensures same)) c.loop-i.invariant.stored)

pub returns-clause-alone : goal.returns-clause-alone
returns-clause-alone c = let bytes = scratch_of c.args.pass.now in let n = c.div_ceil-i-end.result in
    puts_all c.args.first bytes c.loop-i.i n (state c.args.pass.now) (state c.loop-i.pass) c.loop-i.auto.i-end c.loop-i-test.false (of_scratch bytes c.bytes.result.now n c.div_ceil-i-end.ensures (c.bytes.ensures.bytes ∙ c.scratch.ensures)) c.loop-i.invariant.alone
