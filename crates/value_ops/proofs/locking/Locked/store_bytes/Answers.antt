use Rattle.std.proofs.Common.{◌≡◌, ◌+◌, ◌*◌, ◌/◌, ◌<◌, ℕ, length, refl, sym, subst, ◌∙◌, arith}
use Rattle.oak_model.specs.Limits.{Sizes}
use Rattle.header_core.specs.HeaderStep.{reworded}
use Rattle.arena_ops.proofs.PutWords.{PutsSome, puts_none, puts_more, puts_whole}
use Rattle.oak_core.specs.AloneWords.{Runs}
use Rattle.oak_core.specs.Passes.{state, key, call_of}
use Rattle.oak_core.proofs.seats.SamePass.{stays_both}
use Rattle.value_ops.proofs.ComesFurther.{comes_in}
use Rattle.value_ops.proofs.RewriteFacts.{StoredSoFar, begins, has_words, word_inside, stored_more, all_stored}
use Rattle.value_ops.proofs.locking.Locked.store_bytes.Goals as goal
use Rattle.arena_core.proofs.WordLaws.{words_at, words_long}

pub loop-i-init : goal.loop-i-init
loop-i-init c = let v = state c.args.pass.now in record {
  stays = record { table = refl; seat = refl; call = refl; scratch = refl; sorting = refl };
  stored = begins (key c.args.table.now) c.args.self.now.header c.args.self.now.generation c.args.first v c.requires.words c.args.bytes.now c.requires.room (call_of c.args.pass.now);
  alone = puts_none c.args.first c.args.bytes.now v;
}

pub store_word-requires-clause-words : goal.store_word-requires-clause-words
store_word-requires-clause-words c = let i = c.loop-i.i in let test = c.loop-i-test.true in let lt : 8 * i < length c.args.bytes.now = omega arith in
    has_words (key c.args.table.now) c.args.self.now.header c.args.self.now.generation c.args.first (state c.args.pass.now) c.requires.words c.args.bytes.now c.requires.room (call_of c.args.pass.now) i lt (state c.loop-i.pass) c.loop-i.invariant.stored

pub store_word-requires-clause-inside : goal.store_word-requires-clause-inside
store_word-requires-clause-inside c = let i = c.loop-i.i in let test = c.loop-i-test.true in let lt : 8 * i < length c.args.bytes.now = omega arith in
    word_inside (key c.args.table.now) c.args.self.now.header c.args.self.now.generation c.args.first (state c.args.pass.now) c.requires.words c.args.bytes.now c.requires.room (call_of c.args.pass.now) i lt (state c.loop-i.pass) c.loop-i.invariant.stored

pub loop-i-preserved : goal.loop-i-preserved
loop-i-preserved c = let z : Sizes = key c.args.table.now in let h = c.args.self.now.header in let v = state c.args.pass.now in let u = state c.loop-i.pass in let w = state c.store_word.new.pass in let bytes = c.args.bytes.now in let s = c.loop-i.invariant in let o = c.store_word.ensures in
    let i = c.loop-i.i in let test = c.loop-i-test.true in let lt : 8 * i < length bytes = omega arith in record {
      stays = stays_both s.stays o.own;
      stored = stored_more z h c.args.self.now.generation c.args.first v c.requires.words bytes c.requires.room (call_of c.args.pass.now) i lt u s.stored c.full_word.result w (c.full_word.ensures ∙ sym (words_at bytes i lt))
          (comes_in z (call_of c.args.pass.now) (call_of c.loop-i.pass) u.blocks.held (reworded h i c.full_word.result u.headers.held) u w s.stays.call o.stored);
      alone = puts_more c.args.first bytes i c.full_word.result v u w lt (c.full_word.ensures ∙ sym (words_at bytes i lt)) s.alone o.alone;
    }

-- the last word, behind the loop

pub store_word-requires-then-full-bytes-clause-words : goal.store_word-requires-then-full-bytes-clause-words
store_word-requires-then-full-bytes-clause-words c = let bytes = c.args.bytes.now in let call = call_of c.args.pass.now in let v = state c.args.pass.now in let k : ℕ = length bytes / 8 in
    let done : c.loop-i.i ≡ k = let end = c.loop-i.auto.i-end in let past = c.loop-i-test.false in omega arith in
    has_words (key c.args.table.now) c.args.self.now.header c.args.self.now.generation c.args.first v c.requires.words bytes c.requires.room call k c.if-full-bytes.true (state c.loop-i.pass)
    (subst (λ (j : ℕ). StoredSoFar (key c.args.table.now) call c.args.self.now.header bytes j v (state c.loop-i.pass)) done c.loop-i.invariant.stored)

pub store_word-requires-then-full-bytes-clause-inside : goal.store_word-requires-then-full-bytes-clause-inside
store_word-requires-then-full-bytes-clause-inside c = let bytes = c.args.bytes.now in let call = call_of c.args.pass.now in let v = state c.args.pass.now in let k : ℕ = length bytes / 8 in
    let done : c.loop-i.i ≡ k = let end = c.loop-i.auto.i-end in let past = c.loop-i-test.false in omega arith in
    word_inside (key c.args.table.now) c.args.self.now.header c.args.self.now.generation c.args.first v c.requires.words bytes c.requires.room call k c.if-full-bytes.true (state c.loop-i.pass)
    (subst (λ (j : ℕ). StoredSoFar (key c.args.table.now) call c.args.self.now.header bytes j v (state c.loop-i.pass)) done c.loop-i.invariant.stored)

pub returns-then-full-bytes-clause-own : goal.returns-then-full-bytes-clause-own
returns-then-full-bytes-clause-own c = stays_both c.loop-i.invariant.stays c.store_word-then-full-bytes.ensures.own

pub returns-then-full-bytes-clause-stored : goal.returns-then-full-bytes-clause-stored
returns-then-full-bytes-clause-stored c = let z : Sizes = key c.args.table.now in let h = c.args.self.now.header in let g = c.args.self.now.generation in let v = state c.args.pass.now in let u = state c.loop-i.pass in let w = state c.store_word-then-full-bytes.new.pass in let bytes = c.args.bytes.now in
    let k : ℕ = length bytes / 8 in let lt = c.if-full-bytes.true in let s = c.loop-i.invariant in let call = call_of c.args.pass.now in let x = c.word_from.result in let many = words_long bytes in
    let done : c.loop-i.i ≡ k = let end = c.loop-i.auto.i-end in let past = c.loop-i-test.false in omega arith in
    let so = subst (λ (j : ℕ). StoredSoFar z call h bytes j v u) done s.stored in
    all_stored z h g c.args.first v c.requires.words bytes c.requires.room call (k + 1) w (omega arith)
    (stored_more z h g c.args.first v c.requires.words bytes c.requires.room call k lt u so x w (c.word_from.ensures ∙ sym (words_at bytes k lt))
    (comes_in z call (call_of c.loop-i.pass) u.blocks.held (reworded h k x u.headers.held) u w s.stays.call c.store_word-then-full-bytes.ensures.stored))

pub returns-then-full-bytes-clause-alone : goal.returns-then-full-bytes-clause-alone
returns-then-full-bytes-clause-alone c = let first = c.args.first in let v = state c.args.pass.now in let u = state c.loop-i.pass in let w = state c.store_word-then-full-bytes.new.pass in let bytes = c.args.bytes.now in
    let k : ℕ = length bytes / 8 in let lt = c.if-full-bytes.true in let many = words_long bytes in
    let done : c.loop-i.i ≡ k = let end = c.loop-i.auto.i-end in let past = c.loop-i-test.false in omega arith in
    let so = subst (λ (j : ℕ). Runs (PutsSome first bytes j) v u) done c.loop-i.invariant.alone in
    puts_whole first bytes (k + 1) v w (omega arith) (puts_more first bytes k c.word_from.result v u w lt (c.word_from.ensures ∙ sym (words_at bytes k lt)) so c.store_word-then-full-bytes.ensures.alone)

-- where there is none behind it

pub returns-else-full-bytes-clause-stored : goal.returns-else-full-bytes-clause-stored
returns-else-full-bytes-clause-stored c = let bytes = c.args.bytes.now in let many = words_long bytes in let none = c.if-full-bytes.false in let end = c.loop-i.auto.i-end in let past = c.loop-i-test.false in
    all_stored (key c.args.table.now) c.args.self.now.header c.args.self.now.generation c.args.first (state c.args.pass.now) c.requires.words bytes c.requires.room (call_of c.args.pass.now) c.loop-i.i (state c.loop-i.pass) (omega arith) c.loop-i.invariant.stored

pub returns-else-full-bytes-clause-alone : goal.returns-else-full-bytes-clause-alone
returns-else-full-bytes-clause-alone c = let bytes = c.args.bytes.now in let many = words_long bytes in let none = c.if-full-bytes.false in let end = c.loop-i.auto.i-end in let past = c.loop-i-test.false in
    puts_whole c.args.first bytes c.loop-i.i (state c.args.pass.now) (state c.loop-i.pass) (omega arith) c.loop-i.invariant.alone
