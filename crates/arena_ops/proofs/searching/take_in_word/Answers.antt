use Rattle.std.proofs.Common.{◌≡◌, ◌+◌, ◌*◌, ◌/◌, ◌%◌, ◌<◌, ℕ, arith, subst, w64}
use Rattle.std.specs.Int.{bit_at, trailing_zeros}
use Rattle.oak_model.specs.Class.{class_number}
use Rattle.oak_model.specs.Limits.{Sizes}
use Rattle.arena_core.specs.Arena.{at_bits}
use Rattle.arena_core.specs.ArenaStep.{take_bit}
use Rattle.oak_core.specs.Memory.{in_arena}
use Rattle.oak_core.specs.Passes.{state, key, call_of}
use Rattle.oak_core.specs.Step.{on_arena}
use Rattle.oak_core.proofs.kinds.KeepsArena.{class_below}
use Rattle.oak_core.proofs.calls.MetMore.{told_in}
use Rattle.oak_core.proofs.memory.Words.{index_below}
use Rattle.oak_core.proofs.seats.SamePass.{stays_both}
use Rattle.arena_ops.specs.Looking.{Looked}
use Rattle.arena_ops.proofs.BitFacts.{loaded, set_before, now_taken}
use Rattle.arena_ops.proofs.LookLaws.{takes_behind}
use Rattle.arena_ops.proofs.MaskFacts.{was_mask, less_left, lowest, bit_of_block}
use Rattle.arena_ops.proofs.SearchLaws.{word_begun, word_next, word_ended}
use Rattle.arena_ops.proofs.searching.take_in_word.Goals as goal

pub load-requires-clause-inside : goal.load-requires-clause-inside
load-requires-clause-inside c = let e = c.bits_at-word.ensures in let h = index_below (key c.args.table.now) (in_arena (at_bits (class_number c.args.class) c.args.i)) (class_below c.args.class, c.requires.inside) in omega arith

pub loop-clear-init : goal.loop-clear-init
loop-clear-init c = let z : Sizes = key c.args.table.now in let mask = c.bits_of_blocks.result in let n = c.load.result in record {
  stays = c.load.ensures.own;
  within = λ k lk e. let b = c.blocks-2.ensures in let w = bit_of_block mask c.blocks-2.result (c.args.i * 64) k (c.bits_of_blocks.ensures.others k lk) (was_mask mask n k c.load.type_inv lk e) in omega arith;
  looked = word_begun z (call_of c.args.pass.now) c.args.class (state c.args.pass.now) c.args.i mask n (state c.load.new.pass) c.load.type_inv
      (λ k lk lt. c.bits_of_blocks.ensures.blocks k lk (let e = c.blocks-2.ensures in omega arith))
      (loaded z (call_of c.args.pass.now) c.args.class (state c.args.pass.now) c.args.i c.bits_at-word.result n (state c.load.new.pass) c.requires.inside c.bits_at-word.ensures c.load.ensures.loaded);
}

pub set_bit-found-requires-clause-inside : goal.set_bit-found-requires-clause-inside
set_bit-found-requires-clause-inside c = let t = lowest c.loop-clear.clear c.loop-clear-test.true (let f = c.loop-clear.auto.clear-fits in omega arith) in c.loop-clear.invariant.within _ t.0 t.1

pub returns-then-not-is_set-clause-taken : goal.returns-then-not-is_set-clause-taken
returns-then-not-is_set-clause-taken c = let z : Sizes = key c.args.table.now in let call = call_of c.args.pass.now in let t = lowest c.loop-clear.clear c.loop-clear-test.true (let f = c.loop-clear.auto.clear-fits in omega arith) in
    let block : ℕ = c.args.i * 64 + trailing_zeros w64 c.loop-clear.clear in let inside = c.loop-clear.invariant.within _ t.0 t.1 in
    takes_behind z call c.args.class block (state c.args.pass.now) (state c.loop-clear.pass) (state c.set_bit-found.new.pass) _ c.loop-clear.invariant.looked
    (now_taken z call c.args.class (state c.loop-clear.pass) block c.set_bit-found.result (state c.set_bit-found.new.pass) inside
    (told_in z call (call_of c.loop-clear.pass) (on_arena (take_bit c.args.class block)) (state c.loop-clear.pass) c.set_bit-found.result (state c.set_bit-found.new.pass) c.loop-clear.invariant.stays.call c.set_bit-found.ensures.told)
    c.if-not-is_set.ensures)

-- the bit that was tried was found set
tried : (i t n : ℕ) → t < 64 → bit_at n ((i * 64 + t) % 64) ≡ 1 → bit_at n t ≡ 1
tried i t n lt e = subst (λ (k : ℕ). bit_at n k ≡ 1) (let q : (i * 64 + t) % 64 ≡ t = omega arith in q) e

pub loop-clear-smaller : goal.loop-clear-smaller
loop-clear-smaller c = let t = lowest c.loop-clear.clear c.loop-clear-test.true (let f = c.loop-clear.auto.clear-fits in omega arith) in
    less_left c.loop-clear.clear c.set_bit-found.result _ c.set_bit-found.type_inv t.0 t.1 (tried c.args.i (trailing_zeros w64 c.loop-clear.clear) c.set_bit-found.result t.0 c.if-not-is_set.ensures)

pub loop-clear-preserved : goal.loop-clear-preserved
loop-clear-preserved c = let z : Sizes = key c.args.table.now in let call = call_of c.args.pass.now in let t = lowest c.loop-clear.clear c.loop-clear-test.true (let f = c.loop-clear.auto.clear-fits in omega arith) in
    let low : ℕ = trailing_zeros w64 c.loop-clear.clear in let block : ℕ = c.args.i * 64 + low in let inside = c.loop-clear.invariant.within _ t.0 t.1 in let n = c.set_bit-found.result in record {
      stays = stays_both c.loop-clear.invariant.stays c.set_bit-found.ensures.own;
      within = λ k lk e. c.loop-clear.invariant.within k lk (was_mask c.loop-clear.clear n k c.set_bit-found.type_inv lk e);
      looked = word_next z call c.args.class (state c.args.pass.now) c.args.i c.loop-clear.clear n block (state c.loop-clear.pass) (state c.set_bit-found.new.pass) c.set_bit-found.type_inv (let lt : low < 64 = t.0 in omega arith) c.loop-clear.invariant.looked
          (set_before z call c.args.class (state c.loop-clear.pass) block n (state c.set_bit-found.new.pass) inside
          (told_in z call (call_of c.loop-clear.pass) (on_arena (take_bit c.args.class block)) (state c.loop-clear.pass) n (state c.set_bit-found.new.pass) c.loop-clear.invariant.stays.call c.set_bit-found.ensures.told)
          c.if-not-is_set.ensures);
    }

pub returns-clause-none : goal.returns-clause-none
returns-clause-none c = word_ended (key c.args.table.now) (call_of c.args.pass.now) c.args.class (state c.args.pass.now) c.args.i (state c.loop-clear.pass)
    (subst (λ (n : ℕ). Looked (key c.args.table.now) (call_of c.args.pass.now) c.args.class (state c.args.pass.now) (state c.loop-clear.pass) (λ b. (b / 64 ≡ c.args.i) × (bit_at n (b % 64) ≡ 0))) c.loop-clear-test.false c.loop-clear.invariant.looked)
