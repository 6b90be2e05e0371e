use Rattle.std.proofs.Common.{◌≡◌, ℕ, ◌+◌, ◌-◌, ◌*◌, ◌/◌, ◌<◌, ◌≤◌, ◌++◌, List, length, take, sym, ap, ◌∙◌, subst, arith}
use Rattle.std.proofs.lemmas.List.{length-take-le, take_all}
use Rattle.oak_model.specs.WordBytes.{word_bytes}
use Rattle.arena_core.specs.Words.{bytes_in}
use Rattle.arena_core.proofs.ByteFacts.{all_bytes, copied_more, more_bytes}
use Rattle.oak_core.specs.Passes.{state, key}
use Rattle.value_ops.specs.PinnedValues.{value_under}
use Rattle.value_ops.proofs.FrontBytes.{front_loaded}
use Rattle.value_ops.proofs.ValueFacts.{pinned_both}
use Rattle.value_ops.proofs.pinned_value.PinnedValue.copy_front.Goals as goal

pub loop-i-preserved : goal.loop-i-preserved
loop-i-preserved c = let z = key c.args.table.now in let x = c.args.self in let p = c.args.pass.now in let q = c.loop-i.pass in let i = c.loop-i.i in let s = c.loop-i.invariant in let w = c.word.result in
    let n = length c.args.out.now in let test = c.loop-i-test.true in let inside : 8 * i + 8 ≤ n = omega arith in
    let all : take (n - 8 * i) (word_bytes w) ≡ word_bytes w = take_all (n - 8 * i) (word_bytes w) (let h : 8 ≤ n - 8 * i = omega arith in h) in record {
      reads = pinned_both z x p q c.word.new.pass s.reads c.word.ensures.reads;
      copied = copied_more (take n (value_under (state p))) c.loop-i.out c.put_full_word.new.out i s.copied
          (c.put_full_word.ensures.put ∙ ap (λ (ys : List ℕ). take (8 * i) c.loop-i.out ++ ys) (sym all ∙ front_loaded z x p q n i w s.reads (omega arith) c.requires.front c.word.ensures.word));
    }

pub returns-then-full-out-clause-reads : goal.returns-then-full-out-clause-reads
returns-then-full-out-clause-reads c = pinned_both (key c.args.table.now) c.args.self c.args.pass.now c.loop-i.pass c.word-then-full-out.new.pass c.loop-i.invariant.reads c.word-then-full-out.ensures.reads

pub returns-then-full-out-clause-copied : goal.returns-then-full-out-clause-copied
returns-then-full-out-clause-copied c = let z = key c.args.table.now in let x = c.args.self in let p = c.args.pass.now in let q = c.loop-i.pass in let s = c.loop-i.invariant in let w = c.word-then-full-out.result in
    let n = length c.args.out.now in let k : ℕ = n / 8 in let front : List ℕ = take n (value_under (state p)) in let out = c.loop-i.out in let long : length out ≡ n = c.loop-i.auto.out in
    let done : c.loop-i.i ≡ k = let end = c.loop-i.auto.i-end in let past = c.loop-i-test.false in omega arith in
    let copied : take (8 * k) out ≡ take (8 * k) front = subst (λ (j : ℕ). take (8 * j) out ≡ take (8 * j) front) done s.copied in
    let rest : take (length out - 8 * k) (word_bytes w) ≡ bytes_in k front = ap (λ (m : ℕ). take (m - 8 * k) (word_bytes w)) long ∙ front_loaded z x p q n k w s.reads (subst (λ (m : ℕ). 8 * k < m) long c.if-full-out.true) c.requires.front c.word-then-full-out.ensures.word in
    let wide : length front ≡ n = length-take-le n (value_under (state p)) c.requires.front in
    c.put_last_word.ensures ∙ ((λ j. copied j ++ rest j) ∙ (sym (more_bytes front k) ∙ all_bytes front (k + 1) (omega arith)))
