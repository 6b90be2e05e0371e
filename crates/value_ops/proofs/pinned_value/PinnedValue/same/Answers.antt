use Rattle.std.proofs.Common.{◌≡◌, ◌≢◌, ◌↔◌, IsTrue, MatchBool, Bool, ℕ, ◌+◌, ◌*◌, ◌/◌, ◌<◌, ◌≤◌, ◌++◌, List, length, take, refl, sym, ap, ◌∙◌, subst, arith}
use Rattle.oak_model.proofs.Counting.{test-cases}
use Rattle.arena_core.specs.Words.{bytes_in}
use Rattle.arena_core.proofs.ByteFacts.{all_bytes, more_bytes}
use Rattle.oak_core.specs.Passes.{state, key}
use Rattle.value_ops.specs.PinnedValues.{value_under}
use Rattle.value_ops.proofs.ValueFacts.{long, long_still, pinned_both, pinned_same}
use Rattle.value_ops.proofs.pinned_value.PinnedValue.same.Goals as goal

pub returns-then-other-self-clause-same : goal.returns-then-other-self-clause-same
returns-then-other-self-clause-same c = ((λ h. absurd cc), (λ e. absurd (c.if-other-self.true (ap length e ∙ long (key c.args.table.now) c.args.self (state c.args.pass.now) c.requires.pinned))))

pub same_in_full_word-requires-clause-long : goal.same_in_full_word-requires-clause-long
same_in_full_word-requires-clause-long c = long_still (key c.args.table.now) c.args.self c.args.pass.now c.loop-i.pass (length c.args.other.now) c.requires.pinned c.loop-i.invariant.reads c.if-other-self.false

pub loop-i-preserved : goal.loop-i-preserved
loop-i-preserved c = let z = key c.args.table.now in let x = c.args.self in let p = c.args.pass.now in let q = c.loop-i.pass in let i = c.loop-i.i in let s = c.loop-i.invariant in let same = pinned_same z x p q s.reads in record {
  reads = pinned_both z x p q c.same_in_full_word.new.pass s.reads c.same_in_full_word.ensures.reads;
  same = more_bytes c.args.other.now i ∙ ((λ j. s.same j ++ c.if-not-same_in_full_word.ensures.same j) ∙ (ap (λ (xs : List ℕ). take (8 * i) (value_under (state p)) ++ bytes_in i xs) same ∙ sym (more_bytes (value_under (state p)) i)));
}

pub returns-then-not-same_in_full_word-clause-reads : goal.returns-then-not-same_in_full_word-clause-reads
returns-then-not-same_in_full_word-clause-reads c = pinned_both (key c.args.table.now) c.args.self c.args.pass.now c.loop-i.pass c.same_in_full_word.new.pass c.loop-i.invariant.reads c.same_in_full_word.ensures.reads

-- the last word, behind the loop

pub same_in_word-requires-clause-long : goal.same_in_word-requires-clause-long
same_in_word-requires-clause-long c = long_still (key c.args.table.now) c.args.self c.args.pass.now c.loop-i.pass (length c.args.other.now) c.requires.pinned c.loop-i.invariant.reads c.if-other-self.false

pub same_in_word-requires-clause-inside : goal.same_in_word-requires-clause-inside
same_in_word-requires-clause-inside c = subst (λ (n : ℕ). 8 * (length c.args.other.now / 8) < n) (long_still (key c.args.table.now) c.args.self c.args.pass.now c.loop-i.pass (length c.args.other.now) c.requires.pinned c.loop-i.invariant.reads c.if-other-self.false) c.if-full-other.true

pub returns-then-full-other-clause-reads : goal.returns-then-full-other-clause-reads
returns-then-full-other-clause-reads c = pinned_both (key c.args.table.now) c.args.self c.args.pass.now c.loop-i.pass c.same_in_word.new.pass c.loop-i.invariant.reads c.same_in_word.ensures.reads

-- lists with the same bytes in front of word k are the same where they are so in word k, the last
same_with_last : (xs ys : List ℕ) (k : ℕ) (found : Bool) → length xs ≡ length ys → length xs ≤ 8 * (k + 1) → take (8 * k) xs ≡ take (8 * k) ys → MatchBool found (bytes_in k xs ≡ bytes_in k ys) (bytes_in k xs ≢ bytes_in k ys) → IsTrue found ↔ (xs ≡ ys)
same_with_last xs ys k found long few front = test-cases found (λ (t : Bool). MatchBool t (bytes_in k xs ≡ bytes_in k ys) (bytes_in k xs ≢ bytes_in k ys) → IsTrue t ↔ (xs ≡ ys))
    (λ t last. ((λ h. sym (all_bytes xs (k + 1) few) ∙ (more_bytes xs k ∙ ((λ j. front j ++ last j) ∙ (sym (more_bytes ys k) ∙ all_bytes ys (k + 1) (omega arith))))), (λ e. refl)))
    (λ f apart. ((λ h. absurd cc), (λ e. absurd (apart (ap (bytes_in k) e)))))

pub returns-then-full-other-clause-same : goal.returns-then-full-other-clause-same
returns-then-full-other-clause-same c = let z = key c.args.table.now in let x = c.args.self in let p = c.args.pass.now in let other = c.args.other.now in let k : ℕ = length other / 8 in let s = c.loop-i.invariant in
    let same = pinned_same z x p c.loop-i.pass s.reads in let value = value_under (state p) in
    let wide : length other ≡ length value = long_still (key c.args.table.now) c.args.self c.args.pass.now c.loop-i.pass (length c.args.other.now) c.requires.pinned c.loop-i.invariant.reads c.if-other-self.false ∙ ap length same in
    let done : c.loop-i.i ≡ k = let end = c.loop-i.auto.i-end in let past = c.loop-i-test.false in omega arith in
    let front : take (8 * k) other ≡ take (8 * k) value = subst (λ (j : ℕ). take (8 * j) other ≡ take (8 * j) value) done s.same in
    same_with_last other value k c.same_in_word.result wide (omega arith) front (subst (λ (ys : List ℕ). MatchBool c.same_in_word.result (bytes_in k other ≡ bytes_in k ys) (bytes_in k other ≢ bytes_in k ys)) same c.same_in_word.ensures.same)
