use Rattle.std.proofs.Common.{rules, ◌≡◌, ℕ, ◌+◌, ◌-◌, ◌<◌, ◌∙◌, sym, subst, arith}
use Rattle.std.specs.Int.{bit_at}
use Rattle.oak_model.specs.Limits.{Sizes}
use Rattle.oak_core.specs.declared.states.PassState.{PassState}
use Rattle.oak_core.specs.Passes.{state, key, call_of}
use Rattle.oak_core.specs.Splitting.{FindsLeast, GivesWords}
use Rattle.oak_core.specs.Step.{give_number, Told}
use Rattle.oak_core.proofs.seats.LoneSplits.{gives_words, leaves_same, least_stays, not_given, number_is}
use Rattle.oak_core.proofs.calls.MetMore.{told_in}
use Rattle.oak_core.proofs.seats.Splits.{Tried, none_tried, may_give, tried_load, tried_more, splits_off, all_given, tried_looks, least_further, least_in}
use Rattle.oak_core.proofs.table.Pass.split.Goals as goal

pub loop-number-init : goal.loop-number-init
loop-number-init c = let f = c.least_free-number.ensures.least in let v : PassState = state c.args.self.now in record {
  stays = c.least_free-number.ensures.own;
  searches = c.least_free-number.ensures.searches;
  tries = c.least_free-number.ensures.tries;
  alone = least_stays (key c.args.table.now) (call_of c.args.self.now) c.least_free-number.result v (state c.least_free-number.new.self) f;
  tried = tried_load (key c.args.table.now) (call_of c.args.self.now) 0 v v (state c.least_free-number.new.self) f.number (none_tried (call_of c.args.self.now) v) f.loads c.least_free-number.result f.lower;
}

pub give_number-found-requires-clause-may : goal.give_number-found-requires-clause-may
give_number-found-requires-clause-may c = let e = c.passes-passes.ensures.is in let t = c.loop-number-test.true in let lt : c.loop-number.number < (key c.args.table.now).passes = omega arith in
    may_give (key c.args.table.now) (call_of c.args.self.now) c.loop-number.number (state c.args.self.now) (state c.loop-number.self) lt c.requires.idle.hand c.loop-number.invariant.tried

-- in the loop
tried_now : (z : Sizes) (call now k : ℕ) (v w x : PassState) (n : ℕ) → now ≡ call → Tried call k v w → Told z now (give_number k) w n x → bit_at n k ≡ 1 → Tried call (k + 1) v x
tried_now z call now k v w x n same t told e = tried_more z call k v w x n t (told_in z call now (give_number k) w n x same told) e

pub returns-then-not-is_set-clause-split : goal.returns-then-not-is_set-clause-split
returns-then-not-is_set-clause-split c = let z : Sizes = key c.args.table.now in let k : ℕ = c.loop-number.number in
    let e : bit_at c.give_number-found.result k ≡ 0 = c.if-not-is_set.ensures in let q = c.passes-passes.ensures.is in let t = c.loop-number-test.true in let lt : k < z.passes = omega arith in
    splits_off z (call_of c.args.self.now) k (state c.args.self.now) (state c.loop-number.self) (state c.give_number-found.new.self) c.give_number-found.result
    c.loop-number.invariant.tried (told_in z (call_of c.args.self.now) (call_of c.loop-number.self) (give_number k) (state c.loop-number.self) c.give_number-found.result (state c.give_number-found.new.self) c.loop-number.invariant.stays.call c.give_number-found.ensures.told)
    e _ _ lt c.requires.idle.hand c.cut.ensures.cut.0 c.cut.ensures.cut.1

pub loop-number-smaller : goal.loop-number-smaller
loop-number-smaller c = let z : Sizes = key c.args.table.now in let call : ℕ = call_of c.args.self.now in let k : ℕ = c.loop-number.number in let i : ℕ = c.least_free-number-in-loop-number.result in
    let few = c.passes-passes.ensures.few in let lt = c.loop-number-test.true in
    let t = tried_now z call (call_of c.loop-number.self) k (state c.args.self.now) (state c.loop-number.self) (state c.give_number-found.new.self) c.give_number-found.result c.loop-number.invariant.stays.call c.loop-number.invariant.tried c.give_number-found.ensures.told c.if-not-is_set.ensures in
    let further : k < i = least_further z call k (state c.args.self.now) (state c.give_number-found.new.self) (state c.least_free-number-in-loop-number.new.self) i (omega arith) t
    (least_in z call (call_of c.give_number-found.new.self) (state c.give_number-found.new.self) i (state c.least_free-number-in-loop-number.new.self) (c.give_number-found.ensures.own.call ∙ c.loop-number.invariant.stays.call) c.least_free-number-in-loop-number.ensures.least) in
    let r : c.passes-passes.result - i < c.passes-passes.result - k = omega arith in r

pub loop-number-preserved : goal.loop-number-preserved
loop-number-preserved c = let z : Sizes = key c.args.table.now in let call : ℕ = call_of c.args.self.now in let k : ℕ = c.loop-number.number in let i : ℕ = c.least_free-number-in-loop-number.result in
    let t = tried_now z call (call_of c.loop-number.self) k (state c.args.self.now) (state c.loop-number.self) (state c.give_number-found.new.self) c.give_number-found.result c.loop-number.invariant.stays.call c.loop-number.invariant.tried c.give_number-found.ensures.told c.if-not-is_set.ensures in
    let f : FindsLeast z call (state c.give_number-found.new.self) i (state c.least_free-number-in-loop-number.new.self) = least_in z call (call_of c.give_number-found.new.self) (state c.give_number-found.new.self) i (state c.least_free-number-in-loop-number.new.self) (c.give_number-found.ensures.own.call ∙ c.loop-number.invariant.stays.call) c.least_free-number-in-loop-number.ensures.least in record {
      stays = search rules;
      searches = search rules;
      tries = search rules;
      alone = let e = c.passes-passes.ensures.few in let lt = c.loop-number-test.true in not_given z (call_of c.loop-number.self) k (state c.args.self.now) (state c.loop-number.self) (state c.give_number-found.new.self) c.give_number-found.result c.loop-number.invariant.alone c.give_number-found.ensures.told (omega arith) c.if-not-is_set.ensures
          (state c.least_free-number-in-loop-number.new.self) i;
      tried = tried_load z call (k + 1) (state c.args.self.now) (state c.give_number-found.new.self) (state c.least_free-number-in-loop-number.new.self) f.number t f.loads i f.lower;
    }

pub returns-clause-refused : goal.returns-clause-refused
returns-clause-refused c = tried_looks (call_of c.args.self.now) c.loop-number.number (state c.args.self.now) (state c.loop-number.self) c.loop-number.invariant.tried

pub returns-clause-limit : goal.returns-clause-limit
returns-clause-limit c made e = let is = c.passes-passes.ensures.is in let some_pass = c.passes-passes.ensures.some in let t = c.loop-number-test.false in
    (search rules, all_given (key c.args.table.now) (call_of c.args.self.now) c.loop-number.number (state c.args.self.now) (state c.loop-number.self) (omega arith) (omega arith) c.loop-number.invariant.tried)

pub returns-then-not-is_set-clause-alone_given : goal.returns-then-not-is_set-clause-alone_given
returns-then-not-is_set-clause-alone_given c = let z : Sizes = key c.args.table.now in let k : ℕ = c.loop-number.number in
    let e : bit_at c.give_number-found.result k ≡ 0 = c.if-not-is_set.ensures in
    subst (λ (m : ℕ). GivesWords m (state c.args.self.now) (state c.cut.new.self))
    (sym (number_is z (call_of c.args.self.now) k (state c.args.self.now) (state c.loop-number.self) (state c.give_number-found.new.self) (state c.cut.result) c.give_number-found.result c.loop-number.invariant.tried
    (told_in z (call_of c.args.self.now) (call_of c.loop-number.self) (give_number k) (state c.loop-number.self) c.give_number-found.result (state c.give_number-found.new.self) c.loop-number.invariant.stays.call c.give_number-found.ensures.told) e c.cut.ensures.cut.1))
    (gives_words z (call_of c.loop-number.self) k (state c.args.self.now) (state c.loop-number.self) (state c.give_number-found.new.self) c.give_number-found.result c.loop-number.invariant.alone c.give_number-found.ensures.told (state c.cut.new.self) c.cut.ensures.cut.0)

pub returns-clause-alone_refused : goal.returns-clause-alone_refused
returns-clause-alone_refused c = leaves_same c.loop-number.number (state c.args.self.now) (state c.loop-number.self) c.loop-number.invariant.alone
