use Rattle.std.proofs.Common.{◌≡◌, ◌≤◌, ◌<◌, ◌/◌, arith}
use Rattle.oak_core.specs.Passes.{state, key, call_of}
use Rattle.oak_core.proofs.seats.SamePass.{stays_both}
use Rattle.arena_ops.proofs.LookLaws.{takes_behind, looked_only}
use Rattle.arena_ops.proofs.SearchLaws.{looked_in, takes_in, next_word}
use Rattle.arena_ops.proofs.searching.take_between.Goals as goal

pub loop-i-preserved : goal.loop-i-preserved
loop-i-preserved c = record {
  stays = stays_both c.loop-i.invariant.stays c.take_in_word.ensures.own;
  looked = next_word (key c.args.table.now) (call_of c.args.pass.now) c.args.class (state c.args.pass.now) c.args.from c.loop-i.i (state c.loop-i.pass) (state c.take_in_word.new.pass) c.loop-i.invariant.looked
      (looked_in (key c.args.table.now) (call_of c.args.pass.now) (call_of c.loop-i.pass) c.args.class (state c.loop-i.pass) (state c.take_in_word.new.pass) c.loop-i.invariant.stays.call (λ b. b / 64 ≡ c.loop-i.i) c.in_default.ensures.none);
}

pub returns-in-Some-clause-taken : goal.returns-in-Some-clause-taken
returns-in-Some-clause-taken c = takes_behind (key c.args.table.now) (call_of c.args.pass.now) c.args.class c.in-Some.block (state c.args.pass.now) (state c.loop-i.pass) (state c.take_in_word.new.pass) (λ b. (c.args.from ≤ b / 64) × (b / 64 < c.loop-i.i)) c.loop-i.invariant.looked
    (takes_in (key c.args.table.now) (call_of c.args.pass.now) (call_of c.loop-i.pass) c.args.class (state c.loop-i.pass) (state c.take_in_word.new.pass) c.loop-i.invariant.stays.call c.in-Some.block c.in-Some.ensures.taken)

pub returns-clause-none : goal.returns-clause-none
returns-clause-none c = looked_only (key c.args.table.now) (call_of c.args.pass.now) c.args.class (state c.args.pass.now) (state c.loop-i.pass) (λ b. (c.args.from ≤ b / 64) × (b / 64 < c.loop-i.i)) (λ b. (c.args.from ≤ b / 64) × (b / 64 < c.args.to))
    (λ b lb q. let t = c.loop-i-test.false in (q.0, (let l = q.1 in omega arith))) c.loop-i.invariant.looked
