use Rattle.std.proofs.Common.{◌≡◌, ℕ, ◌+◌, List, length, inl, inr, Ok, IfOk, Result, Some, None, ap, sym, ◌∙◌, subst, refl, arith}
use Rattle.oak_model.specs.Key.{IsKey}
use Rattle.oak_model.specs.KeyNumber.{key_number}
use Rattle.oak_model.specs.Limits.{Sizes}
use Rattle.oak_core.specs.declared.states.PassState.{PassState}
use Rattle.oak_core.specs.AloneWords.{Runs}
use Rattle.oak_core.proofs.covers.FullClaims.{claims_none}
use Rattle.oak_core.specs.Passes.{state, key as sizes, call_of}
use Rattle.chunk_ops.specs.RoomPins.{HadMoment}
use Rattle.rebalance.specs.declared.answers.Busy.{Busy}
use Rattle.rebalance.specs.declared.chunk_pairs.Merged.{Merged}
use Rattle.rebalance.specs.declared.chunk_pairs.Merged.TheVariants.{Apart}
use Rattle.rebalance.specs.Busy.{GivesUpMerging}
use Rattle.rebalance.specs.Calls.{Merges}
use Rattle.rebalance.specs.Merging.{ApartUpTo, SweepsBelow}
use Rattle.rebalance.specs.Settling.{SettlesBelow}
use Rattle.rebalance.proofs.CountedChunks.{GoesOver, joined_over, never_over, next_over, none_over, swept_more}
use Rattle.rebalance.proofs.GivenUp.{busy_since}
use Rattle.rebalance.proofs.LoneTakes.{bare_of, bare_still}
use Rattle.rebalance.proofs.NeverRuns.{never_last}
use Rattle.rebalance.proofs.SettledCalls.{all_settles, joined_settles, least_settles, next_settles}
use Rattle.rebalance.proofs.SettledKeys.{all_swept, below_high, below_still, idle_still, least_below, least_is_key, leaves_both, leaves_none, none_written}
use Rattle.rebalance.proofs.settling.try_settle.Goals as goal

pub loop-init : goal.loop-init
loop-init c = record {
  key = least_is_key c.least-from.result c.least-from.ensures;
  stays = record { table = refl; seat = refl; call = refl; scratch = refl; sorting = refl };
  leaves = leaves_none (call_of c.args.pass.now) (state c.args.pass.now);
  unclaimed = refl;
  below = least_below c.least-from.result (state c.args.pass.now) c.least-from.ensures;
  swept = omega arith;
  moment = λ lt. absurd (omega arith);
  alone = least_settles (sizes c.args.table.now) c.least-from.result (state c.args.pass.now) c.least-from.ensures;
  over = none_over (sizes c.args.table.now) (key_number c.least-from.result) (state c.args.pass.now);
}

pub try_merge_chunk-requires-clause-idle : goal.try_merge_chunk-requires-clause-idle
try_merge_chunk-requires-clause-idle c = idle_still (call_of c.args.pass.now) (state c.args.pass.now) (state c.loop.pass) c.requires.idle c.loop.invariant.leaves

pub loop-preserved-in-Ok-Joined : goal.loop-preserved-in-Ok-Joined
loop-preserved-in-Ok-Joined c = let call = call_of c.args.pass.now in let u = state c.args.pass.now in let v = state c.loop.pass in let w = state c.try_merge_chunk.new.pass in let i = c.loop.invariant in let s = c.try_merge_chunk.ensures.own in
    let z : Sizes = sizes c.args.table.now in let m = subst (λ (p : ℕ × List ℕ). Merges z p.0 p.1 v w) (λ j. (i.stays.call j, c.as_slice.ensures j)) (c.try_merge_chunk.ensures.joined (c.in-Ok-Joined.is ∙ ap Ok c.in-Ok-Joined.field-0-is)) in let last = m.leaves in record {
      key = i.key;
      stays = record { table = s.table ∙ i.stays.table; seat = s.seat ∙ i.stays.seat; call = s.call ∙ i.stays.call; scratch = s.scratch ∙ i.stays.scratch; sorting = refl };
      leaves = leaves_both call u v w i.leaves last;
      unclaimed = m.unclaimed ∙ i.unclaimed;
      below = below_still call c.loop.from u v w i.below last;
      swept = let a = i.swept in let b = swept_more c.loop.from v w m.swept in omega arith;
      moment = λ _. subst (λ (r : Result Merged Busy). IfOk r (λ _. HadMoment z w)) c.in-Ok-Joined.is c.try_merge_chunk.ensures.ended;
      alone = joined_settles z call c.loop.from u v w i.alone m;
      over = joined_over z call c.loop.from c.loop.counter u v w i.over m;
    }

pub loop-preserved : goal.loop-preserved
loop-preserved c = let call = call_of c.args.pass.now in let u = state c.args.pass.now in let v = state c.loop.pass in let w = state c.try_merge_chunk.new.pass in let i = c.loop.invariant in let s = c.try_merge_chunk.ensures.own in
    let z : Sizes = sizes c.args.table.now in let high = c.in-Ok-Apart-Some.high in
    let apart = subst (λ (p : ℕ × List ℕ). ApartUpTo z p.0 p.1 (Some high) v w) (λ j. (i.stays.call j, c.as_slice.ensures j)) (c.try_merge_chunk.ensures.apart (Some high) (c.in-Ok-Apart-Some.is ∙ ap Ok (c.in-Ok-Apart-Some.field-0-is ∙ ap Apart c.in-Ok-Apart-Some.field-0-0-is))) in
    let last = apart.stays.leaves in let more = apart.sweeps in record {
      key = subst IsKey (sym c.in-Ok-Apart-Some.high-is) (more.is_key high refl);
      stays = record { table = s.table ∙ i.stays.table; seat = s.seat ∙ i.stays.seat; call = s.call ∙ i.stays.call; scratch = s.scratch ∙ i.stays.scratch; sorting = refl };
      leaves = leaves_both call u v w i.leaves last;
      unclaimed = apart.stays.unclaimed ∙ i.unclaimed;
      below = subst (λ (l : List ℕ). SweepsBelow l u w) (sym c.in-Ok-Apart-Some.high-is) (below_high call c.loop.from u v w i.below i.leaves last high more);
      swept = let a = i.swept in let b = swept_more c.loop.from v w apart.stays.rewrites.swept in omega arith;
      moment = λ _. apart.stays.ended;
      alone = subst (λ (l : List ℕ). Runs (SettlesBelow z (key_number l)) u w) (sym c.in-Ok-Apart-Some.high-is) (next_settles z call c.loop.from u v w i.alone high apart);
      over = subst (λ (l : List ℕ). Runs (GoesOver z (key_number l) (c.loop.counter + 1)) u w) (sym c.in-Ok-Apart-Some.high-is) (next_over z call c.loop.from c.loop.counter u v w i.over high apart);
    }

pub returns-in-Ok-Apart-None-clause-settled : goal.returns-in-Ok-Apart-None-clause-settled
returns-in-Ok-Apart-None-clause-settled c = let call = call_of c.args.pass.now in let u = state c.args.pass.now in let v = state c.loop.pass in let w = state c.try_merge_chunk.new.pass in let i = c.loop.invariant in
    let z : Sizes = sizes c.args.table.now in
    let apart = subst (λ (p : ℕ × List ℕ). ApartUpTo z p.0 p.1 None v w) (λ j. (i.stays.call j, c.as_slice.ensures j)) (c.try_merge_chunk.ensures.apart None (c.in-Ok-Apart-None.is ∙ ap Ok (c.in-Ok-Apart-None.field-0-is ∙ ap Apart c.in-Ok-Apart-None.field-0-0-is))) in
    let last = apart.stays.leaves in
    let none = apart.stays.unclaimed ∙ i.unclaimed in
    record { leaves = leaves_both call u v w i.leaves last; unclaimed = none; claims = claims_none z u w none; ended = apart.stays.ended; covered = all_swept call c.loop.from u v w i.below i.leaves last apart.sweeps; alone = all_settles z call c.loop.from u v w i.alone apart }

pub returns-in-Err-clause-busy : goal.returns-in-Err-clause-busy
returns-in-Err-clause-busy c = let call = call_of c.args.pass.now in let u = state c.args.pass.now in let v = state c.loop.pass in let w = state c.try_merge_chunk.new.pass in let i = c.loop.invariant in let z : Sizes = sizes c.args.table.now in let from = c.loop.from in
    let gave = subst (λ (p : ℕ × List ℕ). GivesUpMerging z p.0 c.args.looks p.1 v w) (λ j. (i.stays.call j, c.as_slice.ensures j)) c.in-Err.ensures.busy in record {
      from = from;
      is_key = i.key;
      below = below_still call from u v w i.below gave.leaves;
      busy = inl (busy_since z call u v w i.leaves c.args.looks from gave.busy);
      leaves = leaves_both call u v w i.leaves gave.leaves;
      unclaimed = gave.unclaimed ∙ i.unclaimed;
      unwritten = gave.unwritten ∙ none_written call u v i.leaves;
      idle = gave.idle;
      alone = never_last (SettlesBelow z (key_number from)) u v w i.alone gave.alone;
    }

pub returns-clause-busy : goal.returns-clause-busy
returns-clause-busy c = let u = state c.args.pass.now in let w = state c.loop.pass in let i = c.loop.invariant in let z : Sizes = sizes c.args.table.now in let from = c.loop.from in
    let is = c.rooms-end.ensures.is in let some = c.rooms-end.ensures.some in let over = c.loop-test.false in let most = c.loop.auto.counter-end in let all : c.loop.counter ≡ z.chunks = omega arith in let swept = i.swept in record {
      from = from;
      is_key = i.key;
      below = i.below;
      busy = inr (omega arith);
      leaves = i.leaves;
      unclaimed = i.unclaimed;
      unwritten = none_written (call_of c.args.pass.now) u w i.leaves;
      idle = idle_still (call_of c.args.pass.now) u w c.requires.idle i.leaves;
      alone = never_over z (key_number from) u w (λ same. let e = ap (λ (y : PassState). length y.findings.swept) same in absurd (omega arith)) (bare_still u w (bare_of u c.requires.idle) i.leaves.rooms) (i.moment (omega arith))
          (subst (λ (n : ℕ). Runs (GoesOver z (key_number from) n) u w) all i.over);
    }
