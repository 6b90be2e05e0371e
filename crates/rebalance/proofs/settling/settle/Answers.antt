use Rattle.std.proofs.Common.{ℕ, List, Ok, Some, None, ap, sym, ◌∙◌, subst, refl}
use Rattle.oak_model.specs.Key.{IsKey}
use Rattle.oak_model.specs.KeyNumber.{key_number}
use Rattle.oak_model.specs.Limits.{Sizes}
use Rattle.oak_core.specs.AloneWords.{Runs}
use Rattle.oak_core.proofs.covers.FullClaims.{claims_none}
use Rattle.oak_core.specs.Passes.{state, key as sizes, call_of}
use Rattle.rebalance.specs.declared.chunks.TheConstants.{LOOKS}
use Rattle.rebalance.specs.declared.chunk_pairs.Merged.TheVariants.{Apart}
use Rattle.rebalance.specs.Busy.{GivesUpMerging}
use Rattle.rebalance.specs.Calls.{Merges}
use Rattle.rebalance.specs.Merging.{ApartUpTo, SweepsBelow}
use Rattle.rebalance.specs.Settling.{SettlesBelow}
use Rattle.rebalance.proofs.NeverRuns.{never_last, never_so}
use Rattle.rebalance.proofs.SettledCalls.{all_settles, joined_settles, least_settles, next_settles}
use Rattle.rebalance.proofs.SettledKeys.{all_swept, below_high, below_still, idle_still, least_below, least_is_key, leaves_both, leaves_none}
use Rattle.rebalance.proofs.settling.settle.Goals as goal

pub loop-init : goal.loop-init
loop-init g c = record {
  next = tt;
  key = least_is_key c.least-from.result c.least-from.ensures;
  stays = record { table = refl; seat = refl; call = refl; scratch = refl; sorting = refl };
  leaves = leaves_none (call_of c.args.pass.now) (state c.args.pass.now);
  unclaimed = refl;
  below = least_below c.least-from.result (state c.args.pass.now) c.least-from.ensures;
  alone = least_settles (sizes c.args.table.now) c.least-from.result (state c.args.pass.now) c.least-from.ensures;
}

pub try_merge_chunk-requires-clause-idle : goal.try_merge_chunk-requires-clause-idle
try_merge_chunk-requires-clause-idle g c = idle_still (call_of c.args.pass.now) (state c.args.pass.now) (state c.loop.pass) c.requires.idle c.loop.invariant.leaves

pub loop-preserved-in-Ok-Joined : goal.loop-preserved-in-Ok-Joined
loop-preserved-in-Ok-Joined g c = let call = call_of c.args.pass.now in let u = state c.args.pass.now in let v = state c.loop.pass in let w = state c.try_merge_chunk.new.pass in let i = c.loop.invariant in let s = c.try_merge_chunk.ensures.own in
    let z : Sizes = sizes c.args.table.now in let m = subst (λ (p : ℕ × List ℕ). Merges z p.0 p.1 v w) (λ j. (i.stays.call j, c.as_slice.ensures j)) (c.try_merge_chunk.ensures.joined (c.in-Ok-Joined.is ∙ ap Ok c.in-Ok-Joined.field-0-is)) in let last = m.leaves in record {
      next = tt;
      key = i.key;
      stays = record { table = s.table ∙ i.stays.table; seat = s.seat ∙ i.stays.seat; call = s.call ∙ i.stays.call; scratch = s.scratch ∙ i.stays.scratch; sorting = refl };
      leaves = leaves_both call u v w i.leaves last;
      unclaimed = m.unclaimed ∙ i.unclaimed;
      below = below_still call c.loop.from u v w i.below last;
      alone = joined_settles z call c.loop.from u v w i.alone m;
    }

pub loop-preserved-in-Ok-Apart-Some : goal.loop-preserved-in-Ok-Apart-Some
loop-preserved-in-Ok-Apart-Some g c = let call = call_of c.args.pass.now in let u = state c.args.pass.now in let v = state c.loop.pass in let w = state c.try_merge_chunk.new.pass in let i = c.loop.invariant in let s = c.try_merge_chunk.ensures.own in
    let z : Sizes = sizes c.args.table.now in let high = c.in-Ok-Apart-Some.high in
    let apart = subst (λ (p : ℕ × List ℕ). ApartUpTo z p.0 p.1 (Some high) v w) (λ j. (i.stays.call j, c.as_slice.ensures j)) (c.try_merge_chunk.ensures.apart (Some high) (c.in-Ok-Apart-Some.is ∙ ap Ok (c.in-Ok-Apart-Some.field-0-is ∙ ap Apart c.in-Ok-Apart-Some.field-0-0-is))) in
    let last = apart.stays.leaves in let more = apart.sweeps in record {
      next = tt;
      key = subst IsKey (sym c.in-Ok-Apart-Some.high-is) (more.is_key high refl);
      stays = record { table = s.table ∙ i.stays.table; seat = s.seat ∙ i.stays.seat; call = s.call ∙ i.stays.call; scratch = s.scratch ∙ i.stays.scratch; sorting = refl };
      leaves = leaves_both call u v w i.leaves last;
      unclaimed = apart.stays.unclaimed ∙ i.unclaimed;
      below = subst (λ (l : List ℕ). SweepsBelow l u w) (sym c.in-Ok-Apart-Some.high-is) (below_high call c.loop.from u v w i.below i.leaves last high more);
      alone = subst (λ (l : List ℕ). Runs (SettlesBelow z (key_number l)) u w) (sym c.in-Ok-Apart-Some.high-is) (next_settles z call c.loop.from u v w i.alone high apart);
    }

pub loop-preserved : goal.loop-preserved
loop-preserved g c = let call = call_of c.args.pass.now in let u = state c.args.pass.now in let v = state c.loop.pass in let w = state c.try_merge_chunk.new.pass in let i = c.loop.invariant in let s = c.try_merge_chunk.ensures.own in
    let z : Sizes = sizes c.args.table.now in let from = c.loop.from in let gave = subst (λ (p : ℕ × List ℕ). GivesUpMerging z p.0 LOOKS p.1 v w) (λ j. (i.stays.call j, c.as_slice.ensures j)) c.in-Err.ensures.busy in record {
      next = tt;
      key = i.key;
      stays = record { table = s.table ∙ i.stays.table; seat = s.seat ∙ i.stays.seat; call = s.call ∙ i.stays.call; scratch = s.scratch ∙ i.stays.scratch; sorting = refl };
      leaves = leaves_both call u v w i.leaves gave.leaves;
      unclaimed = gave.unclaimed ∙ i.unclaimed;
      below = below_still call from u v w i.below gave.leaves;
      alone = never_so (SettlesBelow z (key_number from)) u w (never_last (SettlesBelow z (key_number from)) u v w i.alone gave.alone);
    }

pub returns-in-Ok-Apart-None-clause-settled : goal.returns-in-Ok-Apart-None-clause-settled
returns-in-Ok-Apart-None-clause-settled g c = let call = call_of c.args.pass.now in let u = state c.args.pass.now in let v = state c.loop.pass in let w = state c.try_merge_chunk.new.pass in let i = c.loop.invariant in
    let z : Sizes = sizes c.args.table.now in
    let apart = subst (λ (p : ℕ × List ℕ). ApartUpTo z p.0 p.1 None v w) (λ j. (i.stays.call j, c.as_slice.ensures j)) (c.try_merge_chunk.ensures.apart None (c.in-Ok-Apart-None.is ∙ ap Ok (c.in-Ok-Apart-None.field-0-is ∙ ap Apart c.in-Ok-Apart-None.field-0-0-is))) in
    let last = apart.stays.leaves in
    let none = apart.stays.unclaimed ∙ i.unclaimed in
    record { leaves = leaves_both call u v w i.leaves last; unclaimed = none; claims = claims_none z u w none; ended = apart.stays.ended; covered = all_swept call c.loop.from u v w i.below i.leaves last apart.sweeps; alone = all_settles z call c.loop.from u v w i.alone apart }
