use Rattle.std.proofs.Common.{◌∙◌, ℕ, length, sym, ap, subst, Some}
use Rattle.std.proofs.lemmas.Result.{err_from_is_err_and}
use Rattle.oak_model.specs.declared.classes.Class.{Class}
use Rattle.chunk_core.specs.PinnedRooms.{span_of}
use Rattle.oak_core.specs.AloneWords.{Runs}
use Rattle.oak_core.specs.Passes.{state, key as sizes, call_of}
use Rattle.oak_core.specs.QuietSteps.{MetOnly}
use Rattle.chunk_ops.specs.PinRecords.{HasRoomPin, room_pin}
use Rattle.value_ops.proofs.ClaimLaws.{claims_owned}
use Rattle.point_ops.specs.Inserts.{TakesOnly}
use Rattle.point_ops.specs.LoneInserts.{MakesFreshUnder, MakingHaltsIn, NamesBlock}
use Rattle.point_ops.specs.declared.halts.Halt.TheVariants.{NoHeader}
use Rattle.point_ops.proofs.LoneFresh.{fresh_alone, unclaimed_alone, untaken_alone}
use Rattle.point_ops.proofs.LoneHeaders.{filled_names}
use Rattle.point_ops.proofs.ValuesMade.{only_made, value_made, unmade_back, unmade_free}
use Rattle.point_ops.proofs.inserting.make_fresh.Goals as goal

pub fill-requires-clause-owned : goal.fill-requires-clause-owned
fill-requires-clause-owned c = claims_owned (sizes c.args.table.now) (call_of c.make_block.new.pass) c.in-Ok.owned.header (state c.make_block.new.pass) (state c.claim.new.pass) c.in-Ok.ensures.claimed

pub returns-in-Ok-clause-made : goal.returns-in-Ok-clause-made
returns-in-Ok-clause-made c = let b = c.in_ok-block.block in (
  c.fill.ensures.stamp,
  value_made (sizes c.args.table.now) (call_of c.args.pass.now) b.class b.number c.args.value.now (state c.args.pass.now) (state c.make_block.new.pass) (state c.claim.new.pass) c.requires.headers c.in_ok-block.ensures.made.1
      (call_of c.make_block.new.pass) c.make_block.ensures.own.call c.in-Ok.owned.header c.in-Ok.ensures.claimed c.args.stamp c.fill.result.generation (call_of c.claim.new.pass) (state c.fill.new.pass) (c.claim.ensures.own.call ∙ c.make_block.ensures.own.call)
      c.fill.result.header c.fill.ensures.header c.fill.ensures.has c.fill.ensures.filled,
)

pub returns-in-Ok-clause-takes : goal.returns-in-Ok-clause-takes
returns-in-Ok-clause-takes c = let z = sizes c.args.table.now in let b = c.in_ok-block.block in let v = state c.args.pass.now in let u = state c.make_block.new.pass in let w = state c.claim.new.pass in let x = state c.fill.new.pass in
    let h = c.in-Ok.owned.header in let later = call_of c.claim.new.pass in let len = length c.args.value.now in let stamp = c.args.stamp in let g = c.fill.result.generation in
    subst (λ (d : Class). (n : ℕ) × NamesBlock c.fill.result.header d n x × MetOnly (TakesOnly z d n) v x) c.in_ok-block.ensures.made.0
    (subst (λ (k : ℕ). (n : ℕ) × NamesBlock k b.class n x × MetOnly (TakesOnly z b.class n) v x) (sym c.fill.ensures.header) (
      b.number,
      filled_names z later h b.class b.number len stamp g w x c.in-Ok.ensures.claimed.told.rule.sizes c.in_ok-block.ensures.made.1.has.block.inside (c.requires.fits ∙ ap Some (sym c.in_ok-block.ensures.made.0)) (claims_owned z (call_of c.make_block.new.pass) h u w c.in-Ok.ensures.claimed) c.fill.ensures.filled,
      only_made z (call_of c.args.pass.now) b.class b.number c.args.value.now v u w c.requires.headers c.in_ok-block.ensures.made.1 (call_of c.make_block.new.pass) c.make_block.ensures.own.call h c.in-Ok.ensures.claimed stamp g later x c.fill.ensures.filled,
    ))

pub returns-in-Err-clause-back : goal.returns-in-Err-clause-back
returns-in-Err-clause-back c = let b = c.in_ok-block.block in
    unmade_back (sizes c.args.table.now) (call_of c.args.pass.now) b.class b.number c.args.value.now (state c.args.pass.now) (state c.make_block.new.pass) (state c.claim.new.pass) c.requires.headers c.in_ok-block.ensures.made.1
    (call_of c.make_block.new.pass) c.make_block.ensures.own.call c.in-Err.ensures.none (call_of c.claim.new.pass) (state c.give.new.pass) (c.claim.ensures.own.call ∙ c.make_block.ensures.own.call) c.give.ensures.given c.requires.blocks

pub returns-in-Err-clause-halted : goal.returns-in-Err-clause-halted
returns-in-Err-clause-halted c = let b = c.in_ok-block.block in
    unmade_free (sizes c.args.table.now) (call_of c.args.pass.now) b.class b.number c.args.value.now (state c.args.pass.now) (state c.make_block.new.pass) (state c.claim.new.pass) c.requires.headers c.in_ok-block.ensures.made.1
    (call_of c.make_block.new.pass) c.make_block.ensures.own.call c.in-Err.ensures.none (call_of c.claim.new.pass) (state c.give.new.pass) (c.claim.ensures.own.call ∙ c.make_block.ensures.own.call) c.give.ensures.given

pub returns-in-Ok-clause-alone : goal.returns-in-Ok-clause-alone
returns-in-Ok-clause-alone c = let z = sizes c.args.table.now in let b = c.in_ok-block.block in let v = state c.args.pass.now in let u = state c.make_block.new.pass in let w = state c.claim.new.pass in let x = state c.fill.new.pass in
    let h = c.in-Ok.owned.header in let later = call_of c.claim.new.pass in let len = length c.args.value.now in let stamp = c.args.stamp in let g = c.fill.result.generation in
    subst (λ (d : Class). (n : ℕ) × NamesBlock c.fill.result.header d n x × ((r : ℕ) → HasRoomPin z r v → Runs (MakesFreshUnder z r (span_of (room_pin v)) c.fill.result.header d n) v x)) c.in_ok-block.ensures.made.0
    (subst (λ (k : ℕ). (n : ℕ) × NamesBlock k b.class n x × ((r : ℕ) → HasRoomPin z r v → Runs (MakesFreshUnder z r (span_of (room_pin v)) k b.class n) v x)) (sym c.fill.ensures.header) (
      b.number,
      filled_names z later h b.class b.number len stamp g w x c.in-Ok.ensures.claimed.told.rule.sizes c.in_ok-block.ensures.made.1.has.block.inside (c.requires.fits ∙ ap Some (sym c.in_ok-block.ensures.made.0)) (claims_owned z (call_of c.make_block.new.pass) h u w c.in-Ok.ensures.claimed) c.fill.ensures.filled,
      (λ r pin. fresh_alone z r b.class b.number v u w (c.in_ok-block.ensures.alone r pin) (span_of (room_pin v)) (c.in_ok-block.ensures.alone_under r pin) (call_of c.make_block.new.pass) later h stamp len g x c.in-Ok.ensures.claimed c.fill.ensures.filled),
    ))

pub returns-in-Err-clause-alone_halted : goal.returns-in-Err-clause-alone_halted
returns-in-Err-clause-alone_halted c = let z = sizes c.args.table.now in let b = c.in_ok-block.block in let v = state c.args.pass.now in let x = state c.give.new.pass in
    λ r pin. subst (λ (d : Class). Runs (MakingHaltsIn NoHeader z d) v x) c.in_ok-block.ensures.made.0
    (unclaimed_alone z r b.class b.number v (state c.make_block.new.pass) (state c.claim.new.pass) (c.in_ok-block.ensures.alone r pin) (call_of c.make_block.new.pass) (call_of c.claim.new.pass) x c.in-Err.ensures.none c.give.ensures.given)

pub returns-in_err-block-clause-alone_halted : goal.returns-in_err-block-clause-alone_halted
returns-in_err-block-clause-alone_halted c = let p = err_from_is_err_and c.from_residual.result c.from_residual.ensures.1 in
    rw (p.1, p.2) (λ r pin. untaken_alone (sizes c.args.table.now) c.args.class c.in_err-block.field-0.0 (state c.args.pass.now) (state c.make_block.new.pass) c.in_err-block.ensures.refused.0 c.in_err-block.ensures.alone_refused)
