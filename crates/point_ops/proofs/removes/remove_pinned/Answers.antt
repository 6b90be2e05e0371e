use Rattle.point_ops.specs.declared.spots.Spot.TheVariants.{Absent}
use Rattle.point_ops.proofs.LoneLeftPins.{removes_key}
use Rattle.point_ops.proofs.LoneSpots.{spot_stays}
use Rattle.point_ops.specs.LoneLeft.{LeavesUnder}
use Rattle.chunk_ops.specs.AddsAlone.{Never}
use Rattle.chunk_ops.specs.PinRecords.{WordsStay}
use Rattle.oak_core.specs.AloneWords.{Runs}
use Rattle.point_ops.proofs.LoneCalls.{lock_never, of_each}
use Rattle.point_ops.proofs.LoneChanges.{never_then}
use Rattle.std.proofs.Common.{◌∙◌, None, refl, sym, subst}
use Rattle.oak_model.specs.declared.cells.CellCall.TheVariants.{Remove}
use Rattle.oak_model.specs.declared.cells.CellReply.TheVariants as replies
use Rattle.oak_model.specs.declared.writes.Kind.TheVariants as kinds
use Rattle.oak_core.specs.Passes.{state, key as sizes, call_of}
use Rattle.oak_core.proofs.calls.CallSteps.{stands_learns}
use Rattle.value_ops.specs.declared.locking.NoLock.{NoLock}
use Rattle.point_ops.specs.Changes.{NoLockBy}
use Rattle.point_ops.specs.Halting.{Halts}
use Rattle.point_ops.specs.declared.halts.Halt.{Halt}
use Rattle.point_ops.proofs.AnswerLaws.{dead_answer, dead_learns, out_or_rose}
use Rattle.point_ops.proofs.Outcomes.{ok_map, err_map}
use Rattle.point_ops.proofs.SpotLaws.{held_both, held_under, learned_held, looked_learns, rewrote, unlocked_busy}
use Rattle.point_ops.proofs.removes.remove_pinned.Goals as goal

pub returns-in-Ok-clause-got : goal.returns-in-Ok-clause-got
returns-in-Ok-clause-got c = let x = c.in-Ok.ensures.wrote c.args.key.now c.in-Present.ensures.spot.life c.in-Present.ensures.spot.has in rewrote (sizes c.args.table.now) (call_of c.args.pass.now) c.args.key.now (state c.args.pass.now) (state c.look_up.new.pass) (state c.remove_life.new.pass) _ c.look_up.ensures.own.call c.look_up.ensures.under.learns c.args.pin.now.room c.in-Present.entry.0 c.in-Present.home.header c.in-Present.home.generation c.in-Present.ensures.spot kinds.Remove Remove replies.Removed c.in-Ok.at x.0 None refl refl refl x.1

pub returns-in-Ok-clause-held : goal.returns-in-Ok-clause-held
returns-in-Ok-clause-held c = held_under (sizes c.args.table.now) (call_of c.args.pass.now) c.args.pin.now.room (state c.args.pass.now) (state c.look_up.new.pass) (state c.remove_life.new.pass) c.look_up.ensures.under c.remove_life.ensures.held

pub returns-in-Err-Busy-clause-held : goal.returns-in-Err-Busy-clause-held
returns-in-Err-Busy-clause-held c = held_under (sizes c.args.table.now) (call_of c.args.pass.now) c.args.pin.now.room (state c.args.pass.now) (state c.look_up.new.pass) (state c.remove_life.new.pass) c.look_up.ensures.under c.remove_life.ensures.held

pub returns-in-Err-Busy-clause-learns : goal.returns-in-Err-Busy-clause-learns
returns-in-Err-Busy-clause-learns c = looked_learns (sizes c.args.table.now) (call_of c.args.pass.now) c.args.key.now (state c.args.pass.now) (state c.look_up.new.pass) (state c.remove_life.new.pass) _ c.look_up.ensures.own.call c.look_up.ensures.under.learns (stands_learns _ (state c.look_up.new.pass) (state c.remove_life.new.pass) c.in-Err-Busy.ensures.only.stands)

pub returns-in-Err-Busy-clause-halted : goal.returns-in-Err-Busy-clause-halted
returns-in-Err-Busy-clause-halted c = unlocked_busy (sizes c.args.table.now) (call_of c.args.pass.now) c.args.key.now (state c.args.pass.now) (state c.look_up.new.pass) (state c.remove_life.new.pass) _ c.look_up.ensures.own.call c.look_up.ensures.under.learns c.args.pin.now.room c.in-Present.entry.0 c.in-Present.home.header c.in-Present.home.generation c.in-Present.ensures.spot Remove tt c.in-Err-Busy.ensures.only.stands.met (subst (λ (y : NoLock). NoLockBy y (sizes c.args.table.now) (call_of c.look_up.new.pass) c.in-Present.home.header c.in-Present.home.generation (state c.look_up.new.pass) (state c.remove_life.new.pass)) c.in-Err-Busy.field-0-is c.in-Err-Busy.ensures.refused)

pub returns-in-Err-Dead-clause-held : goal.returns-in-Err-Dead-clause-held
returns-in-Err-Dead-clause-held c = held_under (sizes c.args.table.now) (call_of c.args.pass.now) c.args.pin.now.room (state c.args.pass.now) (state c.look_up.new.pass) (state c.absent_at.new.pass) c.look_up.ensures.under (held_both (state c.look_up.new.pass) (state c.remove_life.new.pass) (state c.absent_at.new.pass) c.remove_life.ensures.held (learned_held _ (state c.remove_life.new.pass) (state c.absent_at.new.pass) c.absent_at.ensures.only))

pub returns-in-Err-Dead-clause-got : goal.returns-in-Err-Dead-clause-got
returns-in-Err-Dead-clause-got c = ok_map _ _ c.absent_at.result (λ y x. dead_answer y (sizes c.args.table.now) (call_of c.args.pass.now) c.args.key.now Remove (state c.args.pass.now) (state c.look_up.new.pass) (state c.remove_life.new.pass) (state c.absent_at.new.pass) _ c.look_up.ensures.own.call _ (c.remove_life.ensures.own.call ∙ c.look_up.ensures.own.call) c.look_up.ensures.under.learns c.in-Err-Dead.ensures.only.stands c.in-Present.home.header c.in-Present.home.generation c.in-Present.ensures.spot.life c.in-Present.ensures.spot.last c.in-Present.ensures.spot.loads (x Remove c.args.key.now refl)) c.absent_at.ensures.absent

pub returns-in-Err-Dead-clause-learns : goal.returns-in-Err-Dead-clause-learns
returns-in-Err-Dead-clause-learns c = err_map _ _ c.absent_at.result (λ why x. dead_learns (call_of c.args.pass.now) (state c.args.pass.now) (state c.look_up.new.pass) (state c.remove_life.new.pass) (state c.absent_at.new.pass) _ c.look_up.ensures.own.call _ (c.remove_life.ensures.own.call ∙ c.look_up.ensures.own.call) c.look_up.ensures.under.learns c.in-Err-Dead.ensures.only.stands c.absent_at.ensures.only.learns) c.absent_at.ensures.refused

pub returns-in-Err-Dead-clause-halted : goal.returns-in-Err-Dead-clause-halted
returns-in-Err-Dead-clause-halted c = err_map _ _ c.absent_at.result (λ why x. subst (λ (y : Halt). Halts y (sizes c.args.table.now) (call_of c.args.pass.now) c.args.key.now Remove (state c.args.pass.now) (state c.absent_at.new.pass)) (sym x.0) (out_or_rose (sizes c.args.table.now) (call_of c.args.pass.now) c.args.key.now (state c.args.pass.now) (state c.look_up.new.pass) (state c.remove_life.new.pass) _ c.look_up.ensures.own.call c.look_up.ensures.under.learns c.args.pin.now.room c.in-Present.entry.0 c.in-Present.home.header c.in-Present.home.generation c.in-Present.ensures.spot Remove tt (state c.absent_at.new.pass) _ (c.remove_life.ensures.own.call ∙ c.look_up.ensures.own.call) c.in-Err-Dead.ensures.only.stands.met c.absent_at.ensures.only.learns.met (subst (λ (y : NoLock). NoLockBy y (sizes c.args.table.now) (call_of c.look_up.new.pass) c.in-Present.home.header c.in-Present.home.generation (state c.look_up.new.pass) (state c.remove_life.new.pass)) c.in-Err-Dead.field-0-is c.in-Err-Dead.ensures.refused) x.1)) c.absent_at.ensures.refused

pub returns-in-Err-Busy-clause-alone : goal.returns-in-Err-Busy-clause-alone
returns-in-Err-Busy-clause-alone c = lock_never (sizes c.args.table.now) c.args.pin.now.room c.in-Present.home.header c.in-Present.home.generation c.in-Present.entry c.args.key.now (state c.args.pass.now) (state c.look_up.new.pass) (state c.remove_life.new.pass)
    c.in-Present.ensures.alone c.in-Present.ensures.spot.has (c.look_up.ensures.under.headers ∙ c.requires.headers) c.in-Err-Busy.ensures.alone

pub returns-in-Err-Dead-clause-alone : goal.returns-in-Err-Dead-clause-alone
returns-in-Err-Dead-clause-alone c = of_each (Runs Never (state c.args.pass.now) (state c.absent_at.new.pass)) c.absent_at.result (never_then WordsStay Never (state c.args.pass.now) (state c.remove_life.new.pass) (state c.absent_at.new.pass)
    (lock_never (sizes c.args.table.now) c.args.pin.now.room c.in-Present.home.header c.in-Present.home.generation c.in-Present.entry c.args.key.now (state c.args.pass.now) (state c.look_up.new.pass) (state c.remove_life.new.pass)
    c.in-Present.ensures.alone c.in-Present.ensures.spot.has (c.look_up.ensures.under.headers ∙ c.requires.headers) c.in-Err-Dead.ensures.alone) c.absent_at.ensures.only.still)

pub returns-in-Absent-clause-alone_left : goal.returns-in-Absent-clause-alone_left
returns-in-Absent-clause-alone_left c = spot_stays (sizes c.args.table.now) c.args.pin.now.room c.args.key.now (Absent c.in-Absent.entry c.in-Absent.floor) (state c.args.pass.now) (state c.look_up.new.pass) c.in-Absent.ensures.alone

pub returns-in-Ok-clause-alone_left : goal.returns-in-Ok-clause-alone_left
returns-in-Ok-clause-alone_left c = removes_key (sizes c.args.table.now) c.args.pin.now.room c.in-Present.home.header c.in-Present.home.generation c.in-Present.entry c.args.key.now (state c.args.pass.now) (state c.look_up.new.pass) (state c.remove_life.new.pass)
    c.in-Present.ensures.alone c.in-Ok.at c.in-Ok.ensures.alone_removes

pub returns-in-Err-Dead-clause-alone_left : goal.returns-in-Err-Dead-clause-alone_left
returns-in-Err-Dead-clause-alone_left c = ok_map _ _ c.absent_at.result (λ y x. never_then WordsStay (LeavesUnder y (sizes c.args.table.now) c.args.pin.now.room c.args.key.now) (state c.args.pass.now) (state c.remove_life.new.pass) (state c.absent_at.new.pass)
    (lock_never (sizes c.args.table.now) c.args.pin.now.room c.in-Present.home.header c.in-Present.home.generation c.in-Present.entry c.args.key.now (state c.args.pass.now) (state c.look_up.new.pass) (state c.remove_life.new.pass)
    c.in-Present.ensures.alone c.in-Present.ensures.spot.has (c.look_up.ensures.under.headers ∙ c.requires.headers) c.in-Err-Dead.ensures.alone) c.absent_at.ensures.only.still) c.absent_at.ensures.absent
