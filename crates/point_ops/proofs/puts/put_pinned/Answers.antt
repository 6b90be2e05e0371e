use Rattle.chunk_ops.proofs.MeetingCalls.{stays_then}
use Rattle.oak_core.specs.Passes.{call_of, key as sizes, state}
use Rattle.oak_model.specs.Cell.{state_after}
use Rattle.oak_model.specs.State.{State}
use Rattle.oak_model.specs.declared.cells.CellCall.TheVariants.{Put, PutNew}
use Rattle.point_ops.proofs.AnswerLaws.{kept_answer, out_or_dead}
use Rattle.point_ops.proofs.LonePutPins.{away_gets, over_key}
use Rattle.point_ops.proofs.LoneSpots.{spot_stays}
use Rattle.point_ops.proofs.LoneUnderPins.{away_inserts, inserted_keeps, life_keeps, look_keeps, over_refused}
use Rattle.point_ops.proofs.Outcomes.{err_map, ok_map}
use Rattle.point_ops.proofs.PutsAsked.{leaves_value, makes_put, puts_kind, says_new, sets_value}
use Rattle.point_ops.proofs.SpotLaws.{held_under, inserted, learned_held, looked_held, looked_learns, rewrote, uninserted, unput}
use Rattle.point_ops.specs.Halting.{Halts}
use Rattle.point_ops.specs.LonePutLeft.{PutLeavesUnder}
use Rattle.point_ops.specs.Parts.{Answers, WroteSo}
use Rattle.point_ops.specs.PutKinds.{put_by}
use Rattle.point_ops.specs.Spots.{entry_in}
use Rattle.point_ops.specs.declared.puts.Puts.{Puts}
use Rattle.point_ops.specs.declared.halts.Halt.{Halt}
use Rattle.point_ops.specs.declared.spots.Spot.TheVariants.{Present}
use Rattle.std.proofs.Common.{Err, None, Ok, Some, refl, subst, sym, ◌∙◌, ◌≡◌}
use Rattle.std.specs.Prelude.{IfErr, IfOk}
use Rattle.oak_model.specs.declared.cells.CellReply.TheVariants as replies
use Rattle.oak_model.specs.declared.writes.Kind.TheVariants as kinds
use Rattle.point_ops.proofs.puts.put_pinned.Goals as goal

pub insert-requires-clause-kind : goal.insert-requires-clause-kind
insert-requires-clause-kind c = makes_put c.args.value.now c.args.puts _ c.kind.ensures

pub returns-in-Ok-clause-held : goal.returns-in-Ok-clause-held
returns-in-Ok-clause-held c = looked_held (sizes c.args.table.now) (call_of c.args.pass.now) c.args.pin.now.room (state c.args.pass.now) (state c.look_up.new.pass) (state c.insert.new.pass) c.look_up.ensures.under c.insert.ensures.held

pub returns-in-Err-clause-held : goal.returns-in-Err-clause-held
returns-in-Err-clause-held c = looked_held (sizes c.args.table.now) (call_of c.args.pass.now) c.args.pin.now.room (state c.args.pass.now) (state c.look_up.new.pass) (state c.insert.new.pass) c.look_up.ensures.under c.insert.ensures.held

pub returns-in-Ok-clause-got : goal.returns-in-Ok-clause-got
returns-in-Ok-clause-got c = inserted (sizes c.args.table.now) (call_of c.args.pass.now) c.args.key.now (state c.args.pass.now) (state c.look_up.new.pass) (state c.insert.new.pass) _ c.look_up.ensures.own.call c.look_up.ensures.under.learns c.args.pin.now.room (entry_in c.in-Absent.entry) c.in-Absent.floor c.in-Absent.ensures.spot c.args.value.now (put_by c.args.puts c.args.value.now) (leaves_value c.args.value.now c.args.puts) _ replies.New c.in-Ok.at (puts_kind c.args.value.now c.args.puts _ c.kind.ensures) (says_new c.args.value.now c.args.puts) c.in-Ok.ensures.stamp c.in-Ok.ensures.wrote

pub returns-in-Err-clause-learns : goal.returns-in-Err-clause-learns
returns-in-Err-clause-learns c = looked_learns (sizes c.args.table.now) (call_of c.args.pass.now) c.args.key.now (state c.args.pass.now) (state c.look_up.new.pass) (state c.insert.new.pass) _ c.look_up.ensures.own.call c.look_up.ensures.under.learns c.in-Err.ensures.learns

pub returns-in-Err-clause-halted : goal.returns-in-Err-clause-halted
returns-in-Err-clause-halted c = uninserted (sizes c.args.table.now) (call_of c.args.pass.now) c.args.key.now (state c.args.pass.now) (state c.look_up.new.pass) (state c.insert.new.pass) _ c.look_up.ensures.own.call c.look_up.ensures.under.learns c.args.pin.now.room (entry_in c.in-Absent.entry) c.in-Absent.floor c.in-Absent.ensures.spot c.args.value.now (put_by c.args.puts c.args.value.now) (leaves_value c.args.value.now c.args.puts) (sets_value c.args.value.now c.args.puts) c.look_up.ensures.quiet c.in-Err.ensures.learns c.in-Err.halt c.in-Err.ensures.halted

pub returns-in-Ok-overwrite-clause-got : goal.returns-in-Ok-overwrite-clause-got
returns-in-Ok-overwrite-clause-got c = let x = c.in-Ok-overwrite.ensures.wrote c.args.key.now c.in-Present.ensures.spot.life in subst (λ (p : Puts). WroteSo (call_of c.args.pass.now) c.args.key.now (put_by p c.args.value.now) replies.Over c.in-Ok-overwrite.at (state c.args.pass.now) (state c.overwrite.new.pass)) (sym c.in-Always.is) (rewrote (sizes c.args.table.now) (call_of c.args.pass.now) c.args.key.now (state c.args.pass.now) (state c.look_up.new.pass) (state c.overwrite.new.pass) _ c.look_up.ensures.own.call c.look_up.ensures.under.learns c.args.pin.now.room c.in-Present.entry.0 c.in-Present.home.header c.in-Present.home.generation c.in-Present.ensures.spot kinds.Put (Put c.args.value.now) replies.Over c.in-Ok-overwrite.at x.0 (Some c.args.value.now) refl refl refl x.1)

pub returns-in-Err-overwrite-clause-learns : goal.returns-in-Err-overwrite-clause-learns
returns-in-Err-overwrite-clause-learns c = looked_learns (sizes c.args.table.now) (call_of c.args.pass.now) c.args.key.now (state c.args.pass.now) (state c.look_up.new.pass) (state c.overwrite.new.pass) _ c.look_up.ensures.own.call c.look_up.ensures.under.learns c.in-Err-overwrite.ensures.learns

pub returns-in-Err-overwrite-clause-halted : goal.returns-in-Err-overwrite-clause-halted
returns-in-Err-overwrite-clause-halted c = subst (λ (p : Puts). Halts c.in-Err-overwrite.halt (sizes c.args.table.now) (call_of c.args.pass.now) c.args.key.now (put_by p c.args.value.now) (state c.args.pass.now) (state c.overwrite.new.pass)) (sym c.in-Always.is) (unput (sizes c.args.table.now) (call_of c.args.pass.now) c.args.key.now (state c.args.pass.now) (state c.look_up.new.pass) (state c.overwrite.new.pass) _ c.look_up.ensures.own.call c.look_up.ensures.under.learns c.args.pin.now.room c.in-Present.entry.0 c.in-Present.home.header c.in-Present.home.generation c.in-Present.ensures.spot c.args.value.now (Put c.args.value.now) tt tt puts c.look_up.ensures.quiet c.in-Err-overwrite.ensures.learns c.in-Err-overwrite.halt c.in-Err-overwrite.ensures.halted)
  where
    puts : (s : State) → state_after s (Put c.args.value.now) ≡ Some c.args.value.now
    puts None = refl
    puts (Some b) = refl

pub returns-in-Ok-clause-alone : goal.returns-in-Ok-clause-alone
returns-in-Ok-clause-alone c = let z = sizes c.args.table.now in let r = c.args.pin.now.room in let v = state c.args.pass.now in let u = state c.look_up.new.pass in let w = state c.insert.new.pass in
    inserted_keeps z r v w (away_inserts z r c.args.key.now c.args.value.now (entry_in c.in-Absent.entry) c.in-Absent.floor v u w (Ok c.in-Ok.at) c.in-Absent.ensures.alone (c.in-Ok.ensures.alone c.in-Absent.ensures.base))

pub returns-in-Err-clause-alone : goal.returns-in-Err-clause-alone
returns-in-Err-clause-alone c = let z = sizes c.args.table.now in let r = c.args.pin.now.room in let v = state c.args.pass.now in let u = state c.look_up.new.pass in let w = state c.insert.new.pass in
    away_inserts z r c.args.key.now c.args.value.now (entry_in c.in-Absent.entry) c.in-Absent.floor v u w (Err c.in-Err.halt) c.in-Absent.ensures.alone (c.in-Err.ensures.alone c.in-Absent.ensures.base)

pub returns-in-Ok-overwrite-clause-alone : goal.returns-in-Ok-overwrite-clause-alone
returns-in-Ok-overwrite-clause-alone c = let z = sizes c.args.table.now in let r = c.args.pin.now.room in let v = state c.args.pass.now in let u = state c.look_up.new.pass in let w = state c.overwrite.new.pass in
    life_keeps z r c.in-Present.home.header c.in-Present.home.generation c.in-Present.entry c.args.key.now v u w c.in-Present.ensures.alone (c.in-Ok-overwrite.ensures.alone_kept r c.look_up.ensures.under.pin.has)

pub returns-in-Err-overwrite-clause-alone : goal.returns-in-Err-overwrite-clause-alone
returns-in-Err-overwrite-clause-alone c = let z = sizes c.args.table.now in let r = c.args.pin.now.room in let v = state c.args.pass.now in let u = state c.look_up.new.pass in let w = state c.overwrite.new.pass in
    over_refused z r c.in-Present.home.header c.in-Present.home.generation c.in-Present.entry c.args.key.now v u w c.in-Present.ensures.alone c.args.value.now c.in-Present.ensures.spot.has (c.look_up.ensures.under.headers ∙ c.requires.headers)
    c.in-Err-overwrite.halt (c.in-Err-overwrite.ensures.alone r c.look_up.ensures.under.pin.has)

pub returns-in-Ok-clause-alone_left : goal.returns-in-Ok-clause-alone_left
returns-in-Ok-clause-alone_left c = let z = sizes c.args.table.now in let r = c.args.pin.now.room in let v = state c.args.pass.now in let u = state c.look_up.new.pass in let w = state c.insert.new.pass in
    away_gets z r c.args.key.now c.args.value.now (entry_in c.in-Absent.entry) c.in-Absent.floor v u w c.in-Absent.ensures.alone c.in-Ok.ensures.alone_inserts

pub returns-in-Ok-overwrite-clause-alone_left : goal.returns-in-Ok-overwrite-clause-alone_left
returns-in-Ok-overwrite-clause-alone_left c = let z = sizes c.args.table.now in let r = c.args.pin.now.room in let v = state c.args.pass.now in let u = state c.look_up.new.pass in let w = state c.overwrite.new.pass in
    over_key z r c.in-Present.home.header c.in-Present.home.generation c.in-Present.entry c.args.key.now c.args.value.now c.in-Ok-overwrite.at v u w c.in-Present.ensures.alone (c.in-Ok-overwrite.ensures.alone_over r c.look_up.ensures.under.pin.has)

pub returns-in-Ok-overwrite-clause-held : goal.returns-in-Ok-overwrite-clause-held
returns-in-Ok-overwrite-clause-held c = held_under (sizes c.args.table.now) (call_of c.args.pass.now) c.args.pin.now.room (state c.args.pass.now) (state c.look_up.new.pass) (state c.overwrite.new.pass) c.look_up.ensures.under c.overwrite.ensures.held

pub returns-in-Err-overwrite-clause-held : goal.returns-in-Err-overwrite-clause-held
returns-in-Err-overwrite-clause-held c = held_under (sizes c.args.table.now) (call_of c.args.pass.now) c.args.pin.now.room (state c.args.pass.now) (state c.look_up.new.pass) (state c.overwrite.new.pass) c.look_up.ensures.under c.overwrite.ensures.held

pub returns-in-IfAbsent-clause-held : goal.returns-in-IfAbsent-clause-held
returns-in-IfAbsent-clause-held c = held_under (sizes c.args.table.now) (call_of c.args.pass.now) c.args.pin.now.room (state c.args.pass.now) (state c.look_up.new.pass) (state c.keep_life.new.pass) c.look_up.ensures.under (learned_held _ (state c.look_up.new.pass) (state c.keep_life.new.pass) c.keep_life.ensures.only)

pub returns-in-IfAbsent-clause-got : goal.returns-in-IfAbsent-clause-got
returns-in-IfAbsent-clause-got c = subst (λ (p : Puts). IfOk c.keep_life.result (λ y. Answers y (call_of c.args.pass.now) c.args.key.now (put_by p c.args.value.now) (state c.args.pass.now) (state c.keep_life.new.pass))) (sym c.in-IfAbsent.is) (ok_map _ _ c.keep_life.result (λ y x. kept_answer y (sizes c.args.table.now) (call_of c.args.pass.now) c.args.key.now (PutNew c.args.value.now) (state c.args.pass.now) (state c.look_up.new.pass) (state c.keep_life.new.pass) _ c.look_up.ensures.own.call c.look_up.ensures.under.learns (x c.args.value.now c.args.key.now c.in-Present.ensures.spot.life)) c.keep_life.ensures.kept)

pub returns-in-IfAbsent-clause-learns : goal.returns-in-IfAbsent-clause-learns
returns-in-IfAbsent-clause-learns c = err_map _ _ c.keep_life.result (λ why x. looked_learns (sizes c.args.table.now) (call_of c.args.pass.now) c.args.key.now (state c.args.pass.now) (state c.look_up.new.pass) (state c.keep_life.new.pass) _ c.look_up.ensures.own.call c.look_up.ensures.under.learns c.keep_life.ensures.only.learns) c.keep_life.ensures.refused

pub returns-in-IfAbsent-clause-halted : goal.returns-in-IfAbsent-clause-halted
returns-in-IfAbsent-clause-halted c = subst (λ (p : Puts). IfErr c.keep_life.result (λ why. Halts why (sizes c.args.table.now) (call_of c.args.pass.now) c.args.key.now (put_by p c.args.value.now) (state c.args.pass.now) (state c.keep_life.new.pass))) (sym c.in-IfAbsent.is) (err_map _ _ c.keep_life.result (λ why x. subst (λ (y : Halt). Halts y (sizes c.args.table.now) (call_of c.args.pass.now) c.args.key.now (PutNew c.args.value.now) (state c.args.pass.now) (state c.keep_life.new.pass)) (sym x.0) (out_or_dead (sizes c.args.table.now) (call_of c.args.pass.now) c.args.key.now (state c.args.pass.now) (state c.look_up.new.pass) (state c.keep_life.new.pass) _ c.look_up.ensures.own.call c.look_up.ensures.under.learns c.args.pin.now.room c.in-Present.entry.0 c.in-Present.home.header c.in-Present.home.generation c.in-Present.ensures.spot (PutNew c.args.value.now) tt c.keep_life.ensures.only.learns.met x.1)) c.keep_life.ensures.refused)

pub returns-in-IfAbsent-clause-alone : goal.returns-in-IfAbsent-clause-alone
returns-in-IfAbsent-clause-alone c = look_keeps (sizes c.args.table.now) c.args.pin.now.room c.in-Present.home.header c.in-Present.home.generation c.in-Present.entry c.args.key.now c.args.value.now (state c.args.pass.now) (state c.look_up.new.pass) (state c.keep_life.new.pass)
    c.in-Present.ensures.alone c.in-Present.ensures.spot.has (c.look_up.ensures.under.headers ∙ c.requires.headers) c.keep_life.result c.keep_life.ensures.alone c.keep_life.ensures.alone_refused

pub returns-in-IfAbsent-clause-alone_left : goal.returns-in-IfAbsent-clause-alone_left
returns-in-IfAbsent-clause-alone_left c = let z = sizes c.args.table.now in let r = c.args.pin.now.room in let v = state c.args.pass.now in let u = state c.look_up.new.pass in let w = state c.keep_life.new.pass in let key = c.args.key.now in let value = c.args.value.now in
    ok_map _ _ c.keep_life.result (λ y left. stays_then (PutLeavesUnder y z r key value) v u w (spot_stays z r key (Present c.in-Present.entry c.in-Present.home) v u c.in-Present.ensures.alone) (left r key value)) c.keep_life.ensures.alone_left
