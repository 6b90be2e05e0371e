use Rattle.point_ops.proofs.LoneCalls.{life_got}
use Rattle.point_ops.proofs.LoneSpots.{spot_stays}
use Rattle.std.proofs.Common.{◌∙◌}
use Rattle.oak_core.specs.Passes.{state, key as sizes, call_of}
use Rattle.oak_core.specs.QuietSteps.{IsQuiet}
use Rattle.oak_core.proofs.calls.QuietCalls.{only_both}
use Rattle.point_ops.proofs.GetLaws.{learned_under, looked_gets, looked_locked}
use Rattle.point_ops.proofs.Outcomes.{ok_map, err_map}
use Rattle.point_ops.proofs.gets.get_pinned.Goals as goal

pub returns-in-Present-clause-under : goal.returns-in-Present-clause-under
returns-in-Present-clause-under c = learned_under (sizes c.args.table.now) (call_of c.args.pass.now) c.args.pin.now.room (state c.args.pass.now) (state c.look_up.new.pass) (state c.get_life.new.pass) _ c.look_up.ensures.own.call c.look_up.ensures.under c.get_life.ensures.only

pub returns-in-Present-clause-quiet : goal.returns-in-Present-clause-quiet
returns-in-Present-clause-quiet c = only_both IsQuiet (state c.args.pass.now) (state c.look_up.new.pass) (state c.get_life.new.pass) c.look_up.ensures.quiet c.get_life.ensures.only.quiet

pub returns-in-Present-clause-got : goal.returns-in-Present-clause-got
returns-in-Present-clause-got c = ok_map _ _ c.get_life.result (λ x l. looked_gets x (sizes c.args.table.now) c.args.key.now (call_of c.args.pass.now) (state c.args.pass.now) (state c.look_up.new.pass) (state c.get_life.new.pass) c.look_up.ensures.under.learns l) c.get_life.ensures.got

pub returns-in-Present-clause-halted : goal.returns-in-Present-clause-halted
returns-in-Present-clause-halted c = err_map _ _ c.get_life.result (λ why l. looked_locked (sizes c.args.table.now) (call_of c.args.pass.now) c.args.key.now (state c.args.pass.now) (state c.look_up.new.pass) (state c.get_life.new.pass) _ c.look_up.ensures.own.call c.look_up.ensures.under.learns
    c.args.pin.now.room c.in-Present.entry.0 c.in-Present.home.header c.in-Present.home.generation c.in-Present.ensures.spot c.get_life.ensures.only.learns why l) c.get_life.ensures.refused

pub returns-in-Absent-clause-alone : goal.returns-in-Absent-clause-alone
returns-in-Absent-clause-alone c = spot_stays (sizes c.args.table.now) c.args.pin.now.room c.args.key.now _ (state c.args.pass.now) (state c.look_up.new.pass) c.look_up.ensures.alone

pub returns-in-Present-clause-alone : goal.returns-in-Present-clause-alone
returns-in-Present-clause-alone c = life_got (sizes c.args.table.now) c.args.pin.now.room c.in-Present.home.header c.in-Present.home.generation c.in-Present.entry c.args.key.now (state c.args.pass.now) (state c.look_up.new.pass) (state c.get_life.new.pass)
    c.in-Present.ensures.alone c.in-Present.ensures.spot.has (c.look_up.ensures.under.headers ∙ c.requires.none) c.get_life.ensures.only.still c.get_life.result c.get_life.ensures.alone
