use Rattle.std.proofs.Common.{◌∙◌, sym, subst}
use Rattle.chunk_core.specs.declared.holds.RoomHolds.{RoomHolds}
use Rattle.oak_core.specs.Passes.{state, key as sizes, call_of}
use Rattle.oak_core.specs.QuietSteps.{IsQuiet}
use Rattle.oak_core.proofs.calls.QuietCalls.{only_both}
use Rattle.chunk_ops.specs.PinRecords.{PinKept}
use Rattle.point_ops.proofs.LoneSpots.{spot_stays}
use Rattle.point_ops.proofs.Outcomes.{ok_map, err_map}
use Rattle.point_ops.proofs.PinnedLives.{pinned_under, pins_alone, refused_under}
use Rattle.point_ops.proofs.pins.pin_under.Goals as goal

pub returns-in-Present-clause-room : goal.returns-in-Present-clause-room
returns-in-Present-clause-room c = subst (λ (a : RoomHolds). PinKept (sizes c.args.table.now) c.args.pin.now.room (state c.args.pass.now).rooms a) (sym c.pin_life.ensures.rooms) c.look_up.ensures.under.pin

pub returns-in-Present-clause-quiet : goal.returns-in-Present-clause-quiet
returns-in-Present-clause-quiet c = only_both IsQuiet (state c.args.pass.now) (state c.look_up.new.pass) (state c.pin_life.new.pass) c.look_up.ensures.quiet c.pin_life.ensures.quiet

pub returns-in-Present-clause-found : goal.returns-in-Present-clause-found
returns-in-Present-clause-found c = ok_map _ _ c.pin_life.result (λ y l. pinned_under (sizes c.args.table.now) (call_of c.args.pass.now) c.args.pin.now.room c.args.key.now (state c.args.pass.now) (state c.look_up.new.pass) (state c.pin_life.new.pass) c.in-Present.entry c.in-Present.home.header c.in-Present.home.generation
    c.look_up.ensures.under c.in-Present.ensures.spot c.in-Present.ensures.alone (c.look_up.ensures.under.headers ∙ c.requires.none) c.look_up.ensures.quiet (call_of c.look_up.new.pass) c.look_up.ensures.own.call y l) c.pin_life.ensures.pinned

pub returns-in-Present-clause-refused : goal.returns-in-Present-clause-refused
returns-in-Present-clause-refused c = err_map _ _ c.pin_life.result (λ why l. refused_under (sizes c.args.table.now) (call_of c.args.pass.now) c.args.pin.now.room c.args.key.now (state c.args.pass.now) (state c.look_up.new.pass) (state c.pin_life.new.pass) c.in-Present.entry c.in-Present.home.header c.in-Present.home.generation
    c.look_up.ensures.under c.in-Present.ensures.spot c.in-Present.ensures.alone (c.look_up.ensures.under.headers ∙ c.requires.none) c.look_up.ensures.quiet (call_of c.look_up.new.pass) c.look_up.ensures.own.call why l) c.pin_life.ensures.refused

pub returns-in-Absent-clause-alone : goal.returns-in-Absent-clause-alone
returns-in-Absent-clause-alone c = spot_stays (sizes c.args.table.now) c.args.pin.now.room c.args.key.now _ (state c.args.pass.now) (state c.look_up.new.pass) c.look_up.ensures.alone

pub returns-in-Present-clause-alone : goal.returns-in-Present-clause-alone
returns-in-Present-clause-alone c = pins_alone (sizes c.args.table.now) (call_of c.args.pass.now) c.args.pin.now.room c.args.key.now (state c.args.pass.now) (state c.look_up.new.pass) (state c.pin_life.new.pass) c.in-Present.entry c.in-Present.home.header c.in-Present.home.generation
    c.look_up.ensures.under c.in-Present.ensures.spot c.in-Present.ensures.alone (c.look_up.ensures.under.headers ∙ c.requires.none) c.look_up.ensures.quiet (call_of c.look_up.new.pass) c.look_up.ensures.own.call c.pin_life.result c.pin_life.ensures.pinned c.pin_life.ensures.refused
