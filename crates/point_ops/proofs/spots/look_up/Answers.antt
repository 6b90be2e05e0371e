use Rattle.chunk_ops.specs.declared.entries.Content.TheVariants.{Floor, Value}
use Rattle.point_ops.proofs.LoneSpots.{base_behind, missing_alone, says_alone}
use Rattle.oak_core.specs.Passes.{state, key as sizes, call_of}
use Rattle.oak_core.specs.QuietSteps.{IsQuiet}
use Rattle.oak_core.proofs.calls.QuietCalls.{only_both}
use Rattle.point_ops.proofs.FoundSpots.{away_at_base, away_at_floor, named_life, under_learns, under_meets}
use Rattle.chunk_ops.proofs.PinsKept.{before_kept, belongs_kept, entry_kept}
use Rattle.point_ops.proofs.spots.look_up.Goals as goal

pub returns-in-Missing-clause-under : goal.returns-in-Missing-clause-under
returns-in-Missing-clause-under c = under_meets (sizes c.args.table.now) (call_of c.args.pass.now) c.args.pin.now.room (state c.args.pass.now) (state c.find.new.pass) (state c.base_of.new.pass) c.find.ensures.under (call_of c.find.new.pass) c.find.ensures.own.call c.base_of.ensures.only

pub returns-in-Missing-clause-spot : goal.returns-in-Missing-clause-spot
returns-in-Missing-clause-spot c = away_at_base (sizes c.args.table.now) (call_of c.args.pass.now) c.args.pin.now.room (state c.args.pass.now) (state c.find.new.pass) (state c.base_of.new.pass) c.find.ensures.under (call_of c.find.new.pass) c.find.ensures.own.call
    c.args.key.now c.base_of.result c.requires.covers c.in-Missing.ensures.found.0 c.base_of.ensures.base c.base_of.ensures.only

pub returns-in-Missing-clause-place : goal.returns-in-Missing-clause-place
returns-in-Missing-clause-place c = let r = c.args.pin.now.room in let key = c.args.key.now in let v = state c.find.new.pass in let w = state c.base_of.new.pass in let same = c.base_of.ensures.only.rooms in let f = c.in-Missing.ensures.found in
    (belongs_kept r c.in-Missing.behind key v w same f.1, before_kept r c.in-Missing.link key v w same f.2)

pub returns-in-Floor-clause-under : goal.returns-in-Floor-clause-under
returns-in-Floor-clause-under c = under_learns (sizes c.args.table.now) (call_of c.args.pass.now) c.args.pin.now.room (state c.args.pass.now) (state c.find.new.pass) (state c.content.new.pass) c.find.ensures.under (call_of c.find.new.pass) c.find.ensures.own.call c.content.ensures.only

pub returns-in-Floor-clause-spot : goal.returns-in-Floor-clause-spot
returns-in-Floor-clause-spot c = away_at_floor (sizes c.args.table.now) (call_of c.args.pass.now) c.args.pin.now.room (state c.args.pass.now) (state c.find.new.pass) (state c.content.new.pass) c.find.ensures.under (call_of c.find.new.pass) c.find.ensures.own.call
    c.args.key.now c.in-Entry.entry c.in-Entry.ensures.found c.content.ensures.only c.in-Floor.stamp c.in-Floor.ensures.content (c.in-Floor.ensures.tells c.args.key.now c.in-Entry.ensures.found.entry)

pub returns-in-Floor-clause-place : goal.returns-in-Floor-clause-place
returns-in-Floor-clause-place c = entry_kept c.args.pin.now.room c.in-Entry.entry.0 c.args.key.now (state c.find.new.pass) (state c.content.new.pass) c.content.ensures.only.rooms c.in-Entry.ensures.found.entry

pub returns-in-Value-clause-under : goal.returns-in-Value-clause-under
returns-in-Value-clause-under c = under_learns (sizes c.args.table.now) (call_of c.args.pass.now) c.args.pin.now.room (state c.args.pass.now) (state c.find.new.pass) (state c.content.new.pass) c.find.ensures.under (call_of c.find.new.pass) c.find.ensures.own.call c.content.ensures.only

pub returns-in-Value-clause-spot : goal.returns-in-Value-clause-spot
returns-in-Value-clause-spot c = named_life (sizes c.args.table.now) (call_of c.args.pass.now) c.args.pin.now.room (state c.args.pass.now) (state c.find.new.pass) (state c.content.new.pass) c.find.ensures.under (call_of c.find.new.pass) c.find.ensures.own.call
    c.args.key.now c.in-Entry.entry c.in-Entry.ensures.found c.content.ensures.only c.in-Value.header c.in-Value.generation c.in-Value.ensures.content (c.in-Value.ensures.tells c.args.key.now c.in-Entry.ensures.found.entry)

pub returns-in-Missing-clause-quiet : goal.returns-in-Missing-clause-quiet
returns-in-Missing-clause-quiet c = only_both IsQuiet (state c.args.pass.now) (state c.find.new.pass) (state c.base_of.new.pass) c.find.ensures.quiet c.base_of.ensures.only.quiet

pub returns-in-Floor-clause-quiet : goal.returns-in-Floor-clause-quiet
returns-in-Floor-clause-quiet c = only_both IsQuiet (state c.args.pass.now) (state c.find.new.pass) (state c.content.new.pass) c.find.ensures.quiet c.content.ensures.only.quiet

pub returns-in-Value-clause-quiet : goal.returns-in-Value-clause-quiet
returns-in-Value-clause-quiet c = only_both IsQuiet (state c.args.pass.now) (state c.find.new.pass) (state c.content.new.pass) c.find.ensures.quiet c.content.ensures.only.quiet

pub returns-in-Missing-clause-base : goal.returns-in-Missing-clause-base
returns-in-Missing-clause-base c = base_behind (sizes c.args.table.now) (call_of c.find.new.pass) c.args.pin.now.room c.base_of.result (state c.find.new.pass) (state c.base_of.new.pass) c.base_of.ensures.base c.base_of.ensures.only

pub returns-in-Missing-clause-alone : goal.returns-in-Missing-clause-alone
returns-in-Missing-clause-alone c = missing_alone (sizes c.args.table.now) c.args.pin.now.room c.args.key.now (state c.args.pass.now) (state c.find.new.pass) (state c.base_of.new.pass) (call_of c.find.new.pass) c.in-Missing.ensures.alone c.base_of.ensures.only

pub returns-in-Floor-clause-alone : goal.returns-in-Floor-clause-alone
returns-in-Floor-clause-alone c = says_alone (sizes c.args.table.now) c.args.pin.now.room c.args.key.now (state c.args.pass.now) (state c.find.new.pass) (state c.content.new.pass) c.in-Entry.entry (Floor c.in-Floor.stamp) c.in-Entry.ensures.alone c.in-Floor.ensures.alone

pub returns-in-Value-clause-alone : goal.returns-in-Value-clause-alone
returns-in-Value-clause-alone c = says_alone (sizes c.args.table.now) c.args.pin.now.room c.args.key.now (state c.args.pass.now) (state c.find.new.pass) (state c.content.new.pass) c.in-Entry.entry (Value c.in-Value.header c.in-Value.generation) c.in-Entry.ensures.alone c.in-Value.ensures.alone
