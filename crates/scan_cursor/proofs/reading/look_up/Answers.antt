use Rattle.std.proofs.Common.{subst}
use Rattle.oak_core.specs.AloneWords.{Runs}
use Rattle.oak_core.specs.Passes.{state, key as sizes, call_of}
use Rattle.oak_core.specs.QuietSteps.{IsQuiet}
use Rattle.oak_core.proofs.calls.QuietCalls.{only_both}
use Rattle.chunk_ops.specs.declared.entries.Content.{Content}
use Rattle.chunk_ops.specs.declared.entries.Content.TheVariants.{Value}
use Rattle.chunk_ops.specs.declared.entries.Found.{Found}
use Rattle.chunk_ops.specs.Contents.{SaysIn}
use Rattle.chunk_ops.specs.FindsAlone.{FindsIn}
use Rattle.point_ops.proofs.LoneSpots.{says_alone}
use Rattle.scan_cursor.proofs.RoomReads.{floor_up, found_stays, life_up, missing_up, said_stays, under_learned}
use Rattle.scan_cursor.proofs.reading.look_up.Goals as goal

pub returns-in-Missing-clause-found : goal.returns-in-Missing-clause-found
returns-in-Missing-clause-found c = missing_up (sizes c.args.table.now) (call_of c.args.pass.now) c.args.pin.now.room c.args.key.now (state c.args.pass.now) (state c.find.new.pass) c.find.ensures.under c.requires.covers c.in-Missing.ensures.found.0

pub returns-in-Missing-clause-still : goal.returns-in-Missing-clause-still
returns-in-Missing-clause-still c = found_stays (sizes c.args.table.now) c.args.pin.now.room c.args.key.now _ (state c.args.pass.now) (state c.find.new.pass) c.find.ensures.alone

pub returns-in-Value-clause-under : goal.returns-in-Value-clause-under
returns-in-Value-clause-under c = under_learned (sizes c.args.table.now) (call_of c.args.pass.now) c.args.pin.now.room c.args.key.now (state c.args.pass.now) (state c.find.new.pass) c.find.ensures.under (state c.content.new.pass) _ c.find.ensures.own.call c.content.ensures.only

pub returns-in-Value-clause-found : goal.returns-in-Value-clause-found
returns-in-Value-clause-found c = life_up (sizes c.args.table.now) (call_of c.args.pass.now) c.args.pin.now.room c.args.key.now (state c.args.pass.now) (state c.find.new.pass) c.find.ensures.under (state c.content.new.pass) _ c.find.ensures.own.call
    c.in-Entry.entry.0 c.in-Value.header c.in-Value.generation c.in-Value.ensures.content (c.in-Value.ensures.tells c.args.key.now c.in-Entry.ensures.found.entry)

pub returns-in-Value-clause-quiet : goal.returns-in-Value-clause-quiet
returns-in-Value-clause-quiet c = only_both IsQuiet (state c.args.pass.now) (state c.find.new.pass) (state c.content.new.pass) c.find.ensures.quiet c.content.ensures.only.quiet

pub returns-in-Value-clause-still : goal.returns-in-Value-clause-still
returns-in-Value-clause-still c = said_stays (sizes c.args.table.now) c.args.pin.now.room c.in-Entry.entry.0 c.args.key.now _ _ (state c.args.pass.now) (state c.find.new.pass) (state c.content.new.pass) c.find.ensures.alone c.content.ensures.alone

pub returns-in-Floor-clause-under : goal.returns-in-Floor-clause-under
returns-in-Floor-clause-under c = under_learned (sizes c.args.table.now) (call_of c.args.pass.now) c.args.pin.now.room c.args.key.now (state c.args.pass.now) (state c.find.new.pass) c.find.ensures.under (state c.content.new.pass) _ c.find.ensures.own.call c.content.ensures.only

pub returns-in-Floor-clause-found : goal.returns-in-Floor-clause-found
returns-in-Floor-clause-found c = floor_up (sizes c.args.table.now) (call_of c.args.pass.now) c.args.pin.now.room c.args.key.now (state c.args.pass.now) (state c.find.new.pass) c.find.ensures.under (state c.content.new.pass) _ c.find.ensures.own.call
    c.in-Entry.entry.0 c.in-Floor.stamp c.find.ensures.quiet (c.in-Floor.ensures.tells c.args.key.now c.in-Entry.ensures.found.entry)

pub returns-in-Floor-clause-quiet : goal.returns-in-Floor-clause-quiet
returns-in-Floor-clause-quiet c = only_both IsQuiet (state c.args.pass.now) (state c.find.new.pass) (state c.content.new.pass) c.find.ensures.quiet c.content.ensures.only.quiet

pub returns-in-Floor-clause-still : goal.returns-in-Floor-clause-still
returns-in-Floor-clause-still c = said_stays (sizes c.args.table.now) c.args.pin.now.room c.in-Entry.entry.0 c.args.key.now _ _ (state c.args.pass.now) (state c.find.new.pass) (state c.content.new.pass) c.find.ensures.alone c.content.ensures.alone

pub returns-in-Value-clause-named : goal.returns-in-Value-clause-named
returns-in-Value-clause-named c = let z = sizes c.args.table.now in let v = state c.args.pass.now in let u = state c.find.new.pass in (
  c.in-Entry.entry,
  says_alone z c.args.pin.now.room c.args.key.now v u (state c.content.new.pass) c.in-Entry.entry (Value c.in-Value.header c.in-Value.generation)
      (subst (λ (x : Found). Runs (FindsIn z c.args.pin.now.room c.args.key.now x) v u) c.in-Entry.is c.find.ensures.alone)
      (subst (λ (x : Content). Runs (SaysIn x z c.args.pin.now.room c.in-Entry.entry.0) u (state c.content.new.pass)) c.in-Value.is c.content.ensures.alone),
)
