use Rattle.oak_map.specs.Maps.{call_of, sizes, state}
use Rattle.oak_run.proofs.Endings.{ends_run}
use Rattle.oak_run.proofs.ends.end.Goals as goal

pub returns : goal.returns
returns g c = record {
  ends = ends_run (sizes c.args.map) c.close-closed.result (call_of c.args.pass) (call_of c.settle.new.pass) (call_of c.scanned-finals.new.pass) (state c.args.pass) (state c.settle.new.pass) (state c.scanned-finals.new.pass) c.in_ok-finals.finals.items
      c.settle.ensures.own.call c.close-closed.ensures.key c.close-closed.ensures.state c.settle.ensures.settled c.in_ok-finals.ensures.scanned c.scanned-finals.ensures.ready.idle c.close-closed.ensures.ends c.close-closed.ensures.noted c.close-closed.ensures.places c.close-closed.ensures.settled;
}
