use Rattle.std.proofs.Common.{◌-◌, ◌+◌, ◌≤◌, vec_len}
use Rattle.std.specs.Io.KnownBytes.{Consumes}
use Rattle.outside.proofs.whole.read_whole.Given as goal

abbrev pub invariant-pieces : goal.invariant-pieces
invariant-pieces g l = record {
  took : Consumes (g.S.Source.left l.initial.source) (g.S.Source.left l.source) l.all.items;
  short : vec_len l.all ≤ l.most + 1;
  later : g.S.Source.faults l.initial.source ≤ g.S.Source.faults l.source;
}

abbrev pub decreases-pieces : goal.decreases-pieces
decreases-pieces g l = l.most + 1 - vec_len l.all
