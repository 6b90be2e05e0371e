use Rattle.std.proofs.Common.{take, ◌++◌, arith, length-append}
use Rattle.std.proofs.lemmas.List.{length-take}
use Rattle.outside.proofs.Read.{Consumes-then}
use Rattle.outside.proofs.whole.read_whole.Goals as goal

pub returns-then-is_err-clause-lost : goal.returns-then-is_err-clause-lost
returns-then-is_err-clause-lost g c =
    let piece = take c.in-Ok.count c.read.new.piece in
    let asked = simp length-take at c.read.auto.piece in (
      c.pieces.all.items ++ piece,
      Consumes-then _ _ _ c.pieces.all.items piece c.pieces.invariant.took c.in-Ok.ensures.bytes.0,
      simp length-append (omega (arith, c.pieces.all.ok.0, asked, c.in-Ok.ensures.bound.0, c.in-Ok.ensures.bound.1)),
    )

pub returns-clause-bytes : goal.returns-clause-bytes
returns-clause-bytes g c = (
  c.pieces.all.items,
  record {
    took = c.pieces.invariant.took;
    long = omega (arith, c.pieces.all.ok.0);
  },
)
