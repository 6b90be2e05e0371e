use Rattle.std.proofs.Common.{length}
use Rattle.oak_script.specs.Lines.{text_words}
use Rattle.oak_script.specs.Reading.{so_far, CallsFit}
use Rattle.oak_script.proofs.PlaceLemmas.{Goes}
use Rattle.oak_script.proofs.reader.read_lines.Given as goal

abbrev pub invariant-lines : goal.invariant-lines
invariant-lines l = record {
  goes : Goes (text_words l.text) (so_far l.reader.stage l.reader.calls) l.reader.lines l.reader.number;
  fit : CallsFit l.reader.stage l.reader.calls;
}

abbrev pub decreases-lines : goal.decreases-lines
decreases-lines l = length l.reader.lines
