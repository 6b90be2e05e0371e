use Rattle.std.proofs.Common.{◌≡◌, length}
use Rattle.oak_core.specs.Passes.{key as sizes}
use Rattle.scan_cursor.specs.LoadingAhead.{ArePlainWords}
use Rattle.scan_cursor.proofs.loading_ahead.put_places.Given as goal

abbrev pub invariant-loop-i : goal.invariant-loop-i
invariant-loop-i l = record {
  long : length l.words ≡ length l.fn.words;
  words : ArePlainWords (sizes l.table) l.words;
}
