use Rattle.std.proofs.Common.{◌≡◌, ◌*◌, ◌++◌, length, take, replicate}
use Rattle.oak_model.specs.declared.limits.TheConstants.{GREATEST_KEY}
use Rattle.oak_model.specs.WordBytes.{bytes_of}
use Rattle.arena_core.specs.Words.{words_of}
use Rattle.arena_core.proofs.words.key_in_place.Given as goal

abbrev pub invariant-loop-i : goal.invariant-loop-i
invariant-loop-i l = record {
  long : length l.bytes ≡ GREATEST_KEY;
  copied : take (8 * l.i) l.bytes ≡ take (8 * l.i) (take GREATEST_KEY (bytes_of (words_of l.key ++ replicate 8 0)));
}
