use Rattle.std.proofs.Common.{◌≡◌, ◌++◌, take}
use Rattle.std.specs.List.{flat_map}
use Rattle.oak_script.specs.Stamps.{place_among}
use Rattle.oak_script.specs.Text.{read_line}
use Rattle.oak_script.proofs.text.put_pairs.Given as goal

abbrev pub invariant-loop-pair : goal.invariant-loop-pair
invariant-loop-pair l =
    l.out.items ≡ l.initial.out.items ++ flat_map (read_line (place_among l.stamps.writes.items)) (take l.pair-index l.pairs)
