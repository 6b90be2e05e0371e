use Rattle.std.proofs.Common.{◌≡◌, ◌+◌, [], ◌∷◌, ◌++◌, take, sym, ap, ◌∙◌}
use Rattle.std.proofs.lemmas.List.{flat_map_more, take_more}
use Rattle.oak_script.specs.Stamps.{place_among}
use Rattle.oak_script.specs.Text.{read_line}
use Rattle.oak_script.proofs.text.put_pairs.Goals as goal

pub loop-pair-preserved : goal.loop-pair-preserved
loop-pair-preserved c =
    let pairs = c.args.pairs.now in
    let front = take c.loop-pair.pair-index pairs in
    let next : take (c.loop-pair.pair-index + 1) pairs ≡ front ++ c.pair-item.result ∷ [] =
    take_more pairs c.loop-pair.pair-index c.pair-item.result c.loop-pair-test.true ∙ ap (λ y. front ++ y ∷ []) (sym c.pair-item.is) in
    rw (c.in_ok-put-2.ensures, c.as_str-in-loop-pair.ensures.value, c.in_ok-line-2.ensures, c.loop-pair.invariant, next)
    (flat_map_more (read_line (place_among c.args.stamps.now.writes.items)) c.put.new.out.items front c.pair-item.result)
