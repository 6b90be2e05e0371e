use Rattle.hex.proofs.HexLemmas.{decode_of-ok}
use Rattle.oak_script.proofs.HexWords.{hex-back}
use Rattle.oak_script.proofs.words.decode_word.Goals as goal

pub returns-in-Ok-clause-ok : goal.returns-in-Ok-clause-ok
returns-in-Ok-clause-ok c =
    let word = c.args.word.now in
    let ok = decode_of-ok word c.in-Ok.bytes.items c.in-Ok.ensures.ok in
    record { spelled = hex-back word c.in-Ok.bytes.items c.requires c.in-Ok.ensures.ok; in_range = ok.3; twice = ok.2 }
