use Rattle.std.proofs.Common.{rules, ◌≡◌, ◌&&◌, ◌==◌, length, true}
use Rattle.oak_script.specs.Forms.{is_hex}
use Rattle.oak_script.proofs.HexWords.{byte-read}
use Rattle.oak_script.proofs.recipes.byte_of.Goals as goal

pub returns-in-Ok-clause-spelled : goal.returns-in-Ok-clause-spelled
returns-in-Ok-clause-spelled c =
    let is : (length c.args.word.now == 2 && is_hex c.args.word.now) ≡ true = search rules in
    let r = byte-read c.args.word.now is in
    let p = rw r.1 at c.in-Ok.ensures.value in
    rw p.1 r.2

pub returns-in-Err-clause-found : goal.returns-in-Err-clause-found
returns-in-Err-clause-found c =
    let is : (length c.args.word.now == 2 && is_hex c.args.word.now) ≡ true = search rules in
    let r = byte-read c.args.word.now is in
    let p = rw r.1 at c.in-Err.ensures.value in
    absurd cc
