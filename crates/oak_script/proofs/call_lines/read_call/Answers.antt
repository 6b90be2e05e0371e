use Rattle.std.proofs.Common.{List, ℕ, map, arith}
use denote.Ref.{Bor}
use Rattle.std.proofs.lemmas.List.{length-map}
use Rattle.oak_script.proofs.FormLemmas.{short_line, long_line}
use Rattle.oak_script.proofs.call_lines.read_call.Goals as goal

pub returns-in-empty-clause-err : goal.returns-in-empty-clause-err
returns-in-empty-clause-err c =
    let now = λ (w : Bor (List ℕ)). w.now in
    short_line (map now c.args.words.now) (omega (arith, length-map c.args.words.now now))

pub returns-in_default-clause-err : goal.returns-in_default-clause-err
returns-in_default-clause-err c =
    let now = λ (w : Bor (List ℕ)). w.now in
    long_line (map now c.args.words.now) (omega (arith, length-map c.args.words.now now))
