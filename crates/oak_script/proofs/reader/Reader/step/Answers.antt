use Rattle.std.proofs.Common.{◌≡◌, List, ℕ, ◌∷◌, map, take, rules, arith}
use denote.Ref.{Bor}
use Rattle.oak_script.specs.Lines.{Words, words_of}
use Rattle.oak_script.proofs.PastLemmas.{lines-few}
use Rattle.oak_script.proofs.StepLemmas.{step_stops, step_took}
use Rattle.oak_script.proofs.reader.Reader.step.Goals as goal

pub overflow_add-self : goal.overflow_add-self
overflow_add-self c = let s = c.args.self.now in omega (arith, c.requires.count, lines-few s.stage s.calls c.requires.fit)

pub returns-in-Ok-clause-went : goal.returns-in-Ok-clause-went
returns-in-Ok-clause-went c _ =
    let s = c.args.self.now in
    let words : Words = map (λ (w : Bor (List ℕ)). w.now) c.deref.result.now in
    let first : s.lines ≡ c.in-Some.line.now ∷ c.next_line.new.self = search rules in
    let cut : words ≡ take 9 (words_of c.in-Some.line.now) = search rules in
    step_took s.stage s.calls s.lines c.next_line.new.self c.in-Some.line.now words _ first cut c.in-Ok.ensures.fine c.in-Ok.ensures.grown

pub returns-clause-err : goal.returns-clause-err
returns-clause-err c =
    let s = c.args.self.now in
    let words : Words = map (λ (w : Bor (List ℕ)). w.now) c.deref.result.now in
    let first : s.lines ≡ c.in-Some.line.now ∷ c.next_line.new.self = search rules in
    let cut : words ≡ take 9 (words_of c.in-Some.line.now) = search rules in
    step_stops s.stage s.calls s.lines c.next_line.new.self c.in-Some.line.now words c.in-Err.stop first cut c.in-Err.ensures.err
