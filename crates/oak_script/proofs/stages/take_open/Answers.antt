use Rattle.std.proofs.Common.{◌≡◌, ◌<◌, List, ℕ, ◌∷◌, [], ◌++◌, map, None, false, length, ap, ◌∙◌, rules, arith}
use denote.Ref.{Bor}
use Rattle.std.specs.List.{flat_map}
use Rattle.std.proofs.lemmas.Result.{err_from_is_err_and}
use Rattle.oak_script.specs.Lines.{Words}
use Rattle.oak_script.specs.Grammar.{thread_line, thread_lines}
use Rattle.oak_script.specs.Forms.{is_thread, is_end}
use Rattle.oak_script.proofs.OpenLemmas.{open_stops, open-called}
use Rattle.oak_script.proofs.ThreadLemmas.{begun-lines, called-lines, called-length}
use Rattle.oak_script.proofs.stages.take_open.Goals as goal

pub returns-then-is_thread-clause-more : goal.returns-then-is_thread-clause-more
returns-then-is_thread-clause-more c _ =
    let line : Words = map (λ (w : Bor (List ℕ)). w.now) c.args.words.now in
    let is : line ≡ thread_line = search rules in
    rw (c.in_ok-begin_thread.ensures.ok, is) (begun-lines c.args.calls.now)

pub returns-in_err-call-clause-err : goal.returns-in_err-call-clause-err
returns-in_err-call-clause-err c =
    let p = err_from_is_err_and c.from_residual-in_err-call.result c.from_residual-in_err-call.ensures.1 in
    let line : Words = map (λ (w : Bor (List ℕ)). w.now) c.args.words.now in
    let thread : is_thread line ≡ false = search rules in
    let end_ : is_end line ≡ false = search rules in
    rw (p.1, p.2) (open_stops None c.args.calls.now line c.in_err-call.field-0.0 c.requires.some thread end_ c.in_err-call.ensures.err)

pub returns-in_err-push-clause-err : goal.returns-in_err-push-clause-err
returns-in_err-push-clause-err c =
    let p = err_from_is_err_and c.from_residual-in_err-push.result c.from_residual-in_err-push.ensures.1 in
    let line : Words = map (λ (w : Bor (List ℕ)). w.now) c.args.words.now in
    let thread : is_thread line ≡ false = search rules in
    let end_ : is_end line ≡ false = search rules in
    let same = open-called None c.args.calls.now line c.in_ok-call.call c.requires.some thread end_ c.in_ok-call.ensures.ok c.in_ok-call.ensures.fine in
    rw (p.1, p.2, same) c.in_err-push.ensures.err

pub returns-clause-fine : goal.returns-clause-fine
returns-clause-fine c =
    let line : Words = map (λ (w : Bor (List ℕ)). w.now) c.args.words.now in
    let thread : is_thread line ≡ false = search rules in
    let end_ : is_end line ≡ false = search rules in
    open-called None c.args.calls.now line c.in_ok-call.call c.requires.some thread end_ c.in_ok-call.ensures.ok c.in_ok-call.ensures.fine ∙ c.in_ok-push.ensures.fine

pub returns-clause-more : goal.returns-clause-more
returns-clause-more c _ =
    let before = c.args.calls.now in
    rw c.in_ok-push.ensures.ok (called-lines before c.in_ok-call.call c.requires.some ∙ ap (λ (l : List (List ℕ)). flat_map thread_lines before ++ l ∷ []) c.in_ok-call.ensures.ok)

pub returns-clause-fit : goal.returns-clause-fit
returns-clause-fit c _ =
    let count = called-length c.args.calls.now c.in_ok-call.call in
    let some : 0 < length c.push.new.self = rw c.in_ok-push.ensures.ok (omega (arith, count, c.requires.some)) in
    (some, c.in_ok-push.ensures.fit)
