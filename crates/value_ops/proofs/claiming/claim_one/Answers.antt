use Rattle.std.proofs.Common.{rules, ◌≡◌, ◌+◌, true, false, sym, ◌∙◌, arith, eqb-true}
use Rattle.std.proofs.lemmas.Bool.{eqb-false}
use Rattle.oak_model.specs.Limits.{Sizes}
use Rattle.pin_word.specs.PinWord.{STATE}
use Rattle.header_core.specs.HeaderStep.{claim_header}
use Rattle.oak_core.specs.Passes.{state, key, call_of}
use Rattle.oak_core.specs.Step.{on_headers}
use Rattle.oak_core.specs.Usage.{is_free}
use Rattle.oak_core.proofs.memory.HeaderNames.{pin_below}
use Rattle.value_ops.proofs.ExchangeFacts.{state_fits}
use Rattle.value_ops.proofs.ClaimLaws.{claims_behind}
use Rattle.oak_core.proofs.calls.MetMore.{told_in}
use Rattle.value_ops.proofs.ClaimFacts.{free_word, loaded, loaded_unfree, claims, lost}
use Rattle.value_ops.proofs.claiming.claim_one.Goals as goal

pub load-seen-requires-clause-inside : goal.load-seen-requires-clause-inside
load-seen-requires-clause-inside c = let n = c.requires.names in pin_below (key c.args.table.now) n.0 c.args.word n.1.inside n.1.word_is

pub returns-then-not-is_free-clause-taken : goal.returns-then-not-is_free-clause-taken
returns-then-not-is_free-clause-taken c = λ h names _. let unfree : c.is_free.result ≡ false = search rules in
    loaded_unfree (key c.args.table.now) (call_of c.args.pass.now) h names.inside c.args.word c.load-seen.result (state c.args.pass.now) (state c.load-seen.new.pass) names.word_is c.load-seen.ensures.loaded (sym c.is_free.ensures ∙ unfree)

pub overflow_add-seen : goal.overflow_add-seen
overflow_add-seen c = let free : c.is_free.result ≡ true = search rules in let s = (free_word c.load-seen.result (sym c.is_free.ensures ∙ free)).state in let h = state_fits c.load-seen.result c.load-seen.type_inv (omega arith) in omega arith

pub claim_header-requires-clause-names : goal.claim_header-requires-clause-names
claim_header-requires-clause-names c = let free : c.is_free.result ≡ true = search rules in let n = c.requires.names in
    (n.0, record { inside = n.1.inside; word_is = n.1.word_is; unpinned = free_word c.load-seen.result (sym c.is_free.ensures ∙ free); new_is = (λ i. c.load-seen.result + STATE) })

pub returns-clause-claimed : goal.returns-clause-claimed
returns-clause-claimed c = λ h names e. let z : Sizes = key c.args.table.now in let call = call_of c.args.pass.now in let n = c.load-seen.result in let v = state c.args.pass.now in let u = state c.load-seen.new.pass in let w = state c.claim_header.new.pass in
    let free = free_word n (sym c.is_free.ensures ∙ c.if-not-is_free.false) in
    claims_behind z call h v u w (λ k. ⊥) (loaded z call c.args.word n h v u names.inside names.word_is c.load-seen.ensures.loaded)
    (claims z call h names.inside n c.claim_header.result u w
    (told_in z call (call_of c.load-seen.new.pass) (on_headers (claim_header h n)) u c.claim_header.result w c.load-seen.ensures.own.call
    (c.claim_header.ensures.told h record { inside = names.inside; word_is = names.word_is; unpinned = free; new_is = (λ i. n + STATE) }))
    (eqb-true c.claim_header.result n e) free)

pub returns-clause-taken : goal.returns-clause-taken
returns-clause-taken c = λ h names e. let z : Sizes = key c.args.table.now in let call = call_of c.args.pass.now in let n = c.load-seen.result in let v = state c.args.pass.now in let u = state c.load-seen.new.pass in let w = state c.claim_header.new.pass in
    let free : is_free n ≡ true = sym c.is_free.ensures ∙ c.if-not-is_free.false in
    lost z call h names.inside c.args.word n c.claim_header.result v u w names.word_is c.load-seen.ensures.loaded free
    (told_in z call (call_of c.load-seen.new.pass) (on_headers (claim_header h n)) u c.claim_header.result w c.load-seen.ensures.own.call
    (c.claim_header.ensures.told h record { inside = names.inside; word_is = names.word_is; unpinned = free_word n free; new_is = (λ i. n + STATE) }))
    (eqb-false c.claim_header.result n e)
