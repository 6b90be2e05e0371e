use Rattle.std.proofs.Common.{ℕ, ◌/◌, ◌%◌, ◌<◌, List, get_or, sym, ap, ◌∙◌, subst}
use Rattle.oak_model.specs.WordBytes.{word_bytes}
use Rattle.arena_core.proofs.ByteFacts.{byte_in}
use Rattle.oak_core.specs.Passes.{state, key}
use Rattle.value_ops.proofs.ValueFacts.{words_are, value_is, room, long}
use Rattle.value_ops.proofs.pinned_value.PinnedValue.byte.Goals as goal

pub returns-clause-byte : goal.returns-clause-byte
returns-clause-byte c = let z = key c.args.table.now in let x = c.args.self in let v = state c.args.pass.now in let is = c.requires.pinned in let i = c.args.i in
    ap (λ (xs : List ℕ). get_or xs (i % 8) 0) c.to_be_bytes.ensures
    ∙ (ap (λ (n : ℕ). get_or (word_bytes n) (i % 8) 0) (c.word.ensures.word ∙ ap (λ (ws : List ℕ). get_or ws (i / 8) 0) (words_are z x v is))
    ∙ (byte_in is.pin.words x.length i (subst (λ (n : ℕ). i < n) (long z x v is) c.requires.inside) (room z x v is) ∙ ap (λ (xs : List ℕ). get_or xs i 0) (sym (value_is z x v is))))
