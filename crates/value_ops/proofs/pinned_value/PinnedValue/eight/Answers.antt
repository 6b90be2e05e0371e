use Rattle.std.proofs.Common.{ℕ, ◌+◌, ◌*◌, ◌≤◌, List, get_or, sym, ap, ◌∙◌, subst, w64}
use Rattle.std.specs.Int.{from_be_bytes}
use Rattle.std.specs.List.{slice_range}
use Rattle.arena_core.proofs.ByteFacts.{eight_in}
use Rattle.oak_core.specs.Passes.{state, key}
use Rattle.value_ops.proofs.ValueFacts.{words_are, value_is, room, long}
use Rattle.value_ops.proofs.pinned_value.PinnedValue.eight.Goals as goal

pub returns-clause-eight : goal.returns-clause-eight
returns-clause-eight c = let z = key c.args.table.now in let x = c.args.self in let v = state c.args.pass.now in let is = c.requires.pinned in let i = c.args.i in
    eight_in is.pin.words x.length i c.word.result (subst (λ (n : ℕ). 8 * i + 8 ≤ n) (long z x v is) c.requires.inside) (room z x v is) (c.word.ensures.word ∙ ap (λ (ws : List ℕ). get_or ws i 0) (words_are z x v is)) c.word.type_inv
    ∙ ap (λ (xs : List ℕ). from_be_bytes w64 (slice_range xs (8 * i) (8 * i + 8))) (sym (value_is z x v is))
