use Rattle.std.proofs.Common.{◌≡◌, ◌≢◌, ℕ, ◌-◌, ◌*◌, List, length, take, ap, ◌∙◌, subst, MatchBool}
use Rattle.oak_model.specs.WordBytes.{word_bytes}
use Rattle.arena_core.specs.Words.{bytes_in}
use Rattle.oak_core.specs.Passes.{state, key}
use Rattle.value_ops.specs.PinnedValues.{value_under}
use Rattle.value_ops.proofs.ValueFacts.{bytes_loaded}
use Rattle.value_ops.proofs.pinned_value.PinnedValue.same_in_word.Goals as goal

pub returns-clause-same : goal.returns-clause-same
returns-clause-same c = let v = state c.args.pass.now in let i = c.args.i in let other = c.args.other.now in
    let ours : take (length other - 8 * i) (word_bytes c.word.result) ≡ bytes_in i (value_under v) = ap (λ (n : ℕ). take (n - 8 * i) (word_bytes c.word.result)) c.requires.long ∙ bytes_loaded (key c.args.table.now) c.args.self v c.requires.pinned i c.requires.inside c.word.result c.word.ensures.word in
    subst (λ (t : List ℕ). MatchBool c.is_word.result (bytes_in i other ≡ t) (bytes_in i other ≢ t)) ours c.is_word.ensures
