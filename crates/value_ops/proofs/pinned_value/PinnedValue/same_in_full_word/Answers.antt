use Rattle.std.proofs.Common.{◌≡◌, ◌≢◌, ◌==◌, ℕ, ◌-◌, ◌*◌, ◌<◌, List, length, take, ap, ◌∙◌, subst, MatchBool, arith, w64}
use Rattle.std.specs.Int.{from_be_bytes}
use Rattle.oak_model.specs.WordBytes.{word_bytes}
use Rattle.arena_core.specs.Words.{bytes_in, word_of}
use Rattle.arena_core.proofs.WordLaws.{filled_whole, whole_long, whole_same}
use Rattle.oak_core.specs.Passes.{state, key}
use Rattle.value_ops.specs.PinnedValues.{value_under}
use Rattle.value_ops.proofs.ValueFacts.{bytes_loaded}
use Rattle.value_ops.proofs.pinned_value.PinnedValue.same_in_full_word.Goals as goal

pub returns-clause-same : goal.returns-clause-same
unfolding word_of
returns-clause-same c = let v = state c.args.pass.now in let i = c.args.i in let other = c.args.other.now in let w = c.word.result in let le = c.requires.inside in
    let number : c.full_word.result ≡ from_be_bytes w64 (bytes_in i other) = c.full_word.ensures ∙ ap (from_be_bytes w64) (filled_whole (bytes_in i other) (whole_long other i le)) in
    let inside : 8 * i < length (value_under v) = let e = c.requires.long in omega arith in
    let ours : take (length other - 8 * i) (word_bytes w) ≡ bytes_in i (value_under v) = ap (λ (n : ℕ). take (n - 8 * i) (word_bytes w)) c.requires.long ∙ bytes_loaded (key c.args.table.now) c.args.self v c.requires.pinned i inside w c.word.ensures.word in
    subst (λ (t : List ℕ). MatchBool (c.full_word.result == w) (bytes_in i other ≡ t) (bytes_in i other ≢ t)) ours (whole_same other (λ k. (c.type_inv.other k).fits) i c.full_word.result w le number c.word.type_inv)
