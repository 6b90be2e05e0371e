use Rattle.std.proofs.Common.{refl, arith, ap, ◌∙◌, ◌≡◌, ◌<◌, ◌+◌, ◌*◌, ℕ, List, Bool, not, slice_index}
use Rattle.oak_model.specs.Limits.{Sizes}
use Rattle.oak_model.specs.Counts.{below, one_if}
use Rattle.oak_model.proofs.Counting.{one_if_le}
use Rattle.oak_core.specs.Memory.{memory}
use Rattle.oak_core.specs.Closing.{closed_key, closed_words}
use Rattle.oak_core.specs.Usage.{is_free}
use Rattle.oak_core.proofs.memory.UsedWords.{header_word, counted_more, one_of_test}
use Rattle.oak_core.proofs.closing.Closed.used_headers.Goals as goal

pub loop-header-init : goal.loop-header-init
unfolding below
loop-header-init c = record { counted = refl; small = omega arith }

pub loop-header-preserved : goal.loop-header-preserved
loop-header-preserved c = let z : Sizes = closed_key c.args.self.now in let ws : List ℕ = closed_words c.args.self.now in let n = c.header_count-headers.ensures.is in let lt : c.loop-header.header < z.headers = omega arith in
    let w = header_word z ws c.loop-header.header lt in
    let was : c.loop-header.used ≡ below (λ h. one_if (not (is_free ((memory z ws).headers.pin h)))) c.loop-header.header = c.loop-header.invariant.counted in
    let one : c.from-used.result ≡ one_if (not c.is_free.result) = c.from-used.ensures ∙ one_of_test (not c.is_free.result) in record {
      counted = counted_more (λ h. one_if (not (is_free ((memory z ws).headers.pin h)))) c.loop-header.header c.loop-header.used c.from-used.result was
          (one ∙ (ap (λ (b : Bool). one_if (not b)) c.is_free.ensures ∙ ap (λ (k : ℕ). one_if (not (is_free k))) (c.word-word.ensures ∙ (ap (λ (k : ℕ). slice_index ws (k + c.loop-header.header * 3)) c.headers_at-first.ensures.is ∙ w.1))));
      small = let o = one_if_le (not c.is_free.result) in let s = c.loop-header.invariant.small in omega arith;
    }
