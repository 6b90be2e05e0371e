use Rattle.std.proofs.Common.{arith, length-set, ◌∙◌, ◌≡◌, ◌<◌, ℕ, List, slice_index, length}
use Rattle.oak_model.specs.declared.limits.TheConstants.{CLASSES}
use Rattle.oak_model.specs.Limits.{Sizes}
use Rattle.oak_core.specs.Memory.{memory}
use Rattle.oak_core.specs.Closing.{closed_key, closed_words}
use Rattle.oak_core.specs.Usage.{used_blocks}
use Rattle.oak_core.proofs.memory.UsedWords.{row_more, row_full}
use Rattle.oak_core.proofs.closing.Closed.usage.Goals as goal

pub loop-class-preserved : goal.loop-class-preserved
loop-class-preserved c = let z : Sizes = closed_key c.args.self.now in let ws : List ℕ = closed_words c.args.self.now in let long : length c.loop-class.blocks ≡ CLASSES = c.loop-class.invariant.long in let lt : c.loop-class.class < CLASSES = c.loop-class-test.true in record {
  long = length-set c.loop-class.blocks c.loop-class.class c.used_blocks.result ∙ long;
  each = row_more (used_blocks z (memory z ws)) c.loop-class.blocks c.loop-class.class c.used_blocks.result (omega arith) c.loop-class.invariant.each c.used_blocks.ensures;
}

pub returns : goal.returns
returns c = let z : Sizes = closed_key c.args.self.now in let ws : List ℕ = closed_words c.args.self.now in
    let full : (k : ℕ) → k < CLASSES → slice_index c.loop-class.blocks k ≡ used_blocks z (memory z ws) k = λ k lt. let over = c.loop-class-test.false in c.loop-class.invariant.each k (omega arith) in
    λ i. record { blocks = row_full (used_blocks z (memory z ws)) c.loop-class.blocks CLASSES c.loop-class.invariant.long full i; headers = c.used_headers.ensures i; chunks = c.used_chunks.ensures i }
