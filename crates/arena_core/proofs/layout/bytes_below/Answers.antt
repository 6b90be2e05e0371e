use Rattle.std.proofs.Common.{refl, add-one, arith, ap, ◌≡◌, ◌+◌, ◌*◌, ◌<◌, ℕ, slice_index, pow-suc}
use Rattle.oak_model.specs.Limits.{Sizes}
use Rattle.oak_model.specs.Counts.{below}
use Rattle.arena_core.specs.Arena.{byte_words, blocks, block_words}
use Rattle.arena_core.proofs.ArenaSizes.{few_words}
use Rattle.arena_core.proofs.layout.bytes_below.Goals as goal

pub loop-r-init : goal.loop-r-init
unfolding below
loop-r-init c = (refl, refl, omega arith)

pub loop-r-preserved : goal.loop-r-preserved
unfolding below
loop-r-preserved c =
    let z : Sizes = c.args.shape.now in let r = c.loop-r.r in let b : slice_index c.shape.inside.blocks r ≡ blocks z r = ap (λ (s : Sizes). blocks s r) c.shape.view_is in
    let sum : c.loop-r.sum ≡ below (byte_words z) r = c.loop-r.invariant.0 in let wide : c.loop-r.wide ≡ block_words r = c.loop-r.invariant.1 in
    let lt : r < c.args.class = c.loop-r-test.true in let few = few_words _ c.shape.invariant r (omega arith) in
    let same : slice_index c.shape.inside.blocks r * c.loop-r.wide ≡ slice_index c.shape.inside.blocks r * block_words r = ap (λ (w : ℕ). slice_index c.shape.inside.blocks r * w) wide in
    (rw add-one (λ i. sum i + b i * wide i), rw (add-one, pow-suc) (omega arith), omega arith)
