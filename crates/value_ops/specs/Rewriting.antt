-- Where the value lies that is rewritten under a lock.
use Rattle.std.specs.Prelude.{◌≡◌, ℕ}
use Rattle.oak_model.specs.Limits.{Sizes, IsInLimits}
use Rattle.arena_core.specs.Arena.{at_bytes}
use Rattle.arena_core.specs.Place.{class_in, block_in}
use Rattle.header_core.specs.HeaderHolds.{place_held}
use Rattle.oak_core.specs.declared.states.PassState.{PassState}
use Rattle.oak_core.specs.Memory.{in_arena, index}
use Rattle.value_ops.specs.UnderLock.{HasBlock, HasLock}

-- the pass has the header locked, and the words of its block, the first of which has this number
pub record HasWords (z : Sizes) (h g first : ℕ) (v : PassState) : Type 0 where
  pub limits : IsInLimits z
  pub lock : HasLock z h g v
  pub block : HasBlock z h (place_held h v.headers.held) v.headers.held
  pub first_is : first ≡ index z (in_arena (at_bytes (class_in (place_held h v.headers.held)) (block_in (place_held h v.headers.held)) 0))
