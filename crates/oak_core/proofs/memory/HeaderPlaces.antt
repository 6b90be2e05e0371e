-- Where the words of the headers lie among those of the table.
use Rattle.std.proofs.Common.{◌≡◌, ℕ, ◌+◌, ◌*◌, refl}
use Rattle.oak_model.specs.Limits.{Sizes}
use Rattle.header_core.specs.declared.layout.TheConstants.{HEADER_WORDS}
use Rattle.header_core.specs.Headers.{at_pin, at_place, at_stamp}
use Rattle.oak_core.specs.Memory.{in_headers, headers_at, index}

pub pin_place : (z : Sizes) (h : ℕ) → headers_at z + h * HEADER_WORDS ≡ index z (in_headers (at_pin h))
unfolding index Rattle.header_core.specs.Headers.header_index
pin_place z h = refl

pub place_place : (z : Sizes) (h : ℕ) → headers_at z + (h * HEADER_WORDS + 1) ≡ index z (in_headers (at_place h))
unfolding index Rattle.header_core.specs.Headers.header_index
place_place z h = refl

pub stamp_place : (z : Sizes) (h : ℕ) → headers_at z + (h * HEADER_WORDS + 2) ≡ index z (in_headers (at_stamp h))
unfolding index Rattle.header_core.specs.Headers.header_index
stamp_place z h = refl
