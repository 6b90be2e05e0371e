-- The words of the table lie where the numbers say.
use Rattle.std.proofs.Common.{◌≡◌, ℕ, ◌∷◌, [], List, arith, refl, sym, subst}
use Rattle.oak_model.specs.Limits.{Sizes}
use Rattle.oak_core.specs.WordNumbers.{WordNumbers}

module _ (passes chunks entries headers a b c d : ℕ) where
  abbrev z : Sizes
  z = record { passes = passes; chunks = chunks; entries = entries; headers = headers; blocks = a ∷ b ∷ c ∷ d ∷ [] }

  written_out : WordNumbers z a b c d
  unfolding Rattle.oak_model.specs.Counts.below Rattle.arena_core.specs.Arena.arena_index Rattle.header_core.specs.Headers.header_index Rattle.chunk_core.specs.Rooms.place_in_room Rattle.chunk_core.specs.Rooms.room_index Rattle.oak_core.specs.Memory.index
  written_out = record {
    given = refl;
    bits_of_16 = λ i. omega arith;
    bits_of_64 = λ i. omega arith;
    bits_of_256 = λ i. omega arith;
    bits_of_1024 = λ i. omega arith;
    bytes_of_16 = λ n k. omega arith;
    bytes_of_64 = λ n k. omega arith;
    bytes_of_256 = λ n k. omega arith;
    bytes_of_1024 = λ n k. omega arith;
    header_pin = λ h. omega arith;
    header_place = λ h. omega arith;
    header_stamp = λ h. omega arith;
    room_pin = λ r. omega arith;
    room_base = λ r. omega arith;
    room_count = λ r. omega arith;
    room_latch = λ r. omega arith;
    first_link = λ r. omega arith;
    low_bound = λ r j. omega arith;
    high_bound = λ r j. omega arith;
    entry_key = λ r i. omega arith;
    entry_value = λ r i. omega arith;
    entry_next = λ r i. omega arith;
    words = omega arith;
  }

pub word_numbers : (z : Sizes) (a b c d : ℕ) → z.blocks ≡ a ∷ b ∷ c ∷ d ∷ [] → WordNumbers z a b c d
word_numbers z a b c d e = subst (λ (l : List ℕ). WordNumbers (record { passes = z.passes; chunks = z.chunks; entries = z.entries; headers = z.headers; blocks = l }) a b c d) (sym e) (written_out z.passes z.chunks z.entries z.headers a b c d)
