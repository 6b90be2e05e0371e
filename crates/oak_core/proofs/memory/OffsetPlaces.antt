-- A word's number is the number at which its part begins, and its place there.
use Rattle.std.proofs.Common.{◌≡◌, ℕ, ◌+◌, ◌*◌, ◌^◌, ◌<◌, get_or, sym, ap, ◌∙◌, subst, arith}
use Rattle.oak_model.specs.declared.limits.TheConstants.{CLASSES}
use Rattle.oak_model.specs.Limits.{Sizes}
use Rattle.oak_model.specs.Counts.{below}
use Rattle.oak_model.proofs.Lists.{rows_at}
use Rattle.arena_core.specs.Arena.{at_bits, at_bytes, block_words, bit_words, byte_words}
use Rattle.header_core.specs.Headers.{at_pin, at_place, at_stamp}
use Rattle.chunk_core.specs.Rooms.{at_room_pin}
use Rattle.oak_core.specs.declared.offsets.Offsets.{Offsets}
use Rattle.oak_core.specs.Memory.{Spot, in_arena, in_headers, in_rooms, headers_at, word_count, IsInside, index}
use Rattle.oak_core.specs.Offsets.{bits_begin, bytes_begin, offsets_of}
use Rattle.oak_core.proofs.memory.ArenaPlaces.{bits_place, bytes_place}
use Rattle.oak_core.proofs.memory.HeaderPlaces.{pin_place, place_place, stamp_place}
use Rattle.oak_core.proofs.memory.RoomPlaces.{room_place}
use Rattle.oak_core.proofs.memory.Words.{index_below}

module _ (z shape : Sizes) (o : Offsets) (same : shape ≡ z) (are : o ≡ offsets_of shape) (few : word_count shape < 2 ^ 32) where
  here : o ≡ offsets_of z
  here = are ∙ ap offsets_of same

  -- each word's number is one of 32 bits
  pub fits : (p : Spot) → IsInside z p → index z p < 2 ^ 32
  fits p inside = let b = index_below z p inside in let f : word_count z < 2 ^ 32 = subst (λ (s : Sizes). word_count s < 2 ^ 32) same few in omega arith

  pub bits_number : (c i : ℕ) → c < CLASSES → get_or o.bits c 0 + i ≡ index z (in_arena (at_bits c i))
  bits_number c i lt = ap (λ (x : Offsets). get_or x.bits c 0 + i) here ∙ (ap (λ (n : ℕ). n + i) (rows_at 0 CLASSES c (bits_begin z) 0 lt ∙ ap (bits_begin z) (let q : 0 + c ≡ c = omega arith in q))
      ∙ ((let b : ℕ = below (bit_words z) c in let e : 1 + b + i ≡ 1 + (b + i) = omega arith in e) ∙ bits_place z c i))

  pub bytes_number : (c b i : ℕ) → c < CLASSES → get_or o.bytes c 0 + (b * block_words c + i) ≡ index z (in_arena (at_bytes c b i))
  bytes_number c b i lt = ap (λ (x : Offsets). get_or x.bytes c 0 + (b * block_words c + i)) here ∙ (ap (λ (n : ℕ). n + (b * block_words c + i)) (rows_at 0 CLASSES c (bytes_begin z) 0 lt ∙ ap (bytes_begin z) (let q : 0 + c ≡ c = omega arith in q))
      ∙ ((let x : ℕ = below (bit_words z) CLASSES in let y : ℕ = below (byte_words z) c in let p : ℕ = b * block_words c + i in let e : 1 + x + y + p ≡ 1 + (x + (y + p)) = omega arith in e) ∙ bytes_place z c b i))

  pub pin_number : (h : ℕ) → o.headers + h * 3 ≡ index z (in_headers (at_pin h))
  pin_number h = ap (λ (x : Offsets). x.headers + h * 3) here ∙ pin_place z h

  pub room_number : (k : ℕ) → o.rooms + k * o.room_width ≡ index z (in_rooms (at_room_pin k))
  room_number k = ap (λ (x : Offsets). x.rooms + k * x.room_width) here ∙ room_place z k

-- the place and the stamp word lie behind the pin word
pub place_behind : (z : Sizes) (h n : ℕ) → n ≡ index z (in_headers (at_pin h)) → n + 1 ≡ index z (in_headers (at_place h))
place_behind z h n e = let a : ℕ = headers_at z in let p : a + h * 3 ≡ index z (in_headers (at_pin h)) = pin_place z h in ap (λ (k : ℕ). k + 1) (e ∙ sym p) ∙ ((let q : a + h * 3 + 1 ≡ a + (h * 3 + 1) = omega arith in q) ∙ place_place z h)

pub stamp_behind : (z : Sizes) (h n : ℕ) → n ≡ index z (in_headers (at_pin h)) → n + 2 ≡ index z (in_headers (at_stamp h))
stamp_behind z h n e = let a : ℕ = headers_at z in let p : a + h * 3 ≡ index z (in_headers (at_pin h)) = pin_place z h in ap (λ (k : ℕ). k + 2) (e ∙ sym p) ∙ ((let q : a + h * 3 + 2 ≡ a + (h * 3 + 2) = omega arith in q) ∙ stamp_place z h)
