-- A store leaves all other parts of the memory as they are, by computation: a point that reads another part needs no proof for it.
use Rattle.std.proofs.Common.{◌≡◌, ℕ, cond, Bool, refl, sym, ap}
use mathlib.Core.Path.{fun_ext}
use Rattle.oak_model.specs.Counts.{put}
use Rattle.oak_model.proofs.Counting.{test-cases}
use Rattle.arena_core.specs.Arena.{at_bits, at_bytes}
use Rattle.header_core.specs.Headers.{at_pin, at_stamp}
use Rattle.chunk_core.specs.Rooms.{at_count, at_value}
use Rattle.oak_core.specs.Memory.{Memory, Spot, at_given, in_arena, in_headers, in_rooms, memory_of, read, same_spot, write}
use Rattle.oak_core.proofs.memory.Words.{same_spot-is}

module _ (m : Memory) (x : ℕ) where
  pub given_alone : write m at_given x ≡ record m { given = x }
  given_alone = refl

  pub bits_alone : (c i : ℕ) → (write m (in_arena (at_bits c i)) x).arena.bytes ≡ m.arena.bytes
  bits_alone c i = refl

  pub bytes_alone : (c b k : ℕ) → (write m (in_arena (at_bytes c b k)) x).headers ≡ m.headers
  bytes_alone c b k = refl

  pub pin_stored : (h : ℕ) → (write m (in_headers (at_pin h)) x).headers.pin ≡ put m.headers.pin h x
  pin_stored h = refl

  pub stamp_alone : (h : ℕ) → write m (in_headers (at_stamp h)) x ≡ record m { headers = record m.headers { stamp = put m.headers.stamp h x } }
  stamp_alone h = refl

  pub count_alone : (r : ℕ) → write m (in_rooms (at_count r)) x ≡ record m { rooms = record m.rooms { count = put m.rooms.count r x } }
  count_alone r = refl

  pub value_alone : (r i : ℕ) → (write m (in_rooms (at_value r i)) x).rooms.key ≡ m.rooms.key
  value_alone r i = refl

-- a store of the number that stands there leaves the memory
pub write_same : (m : Memory) (p : Spot) → write m p (read m p) ≡ m
write_same m p = ap memory_of (fun_ext (λ q. test-cases (same_spot q p) (λ (b : Bool). cond b (read m p) (read m q) ≡ read m q) (λ is. ap (read m) (sym (same_spot-is q p is))) (λ _. refl)))
