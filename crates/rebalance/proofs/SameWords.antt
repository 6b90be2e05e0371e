-- A word of the rooms that is given the number that it has.
use Rattle.std.proofs.Common.{◌≡◌, ℕ, cond, refl, ap, ◌∙◌}
use Rattle.oak_model.proofs.Counting.{test-cases}
use Rattle.chunk_core.specs.RoomStep.{put_room}
use Rattle.chunk_core.specs.Rooms.{RoomMemory, RoomSpot, at_room_pin, at_base, at_count, at_latch, at_first, at_low, at_high, at_key, at_value, at_next, same_room_spot, read_room}
use Rattle.chunk_core.proofs.RoomWords.{same_room_spot-is}

-- the words stay as they are
pub put_same : (m : RoomMemory) (p : RoomSpot) (x : ℕ) → read_room m p ≡ x → m ≡ put_room m p x
put_same m p x e = λ t. record {
  pin = λ r. here (at_room_pin r) t;
  base = λ r. here (at_base r) t;
  count = λ r. here (at_count r) t;
  latch = λ r. here (at_latch r) t;
  first = λ r. here (at_first r) t;
  low = λ r j. here (at_low r j) t;
  high = λ r j. here (at_high r j) t;
  key = λ r i. here (at_key r i) t;
  value = λ r i. here (at_value r i) t;
  next = λ r i. here (at_next r i) t;
}
  where
    here : (q : RoomSpot) → read_room m q ≡ cond (same_room_spot q p) x (read_room m q)
    here q = test-cases (same_room_spot q p) (λ b. read_room m q ≡ cond b x (read_room m q)) (λ s. ap (read_room m) (same_room_spot-is q p s) ∙ e) (λ _. refl)
