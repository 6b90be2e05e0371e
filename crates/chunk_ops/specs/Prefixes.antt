-- How a key splits the sorted prefix of a pinned room. v is the state of the pass at the call, w the one at its end.
use Rattle.std.specs.Prelude.{◌≡◌, ℕ, ◌<◌, ◌≤◌, List, ◌++◌, Some}
use Rattle.oak_model.specs.Counts.{total}
use Rattle.oak_model.specs.KeyNumber.{key_number}
use Rattle.oak_model.specs.Limits.{Sizes}
use Rattle.chunk_core.specs.LinkedEntries.{prefix_in}
use Rattle.chunk_core.specs.PinnedRooms.{span_of}
use Rattle.chunk_core.specs.Spans.{within}
use Rattle.oak_core.specs.declared.states.Finding.{Finding}
use Rattle.oak_core.specs.declared.states.PassState.{PassState}
use Rattle.link_search.specs.Bits.{bits}
use Rattle.chunk_ops.specs.Finds.{is_key_word_of}
use Rattle.chunk_ops.specs.PinRecords.{HasEntry, room_pin}

-- Of the prefix that the count told, each entry is found, with a key of the room's range; the first n have keys below this one, and no other has.
pub record SplitsPrefix (r : ℕ) (key : List ℕ) (n : ℕ) (w : PassState) : Type 0 where
  pub count : ℕ
  pub told : (room_pin w).count ≡ Some count
  pub most : n ≤ prefix_in count
  pub below : (i : ℕ) → i < n → (q : List ℕ) × HasEntry r i q w × (key_number q < key_number key)
  pub others : (i : ℕ) → n ≤ i → i < prefix_in count → (q : List ℕ) × HasEntry r i q w × (key_number key ≤ key_number q)
  pub inside : (i : ℕ) (q : List ℕ) → i < prefix_in count → HasEntry r i q w → within (span_of (room_pin w)) (key_number q) ≡ 1

-- Of key words the call loaded no more than a search by halves of that prefix needs.
pub record HalvesPrefix (z : Sizes) (r : ℕ) (v w : PassState) : Type 0 where
  pub count : ℕ
  pub told : (room_pin w).count ≡ Some count
  pub more : List Finding
  pub met : w.findings.met ≡ v.findings.met ++ more
  pub few : total (is_key_word_of z r) more ≤ bits (prefix_in count)
