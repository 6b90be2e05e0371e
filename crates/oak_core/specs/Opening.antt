-- The words and the pass that a table is made with.
use Rattle.std.specs.Prelude.{◌≡◌, ◌≢◌, ℕ, ◌-◌, ◌%◌, ◌<◌, ◌==◌, ◌&&◌, nat_le, nat_lt, cond, true, List, [], ◌∷◌, None}
use Rattle.pin_word.specs.PinWord.{packed}
use Rattle.oak_model.specs.Limits.{Sizes}
use Rattle.oak_model.specs.Counts.{rows}
use Rattle.header_core.specs.declared.layout.TheConstants.{HEADER_WORDS}
use Rattle.header_core.specs.declared.states.TheConstants as header
use Rattle.chunk_core.specs.declared.states.TheConstants as room
use Rattle.chunk_core.specs.Rooms.{RoomSpot, at_room_pin, read_room}
use Rattle.oak_core.specs.declared.states.Finding.{Finding}
use Rattle.oak_core.specs.declared.states.PassState.{PassState}
use Rattle.oak_core.specs.Memory.{headers_at, rooms_at, word_count, memory}
use Rattle.oak_core.specs.PassState.{no_findings, bare_state}

-- the number of word i at the start: 0 is given, each header is free at the generation g, and room 0 is open
abbrev pub opening_number : Sizes → ℕ → ℕ → ℕ
opening_number z g i =
    cond (i == 0) 1
    (cond (i == rooms_at z) (packed 0 room.OPEN 0)
    (cond (nat_le (headers_at z) i && (nat_lt i (rooms_at z) && ((i - headers_at z) % HEADER_WORDS == 0))) (packed g header.FREE 0)
    0))

abbrev pub opening_words : Sizes → ℕ → List ℕ
opening_words z g = rows 0 (word_count z) (opening_number z g)

-- the making of the table, as its first pass met it: in call 0 the number 1 was stored to word 0, behind which the table has these words, and the pass is alone
abbrev pub making : Sizes → ℕ → Finding
making z g = record { call = 0; word = 0; found = None; left = 1; had = 0; took = None; words = opening_words z g; alone = true }

-- the state of the pass that a table is made with
abbrev pub first_state : Sizes → ℕ → PassState
first_state z g = record bare_state { findings = record no_findings { met = making z g ∷ [] } }

-- The number 0 alone is given, no block is taken, each header is free at the generation g without a pin, and room 0 alone is open: over all keys, with base 0 and without an entry, as all its other words are 0.
pub record IsOpened (z : Sizes) (g : ℕ) (words : List ℕ) : Type 0 where
  pub given : (memory z words).given ≡ 1
  pub bits : (c i : ℕ) → (memory z words).arena.bits c i ≡ 0
  pub headers : (h : ℕ) → h < z.headers → (memory z words).headers.pin h ≡ packed g header.FREE 0
  pub room : (memory z words).rooms.pin 0 ≡ packed 0 room.OPEN 0
  pub others : (p : RoomSpot) → p ≢ at_room_pin 0 → read_room (memory z words).rooms p ≡ 0
