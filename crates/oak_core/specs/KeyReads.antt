-- What the words of the table and the states of the passes say of a key at one moment.
use Rattle.std.specs.Prelude.{ℕ, zero, suc, ◌+◌, ◌*◌, ◌^◌, ◌==◌, cond, List, map, take, Some}
use Rattle.oak_model.specs.Limits.{Sizes}
use Rattle.oak_model.specs.State.{State}
use Rattle.oak_model.specs.WordBytes.{bytes_of}
use Rattle.arena_core.specs.Place.{length_in, content}
use Rattle.chunk_core.specs.declared.holds.RoomHolds.{RoomHolds}
use Rattle.chunk_core.specs.Rooms.{RoomMemory}
use Rattle.chunk_core.specs.Covers.{Cover}
use Rattle.chunk_core.specs.CoverSums.{all_of, word_of, base_of}
use Rattle.chunk_core.specs.ValueWord.{names_header}
use Rattle.oak_core.specs.declared.states.KeyedWrite.{KeyedWrite}
use Rattle.oak_core.specs.declared.states.PassState.{PassState}
use Rattle.oak_core.specs.Memory.{Memory}
use Rattle.oak_core.specs.PassState.{rooms_held, history, knowledge_of}
use Rattle.oak_core.specs.KeyHistories.{stamp_behind}

-- F added up over all covers
abbrev pub sum_now : Sizes → Memory → List PassState → (Cover → ℕ) → ℕ
sum_now z m vs F = all_of z m.rooms (content m.arena.bytes) (map rooms_held vs) F

-- the value word plus one of the key's entry, or 0 where it has none
abbrev pub word_now : Sizes → Memory → List PassState → ℕ → ℕ
word_now z m vs k = word_of z m.rooms (content m.arena.bytes) (map rooms_held vs) k

-- the base of the key's cover
abbrev pub base_now : Sizes → Memory → List PassState → ℕ → ℕ
base_now z m vs k = base_of z m.rooms (content m.arena.bytes) (map rooms_held vs) k

-- the key's history
abbrev pub history_now : List PassState → ℕ → List KeyedWrite
history_now vs k = history k (map knowledge_of vs)

-- the value that a place word and the words of its block are
abbrev pub value_in : ℕ → List ℕ → List ℕ
value_in place words = take (length_in place) (bytes_of words)

-- what the key of a live header holds
abbrev pub shown_by : Memory → ℕ → State
shown_by m h = Some (value_in (m.headers.place h) (content m.arena.bytes (m.headers.place h)))

-- the value word that names a header at a generation
abbrev pub home_of : ℕ → ℕ → ℕ
home_of h g = 2 ^ 63 + h * 2 ^ 32 + g

-- The level of a key, above which each later write of it comes: the base of its cover where it has no entry, the floor of its entry, or the last stamp of its history where its entry names a header. The third number is the value word plus one of the entry, or 0.
abbrev pub level_in : ℕ → ℕ → ℕ → ℕ
level_in base last zero = base
level_in base last (suc v) = cond (names_header v == 0) v last

-- by what is added up over covers, and the histories
abbrev pub level_of : Sizes → RoomMemory → (ℕ → List ℕ) → List RoomHolds → (ℕ → List KeyedWrite) → ℕ → ℕ
level_of z m bytes hs hist k = level_in (base_of z m bytes hs k) (stamp_behind (hist k)) (word_of z m bytes hs k)

-- the key's level
abbrev pub level_now : Sizes → Memory → List PassState → ℕ → ℕ
level_now z m vs = level_of z m.rooms (content m.arena.bytes) (map rooms_held vs) (λ k. history k (map knowledge_of vs))
