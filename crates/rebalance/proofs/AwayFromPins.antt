-- What a pass met at words that are no pin words of rooms.
use Rattle.std.proofs.Common.{◌≡◌, ◌≢◌, ℕ, ◌<◌, List, [], ◌∷◌, ◌++◌, sym, ◌∙◌, subst, arith}
use Rattle.oak_model.specs.Counts.{Each}
use Rattle.oak_model.specs.Limits.{Sizes}
use Rattle.oak_model.proofs.Lists.{each_map}
use Rattle.arena_core.specs.Arena.{IsInArena, at_bytes}
use Rattle.chunk_core.specs.MayOnRooms.{IsRoomWord}
use Rattle.chunk_core.specs.Rooms.{RoomSpot, IsInRooms, at_room_pin}
use Rattle.oak_core.specs.declared.states.Finding.{Finding}
use Rattle.oak_core.specs.declared.states.PassState.{PassState}
use Rattle.oak_core.specs.Finding.{IsOf}
use Rattle.oak_core.specs.Memory.{Spot, in_arena, in_rooms, index, rooms_at}
use Rattle.oak_core.proofs.memory.Words.{arena_before, index_apart, rooms_from}
use Rattle.rebalance.specs.declared.held_rooms.RoomWord.{RoomWord}
use Rattle.rebalance.specs.declared.held_rooms.RoomWord.TheVariants.{Base, Count, First, Low, High, Key, Value, Next}
use Rattle.rebalance.specs.HeldRooms.{IsWithin, spot}
use Rattle.rebalance.specs.HeldTables.{AwayFromPins}
use Rattle.rebalance.proofs.HeldMemory.{word_inside}

-- the word is not the pin word of a room
abbrev pub IsNoPin : Sizes → ℕ → Type 0
IsNoPin z at = (q : ℕ) → q < z.chunks → at ≢ index z (in_rooms (at_room_pin q))

-- where the word is one of a room, a store of x to it may be
abbrev IsWordOf : ℕ → Spot → Type 0
IsWordOf x (in_rooms p) = IsRoomWord p x
IsWordOf x _ = Unit {0}

-- a word of a room that may be stored to is none
pub room_word_away : (z : Sizes) (p : RoomSpot) (x : ℕ) → IsInRooms z p → IsRoomWord p x → IsNoPin z (index z (in_rooms p))
room_word_away z p x inside word q l e = subst (IsWordOf x) (index_apart z (in_rooms p) (in_rooms (at_room_pin q)) inside (l, omega arith) e) word

-- such is each word of a held room
pub is_room_word : (r x : ℕ) (word : RoomWord) → IsRoomWord (spot r word) x
is_room_word r x Base = tt
is_room_word r x Count = tt
is_room_word r x First = tt
is_room_word r x (Low j) = tt
is_room_word r x (High j) = tt
is_room_word r x (Key i) = tt
is_room_word r x (Value i) = tt
is_room_word r x (Next i) = tt

-- which is no pin word then
pub held_word_away : (z : Sizes) (r at : ℕ) (word : RoomWord) → r < z.chunks → IsWithin z.entries word → at ≡ index z (in_rooms (spot r word)) → IsNoPin z at
held_word_away z r at word inside within is q l e = room_word_away z (spot r word) 0 (word_inside z r inside word within) (is_room_word r 0 word) q l (sym is ∙ e)

-- a word in front of those of the rooms is none
pub front_away : (z : Sizes) (at : ℕ) → at < rooms_at z → IsNoPin z at
front_away z at l q _ e = let f = rooms_from z (at_room_pin q) in absurd (omega arith)

-- so no word of a block is
pub block_away : (z : Sizes) (at c b i : ℕ) → IsInArena z (at_bytes c b i) → at ≡ index z (in_arena (at_bytes c b i)) → IsNoPin z at
block_away z at c b i inside is = let l = arena_before z (at_bytes c b i) inside in front_away z at (omega arith)

-- one step was met
pub away_one : (z : Sizes) (v w : PassState) (f : Finding) → w.findings.met ≡ v.findings.met ++ f ∷ [] → IsNoPin z f.word → AwayFromPins z v w
away_one z v w f met away = record { more = f ∷ []; met = met; away = λ r l. (away r l, tt) }

-- steps at words in front of those of the rooms
pub away_front : (z : Sizes) (call : ℕ) (v w : PassState) (more : List Finding) → w.findings.met ≡ v.findings.met ++ more → Each (IsOf z call) more → AwayFromPins z v w
away_front z call v w more met of = record { more = more; met = met; away = λ r l. each_map (IsOf z call) (λ (f : Finding). f.word ≢ index z (in_rooms (at_room_pin r))) more (λ f o. front_away z f.word o.1 r l) of }
