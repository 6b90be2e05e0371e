-- What a step notes of the word that it found.
use Rattle.std.specs.Prelude.{◌≡◌, ℕ, ◌+◌, ◌*◌, ◌/◌, ◌%◌, ◌^◌, ◌<◌, ◌==◌, cond, false, List, [], ◌∷◌, ◌++◌, slice_set, Option, Some, None}
use Rattle.std.specs.Int.{bit_at}
use mathlib.Core.Option.{some}
use lib.ListN.{get_elem?}
use Rattle.oak_model.specs.Counts.{Each, one_at, total}
use Rattle.oak_model.specs.Limits.{Sizes}
use Rattle.arena_core.specs.Arena.{ArenaSpot, at_bits}
use Rattle.arena_core.specs.ArenaStep.{ArenaStep, take_bit, clear_bit, store_word, arena_spot, arena_found, arena_effect}
use Rattle.arena_core.specs.HeldBlocks.{had_bits}
use Rattle.arena_core.specs.Place.{block_in, class_in}
use Rattle.header_core.specs.declared.holds.HeaderHolds.{HeaderHolds}
use Rattle.header_core.specs.declared.holds.HeldAs.{HeldAs}
use Rattle.header_core.specs.declared.holds.HeldAs.TheVariants.{Owned, Fresh, Locked, Buried}
use Rattle.header_core.specs.declared.holds.HeldHeader.{HeldHeader}
use Rattle.header_core.specs.Headers.{HeaderSpot, at_pin}
use Rattle.header_core.specs.HeaderHolds.{had_header}
use Rattle.chunk_core.specs.Rooms.{RoomSpot, at_room_pin}
use Rattle.chunk_core.specs.RoomHolds.{had_room}
use Rattle.oak_core.specs.declared.states.Finding.{Finding}
use Rattle.oak_core.specs.declared.states.PassState.{PassState}
use Rattle.oak_core.specs.declared.states.Taken.{Taken}
use Rattle.oak_core.specs.PassState.{is_alone}
use Rattle.oak_core.specs.Memory.{Spot, at_given, in_arena, in_headers, in_rooms, index, rooms_at}

-- a header that is not being filled anymore has its block
abbrev pub has_block : HeldAs → ℕ
has_block Owned = 0
has_block Fresh = 1
has_block (Locked at) = 1
has_block Buried = 1

-- the bits, in the word i of the bits of a class, of the blocks of the headers that the pass has fresh, has locked or buries
abbrev pub had_placed : ℕ → ℕ → HeaderHolds → ℕ
had_placed c i a = total (λ (r : HeldHeader). has_block r.held_as * one_at (class_in r.place) c * one_at (block_in r.place / 64) i * 2 ^ (block_in r.place % 64)) a.held

abbrev pub had_in_arena : ArenaSpot → PassState → ℕ
had_in_arena (at_bits c i) v = had_bits c i v.blocks + had_placed c i v.headers
had_in_arena _ v = 0

abbrev pub had_in_headers : HeaderSpot → PassState → ℕ
had_in_headers (at_pin h) v = had_header h v.headers
had_in_headers _ v = 0

abbrev pub had_in_rooms : RoomSpot → PassState → ℕ
had_in_rooms (at_room_pin r) v = had_room r v.rooms
had_in_rooms _ v = 0

-- what the pass has at the word: of a word of bits those of its blocks, held or in a header of its own; of a pin word 1 where it has it
abbrev pub had : Spot → PassState → ℕ
had at_given v = 0
had (in_arena p) v = had_in_arena p v
had (in_headers p) v = had_in_headers p v
had (in_rooms p) v = had_in_rooms p v

-- It has the words of the table behind the step, which were `words` before, and says whether the pass is alone. The step took no block.
abbrev pub finding : Sizes → ℕ → Spot → Option ℕ → ℕ → List ℕ → PassState → Finding
finding z call p found left words v = record { call = call; word = index z p; found = found; left = left; had = had p v; took = None; words = slice_set words (index z p) left; alone = is_alone v.numbers }

-- the block that a step on the arena takes where it finds n
abbrev pub taken_by : ArenaStep → ℕ → Option Taken
taken_by (take_bit c b) n = cond (bit_at n (b % 64) == 0) (Some (record { class = c; block = b })) None
taken_by (clear_bit c b) n = None
taken_by (store_word c b k x) n = None

-- so it is of a step on the arena that finds n, but for the block that it takes
abbrev pub arena_finding : Sizes → ℕ → ArenaStep → ℕ → List ℕ → PassState → Finding
arena_finding z call a n words v = record (finding z call (in_arena (arena_spot a)) (arena_found a n) (arena_effect a n) words v) { took = taken_by a n }

-- the finding of a step behind which the pass need not be alone
abbrev pub leaving : Finding → Finding
leaving f = record f { alone = false }

-- the state, with more met
abbrev pub grown : List Finding → PassState → PassState
grown more v = record v { findings = record v.findings { met = v.findings.met ++ more } }

abbrev pub noted : Finding → PassState → PassState
noted f v = grown (f ∷ []) v

-- the finding is of the call, at a word in front of those of the rooms
abbrev pub IsBefore : Sizes → ℕ → Finding → Type 0
IsBefore z call f = (f.call ≡ call) × (f.word < rooms_at z)

-- and the step took no block
abbrev pub IsOf : Sizes → ℕ → Finding → Type 0
IsOf z call f = (f.call ≡ call) × (f.word < rooms_at z) × (f.took ≡ None)

-- and it left the word as it was found
abbrev pub IsLoadOf : Sizes → ℕ → Finding → Type 0
IsLoadOf z call f = (f.call ≡ call) × (f.word < rooms_at z) × (f.found ≡ Some f.left) × (f.took ≡ None)

-- The pass only met more: loads of the call, of words in front of those of the rooms.
pub record LoadsMore (z : Sizes) (call : ℕ) (v w : PassState) : Type 0 where
  pub more : List Finding
  pub loads : Each (IsLoadOf z call) more
  pub after : w ≡ grown more v

-- one of the findings shows a number of the word that has P
abbrev pub Shows : List Finding → ℕ → (ℕ → Type 0) → Type 0
Shows met word P = (i : ℕ) × (f : Finding) × (n : ℕ) × (get_elem? met i ≡ some f) × (f.word ≡ word) × (f.found ≡ Some n) × P n

-- one of the findings is of the call, and shows a number of the word that has P; the pass had there what v has there
pub record FoundThere (z : Sizes) (call : ℕ) (p : Spot) (v : PassState) (met : List Finding) (P : ℕ → Type 0) : Type 0 where
  pub place : ℕ
  pub finding : Finding
  pub there : get_elem? met place ≡ some finding
  pub call_is : finding.call ≡ call
  pub word_is : finding.word ≡ index z p
  pub number : ℕ
  pub found_is : finding.found ≡ Some number
  pub shows : P number
  pub had_is : finding.had ≡ had p v
