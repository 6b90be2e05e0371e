-- The table's rule: what holds between any two atomic steps. It is a record of bundles of points, each over the words and the parts of the passes' states that it speaks of.
use Rattle.std.specs.Prelude.{◌≡◌, ◌⊎◌, Option, ℕ, suc, ◌^◌, ◌<◌, ◌≤◌, List, [], ◌∷◌, ◌++◌, map, length, slice_index, true}
use Rattle.std.specs.Int.{bit_at}
use Rattle.oak_model.specs.Limits.{Sizes, IsInLimits}
use Rattle.oak_model.specs.Counts.{total, Every, Each, Begins}
use Rattle.oak_model.specs.Kept.{KeptNumbersStand}
use Rattle.arena_core.specs.Blocks.{BlocksAreOwned}
use Rattle.arena_core.specs.Place.{content}
use Rattle.chunk_core.specs.CoverRule.{CoversPartition}
use Rattle.chunk_core.specs.KeptRooms.{kept_of_rooms}
use Rattle.chunk_core.specs.declared.holds.Claim.{Claim}
use Rattle.chunk_core.specs.RoomRule.{OnClaim, RoomsStand}
use Rattle.chunk_core.specs.Rooms.{read_room, same_room_spot}
use Rattle.header_core.specs.declared.holds.HeaderHolds.{HeaderHolds}
use Rattle.header_core.specs.HeaderRule.{PinsWhatItKnows}
use Rattle.oak_core.specs.declared.states.Finding.{Finding}
use Rattle.oak_core.specs.declared.states.Findings.{Findings}
use Rattle.oak_core.specs.declared.states.Joined.{Joined}
use Rattle.oak_core.specs.declared.states.KeyedWrite.{KeyedWrite}
use Rattle.oak_core.specs.declared.states.Knowledge.{Knowledge}
use Rattle.oak_core.specs.declared.states.Numbers.{Numbers}
use Rattle.oak_core.specs.declared.states.PassState.{PassState}
use Rattle.oak_core.specs.Memory.{memory, read, same_spot, word_count}
use Rattle.oak_core.specs.Finding.{Shows}
use Rattle.oak_core.specs.EntryOwners.{all_others, is_key_word}
use Rattle.oak_core.specs.Owners.{HeadersAreWhole, HeadersAreHeld}
use Rattle.oak_core.specs.Known.{knows_life, known}
use Rattle.oak_core.specs.PassState.{blocks_of, headers_held, rooms_held, numbers_of, findings_of, knowledge_of, kept_of, has_number, is_parent, splits_of, IsAlone, of_key, history, spent_state}
use Rattle.oak_core.specs.Lack.{FullsStand}
use Rattle.oak_core.specs.TableState.{TableState}
use Rattle.oak_core.specs.Bounds.{BasesBound, HasOpened}
use Rattle.oak_core.specs.Callers.{CallersAgree}
use Rattle.oak_core.specs.KeyRule.{KeysStand}
use Rattle.oak_core.specs.Lessons.{HeardStands}

-- the words are as many as the layout says, and each is one of 64 bits
pub record WordsStand (z : Sizes) (words : List ℕ) : Type 0 where
  pub counted : length words ≡ word_count z
  pub small : (i : ℕ) → slice_index words i < 2 ^ 64

-- word 0: the numbers that the passes have all differ, and together are the given ones, which are the lowest; each but 0 was split off by a pass that has a smaller one
pub record NumbersStand (z : Sizes) (given : ℕ) (ns : List Numbers) : Type 0 where
  pub owned : (k : ℕ) → bit_at given k ≡ total (has_number k) ns
  pub lowest : (k : ℕ) → bit_at given (suc k) ≡ 1 → bit_at given k ≡ 1
  pub few : (k : ℕ) → z.passes ≤ k → bit_at given k ≡ 0
  pub parents : (k : ℕ) → 0 < k → bit_at given k ≡ 1 → 0 < total (is_parent k) ns
  -- a number that was split off is given
  pub made : (k : ℕ) → 0 < total (splits_of k) ns → bit_at given k ≡ 1

-- a number that a pass found given is given
abbrev pub FoundStays : ℕ → Findings → Type 0
FoundStays given fs = (k : ℕ) → Shows fs.met 0 (λ n. bit_at n k ≡ 1) → bit_at given k ≡ 1

-- so it is, and the pass had the findings for each call that it noted as refused
pub record FindingsHold (z : Sizes) (given : ℕ) (fs : Findings) : Type 0 where
  pub found : FoundStays given fs
  pub noted : FullsStand z fs

abbrev pub FindingsStand : Sizes → ℕ → List Findings → Type 0
FindingsStand z given fs = Every (FindingsHold z given) fs

-- each pass that was joined into this one had the findings for the calls that it noted
abbrev pub JoinedStand : Sizes → PassState → Type 0
JoinedStand z v = Each (λ (j : Joined). FullsStand z j.findings) v.numbers.joined

-- all that a pass has seen of a key is the beginning of its history
abbrev pub HistoriesStand : List Knowledge → Type 0
HistoriesStand qs = (k : ℕ) → Every (λ (q : Knowledge). Each (λ (l : List KeyedWrite). Begins (of_key k l) (history k qs)) q.seen) qs

-- of a pass that was joined into another nothing is left
abbrev pub SpentIsSpent : PassState → Type 0
SpentIsSpent v = v.numbers.spent ≡ true → v ≡ spent_state

-- the key word of a claimed entry is 0, or names a block of the class that its length has, which is a key's
abbrev pub ClaimHasKey : Option Claim → Type 0
ClaimHasKey o = OnClaim (λ c. (c.entry.word ≡ 0) ⊎ (is_key_word c.entry.word ≡ 1)) o

-- what holds of each pass by itself, with what it knows, the headers that it holds, and the entry that it has claimed
pub record HoldsKnown (q : Knowledge) (a : HeaderHolds) (o : Option Claim) : Type 0 where
  -- it has a pin only on a header that it knows
  pub pin : PinsWhatItKnows (λ h g. knows_life h g q) a
  -- each word of the blocks of its headers has its number
  pub whole : HeadersAreWhole a
  pub claim : ClaimHasKey o

abbrev pub PassStands : PassState → Type 0
PassStands v = HoldsKnown v.knowledge v.headers v.rooms.claim

-- a pass that was alone at its last step is alone, and the table has the words that it left
abbrev pub AloneStands : List ℕ → PassState → Type 0
AloneStands words v = (met : List Finding) (f : Finding) → v.findings.met ≡ met ++ f ∷ [] → f.alone ≡ true → (words ≡ f.words) × IsAlone v

pub record Rule (z : Sizes) (s : TableState) : Type 0 where
  pub sizes : IsInLimits z
  pub words : WordsStand z s.words
  pub numbers : NumbersStand z (memory z s.words).given (map numbers_of s.states)
  pub findings : FindingsStand z (memory z s.words).given (map findings_of s.states)
  pub joined : Every (JoinedStand z) s.states
  pub histories : HistoriesStand (map knowledge_of s.states)
  pub spent : Every SpentIsSpent s.states
  pub blocks : BlocksAreOwned z (memory z s.words).arena.bits (all_others z (memory z s.words) (map rooms_held s.states)) (map blocks_of s.states)
  pub headers : HeadersAreHeld (memory z s.words).headers (memory z s.words).arena.bytes (known (map knowledge_of s.states)) (map headers_held s.states)
  pub rooms : RoomsStand z (memory z s.words).rooms (content (memory z s.words).arena.bytes) (map rooms_held s.states)
  pub covers : CoversPartition z (memory z s.words).rooms (content (memory z s.words).arena.bytes) is_key_word (map rooms_held s.states)
  -- the state of each key, who wrote, how great stamps become, and what stands until the first removal
  pub keys : KeysStand z (memory z s.words) s.states
  pub callers : CallersAgree s.states
  pub bounds : BasesBound z (memory z s.words) s.states
  pub opened : HasOpened z (memory z s.words) s.states
  -- of what the passes were taught each key has just that up to the number
  pub heard : HeardStands z (memory z s.words) s.states
  pub passes : Every PassStands s.states
  pub alone : Every (AloneStands s.words) s.states
  pub kept : KeptNumbersStand same_spot (read (memory z s.words)) (map kept_of s.states)
  -- no word of a room is one of the arena or of a header, so those that passes keep of rooms are apart
  pub kept_in_rooms : KeptNumbersStand same_room_spot (read_room (memory z s.words).rooms) (map kept_of_rooms (map rooms_held s.states))
