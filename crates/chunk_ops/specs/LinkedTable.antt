-- The steps on a pinned room of the table, as what its pass met of it, and what the pass has of an entry that it adds.
use Rattle.std.specs.Prelude.{◌≡◌, ℕ, ◌⊎◌, ◌<◌, ◌≤◌, List, [], ◌∷◌, length, Some, None}
use Rattle.oak_model.specs.Class.{class_number, class_of}
use Rattle.oak_model.specs.Limits.{Sizes}
use Rattle.arena_core.specs.Arena.{blocks}
use Rattle.arena_core.specs.Place.{block_in, class_from, class_in, length_in}
use Rattle.chunk_core.specs.declared.holds.Claim.{Claim}
use Rattle.chunk_core.specs.declared.holds.RoomHolds.{RoomHolds}
use Rattle.chunk_core.specs.LinkWords.{link_spot}
use Rattle.chunk_core.specs.MayOnRooms.{HasClaim}
use Rattle.chunk_core.specs.RoomStep.{of_key, of_next, of_value}
use Rattle.chunk_core.specs.Rooms.{at_count}
use Rattle.link_search.specs.Linked.{IsFound}
use Rattle.link_search.specs.Met.{Met, met_count, met_link, met_key, tried_count, tried_link, stored_value, stored_link, stored_key, gave_up}
use Rattle.oak_core.specs.declared.states.PassState.{PassState}
use Rattle.oak_core.specs.AloneWords.{LeavesWords}
use Rattle.oak_core.specs.Memory.{in_rooms}
use Rattle.oak_core.specs.PassState.{IsAlone}
use Rattle.oak_core.specs.Passes.{state, key as sizes, call_of}
use Rattle.oak_core.specs.RoomCalls.{ClaimsEntry, LinksEntry, OwnsEntry}
use Rattle.oak_core.specs.Step.{load, Told}
use Rattle.chunk_ops.specs.declared.pinned_table.PinnedTable.{PinnedTable}
use Rattle.chunk_core.specs.KeyWords.{key_bytes}
use Rattle.chunk_core.specs.PinnedRooms.{span_of}
use Rattle.oak_model.specs.Key.{IsKey}
use Rattle.chunk_ops.specs.Adds.{MayAdd}
use Rattle.chunk_ops.specs.AskedRanges.{CoversKey}
use Rattle.chunk_ops.specs.PinRecords.{pin_or, room_pin}
use Rattle.chunk_ops.specs.Reads as reads
use Rattle.chunk_ops.specs.RoomLoads.{IsSameTable, LoadsEach, linked_in}

-- a key was compared with that of an entry: its key word was loaded, once, and words of its block
pub record LoadsKeyOnce (z : Sizes) (call r : ℕ) (v w : PassState) : Type 0 where
  pub met : List reads.Met
  pub loads : LoadsEach z call r met v w
  pub few : reads.key_loads met ≤ 1

-- what was met, as a step or some loads of the call; of a claimed entry the base and the place are stored
abbrev pub DoesMet : Sizes → (call r base place : ℕ) → Met → PassState → PassState → Type 0
DoesMet z call r base place (met_count n) v w = Told z call (load (in_rooms (at_count r))) v n w
DoesMet z call r base place (met_link from n) v w = Told z call (load (in_rooms (link_spot r from))) v n w
DoesMet z call r base place (met_key i) v w = LoadsKeyOnce z call r v w
DoesMet z call r base place (tried_count old n) v w = ClaimsEntry z call r old v n w
DoesMet z call r base place (tried_link from i old n) v w = LinksEntry z call r from i old v n w
DoesMet z call r base place (stored_value i) v w = OwnsEntry z call of_value r i base v w
DoesMet z call r base place (stored_link i l) v w = OwnsEntry z call of_next r i l v w
DoesMet z call r base place (stored_key i) v w = OwnsEntry z call of_key r i place v w
DoesMet z call r base place (gave_up i) v w = OwnsEntry z call of_key r i 0 v w

-- one behind another
abbrev pub DoesEach : Sizes → (call r base place : ℕ) → List Met → PassState → PassState → Type 0
DoesEach z call r base place [] v w = w ≡ v
DoesEach z call r base place (m ∷ ms) v w = (u : PassState) × DoesMet z call r base place m v u × DoesEach z call r base place ms u w

-- the later one is of the same pin and pass, and by it just this was met
pub record MeetsInTable (s t : PinnedTable) (ms : List Met) : Type 0 where
  pub same : IsSameTable s t
  pub does : DoesEach (sizes s.table.now) (call_of s.pass.now) s.room s.base s.place ms (state s.pass.now) (state t.pass.now)

abbrev pub most_of : PinnedTable → ℕ
most_of s = (sizes s.table.now).entries

-- the place names a block of the table, of the class that its length has, which is the key's
pub record NamesKey (z : Sizes) (place : ℕ) (k : List ℕ) : Type 0 where
  pub is_key : IsKey k
  pub long : length_in place ≡ length k
  pub class : class_in place ≡ class_number (class_from (class_in place))
  pub fits : class_of (length k) ≡ Some (class_from (class_in place))
  pub inside : block_in place < blocks z (class_in place)

-- the pass has claimed no entry, and has the block that the place names, with the key, which may be added
pub record HoldsIn (z : Sizes) (floor place : ℕ) (k : List ℕ) (v : PassState) : Type 0 where
  pub none : v.rooms.claim ≡ None
  pub base : floor ≡ (room_pin v).base
  pub may : MayAdd z (class_from (class_in place)) (block_in place) k v
  pub names : NamesKey z place k

abbrev pub HoldsKey : PinnedTable → List ℕ → Type 0
HoldsKey s k = HoldsIn (sizes s.table.now) s.base s.place k (state s.pass.now)

-- it has claimed the entry, with the base as its value word and the place as its key word, which names that block; the pin found no entry of that number
pub record ClaimsIn (z : Sizes) (r i floor place : ℕ) (k : List ℕ) (a : RoomHolds) : Type 0 where
  pub claim : Claim
  pub has : HasClaim r i a (pin_or a.pin) claim
  pub value : claim.entry.value ≡ floor
  pub word : claim.entry.word ≡ place
  pub key : key_bytes place claim.words ≡ k
  pub base : floor ≡ (pin_or a.pin).base
  pub covers : CoversKey k (span_of (pin_or a.pin))
  pub names : NamesKey z place k
  pub entry : i < z.entries
  pub apart : IsFound (linked_in (pin_or a.pin)) i → ⊥

abbrev pub ClaimsKey : PinnedTable → ℕ → List ℕ → Type 0
ClaimsKey s i k = ClaimsIn (sizes s.table.now) s.room i s.base s.place k (state s.pass.now).rooms

-- the claimed entry's own link is the number
pub record PointsIn (l : ℕ) (a : RoomHolds) : Type 0 where
  pub claim : Claim
  pub is : a.claim ≡ Some claim
  pub link : claim.entry.next ≡ l

abbrev pub PointsTo : PinnedTable → ℕ → Type 0
PointsTo s l = PointsIn l (state s.pass.now).rooms

-- the pass has claimed none
abbrev pub FreesClaim : PinnedTable → Type 0
FreesClaim s = (state s.pass.now).rooms.claim ≡ None

-- the pass is alone from here on
abbrev pub IsLone : PinnedTable → Type 0
IsLone s = ((words : List ℕ) × LeavesWords words (state s.pass.now)) ⊎ IsAlone (state s.pass.now)
