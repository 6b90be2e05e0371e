-- What searches in a pinned room find. v is the state of the pass at the call, w the one at its end.
use Rattle.std.specs.Prelude.{◌≡◌, ◌≢◌, ℕ, ◌+◌, ◌-◌, ◌<◌, ◌≤◌, List, ◌∷◌, ◌++◌, Option, Some, None}
use Rattle.oak_model.specs.Counts.{Each, one_at, below, total, Has}
use Rattle.oak_model.specs.Key.{IsKeyBefore}
use Rattle.oak_model.specs.KeyNumber.{key_number}
use Rattle.oak_model.specs.Limits.{Sizes}
use Rattle.chunk_core.specs.declared.holds.FoundEntry.{FoundEntry}
use Rattle.chunk_core.specs.LinkedEntries.{entries_in, prefix_in}
use Rattle.chunk_core.specs.MayOnRooms.{FindsEntry}
use Rattle.chunk_core.specs.PinnedRooms.{span_of, found_in, found_key}
use Rattle.chunk_core.specs.Rooms.{at_count, at_key}
use Rattle.chunk_core.specs.Spans.{within}
use Rattle.oak_core.specs.declared.states.Finding.{Finding}
use Rattle.oak_core.specs.declared.states.PassState.{PassState}
use Rattle.oak_core.specs.CountReads.{ReadAbsent, EndsAbsent}
use Rattle.oak_core.specs.Memory.{in_rooms, index}
use Rattle.chunk_ops.specs.declared.entries.EntryNo.{EntryNo}
use Rattle.chunk_ops.specs.declared.entries.Found.{Found}
use Rattle.chunk_ops.specs.declared.entries.Found.TheVariants.{Entry, Missing}
use Rattle.chunk_ops.specs.Ways.{Way, Up, Down}
use Rattle.chunk_ops.specs.AskedRanges.{CoversKey}
use Rattle.link_search.specs.Bits.{bits}
use Rattle.chunk_ops.specs.PinRecords.{room_pin, HasEntry}

-- the key was absent at the place of the base, found for it in the call, and what was seen of it ends there
pub record FoundAbsent (call k base : ℕ) (v w : PassState) : Type 0 where
  pub absent : ReadAbsent call k base v w
  pub ends : EndsAbsent k base w.knowledge

-- the entry is one of those found, and has the key
pub record FindsKey (z : Sizes) (call r i : ℕ) (key : List ℕ) (v w : PassState) : Type 0 where
  pub entry : HasEntry r i key w

-- none of those found has the key; of the room's range, the key was absent then
pub record FindsMissing (z : Sizes) (call r : ℕ) (key : List ℕ) (v w : PassState) : Type 0 where
  pub none : (e : FoundEntry) → Has e (found_in (room_pin w)) → found_key e ≢ key_number key
  pub read : CoversKey key (span_of (room_pin v)) → FoundAbsent call (key_number key) (room_pin v).base v w

-- the key is above that of the entry, which the pin found; each key lies behind none
abbrev pub LiesBehind : ℕ → Option EntryNo → List ℕ → PassState → Type 0
LiesBehind r None key v = Unit {0}
LiesBehind r (Some i) key v = (first : List ℕ) × HasEntry r i.0 first v × IsKeyBefore first key

-- the key is below that of the entry that the link names, which the pin found, or it names none
abbrev pub LiesBefore : ℕ → ℕ → List ℕ → PassState → Type 0
LiesBefore r link key v = link ≢ 0 → (next : List ℕ) × HasEntry r (link - 1) next v × IsKeyBefore key next

-- The key belongs right behind the entry, or before all where there is none: no entry that the pin found lies between.
pub record BelongsBehind (r : ℕ) (behind : Option EntryNo) (key : List ℕ) (v : PassState) : Type 0 where
  pub above : LiesBehind r behind key v
  pub next : (i : ℕ) (other : List ℕ) → HasEntry r i other v → LiesBehind r behind other v → IsKeyBefore other key → ⊥

abbrev pub Finds : Found → Sizes → ℕ → ℕ → List ℕ → PassState → PassState → Type 0
Finds (Entry i) z call r key v w = FindsKey z call r i.0 key v w
Finds (Missing behind link) z call r key v w = FindsMissing z call r key v w × BelongsBehind r behind key w × LiesBefore r link key w

-- the number of an entry, where there is one
abbrev pub number_in : Option EntryNo → Option ℕ
number_in None = None
number_in (Some i) = Some i.0

-- the nearest entry that way of a bound

-- the key's number lies that way of the bound; without a bound each does
abbrev pub IsPast : Way → Option (List ℕ) → ℕ → Type 0
IsPast way None k = Unit {0}
IsPast Up (Some b) k = key_number b < k
IsPast Down (Some b) k = k < key_number b

-- k is nearer than x to all that lies the other way
abbrev pub IsNearer : Way → ℕ → ℕ → Type 0
IsNearer Up k x = k < x
IsNearer Down k x = x < k

-- The entry lies that way of the bound, and none of those found does that is nearer; each key of the range between the two was absent.
pub record FindsNearest (z : Sizes) (call r : ℕ) (way : Way) (bound : Option (List ℕ)) (i : ℕ) (v w : PassState) : Type 0 where
  pub entry : FoundEntry
  pub finds : FindsEntry r i w.rooms (room_pin w) entry
  pub past : IsPast way bound (found_key entry)
  pub nearest : (e : FoundEntry) → Has e (found_in (room_pin w)) → IsPast way bound (found_key e) → IsNearer way (found_key e) (found_key entry) → ⊥
  pub between : (k : ℕ) → within (span_of (room_pin v)) k ≡ 1 → IsPast way bound k → IsNearer way k (found_key entry) → FoundAbsent call k (room_pin v).base v w

-- none of those found lies that way of the bound; each key of the range that does was absent
pub record FindsNone (z : Sizes) (call r : ℕ) (way : Way) (bound : Option (List ℕ)) (v w : PassState) : Type 0 where
  pub none : (e : FoundEntry) → Has e (found_in (room_pin w)) → IsPast way bound (found_key e) → ⊥
  pub beyond : (k : ℕ) → within (span_of (room_pin v)) k ≡ 1 → IsPast way bound k → FoundAbsent call k (room_pin v).base v w

-- what a search loads

-- 1 where the finding is of the key word of an entry of the room
abbrev pub is_key_word_of : Sizes → ℕ → Finding → ℕ
is_key_word_of z r f = below (λ i. one_at f.word (index z (in_rooms (at_key r i)))) z.entries

-- Of key words the call loaded as many as a search by halves of the sorted prefix and a walk over the entries behind it need, at most; how many there are was told by the last load of the count, which was made in the call.
pub record LoadsFew (z : Sizes) (r : ℕ) (v w : PassState) : Type 0 where
  pub count : ℕ
  pub found : (room_pin w).count ≡ Some count
  pub before : List Finding
  pub load : Finding
  pub behind : List Finding
  pub met : w.findings.met ≡ v.findings.met ++ (before ++ load ∷ behind)
  pub of_count : load.word ≡ index z (in_rooms (at_count r))
  pub tells : load.found ≡ Some count
  pub last : Each (λ (f : Finding). f.word ≢ index z (in_rooms (at_count r))) behind
  pub few : total (is_key_word_of z r) (before ++ load ∷ behind) ≤ bits (prefix_in count) + (entries_in count - prefix_in count) + 1
