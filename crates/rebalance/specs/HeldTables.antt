-- Rooms of the table that a pass holds, and what its steps on their words leave.
use Rattle.std.specs.Prelude.{◌≡◌, ◌≢◌, ℕ, zero, suc, ◌*◌, ◌<◌, ◌≤◌, ◌==◌, cond, Bool, List, [], ◌∷◌, ◌++◌, filter, length, map, Option, Some, None, refl}
use Rattle.std.proofs.Common.{sym, ap, ◌∙◌, subst, append_assoc, append-nil, arith}
use mathlib.Core.Option.{some}
use lib.ListN.{get_elem?}
use Rattle.oak_model.specs.declared.limits.TheConstants.{CLASSES, GREATEST_ENTRIES}
use Rattle.oak_model.specs.Counts.{Each, one_at, total}
use Rattle.oak_model.specs.Limits.{Sizes}
use Rattle.oak_model.proofs.Lists.{at_longer, begins_length, each_append}
use Rattle.arena_core.specs.Arena.{block_words, blocks}
use Rattle.arena_core.specs.HeldBlocks.{no_blocks}
use Rattle.arena_core.specs.Place.{class_in, block_in}
use Rattle.header_core.specs.HeaderHolds.{no_headers}
use Rattle.chunk_core.specs.declared.holds.Carried.{Carried}
use Rattle.chunk_core.specs.declared.holds.HeldRoom.{HeldRoom}
use Rattle.chunk_core.specs.declared.holds.MovingRange.{MovingRange}
use Rattle.chunk_core.specs.declared.holds.RoomCopy.{RoomCopy}
use Rattle.chunk_core.specs.declared.holds.RoomHeldAs.{RoomHeldAs}
use Rattle.chunk_core.specs.declared.holds.RoomHeldAs.TheVariants.{Frozen, Held}
use Rattle.chunk_core.specs.declared.holds.RoomHolds.{RoomHolds}
use Rattle.chunk_core.specs.declared.states.TheConstants.{HELD}
use Rattle.chunk_core.specs.KeyWords.{key_bytes}
use Rattle.chunk_core.specs.RoomCopies.{copy_of}
use Rattle.chunk_core.specs.RoomRule.{IsWholeCopy, in_room_state}
use Rattle.chunk_core.specs.Rooms.{RoomMemory, at_room_pin, at_value}
use Rattle.chunk_core.specs.ValueWord.{names_header}
use Rattle.oak_core.specs.declared.sorting.SortSlot.{SortSlot}
use Rattle.oak_core.specs.declared.states.Finding.{Finding}
use Rattle.oak_core.specs.declared.states.PassState.{PassState}
use Rattle.oak_core.specs.AloneWords.{Runs}
use Rattle.oak_core.specs.FoundBehind.{FoundBehind}
use Rattle.oak_core.specs.Memory.{in_rooms, index}
use Rattle.oak_core.specs.Passes.{IsPassOf, state, slots_of, key as sizes, call_of}
use Rattle.oak_core.specs.Scratch.{StaysButSlots}
use Rattle.chunk_ops.specs.RoomPins.{HadMoment}
use Rattle.rebalance.specs.declared.held_table.HeldTable.{HeldTable}
use Rattle.rebalance.specs.HeldRooms.{IsNamed}
use Rattle.rebalance.specs.ListedRows.{rows_of}
use Rattle.rebalance.specs.LoneWords.{LeavesBut, held_by, no_room, runs_leave_both, runs_leave_more, runs_leave_none}
use Rattle.rebalance.specs.Mirrors.{held_memory}
use Rattle.rebalance.specs.Resting.{Rests, rests_both, rests_none}

-- the pass holds the room alone, and keeps all its words
pub record HoldsRoom (z : Sizes) (r : ℕ) (a : RoomHolds) : Type 0 where
  pub inside : r < z.chunks
  pub copy : RoomCopy
  pub is : copy_of r a.held ≡ Some copy
  pub whole : IsWholeCopy z copy
  pub held : in_room_state r HELD a ≡ 1

-- it holds nothing but rooms
pub record HoldsOnlyRooms (v : PassState) : Type 0 where
  pub blocks : v.blocks ≡ no_blocks
  pub headers : v.headers ≡ no_headers
  pub pin : v.rooms.pin ≡ None
  pub claim : v.rooms.claim ≡ None

-- so it is with the room, and there was a moment at which the rule held with the pass in this state
pub record HoldsAlone (z : Sizes) (r : ℕ) (v : PassState) : Type 0 where
  pub room : HoldsRoom z r v.rooms
  pub only : HoldsOnlyRooms v
  pub begun : HadMoment z v

-- the entries that the ranges carry
unfoldable pub carried_in : List MovingRange → List Carried
carried_in [] = []
carried_in (g ∷ gs) = g.carried ++ carried_in gs

abbrev pub is_valued : Carried → Bool
is_valued c = names_header c.value == 1

-- those of them that have a value
abbrev pub valued : List MovingRange → List Carried
valued gs = filter is_valued (carried_in gs)

-- the first of the entries with the key word
unfoldable pub with_word : ℕ → List Carried → Option Carried
with_word w [] = None
with_word w (c ∷ cs) = cond (c.word == w) (Some c) (with_word w cs)

-- its key
abbrev pub key_of_entry : Option Carried → List ℕ
key_of_entry None = []
key_of_entry (Some c) = key_bytes c.word c.words

-- the word names a block of the table with room for the key
pub record NamesKey (z : Sizes) (word : ℕ) (k : List ℕ) : Type 0 where
  pub class : class_in word < CLASSES
  pub block : block_in word < blocks z (class_in word)
  pub room : length k ≤ 8 * block_words (class_in word)

-- one of them has it, which names a block of the table with the entry's key in it
pub record NamesValued (z : Sizes) (w : ℕ) (cs : List Carried) : Type 0 where
  pub entry : Carried
  pub first : with_word w cs ≡ Some entry
  pub named : IsNamed w (key_bytes entry.word entry.words)
  pub block : NamesKey z w (key_bytes entry.word entry.words)

-- the room is held, and all its words are kept
abbrev pub IsHeldAs : Sizes → RoomHeldAs → Type 0
IsHeldAs z Frozen = ⊥
IsHeldAs z (Held w) = IsWholeCopy z w

-- so is the room of the row
abbrev pub IsHeldRow : Sizes → HeldRoom → Type 0
IsHeldRow z h = IsHeldAs z h.held_as

-- the later rows are of the same rooms in their order, which are held still
pub record RowsStay (z : Sizes) (vs ws : List HeldRoom) : Type 0 where
  pub rooms : map (λ (h : HeldRoom). h.room) ws ≡ map (λ (h : HeldRoom). h.room) vs
  pub held : Each (IsHeldRow z) vs → Each (IsHeldRow z) ws

-- no number stands twice in the list
abbrev pub AreApart : List ℕ → Type 0
AreApart [] = Unit {0}
AreApart (r ∷ rs) = (total (λ (q : ℕ). one_at q r) rs ≡ 0) × AreApart rs

-- no two of the rows are of one room
abbrev pub Apart : List HeldRoom → Type 0
Apart hs = AreApart (map (λ (h : HeldRoom). h.room) hs)

-- nothing that the pass met since is at the pin word of a room
pub record AwayFromPins (z : Sizes) (v w : PassState) : Type 0 where
  pub more : List Finding
  pub met : w.findings.met ≡ v.findings.met ++ more
  pub away : (r : ℕ) → r < z.chunks → Each (λ (f : Finding). f.word ≢ index z (in_rooms (at_room_pin r))) more

-- since then it found the value word of an entry of the room with a value
abbrev pub SeesValue : Sizes → ℕ → ℕ → PassState → PassState → Type 0
SeesValue z r i v w = FoundBehind (length v.findings.met) (length w.findings.met) w.findings.met (index z (in_rooms (at_value r i))) (λ n had. names_header n ≡ 1)

-- The pass worked on words of rooms that it holds: it met more, none of it at a pin word of a room, learned and wrote nothing, has the rooms as it had them, and its ranges carry the entries that have a value still.
pub record WorksOnRooms (z : Sizes) (call : ℕ) (v w : PassState) : Type 0 where
  pub stands : Rests call v w
  pub blocks : w.blocks ≡ v.blocks
  pub headers : w.headers ≡ v.headers
  pub pin : w.rooms.pin ≡ v.rooms.pin
  pub claim : w.rooms.claim ≡ v.rooms.claim
  pub states : (r s : ℕ) → in_room_state r s w.rooms ≡ in_room_state r s v.rooms
  pub listed : rows_of w.rooms.held ≡ rows_of v.rooms.held
  pub copies : (r : ℕ) → HoldsRoom z r v.rooms → HoldsRoom z r w.rooms
  pub rows : RowsStay z v.rooms.held w.rooms.held
  pub away : AwayFromPins z v w
  pub carried : valued w.rooms.moving ≡ valued v.rooms.moving
  pub moment : HadMoment z v → HadMoment z w
  -- to a pass that is alone
  pub words : Runs (LeavesBut z no_room (held_by v)) v w

-- The table with its pass.

-- the pass holds the room
pub record HoldsInTable (s : HeldTable) (r : ℕ) : Type 0 where
  pub own : IsPassOf s.table.now s.pass.now
  pub alone : HoldsAlone (sizes s.table.now) r (state s.pass.now)

-- how many entries a room has
abbrev pub entries_of : HeldTable → ℕ
entries_of s = (sizes s.table.now).entries

-- the words of the rooms that it holds
abbrev pub rooms_of : HeldTable → RoomMemory
rooms_of s = held_memory (state s.pass.now).rooms.held

-- the ranges that move with it
abbrev pub ranges_of : HeldTable → List MovingRange
ranges_of s = (state s.pass.now).rooms.moving

-- the key of the first carried entry that has a value and the key word
abbrev pub keys_of : HeldTable → ℕ → List ℕ
keys_of s w = key_of_entry (with_word w (valued (ranges_of s)))

-- there is such an entry
pub record NamesInTable (s : HeldTable) (w : ℕ) : Type 0 where
  pub own : IsPassOf s.table.now s.pass.now
  pub names : NamesValued (sizes s.table.now) w (valued (ranges_of s))

-- a slot with nothing in it
abbrev pub no_slot : SortSlot
no_slot = record { words = []; length = 0; key = 0; value = 0 }

-- the first n slots, with empty ones behind the last where there are fewer
unfoldable pub filled : ℕ → List SortSlot → List SortSlot
filled zero xs = []
filled (suc n) [] = no_slot ∷ filled n []
filled (suc n) (x ∷ xs) = x ∷ filled n xs

-- the slots of the pass, of which there are as many as the largest room has entries
abbrev pub slots_held : HeldTable → List SortSlot
slots_held s = filled GREATEST_ENTRIES (slots_of s.pass.now)

-- the later one is of the same table and pass, which worked on its rooms
pub record StaysInTable (s t : HeldTable) : Type 0 where
  pub table : t.table ≡ s.table
  pub same_reference : t.pass.ghost_name ≡ s.pass.ghost_name
  pub own : StaysButSlots s.pass.now t.pass.now
  pub works : WorksOnRooms (sizes s.table.now) (call_of s.pass.now) (state s.pass.now) (state t.pass.now)

-- between the two the value word of an entry of the room was found with a value
abbrev pub SeesInTable : HeldTable → HeldTable → ℕ → ℕ → Type 0
SeesInTable s t r i = SeesValue (sizes s.table.now) r i (state s.pass.now) (state t.pass.now)

-- ---- the laws of such rooms

-- where nothing was met, nothing was at a pin word
pub away_none : (z : Sizes) (v : PassState) → AwayFromPins z v v
away_none z v = record { more = []; met = sym (append-nil v.findings.met); away = λ r l. tt }

-- nor where it was in neither of two parts, one behind the other
pub away_both : (z : Sizes) (u v w : PassState) → AwayFromPins z u v → AwayFromPins z v w → AwayFromPins z u w
away_both z u v w a b = record {
  more = a.more ++ b.more;
  met = b.met ∙ (ap (λ (l : List Finding). l ++ b.more) a.met ∙ append_assoc u.findings.met a.more b.more);
  away = λ r l. each_append (λ (f : Finding). f.word ≢ index z (in_rooms (at_room_pin r))) a.more b.more (a.away r l) (b.away r l);
}

-- where nothing was done
pub works_none : (z : Sizes) (call : ℕ) (v : PassState) → WorksOnRooms z call v v
works_none z call v = record { stands = rests_none call v; blocks = refl; headers = refl; pin = refl; claim = refl; states = λ r s. refl; listed = refl; copies = λ r h. h; rows = record { rooms = refl; held = λ e. e }; away = away_none z v; carried = refl; moment = λ m. m; words = runs_leave_none z no_room (held_by v) v }

-- one part behind another
pub works_both : (z : Sizes) (call : ℕ) (u v w : PassState) → WorksOnRooms z call u v → WorksOnRooms z call v w → WorksOnRooms z call u w
works_both z call u v w a b = record {
  stands = rests_both call u v w a.stands b.stands;
  blocks = b.blocks ∙ a.blocks;
  headers = b.headers ∙ a.headers;
  pin = b.pin ∙ a.pin;
  claim = b.claim ∙ a.claim;
  states = λ r s. b.states r s ∙ a.states r s;
  listed = b.listed ∙ a.listed;
  copies = λ r h. b.copies r (a.copies r h);
  rows = record { rooms = b.rows.rooms ∙ a.rows.rooms; held = λ e. b.rows.held (a.rows.held e) };
  away = away_both z u v w a.away b.away;
  carried = b.carried ∙ a.carried;
  moment = λ m. b.moment (a.moment m);
  words = runs_leave_both z no_room (held_by u) u v w a.words (runs_leave_more z no_room (held_by v) no_room (held_by u) v w (λ q m. m) (λ q l. let e = a.states q HELD in omega arith) b.words);
}

works_in : (z y : Sizes) (first now : ℕ) (v w : PassState) → y ≡ z → now ≡ first → WorksOnRooms y now v w → WorksOnRooms z first v w
works_in z y first now v w e f h = subst (λ (k : ℕ). WorksOnRooms z k v w) f (subst (λ (x : Sizes). WorksOnRooms x now v w) e h)

pub stays_itself : (s : HeldTable) → StaysInTable s s
stays_itself s = record { table = refl; same_reference = refl; own = record { table = refl; seat = refl; call = refl; scratch = refl; sorting = refl }; works = works_none (sizes s.table.now) (call_of s.pass.now) (state s.pass.now) }

pub stays_then : (s t u : HeldTable) → StaysInTable s t → StaysInTable t u → StaysInTable s u
stays_then s t u a b = record {
  table = b.table ∙ a.table;
  same_reference = b.same_reference ∙ a.same_reference;
  own = record { table = b.own.table ∙ a.own.table; seat = b.own.seat ∙ a.own.seat; call = b.own.call ∙ a.own.call; scratch = b.own.scratch ∙ a.own.scratch; sorting = refl };
  works = works_both (sizes s.table.now) (call_of s.pass.now) (state s.pass.now) (state t.pass.now) (state u.pass.now) a.works
      (works_in (sizes s.table.now) (sizes t.table.now) (call_of s.pass.now) (call_of t.pass.now) (state t.pass.now) (state u.pass.now) (ap (λ x. sizes x.now) a.table) a.own.call b.works);
}

pub entries_stay : (s t : HeldTable) → StaysInTable s t → entries_of t ≡ entries_of s
entries_stay s t a = ap (λ x. (sizes x.now).entries) a.table

own_stays : (s t : HeldTable) → StaysInTable s t → IsPassOf s.table.now s.pass.now → IsPassOf t.table.now t.pass.now
own_stays s t a own = a.own.table ∙ (own ∙ sym (ap (λ x. x.now.table.shared.table_id) a.table))

pub holds_still : (s t : HeldTable) (r : ℕ) → StaysInTable s t → HoldsInTable s r → HoldsInTable t r
holds_still s t r a h = let w = a.works in let o = h.alone.only in record {
  own = own_stays s t a h.own;
  alone = subst (λ (z : Sizes). HoldsAlone z r (state t.pass.now)) (sym (ap (λ x. sizes x.now) a.table)) (record {
    room = w.copies r h.alone.room;
    only = record { blocks = w.blocks ∙ o.blocks; headers = w.headers ∙ o.headers; pin = w.pin ∙ o.pin; claim = w.claim ∙ o.claim };
    begun = w.moment h.alone.begun;
  });
}

pub names_still : (s t : HeldTable) (w : ℕ) → StaysInTable s t → NamesInTable s w → NamesInTable t w × (keys_of t w ≡ keys_of s w)
names_still s t w a h = (
  record {
    own = own_stays s t a h.own;
    names = subst (λ (z : Sizes). NamesValued z w (valued (ranges_of t))) (sym (ap (λ x. sizes x.now) a.table)) (subst (NamesValued (sizes s.table.now) w) (sym a.works.carried) h.names);
  },
  ap (λ (cs : List Carried). key_of_entry (with_word w cs)) a.works.carried,
)

-- a value that was found between two was found between the first and what comes behind the second
pub sees_later : (s t u : HeldTable) (r i : ℕ) → SeesInTable s t r i → StaysInTable t u → SeesInTable s u r i
sees_later s t u r i h a = let m = a.works.stands.met in let longer = begins_length (state t.pass.now).findings.met (state u.pass.now).findings.met (m.more, m.met) in let below = h.to in record {
  place = h.place;
  from = h.from;
  to = omega arith;
  finding = h.finding;
  there = subst (λ (l : List Finding). get_elem? l h.place ≡ some h.finding) (sym m.met) (at_longer (state t.pass.now).findings.met m.more h.place h.finding h.there);
  word_is = h.word_is;
  number = h.number;
  found_is = h.found_is;
  shows = h.shows;
}

-- and between what comes before the first and the second
pub sees_earlier : (s t u : HeldTable) (r i : ℕ) → StaysInTable s t → SeesInTable t u r i → SeesInTable s u r i
sees_earlier s t u r i a h = let m = a.works.stands.met in let longer = begins_length (state s.pass.now).findings.met (state t.pass.now).findings.met (m.more, m.met) in let behind = h.from in record {
  place = h.place;
  from = omega arith;
  to = h.to;
  finding = h.finding;
  there = h.there;
  word_is = h.word_is ∙ ap (λ x. index (sizes x.now) (in_rooms (at_value r i))) a.table;
  number = h.number;
  found_is = h.found_is;
  shows = h.shows;
}

pub is_its_key : (s : HeldTable) (w : ℕ) → NamesInTable s w → IsNamed w (keys_of s w)
is_its_key s w h = subst (λ (o : Option Carried). IsNamed w (key_of_entry o)) (sym h.names.first) h.names.named

pub entries_few : (s : HeldTable) (r : ℕ) → HoldsInTable s r → entries_of s ≤ GREATEST_ENTRIES
entries_few s r h = h.alone.begun.1.rule.sizes.entries_greatest

length_filled : (n : ℕ) (xs : List SortSlot) → length (filled n xs) ≡ n
unfolding filled
length_filled zero xs = refl
length_filled (suc n) [] = ap suc (length_filled n [])
length_filled (suc n) (x ∷ xs) = ap suc (length_filled n xs)

pub slots_many : (s : HeldTable) → length (slots_held s) ≡ GREATEST_ENTRIES
slots_many s = length_filled GREATEST_ENTRIES (slots_of s.pass.now)
