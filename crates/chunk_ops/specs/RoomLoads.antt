-- Loads of the keys of a pinned room by steps of its pass, and what stands under the pin.
use Rattle.std.specs.Prelude.{◌≡◌, ℕ, List, [], ◌∷◌, ◌++◌, Option, Some, None, refl}
use Rattle.std.proofs.Common.{ap, ◌∙◌, subst}
use Rattle.oak_model.specs.Counts.{one_at, total}
use Rattle.arena_core.specs.Arena.{at_bytes}
use Rattle.arena_core.specs.Place.{class_in, block_in}
use Rattle.oak_model.specs.Limits.{Sizes}
use Rattle.chunk_core.specs.declared.holds.FoundEntry.{FoundEntry}
use Rattle.chunk_core.specs.declared.holds.PinnedRoom.{PinnedRoom}
use Rattle.chunk_core.specs.FoundLinks.{entry_numbered}
use Rattle.chunk_core.specs.KeyWords.{key_bytes}
use Rattle.chunk_core.specs.LinkedEntries.{prefix_in}
use Rattle.chunk_core.specs.PinnedRooms.{found_in}
use Rattle.chunk_core.specs.Rooms.{at_key}
use Rattle.link_search.specs.Linked.{Linked}
use Rattle.oak_core.specs.declared.states.PassState.{PassState}
use Rattle.oak_core.specs.Memory.{Spot, in_arena, in_rooms, index}
use Rattle.oak_core.specs.Passes.{IsPassOf, Stays, state, key as sizes, call_of}
use Rattle.oak_core.specs.Step.{load, Told}
use Rattle.chunk_ops.specs.declared.pinned_table.PinnedTable.{PinnedTable}
use Rattle.chunk_ops.specs.PinRecords.{HasRoomPin, room_pin}
use Rattle.chunk_ops.specs.Reads.{Met, met_key, met_block}
use Rattle.chunk_ops.specs.Room.{Room}

-- where a word of the room r stands that was loaded
abbrev pub spot_of : ℕ → Met → Spot
spot_of r (met_key i n) = in_rooms (at_key r i)
spot_of r (met_block w j n) = in_arena (at_bytes (class_in w) (block_in w) j)

-- and the number that was found there
abbrev pub number_of : Met → ℕ
number_of (met_key i n) = n
number_of (met_block w j n) = n

-- each of them was loaded by a step of the call, one right behind another, and nothing else was done
abbrev pub LoadsEach : Sizes → ℕ → ℕ → List Met → PassState → PassState → Type 0
LoadsEach z call r [] v w = w ≡ v
LoadsEach z call r (m ∷ ms) v w = (u : PassState) × Told z call (load (spot_of r m)) v (number_of m) u × LoadsEach z call r ms u w

-- what was found under a pin

abbrev pub counts_told : Option ℕ → ℕ
counts_told None = 0
counts_told (Some c) = 1

abbrev pub prefix_told : Option ℕ → ℕ
prefix_told None = 0
prefix_told (Some c) = prefix_in c

abbrev pub word_found : Option FoundEntry → ℕ
word_found None = 0
word_found (Some e) = e.word

abbrev pub key_found : Option FoundEntry → List ℕ
key_found None = []
key_found (Some e) = key_bytes e.word e.words

abbrev pub linked_in : PinnedRoom → Linked
linked_in p = record {
  counted = counts_told p.count;
  prefix = prefix_told p.count;
  found = λ i. total (λ (e : FoundEntry). one_at e.number i) (found_in p);
  key = λ i. key_found (entry_numbered i (found_in p));
}

abbrev pub room_in : PinnedRoom → Room
room_in p = record { found = linked_in p; place = λ i. word_found (entry_numbered i (found_in p)) }

-- the room that is searched
abbrev pub room_of : PinnedTable → Room
room_of s = room_in (room_pin (state s.pass.now))

abbrev pub view_of : PinnedTable → Linked
view_of s = linked_in (room_pin (state s.pass.now))

-- it has the number of the key word of the room's first entry
abbrev pub IsFirstKey : PinnedTable → Type 0
IsFirstKey s = s.first ≡ index (sizes s.table.now) (in_rooms (at_key s.room 0))

-- its pin stands
pub record IsPinnedTable (s : PinnedTable) : Type 0 where
  pub own : IsPassOf s.table.now s.pass.now
  pub pin : HasRoomPin (sizes s.table.now) s.room (state s.pass.now)
  pub first : IsFirstKey s

-- the later one is of the same pin and pass, with the same base and the same block
pub record IsSameTable (s t : PinnedTable) : Type 0 where
  pub table : t.table ≡ s.table
  pub same_reference : t.pass.ghost_name ≡ s.pass.ghost_name
  pub room : t.room ≡ s.room
  pub base : t.base ≡ s.base
  pub place : t.place ≡ s.place
  pub own : Stays s.pass.now t.pass.now

-- and by it just these words were loaded
pub record LoadsInTable (s t : PinnedTable) (ms : List Met) : Type 0 where
  pub same : IsSameTable s t
  pub loads : LoadsEach (sizes s.table.now) (call_of s.pass.now) s.room ms (state s.pass.now) (state t.pass.now)

-- so it is where nothing was loaded, and where the one follows the other

loads_both : (z : Sizes) (call r : ℕ) (u v w : PassState) (a b : List Met) → LoadsEach z call r a u v → LoadsEach z call r b v w → LoadsEach z call r (a ++ b) u w
loads_both z call r u v w [] b p q = subst (λ (s : PassState). LoadsEach z call r b s w) p q
loads_both z call r u v w (m ∷ a) b p q = (p.0, p.1, loads_both z call r p.0 v w a b p.2 q)

-- of the same pass
loads_in : (z y : Sizes) (first now r q : ℕ) (ms : List Met) (v w : PassState) → y ≡ z → now ≡ first → q ≡ r → LoadsEach y now q ms v w → LoadsEach z first r ms v w
loads_in z y first now r q ms v w e f g l = subst (λ (k : ℕ). LoadsEach z first k ms v w) g (subst (λ (k : ℕ). LoadsEach z k q ms v w) f (subst (λ (x : Sizes). LoadsEach x now q ms v w) e l))

pub same_none : (s : PinnedTable) → IsSameTable s s
same_none s = record { table = refl; same_reference = refl; room = refl; base = refl; place = refl; own = record { table = refl; seat = refl; call = refl; scratch = refl; sorting = refl } }

pub same_both : (s t u : PinnedTable) → IsSameTable s t → IsSameTable t u → IsSameTable s u
same_both s t u p q = record {
  table = q.table ∙ p.table;
  same_reference = q.same_reference ∙ p.same_reference;
  room = q.room ∙ p.room;
  base = q.base ∙ p.base;
  place = q.place ∙ p.place;
  own = record { table = q.own.table ∙ p.own.table; seat = q.own.seat ∙ p.own.seat; call = q.own.call ∙ p.own.call; scratch = q.own.scratch ∙ p.own.scratch; sorting = q.own.sorting ∙ p.own.sorting };
}

pub loads_nothing : (s : PinnedTable) → LoadsInTable s s []
loads_nothing s = record { same = same_none s; loads = refl }

pub loads_then : (s t u : PinnedTable) (a b : List Met) → LoadsInTable s t a → LoadsInTable t u b → LoadsInTable s u (a ++ b)
loads_then s t u a b p q = record {
  same = same_both s t u p.same q.same;
  loads = loads_both (sizes s.table.now) (call_of s.pass.now) s.room (state s.pass.now) (state t.pass.now) (state u.pass.now) a b p.loads
      (loads_in (sizes s.table.now) (sizes t.table.now) (call_of s.pass.now) (call_of t.pass.now) s.room t.room b (state t.pass.now) (state u.pass.now) (ap (λ x. sizes x.now) p.same.table) p.same.own.call p.same.room q.loads);
}
