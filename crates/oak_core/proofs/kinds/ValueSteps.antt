-- A step on the value word of an entry that was found under a good pin: what it owes, so that the rule stands behind it.
use Rattle.std.proofs.Common.{◌≡◌, ℕ, ◌^◌, ◌<◌, List, map, set, get_or, sym, refl, subst, arith, false}
use mathlib.Core.Option.{some}
use lib.ListN.{get_elem?}
use Rattle.oak_model.specs.Kept.{KeptNumbersStand}
use Rattle.oak_model.specs.Limits.{Sizes}
use Rattle.oak_model.proofs.KeptLaws.{kept_unkept}
use Rattle.oak_model.proofs.Lists.{at_map, map_set_same}
use Rattle.arena_core.specs.Blocks.{BlocksAreOwned}
use Rattle.arena_core.specs.Place.{names_block, content}
use Rattle.chunk_core.specs.declared.holds.FoundEntry.{FoundEntry}
use Rattle.chunk_core.specs.declared.holds.PinnedRoom.{PinnedRoom}
use Rattle.chunk_core.specs.declared.holds.RoomHolds.{RoomHolds}
use Rattle.chunk_core.specs.CoverRule.{CoversPartition}
use Rattle.chunk_core.specs.MayOnRooms.{FindsEntry}
use Rattle.chunk_core.specs.KeptRooms.{kept_of_rooms}
use Rattle.chunk_core.specs.RoomRule.{RoomsStand}
use Rattle.chunk_core.specs.RoomStep.{RoomStep, put_room, room_effect, room_found, room_spot}
use Rattle.chunk_core.specs.Rooms.{IsInRooms, RoomSpot, at_value, read_room, same_room_spot}
use Rattle.chunk_core.proofs.KeptValues.{value_kept, value_owners, value_rooms}
use Rattle.chunk_core.proofs.RoomLinks.{linked_below}
use Rattle.oak_core.specs.declared.states.PassState.{PassState}
use Rattle.oak_core.specs.EntryOwners.{all_others, is_key_word}
use Rattle.oak_core.specs.Finding.{finding}
use Rattle.oak_core.specs.Known.{known}
use Rattle.oak_core.specs.Memory.{Memory, in_rooms, index, memory, read, same_spot, write}
use Rattle.oak_core.specs.Owners.{HeadersAreHeld}
use Rattle.oak_core.specs.PassState.{blocks_of, headers_held, kept_of, knowledge_of, rooms_held}
use Rattle.oak_core.specs.Rule.{HistoriesStand, PassStands, Rule}
use Rattle.oak_core.specs.Step.{on_rooms, state_after, table_after}
use Rattle.oak_core.specs.TableState.{TableState}
use Rattle.oak_core.proofs.covers.FoundEntries.{entry_once, room_covers}
use Rattle.oak_core.proofs.calls.Growing.{swept_grows}
use Rattle.oak_core.proofs.kinds.Keeps.{learning_rule, of_rooms}
use Rattle.oak_core.proofs.owners.KeptWords.{times_in_rooms, unkept_by_all}
use Rattle.oak_core.proofs.keyed.KeyBundles.{KeyBundles}
use Rattle.oak_core.proofs.covers.RoomBundles.{RoomBundles}
use Rattle.oak_core.proofs.memory.Words.{read-write}

module _ (z : Sizes) (s : TableState) (seat : ℕ) (v : PassState) (r : Rule z s) (here : get_elem? s.states seat ≡ some v) where
  abbrev m : Memory
  m = memory z s.words

  abbrev bytes : ℕ → List ℕ
  bytes = content m.arena.bytes

  abbrev hs : List RoomHolds
  hs = map rooms_held s.states

  own : get_elem? hs seat ≡ some v.rooms
  own = at_map rooms_held s.states seat v here

  -- entries have the blocks that they had
  owners_same : (k i x c b : ℕ) → all_others z (write m (in_rooms (at_value k i)) x) hs c b ≡ all_others z m hs c b
  owners_same k i x c b = let t = value_owners z m.rooms bytes hs (names_block c b) k i x in omega arith

  -- what stands behind a step by which a word of a room becomes x, and the pass w
  pub record Behind (p : RoomSpot) (x : ℕ) (w : PassState) : Type 0 where
    pub small : x < 2 ^ 64
    pub histories : HistoriesStand (map knowledge_of (set s.states seat w))
    pub blocks : BlocksAreOwned z m.arena.bits (all_others z (write m (in_rooms p) x) (map rooms_held (set s.states seat w))) (map blocks_of (set s.states seat w))
    pub headers : HeadersAreHeld m.headers m.arena.bytes (known (map knowledge_of (set s.states seat w))) (map headers_held (set s.states seat w))
    pub rooms : RoomBundles z (write m (in_rooms p) x).rooms m.arena.bytes (map rooms_held (set s.states seat w))
    pub keys : KeyBundles z (write m (in_rooms p) x) (set s.states seat w)
    pub kept : KeptNumbersStand same_spot (read (write m (in_rooms p) x)) (map kept_of (set s.states seat w))
    pub pin : PassStands w

  -- what is owed where it is the value word of an entry, and the pass has the blocks and the rooms that it had
  pub record Owed (k i x : ℕ) (w : PassState) : Type 0 where
    pub small : x < 2 ^ 64
    pub histories : HistoriesStand (map knowledge_of (set s.states seat w))
    pub headers : HeadersAreHeld m.headers m.arena.bytes (known (map knowledge_of (set s.states seat w))) (map headers_held (set s.states seat w))
    pub covers : CoversPartition z (put_room m.rooms (at_value k i) x) bytes is_key_word (map rooms_held (set s.states seat w))
    pub keys : KeyBundles z (record m { rooms = put_room m.rooms (at_value k i) x }) (set s.states seat w)
    pub kept : KeptNumbersStand same_spot (read m) (map kept_of (set s.states seat w))
    pub pin : PassStands w
    pub blocks_same : w.blocks ≡ v.blocks
    pub rooms_same : w.rooms ≡ v.rooms

  module _ (call : ℕ) (going : v.numbers.spent ≡ false) where
    pub value_behind : (k i : ℕ) (p : PinnedRoom) (e : FoundEntry) → FindsEntry k i v.rooms p e → (x : ℕ) (w : PassState) → Owed k i x w → Behind (at_value k i) x w
    value_behind k i p e finds x w o = let m' : Memory = write m (in_rooms (at_value k i)) x in record {
      small = o.small;
      histories = o.histories;
      blocks = of_rooms z s call seat v r here going w o.rooms_same (λ (rs : List RoomHolds). BlocksAreOwned z m.arena.bits (all_others z m' rs) (map blocks_of (set s.states seat w)))
          (subst (BlocksAreOwned z m.arena.bits (all_others z m' hs)) (sym (map_set_same blocks_of s.states seat v w here o.blocks_same)) (record {
            owned = λ c b. let t = owners_same k i x c b in let q = r.blocks.owned c b in omega arith;
            inside = λ c b le. let t = owners_same k i x c b in let q = r.blocks.inside c b le in omega arith;
            whole = r.blocks.whole;
          }));
      headers = o.headers;
      rooms = record {
        rooms = of_rooms z s call seat v r here going w o.rooms_same (RoomsStand z (put_room m.rooms (at_value k i) x) bytes) (value_rooms z m.rooms bytes hs k i x (linked_below z m.rooms bytes k (r.rooms.ordered k (room_covers z m s.states r.rooms r.covers seat v here k i p e finds)) i (let o = entry_once z m s.states r.rooms r.covers seat v here k i p e finds in omega arith)) r.rooms);
        covers = o.covers;
        kept = of_rooms z s call seat v r here going w o.rooms_same (λ (rs : List RoomHolds). KeptNumbersStand same_room_spot (read_room (put_room m.rooms (at_value k i) x)) (map kept_of_rooms rs)) (value_kept z m.rooms bytes hs r.rooms r.kept_in_rooms seat v.rooms own k i (room_covers z m s.states r.rooms r.covers seat v here k i p e finds) (entry_once z m s.states r.rooms r.covers seat v here k i p e finds) x);
      };
      keys = o.keys;
      kept = kept_unkept same_spot (read m) (read m') (in_rooms (at_value k i)) x (λ q. read-write m (in_rooms (at_value k i)) q x) (map kept_of (set s.states seat w)) (unkept_by_all (in_rooms (at_value k i)) (times_in_rooms (at_value k i)) (set s.states seat w)) o.kept;
      pin = o.pin;
    }

    -- the rule stands then
    pub behind_rule : (x : RoomStep) → IsInRooms z (room_spot x) → Behind (room_spot x) (room_effect x (get_or s.words (index z (in_rooms (room_spot x))) 0)) (state_after z call (on_rooms x) s v) → Rule z (table_after z call (on_rooms x) seat v s)
    behind_rule x inside b = let n : ℕ = get_or s.words (index z (in_rooms (room_spot x))) 0 in
        learning_rule z s call seat v r here going (on_rooms x) (finding z call (in_rooms (room_spot x)) (room_found x n) (room_effect x n) s.words v) inside b.small refl refl (record { met = refl; swept = swept_grows x v; fulls = refl }) refl b.histories b.blocks b.headers b.rooms b.keys b.kept b.pin
