-- What the steps of a pass on the words of the rooms that it holds leave.
use Rattle.std.proofs.Common.{◌≡◌, ℕ, List, [], ◌∷◌, length, map, sym, refl, ap, ◌∙◌, subst, arith, Option, Some}
use mathlib.Core.Option.{some}
use lib.ListN.{get_elem?}
use Rattle.oak_model.specs.Counts.{Each}
use Rattle.oak_model.specs.Kept.{KeptWord, AreTrueTo}
use Rattle.oak_model.specs.Limits.{Sizes}
use Rattle.oak_model.proofs.Lists.{at_last, at_map}
use Rattle.oak_model.proofs.RowLaws.{each_rest}
use Rattle.arena_core.specs.Place.{content}
use Rattle.header_core.specs.HeaderHolds.{pins_on}
use Rattle.chunk_core.specs.declared.holds.HeldRoom.{HeldRoom}
use Rattle.chunk_core.specs.declared.holds.PinnedRoom.{PinnedRoom}
use Rattle.chunk_core.specs.declared.holds.RoomCopy.{RoomCopy}
use Rattle.chunk_core.specs.declared.holds.RoomHolds.{RoomHolds}
use Rattle.chunk_core.specs.KeptRooms.{kept_of_claim, kept_of_rooms_held, kept_of_rooms}
use Rattle.chunk_core.specs.RoomCopies.{copy_of}
use Rattle.chunk_core.specs.RoomReads.{copy_at}
use Rattle.chunk_core.specs.RoomRule.{in_room_state}
use Rattle.chunk_core.specs.Rooms.{RoomSpot, at_count, at_value, read_room}
use Rattle.chunk_core.specs.LinkWords.{link_spot}
use Rattle.chunk_core.specs.RoomsAfter.{counted_pin, walked_pin}
use Rattle.chunk_core.specs.ValueWord.{names_header}
use Rattle.chunk_core.proofs.Copies.{held_true}
use Rattle.oak_core.specs.declared.states.Finding.{Finding}
use Rattle.oak_core.specs.declared.states.Knowledge.{Knowledge}
use Rattle.oak_core.specs.declared.states.PassState.{PassState}
use Rattle.oak_core.specs.AloneWords.{Runs}
use Rattle.oak_core.specs.LinkTeaching.{knows_link, sights_link}
use Rattle.oak_core.specs.Finding.{finding, grown}
use Rattle.oak_core.specs.FoundKeys.{pinned_key}
use Rattle.oak_core.specs.Loading.{IsPlain}
use Rattle.oak_core.specs.Memory.{IsInside, Memory, Spot, in_rooms, index, memory}
use Rattle.oak_core.specs.PassState.{rooms_held}
use Rattle.oak_core.specs.Rule.{Rule}
use Rattle.oak_core.specs.Splitting.{Loads}
use Rattle.oak_core.specs.Step.{load}
use Rattle.oak_core.specs.TableState.{TableState}
use Rattle.oak_core.proofs.seats.AloneRuns.{moment_after}
use Rattle.oak_core.proofs.memory.MetLists.{at_inside}
use Rattle.oak_core.proofs.told.PlainLoads.{LoadTeachesNothing, knows_linked, met_at, plain_or_taught, plain_teaches, rooms_linked, sights_linked}
use Rattle.oak_core.proofs.told.QuietLoads.{met_quiet, unfound_teaches, unpinned_teaches}
use Rattle.chunk_ops.specs.PinRecords.{WordsStay}
use Rattle.chunk_ops.specs.RoomPins.{HadMoment}
use Rattle.chunk_ops.proofs.WordLoads.{load_at, load_reads, only_loaded}
use Rattle.rebalance.specs.declared.held_rooms.RoomWord.{RoomWord}
use Rattle.rebalance.specs.HeldRooms.{IsWithin, spot}
use Rattle.rebalance.specs.HeldTables.{AwayFromPins, HoldsAlone, HoldsOnlyRooms, HoldsRoom, IsHeldRow, SeesValue, WorksOnRooms, valued}
use Rattle.rebalance.specs.ListedRows.{rows_of}
use Rattle.rebalance.specs.LoneWords.{held_by, no_room, stay_leaves}
use Rattle.rebalance.specs.Mirrors.{copy_or, held_memory}
use Rattle.rebalance.proofs.AwayFromPins.{IsNoPin, away_one}
use Rattle.rebalance.proofs.HeldMemory.{word_inside, word_read}
use Rattle.rebalance.proofs.LoneStores.{load_stays}
use Rattle.rebalance.specs.Resting.{Rests, rests_of}

-- where the rule holds, the copy of a held room has the words of the room
pub copy_stands : (z : Sizes) (s : TableState) → Rule z s → (seat : ℕ) (v : PassState) → get_elem? s.states seat ≡ some v → (r : ℕ) (w : RoomCopy) → copy_of r v.rooms.held ≡ Some w → copy_at z (memory z s.words).rooms r ≡ w
copy_stands z s rule seat v here r w is = let m = (memory z s.words).rooms in let own : get_elem? (map rooms_held s.states) seat ≡ some v.rooms = at_map rooms_held s.states seat v here in
    let P : KeptWord RoomSpot → Type 0 = (λ (t : KeptWord RoomSpot). read_room m t.spot ≡ t.number) in
    let kept = rule.kept_in_rooms.true_to seat (kept_of_rooms v.rooms) (at_map kept_of_rooms (map rooms_held s.states) seat v.rooms own) in
    let words : AreTrueTo (read_room m) (kept_of_rooms_held v.rooms.held) = each_rest P (kept_of_claim v.rooms.claim) (kept_of_rooms_held v.rooms.held) kept in
    held_true z m r w v.rooms.held (rule.rooms.passes seat v.rooms own).whole words is

-- a pass without a pin learns nothing by a load

module _ (call : ℕ) (m : Memory) (qs : List Knowledge) (v : PassState) (only : HoldsOnlyRooms v) where
  count_teaches : (r : ℕ) → LoadTeachesNothing call (in_rooms (at_count r)) m qs v
  count_teaches r = record {
    knowledge = refl;
    sights = refl;
    rooms = ap (λ (o : Option PinnedRoom). record v.rooms { pin = counted_pin m.rooms (content m.arena.bytes) r o }) only.pin ∙ sym (λ i. record v.rooms { pin = only.pin i });
  }

  link_teaches : (r : ℕ) (from : Option ℕ) → LoadTeachesNothing call (in_rooms (link_spot r from)) m qs v
  link_teaches r from = record {
    knowledge = knows_linked call m qs v r from ∙ ap (λ (o : Option PinnedRoom). knows_link m.rooms (content m.arena.bytes) r from o qs v.knowledge) only.pin;
    sights = sights_linked call m v r from ∙ ap (λ (o : Option PinnedRoom). sights_link m.rooms (content m.arena.bytes) r from call o v.findings) only.pin;
    rooms = rooms_linked m v r from ∙ (ap (λ (o : Option PinnedRoom). record v.rooms { pin = walked_pin m.rooms (content m.arena.bytes) r from o }) only.pin ∙ sym (λ i. record v.rooms { pin = only.pin i }));
  }

  value_teaches : (r i : ℕ) → LoadTeachesNothing call (in_rooms (at_value r i)) m qs v
  value_teaches r i = unfound_teaches call r i m qs v (ap (pinned_key r i) only.pin)

  pub nothing_taught : (p : Spot) → LoadTeachesNothing call p m qs v
  nothing_taught p = plain_or_taught (λ q. LoadTeachesNothing call q m qs v) (plain_teaches call m qs v) count_teaches link_teaches value_teaches (λ h. unpinned_teaches call h m qs v (ap (pins_on h) only.headers)) p

-- the pass only met more
pub works_still : (z : Sizes) (call : ℕ) (v w : PassState) → Rests call v w → w.blocks ≡ v.blocks → w.headers ≡ v.headers → w.rooms ≡ v.rooms → AwayFromPins z v w → HadMoment z w → Runs WordsStay v w → WorksOnRooms z call v w
works_still z call v w stands blocks headers rooms away moment stay = record {
  stands = stands;
  blocks = blocks;
  headers = headers;
  pin = ap (λ (a : RoomHolds). a.pin) rooms;
  claim = ap (λ (a : RoomHolds). a.claim) rooms;
  states = λ r s. ap (in_room_state r s) rooms;
  listed = ap (λ (a : RoomHolds). rows_of a.held) rooms;
  copies = λ r h. subst (HoldsRoom z r) (sym rooms) h;
  rows = record { rooms = ap (λ (a : RoomHolds). map (λ (h : HeldRoom). h.room) a.held) rooms; held = λ e. subst (λ (a : RoomHolds). Each (IsHeldRow z) a.held) (sym rooms) e };
  away = away;
  carried = ap (λ (a : RoomHolds). valued a.moving) rooms;
  moment = λ _. moment;
  words = stay_leaves z no_room (held_by v) v w stay;
}

-- a load
module _ (z : Sizes) (call word n : ℕ) (v w : PassState) (only : HoldsOnlyRooms v) (l : Loads z call word v n w) where
  load_met : w ≡ grown (finding z call l.spot (Some n) n l.told.table.words v ∷ []) v
  load_met = met_quiet z call word n v w l.spot l.inside (sym l.at) (λ m qs. nothing_taught call m qs v only l.spot) l

  pub load_rooms : w.rooms ≡ v.rooms
  load_rooms = ap (λ (y : PassState). y.rooms) load_met

  pub load_works : IsNoPin z word → WorksOnRooms z call v w
  load_works away = works_still z call v w
      (subst (Rests call v) (sym load_met) (record { met = record { more = _ ∷ []; met = refl; calls = (refl, tt) }; numbers = refl; knowledge = refl; fulls = refl; swept = refl; sights = refl; gones = refl; claims = refl }))
      (ap (λ (y : PassState). y.blocks) load_met) (ap (λ (y : PassState). y.headers) load_met) load_rooms
      (away_one z v w (finding z call l.spot (Some n) n l.told.table.words v) (ap (λ (y : PassState). y.findings.met) load_met) (λ q lt e. away q lt (sym l.at ∙ e))) (_, moment_after z call (load l.spot) v n w l.told) (load_stays z call word v n w l)

  -- it sees the value that it finds
  pub load_sees : (r i : ℕ) → word ≡ index z (in_rooms (at_value r i)) → names_header n ≡ 1 → SeesValue z r i v w
  load_sees r i at named = let f : Finding = finding z call l.spot (Some n) n l.told.table.words v in let met = ap (λ (y : PassState). y.findings.met) load_met in
      let there : get_elem? w.findings.met (length v.findings.met) ≡ some f = ap (λ (fs : List Finding). get_elem? fs (length v.findings.met)) met ∙ at_last v.findings.met f in record {
        place = length v.findings.met;
        from = omega arith;
        to = at_inside w.findings.met (length v.findings.met) f there;
        finding = f;
        there = there;
        word_is = l.at ∙ at;
        number = n;
        found_is = refl;
        shows = named;
      }

-- the load of a word that teaches no pass
pub plain_works : (z : Sizes) (call word n : ℕ) (v w : PassState) (q : Spot) → IsInside z q → IsPlain q → word ≡ index z q → IsNoPin z word → Loads z call word v n w → WorksOnRooms z call v w × (w.rooms ≡ v.rooms)
plain_works z call word n v w q inside plain at no_pin l = let only = only_loaded z call word n v w q inside plain at l in let met = met_at z call word n v w q inside plain at l in
    let away = away_one z v w (finding z call l.spot (Some n) n l.told.table.words v) (ap (λ (y : PassState). y.findings.met) met) (λ r lt e. no_pin r lt (sym l.at ∙ e)) in
    (works_still z call v w (rests_of call v w only.stands) only.blocks only.headers only.rooms away (_, moment_after z call (load l.spot) v n w l.told) (load_stays z call word v n w l), only.rooms)

-- the load of a word of a held room finds what the copy has
pub load_finds : (z : Sizes) (call at n r : ℕ) (word : RoomWord) (v w : PassState) → HoldsAlone z r v → IsWithin z.entries word → at ≡ index z (in_rooms (spot r word)) → Loads z call at v n w → n ≡ read_room (held_memory v.rooms.held) (spot r word)
load_finds z call at n r word v w h within is l = let t = load_at z call at n v w (in_rooms (spot r word)) (word_inside z r h.room.inside word within) is l in let copy = h.room.copy in
    sym (load_reads z call n v w (in_rooms (spot r word)) t)
    ∙ sym (word_read z (memory z t.table.words).rooms r v.rooms.held (ap copy_or h.room.is ∙ sym (copy_stands z t.table t.rule t.seat v t.here r copy h.room.is)) word within)
