-- The load of the count of a room keeps the rule: under a good pin of the room its pass has found the entries of the prefix.
use Rattle.std.proofs.Common.{◌≡◌, ℕ, List, map, set, sym, refl, ap, ◌∙◌, subst, arith, Some, false, true, Bool, cond, ◌&&◌, ◌==◌, Option, None, eq-eqb, eqb-true}
use mathlib.Core.Option.{some}
use lib.ListN.{get_elem?}
use Rattle.oak_model.specs.Kept.{KeptNumbersStand}
use Rattle.oak_model.specs.Limits.{Sizes}
use Rattle.oak_model.proofs.Lists.{at_map, map_set, map_set_same}
use Rattle.arena_core.specs.Blocks.{BlocksAreOwned}
use Rattle.arena_core.specs.Place.{content, names_block}
use Rattle.chunk_core.specs.declared.holds.PinnedRoom.{PinnedRoom}
use Rattle.chunk_core.specs.Rooms.{at_count, read_room, same_room_spot}
use Rattle.oak_core.specs.declared.states.Knowledge.{Knowledge}
use Rattle.oak_core.specs.declared.states.PassState.{PassState}
use Rattle.oak_core.specs.EntryOwners.{all_others, is_key_word}
use Rattle.oak_core.specs.LinkTeaching.{is_pinned}
use Rattle.oak_core.specs.Memory.{Memory, in_rooms, memory, IsInside}
use Rattle.oak_core.specs.PassState.{blocks_of, rooms_held, knowledge_of}
use Rattle.oak_core.specs.Rule.{Rule}
use Rattle.oak_core.specs.Step.{load, state_after, table_after}
use Rattle.oak_core.specs.TableState.{TableState}
use Rattle.oak_core.proofs.keyed.KeyBundles.{CoversStay, keys_idle, keys_now}
use Rattle.oak_core.proofs.covers.RoomBundles.{RoomBundles}
use Rattle.pin_word.specs.PinWord.{state_of}
use Rattle.oak_model.proofs.Counting.{both_true, test-cases}
use Rattle.chunk_core.specs.declared.states.TheConstants.{OPEN}
use Rattle.chunk_core.specs.KeptRooms.{kept_of_rooms}
use Rattle.chunk_core.specs.PinnedRooms.{IsGoodRoom}
use Rattle.chunk_core.specs.RoomsAfter.{pin_with, counted_pin}
use Rattle.chunk_core.proofs.CountLoads.{count_covers, count_rooms, count_partition}
use Rattle.oak_core.proofs.told.PlainLoads.{LoadTeachesNothing}
use Rattle.oak_core.proofs.kinds.KeepsLoads.{load_rule, quiet_keeps}
use Rattle.oak_core.proofs.keyed.KeysAfter.{after_idle}
use Rattle.oak_core.proofs.known.PinsKnown.{pins_same}
use Rattle.chunk_core.specs.CoverSums.{all_of, owners_in_rooms}
use Rattle.chunk_core.proofs.RoomOwners.{owners_idle}
use Rattle.chunk_core.specs.declared.holds.RoomHolds.{RoomHolds}

module _ (z : Sizes) (s : TableState) (call seat : ℕ) (v : PassState) (r : Rule z s) (here : get_elem? s.states seat ≡ some v) (going : v.numbers.spent ≡ false) where
  abbrev m : Memory
  m = memory z s.words

  -- the count of the room of a good pin
  module _ (p : PinnedRoom) (is : v.rooms.pin ≡ Some p) (good : IsGoodRoom p) (inside : IsInside z (in_rooms (at_count p.room))) where
    abbrev w : PassState
    w = state_after z call (load (in_rooms (at_count p.room))) s v

    abbrev bytes : ℕ → List ℕ
    bytes = content m.arena.bytes

    abbrev qs : List Knowledge
    qs = map knowledge_of s.states

    abbrev p' : PinnedRoom
    p' = pin_with m.rooms (content m.arena.bytes) (m.rooms.count p.room) p

    pinned_there : is_pinned p.room p ≡ true
    pinned_there = (λ i. eq-eqb p.room p.room refl i && eq-eqb (state_of p.found) OPEN good i)

    rooms_are : w.rooms ≡ record v.rooms { pin = Some p' }
    rooms_are = ap (λ (o : Option PinnedRoom). record v.rooms { pin = counted_pin m.rooms bytes p.room o }) is ∙ ap (λ (b : Bool). record v.rooms { pin = Some (cond b p' p) }) pinned_there

    -- nothing changes that is added up over covers
    sums : CoversStay z m m s.states (set s.states seat w)
    sums F = ap (λ (l : List RoomHolds). all_of z m.rooms bytes l F) (map_set rooms_held s.states seat w ∙ ap (set (map rooms_held s.states) seat) rooms_are)
        ∙ count_covers z m.rooms bytes is_key_word (map rooms_held s.states) r.rooms r.covers seat v.rooms (at_map rooms_held s.states seat v here) p is good F

    rooms_then : RoomBundles z m.rooms m.arena.bytes (map rooms_held (set s.states seat w))
    rooms_then = subst (RoomBundles z m.rooms m.arena.bytes) (sym (map_set rooms_held s.states seat w ∙ ap (set (map rooms_held s.states) seat) rooms_are)) record {
      rooms = count_rooms z m.rooms bytes is_key_word (map rooms_held s.states) r.rooms r.covers seat v.rooms (at_map rooms_held s.states seat v here) p is good;
      covers = count_partition z m.rooms bytes is_key_word (map rooms_held s.states) r.rooms r.covers seat v.rooms (at_map rooms_held s.states seat v here) p is good;
      kept = subst (KeptNumbersStand same_room_spot (read_room m.rooms)) (sym (map_set_same kept_of_rooms (map rooms_held s.states) seat v.rooms (record v.rooms { pin = Some p' }) (at_map rooms_held s.states seat v here) refl)) r.kept_in_rooms;
    }

    owners : (c b : ℕ) → all_others z m (map rooms_held (set s.states seat w)) c b ≡ all_others z m (map rooms_held s.states) c b
    owners c b = let e = subst (λ (l : List RoomHolds). owners_in_rooms z m.rooms bytes l (names_block c b) ≡ owners_in_rooms z m.rooms bytes (map rooms_held s.states) (names_block c b)) (sym (map_set rooms_held s.states seat w ∙ ap (set (map rooms_held s.states) seat) rooms_are))
        (owners_idle z m.rooms bytes (map rooms_held s.states) seat v.rooms (record v.rooms { pin = Some p' }) (at_map rooms_held s.states seat v here) refl (names_block c b)) in omega arith

    pub counted_keeps : Rule z (table_after z call (load (in_rooms (at_count p.room))) seat v s)
    counted_keeps = load_rule z s call seat v r here going (in_rooms (at_count p.room)) inside
        (after_idle z s seat v r here m w refl (keys_idle z m m s.states seat v w here (keys_now z s r) sums refl refl refl refl (λ h _. refl) (pins_same v w refl refl (r.heard.pins seat v here))))
        (subst (BlocksAreOwned z m.arena.bits (all_others z m (map rooms_held (set s.states seat w)))) (sym (map_set_same blocks_of s.states seat v w here refl)) record {
          owned = λ c b. let e = owners c b in let o = r.blocks.owned c b in omega arith;
          inside = λ c b le. let e = owners c b in let o = r.blocks.inside c b le in omega arith;
          whole = r.blocks.whole;
        })
        rooms_then

  -- without a good pin of the room it finds nothing
  idle_count : (k : ℕ) (o : Option PinnedRoom) → v.rooms.pin ≡ o → ((p : PinnedRoom) → o ≡ Some p → is_pinned k p ≡ false) → LoadTeachesNothing call (in_rooms (at_count k)) m (map knowledge_of s.states) v
  idle_count k None is other = record {
    knowledge = refl;
    sights = refl;
    rooms = ap (λ (o : Option PinnedRoom). record v.rooms { pin = counted_pin m.rooms (content m.arena.bytes) k o }) is ∙ ap (λ (o : Option PinnedRoom). record v.rooms { pin = o }) (sym is);
  }
  idle_count k (Some p) is other = record {
    knowledge = refl;
    sights = refl;
    rooms = ap (λ (o : Option PinnedRoom). record v.rooms { pin = counted_pin m.rooms (content m.arena.bytes) k o }) is
        ∙ (ap (λ (t : Bool). record v.rooms { pin = Some (cond t (pin_with m.rooms (content m.arena.bytes) (m.rooms.count k) p) p) }) (other p refl) ∙ ap (λ (o : Option PinnedRoom). record v.rooms { pin = o }) (sym is));
  }

  pub count_keeps : (k : ℕ) → IsInside z (in_rooms (at_count k)) → (o : Option PinnedRoom) → v.rooms.pin ≡ o → Rule z (table_after z call (load (in_rooms (at_count k))) seat v s)
  count_keeps k inside None is = quiet_keeps z s call seat v r here going (in_rooms (at_count k)) inside (idle_count k None is (λ p e. absurd cc))
  count_keeps k inside (Some p) is = test-cases (is_pinned k p) (λ t. is_pinned k p ≡ t → Rule z (table_after z call (load (in_rooms (at_count k))) seat v s))
      (λ same _. let b = both_true (p.room == k) (state_of p.found == OPEN) same in let at : p.room ≡ k = eqb-true p.room k b.0 in
      subst (λ (t : ℕ). Rule z (table_after z call (load (in_rooms (at_count t))) seat v s)) at (counted_keeps p is (eqb-true (state_of p.found) OPEN b.1) (subst (λ (t : ℕ). IsInside z (in_rooms (at_count t))) (sym at) inside)))
      (λ other _. quiet_keeps z s call seat v r here going (in_rooms (at_count k)) inside (idle_count k (Some p) is (λ q e. ap (is_pinned k) (sym (same_pin p q e)) ∙ other))) refl
    where
      same_pin : (p q : PinnedRoom) → Some p ≡ Some q → p ≡ q
      same_pin p q e = cc
