-- The load of a link keeps the rule: under a good pin of the room, where the link leads on from what was found, it finds the entry that it names, and teaches its pass of each key that it steps over.
use Rattle.std.proofs.Common.{◌≡◌, ℕ, List, [], ◌∷◌, map, set, sym, refl, ap, ◌∙◌, subst, arith, Some, false, true, Bool, cond, ◌&&◌, ◌==◌, Option, None, eq-eqb, eqb-true}
use mathlib.Core.Option.{some}
use lib.ListN.{get_elem?}
use Rattle.pin_word.specs.PinWord.{state_of}
use Rattle.oak_model.specs.Kept.{KeptNumbersStand}
use Rattle.oak_model.specs.Limits.{Sizes}
use Rattle.oak_model.proofs.Counting.{both_true, test-cases}
use Rattle.oak_model.proofs.Lists.{at_map, map_set, map_set_same}
use Rattle.arena_core.specs.Blocks.{BlocksAreOwned}
use Rattle.arena_core.specs.Place.{content, names_block}
use Rattle.chunk_core.specs.declared.holds.PinnedRoom.{PinnedRoom}
use Rattle.chunk_core.specs.declared.holds.RoomHolds.{RoomHolds}
use Rattle.chunk_core.specs.declared.states.TheConstants.{OPEN}
use Rattle.chunk_core.specs.CoverSums.{owners_in_rooms}
use Rattle.chunk_core.specs.FoundLinks.{leads}
use Rattle.chunk_core.specs.KeptRooms.{kept_of_rooms}
use Rattle.chunk_core.specs.LinkWords.{link_spot, link_word}
use Rattle.chunk_core.specs.LinkedEntries.{linked}
use Rattle.chunk_core.specs.PinnedRooms.{IsGoodRoom, RoomPinHolds}
use Rattle.chunk_core.specs.RoomRule.{IsInOrder}
use Rattle.chunk_core.specs.Rooms.{read_room, same_room_spot}
use Rattle.chunk_core.specs.RoomsAfter.{pin_walked, walked_pin}
use Rattle.chunk_core.proofs.CountLoads.{pin_holds}
use Rattle.chunk_core.proofs.CoverFrames.{partition_same}
use Rattle.chunk_core.proofs.LinkLoads.{link_load_covers, link_load_rooms}
use Rattle.chunk_core.proofs.RoomOwners.{owners_idle}
use Rattle.oak_core.specs.declared.states.Gap.{Gap}
use Rattle.oak_core.specs.declared.states.Knowledge.{Knowledge}
use Rattle.oak_core.specs.declared.states.PassState.{PassState}
use Rattle.oak_core.specs.declared.states.Taught.TheVariants.{OfGap}
use Rattle.oak_core.specs.EntryOwners.{all_others, is_key_word}
use Rattle.oak_core.specs.Learning.{lesson_by, taught_by, taught_where}
use Rattle.oak_core.specs.LinkTeaching.{gap_at, is_pinned, knows_link, shows_link, sights_link}
use Rattle.oak_core.specs.Memory.{Memory, in_rooms, memory, IsInside}
use Rattle.oak_core.specs.PassState.{blocks_of, rooms_held, knowledge_of}
use Rattle.oak_core.specs.Rule.{Rule}
use Rattle.oak_core.specs.Sights.{sights_with}
use Rattle.oak_core.specs.Step.{load, state_after, table_after}
use Rattle.oak_core.specs.TableState.{TableState}
use Rattle.oak_core.proofs.covers.RoomBundles.{RoomBundles}
use Rattle.oak_core.proofs.keyed.KeyBundles.{CoversStay}
use Rattle.oak_core.proofs.kinds.KeepsLoads.{load_rule, load_taught, quiet_keeps}
use Rattle.oak_core.proofs.known.PinsKnown.{pins_stay}
use Rattle.oak_core.proofs.lessons.LinkLessons.{link_heard, sums_linked}
use Rattle.oak_core.proofs.told.PlainLoads.{LoadTeachesNothing, knows_linked, rooms_linked, sights_linked}

module _ (z : Sizes) (s : TableState) (call seat : ℕ) (v : PassState) (r : Rule z s) (here : get_elem? s.states seat ≡ some v) (going : v.numbers.spent ≡ false) where
  abbrev m : Memory
  m = memory z s.words

  abbrev bytes : ℕ → List ℕ
  bytes = content m.arena.bytes

  abbrev qs : List Knowledge
  qs = map knowledge_of s.states

  abbrev hs : List RoomHolds
  hs = map rooms_held s.states

  own : get_elem? hs seat ≡ some v.rooms
  own = at_map rooms_held s.states seat v here

  -- a link of the room of a good pin, that leads on
  module _ (p : PinnedRoom) (is : v.rooms.pin ≡ Some p) (good : IsGoodRoom p) (from : Option ℕ) (lead : leads from p ≡ true) (inside : IsInside z (in_rooms (link_spot p.room from))) where
    abbrev w : PassState
    w = state_after z call (load (in_rooms (link_spot p.room from))) s v

    abbrev p' : PinnedRoom
    p' = pin_walked m.rooms (content m.arena.bytes) (link_word m.rooms p.room from) p

    abbrev gap : Gap
    gap = gap_at m.rooms (content m.arena.bytes) from p

    shows : shows_link p.room from p ≡ true
    shows = (λ i. (eq-eqb p.room p.room refl i && eq-eqb (state_of p.found) OPEN good i) && lead i)

    rooms_are : w.rooms ≡ record v.rooms { pin = Some p' }
    rooms_are = rooms_linked m v p.room from ∙ (ap (λ (o : Option PinnedRoom). record v.rooms { pin = walked_pin m.rooms bytes p.room from o }) is ∙ ap (λ (b : Bool). record v.rooms { pin = Some (cond b p' p) }) shows)

    taught_now : w.knowledge ≡ taught_by (OfGap gap) qs v.knowledge
    taught_now = knows_linked call m qs v p.room from ∙ (ap (λ (o : Option PinnedRoom). knows_link m.rooms bytes p.room from o qs v.knowledge) is ∙ ap (λ (b : Bool). taught_where b (OfGap gap) qs v.knowledge) shows)

    abbrev seen_now : w.knowledge.seen ≡ (taught_by (OfGap gap) qs v.knowledge).seen
    seen_now = ap (λ (q : Knowledge). q.seen) taught_now

    abbrev heard_now : w.knowledge.heard ≡ (taught_by (OfGap gap) qs v.knowledge).heard
    heard_now = ap (λ (q : Knowledge). q.heard) taught_now

    moving : w.rooms.moving ≡ v.rooms.moving
    moving = ap (λ (a : RoomHolds). a.moving) rooms_are

    holds : RoomPinHolds z m.rooms bytes p
    holds = pin_holds z m.rooms bytes is_key_word hs r.rooms r.covers seat v.rooms own p is good

    order : IsInOrder z (content m.arena.bytes) (m.rooms.count p.room) (m.rooms.key p.room) (m.rooms.value p.room) (linked m.rooms p.room) (m.rooms.low p.room 0) (m.rooms.high p.room 0)
    order = r.rooms.ordered p.room holds.cover

    sums : CoversStay z m m s.states (set s.states seat w)
    sums = sums_linked z m is_key_word s.states r.covers r.keys.states r.keys.legal r.histories seat v here p holds good order from lead w moving seen_now heard_now

    rooms_then : RoomBundles z m.rooms m.arena.bytes (map rooms_held (set s.states seat w))
    rooms_then = subst (RoomBundles z m.rooms m.arena.bytes) (sym (map_set rooms_held s.states seat w ∙ ap (set hs seat) rooms_are)) record {
      rooms = link_load_rooms z m.rooms bytes hs r.rooms seat v.rooms own p is good from lead;
      covers = partition_same z m.rooms m.rooms bytes bytes is_key_word hs (set hs seat (record v.rooms { pin = Some p' })) (link_load_covers z m.rooms bytes hs r.rooms seat v.rooms own p is good from lead) r.covers;
      kept = subst (KeptNumbersStand same_room_spot (read_room m.rooms)) (sym (map_set_same kept_of_rooms hs seat v.rooms (record v.rooms { pin = Some p' }) own refl)) r.kept_in_rooms;
    }

    owners : (c b : ℕ) → all_others z m (map rooms_held (set s.states seat w)) c b ≡ all_others z m hs c b
    owners c b = let e = subst (λ (l : List RoomHolds). owners_in_rooms z m.rooms bytes l (names_block c b) ≡ owners_in_rooms z m.rooms bytes hs (names_block c b)) (sym (map_set rooms_held s.states seat w ∙ ap (set hs seat) rooms_are))
        (owners_idle z m.rooms bytes hs seat v.rooms (record v.rooms { pin = Some p' }) own refl (names_block c b)) in omega arith

    walked_keeps : Rule z (table_after z call (load (in_rooms (link_spot p.room from))) seat v s)
    walked_keeps = load_rule z s call seat v r here going (in_rooms (link_spot p.room from)) inside
        (load_taught z s call seat v r here going (in_rooms (link_spot p.room from)) (OfGap gap) taught_now sums
        (link_heard z m is_key_word s.states r.covers r.keys.states r.keys.legal r.histories seat v here p holds good order from lead w moving seen_now heard_now r.heard (pins_stay v w refl (lesson_by (OfGap gap) qs ∷ []) heard_now (r.heard.pins seat v here))))
        (subst (BlocksAreOwned z m.arena.bits (all_others z m (map rooms_held (set s.states seat w)))) (sym (map_set_same blocks_of s.states seat v w here refl)) record {
          owned = λ c b. let e = owners c b in let o = r.blocks.owned c b in omega arith;
          inside = λ c b le. let e = owners c b in let o = r.blocks.inside c b le in omega arith;
          whole = r.blocks.whole;
        })
        rooms_then

  -- without a good pin of the room, or where the link does not lead on, it teaches nothing
  idle_link : (k : ℕ) (from : Option ℕ) (o : Option PinnedRoom) → v.rooms.pin ≡ o → ((p : PinnedRoom) → o ≡ Some p → shows_link k from p ≡ false) → LoadTeachesNothing call (in_rooms (link_spot k from)) m (map knowledge_of s.states) v
  idle_link k from None is other = record {
    knowledge = knows_linked call m qs v k from ∙ ap (λ (o : Option PinnedRoom). knows_link m.rooms bytes k from o qs v.knowledge) is;
    sights = sights_linked call m v k from ∙ ap (λ (o : Option PinnedRoom). sights_link m.rooms bytes k from call o v.findings) is;
    rooms = rooms_linked m v k from ∙ (ap (λ (o : Option PinnedRoom). record v.rooms { pin = walked_pin m.rooms bytes k from o }) is ∙ ap (λ (o : Option PinnedRoom). record v.rooms { pin = o }) (sym is));
  }
  idle_link k from (Some p) is other = let b = other p refl in record {
    knowledge = knows_linked call m qs v k from ∙ (ap (λ (o : Option PinnedRoom). knows_link m.rooms bytes k from o qs v.knowledge) is ∙ ap (λ (t : Bool). taught_where t (OfGap (gap_at m.rooms bytes from p)) qs v.knowledge) b);
    sights = sights_linked call m v k from ∙ (ap (λ (o : Option PinnedRoom). sights_link m.rooms bytes k from call o v.findings) is ∙ ap (λ (t : Bool). sights_with t call (OfGap (gap_at m.rooms bytes from p)) v.findings) b);
    rooms = rooms_linked m v k from ∙ (ap (λ (o : Option PinnedRoom). record v.rooms { pin = walked_pin m.rooms bytes k from o }) is
        ∙ (ap (λ (t : Bool). record v.rooms { pin = Some (cond t (pin_walked m.rooms bytes (link_word m.rooms k from) p) p) }) b ∙ ap (λ (o : Option PinnedRoom). record v.rooms { pin = o }) (sym is)));
  }

  pub link_keeps : (k : ℕ) (from : Option ℕ) → IsInside z (in_rooms (link_spot k from)) → (o : Option PinnedRoom) → v.rooms.pin ≡ o → Rule z (table_after z call (load (in_rooms (link_spot k from))) seat v s)
  link_keeps k from inside None is = quiet_keeps z s call seat v r here going (in_rooms (link_spot k from)) inside (idle_link k from None is (λ p e. absurd cc))
  link_keeps k from inside (Some p) is = test-cases (shows_link k from p) (λ t. shows_link k from p ≡ t → Rule z (table_after z call (load (in_rooms (link_spot k from))) seat v s))
      (λ same _. let a = both_true (is_pinned k p) (leads from p) same in let b = both_true (p.room == k) (state_of p.found == OPEN) a.0 in let at : p.room ≡ k = eqb-true p.room k b.0 in
      subst (λ (t : ℕ). Rule z (table_after z call (load (in_rooms (link_spot t from))) seat v s)) at (walked_keeps p is (eqb-true (state_of p.found) OPEN b.1) from a.1 (subst (λ (t : ℕ). IsInside z (in_rooms (link_spot t from))) (sym at) inside)))
      (λ other _. quiet_keeps z s call seat v r here going (in_rooms (link_spot k from)) inside (idle_link k from (Some p) is (λ q e. ap (shows_link k from) (sym (same_pin p q e)) ∙ other))) refl
    where
      same_pin : (p q : PinnedRoom) → Some p ≡ Some q → p ≡ q
      same_pin p q e = cc
