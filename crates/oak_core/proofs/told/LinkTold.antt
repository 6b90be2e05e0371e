-- What the load of a link of a pinned room tells its pass, where the link leads on from what was found: it has found the entry that the link names, and has read each key that the link steps over.
use Rattle.std.proofs.Common.{◌≡◌, ℕ, List, map, cond, Bool, true, refl, ap, ◌∙◌, Some, Option, eq-eqb, ◌&&◌}
use Rattle.pin_word.specs.PinWord.{state_of}
use Rattle.oak_model.specs.Limits.{Sizes}
use Rattle.oak_model.proofs.Lists.{at_map}
use Rattle.arena_core.specs.Place.{content}
use Rattle.chunk_core.specs.declared.states.TheConstants.{OPEN}
use Rattle.chunk_core.specs.declared.holds.PinnedRoom.{PinnedRoom}
use Rattle.chunk_core.specs.declared.holds.RoomHolds.{RoomHolds}
use Rattle.chunk_core.specs.FoundLinks.{leads, found_from, found_by, LiesBetween}
use Rattle.chunk_core.specs.LinkWords.{link_spot, link_word}
use Rattle.chunk_core.specs.PinnedRooms.{IsGoodRoom, RoomPinHolds}
use Rattle.chunk_core.specs.RoomsAfter.{pin_walked, walked_pin}
use Rattle.chunk_core.proofs.CountLoads.{pin_holds}
use Rattle.oak_core.specs.declared.states.Knowledge.{Knowledge}
use Rattle.oak_core.specs.declared.states.PassState.{PassState}
use Rattle.oak_core.specs.declared.states.Taught.TheVariants.{OfGap}
use Rattle.oak_core.specs.CallSteps.{Learns}
use Rattle.oak_core.specs.CountReads.{ReadAbsent, EndsAbsent}
use Rattle.oak_core.specs.EntryOwners.{is_key_word}
use Rattle.oak_core.specs.LinkTeaching.{gap_at, knows_link, shows_link, sights_link}
use Rattle.oak_core.specs.Memory.{Memory, in_rooms, memory}
use Rattle.oak_core.specs.PassState.{knowledge_of, rooms_held}
use Rattle.oak_core.specs.Step.{load, Told}
use Rattle.oak_core.proofs.lessons.TaughtSteps.{load_learns}
use Rattle.oak_core.proofs.memory.Words.{memory_read}
use Rattle.oak_core.proofs.told.LinkReads.{link_absence, link_ends, linked_sights, linked_taught}
use Rattle.oak_core.proofs.told.PlainLoads.{knows_linked, rooms_linked, sights_linked}

module _ (z : Sizes) (call : ℕ) (v : PassState) (n : ℕ) (w : PassState) (p : PinnedRoom) (is : v.rooms.pin ≡ Some p) (good : IsGoodRoom p) (from : Option ℕ) (lead : leads from p ≡ true) (t : Told z call (load (in_rooms (link_spot p.room from))) v n w) where
  abbrev m : Memory
  m = memory z t.table.words

  abbrev bytes : ℕ → List ℕ
  bytes = content m.arena.bytes

  abbrev qs : List Knowledge
  qs = map knowledge_of t.table.states

  -- the number found is the link
  pub link_found : link_word (memory z t.table.words).rooms p.room from ≡ n
  link_found = memory_read z t.table.words (in_rooms (link_spot p.room from)) t.may ∙ t.finds

  shows : shows_link p.room from p ≡ true
  shows = (λ i. (eq-eqb p.room p.room refl i && eq-eqb (state_of p.found) OPEN good i) && lead i)

  -- the pin as it stands behind the load
  pub pin_walks : w.rooms ≡ record v.rooms { pin = Some (pin_walked (memory z t.table.words).rooms (content (memory z t.table.words).arena.bytes) n p) }
  pin_walks = ap (λ (y : PassState). y.rooms) t.after ∙ (rooms_linked m v p.room from ∙ (ap (λ (o : Option PinnedRoom). record v.rooms { pin = walked_pin m.rooms bytes p.room from o }) is
      ∙ (ap (λ (b : Bool). record v.rooms { pin = Some (cond b (pin_walked m.rooms bytes (link_word m.rooms p.room from) p) p) }) shows ∙ ap (λ (l : ℕ). record v.rooms { pin = Some (pin_walked m.rooms bytes l p) }) link_found)))

  knowledge : w.knowledge ≡ knows_link m.rooms (content m.arena.bytes) p.room from v.rooms.pin qs v.knowledge
  knowledge = ap (λ (y : PassState). y.knowledge) t.after ∙ knows_linked call m qs v p.room from

  sights : w.findings.sights ≡ sights_link m.rooms (content m.arena.bytes) p.room from call v.rooms.pin v.findings
  sights = ap (λ (y : PassState). y.findings.sights) t.after ∙ sights_linked call m v p.room from

  holds : RoomPinHolds z m.rooms (content m.arena.bytes) p
  holds = pin_holds z m.rooms bytes is_key_word (map rooms_held t.table.states) t.rule.rooms t.rule.covers t.seat v.rooms (at_map rooms_held t.table.states t.seat v t.here) p is good

  moving : w.rooms.moving ≡ v.rooms.moving
  moving = ap (λ (a : RoomHolds). a.moving) pin_walks

  pub link_learns : Learns call v w
  link_learns = load_learns z call (in_rooms (link_spot p.room from)) v n w t true (OfGap (gap_at m.rooms bytes from p))
      (linked_taught z m is_key_word t.table.states t.rule.covers t.rule.keys.states t.rule.keys.legal t.rule.histories t.seat v w t.here p is holds good (t.rule.rooms.ordered p.room holds.cover) from lead call moving knowledge sights) true
      (linked_sights z m is_key_word t.table.states t.rule.covers t.rule.keys.states t.rule.keys.legal t.rule.histories t.seat v w t.here p is holds good (t.rule.rooms.ordered p.room holds.cover) from lead call moving knowledge sights)

  -- a key that the link steps over
  module _ (k : ℕ) (b : LiesBetween p (found_from from p) (found_by (memory z t.table.words).rooms (content (memory z t.table.words).arena.bytes) p.room (link_word (memory z t.table.words).rooms p.room from)) k) where
    pub link_told_absent : ReadAbsent call k p.base v w
    link_told_absent = link_absence z m is_key_word t.table.states t.rule.covers t.rule.keys.states t.rule.keys.legal t.rule.histories t.seat v w t.here p is holds good (t.rule.rooms.ordered p.room holds.cover) from lead call moving knowledge sights k b

    pub link_told_ends : EndsAbsent k p.base w.knowledge
    link_told_ends = link_ends z m is_key_word t.table.states t.rule.covers t.rule.keys.states t.rule.keys.legal t.rule.histories t.seat v w t.here p is holds good (t.rule.rooms.ordered p.room holds.cover) from lead call moving knowledge sights k b
