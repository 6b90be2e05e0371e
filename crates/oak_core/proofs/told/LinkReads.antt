-- What a pass reads that loads a link of a room under a good pin, where the link leads on from what was found: each key that the link steps over was absent at the place of the base, which was found for it in the call.
use Rattle.std.proofs.Common.{◌≡◌, ℕ, List, [], ◌∷◌, ◌++◌, map, set, refl, ap, ◌∙◌, inl, Option, Some, true, eq-eqb}
use Rattle.std.specs.Prelude.{◌&&◌, Bool}
use mathlib.Core.Option.{some}
use lib.ListN.{get_elem?}
use Rattle.pin_word.specs.PinWord.{state_of}
use Rattle.oak_model.specs.Limits.{Sizes}
use Rattle.arena_core.specs.Place.{content}
use Rattle.chunk_core.specs.declared.holds.PinnedRoom.{PinnedRoom}
use Rattle.chunk_core.specs.declared.states.TheConstants.{OPEN}
use Rattle.chunk_core.specs.CoverRule.{CoversPartition}
use Rattle.chunk_core.specs.FoundLinks.{leads, found_from, found_by, LiesBetween}
use Rattle.chunk_core.specs.LinkWords.{link_word}
use Rattle.chunk_core.specs.PinnedRooms.{IsGoodRoom, RoomPinHolds}
use Rattle.chunk_core.specs.LinkedEntries.{linked}
use Rattle.chunk_core.specs.RoomRule.{IsInOrder}
use Rattle.oak_core.specs.declared.states.Gap.{Gap}
use Rattle.oak_core.specs.declared.states.Knowledge.{Knowledge}
use Rattle.oak_core.specs.declared.states.PassState.{PassState}
use Rattle.oak_core.specs.declared.states.Sight.{Sight}
use Rattle.oak_core.specs.declared.states.Taught.TheVariants.{OfGap}
use Rattle.oak_core.specs.CountReads.{ReadAbsent, EndsAbsent}
use Rattle.oak_core.specs.KeyRule.{StatesAgree, HistoriesAreLegal}
use Rattle.oak_core.specs.Learning.{taught_by, taught_where}
use Rattle.oak_core.specs.Lessons.{PinsKnow, HeardStands}
use Rattle.oak_core.specs.LinkTeaching.{gap_at, shows_link, knows_link, sights_link}
use Rattle.oak_core.specs.Memory.{Memory}
use Rattle.oak_core.specs.PassState.{rooms_held, knowledge_of}
use Rattle.oak_core.specs.Rule.{HistoriesStand}
use Rattle.oak_core.specs.Sights.{sights_with}
use Rattle.oak_core.proofs.lessons.GapReach.{reach_between}
use Rattle.oak_core.proofs.lessons.LinkLessons.{link_heard, link_known, link_read, linked_none}

-- The pass is u after the load, by what the link would teach.
module _ (z : Sizes) (m : Memory) (is_key_word : ℕ → ℕ) (vs : List PassState) (parts : CoversPartition z m.rooms (content m.arena.bytes) is_key_word (map rooms_held vs))
    (states : StatesAgree z m vs) (legal : HistoriesAreLegal vs) (histories : HistoriesStand (map knowledge_of vs)) (seat : ℕ) (v u : PassState) (here : get_elem? vs seat ≡ some v)
    (p : PinnedRoom) (is : v.rooms.pin ≡ Some p) (holds : RoomPinHolds z m.rooms (content m.arena.bytes) p) (good : IsGoodRoom p) (order : IsInOrder z (content m.arena.bytes) (m.rooms.count p.room) (m.rooms.key p.room) (m.rooms.value p.room) (linked m.rooms p.room) (m.rooms.low p.room 0) (m.rooms.high p.room 0)) (from : Option ℕ) (lead : leads from p ≡ true) (call : ℕ)
    (moving : u.rooms.moving ≡ v.rooms.moving) (knowledge : u.knowledge ≡ knows_link m.rooms (content m.arena.bytes) p.room from v.rooms.pin (map knowledge_of vs) v.knowledge) (sights : u.findings.sights ≡ sights_link m.rooms (content m.arena.bytes) p.room from call v.rooms.pin v.findings) where
  abbrev bytes : ℕ → List ℕ
  bytes = content m.arena.bytes

  abbrev gap : Gap
  gap = gap_at m.rooms (content m.arena.bytes) from p

  abbrev qs : List Knowledge
  qs = map knowledge_of vs

  shows : shows_link p.room from p ≡ true
  shows = (λ i. (eq-eqb p.room p.room refl i && eq-eqb (state_of p.found) OPEN good i) && lead i)

  pub linked_taught : u.knowledge ≡ taught_by (OfGap (gap_at m.rooms (content m.arena.bytes) from p)) (map knowledge_of vs) v.knowledge
  linked_taught = knowledge ∙ (ap (λ (o : Option PinnedRoom). knows_link m.rooms bytes p.room from o qs v.knowledge) is ∙ ap (λ (b : Bool). taught_where b (OfGap gap) qs v.knowledge) shows)

  abbrev sight : Sight
  sight = record { call = call; taught = OfGap gap }

  pub linked_sights : u.findings.sights ≡ v.findings.sights ++ record { call = call; taught = OfGap (gap_at m.rooms (content m.arena.bytes) from p) } ∷ []
  linked_sights = sights ∙ (ap (λ (o : Option PinnedRoom). sights_link m.rooms bytes p.room from call o v.findings) is ∙ ap (λ (b : Bool). sights_with b call (OfGap gap) v.findings) shows)

  abbrev seen_now : u.knowledge.seen ≡ (taught_by (OfGap (gap_at m.rooms (content m.arena.bytes) from p)) (map knowledge_of vs) v.knowledge).seen
  seen_now = ap (λ (q : Knowledge). q.seen) linked_taught

  abbrev heard_now : u.knowledge.heard ≡ (taught_by (OfGap (gap_at m.rooms (content m.arena.bytes) from p)) (map knowledge_of vs) v.knowledge).heard
  heard_now = ap (λ (q : Knowledge). q.heard) linked_taught

  -- the points on lessons stand behind it
  pub link_keeps : HeardStands z m vs → PinsKnow u → HeardStands z m (set vs seat u)
  link_keeps = link_heard z m is_key_word vs parts states legal histories seat v here p holds good order from lead u moving seen_now heard_now

  -- a key that the link steps over
  module _ (k : ℕ) (b : LiesBetween p (found_from from p) (found_by m.rooms (content m.arena.bytes) p.room (link_word m.rooms p.room from)) k) where
    pub link_absence : ReadAbsent call k p.base v u
    link_absence = record {
      read = link_read z m is_key_word vs parts states legal histories seat v here p holds good order from lead u moving seen_now heard_now k b;
      sighted = record {
        more = sight ∷ [];
        sights = linked_sights;
        calls = (refl, tt);
        sighted = record { sight = sight; there = inl refl; just = reach_between gap k b; bare = tt };
      };
    }

    pub link_ends : EndsAbsent k p.base u.knowledge
    link_ends = record {
      known = link_known z m is_key_word vs parts states legal histories seat v here p holds good order from lead u moving seen_now heard_now k b;
      state = linked_none z m is_key_word vs parts states legal histories seat v here p holds good order from lead u moving seen_now heard_now k b;
    }
