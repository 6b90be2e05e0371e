-- The lesson of a gap: a pass that loads a link of a room under a good pin, and learns of each key that the link steps over all up to the base, keeps the points on lessons. So it reads each such key: it is absent at the place of the base, which is the end of what the pass has seen of it then.
use Rattle.std.proofs.Common.{◌≡◌, ℕ, suc, ◌≤◌, List, [], ◌∷◌, map, length, set, sym, refl, ap, ◌∙◌, subst, inl, arith, Option, None, true}
use mathlib.Core.Option.{some}
use lib.ListN.{get_elem?}
use Rattle.oak_model.specs.Counts.{Has}
use Rattle.oak_model.specs.History.{StampsRise}
use Rattle.oak_model.specs.Limits.{Sizes}
use Rattle.oak_model.specs.State.{State}
use Rattle.oak_model.proofs.Lists.{at_map, begins_length, map_set}
use Rattle.arena_core.specs.Place.{content}
use Rattle.chunk_core.specs.declared.holds.PinnedRoom.{PinnedRoom}
use Rattle.chunk_core.specs.declared.holds.RoomHolds.{RoomHolds}
use Rattle.chunk_core.specs.LinkedEntries.{linked}
use Rattle.chunk_core.specs.RoomRule.{IsInOrder}
use Rattle.chunk_core.specs.CoverRule.{CoversPartition}
use Rattle.chunk_core.specs.CoverSums.{all_of, each, word_for, base_for}
use Rattle.chunk_core.specs.Covers.{Cover}
use Rattle.chunk_core.specs.FoundLinks.{leads, found_from, found_by, LiesBetween}
use Rattle.chunk_core.specs.LinkWords.{link_word}
use Rattle.chunk_core.specs.PinnedRooms.{IsGoodRoom, RoomPinHolds}
use Rattle.chunk_core.proofs.CoverLaws.{all_still}
use Rattle.oak_core.specs.declared.states.Knowledge.{Knowledge}
use Rattle.oak_core.specs.declared.states.Lesson.{Lesson}
use Rattle.oak_core.specs.declared.states.PassState.{PassState}
use Rattle.oak_core.specs.declared.states.Taught.TheVariants.{OfGap}
use Rattle.oak_core.specs.KeyHistories.{writes_of, state_behind, before}
use Rattle.oak_core.specs.KeyReads.{sum_now, history_now, level_now}
use Rattle.oak_core.specs.KeyRule.{StatesAgree, HistoriesAreLegal}
use Rattle.oak_core.specs.KnownPlaces.{KnowsPlace, ReadAt}
use Rattle.oak_core.specs.Learning.{reach_of, lesson_by, taught_by}
use Rattle.oak_core.specs.Lessons.{IsAbsentBehind, KnowsAbsent, PinsKnow, HeardStands}
use Rattle.oak_core.specs.LinkTeaching.{gap_at}
use Rattle.oak_core.specs.Memory.{Memory}
use Rattle.oak_core.specs.PassState.{seen_of, rooms_held, knowledge_of}
use Rattle.oak_core.specs.Rule.{HistoriesStand}
use Rattle.oak_core.proofs.keyed.GapKeys.{gap_state, gap_absent, gap_upto}
use Rattle.oak_core.proofs.lessons.GapReach.{reach_between, reached_between}
use Rattle.oak_core.proofs.lessons.HeardKeeps.{heard_load}
use Rattle.oak_core.proofs.histories.Histories.{seen_stands}
use Rattle.oak_core.proofs.lessons.LessonLaws.{heard_taught}
use Rattle.oak_core.proofs.known.PinsKnown.{has_later}
use Rattle.oak_core.proofs.lessons.TaughtReads.{taught_whole, read_taught}
use Rattle.oak_core.proofs.lessons.TaughtStates.{history_taught, histories_taught}

module _ (z : Sizes) (m : Memory) (is_key_word : ℕ → ℕ) (vs : List PassState) (parts : CoversPartition z m.rooms (content m.arena.bytes) is_key_word (map rooms_held vs))
    (states : StatesAgree z m vs) (legal : HistoriesAreLegal vs) (histories : HistoriesStand (map knowledge_of vs)) (seat : ℕ) (v : PassState) (here : get_elem? vs seat ≡ some v)
    (p : PinnedRoom) (holds : RoomPinHolds z m.rooms (content m.arena.bytes) p) (good : IsGoodRoom p) (order : IsInOrder z (content m.arena.bytes) (m.rooms.count p.room) (m.rooms.key p.room) (m.rooms.value p.room) (linked m.rooms p.room) (m.rooms.low p.room 0) (m.rooms.high p.room 0)) (from : Option ℕ) (lead : leads from p ≡ true) where
  abbrev bytes : ℕ → List ℕ
  bytes = content m.arena.bytes

  abbrev qs : List Knowledge
  qs = map knowledge_of vs

  abbrev lesson : Lesson
  lesson = lesson_by (OfGap (gap_at m.rooms (content m.arena.bytes) from p)) qs

  rooms_here : get_elem? (map rooms_held vs) seat ≡ some v.rooms
  rooms_here = at_map rooms_held vs seat v here

  rise : (k : ℕ) → StampsRise 0 (writes_of (history_now vs k))
  rise k = (legal k).legal.stamps

  q_here : get_elem? (map knowledge_of vs) seat ≡ some v.knowledge
  q_here = at_map knowledge_of vs seat v here

  -- the lesson goes to each key's level at most, behind which a key of it is absent
  upto : (k : ℕ) → reach_of (OfGap (gap_at m.rooms (content m.arena.bytes) from p)) k ≤ suc (level_now z m vs k)
  upto = gap_upto z m is_key_word vs parts states legal p holds good order from lead

  absent : (k : ℕ) → IsAbsentBehind (OfGap (gap_at m.rooms (content m.arena.bytes) from p)) k (before (reach_of (OfGap (gap_at m.rooms (content m.arena.bytes) from p)) k) (history_now vs k))
  absent k there = gap_absent z m is_key_word vs parts states legal p holds good order from lead k (reached_between (gap_at m.rooms (content m.arena.bytes) from p) k good there)

  -- the pass after the load: it carries the same ranges, and has learned
  module _ (u : PassState) (moving : u.rooms.moving ≡ v.rooms.moving) (seen : u.knowledge.seen ≡ (taught_by (OfGap (gap_at m.rooms (content m.arena.bytes) from p)) (map knowledge_of vs) v.knowledge).seen)
      (taught : u.knowledge.heard ≡ (taught_by (OfGap (gap_at m.rooms (content m.arena.bytes) from p)) (map knowledge_of vs) v.knowledge).heard) where
    -- nothing changes that is added up over covers
    pub sums_linked : (F : Cover → ℕ) → sum_now z m (set vs seat u) F ≡ sum_now z m vs F
    sums_linked F = ap (λ (hs : List RoomHolds). all_of z m.rooms bytes hs F) (map_set rooms_held vs seat u) ∙ all_still z m.rooms m.rooms bytes bytes (map rooms_held vs) seat v.rooms u.rooms rooms_here moving F (λ j _. refl)

    -- nor does a history
    pub history_linked : (k : ℕ) → history_now (set vs seat u) k ≡ history_now vs k
    history_linked = history_taught (reach_of (OfGap (gap_at m.rooms (content m.arena.bytes) from p))) vs histories rise seat v u here seen

    pub histories_linked : HistoriesStand (map knowledge_of (set vs seat u))
    histories_linked = histories_taught (reach_of (OfGap (gap_at m.rooms (content m.arena.bytes) from p))) vs histories rise seat v u here seen

    lesson_there : Has lesson u.knowledge.heard
    lesson_there = subst (Has lesson) (sym taught) (has_later v.knowledge.heard (lesson ∷ []) lesson (inl refl))

    -- the pass knows each key that the link steps over to be absent up to the base
    pub linked_absent : (k : ℕ) → LiesBetween p (found_from from p) (found_by m.rooms (content m.arena.bytes) p.room (link_word m.rooms p.room from)) k → KnowsAbsent k p.base u.knowledge
    linked_absent k b = record {
      lesson = lesson;
      there = lesson_there;
      covers = reach_between (gap_at m.rooms (content m.arena.bytes) from p) k b;
      absent = ap state_behind (heard_taught (OfGap (gap_at m.rooms (content m.arena.bytes) from p)) qs histories rise seat v.knowledge q_here k) ∙ gap_absent z m is_key_word vs parts states legal p holds good order from lead k b;
    }

    pub link_heard : HeardStands z m vs → PinsKnow u → HeardStands z m (set vs seat u)
    link_heard heard pins = heard_load z m m vs seat v u here heard (OfGap (gap_at m.rooms (content m.arena.bytes) from p)) histories rise (λ k. sums_linked (each (word_for k))) (λ k. let e = sums_linked (base_for k) in omega arith) history_linked seen taught upto absent pins

    -- a key that the link steps over
    module _ (k : ℕ) (b : LiesBetween p (found_from from p) (found_by m.rooms (content m.arena.bytes) p.room (link_word m.rooms p.room from)) k) where
      -- the pass has seen all that was written of it, behind which it is absent
      pub linked_whole : seen_of k u.knowledge ≡ history_now vs k
      linked_whole = taught_whole (OfGap (gap_at m.rooms (content m.arena.bytes) from p)) qs histories rise seat v.knowledge q_here u seen k (let r = reach_between (gap_at m.rooms (content m.arena.bytes) from p) k b in let l = (gap_state z m is_key_word vs parts states legal p holds good order from lead k b).1 in omega arith)

      pub linked_none : state_behind (seen_of k u.knowledge) ≡ None
      linked_none = ap state_behind linked_whole ∙ (gap_state z m is_key_word vs parts states legal p holds good order from lead k b).0

      read_there : (r : ReadAt k p.base None v u) × (r.place ≡ length (seen_of k u.knowledge))
      read_there = let s = gap_state z m is_key_word vs parts states legal p holds good order from lead k b in subst (λ (t : State). (r : ReadAt k p.base t v u) × (r.place ≡ length (seen_of k u.knowledge))) s.0
          (read_taught (OfGap (gap_at m.rooms (content m.arena.bytes) from p)) qs histories rise seat v.knowledge q_here u seen (level_now z m vs) upto absent lesson_there k p.base (reach_between (gap_at m.rooms (content m.arena.bytes) from p) k b) s.1 v (begins_length (seen_of k v.knowledge) (history_now vs k) (seen_stands qs histories k seat v.knowledge q_here)))

      -- it was read absent at the place of the base
      pub link_read : ReadAt k p.base None v u
      link_read = read_there.0

      -- which is the end of what is seen of it
      pub link_known : KnowsPlace k p.base (length (seen_of k u.knowledge)) u.knowledge
      link_known = subst (λ (n : ℕ). KnowsPlace k p.base n u.knowledge) read_there.1 read_there.0.known
