-- The load of a link of a room whose links reach all linked entries, under a good pin, on keys: one that the link steps over has no entry, and it is absent behind all that was written of it.
use Rattle.std.proofs.Common.{◌≡◌, ℕ, suc, ◌≤◌, List, map, ap, ◌∙◌, arith, Option, None, true}
use mathlib.Core.Logic.{dite}
use native.Mathlib.Decide.{dec_lt}
use Rattle.oak_model.specs.Limits.{Sizes}
use Rattle.arena_core.specs.Place.{content}
use Rattle.chunk_core.specs.declared.holds.PinnedRoom.{PinnedRoom}
use Rattle.chunk_core.specs.LinkedEntries.{linked}
use Rattle.chunk_core.specs.RoomRule.{IsInOrder}
use Rattle.chunk_core.specs.CoverRule.{CoversPartition}
use Rattle.chunk_core.specs.FoundLinks.{leads, found_from, found_by, LiesBetween}
use Rattle.chunk_core.specs.LinkWords.{link_word}
use Rattle.chunk_core.specs.PinnedRooms.{IsGoodRoom, RoomPinHolds}
use Rattle.chunk_core.proofs.LinkLoads.{between_word}
use Rattle.oak_core.specs.declared.states.Gap.{Gap}
use Rattle.oak_core.specs.declared.states.PassState.{PassState}
use Rattle.oak_core.specs.declared.states.Taught.TheVariants.{OfGap}
use Rattle.oak_core.specs.KeyHistories.{state_behind, stamp_behind, before}
use Rattle.oak_core.specs.KeyReads.{word_now, base_now, history_now, level_now}
use Rattle.oak_core.specs.KeyRule.{StatesAgree, HistoriesAreLegal}
use Rattle.oak_core.specs.Learning.{reach_of}
use Rattle.oak_core.specs.LinkTeaching.{gap_at}
use Rattle.oak_core.specs.Memory.{Memory}
use Rattle.oak_core.specs.PassState.{rooms_held}
use Rattle.oak_core.proofs.lessons.GapReach.{reach_between, reached_between}
use Rattle.oak_core.proofs.keyed.Levels.{level-none}
use Rattle.oak_core.proofs.histories.WritesBelow.{before_whole}

module _ (z : Sizes) (m : Memory) (is_key_word : ℕ → ℕ) (vs : List PassState) (parts : CoversPartition z m.rooms (content m.arena.bytes) is_key_word (map rooms_held vs)) (states : StatesAgree z m vs) (legal : HistoriesAreLegal vs)
    (p : PinnedRoom) (holds : RoomPinHolds z m.rooms (content m.arena.bytes) p) (good : IsGoodRoom p) (order : IsInOrder z (content m.arena.bytes) (m.rooms.count p.room) (m.rooms.key p.room) (m.rooms.value p.room) (linked m.rooms p.room) (m.rooms.low p.room 0) (m.rooms.high p.room 0)) (from : Option ℕ) (lead : leads from p ≡ true) where
  abbrev gap : Gap
  gap = gap_at m.rooms (content m.arena.bytes) from p

  -- it has no entry, under the base found
  words : (k : ℕ) → LiesBetween p (found_from from p) (found_by m.rooms (content m.arena.bytes) p.room (link_word m.rooms p.room from)) k → (word_now z m vs k ≡ 0) × (base_now z m vs k ≡ p.base)
  words k b = between_word z m.rooms (content m.arena.bytes) p holds order from lead is_key_word (map rooms_held vs) parts k b

  -- it is absent behind all of its writes, which are at most the base
  pub gap_state : (k : ℕ) → LiesBetween p (found_from from p) (found_by m.rooms (content m.arena.bytes) p.room (link_word m.rooms p.room from)) k → (state_behind (history_now vs k) ≡ None) × (stamp_behind (history_now vs k) ≤ p.base)
  gap_state k b = let w = words k b in let stands = (states k).none w.0 in let base = w.1 in let l = stands.1 in (stands.0, omega arith)

  -- so it is behind those that the lesson of the gap has
  pub gap_absent : (k : ℕ) → LiesBetween p (found_from from p) (found_by m.rooms (content m.arena.bytes) p.room (link_word m.rooms p.room from)) k → state_behind (before (reach_of (OfGap (gap_at m.rooms (content m.arena.bytes) from p)) k) (history_now vs k)) ≡ None
  gap_absent k b = let a = gap_state k b in let l = a.1 in ap (λ (n : ℕ). state_behind (before n (history_now vs k))) (reach_between gap k b) ∙ (ap state_behind (before_whole (suc p.base) 0 (history_now vs k) (legal k).legal.stamps (omega arith)).1 ∙ a.0)

  -- the lesson goes to the keys' level at most
  pub gap_upto : (k : ℕ) → reach_of (OfGap (gap_at m.rooms (content m.arena.bytes) from p)) k ≤ suc (level_now z m vs k)
  gap_upto k = dite (dec_lt 0 (reach_of (OfGap gap) k))
      (λ there. let b = reached_between gap k good there in let w = words k b in let base = w.1 in let r = reach_between gap k b in let n = level-none (base_now z m vs k) (stamp_behind (history_now vs k)) (word_now z m vs k) w.0 in omega arith)
      (λ no. omega arith)
