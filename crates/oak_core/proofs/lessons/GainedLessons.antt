-- A room that gains a linked entry keeps the points on lessons: its key gets the base as its floor.
use Rattle.std.proofs.Common.{◌≡◌, ◌≢◌, ℕ, ◌+◌, ◌<◌, ◌≤◌, List, [], ◌∷◌, map, set, sym, ap, ◌∙◌, arith}
use mathlib.Core.Option.{some}
use lib.ListN.{get_elem?}
use Rattle.oak_model.specs.Counts.{total}
use Rattle.oak_model.specs.Limits.{Sizes}
use Rattle.oak_model.proofs.Changes.{Change, change_parts, stepped}
use Rattle.arena_core.specs.Place.{content}
use Rattle.chunk_core.specs.declared.holds.MovingRange.{MovingRange}
use Rattle.chunk_core.specs.declared.holds.RoomHolds.{RoomHolds}
use Rattle.chunk_core.specs.CoverRule.{CoversPartition}
use Rattle.chunk_core.specs.CoverSums.{all_of, each, weight, word_for, base_for, naming}
use Rattle.chunk_core.specs.Covers.{Cover, cover_from, key_at}
use Rattle.chunk_core.specs.ValueWord.{names_header}
use Rattle.chunk_core.proofs.CoverLaws.{moves}
use Rattle.chunk_core.proofs.GainedEntries.{GainsEntry, IsNewEntry}
use Rattle.chunk_core.proofs.GainedEntries as adds
use Rattle.chunk_core.proofs.RangeLaws.{base_of_room}
use Rattle.oak_core.specs.declared.states.PassState.{PassState}
use Rattle.oak_core.specs.KeyReads.{sum_now, word_now, base_now, history_now}
use Rattle.oak_core.specs.Lessons.{PinsKnow, HeardStands}
use Rattle.oak_core.specs.Memory.{Memory}
use Rattle.oak_core.specs.PassState.{rooms_held}
use Rattle.oak_core.proofs.lessons.HeardKeeps.{heard_idle}
use Rattle.oak_core.proofs.lessons.LessonRanges.{history_left}
use Rattle.oak_core.proofs.keyed.Levels.{goes_added, level_at}

module _ (z : Sizes) (m m' : Memory) (is_key_word : ℕ → ℕ) (vs : List PassState) (parts : CoversPartition z m.rooms (content m.arena.bytes) is_key_word (map rooms_held vs)) (heard : HeardStands z m vs) (seat : ℕ) (v u : PassState) (here : get_elem? vs seat ≡ some v)
    (r n : ℕ) (lr : r < z.chunks) (cover : weight (m.rooms.pin r) ≡ 1) (bytes : m'.arena.bytes ≡ m.arena.bytes) (gains : GainsEntry m.rooms m'.rooms (content m.arena.bytes) r n) (entry : IsNewEntry is_key_word m.rooms (content m.arena.bytes) r n)
    (floor : m.rooms.value r n ≡ m.rooms.base r) (moving : u.rooms.moving ≡ v.rooms.moving) (knowledge : u.knowledge ≡ v.knowledge) where
  abbrev blocks : ℕ → List ℕ
  blocks = content m.arena.bytes

  abbrev new_key : ℕ
  new_key = key_at (content m.arena.bytes) (m.rooms.key r n)

  abbrev hs : List RoomHolds
  hs = map rooms_held vs

  abbrev hs' : List RoomHolds
  hs' = map rooms_held (set vs seat u)

  pub change : Change (map rooms_held vs) (map rooms_held (set vs seat u)) (v.rooms ∷ []) (u.rooms ∷ [])
  change = change_parts rooms_held (stepped vs seat v u here)

  pub still : (F : Cover → ℕ) → total (moves F) (u.rooms ∷ []) ≡ total (moves F) (v.rooms ∷ [])
  unfolding total
  still F = ap (λ (gs : List MovingRange). total (total F) (map cover_from gs ∷ [])) moving

  -- the sums over the words after the step
  sums_now : (F : Cover → ℕ) → all_of z m'.rooms (content m.arena.bytes) (map rooms_held (set vs seat u)) F ≡ sum_now z m' (set vs seat u) F
  sums_now F = λ i. all_of z m'.rooms (content (sym bytes i)) (map rooms_held (set vs seat u)) F

  -- the key had no entry
  pub gained_none : word_now z m vs (key_at (content m.arena.bytes) (m.rooms.key r n)) ≡ 0
  gained_none = adds.word_was z m.rooms m'.rooms blocks is_key_word hs hs' (v.rooms ∷ []) (u.rooms ∷ []) parts change still r n lr cover gains entry

  -- and has one with the base of its cover as its floor
  pub gained_floor : word_now z m' (set vs seat u) (key_at (content m.arena.bytes) (m.rooms.key r n)) ≡ m.rooms.base r + 1
  gained_floor = sym (sums_now (each (word_for new_key))) ∙ (adds.word_now z m.rooms m'.rooms blocks is_key_word hs hs' (v.rooms ∷ []) (u.rooms ∷ []) parts change still r n lr cover gains entry ∙ ap (λ (t : ℕ). t + 1) floor)

  -- all else stays
  pub gained_other : (k : ℕ) → k ≢ key_at (content m.arena.bytes) (m.rooms.key r n) → word_now z m' (set vs seat u) k ≡ word_now z m vs k
  gained_other k ne = sym (sums_now (each (word_for k))) ∙ adds.word_other z m.rooms m'.rooms blocks is_key_word hs hs' (v.rooms ∷ []) (u.rooms ∷ []) parts change still r n lr cover gains entry k ne

  pub gained_base : (k : ℕ) → base_now z m vs k ≤ base_now z m' (set vs seat u) k
  gained_base k = let b = adds.base_same z m.rooms m'.rooms blocks is_key_word hs hs' (v.rooms ∷ []) (u.rooms ∷ []) parts change still r n lr cover gains entry k in let e = sums_now (base_for k) in omega arith

  -- no header comes to be named: the base is a floor
  pub gained_names : (h : ℕ) → sum_now z m' (set vs seat u) (each (naming h)) ≡ sum_now z m vs (each (naming h))
  gained_names h = sym (sums_now (each (naming h))) ∙ adds.names_same z m.rooms m'.rooms blocks is_key_word hs hs' (v.rooms ∷ []) (u.rooms ∷ []) parts change still r n lr cover gains entry floor h

  pub gained_low : names_header (m.rooms.base r) ≡ 0
  gained_low = adds.base_low z m.rooms m'.rooms blocks is_key_word hs hs' (v.rooms ∷ []) (u.rooms ∷ []) parts change still r n lr cover gains entry

  -- and no less than that of the key's cover
  pub gained_above : base_now z m vs (key_at (content m.arena.bytes) (m.rooms.key r n)) ≤ m.rooms.base r
  gained_above = let b = base_of_room z m.rooms blocks hs is_key_word parts r new_key lr cover entry.inside in omega arith

  pub gained_history : (k : ℕ) → history_now (set vs seat u) k ≡ history_now vs k
  gained_history = history_left z m m' vs seat v u here heard knowledge

  pub gain_heard : PinsKnow u → HeardStands z m' (set vs seat u)
  gain_heard pins = heard_idle z m m' vs seat v u here heard (level_at z m m' vs (set vs seat u) new_key
      (goes_added (base_now z m vs new_key) (base_now z m' (set vs seat u) new_key) (word_now z m vs new_key) (word_now z m' (set vs seat u) new_key) (m.rooms.base r) (history_now vs new_key) (history_now (set vs seat u) new_key) gained_none gained_floor
      gained_low gained_above (gained_history new_key))
      gained_other gained_base (λ k _. gained_history k)) knowledge pins
