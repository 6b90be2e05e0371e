-- A header that is unlinked keeps the points on lessons: the floor that takes its place is not below the last stamp of its key.
use Rattle.std.proofs.Common.{◌≡◌, ℕ, ◌<◌, ◌≤◌, List, [], ◌∷◌, map, set, sym, ap, ◌∙◌, append-nil}
use mathlib.Core.Option.{some}
use lib.ListN.{get_elem?}
use Rattle.oak_model.specs.Counts.{one_at, total}
use Rattle.oak_model.specs.Limits.{Sizes}
use Rattle.oak_model.proofs.Changes.{Change}
use Rattle.oak_model.proofs.Lists.{map_set_same}
use Rattle.arena_core.specs.Place.{content}
use Rattle.chunk_core.specs.CoverRule.{CoversPartition}
use Rattle.chunk_core.specs.CoverSums.{weight, word_of, base_of}
use Rattle.chunk_core.specs.Covers.{Cover, key_at}
use Rattle.chunk_core.specs.LinkedEntries.{linked}
use Rattle.chunk_core.specs.RoomStep.{put_room}
use Rattle.chunk_core.specs.Rooms.{at_value}
use Rattle.chunk_core.specs.ValueWord.{names_header}
use Rattle.chunk_core.proofs.CoverLaws.{moves}
use Rattle.oak_core.specs.declared.states.Knowledge.{Knowledge}
use Rattle.oak_core.specs.declared.states.PassState.{PassState}
use Rattle.oak_core.specs.KeyHistories.{stamp_behind}
use Rattle.oak_core.specs.Lessons.{HeardStands}
use Rattle.oak_core.specs.Memory.{Memory}
use Rattle.oak_core.specs.PassState.{history, knowledge_of, rooms_held}
use Rattle.oak_core.proofs.lessons.HeardKeeps.{heard_idle}
use Rattle.oak_core.proofs.keyed.Levels.{level_at, goes_unlinked}
use Rattle.oak_core.proofs.known.PinsKnown.{pins_stay}
use Rattle.chunk_core.proofs.ValueLaws as values

-- the value word of a linked entry, which named a header, becomes a floor that is not below the last stamp of its key
module _ (z : Sizes) (m : Memory) (is_key_word : ℕ → ℕ) (vs : List PassState) (parts : CoversPartition z m.rooms (content m.arena.bytes) is_key_word (map rooms_held vs)) (heard : HeardStands z m vs)
    (seat : ℕ) (v u : PassState) (here : get_elem? vs seat ≡ some v) (c : Change (map rooms_held vs) (map rooms_held (set vs seat u)) (v.rooms ∷ []) (u.rooms ∷ [])) (moving : (F : Cover → ℕ) → total (moves F) (u.rooms ∷ []) ≡ total (moves F) (v.rooms ∷ [])) (pin : u.rooms.pin ≡ v.rooms.pin) (header_pin : u.headers.pin ≡ v.headers.pin) (knowledge : u.knowledge ≡ v.knowledge)
    (r i x : ℕ) (lr : r < z.chunks) (cover : weight (m.rooms.pin r) ≡ 1) (once : total (λ j. one_at j i) (linked m.rooms r) ≡ 1) (named : names_header (m.rooms.value r i) ≡ 1) (floor : names_header x ≡ 0)
    (last : stamp_behind (history (key_at (content m.arena.bytes) (m.rooms.key r i)) (map knowledge_of vs)) ≤ x) where
  abbrev its_key : ℕ
  its_key = key_at (content m.arena.bytes) (m.rooms.key r i)

  unlink_same : (k : ℕ) → history k (map knowledge_of (set vs seat u)) ≡ history k (map knowledge_of vs)
  unlink_same k = ap (history k) (map_set_same knowledge_of vs seat v u here knowledge)

  pub unlink_heard : HeardStands z (record m { rooms = put_room m.rooms (at_value r i) x }) (set vs seat u)
  unlink_heard = heard_idle z m (record m { rooms = put_room m.rooms (at_value r i) x }) vs seat v u here heard
      (level_at z m (record m { rooms = put_room m.rooms (at_value r i) x }) vs (set vs seat u) its_key
      (goes_unlinked (base_of z m.rooms (content m.arena.bytes) (map rooms_held vs) its_key) (base_of z (put_room m.rooms (at_value r i) x) (content m.arena.bytes) (map rooms_held (set vs seat u)) its_key)
      (word_of z m.rooms (content m.arena.bytes) (map rooms_held vs) its_key) (word_of z (put_room m.rooms (at_value r i) x) (content m.arena.bytes) (map rooms_held (set vs seat u)) its_key) (m.rooms.value r i) x (history its_key (map knowledge_of vs)) (history its_key (map knowledge_of (set vs seat u)))
      (values.word_before z m.rooms (content m.arena.bytes) is_key_word (map rooms_held vs) (map rooms_held (set vs seat u)) (v.rooms ∷ []) (u.rooms ∷ []) parts c moving r i x lr cover once) named
      (values.word_valued z m.rooms (content m.arena.bytes) is_key_word (map rooms_held vs) (map rooms_held (set vs seat u)) (v.rooms ∷ []) (u.rooms ∷ []) parts c moving r i x lr cover once) floor last (unlink_same its_key))
      (values.word_others z m.rooms (content m.arena.bytes) is_key_word (map rooms_held vs) (map rooms_held (set vs seat u)) (v.rooms ∷ []) (u.rooms ∷ []) parts c moving r i x lr cover once)
      (values.base_valued z m.rooms (content m.arena.bytes) is_key_word (map rooms_held vs) (map rooms_held (set vs seat u)) (v.rooms ∷ []) (u.rooms ∷ []) parts c moving r i x lr cover once) (λ k _. unlink_same k))
      knowledge (pins_stay v u header_pin [] (ap (λ (q : Knowledge). q.heard) knowledge ∙ sym (append-nil v.knowledge.heard)) (heard.pins seat v here))
