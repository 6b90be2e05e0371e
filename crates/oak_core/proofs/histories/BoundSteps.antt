-- That no stamp, floor or base is above the number of all writes, behind the steps on entries: a room gains one, with the base as its floor; a fresh header is set, or a locked one written; and an entry is unlinked.
use Rattle.std.proofs.Common.{◌≡◌, ◌≢◌, ℕ, ◌+◌, ◌-◌, ◌<◌, ◌≤◌, List, [], ◌∷◌, ◌++◌, map, ap, arith}
use Rattle.oak_model.specs.Counts.{one_at, total}
use Rattle.oak_model.specs.Limits.{Sizes}
use Rattle.oak_model.proofs.Changes.{Change}
use Rattle.arena_core.specs.Place.{content}
use Rattle.chunk_core.specs.CoverRule.{CoversPartition}
use Rattle.chunk_core.specs.CoverSums.{weight, each}
use Rattle.chunk_core.specs.Covers.{Cover, key_at}
use Rattle.chunk_core.specs.LinkedEntries.{linked}
use Rattle.chunk_core.specs.RoomStep.{put_room}
use Rattle.chunk_core.specs.Rooms.{RoomMemory, at_value}
use Rattle.chunk_core.specs.ValueWord.{names_header}
use Rattle.chunk_core.specs.declared.holds.RoomHolds.{RoomHolds}
use Rattle.chunk_core.proofs.CoverLaws.{moves}
use Rattle.chunk_core.proofs.GainedEntries.{GainsEntry, IsNewEntry, base_low, more_all, more_span}
use Rattle.chunk_core.proofs.RangeLaws.{base_of_room}
use Rattle.chunk_core.proofs.ValueLaws.{value_all, span_all}
use Rattle.oak_core.specs.declared.states.KeyedWrite.{KeyedWrite}
use Rattle.oak_core.specs.declared.states.PassState.{PassState}
use Rattle.oak_core.specs.Bounds.{BasesBound, floor_in, floor_over, base_over}
use Rattle.oak_core.specs.Callers.{made_by}
use Rattle.oak_core.specs.KeyHistories.{stamp_behind}
use Rattle.oak_core.specs.KeyReads.{history_now, sum_now}
use Rattle.oak_core.specs.Memory.{Memory}
use Rattle.oak_core.specs.PassState.{rooms_held}
use Rattle.oak_core.proofs.histories.BoundWrites.{floor_low, floor_high, base_le, bases_kept, bases_wrote}

module _ (z : Sizes) (m : Memory) (is_key_word : ℕ → ℕ) (vs vs' : List PassState) (parts : CoversPartition z m.rooms (content m.arena.bytes) is_key_word (map rooms_held vs)) (bases : BasesBound z m vs)
    (gone fresh : List RoomHolds) (c : Change (map rooms_held vs) (map rooms_held vs') gone fresh) (moving : (F : Cover → ℕ) → total (moves F) fresh ≡ total (moves F) gone) (r : ℕ) (lr : r < z.chunks) (cover : weight (m.rooms.pin r) ≡ 1) where
  abbrev bytes : ℕ → List ℕ
  bytes = content m.arena.bytes

  -- the value word of the linked entry i becomes x
  module _ (i x : ℕ) (once : total (λ j. one_at j i) (linked m.rooms r) ≡ 1) where
    values : (n : ℕ) → sum_now z (record m { rooms = put_room m.rooms (at_value r i) x }) vs' (each (floor_over n)) + (floor_in (m.rooms.value r i) - n) ≡ sum_now z m vs (each (floor_over n)) + (floor_in x - n)
    values n = value_all z m.rooms bytes is_key_word (map rooms_held vs) (map rooms_held vs') gone fresh parts c moving r i x lr cover once (floor_over n)

    spans : (n : ℕ) → sum_now z (record m { rooms = put_room m.rooms (at_value r i) x }) vs' (base_over n) ≡ sum_now z m vs (base_over n)
    spans n = span_all z m.rooms bytes is_key_word (map rooms_held vs) (map rooms_held vs') gone fresh parts c moving r i x lr cover once (λ s. s.base - n)

    -- it names a header: the write that inserts, whose stamp is one more than the floor
    pub bases_set : names_header x ≡ 1 → total made_by vs' ≡ total made_by vs + 1 → (k : ℕ) (w : KeyedWrite) → history_now vs' k ≡ history_now vs k ++ w ∷ [] → ((j : ℕ) → j ≢ k → history_now vs' j ≡ history_now vs j) → w.write.stamp ≤ total made_by vs + 1
        → BasesBound z (record m { rooms = put_room m.rooms (at_value r i) x }) vs'
    bases_set high made k w here others stamp = bases_wrote z m (record m { rooms = put_room m.rooms (at_value r i) x }) vs vs' bases made k w here others stamp
        (let v = values (total made_by vs + 1) in let f = floor_high x high in omega arith) (let s = spans (total made_by vs + 1) in omega arith)

    -- it is a floor, the stamp of the removal
    pub bases_unlinked : names_header x ≡ 0 → x ≤ total made_by vs → total made_by vs' ≡ total made_by vs → ((k : ℕ) → history_now vs' k ≡ history_now vs k) → BasesBound z (record m { rooms = put_room m.rooms (at_value r i) x }) vs'
    bases_unlinked low le made same = bases_kept z m (record m { rooms = put_room m.rooms (at_value r i) x }) vs vs' bases made same
        (let v = values (total made_by vs) in let f = floor_low x low in omega arith) (let s = spans (total made_by vs) in omega arith)

  -- the room gains an entry, whose floor is the base
  module _ (rm : RoomMemory) (n : ℕ) (gains : GainsEntry m.rooms rm (content m.arena.bytes) r n) (entry : IsNewEntry is_key_word m.rooms (content m.arena.bytes) r n) (floor : m.rooms.value r n ≡ m.rooms.base r) where
    pub bases_gained : total made_by vs' ≡ total made_by vs → ((k : ℕ) → history_now vs' k ≡ history_now vs k) → BasesBound z (record m { rooms = rm }) vs'
    bases_gained made same = bases_kept z m (record m { rooms = rm }) vs vs' bases made same
        (let a = more_all z m.rooms rm bytes is_key_word (map rooms_held vs) (map rooms_held vs') gone fresh parts c moving r n lr cover gains entry (floor_over (total made_by vs)) in let f = floor_low (m.rooms.base r) low in let e = ap floor_in floor in
        let b = base_of_room z m.rooms bytes (map rooms_held vs) is_key_word parts r k lr cover entry.inside in let l = base_le z m is_key_word vs parts bases k in omega arith)
        (let s = more_span z m.rooms rm bytes is_key_word (map rooms_held vs) (map rooms_held vs') gone fresh parts c moving r n lr cover gains entry (λ s. s.base - total made_by vs) in omega arith)
      where
        k : ℕ
        k = key_at (content m.arena.bytes) (m.rooms.key r n)

        low : names_header (m.rooms.base r) ≡ 0
        low = base_low z m.rooms rm bytes is_key_word (map rooms_held vs) (map rooms_held vs') gone fresh parts c moving r n lr cover gains entry

-- a write of a lock's holder, which leaves all that is added up over covers
pub bases_locked : (z : Sizes) (m m' : Memory) (vs vs' : List PassState) → BasesBound z m vs → total made_by vs' ≡ total made_by vs + 1 → (k : ℕ) (w : KeyedWrite) → history_now vs' k ≡ history_now vs k ++ w ∷ [] → ((j : ℕ) → j ≢ k → history_now vs' j ≡ history_now vs j)
    → stamp_behind (history_now vs k) + 1 ≡ w.write.stamp → ((F : Cover → ℕ) → sum_now z m' vs' F ≡ sum_now z m vs F) → BasesBound z m' vs'
bases_locked z m m' vs vs' bases made k w here others stamp same = bases_wrote z m m' vs vs' bases made k w here others (let s = bases.stamps k in omega arith)
    (let s = same (each (floor_over (total made_by vs + 1))) in omega arith) (let s = same (base_over (total made_by vs + 1)) in omega arith)
