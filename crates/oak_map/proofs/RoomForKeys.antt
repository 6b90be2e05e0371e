-- A table that is made for so many keys has room for them: a put by a pass that is alone is answered.
use Rattle.std.proofs.Common.{◌≡◌, ℕ, ◌+◌, ◌-◌, ◌*◌, ◌/◌, ◌<◌, ◌≤◌, ⊎_elim, if◌then◌else◌, Bool, List, length, Option, Some, None, sym, refl, ap, subst, arith}
use Rattle.std.specs.Prelude.{nat_le}
use Rattle.oak_model.specs.declared.cells.CellCall.{CellCall}
use Rattle.oak_model.specs.declared.replies.Lack.{Lack}
use Rattle.oak_model.specs.declared.replies.Lack.TheVariants.{Room}
use Rattle.oak_model.specs.declared.replies.Pair.{Pair}
use Rattle.oak_model.specs.declared.replies.Wrote.{Wrote}
use Rattle.oak_model.specs.declared.replies.Wrote.TheVariants.{Full}
use Rattle.oak_model.specs.Cell.{state_after}
use Rattle.oak_model.specs.KeyShapes.{entries_for, sizes_for_keys}
use Rattle.oak_model.specs.Limits.{Sizes}
use Rattle.oak_model.specs.State.{State}
use Rattle.oak_model.proofs.Counting.{below_at, le-cases}
use Rattle.chunk_core.specs.LinkedEntries.{entries_in}
use Rattle.oak_core.specs.declared.states.PassState.{PassState}
use Rattle.lone_counts.specs.Lacks.{new_lack, over_lack}
use Rattle.lone_counts.specs.LoneTable.{LoneTable, retired_in}
use Rattle.lone_counts.specs.Maps.{IsMapOf, last_states}
use Rattle.lone_counts.proofs.MapChanges.{map_agrees}
use Rattle.point_ops.specs.LoneReplies.{SeesTheSame}
use Rattle.rebalance.specs.LoneCalls.{IsSettled}
use Rattle.rebalance.specs.LoneWords.{room_in}
use Rattle.oak_map.specs.LonePuts.{FullAsLacks, FullBy, HasNoRoomFor, IsReply, PutAlone}
use Rattle.oak_map.specs.RoomForKeys.{AreFew, LonePut}
use Rattle.oak_map.proofs.KeyLacks.{new_lacks_none, over_lacks_none}
use Rattle.oak_map.proofs.LoneStates.{had_moment, states_same, table_behind}
use Rattle.oak_map.proofs.NeighbourRooms.{rooms_hold}
use Rattle.lone_counts.proofs.RoomCounts.{keys_are_entries}

-- ---- the numbers

-- a number is less than its quotient and one more, times the divisor
past_quotient : (n h : ℕ) → 0 < h → (n / h + 1) * h ≤ n → ⊥
past_quotient n h some le = let q : ℕ = n / h in absurd (grind arith)

-- with so many chunks fewer keys than `count` don't fill one and leave half of each two neighbours
abbrev chunks_of : (count entries : ℕ) → Bool → ℕ
chunks_of count entries one = if one then 1 else 2 * (count - 1) / (entries / 2 + 1) + 2

too_few : (count entries chunks keys : ℕ) → chunks ≡ chunks_of count entries (nat_le count entries) → entries ≤ keys → (chunks - 1) * (entries / 2 + 1) ≤ keys + keys → keys < count → ⊥
too_few count entries chunks keys e full many fewer = le-cases count entries (λ t. chunks ≡ chunks_of count entries t → ⊥) (λ l _. absurd (omega arith))
    (λ l f. let h : ℕ = entries / 2 + 1 in let q : ℕ = 2 * (count - 1) / h in let c : chunks - 1 ≡ q + 1 = omega arith in
    let m : (q + 1) * h ≤ keys + keys = subst (λ (k : ℕ). k * h ≤ keys + keys) c many in past_quotient (2 * (count - 1)) h (omega arith) (omega arith))
    e

-- ---- a room for each key

-- settled rooms in which no key fits hold as many keys as the shape is for
pub none_fewer : (count key_bytes value_bytes passes : ℕ) (z : Sizes) → z ≡ sizes_for_keys count key_bytes value_bytes passes → (key words : List ℕ) (w : PassState) (m : List Pair) → LoneTable z words w → IsMapOf (last_states w) m → IsSettled z words → HasNoRoomFor z key words → length m < count → ⊥
none_fewer count key_bytes value_bytes passes z sizes key words w m table is settled none fewer =
    let k = keys_are_entries z words w table none.all_open (λ r lt open_is. settled.valued r (record { inside = lt; state = open_is })) (λ r lt open_is. settled.linked r (record { inside = lt; state = open_is })) m is in
    let r = rooms_hold z words settled.divides none.all_open settled in
    let f = below_at (λ r. entries_in (room_in z words r).count) z.chunks none.room none.is_open.inside in let g = none.full in
    let c = ap (λ (s : Sizes). s.chunks) sizes in let e : z.entries ≡ entries_for count = ap (λ (s : Sizes). s.entries) sizes in
    too_few count z.entries z.chunks (length m) (subst (λ (n : ℕ). z.chunks ≡ chunks_of count n (nat_le count n)) (sym e) c) (omega arith) (omega arith) fewer

-- ---- the answer

module _ (z : Sizes) (key : List ℕ) (ask : CellCall) (v w : PassState) (y : Wrote) (f : AreFew z key ask v) (p : LonePut z key ask v w y) where
  -- a new key is not told that there is no room
  roomy : last_states v key ≡ None → y ≡ Full Room → HasNoRoomFor z key p.run.after → ⊥
  roomy absent full none = none_fewer f.count f.key_bytes f.value_bytes f.passes z f.sizes key p.run.after w f.map (table_behind z w p.run.after (had_moment z w same.ended) p.idle p.run.leaves)
      (map_agrees (last_states v) (last_states w) f.map f.is_map (states_same v w same.same)) (p.run.does.settled (λ r. subst IsReply full r)) none (f.fewer absent)
    where
      same : SeesTheSame z v w
      same = subst (λ (x : Wrote). PutAlone x z key ask v w) full p.replies

  by_lack : (NoRoom : Type 0) (lack : Option Lack) → lack ≡ None → (y ≡ Full Room → NoRoom → ⊥) → FullBy lack NoRoom y → IsReply y
  by_lack NoRoom lack none room full = ⊎_elim (λ (a : (y ≡ Full Room) × NoRoom). absurd (room a.0 a.1)) (λ (b : IsReply y × (NoRoom → ⊥)). b.0) (subst (λ (o : Option Lack). FullBy o NoRoom y) none full)

  by_states : (old new : State) → last_states v key ≡ old → state_after (last_states v key) ask ≡ new → FullAsLacks z f.map (retired_in z p.before) key (HasNoRoomFor z key p.run.after) old new y → IsReply y
  by_states None None e g full = full
  by_states None (Some value) e g full = by_lack (HasNoRoomFor z key p.run.after) (new_lack z f.map (retired_in z p.before) key value) (new_lacks_none z key ask v f value g e (retired_in z p.before) p.unworn) (roomy e) full
  by_states (Some old) None e g full = full
  by_states (Some old) (Some value) e g full = by_lack ⊥ (over_lack z f.map old value) (over_lacks_none z key ask v f value g old e) (λ _ none. none) full

  pub is_answered : IsReply y
  is_answered = by_states (last_states v key) (state_after (last_states v key) ask) refl refl (p.run.does.full f.map f.is_map)
