-- No event takes back a write that a pass made.
use Rattle.std.proofs.Common.{◌≡◌, ◌≢◌, ℕ, ◌≤◌, Bool, true, false, cond, Option, Some, None, List, [], ◌∷◌, ◌++◌, map, set, refl, ap, ◌∙◌, arith}
use mathlib.Core.Option.{some}
use lib.ListN.{get_elem?}
use Rattle.oak_model.specs.Counts.{total}
use Rattle.oak_model.specs.KeyNumber.{key_number}
use Rattle.oak_model.specs.Limits.{Sizes}
use Rattle.oak_model.specs.declared.writes.Kind.{Kind}
use Rattle.oak_model.proofs.Changes.{divided, joined}
use Rattle.oak_model.proofs.Counting.{total_append, total_set, total_snoc}
use Rattle.header_core.specs.HeaderStep.{HeaderStep, claim_header, store_place, store_stamp, change_place, open_header, pin_header, unpin_header, release_header, lock_header, unlock_header, mark_dead, take_back}
use Rattle.header_core.specs.declared.holds.HeldHeader.{HeldHeader}
use Rattle.chunk_core.specs.declared.holds.PinnedRoom.{PinnedRoom}
use Rattle.chunk_core.specs.RoomStep.{RoomStep, pin_room, unpin_room, claim_entry, own_entry, link_entry, set_value, unlink_entry, freeze_room, thaw_room, hold_room, claim_room, store_room, open_room, retire_room}
use Rattle.arena_core.specs.Place.{content}
use Rattle.oak_core.specs.declared.states.Joined.{Joined}
use Rattle.oak_core.specs.declared.states.KeyedWrite.{KeyedWrite}
use Rattle.oak_core.specs.declared.states.Knowledge.{Knowledge}
use Rattle.oak_core.specs.declared.states.PassState.{PassState}
use Rattle.oak_core.specs.Callers.{made_of}
use Rattle.oak_core.specs.LinkTeaching.{knows_link}
use Rattle.oak_core.specs.FoundKeys.{pinned_key}
use Rattle.oak_core.specs.HeaderTeaching.{knows_by_header}
use Rattle.oak_core.specs.Learning.{wrote}
use Rattle.oak_core.specs.Loading.{knows_by_load}
use Rattle.oak_core.specs.MadeWrites.{held_header, insertion, is_changed, over_write, removal, wrote_insertion, wrote_over, wrote_removal, wrote_where}
use Rattle.oak_core.specs.Memory.{Memory, Spot, memory}
use Rattle.oak_core.specs.PassState.{both_state, knowledge_of, left_state, right_state, spent_state}
use Rattle.oak_core.specs.RoomTeaching.{knows_by_room}
use Rattle.oak_core.specs.Step.{Step, load, give_number, on_arena, on_headers, on_rooms, store_locked, note_full, state_after}
use Rattle.oak_core.specs.TableState.{TableState}
use Rattle.oak_core.proofs.told.PlainLoads.{knows_linked, plain_or_taught, plain_teaches}

-- a pass that knows the second made all writes of the first, and perhaps one more
abbrev HasMade : Knowledge → Knowledge → Type 0
HasMade q q' = (f : KeyedWrite → ℕ) → total f q.mine ≤ total f q'.mine

made_no_more : (q q' : Knowledge) → q'.mine ≡ q.mine → HasMade q q'
made_no_more q q' e f = let t = ap (total f) e in omega arith

made_one : (k : ℕ) (w : KeyedWrite) (qs : List Knowledge) (q : Knowledge) → HasMade q (wrote k w qs q)
made_one k w qs q f = let t = total_snoc f q.mine w in omega arith

made_where : (t : Bool) (w : KeyedWrite) (qs : List Knowledge) (q : Knowledge) → HasMade q (wrote_where t w qs q)
made_where true w qs q = made_one (key_number w.key) w qs q
made_where false w qs q = made_no_more q q refl

over_made : (caller call : ℕ) (kind : Kind) (o : Option HeldHeader) (qs : List Knowledge) (q : Knowledge) → HasMade q (wrote_over caller call kind o qs q)
over_made caller call kind None qs q = made_no_more q q refl
over_made caller call kind (Some r) qs q = made_where (is_changed r.held_as r) (over_write caller call kind r) qs q

removal_made : (caller call : ℕ) (o : Option HeldHeader) (qs : List Knowledge) (q : Knowledge) → HasMade q (wrote_removal caller call o qs q)
removal_made caller call None qs q = made_no_more q q refl
removal_made caller call (Some r) qs q = made_one (key_number r.key) (removal caller call r) qs q

insertion_made : (caller call : ℕ) (kind : Kind) (key : Option (List ℕ)) (o : Option HeldHeader) (qs : List Knowledge) (q : Knowledge) → HasMade q (wrote_insertion caller call kind key o qs q)
insertion_made caller call kind None None qs q = made_no_more q q refl
insertion_made caller call kind None (Some r) qs q = made_no_more q q refl
insertion_made caller call kind (Some key) None qs q = made_no_more q q refl
insertion_made caller call kind (Some key) (Some r) qs q = made_one (key_number key) (insertion caller call kind key r) qs q

value_made : (t : Bool) (caller call : ℕ) (kind : Kind) (key : Option (List ℕ)) (o : Option HeldHeader) (qs : List Knowledge) (q : Knowledge) → HasMade q (cond t (wrote_insertion caller call kind key o qs q) q)
value_made true caller call kind key o qs q = insertion_made caller call kind key o qs q
value_made false caller call kind key o qs q = made_no_more q q refl

link_made : (m : Memory) (k : ℕ) (from : Option ℕ) (o : Option PinnedRoom) (qs : List Knowledge) (q : Knowledge) → (knows_link m.rooms (content m.arena.bytes) k from o qs q).mine ≡ q.mine
link_made m k from None qs q = refl
link_made m k from (Some p) qs q = refl

load_made : (call : ℕ) (m : Memory) (qs : List Knowledge) (v : PassState) (p : Spot) → (knows_by_load call p m qs v).mine ≡ v.knowledge.mine
load_made call m qs v = plain_or_taught (λ p. (knows_by_load call p m qs v).mine ≡ v.knowledge.mine) (λ p plain. ap (λ (q : Knowledge). q.mine) (plain_teaches call m qs v p plain).knowledge) (λ k. refl) (λ k from. ap (λ (q : Knowledge). q.mine) (knows_linked call m qs v k from) ∙ link_made m k from v.rooms.pin qs v.knowledge) (λ k i. refl) (λ h. refl)

header_made : (call : ℕ) (m : Memory) (qs : List Knowledge) (v : PassState) (x : HeaderStep) → HasMade v.knowledge (knows_by_header call x m qs v)
header_made call m qs v (claim_header h old) f = omega arith
header_made call m qs v (store_place h x) f = omega arith
header_made call m qs v (store_stamp h x) f = omega arith
header_made call m qs v (change_place h x) f = omega arith
header_made call m qs v (open_header h) f = omega arith
header_made call m qs v (pin_header h g) f = omega arith
header_made call m qs v (unpin_header h) f = omega arith
header_made call m qs v (release_header h t) f = omega arith
header_made call m qs v (lock_header h old) f = omega arith
header_made call m qs v (unlock_header h kind) f = over_made v.numbers.number call kind (held_header h v.headers.held) qs v.knowledge f
header_made call m qs v (mark_dead h) f = removal_made v.numbers.number call (held_header h v.headers.held) qs v.knowledge f
header_made call m qs v (take_back h x) f = omega arith

room_made : (call : ℕ) (m : Memory) (qs : List Knowledge) (v : PassState) (x : RoomStep) → HasMade v.knowledge (knows_by_room call x m qs v)
room_made call m qs v (pin_room k) f = omega arith
room_made call m qs v (unpin_room k) f = omega arith
room_made call m qs v (claim_entry k old) f = omega arith
room_made call m qs v (own_entry g k i x) f = omega arith
room_made call m qs v (link_entry k from i old) f = omega arith
room_made call m qs v (set_value k i old new kind) f = value_made _ v.numbers.number call kind (pinned_key k i v.rooms.pin) (held_header _ v.headers.held) qs v.knowledge f
room_made call m qs v (unlink_entry k i x) f = omega arith
room_made call m qs v (freeze_room k old) f = omega arith
room_made call m qs v (thaw_room k) f = omega arith
room_made call m qs v (hold_room k old) f = omega arith
room_made call m qs v (claim_room k old) f = omega arith
room_made call m qs v (store_room p x) f = omega arith
room_made call m qs v (open_room k) f = omega arith
room_made call m qs v (retire_room k) f = omega arith

module _ (z : Sizes) (call : ℕ) (s : TableState) (v : PassState) (f : KeyedWrite → ℕ) where
  step_made : (x : Step) → made_of f v ≤ made_of f (state_after z call x s v)
  step_made (load p) = let e = ap (total f) (load_made call (memory z s.words) (map knowledge_of s.states) v p) in omega arith
  step_made (give_number k) = omega arith
  step_made (on_arena a) = omega arith
  step_made (on_headers x) = let e = header_made call (memory z s.words) (map knowledge_of s.states) v x f in omega arith
  step_made (on_rooms x) = let e = room_made call (memory z s.words) (map knowledge_of s.states) v x f in omega arith
  step_made (store_locked h c b k x) = omega arith
  step_made (note_full lack began) = omega arith

  pub made_more : (x : Step) (seat : ℕ) → get_elem? s.states seat ≡ some v → total (made_of f) s.states ≤ total (made_of f) (set s.states seat (state_after z call x s v))
  made_more x seat here = let t = total_set (made_of f) s.states seat v (state_after z call x s v) here in let e = step_made x in omega arith

-- a split and a join leave them all
pub made_split : (vs : List PassState) (seat : ℕ) (v : PassState) (f : KeyedWrite → ℕ) → get_elem? vs seat ≡ some v → total (made_of f) (set vs seat (left_state v) ++ right_state v ∷ []) ≡ total (made_of f) vs
unfolding total
made_split vs seat v f here = let t = (divided vs seat v (left_state v) (right_state v) here).sums (made_of f) in omega arith

pub made_join : (vs : List PassState) (seat other : ℕ) (v w : PassState) (f : KeyedWrite → ℕ) → get_elem? vs seat ≡ some v → get_elem? vs other ≡ some w → other ≢ seat → total (made_of f) (set (set vs seat (both_state v w)) other spent_state) ≡ total (made_of f) vs
unfolding total
made_join vs seat other v w f here there apart = let t = (joined vs seat other v w (both_state v w) spent_state here there apart).sums (made_of f) in
    let a = total_append (λ (j : Joined). total f j.mine) v.numbers.joined (record { number = w.numbers.number; mine = w.knowledge.mine; findings = w.findings } ∷ w.numbers.joined) in omega arith
