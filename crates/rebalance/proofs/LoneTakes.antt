-- A room that a pass which is alone comes to hold, and opens again, in the words of the table.
use Rattle.std.proofs.Common.{◌≡◌, ℕ, ◌<◌, inl, inr, ⊎_elim, List, ◌∷◌, sym, refl, ap, ◌∙◌, subst, arith}
use mathlib.Core.Logic.{dite}
use native.Mathlib.Decide.{ℕ_discrete}
use Rattle.oak_model.specs.Counts.{total}
use Rattle.oak_model.specs.Limits.{Sizes}
use Rattle.chunk_core.specs.declared.holds.RoomCopy.{RoomCopy}
use Rattle.chunk_core.specs.declared.holds.RoomHolds.{RoomHolds}
use Rattle.chunk_core.specs.declared.states.TheConstants.{FROZEN, HELD, OPEN}
use Rattle.chunk_core.proofs.HeldRooms.{room_rows, row_else}
use Rattle.oak_core.specs.declared.states.PassState.{PassState}
use Rattle.oak_core.specs.AloneWords.{Runs}
use Rattle.oak_core.specs.PassState.{HoldsNothing}
use Rattle.oak_core.proofs.seats.AloneRuns.{Then, runs_as, runs_then}
use Rattle.chunk_ops.specs.LoneRooms.{HasNoRoom}
use Rattle.chunk_ops.specs.RoomPins.{AddsRoomPin, DropsRoomPin, HadMoment}
use Rattle.rebalance.specs.Chunks.{held_row}
use Rattle.rebalance.specs.LoneCalls.{Divided, RewritesRoom}
use Rattle.rebalance.specs.LoneWords.{Divides, FreezesWords, LeavesBut, MovesWith, TakesRoom, held_by, leaves_both, leaves_more, no_room, or_held, state_in, this_room}
use Rattle.rebalance.proofs.LoneChunks.{divided_runs, divides_before}
use Rattle.rebalance.proofs.LonePins.{pin_leaves, unpin_leaves}

-- ---- a pass that has no room

-- a pass that holds nothing has no room
pub bare_of : (v : PassState) → HoldsNothing v → HasNoRoom v
bare_of v idle = record { held = ap (λ (o : RoomHolds). o.held) idle.rooms; moving = ap (λ (o : RoomHolds). o.moving) idle.rooms }

-- nor has one with the same rooms
pub bare_still : (v u : PassState) → HasNoRoom v → u.rooms ≡ v.rooms → HasNoRoom u
bare_still v u n same = record { held = ap (λ (o : RoomHolds). o.held) same ∙ n.held; moving = ap (λ (o : RoomHolds). o.moving) same ∙ n.moving }

-- ---- in words of the table

-- a pinned room is frozen, and held once the pin is undone
pub pinned_takes : (z : Sizes) (v : PassState) (r : ℕ) (w : RoomCopy) → r < z.chunks → (a b c d : List ℕ) → FreezesWords z v r a b → DropsRoomPin z r b c → MovesWith z r FROZEN HELD w c d → TakesRoom z v r w a d
pinned_takes z v r w lt a b c d f u h = let first = leaves_both z (this_room r) no_room a b c f.moves.leaves (leaves_more z no_room no_room (this_room r) no_room b c (λ q n. absurd n) (λ q n. n) (unpin_leaves z r b c lt u)) in record {
  leaves = leaves_more z (this_room r) no_room (this_room r) (or_held r v) a d (λ q m. m) (λ q n. absurd n) (leaves_both z (this_room r) no_room a c d first h.moves.leaves);
  was = f.moves.was;
  words = sym (first.words r (λ n. n)) ∙ h.words;
  divided = f.divided;
}

-- so it is taken with its pin
pub pin_takes : (z : Sizes) (v x : PassState) (r : ℕ) (w : RoomCopy) → r < z.chunks → (HasNoRoom v → HasNoRoom x) → ((q : ℕ) → held_by x q → held_by v q) → (a b c : List ℕ) → AddsRoomPin z r a b → TakesRoom z x r w b c → TakesRoom z v r w a c
pin_takes z v x r w lt bare more a b c p t = let pinned = pin_leaves z r a b lt t.was p in record {
  leaves = leaves_both z (this_room r) (or_held r v) a b c (leaves_more z no_room no_room (this_room r) (or_held r v) a b (λ q n. absurd n) (λ q n. absurd n) pinned)
      (leaves_more z (this_room r) (or_held r x) (this_room r) (or_held r v) b c (λ q m. m) (λ q. ⊎_elim (λ (e : q ≡ r). inl e) (λ (h : held_by x q). inr (more q h))) t.leaves);
  was = p.0;
  words = sym (pinned.words r (λ n. n)) ∙ t.words;
  divided = λ n. divides_before z a b (t.divided (bare n)) pinned;
}

-- a room held in front of others is this one or one of them
pub front_or : (v y : PassState) (r : ℕ) (w : RoomCopy) → y.rooms.held ≡ held_row r w ∷ v.rooms.held → (q : ℕ) → held_by y q → or_held r v q
unfolding room_rows
front_or v y r w held q h = dite (ℕ_discrete q r) (λ e. inl e) (λ ne. inr (let e = row_else r q HELD (held_row r w) v.rooms.held refl ne in let f : room_rows q HELD y.rooms.held ≡ room_rows q HELD (held_row r w ∷ v.rooms.held) = ap (room_rows q HELD) held in omega arith))

-- the pass may have worked on it then
pub takes_works : (z : Sizes) (v y : PassState) (r : ℕ) (w : RoomCopy) → ((q : ℕ) → held_by y q → or_held r v q) → (a b c : List ℕ) → TakesRoom z v r w a b → LeavesBut z no_room (held_by y) b c → TakesRoom z v r w a c
takes_works z v y r w more a b c t l = record {
  leaves = leaves_both z (this_room r) (or_held r v) a b c t.leaves (leaves_more z no_room (held_by y) (this_room r) (or_held r v) b c (λ q n. absurd n) more l);
  was = t.was;
  words = t.words;
  divided = t.divided;
}

-- a pass that has no room holds none
pub none_by : (v : PassState) → HasNoRoom v → (q : ℕ) → held_by v q → ⊥
unfolding room_rows total
none_by v n q h = let e : room_rows q HELD v.rooms.held ≡ 0 = ap (room_rows q HELD) n.held in absurd (omega arith)

-- where the state of the one room that was moved is what it was, none was moved
moved_back : (z : Sizes) (r : ℕ) (S : ℕ → Type 0) (a b : List ℕ) → LeavesBut z (this_room r) S a b → state_in z b r ≡ state_in z a r → LeavesBut z no_room S a b
moved_back z r S a b l e = record {
  headers = l.headers;
  states = λ q _. dite (ℕ_discrete q r) (λ is. subst (λ (k : ℕ). state_in z b k ≡ state_in z a k) (sym is) e) (λ ne. l.states q ne);
  words = l.words;
}

-- What a room that was taken and opened again leaves: its state is what it was.
opened_leaves : (z : Sizes) (v : PassState) (r : ℕ) (w x : RoomCopy) (a b c : List ℕ) → TakesRoom z v r w a b → MovesWith z r HELD OPEN x b c → LeavesBut z no_room (or_held r v) a c
opened_leaves z v r w x a b c t m = moved_back z r (or_held r v) a c (leaves_both z (this_room r) (or_held r v) a b c t.leaves (leaves_more z (this_room r) no_room (this_room r) (or_held r v) b c (λ q m. m) (λ q n. absurd n) m.moves.leaves)) (m.moves.is ∙ sym t.was)

-- with other words, by a pass that had no room
takes_rewrites : (z : Sizes) (v : PassState) (r : ℕ) (w x : RoomCopy) → r < z.chunks → HasNoRoom v → (a b c : List ℕ) → TakesRoom z v r w a b → MovesWith z r HELD OPEN x b c → Divides z a × RewritesRoom z r w x a c
takes_rewrites z v r w x lt bare a b c t m = (
  t.divided bare,
  record {
    leaves = leaves_more z no_room (or_held r v) no_room (this_room r) a c (λ q m. m) (λ q. ⊎_elim (λ (e : q ≡ r). e) (λ (h : held_by v q). absurd (none_by v bare q h))) (opened_leaves z v r w x a b c t m);
    is_open = record { inside = lt; state = t.was };
    was = t.words;
    is = m.moves.leaves.words r (λ n. n) ∙ m.words;
  },
)

-- ---- the same of calls

-- the room is taken, and worked on
pub taken_works : (z : Sizes) (v t u : PassState) (r : ℕ) (w : RoomCopy) → ((q : ℕ) → held_by t q → or_held r v q) → Runs (TakesRoom z v r w) v t → Runs (LeavesBut z no_room (held_by t)) t u → Runs (TakesRoom z v r w) v u
taken_works z v t u r w more a b = runs_as (Then (TakesRoom z v r w) (LeavesBut z no_room (held_by t))) (TakesRoom z v r w) v u (λ x y s. takes_works z v t r w more x s.0 y s.1 s.2) (runs_then (TakesRoom z v r w) (LeavesBut z no_room (held_by t)) v t u a b)

-- and opened, with what the pass had before, which was no room
pub lone_rewrites : (z : Sizes) (v t u : PassState) (r : ℕ) (w x : RoomCopy) → r < z.chunks → HasNoRoom v → HasNoRoom u → HadMoment z u → (v ≡ u → ⊥) → Runs (TakesRoom z v r w) v t → Runs (MovesWith z r HELD OPEN x) t u → Runs (Divided z (RewritesRoom z r w x)) v u
lone_rewrites z v t u r w x lt bare left had apart a b = divided_runs z (RewritesRoom z r w x) v u apart left had
    (runs_as (Then (TakesRoom z v r w) (MovesWith z r HELD OPEN x)) (λ p q. Divides z p × RewritesRoom z r w x p q) v u (λ p q s. takes_rewrites z v r w x lt bare p s.0 q s.1 s.2) (runs_then (TakesRoom z v r w) (MovesWith z r HELD OPEN x) v t u a b))
