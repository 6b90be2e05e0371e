-- Where a pass is alone and has no room, the open rooms divide the keys among them, and each other room is free.
use Rattle.std.proofs.Common.{◌≡◌, ℕ, ◌+◌, ◌-◌, ◌*◌, ◌≤◌, ◌⊎◌, inl, inr, ⊎_elim, List, [], ◌∷◌, ◌++◌, length, length-append, map, sym, refl, ap, ◌∙◌, subst, arith, None}
use mathlib.Core.Logic.{dite}
use mathlib.Core.Option.{some, some-injective}
use lib.ListN.{get_elem?}
use native.Mathlib.Decide.{ℕ_discrete}
use Rattle.pin_word.specs.PinWord.{state_of, count_of}
use Rattle.oak_model.specs.Counts.{one_at, total}
use Rattle.oak_model.specs.Limits.{Sizes}
use Rattle.oak_model.proofs.Counting.{one_at-same, total_zero}
use Rattle.oak_model.proofs.Lists.{at_unmap}
use Rattle.oak_model.proofs.SumLaws.{times-one}
use Rattle.arena_core.specs.Place.{content}
use Rattle.chunk_core.specs.declared.states.TheConstants.{FREE, OPEN, FROZEN, HELD}
use Rattle.chunk_core.specs.declared.holds.HeldRoom.{HeldRoom}
use Rattle.chunk_core.specs.declared.holds.RoomCopy.{RoomCopy}
use Rattle.chunk_core.specs.declared.holds.RoomHolds.{RoomHolds}
use Rattle.chunk_core.specs.CoverSums.{weight, all_of, is_in, keyless}
use Rattle.chunk_core.specs.Covers.{Cover, cover_at, moving_of, span_in}
use Rattle.chunk_core.specs.RoomHolds.{no_rooms, pins_of}
use Rattle.chunk_core.specs.RoomRule.{room_pins, room_state, in_room_state}
use Rattle.chunk_core.specs.Spans.{within}
use Rattle.chunk_core.proofs.CoverLaws.{covers_parts, room_le}
use Rattle.chunk_core.proofs.SpanLaws.{within-le}
use Rattle.oak_core.specs.declared.states.Finding.{Finding}
use Rattle.oak_core.specs.declared.states.PassState.{PassState}
use Rattle.oak_core.specs.AloneWords.{LeavesWords, Moment, Runs, RunsTo}
use Rattle.oak_core.specs.CallSteps.{StepOfCall}
use Rattle.oak_core.specs.Memory.{Memory, memory}
use Rattle.oak_core.specs.PassState.{IsAlone, rooms_held, spent_state}
use Rattle.oak_core.specs.Step.{Step, load, give_number, on_arena, on_headers, on_rooms, store_locked, note_full, state_after}
use Rattle.oak_core.specs.TableState.{TableState}
use Rattle.oak_core.proofs.seats.Alone.{others_are}
use Rattle.oak_core.proofs.seats.AloneRuns.{runs_as}
use Rattle.oak_core.proofs.owners.OneOwner.{below_two}
use Rattle.chunk_ops.specs.LoneRooms.{FreezesNone, HasNoRoom}
use Rattle.chunk_ops.specs.RoomPins.{HadMoment}
use Rattle.chunk_ops.proofs.LoneRoomLaws.{lone_room}
use Rattle.rebalance.specs.Copies.{copy_span}
use Rattle.rebalance.specs.LoneCalls.{Divided}
use Rattle.rebalance.specs.LoneWords.{Divides, IsOpen, LeavesBut, no_room, room_in, state_in}

-- an open room is a cover
weight_open : (w : ℕ) → state_of w ≡ OPEN → weight w ≡ 1
unfolding one_at
weight_open w e = ap (λ (s : ℕ). one_at s OPEN + one_at s FROZEN) e

-- one that nobody has frozen or held is free or open
free_or_open : (s : ℕ) → s ≤ HELD → one_at s FROZEN ≡ 0 → one_at s HELD ≡ 0 → (s ≡ FREE) ⊎ (s ≡ OPEN)
free_or_open s low f h = dite (ℕ_discrete s FREE) (λ e. inl e) (λ nf. dite (ℕ_discrete s OPEN) (λ e. inr e)
    (λ no. dite (ℕ_discrete s FROZEN) (λ e. let o = one_at-same s FROZEN e in absurd (omega arith)) (λ nz. let e : s ≡ HELD = omega arith in let o = one_at-same s HELD e in absurd (omega arith))))

none_held : (r s : ℕ) (a : RoomHolds) → a.held ≡ [] → in_room_state r s a ≡ 0
unfolding total
none_held r s a e = ap (λ (l : List HeldRoom). total (λ (h : HeldRoom). one_at h.room r * one_at (room_state h.held_as) s) l) e

-- what holds of what a pass that is alone has of rooms, and of nothing, holds of each pass
each_so : (z : Sizes) (words : List ℕ) (u : PassState) (m : Moment z words u) → IsAlone u → (P : RoomHolds → Type 0) → P u.rooms → P no_rooms → (j : ℕ) (a : RoomHolds) → get_elem? (map rooms_held m.states) j ≡ some a → P a
each_so z words u m alone P mine none j a e = let o = at_unmap rooms_held m.states j a e in subst P o.2 (dite (ℕ_discrete j m.seat)
    (λ same. let is : u ≡ o.0 = some-injective u o.0 (sym m.here ∙ (ap (get_elem? m.states) (sym same) ∙ o.1)) in subst (λ (y : PassState). P y.rooms) is mine)
    (λ ne. let is : o.0 ≡ spent_state = others_are z record { words = words; states = m.states } m.rule m.seat u m.here alone j o.0 ne o.1 in subst (λ (y : PassState). P y.rooms) (sym is) none))

-- where such a pass has no pin, no room has one
pub lone_count : (z : Sizes) (words : List ℕ) (u : PassState) → Moment z words u → IsAlone u → u.rooms.pin ≡ None → (r : ℕ) → count_of ((memory z words).rooms.pin r) ≡ 0
lone_count z words u m alone none r = sym (m.rule.rooms.counted r) ∙ total_zero (room_pins r) (map rooms_held m.states) (λ j a e. ap (pins_of r) (each_so z words u m alone (λ b. b.pin ≡ None) none refl j a e))

-- no room is frozen where such a pass has none so
pub none_frozen : (z : Sizes) (words : List ℕ) (u : PassState) → Moment z words u → IsAlone u → FreezesNone u → (r : ℕ) → state_in z words r ≡ FROZEN → ⊥
none_frozen z words u m alone none r is = let a = m.rule.rooms.held r FROZEN (inl refl) in let o = one_at-same (state_in z words r) FROZEN is in
    let t = total_zero (in_room_state r FROZEN) (map rooms_held m.states) (each_so z words u m alone (λ b. in_room_state r FROZEN b ≡ 0) (none r) (none_held r FROZEN no_rooms refl)) in absurd (omega arith)

-- a moment at which the pass was alone, and had no room
module _ (z : Sizes) (words : List ℕ) (u : PassState) (m : Moment z words u) (alone : IsAlone u) (bare : HasNoRoom u) where
  abbrev mem : Memory
  mem = memory z words

  abbrev hs : List RoomHolds
  hs = map rooms_held m.states

  none_so : (r s : ℕ) → total (in_room_state r s) hs ≡ 0
  none_so r s = total_zero (in_room_state r s) hs (λ j a e. none_held r s a (each_so z words u m alone (λ b. b.held ≡ []) bare.held refl j a e))

  states_are : (r : ℕ) → (state_in z words r ≡ FREE) ⊎ (state_in z words r ≡ OPEN)
  states_are r = free_or_open (state_in z words r) (m.rule.rooms.states r) (sym (m.rule.rooms.held r FROZEN (inl refl)) ∙ none_so r FROZEN) (sym (m.rule.rooms.held r HELD (inr refl)) ∙ none_so r HELD)

  -- what an open room adds is no more than all
  adds : (F : Cover → ℕ) (r : ℕ) → IsOpen z words r → F (cover_at mem.rooms (content mem.arena.bytes) r) ≤ all_of z mem.rooms (content mem.arena.bytes) hs F
  adds F r o = room_le z.chunks mem.rooms.pin (cover_at mem.rooms (content mem.arena.bytes)) (map moving_of hs) F r o.inside (weight_open (mem.rooms.pin r) o.state)

  one_room : (k r s : ℕ) → IsOpen z words r → IsOpen z words s → within (copy_span (room_in z words r)) k ≡ 1 → within (copy_span (room_in z words s)) k ≡ 1 → r ≡ s
  one_room k r s o q e f = dite (ℕ_discrete r s) (λ same. same)
      (λ ne. let F : ℕ → ℕ = λ j. weight (mem.rooms.pin j) * within (span_in mem.rooms j) k in
      let parts = covers_parts z.chunks mem.rooms.pin (cover_at mem.rooms (content mem.arena.bytes)) hs (is_in k) in
      let one = m.rule.covers.covered k in
      let two = below_two F z.chunks r s o.inside q.inside ne in
      let a = times-one (weight (mem.rooms.pin r)) (within (span_in mem.rooms r) k) (weight_open (mem.rooms.pin r) o.state) in
      let b = times-one (weight (mem.rooms.pin s)) (within (span_in mem.rooms s) k) (weight_open (mem.rooms.pin s) q.state) in
      absurd (omega arith))

  pub lone_divides : Divides z words
  lone_divides = record {
    states = λ r _. states_are r;
    covered = λ k. let o = lone_room z words u m alone bare.held bare.moving k in (o.0, record { inside = o.1; state = o.2 }, o.3);
    once = one_room;
    begun = λ r o. let a = adds (λ c. 1 - within c.span c.span.low) r o in let b = m.rule.covers.begun in let l = within-le (span_in mem.rooms r) (span_in mem.rooms r).low in omega arith;
    keyed = λ r o. let a = adds (λ c. keyless c.span) r o in let b = m.rule.covers.keyed in omega arith;
  }

-- ---- the same of other words

-- before a change of pins alone the rooms divided the keys as they do behind it
pub divides_before : (z : Sizes) (a b : List ℕ) → Divides z b → LeavesBut z no_room no_room a b → Divides z a
divides_before z a b d l = record {
  states = λ r lt. subst (λ (s : ℕ). (s ≡ FREE) ⊎ (s ≡ OPEN)) (state_is r) (d.states r lt);
  covered = λ k. let o = d.covered k in (o.0, was_open o.0 o.1, subst (λ (w : RoomCopy). within (copy_span w) k ≡ 1) (words_are o.0) o.2);
  once = λ k r s o q e f. d.once k r s (is_open r o) (is_open s q) (in_range k r e) (in_range k s f);
  begun = λ r o. subst (λ (w : RoomCopy). within (copy_span w) (copy_span w).low ≡ 1) (words_are r) (d.begun r (is_open r o));
  keyed = λ r o. subst (λ (w : RoomCopy). keyless (copy_span w) ≡ 0) (words_are r) (d.keyed r (is_open r o));
}
  where
    state_is : (r : ℕ) → state_in z b r ≡ state_in z a r
    state_is r = l.states r (λ n. n)

    words_are : (r : ℕ) → room_in z b r ≡ room_in z a r
    words_are r = l.words r (λ n. n)

    is_open : (r : ℕ) → IsOpen z a r → IsOpen z b r
    is_open r o = record { inside = o.inside; state = state_is r ∙ o.state }

    was_open : (r : ℕ) → IsOpen z b r → IsOpen z a r
    was_open r o = record { inside = o.inside; state = sym (state_is r) ∙ o.state }

    in_range : (k r : ℕ) → within (copy_span (room_in z a r)) k ≡ 1 → within (copy_span (room_in z b r)) k ≡ 1
    in_range k r e = subst (λ (w : RoomCopy). within (copy_span w) k ≡ 1) (sym (words_are r)) e

-- ---- behind a call

-- Where there was a moment of the rule, and the pass was alone at its last step, there was one at the words that it left, and it is alone.
pub ended_at : (z : Sizes) (w : PassState) (b : List ℕ) → HadMoment z w → LeavesWords b w → Moment z b w × IsAlone w
ended_at z w b had l = let m = had.1 in let a = m.rule.alone m.seat w m.here l.met l.finding l.last l.alone in (subst (λ (ws : List ℕ). Moment z ws w) (a.0 ∙ l.are) m, a.1)

-- behind a call that left its pass no room, the rooms divide the keys
pub ends_divided : (z : Sizes) (P : List ℕ → List ℕ → Type 0) (v w : PassState) → (v ≡ w → ⊥) → HasNoRoom w → HadMoment z w → Runs P v w → Runs (λ a b. P a b × Divides z b) v w
ends_divided z P v w apart bare had r = record {
  goes = λ before l. behind before (r.goes before l);
  starts = λ alone. ⊎_elim (λ (n : (v ≡ w) × ((words : List ℕ) → P words words)). absurd (apart n.0)) (λ (s : (before : List ℕ) × RunsTo P before w). inr (s.0, behind s.0 s.1)) (r.starts alone);
}
  where
    behind : (before : List ℕ) → RunsTo P before w → RunsTo (λ a b. P a b × Divides z b) before w
    behind before t = let e = ended_at z w t.after had t.leaves in record { after = t.after; leaves = t.leaves; does = (t.does, lone_divides z t.after w e.0 e.1 bare) }

-- so they do on both sides where they did before it
pub divided_runs : (z : Sizes) (P : List ℕ → List ℕ → Type 0) (v w : PassState) → (v ≡ w → ⊥) → HasNoRoom w → HadMoment z w → Runs (λ a b. Divides z a × P a b) v w → Runs (Divided z P) v w
divided_runs z P v w apart bare had r = runs_as (λ a b. (Divides z a × P a b) × Divides z b) (Divided z P) v w (λ a b d. record { divided = d.0.0; does = d.0.1; divides = d.1 }) (ends_divided z (λ a b. Divides z a × P a b) v w apart bare had r)

-- a step adds what it met
grown : (z : Sizes) (call : ℕ) (x : Step) (s : TableState) (v : PassState) → (f : Finding) × ((state_after z call x s v).findings.met ≡ v.findings.met ++ f ∷ [])
grown z call (load p) s v = (_, refl)
grown z call (give_number n) s v = (_, refl)
grown z call (on_arena x) s v = (_, refl)
grown z call (on_headers x) s v = (_, refl)
grown z call (on_rooms x) s v = (_, refl)
grown z call (store_locked h c b n x) s v = (_, refl)
grown z call (note_full lack began) s v = (_, refl)

-- so a call with a step left its pass another state
pub step_apart : (z : Sizes) (call : ℕ) (x : Step) (v w : PassState) → StepOfCall z call x v w → v ≡ w → ⊥
step_apart z call x v w s same = let g = grown z call x s.told.table s.from in
    let a = ap length s.begun.met in let a' = length-append v.findings.met s.begun.more in
    let b = ap (λ (y : PassState). length y.findings.met) s.told.after ∙ ap length g.1 in let b' = length-append s.from.findings.met (g.0 ∷ []) in
    let c = ap length s.ended.met in let c' = length-append s.to.findings.met s.ended.more in
    let e = ap (λ (y : PassState). length y.findings.met) same in absurd (omega arith)
