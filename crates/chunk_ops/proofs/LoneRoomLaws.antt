-- Where no pass has a room frozen or held, and no range moves, each key lies in the range of an open room. So a pass that is alone finds the room that it looks for.
use Rattle.std.proofs.Common.{◌≡◌, ◌≢◌, ℕ, zero, suc, ◌+◌, ◌-◌, ◌*◌, ◌^◌, ◌<◌, ◌≤◌, ◌⊎◌, inl, inr, ⊎_elim, List, [], ◌∷◌, map, length, get_or, set, sym, refl, ap, ◌∙◌, subst, arith, mul-le-mul_right}
use mathlib.Core.Logic.{dite}
use mathlib.Core.Option.{some, some-injective}
use lib.ListN.{get_elem?}
use native.Mathlib.Decide.{ℕ_discrete, dec_lt}
use Rattle.pin_word.specs.PinWord.{state_of, count_of}
use Rattle.oak_model.specs.Counts.{one_at, total, below}
use Rattle.oak_model.specs.KeyNumber.{digits_number, key_number}
use Rattle.oak_model.specs.Limits.{Sizes}
use Rattle.oak_model.proofs.Counting.{one_at-true, total_zero, below_some, below_at}
use Rattle.oak_model.proofs.Lists.{at_unmap}
use Rattle.oak_model.proofs.SumLaws.{times-one, times-none}
use Rattle.arena_core.specs.Place.{content}
use Rattle.chunk_core.specs.declared.states.TheConstants.{OPEN, FROZEN}
use Rattle.chunk_core.specs.declared.holds.HeldRoom.{HeldRoom}
use Rattle.chunk_core.specs.declared.holds.MovingRange.{MovingRange}
use Rattle.chunk_core.specs.declared.holds.RoomHolds.{RoomHolds}
use Rattle.chunk_core.specs.Covers.{Cover, cover_at, cover_from, moving_of, span_in}
use Rattle.chunk_core.specs.CoverSums.{weight, is_in}
use Rattle.chunk_core.specs.RoomRule.{room_state, in_room_state}
use Rattle.chunk_core.specs.RoomStep.{pin_room}
use Rattle.chunk_core.specs.Spans.{Span, past, past_high, within}
use Rattle.chunk_core.proofs.CoverLaws.{covers_parts, moves, weight-le}
use Rattle.chunk_core.proofs.SpanLaws.{past-cases, past-le, high-some, within-le}
use Rattle.oak_core.specs.declared.states.PassState.{PassState}
use Rattle.oak_core.specs.AloneWords.{Moment, Runs}
use Rattle.oak_core.specs.Memory.{Memory, index, memory}
use Rattle.oak_core.specs.PassState.{IsAlone, rooms_held, spent_state}
use Rattle.oak_core.specs.RoomCalls.{PinsRoomWord}
use Rattle.oak_core.specs.Step.{Step, on_rooms, spot, effect, Told}
use Rattle.oak_core.specs.TableState.{TableState}
use Rattle.oak_core.proofs.seats.Alone.{others_are}
use Rattle.oak_core.proofs.seats.AloneRuns.{DoesStep, Keeps, Then, step_runs, step_starts, words_stand, moment_before, runs_then, runs_as}
use Rattle.chunk_ops.specs.declared.ranges.Asked.{Asked}
use Rattle.chunk_ops.specs.declared.ranges.Asked.TheVariants.{Covering, Under, Last}
use Rattle.chunk_ops.specs.AskedRanges.{CoversKey, EndsUnder, IsLast, IsAsked, IsAskable}
use Rattle.chunk_ops.specs.LoneRooms.{HasElsewhere, HasNoRoom, IsOff, LoneMoment, LoneTry, LoneTries, NeverAlone, NeverElsewhere}
use Rattle.chunk_ops.specs.PinRecords.{OnlyMeets, WordsStay}
use Rattle.chunk_ops.specs.RoomPins.{DropsRoomPin, Unpins}
use Rattle.chunk_ops.proofs.MeetingCalls.{stays_then}
use Rattle.chunk_ops.proofs.PinSteps.{changes_at, more_fits, small, low_state, undone}

-- ---- the steps

-- a step of a pass that is alone, where the words before it have Q
pub record StepAt (z : Sizes) (x : Step) (v : PassState) (n : ℕ) (Q : List ℕ → Type 0) (a b : List ℕ) : Type 0 where
  pub says : Q a
  pub alone : IsAlone v
  pub moment : Moment z a v
  pub does : DoesStep z x n a b

pub step_at : (z : Sizes) (call : ℕ) (x : Step) (v : PassState) (n : ℕ) (w : PassState) → Keeps x → (t : Told z call x v n w) (Q : List ℕ → Type 0) → Q t.table.words → Runs (StepAt z x v n Q) v w
step_at z call x v n w k t Q q = record {
  goes = λ before l. let r = (step_runs z call x v n w k t).goes before l in record {
    after = r.after;
    leaves = r.leaves;
    does = record {
      says = subst Q (words_stand z call x v n w before l t) q;
      alone = (t.rule.alone t.seat v t.here l.met l.finding l.last l.alone).1;
      moment = moment_before z call x v n w before l t;
      does = r.does;
    };
  };
  starts = λ alone. inr (
    t.table.words,
    record {
      after = set t.table.words (index z (spot x)) (effect x (get_or t.table.words (index z (spot x)) 0));
      leaves = step_starts z call x v n w k alone t;
      does = record { says = q; alone = alone; moment = record { states = t.table.states; rule = t.rule; seat = t.seat; here = t.here }; does = (sym t.finds, refl) };
    },
  );
}

-- a room that was pinned, and whose pin was undone
pub tried_alone : (z : Sizes) (call r n : ℕ) (v w x u : PassState) (t : PinsRoomWord z call r v n w) (Q : List ℕ → Type 0) → OnlyMeets call w x → Unpins z call r x u → Q t.table.words → Runs (LoneTry z Q v.rooms) v u
tried_alone z call r n v w x u t Q only ends q = runs_as (Then (StepAt z (on_rooms (pin_room r)) v n Q) (DropsRoomPin z r)) (LoneTry z Q v.rooms) v u
    (λ a d s. record {
      stay = undone z r t.may.inside.0 a s.0 d (λ k. Unit {0}) (λ k. 0 < count_of k)
          (changes_at z call r (pin_room r) refl v n w t t.may.inside.0 (λ k. Unit {0}) (λ k. k + 1) tt (more_fits n (small z call r (pin_room r) refl v n w t t.may.inside.0) (low_state z call r (pin_room r) refl v n w t t.may.inside.0)) a s.0 s.1.does) s.2;
      at = record { says = s.1.says; state = v; rooms = refl; alone = s.1.alone; moment = s.1.moment };
    })
    (runs_then (StepAt z (on_rooms (pin_room r)) v n Q) (DropsRoomPin z r) v w u (step_at z call (on_rooms (pin_room r)) v n w tt t Q q) (stays_then (DropsRoomPin z r) w x u only.still ends.still))

-- ---- one room behind another

pub tries_none : (z : Sizes) (P : Span → Type 0) (h : RoomHolds) (v w : PassState) → Runs WordsStay v w → Runs (LoneTries z 0 P h) v w
tries_none z P h v w s = runs_as WordsStay (LoneTries z 0 P h) v w (λ a b e. record { stay = e; each = λ r lt. absurd (omega arith) }) s

pub tries_more : (z : Sizes) (k : ℕ) (P : Span → Type 0) (h g : RoomHolds) (v w x : PassState) → g ≡ h → Runs (LoneTries z k P h) v w → Runs (LoneTry z (IsOff z k P) g) w x → Runs (LoneTries z (k + 1) P h) v x
tries_more z k P h g v w x same a b = runs_as (Then (LoneTries z k P h) (LoneTry z (IsOff z k P) g)) (LoneTries z (k + 1) P h) v x
    (λ p q s. record {
      stay = s.2.stay ∙ s.1.stay;
      each = λ r lt. dite (dec_lt r k) (λ l. s.1.each r l)
          (λ m. subst (λ (j : ℕ). LoneMoment z (IsOff z j P) h p) (let e : k ≡ r = omega arith in e) (subst (λ (ws : List ℕ). LoneMoment z (IsOff z k P) h ws) s.1.stay (subst (λ (o : RoomHolds). LoneMoment z (IsOff z k P) o s.0) same s.2.at)));
    })
    (runs_then (LoneTries z k P h) (LoneTry z (IsOff z k P) g) v w x a b)

-- ---- where nothing is held

no_rooms_held : (r s : ℕ) (a : RoomHolds) → a.held ≡ [] → in_room_state r s a ≡ 0
unfolding total
no_rooms_held r s a e = ap (λ (l : List HeldRoom). total (λ (h : HeldRoom). one_at h.room r * one_at (room_state h.held_as) s) l) e

no_ranges : (F : Cover → ℕ) (a : RoomHolds) → a.moving ≡ [] → moves F a ≡ 0
unfolding total
no_ranges F a e = ap (λ (l : List MovingRange). total F (map cover_from l)) e

-- a pass without rooms has each key elsewhere
pub bare_elsewhere : (k : ℕ) (v : PassState) → HasNoRoom v → HasElsewhere k v
bare_elsewhere k v n = record { frozen = λ r. no_rooms_held r FROZEN v.rooms n.held; moving = no_ranges (is_in k) v.rooms n.moving }

-- so has one with the same rooms
pub elsewhere_still : (k : ℕ) (v u : PassState) → HasElsewhere k v → u.rooms ≡ v.rooms → HasElsewhere k u
elsewhere_still k v u has same = record {
  frozen = λ r. ap (in_room_state r FROZEN) same ∙ has.frozen r;
  moving = ap (λ (a : RoomHolds). total (is_in k) (moving_of a)) same ∙ has.moving;
}

module _ (z : Sizes) (words : List ℕ) (u : PassState) (m : Moment z words u) (alone : IsAlone u) where
  abbrev mem : Memory
  mem = memory z words

  abbrev table : TableState
  table = record { words = words; states = m.states }

  abbrev hs : List RoomHolds
  hs = map rooms_held m.states

  -- no pass has the key
  each_elsewhere : (k : ℕ) → HasElsewhere k u → (j : ℕ) (a : RoomHolds) → get_elem? hs j ≡ some a → ((r : ℕ) → in_room_state r FROZEN a ≡ 0) × (moves (is_in k) a ≡ 0)
  each_elsewhere k has j a e = let o = at_unmap rooms_held m.states j a e in
      subst (λ (b : RoomHolds). ((r : ℕ) → in_room_state r FROZEN b ≡ 0) × (moves (is_in k) b ≡ 0)) o.2 (of_state o.0 (dite (ℕ_discrete j m.seat)
      (λ same. let is : u ≡ o.0 = some-injective u o.0 (sym m.here ∙ (ap (get_elem? m.states) (sym same) ∙ o.1)) in subst (HasElsewhere k) is has)
      (λ ne. let is : o.0 ≡ spent_state = others_are z table m.rule m.seat u m.here alone j o.0 ne o.1 in subst (HasElsewhere k) (sym is) (bare_elsewhere k spent_state (record { held = refl; moving = refl })))))
    where
      of_state : (y : PassState) → HasElsewhere k y → ((r : ℕ) → in_room_state r FROZEN y.rooms ≡ 0) × (moves (is_in k) y.rooms ≡ 0)
      of_state y h = (h.frozen, h.moving)

  -- the key lies in the range of an open room
  pub room_elsewhere : (k : ℕ) → HasElsewhere k u → (r : ℕ) × (r < z.chunks) × (state_of (mem.rooms.pin r) ≡ OPEN) × (within (span_in mem.rooms r) k ≡ 1)
  room_elsewhere k has = let F : ℕ → ℕ = λ r. weight (mem.rooms.pin r) * within (span_in mem.rooms r) k in
      let parts = covers_parts z.chunks mem.rooms.pin (cover_at mem.rooms (content mem.arena.bytes)) hs (is_in k) in
      let none = total_zero (moves (is_in k)) hs (λ j a e. (each_elsewhere k has j a e).1) in
      let one = m.rule.covers.covered k in
      let s = below_some F z.chunks (omega arith) in (s.0, s.1, open_is s.0 s.2, in_range s.0 s.2)
    where
      weighs : (r : ℕ) → 0 < weight (mem.rooms.pin r) * within (span_in mem.rooms r) k → weight (mem.rooms.pin r) ≡ 1
      weighs r l = let w = weight-le (mem.rooms.pin r) in dite (ℕ_discrete (weight (mem.rooms.pin r)) 0)
          (λ e. let q = times-none (weight (mem.rooms.pin r)) (within (span_in mem.rooms r) k) e in absurd (omega arith)) (λ ne. omega arith)

      in_range : (r : ℕ) → 0 < weight (mem.rooms.pin r) * within (span_in mem.rooms r) k → within (span_in mem.rooms r) k ≡ 1
      in_range r l = let q = times-one (weight (mem.rooms.pin r)) (within (span_in mem.rooms r) k) (weighs r l) in let b = within-le (span_in mem.rooms r) k in omega arith

      open_is : (r : ℕ) → 0 < weight (mem.rooms.pin r) * within (span_in mem.rooms r) k → state_of (mem.rooms.pin r) ≡ OPEN
      open_is r l = let w = weighs r l in let f = m.rule.rooms.held r FROZEN (inl refl) in let none = total_zero (in_room_state r FROZEN) hs (λ j a e. (each_elsewhere k has j a e).0 r) in
          one_at-true (state_of (mem.rooms.pin r)) OPEN (omega arith)

-- so does each one where the pass has no room
pub lone_room : (z : Sizes) (words : List ℕ) (u : PassState) → Moment z words u → IsAlone u → u.rooms.held ≡ [] → u.rooms.moving ≡ [] → (k : ℕ) → (r : ℕ) × (r < z.chunks) × (state_of ((memory z words).rooms.pin r) ≡ OPEN) × (within (span_in (memory z words).rooms r) k ≡ 1)
lone_room z words u m alone held moving k = room_elsewhere z words u m alone k (bare_elsewhere k u (record { held = held; moving = moving }))

-- ---- so there is a room with each range that is asked for

power_pos : (n : ℕ) → 0 < 257 ^ n
power_pos zero = omega arith
power_pos (suc n) = let h = power_pos n in omega arith

key_some : (k : List ℕ) → 0 < length k → 0 < key_number k
unfolding key_number digits_number
key_some [] lt = absurd (omega arith)
key_some (x ∷ xs) lt = let p = power_pos 63 in let f : 1 ≤ x + 1 = omega arith in let m = mul-le-mul_right (257 ^ 63) f in omega arith

-- the range of the key just below a bound ends under the bound
ends_there : (b : List ℕ) (s : Span) → 0 < key_number b → within s (key_number b - 1) ≡ 1 → EndsUnder b s
ends_there b s lt w = let n : ℕ = key_number b in let p = past-le s.low (n - 1) in record {
  low = past-cases s.low (n - 1) (λ (t : ℕ). t - past_high s.high (n - 1) ≡ 1 → s.low < n) (λ l _. omega arith) (λ _ e. absurd (omega arith)) w;
  high = dite (ℕ_discrete s.high 0) (λ e. inl e) (λ ne. let q = high-some s.high (n - 1) ne in
      past-cases (s.high - 1) (n - 1) (λ (t : ℕ). past (s.high - 1) (n - 1) ≡ t → (s.high ≡ 0) ⊎ (n < s.high)) (λ _ e. absurd (omega arith)) (λ l _. inr (omega arith)) refl);
}

-- a range that has a key at or past its high bound has none
last_there : (s : Span) (k : ℕ) → s.high ≤ k → within s k ≡ 1 → IsLast s
last_there s k le w = dite (ℕ_discrete s.high 0) (λ e. e) (λ ne. let p = past-le s.low k in let q = high-some s.high k ne in
    past-cases (s.high - 1) k (λ (t : ℕ). past (s.high - 1) k ≡ t → s.high ≡ 0) (λ _ e. absurd (omega arith)) (λ l _. absurd (omega arith)) refl)

asked_room : (n : ℕ) (span : ℕ → Span) (Open : ℕ → Type 0) → ((k : ℕ) → (r : ℕ) × (r < n) × Open r × (within (span r) k ≡ 1)) → (asked : Asked) (key : List ℕ) → IsAskable asked key → (r : ℕ) × (r < n) × Open r × IsAsked asked key (span r)
asked_room n span Open f Covering key h = f (key_number key)
asked_room n span Open f Under key h = let r = f (key_number key - 1) in (r.0, r.1, r.2, ends_there key (span r.0) (key_some key h.0) r.3)
asked_room n span Open f Last key h = let k : ℕ = below (λ r. (span r).high) n in let r = f k in (r.0, r.1, r.2, last_there (span r.0) k (below_at (λ j. (span j).high) n r.0 r.1) r.3)

-- a pass that is alone, and has no room, does not find each one off
pub never_off : (z : Sizes) (asked : Asked) (key : List ℕ) (v w : PassState) → 0 < z.chunks → IsAskable asked key → Runs (LoneTries z z.chunks (IsAsked asked key) v.rooms) v w → Runs (NeverAlone v) v w
never_off z asked key v w some_room askable runs = runs_as (LoneTries z z.chunks (IsAsked asked key) v.rooms) (NeverAlone v) v w
    (λ a b t bare. let first = t.each 0 some_room in
    let r = asked_room z.chunks (span_in (memory z a).rooms) (λ j. state_of ((memory z a).rooms.pin j) ≡ OPEN)
    (lone_room z a first.state first.moment first.alone (ap (λ (h : RoomHolds). h.held) first.rooms ∙ bare.held) (ap (λ (h : RoomHolds). h.moving) first.rooms ∙ bare.moving)) asked key askable in
    ⊎_elim (λ (ne : state_of ((memory z a).rooms.pin r.0) ≢ OPEN). ne r.2) (λ (off : IsAsked asked key (span_in (memory z a).rooms r.0) → ⊥). off r.3) (t.each r.0 r.1).says)
    runs

-- nor does one that is alone, and has the key elsewhere, find no range with it
pub never_elsewhere : (z : Sizes) (key : List ℕ) (v w : PassState) → 0 < z.chunks → Runs (LoneTries z z.chunks (CoversKey key) v.rooms) v w → Runs (NeverElsewhere (key_number key) v) v w
never_elsewhere z key v w some_room runs = runs_as (LoneTries z z.chunks (CoversKey key) v.rooms) (NeverElsewhere (key_number key) v) v w
    (λ a b t has. let first = t.each 0 some_room in
    let r = room_elsewhere z a first.state first.moment first.alone (key_number key) (elsewhere_still (key_number key) v first.state has first.rooms) in
    ⊎_elim (λ (ne : state_of ((memory z a).rooms.pin r.0) ≢ OPEN). ne r.2) (λ (off : CoversKey key (span_in (memory z a).rooms r.0) → ⊥). off r.3) (t.each r.0 r.1).says)
    runs
