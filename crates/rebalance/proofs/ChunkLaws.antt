-- A chunk that a call comes to hold alone, and that it opens again.
use Rattle.std.proofs.Common.{◌≡◌, ℕ, ◌<◌, cond, Bool, List, [], ◌∷◌, length, map, sym, refl, ap, ◌∙◌, subst, inl, inr, arith, eq-eqb, ne_eqb, Option, Some, None, ⊎_elim}
use Rattle.pin_word.specs.PinWord.{state_of}
use Rattle.oak_model.specs.Counts.{one_at, total}
use Rattle.oak_model.specs.KeyNumber.{key_number}
use Rattle.oak_model.specs.Limits.{Sizes}
use Rattle.oak_model.proofs.Counting.{one_at-same, total_at}
use Rattle.oak_model.proofs.Lists.{at_map, begins_trans}
use Rattle.chunk_core.specs.declared.holds.HeldRoom.{HeldRoom}
use Rattle.chunk_core.specs.declared.holds.MovingRange.{MovingRange}
use Rattle.chunk_core.specs.declared.holds.RoomCopy.{RoomCopy}
use Rattle.chunk_core.specs.declared.holds.RoomHeldAs.TheVariants.{Frozen}
use Rattle.chunk_core.specs.declared.holds.RoomHolds.{RoomHolds}
use Rattle.chunk_core.specs.declared.states.TheConstants.{OPEN, FROZEN, HELD}
use Rattle.chunk_core.specs.RoomCopies.{copy_of, without_room}
use Rattle.chunk_core.specs.RoomRule.{in_room_state}
use Rattle.chunk_core.specs.RoomStep.{freeze_room, hold_room}
use Rattle.chunk_core.specs.Spans.{within, Span}
use Rattle.chunk_core.proofs.HeldRooms.{room_rows}
use Rattle.chunk_core.proofs.Weights.{open_none}
use Rattle.oak_core.specs.declared.states.PassState.{PassState}
use Rattle.oak_core.specs.AloneWords.{Runs}
use Rattle.oak_core.specs.Memory.{memory}
use Rattle.oak_core.specs.PassState.{rooms_held}
use Rattle.oak_core.specs.Step.{on_rooms}
use Rattle.oak_core.specs.Sweeping.{sweep}
use Rattle.oak_core.proofs.seats.AloneRuns.{Then, runs_as, runs_then}
use Rattle.oak_core.proofs.calls.CallSteps.{begins_same, met_both, met_none, step_in, step_since}
use Rattle.chunk_ops.specs.AskedRanges.{CoversKey}
use Rattle.chunk_ops.specs.PinRecords.{OnlyMeets, with_room_pin, room_pin}
use Rattle.chunk_ops.specs.RoomPins.{AddsRoomPin, DropsRoomPin, HadMoment, PinsOpen, Unpins}
use Rattle.chunk_ops.proofs.MeetingCalls.{stays_then}
use Rattle.chunk_ops.proofs.PinSteps.{pin_found}
use Rattle.rebalance.specs.Copies.{copy_span}
use Rattle.rebalance.specs.Chunks.{ComesBack, CompactsFront, HoldsFor, HoldsFront, HoldsPinned, LosesPinned, OpensFront, WorksBeside, held_row}
use Rattle.rebalance.specs.HeldTables.{AwayFromPins, HoldsOnlyRooms, WorksOnRooms}
use Rattle.rebalance.specs.Holding.{FindsChanged, FindsFrozen, FindsPinned, Freezes, Holds, LeavesUnfrozen, StandsBeside, SweepsBeside, Thaws, TriesBeside, with_moving}
use Rattle.rebalance.specs.LoneWords.{FreezesWords, LeavesBut, MovesWith, TakesRoom, held_by, no_room}
use Rattle.rebalance.proofs.BusyParts.{room_busy}
use Rattle.rebalance.proofs.Repeated.{repeats_within}
use Rattle.rebalance.proofs.ListedRows.{rows_total}
use Rattle.rebalance.proofs.LoneTakes.{front_or, pin_takes, pinned_takes, taken_works}
use Rattle.rebalance.specs.Repeating.{RepeatsIn}
use Rattle.rebalance.specs.Resting.{rests_both, rests_of, tries_of}
use Rattle.oak_core.specs.declared.sorting.SortSlot.{SortSlot}
use Rattle.chunk_core.specs.PinnedRooms.{span_of}
use Rattle.chunk_ops.specs.AddsAlone.{Never}
use Rattle.chunk_ops.specs.LoneRooms.{FreezesNone, HasElsewhere, NeverElsewhere, NeverUnfrozen}
use Rattle.rebalance.specs.Busy.{HoldsOff, IsBusyFor, SweepsOff}
use Rattle.rebalance.proofs.NeverRuns.{never_first, never_last, never_so, unless_first, unless_last}

-- ---- what a pass does beside its rooms

-- one part of a call behind another
pub works_both : (call : ℕ) (u v w : PassState) → WorksBeside call u v → WorksBeside call v w → WorksBeside call u w
works_both call u v w a b = record {
  met = met_both call u v w a.met b.met;
  numbers = b.numbers ∙ a.numbers;
  knowledge = b.knowledge ∙ a.knowledge;
  fulls = b.fulls ∙ a.fulls;
  swept = begins_trans u.findings.swept v.findings.swept w.findings.swept a.swept b.swept;
  sights = b.sights ∙ a.sights;
  gones = b.gones ∙ a.gones;
  blocks = b.blocks ∙ a.blocks;
  headers = b.headers ∙ a.headers;
}

-- none at all
pub works_none : (call : ℕ) (v : PassState) → WorksBeside call v v
works_none call v = record { met = met_none call v; numbers = refl; knowledge = refl; fulls = refl; swept = begins_same v.findings.swept v.findings.swept refl; sights = refl; gones = refl; blocks = refl; headers = refl }

-- one that swept nothing, and may have claimed rooms
pub works_of_tries : (call : ℕ) (v w : PassState) → TriesBeside call v w → WorksBeside call v w
works_of_tries call v w b = let s = b.stands in record {
  met = s.met;
  numbers = s.numbers;
  knowledge = s.knowledge;
  fulls = s.fulls;
  swept = begins_same v.findings.swept w.findings.swept s.swept;
  sights = s.sights;
  gones = s.gones;
  blocks = b.blocks;
  headers = b.headers;
}

-- and one that claimed none
pub works_of_stands : (call : ℕ) (v w : PassState) → StandsBeside call v w → WorksBeside call v w
works_of_stands call v w b = works_of_tries call v w (record { stands = tries_of call v w b.stands; blocks = b.blocks; headers = b.headers })

-- one that opened a room
pub works_of_sweeps : (call r : ℕ) (v w : PassState) → SweepsBeside call r v w → WorksBeside call v w
works_of_sweeps call r v w s = record {
  met = s.met;
  numbers = s.numbers;
  knowledge = s.knowledge;
  fulls = s.fulls;
  swept = (sweep (copy_of r v.rooms.held) (length v.findings.met), s.swept);
  sights = s.sights;
  gones = s.gones;
  blocks = s.blocks;
  headers = s.headers;
}

-- one that worked on words of its rooms
pub works_of_rooms : (z : Sizes) (call : ℕ) (v w : PassState) → WorksOnRooms z call v w → WorksBeside call v w
works_of_rooms z call v w h = works_of_stands call v w (record { stands = h.stands; blocks = h.blocks; headers = h.headers })

-- the number of a call is that of its pass
pub works_in : (first now : ℕ) (v w : PassState) → now ≡ first → WorksBeside now v w → WorksBeside first v w
works_in first now v w e b = subst (λ (k : ℕ). WorksBeside k v w) e b

-- ---- rooms that are not among those of a pass

-- where the room is none of them, all are left without it
pub without_none : (r : ℕ) (hs : List HeldRoom) → total (λ (h : HeldRoom). one_at h.room r) hs ≡ 0 → without_room r hs ≡ hs
unfolding total without_room
without_none r [] e = refl
without_none r (h ∷ hs) e = ap (λ (b : Bool). cond b (without_room r hs) (h ∷ without_room r hs)) (ne_eqb h.room r (λ q. let o = one_at-same h.room r q in let f : ⊥ = omega arith in f)) ∙ ap (λ (l : List HeldRoom). h ∷ l) (without_none r hs (omega arith))

-- so are those behind it
pub without_first : (r : ℕ) (h : HeldRoom) (hs : List HeldRoom) → h.room ≡ r → total (λ (x : HeldRoom). one_at x.room r) hs ≡ 0 → without_room r (h ∷ hs) ≡ hs
unfolding without_room
without_first r h hs is e = ap (λ (b : Bool). cond b (without_room r hs) (h ∷ without_room r hs)) (eq-eqb h.room r is) ∙ without_none r hs e

-- A room that a pass froze was none of those that it had: they were frozen or held, and it was open.
pub frozen_apart : (z : Sizes) (call r : ℕ) (v w : PassState) → Freezes z call r v w → total (λ (h : HeldRoom). one_at h.room r) v.rooms.held ≡ 0
unfolding room_rows
frozen_apart z call r v w f = let t = f.step.told in let u : PassState = f.step.from in let n : ℕ = (memory z t.table.words).rooms.pin r in let hs = map rooms_held t.table.states in let at = at_map rooms_held t.table.states t.seat u t.here in
    let is_open : state_of n ≡ OPEN = ap state_of (pin_found z call r (freeze_room r f.word) refl u f.step.number f.step.to t t.may.inside.0 ∙ f.was) ∙ f.opened in
    let a = total_at (in_room_state r FROZEN) hs t.seat u.rooms at in let b = total_at (in_room_state r HELD) hs t.seat u.rooms at in
    let p = t.rule.rooms.held r FROZEN (inl refl) in let q = t.rule.rooms.held r HELD (inr refl) in let x = open_none n FROZEN is_open (inl refl) in let y = open_none n HELD is_open (inr refl) in
    let sum = rows_total r u.rooms.held in
    subst (λ (c : RoomHolds). total (λ (h : HeldRoom). one_at h.room r) c.held ≡ 0) f.before.rooms (omega arith)

-- ---- a pinned room, frozen and held

-- the pass holds the room that it froze
pub holds_pinned : (z : Sizes) (call r : ℕ) (v a b u : PassState) → Freezes z call r v a → Unpins z call r a b → (w : RoomCopy) × (g : MovingRange) × Holds z call r w g b u → (w : RoomCopy) × (g : MovingRange) × HoldsPinned z call r w g v u
holds_pinned z call r v a b u f n h = let w : RoomCopy = h.0 in let g : MovingRange = h.1 in let p = h.2 in let apart = frozen_apart z call r v a f in (
  w,
  g,
  record {
    came = record {
      old = p.word;
      step = step_since z call (on_rooms (hold_room r p.word)) v b u (met_both call v a b f.beside.stands.met n.stands.met) p.step;
      found_is = p.was;
      copy_is = subst (λ (y : PassState). copy_of r y.rooms.held ≡ Some w) (sym p.last) p.has.copy;
      linked = p.linked;
    };
    last = p.last;
    copied = p.copy_is;
    beside = record {
      stands = rests_both call v b u (rests_both call v a b f.beside.stands (rests_of call a b n.stands)) p.beside.stands;
      blocks = p.beside.blocks ∙ (n.blocks ∙ f.beside.blocks);
      headers = p.beside.headers ∙ (n.headers ∙ f.beside.headers);
    };
    rooms = p.rooms
        ∙ (ap (with_moving r w g) (n.rooms ∙ ap (with_room_pin None) f.rooms)
        ∙ ap (λ (hs : List HeldRoom). record v.rooms { pin = None; held = held_row r w ∷ hs; moving = g ∷ v.rooms.moving }) (without_first r (record { room = r; held_as = Frozen }) v.rooms.held refl apart));
    apart = apart;
    whole = p.has.whole;
    mirrors = p.mirrors;
    origin = ap (λ (x : MovingRange). x.room) p.range_is;
    moment = p.ended;
    alone = runs_as (Then (Then (FreezesWords z v r) (DropsRoomPin z r)) (MovesWith z r FROZEN HELD w)) (TakesRoom z v r w) v u (λ x y s. pinned_takes z v r w f.step.told.may.inside.0 x s.1.0 s.0 y s.1.1 s.1.2 s.2)
        (runs_then (Then (FreezesWords z v r) (DropsRoomPin z r)) (MovesWith z r FROZEN HELD w) v b u (runs_then (FreezesWords z v r) (DropsRoomPin z r) v a b f.alone n.still) p.alone);
    ranged = runs_as (Then (Then (FreezesWords z v r) (DropsRoomPin z r)) (MovesWith z r FROZEN HELD w)) (λ _ _. copy_span w ≡ span_of (room_pin v)) v u
        (λ x y s. ap copy_span (sym (pinned_takes z v r w f.step.told.may.inside.0 x s.1.0 s.0 y s.1.1 s.1.2 s.2).words) ∙ s.1.1.ranged)
        (runs_then (Then (FreezesWords z v r) (DropsRoomPin z r)) (MovesWith z r FROZEN HELD w) v b u (runs_then (FreezesWords z v r) (DropsRoomPin z r) v a b f.alone n.still) p.alone);
  },
)

-- another pass had frozen it, or pinned it
pub loses_unfrozen : (z : Sizes) (call looks r : ℕ) (v a u : PassState) → LeavesUnfrozen z call looks r v a → Unpins z call r a u → LosesPinned z call looks r v u
loses_unfrozen z call looks r v a u f n = record {
  why = room_busy z call looks v v a u (met_none call v) n.stands.met r (⊎_elim (λ (x : FindsFrozen z call r v a). inl x) (λ (x : RepeatsIn (FindsChanged z call r) call looks v a). inr (inl x)) f.why);
  unpins = record {
    stands = rests_both call v a u f.only.stands (rests_of call a u n.stands);
    blocks = n.blocks ∙ f.only.blocks;
    headers = n.headers ∙ f.only.headers;
    rooms = n.rooms ∙ ap (with_room_pin None) f.only.rooms;
    ended = n.ended;
    still = stays_then (DropsRoomPin z r) v a u f.only.still n.still;
  };
  alone = unless_first (DropsRoomPin z r) (FreezesNone v) v a u f.alone n.still;
}

-- it was frozen, and pinned, and is open again
pub loses_thawed : (z : Sizes) (call looks r : ℕ) (v a b u : PassState) → Freezes z call r v a → Unpins z call r a b → Thaws z call looks r b u → LosesPinned z call looks r v u
loses_thawed z call looks r v a b u f n p = let met = met_both call v a b f.beside.stands.met n.stands.met in
    let never : Runs Never v u = never_last (Then (FreezesWords z v r) (DropsRoomPin z r)) v b u (runs_then (FreezesWords z v r) (DropsRoomPin z r) v a b f.alone n.still) p.alone in record {
      why = inr (inr (repeats_within (FindsPinned z call r) call looks v b u u met (met_none call u) p.pinned));
      unpins = record {
        stands = rests_both call v b u (rests_both call v a b f.beside.stands (rests_of call a b n.stands)) p.beside.stands;
        blocks = p.beside.blocks ∙ (n.blocks ∙ f.beside.blocks);
        headers = p.beside.headers ∙ (n.headers ∙ f.beside.headers);
        rooms = p.rooms
            ∙ (ap (λ (o : RoomHolds). record o { held = without_room r o.held }) (n.rooms ∙ ap (with_room_pin None) f.rooms)
            ∙ ap (λ (hs : List HeldRoom). record v.rooms { pin = None; held = hs }) (without_first r (record { room = r; held_as = Frozen }) v.rooms.held refl (frozen_apart z call r v a f)));
        ended = p.ended;
        still = never_so (DropsRoomPin z r) v u never;
      };
      alone = never_so (NeverUnfrozen v) v u never;
    }

-- ---- a try to hold the chunk of a key

-- no room was found that has it
pub back_moved : (z : Sizes) (call : ℕ) (v u : PassState) → OnlyMeets call v u → HadMoment z u → ComesBack z call v u
back_moved z call v u o had = record {
  beside = works_of_stands call v u (record { stands = rests_of call v u o.stands; blocks = o.blocks; headers = o.headers });
  claims = (rests_of call v u o.stands).claims;
  rooms = o.rooms;
  ended = had;
}

-- the pass has of rooms what it had, and that is no pin
pin_gone : (v : PassState) → HoldsOnlyRooms v → record v.rooms { pin = None } ≡ v.rooms
pin_gone v only = ap (λ (o : Option _). record v.rooms { pin = o }) (sym only.pin)

module _ (z : Sizes) (call looks r : ℕ) (key : List ℕ) (v x : PassState) (only : HoldsOnlyRooms v) (p : PinsOpen z call r (CoversKey key) v x) where
  pinned_beside : StandsBeside call v x
  pinned_beside = record { stands = rests_of call v x p.stands; blocks = p.blocks; headers = p.headers }

  -- the room was found, and another pass froze it
  pub back_lost : (u : PassState) → LosesPinned z call looks r x u → ComesBack z call v u
  back_lost u l = record {
    beside = works_both call v x u (works_of_stands call v x pinned_beside) (works_of_stands call x u (record { stands = l.unpins.stands; blocks = l.unpins.blocks; headers = l.unpins.headers }));
    claims = l.unpins.stands.claims ∙ pinned_beside.stands.claims;
    rooms = l.unpins.rooms ∙ (ap (with_room_pin None) p.rooms ∙ pin_gone v only);
    ended = l.unpins.ended;
  }

  -- why it could not be held
  pub busy_lost : (u : PassState) → LosesPinned z call looks r x u → IsBusyFor z call looks key v u
  busy_lost u l = inr (r, inl (room_busy z call looks v x u u p.stands.met (met_none call u) r l.why))

  pub swept_lost : (u : PassState) → LosesPinned z call looks r x u → SweepsOff z call key v u
  swept_lost u l = inl (l.unpins.stands.swept ∙ p.stands.swept)

  -- a pass that is alone, and has no room frozen, loses none
  pub alone_lost : (u : PassState) → LosesPinned z call looks r x u → Runs (NeverElsewhere (key_number key) v) v u
  alone_lost u l = unless_last (AddsRoomPin z r) (HasElsewhere (key_number key) v) (FreezesNone x) v x u (λ has q. ap (in_room_state q FROZEN) p.rooms ∙ has.frozen q) p.still l.alone

  -- the room is held in front of what the pass held

  module _ (y : PassState) (w : RoomCopy) (g : MovingRange) (h : HoldsPinned z call r w g x y) where
    -- what it has of rooms
    pub front_rooms : y.rooms ≡ record v.rooms { pin = None; held = held_row r w ∷ v.rooms.held; moving = g ∷ v.rooms.moving }
    front_rooms = h.rooms ∙ ap (λ (a : RoomHolds). record a { pin = None; held = held_row r w ∷ a.held; moving = g ∷ a.moving }) p.rooms

    front_beside : StandsBeside call v y
    front_beside = record { stands = rests_both call v x y (rests_of call v x p.stands) h.beside.stands; blocks = h.beside.blocks ∙ p.blocks; headers = h.beside.headers ∙ p.headers }

    -- it is the front room
    pub pinned_front : HoldsFront z r w g v.rooms.held v.rooms.moving y
    pinned_front = record {
      inside = p.has.inside;
      held = ap (λ (a : RoomHolds). a.held) front_rooms;
      moving = ap (λ (a : RoomHolds). a.moving) front_rooms;
      apart = subst (λ (a : RoomHolds). total (λ (k : HeldRoom). one_at k.room r) a.held ≡ 0) p.rooms h.apart;
      only = record {
        blocks = front_beside.blocks ∙ only.blocks;
        headers = front_beside.headers ∙ only.headers;
        pin = ap (λ (a : RoomHolds). a.pin) front_rooms;
        claim = ap (λ (a : RoomHolds). a.claim) front_rooms ∙ only.claim;
      };
      whole = h.whole;
      mirrors = h.mirrors;
      moment = h.moment;
    }

    -- where the pass is alone
    pinned_alone : Runs (TakesRoom z v r w) v y
    pinned_alone = runs_as (Then (AddsRoomPin z r) (TakesRoom z x r w)) (TakesRoom z v r w) v y
        (λ a b s. pin_takes z v x r w p.has.inside (λ n. record { held = ap (λ (o : RoomHolds). o.held) p.rooms ∙ n.held; moving = ap (λ (o : RoomHolds). o.moving) p.rooms ∙ n.moving }) (λ q m. subst (λ (o : RoomHolds). 0 < in_room_state q HELD o) p.rooms m) a s.0 b s.1 s.2)
        (runs_then (AddsRoomPin z r) (TakesRoom z x r w) v x y p.still h.alone)

    -- behind the look at its bounds
    module _ (q : PassState) (works : WorksOnRooms z call y q) (same : q.rooms ≡ y.rooms) where
      looked_beside : WorksBeside call v q
      looked_beside = works_both call v y q (works_of_stands call v y front_beside) (works_of_rooms z call y q works)

      -- it is so still
      pub looked_front : HoldsFront z r w g v.rooms.held v.rooms.moving q
      looked_front = let f = pinned_front in record {
        inside = f.inside;
        held = ap (λ (a : RoomHolds). a.held) same ∙ f.held;
        moving = ap (λ (a : RoomHolds). a.moving) same ∙ f.moving;
        apart = f.apart;
        only = record {
          blocks = works.blocks ∙ f.only.blocks;
          headers = works.headers ∙ f.only.headers;
          pin = works.pin ∙ f.only.pin;
          claim = works.claim ∙ f.only.claim;
        };
        whole = f.whole;
        mirrors = f.mirrors;
        moment = works.moment f.moment;
      }

      looked_alone : Runs (TakesRoom z v r w) v q
      looked_alone = taken_works z v y q r w (front_or v y r w pinned_front.held) pinned_alone works.words

      -- it is held for the key that its range has
      pub looked_for : within (copy_span w) (key_number key) ≡ 1 → HoldsFor z call key r w g v q
      looked_for inside = record {
        came = record {
          old = h.came.old;
          step = step_in z call (on_rooms (hold_room r h.came.old)) v x y q p.stands.met works.stands.met h.came.step;
          found_is = h.came.found_is;
          copy_is = h.came.copy_is;
          linked = h.came.linked;
        };
        copied = h.copied;
        still = subst (λ (s : PassState). AwayFromPins z s q) (sym h.last) works.away;
        inside = inside;
        beside = looked_beside;
        claims = works.stands.claims ∙ front_beside.stands.claims;
        front = looked_front;
        origin = h.origin;
        alone = looked_alone;
      }

      -- its range had not the key, and it was opened again, compacted
      module _ (xs : List SortSlot) (dropped : ℕ) (t u : PassState) (c : CompactsFront z call r dropped xs w v.rooms.held v.rooms.moving q t) (o : OpensFront z call r c.words v.rooms.held v.rooms.moving t u) (off : within (copy_span w) (key_number key) ≡ 1 → ⊥) where
        later : WorksBeside call y u
        later = works_both call y q u (works_of_rooms z call y q works) (works_both call q t u (works_of_rooms z call q t c.works) o.beside)

        -- to a pass that is alone it has the range that the pin found
        ranged_off : Runs Never x y
        ranged_off = runs_as (λ _ _. copy_span w ≡ span_of (room_pin x)) Never x y (λ a b e. off (subst (λ (s : Span). within s (key_number key) ≡ 1) (sym e) p.range)) h.ranged

        never_off : Runs Never v u
        never_off = never_first (MovesWith z r HELD OPEN c.words) v t u (never_first (LeavesBut z no_room (held_by q)) v q t (never_first (LeavesBut z no_room (held_by y)) v y q (never_last (AddsRoomPin z r) v x y p.still ranged_off) works.words) c.works.words) o.alone

        pub alone_off : Runs (NeverElsewhere (key_number key) v) v u
        alone_off = never_so (NeverElsewhere (key_number key) v) v u never_off

        held_off : HoldsOff z call key r v u
        held_off = record { copy = w; came = record { old = h.came.old; step = step_in z call (on_rooms (hold_room r h.came.old)) v x y u p.stands.met later.met h.came.step; found_is = h.came.found_is; copy_is = h.came.copy_is; linked = h.came.linked }; off = off }

        pub busy_off : IsBusyFor z call looks key v u
        busy_off = inr (r, inr held_off)

        pub swept_off : SweepsOff z call key v u
        swept_off = inr (r, held_off)

        pub back_off : ComesBack z call v u
        back_off = record {
          beside = works_both call v y u (works_of_stands call v y front_beside) later;
          claims = o.claims ∙ (c.works.stands.claims ∙ (works.stands.claims ∙ front_beside.stands.claims));
          rooms = o.rooms ∙ (λ i. record { pin = (c.front.only.pin ∙ sym only.pin) i; claim = (c.front.only.claim ∙ sym only.claim) i; held = v.rooms.held; moving = v.rooms.moving });
          ended = o.moment;
        }
