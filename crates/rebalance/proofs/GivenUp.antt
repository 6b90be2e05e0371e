-- A call that waits: one that answered, behind others that gave up.
use Rattle.std.proofs.Common.{◌≡◌, ℕ, ◌⊎◌, inl, inr, ⊎_elim, List, length, refl, sym, ap, ◌∙◌, subst, arith, length-append}
use Rattle.oak_model.specs.KeyNumber.{key_number}
use Rattle.oak_model.specs.Limits.{Sizes}
use Rattle.chunk_core.specs.declared.holds.RoomCopy.{RoomCopy}
use Rattle.chunk_core.specs.RoomStep.{hold_room, open_room, retire_room}
use Rattle.oak_core.specs.declared.states.PassState.{PassState}
use Rattle.oak_core.specs.AloneWords.{Runs}
use Rattle.oak_core.specs.PassState.{HoldsNothing}
use Rattle.oak_core.specs.RoomLacks.{ClaimsFull, HeldFull, RoomLackFound}
use Rattle.oak_core.specs.Step.{on_rooms}
use Rattle.oak_core.proofs.calls.CallSteps.{met_none, step_since}
use Rattle.oak_core.proofs.covers.FullClaims.{claims_both, claims_none}
use Rattle.chunk_ops.specs.AddsAlone.{Never}
use Rattle.chunk_ops.specs.LoneRooms.{HasElsewhere, NeverElsewhere}
use Rattle.chunk_ops.proofs.LoneRoomLaws.{bare_elsewhere}
use Rattle.rebalance.specs.Busy.{GivesUpRewriting, GivesUpMerging, IsBusyAbove, IsBusyAt, IsBusyFor, SweepsOff}
use Rattle.rebalance.specs.Calls.{ComesToHold, Compacts, FindsNoRoom, Halves, HasMuchAbove, IsLast, Leaves, Loosens, Merges, OpensWith, Rewrites, StaysApart}
use Rattle.rebalance.specs.Chunks.{ComesBack}
use Rattle.rebalance.specs.LoneCalls.{AllOpen, Divided, HalvesRoom, JoinsRooms, RewritesBoth, RewritesRoom}
use Rattle.rebalance.proofs.BusyParts.{chunk_busy}
use Rattle.rebalance.proofs.ClaimedRooms.{used_since}
use Rattle.rebalance.proofs.LoneTakes.{bare_of}
use Rattle.rebalance.proofs.NeverRuns.{never_first, never_so, unless_never}
use Rattle.rebalance.proofs.SettledKeys.{idle_still, leaves_both, leaves_none, none_written}
use Rattle.rebalance.proofs.SweptKeys.{sweeps_since}
use Rattle.rebalance.proofs.TakenChunks.{leaves_of}

-- a call that could not hold the chunk
pub gives_up : (z : Sizes) (call looks : ℕ) (key : List ℕ) (v u : PassState) → HoldsNothing v → ComesBack z call v u → IsBusyFor z call looks key v u → SweepsOff z call key v u → Runs (NeverElsewhere (key_number key) v) v u → GivesUpRewriting z call looks key v u
gives_up z call looks key v u idle c b s a = let l = leaves_of call v u c.beside c.rooms in record { busy = b; swept = s; leaves = l; unclaimed = c.claims; unwritten = none_written call v u l; idle = idle_still call v u idle l; alone = unless_never (HasElsewhere (key_number key) v) v u (bare_elsewhere (key_number key) v (bare_of v idle)) a }

-- or the lower one of two
pub gives_up_lower : (z : Sizes) (call looks : ℕ) (key : List ℕ) (v u : PassState) → GivesUpRewriting z call looks key v u → GivesUpMerging z call looks key v u
gives_up_lower z call looks key v u g = record { busy = inl g.busy; leaves = g.leaves; unclaimed = g.unclaimed; unwritten = g.unwritten; idle = g.idle; alone = g.alone }

-- ---- calls that gave up one behind another

-- there may be none of them
pub record Waits (call : ℕ) (v w : PassState) : Type 0 where
  pub leaves : Leaves call v w
  pub unclaimed : w.findings.rebalances.claims ≡ v.findings.rebalances.claims
  -- to a pass that is alone
  pub alone : (v ≡ w) ⊎ Runs Never v w

pub waits_none : (call : ℕ) (v : PassState) → Waits call v v
waits_none call v = record { leaves = leaves_none call v; unclaimed = refl; alone = inl refl }

-- what is so of a part is so behind them
pub alone_since : (call : ℕ) (Q : List ℕ → List ℕ → Type 0) (u v w : PassState) → Waits call u v → Runs Q v w → Runs Q u w
alone_since call Q u v w x r = ⊎_elim (λ (e : u ≡ v). subst (λ (y : PassState). Runs Q y w) (sym e) r) (λ (n : Runs Never u v). never_so Q u w (never_first Q u v w n r)) x.alone

-- one more
pub waits_more : (call : ℕ) (u v w : PassState) → Waits call u v → Leaves call v w → w.findings.rebalances.claims ≡ v.findings.rebalances.claims → Runs Never v w → Waits call u w
waits_more call u v w x l unclaimed never = record { leaves = leaves_both call u v w x.leaves l; unclaimed = unclaimed ∙ x.unclaimed; alone = inr (alone_since call Never u v w x never) }

-- ---- what a part of a call did, behind another that left all else

module _ (z : Sizes) (call : ℕ) (u v w : PassState) (first : Leaves call u v) where
  pub holds_since : (r : ℕ) (copy : RoomCopy) → ComesToHold z call r copy v w → ComesToHold z call r copy u w
  holds_since r copy c = record { old = c.old; step = step_since z call (on_rooms (hold_room r c.old)) u v w first.met c.step; found_is = c.found_is; copy_is = c.copy_is; linked = c.linked }

  pub opens_since : (r : ℕ) (copy : RoomCopy) → OpensWith z call r copy v w → OpensWith z call r copy u w
  opens_since r copy o = record { step = step_since z call (on_rooms (open_room r)) u v w first.met o.step; copy_is = o.copy_is }

  pub rewrites_since : (key : List ℕ) (r : ℕ) (held opened : RoomCopy) → Rewrites z call key r held opened v w → Rewrites z call key r held opened u w
  rewrites_since key r held opened c = record {
    holds = holds_since r held c.holds;
    inside = c.inside;
    opens = opens_since r opened c.opens;
    low = c.low;
    high = c.high;
    kept = c.kept;
    linked = c.linked;
    base = c.base;
    sorted = c.sorted;
    swept = sweeps_since call key u v w first.swept first.met c.swept;
  }

  -- it found one of two chunks busy
  pub busy_since : (looks : ℕ) (key : List ℕ) → IsBusyAt z call looks key v w → IsBusyAt z call looks key u w
  busy_since looks key = ⊎_elim (λ (b : IsBusyFor z call looks key v w). inl (chunk_busy z call looks u v w w first.met (met_none call w) key b))
      (λ (b : IsBusyAbove z call looks key v w). inr record {
        room = b.room;
        held = b.held;
        opened = b.opened;
        rewrites = rewrites_since key b.room b.held b.opened b.rewrites;
        above = b.above;
        begins = b.begins;
        busy = chunk_busy z call looks u v w w first.met (met_none call w) b.above b.busy;
      })

-- ---- what a call answers behind others that gave up

module _ (z : Sizes) (call : ℕ) (u v w : PassState) (x : Waits call u v) where
  claims_since : Leaves call v w → ClaimsFull z v w → ClaimsFull z u w
  claims_since l c = claims_both z u v w (x.leaves.met.more, x.leaves.met.met) (l.met.more, l.met.met) (claims_none z u v x.unclaimed) c

  pub compacts_since : (key : List ℕ) (dropped : ℕ) → Compacts z call key dropped v w → Compacts z call key dropped u w
  compacts_since key dropped c = record {
    room = c.room;
    held = c.held;
    opened = c.opened;
    rewrites = rewrites_since z call u v w x.leaves key c.room c.held c.opened c.rewrites;
    count_is = c.count_is;
    leaves = leaves_both call u v w x.leaves c.leaves;
    claims = claims_since c.leaves c.claims;
    alone = alone_since call (Divided z (RewritesRoom z c.room c.held c.opened)) u v w x c.alone;
  }

  pub loosens_since : (key : List ℕ) → Loosens z call key v w → Loosens z call key u w
  unfolding compacts_since
  loosens_since key c = record { dropped = c.dropped; compacts = compacts_since key c.dropped c.compacts; fewer = c.fewer; unclaimed = c.unclaimed ∙ x.unclaimed }

  pub halves_since : (key : List ℕ) (upper : ℕ) → Halves z call key upper v w → Halves z call key upper u w
  unfolding opens_since
  halves_since key upper c = record {
    room = c.room;
    held = c.held;
    holds = holds_since z call u v w x.leaves c.room c.held c.holds;
    inside = c.inside;
    full = c.full;
    low_copy = c.low_copy;
    high_copy = c.high_copy;
    opens_upper = opens_since z call u v w x.leaves upper c.high_copy c.opens_upper;
    opens_lower = opens_since z call u v w x.leaves c.room c.low_copy c.opens_lower;
    first = c.first;
    cut = c.cut;
    low = c.low;
    high = c.high;
    bases = c.bases;
    kept = c.kept;
    linked = c.linked;
    lower = c.lower;
    higher = c.higher;
    swept = sweeps_since call key u v w x.leaves.swept x.leaves.met c.swept;
    leaves = leaves_both call u v w x.leaves c.leaves;
    claims = claims_since c.leaves c.claims;
    alone = alone_since call (Divided z (HalvesRoom z c.room upper c.held c.low_copy c.high_copy)) u v w x c.alone;
  }

  -- what a part of the call found of a full room
  full_since : (to r k : ℕ) → HeldFull z (length v.findings.met) to w.findings.met r k → HeldFull z (length u.findings.met) to w.findings.met r k
  full_since to r k h = record {
    held = h.held;
    after = let a = h.after in let e = ap length x.leaves.met.met in let l = length-append u.findings.met x.leaves.met.more in omega arith;
    order = h.order;
    hold = h.hold;
    there = h.there;
    word_is = h.word_is;
    number = h.number;
    found_is = h.found_is;
    frozen = h.frozen;
    unpinned = h.unpinned;
    left_is = h.left_is;
    still = h.still;
    full = h.full;
  }

  lacks_since : (k : ℕ) → RoomLackFound z (length v.findings.met) (length w.findings.met) w.findings.met k → RoomLackFound z (length u.findings.met) (length w.findings.met) w.findings.met k
  unfolding full_since
  lacks_since k c = record {
    room = c.room;
    inside = c.inside;
    whole = record { to = c.whole.to; within = c.whole.within; holds = full_since c.whole.to c.room k c.whole.holds; values = c.whole.values };
    others = λ r lt ne. used_since z call r u v w x.leaves.met (c.others r lt ne);
  }

  pub none_since : (key : List ℕ) → FindsNoRoom z call key v w → FindsNoRoom z call key u w
  unfolding compacts_since
  none_since key c = record {
    compacts = compacts_since key 0 c.compacts;
    full = c.full;
    base = c.base;
    lacks = lacks_since (key_number key) c.lacks;
    all_open = alone_since call (AllOpen z) u v w x c.all_open;
  }

  pub merges_since : (key : List ℕ) → Merges z call key v w → Merges z call key u w
  unfolding holds_since opens_since
  merges_since key m = record {
    room = m.room;
    other = m.other;
    held = m.held;
    next = m.next;
    holds = holds_since z call u v w x.leaves m.room m.held m.holds;
    holds_next = holds_since z call u v w x.leaves m.other m.next m.holds_next;
    inside = m.inside;
    above = m.above;
    few = m.few;
    retires = step_since z call (on_rooms (retire_room m.other)) u v w x.leaves.met m.retires;
    opened = m.opened;
    opens = opens_since z call u v w x.leaves m.room m.opened m.opens;
    low = m.low;
    high = m.high;
    base = m.base;
    kept = m.kept;
    linked = m.linked;
    sorted = m.sorted;
    swept = sweeps_since call key u v w x.leaves.swept x.leaves.met m.swept;
    leaves = leaves_both call u v w x.leaves m.leaves;
    unclaimed = m.unclaimed ∙ x.unclaimed;
    claims = claims_since m.leaves m.claims;
    alone = alone_since call (Divided z (JoinsRooms z m.room m.other m.held m.next m.opened)) u v w x m.alone;
  }

  pub stays_since : (key : List ℕ) → StaysApart z call key v w → StaysApart z call key u w
  stays_since key s = record {
    room = s.room;
    held = s.held;
    opened = s.opened;
    rewrites = rewrites_since z call u v w x.leaves key s.room s.held s.opened s.rewrites;
    leaves = leaves_both call u v w x.leaves s.leaves;
    unclaimed = s.unclaimed ∙ x.unclaimed;
    claims = claims_since s.leaves s.claims;
    ended = s.ended;
    why = ⊎_elim (λ (l : IsLast z s.room s.held s.opened v w). inl record { last = l.last; alone = alone_since call (Divided z (RewritesRoom z s.room s.held s.opened)) u v w x l.alone })
        (λ (m : HasMuchAbove z call s.room s.held s.opened v w). inr record {
          other = m.other;
          next = m.next;
          reopened = m.reopened;
          key = m.key;
          begins = m.begins;
          rewrites = rewrites_since z call u v w x.leaves m.key m.other m.next m.reopened m.rewrites;
          above = m.above;
          many = m.many;
          alone = alone_since call (Divided z (RewritesBoth z s.room m.other s.held s.opened m.next m.reopened)) u v w x m.alone;
        })
        s.why;
  }
