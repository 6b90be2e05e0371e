-- A call that splits the chunk of a key: it held that and nothing else, and read it.
use Rattle.std.proofs.Common.{◌≡◌, ◌≢◌, ℕ, ◌<◌, List, [], length, take, refl, sym, ap, ◌∙◌, subst, arith, length-take-le}
use Rattle.oak_model.specs.Counts.{Each}
use Rattle.oak_model.specs.Key.{AreBytes, IsKey}
use Rattle.oak_model.specs.Limits.{Sizes}
use Rattle.chunk_core.specs.declared.holds.HeldRoom.{HeldRoom}
use Rattle.chunk_core.specs.declared.holds.MovingRange.{MovingRange}
use Rattle.chunk_core.specs.declared.holds.RoomCopy.{RoomCopy}
use Rattle.chunk_core.specs.declared.holds.RoomHolds.{RoomHolds}
use Rattle.chunk_core.specs.declared.states.TheConstants.{HELD, OPEN}
use Rattle.chunk_core.specs.LinkedEntries.{entries_in}
use Rattle.chunk_core.specs.RoomStep.{open_room}
use Rattle.chunk_core.specs.ValueWord.{names_header}
use Rattle.oak_core.specs.declared.sorting.SortSlot.{SortSlot}
use Rattle.oak_core.specs.declared.states.PassState.{PassState}
use Rattle.oak_core.specs.AloneWords.{Runs}
use Rattle.oak_core.specs.PassState.{HoldsNothing}
use Rattle.oak_core.specs.Step.{on_rooms}
use Rattle.oak_core.proofs.seats.AloneRuns.{Then, runs_then}
use Rattle.oak_core.proofs.calls.CallSteps.{met_both}
use Rattle.rebalance.specs.declared.reading.Read.{Read}
use Rattle.rebalance.specs.Calls.{FindsNoRoom, Halves, Loosens}
use Rattle.rebalance.specs.Chunks.{CompactsFront, HoldsFor, HoldsFront, OpensFront, ReadsFront, WorksBeside}
use Rattle.rebalance.specs.Filled.{Fills}
use Rattle.rebalance.specs.Halving.{HasWhole, HoldsPair, OpensHalves}
use Rattle.rebalance.specs.HeldRooms.{AllValued}
use Rattle.rebalance.specs.HeldTables.{Apart, IsHeldRow, SeesValue, WorksOnRooms}
use Rattle.rebalance.specs.Holding.{Claims, ClaimsOthers, FindsNoneFree, HasOnly}
use Rattle.rebalance.specs.LoneWords.{LeavesBut, MovesWith, TakesRoom, held_by, no_room, runs_leave_both, runs_leave_none, stay_leaves}
use Rattle.rebalance.specs.Mirrors.{held_memory}
use Rattle.rebalance.proofs.ChunkLaws.{works_both, works_none, works_of_rooms, works_of_tries}
use Rattle.rebalance.proofs.FrontReads.{full_again, full_dropped, full_front, full_rooms, full_values, read_filled}
use Rattle.rebalance.proofs.HeldPairs.{claimed_pair, claimed_whole}
use Rattle.rebalance.proofs.LoneSplits.{halved_runs, open_runs}
use Rattle.rebalance.proofs.LoneTakes.{bare_of, front_or, taken_works}
use Rattle.rebalance.proofs.ReopenedChunks.{holds_until, lacks_room, leaves_rooms, loosened, opens_since, sweeps_since}
use Rattle.rebalance.proofs.WholeRooms.{claims_full, found_lacking}

module _ (z : Sizes) (call r : ℕ) (key : List ℕ) (w : RoomCopy) (g : MovingRange) (v0 v : PassState) (idle : HoldsNothing v0) (is : IsKey key) (bytes : AreBytes key) (p : HoldsFor z call key r w g v0 v) (u : PassState) (slots : List SortSlot) (x : Read) (reads : ReadsFront z call r slots x v u) where
  -- the chunk is all that the pass has
  pub split_front : HoldsFront z r w g [] [] v
  split_front = subst (λ (a : RoomHolds). HoldsFront z r w g a.held a.moving v) idle.rooms p.front

  none_behind : (Each AllValued v0.rooms.moving) × (Each (IsHeldRow z) v0.rooms.held) × Apart v0.rooms.held
  none_behind = subst (λ (a : RoomHolds). (Each AllValued a.moving) × (Each (IsHeldRow z) a.held) × Apart a.held) (sym idle.rooms) (tt, tt, tt)

  long : length (take x.kept slots) ≡ x.kept
  long = length-take-le x.kept slots reads.read.fits

  -- it was filled
  pub split_filled : (t : PassState) → WorksOnRooms z call u t → t.rooms.moving ≡ u.rooms.moving → Fills z.entries r (take x.kept slots) x.base (held_memory u.rooms.held) (held_memory t.rooms.held) → CompactsFront z call r x.dropped (take x.kept slots) w v0.rooms.held v0.rooms.moving v t
  split_filled t works ranges fills = let n = none_behind in read_filled z call r w g v0.rooms.held v0.rooms.moving v p.front u slots x reads n.0 n.1 n.2 t works ranges fills

  -- and opened again, with fewer entries than it may have
  pub split_loosens : (t e : PassState) (c : CompactsFront z call r x.dropped (take x.kept slots) w v0.rooms.held v0.rooms.moving v t) → OpensFront z call r c.words v0.rooms.held v0.rooms.moving t e → x.kept < z.entries → Loosens z call key v0 e
  split_loosens t e c o few = loosened z call r key w g v0 v idle is bytes p v t e (works_none call v) (runs_leave_none z no_room (held_by v) v) x.dropped (take x.kept slots) c o (let l = long in omega arith) (o.claims ∙ (c.works.stands.claims ∙ p.claims))

  -- the pass took it and read it
  split_taken : Runs (TakesRoom z v0 r w) v0 u
  split_taken = taken_works z v0 v u r w (front_or v0 v r w p.front.held) p.alone reads.works.words

  -- It was full, with a value in each entry.
  module _ (full : x.kept ≡ z.entries) where
    rooms_stay : u.rooms ≡ v.rooms
    rooms_stay = full_rooms z call r w g v0.rooms.held v0.rooms.moving v p.front u slots x reads full

    -- another room may be claimed
    pub split_only : HasOnly r u.rooms
    split_only = subst (HasOnly r) (sym rooms_stay) (record { pin = split_front.only.pin; held = subst (λ (l : List HeldRoom). Each (λ (h : HeldRoom). h.room ≡ r) l) (sym split_front.held) (refl, tt) })

    -- None was free.
    module _ (t : PassState) (none : FindsNoneFree z call r u t) where
      rooms_same : t.rooms ≡ v.rooms
      rooms_same = none.only.rooms ∙ rooms_stay

      -- it is held still
      pub none_front : HoldsFront z r w g v0.rooms.held v0.rooms.moving t
      none_front = full_front z call r w g v0.rooms.held v0.rooms.moving v p.front u slots x reads full t rooms_same (none.only.blocks ∙ reads.works.blocks) (none.only.headers ∙ reads.works.headers) (none.moment (reads.works.moment p.front.moment))

      -- and was filled then
      pub none_filled : (s : PassState) → WorksOnRooms z call t s → s.rooms.moving ≡ t.rooms.moving → Fills z.entries r (take x.kept slots) x.base (held_memory t.rooms.held) (held_memory s.rooms.held) → CompactsFront z call r 0 (take x.kept slots) w v0.rooms.held v0.rooms.moving t s
      none_filled s works ranges fills = let n = none_behind in subst (λ (d : ℕ). CompactsFront z call r d (take x.kept slots) w v0.rooms.held v0.rooms.moving t s) (full_dropped z call r w g v0.rooms.held v0.rooms.moving v p.front u slots x reads full)
          (read_filled z call r w g v0.rooms.held v0.rooms.moving t none_front t slots x (full_again z call r w g v0.rooms.held v0.rooms.moving v p.front u slots x reads full t rooms_same) n.0 n.1 n.2 s works ranges fills)

      since : WorksBeside call v t
      since = works_both call v u t (works_of_rooms z call v u reads.works) (works_of_tries call u t (record { stands = none.only.stands; blocks = none.only.blocks; headers = none.only.headers }))

      still : Runs (LeavesBut z no_room (held_by v)) v t
      still = runs_leave_both z no_room (held_by v) v u t reads.works.words (stay_leaves z no_room (held_by v) u t none.only.still)

      -- and opened again
      pub none_lacks : ClaimsOthers z r u t → ((i : ℕ) → i < entries_in ((held_memory v.rooms.held).count r) → 0 < (held_memory v.rooms.held).key r i → names_header ((held_memory v.rooms.held).value r i) ≡ 1 → SeesValue z r i v u) → (s e : PassState) (c : CompactsFront z call r 0 (take x.kept slots) w v0.rooms.held v0.rooms.moving t s) → OpensFront z call r c.words v0.rooms.held v0.rooms.moving s e → FindsNoRoom z call key v0 e
      none_lacks others sees s e c o = let later = met_both call t s e c.works.stands.met o.beside.met in
          lacks_room z call r key w g v0 v idle is bytes p t s e since still (take x.kept slots) c o (long ∙ full)
          (found_lacking z call r key w g v0 v p u slots x reads full sees e (met_both call u t e none.only.stands.met later) t none later)
          (claims_full z call r key w g v0 v p u slots x reads full t others e later (o.claims ∙ c.works.stands.claims))
          (open_runs z v0 r w p.front.inside (bare_of v0 idle) u t e (Then (LeavesBut z no_room (held_by t)) (MovesWith z r HELD OPEN c.words)) split_taken none.alone (runs_then (LeavesBut z no_room (held_by t)) (MovesWith z r HELD OPEN c.words) t s e c.works.words o.alone))

    -- One was claimed.
    module _ (q : ℕ) (other : q ≢ r) (c : RoomCopy) (t : PassState) (claim : Claims z call q c u t) where
      -- the pass holds both
      pub split_pair : HoldsPair z r q w c g t
      split_pair = claimed_pair z call r w g v split_front u rooms_stay reads.works.blocks reads.works.headers q other c t claim

      -- and has all entries of the chunk
      pub split_whole : HasWhole z r slots x t
      split_whole = claimed_whole z call r w g v split_front u rooms_stay reads.works.blocks reads.works.headers q other c t claim slots x reads full

      claimed_since : WorksBeside call v0 t
      claimed_since = works_both call v0 v t p.beside (works_both call v u t (works_of_rooms z call v u reads.works) (works_of_tries call u t claim.beside))

      -- and both were opened
      pub split_halves : ClaimsOthers z r u t → (e : PassState) → OpensHalves z call r q w t e → Halves z call key q v0 e
      split_halves others e o = let h = o.halved in let only = split_pair.only in record {
        room = r;
        held = w;
        holds = holds_until z call r w v0 v e (works_both call v t e (works_both call v u t (works_of_rooms z call v u reads.works) (works_of_tries call u t claim.beside)) o.beside) p.came;
        inside = p.inside;
        full = full_values z call r w g v0.rooms.held v0.rooms.moving v p.front u slots x reads full;
        low_copy = o.low_copy;
        high_copy = o.high_copy;
        opens_upper = opens_since z call q o.high_copy v0 t e claimed_since o.opens_upper;
        opens_lower = opens_since z call r o.low_copy v0 t e claimed_since o.opens_lower;
        first = o.first;
        cut = h.cut;
        low = h.low;
        high = h.high;
        bases = h.bases;
        kept = h.kept;
        linked = h.linked;
        lower = h.lower;
        higher = h.higher;
        swept = sweeps_since call key v0 t e claimed_since (o.sweeps key is bytes p.inside);
        leaves = leaves_rooms call v0 e (works_both call v0 t e claimed_since o.beside)
            (o.rooms ∙ ((λ i. record { pin = only.pin i; claim = only.claim i; held = []; moving = [] }) ∙ sym idle.rooms));
        claims = claims_full z call r key w g v0 v p u slots x reads full t others e o.beside.met o.claims;
        alone = halved_runs z v0 r w p.front.inside (bare_of v0 idle) q other c o.low_copy o.high_copy u t e call (on_rooms (open_room q)) (opens_since z call q o.high_copy v0 t e claimed_since o.opens_upper).step (record { held = ap (λ (a : RoomHolds). a.held) o.rooms; moving = ap (λ (a : RoomHolds). a.moving) o.rooms }) o.moment split_taken claim.alone o.alone;
      }
