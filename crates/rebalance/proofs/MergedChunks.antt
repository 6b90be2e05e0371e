-- What becomes of two chunks that a call took: they stay apart, or they are one.
use Rattle.std.proofs.Common.{◌≡◌, ◌≢◌, ℕ, ◌+◌, ◌*◌, ◌/◌, ◌<◌, ◌≤◌, inl, inr, List, [], sym, refl, ap, ◌∙◌, subst, arith, Option, Some, None, Result, Ok, Err}
use lib.ListN.{get_elem?}
use Rattle.oak_model.specs.Key.{AreBytes, IsKey}
use Rattle.oak_model.specs.KeyNumber.{key_number}
use Rattle.oak_model.specs.Limits.{Sizes}
use Rattle.oak_model.specs.Counts.{total}
use Rattle.oak_model.proofs.Counting.{one_at-same, total_append}
use Rattle.chunk_core.specs.declared.holds.Carried.{Carried}
use Rattle.chunk_core.specs.declared.holds.EntryWords.{EntryWords}
use Rattle.chunk_core.specs.declared.states.TheConstants.{HELD, OPEN}
use Rattle.chunk_core.specs.KeyWords.{high_bytes, high_number, low_number}
use Rattle.chunk_core.specs.MovingRanges.{greater, joined_by}
use Rattle.chunk_core.specs.RoomCopies.{entries_held}
use Rattle.chunk_core.specs.RoomStep.{open_room, retire_room}
use Rattle.chunk_core.specs.Spans.{within}
use Rattle.chunk_core.specs.ValueWord.{names_header}
use Rattle.chunk_core.proofs.SpanLaws.{within-le}
use Rattle.oak_core.specs.declared.sorting.SortSlot.{SortSlot}
use Rattle.oak_core.specs.declared.states.PassState.{PassState}
use Rattle.oak_core.specs.AloneWords.{Runs}
use Rattle.oak_core.specs.PassState.{HoldsNothing}
use Rattle.oak_core.specs.Step.{on_rooms}
use Rattle.oak_core.proofs.calls.CallSteps.{step_in}
use Rattle.oak_core.proofs.covers.FullClaims.{claims_none}
use Rattle.rebalance.specs.declared.answers.Busy.{Busy}
use Rattle.rebalance.specs.declared.chunk_pairs.Merged.{Merged}
use Rattle.rebalance.specs.declared.chunk_pairs.Merged.TheVariants.{Joined, Apart}
use Rattle.rebalance.specs.declared.chunk_pairs.Taken.{Taken}
use Rattle.chunk_ops.specs.LoneRooms.{HasElsewhere, HasNoRoom, NeverElsewhere}
use Rattle.rebalance.specs.Busy.{GivesUpMerging, IsBusyFor}
use Rattle.rebalance.specs.Calls.{IsSorted, Merges, Rewrites}
use Rattle.rebalance.specs.Copies.{base_without, copy_span, linked_held}
use Rattle.rebalance.specs.Chunks.{ComesBack, HoldsFront, OpensFront, WorksBeside}
use Rattle.rebalance.specs.HeldTables.{WorksOnRooms}
use Rattle.rebalance.specs.LoneCalls.{JoinsRooms, RewritesBoth}
use Rattle.rebalance.specs.LoneWords.{MovesWith, TakesRoom}
use Rattle.rebalance.specs.Merging.{ApartUpTo, JoinsPair, TakesChunk}
use Rattle.rebalance.specs.Mirrors.{range_span}
use Rattle.rebalance.proofs.LinkedCopies.{linked_are}
use Rattle.rebalance.proofs.BusyParts.{chunk_busy}
use Rattle.rebalance.proofs.ChunkLaws.{works_both, works_none, works_of_rooms}
use Rattle.rebalance.proofs.JoinedRanges.{spans}
use Rattle.rebalance.proofs.LoneChunks.{divided_runs, step_apart}
use Rattle.rebalance.proofs.LoneTakes.{bare_of, bare_still, front_or, lone_rewrites, taken_works}
use Rattle.rebalance.proofs.NeverRuns.{never_first, never_last, unless_never}
use Rattle.rebalance.proofs.NeighbourChunks.{pair_above, pair_below, pair_front}
use Rattle.rebalance.proofs.RangeKeys.{high_number-is, number_of}
use Rattle.rebalance.proofs.RangesStand.{range_stands}
use Rattle.rebalance.proofs.SettledKeys.{idle_still, none_written}
use Rattle.rebalance.proofs.SweptKeys.{high_are_bytes, sweeps_since, sweeps_until}
use Rattle.rebalance.proofs.SweptRooms.{mirrors_valued}
use Rattle.rebalance.proofs.TakenChunks.{end_elsewhere, end_is_key, front_back, front_kept, held_in, inside_still, leaves_of, none_left, opened_rewrites, opened_sweeps, opens_since}
use Rattle.rebalance.proofs.TwoHeldRooms.{joins_rooms, rewrites_both}

-- what is no key is none
pub none_of : (o : Option (List ℕ)) → ((x : List ℕ) → o ≡ Some x → ⊥) → o ≡ None
none_of None n = refl
none_of (Some x) n = absurd (n x refl)

-- the key at which the chunk above begins, where the two stay apart
abbrev pub apart_of : Result Merged Busy → Option (List ℕ)
apart_of (Ok Joined) = None
apart_of (Ok (Apart high)) = high
apart_of (Err b) = None

module _ (z : Sizes) (call : ℕ) (key : List ℕ) (low : Taken) (ys : List SortSlot) (v a : PassState) (idle : HoldsNothing v) (lower : TakesChunk z call key low ys v a) (q : PassState) (works : WorksOnRooms z call a q) (front : HoldsFront z low.room lower.words lower.range [] [] q) (bytes : AreBytes key) (is : IsKey key) where
  looked : WorksBeside call a q
  looked = works_of_rooms z call a q works

  -- the pass had no room
  bare : HasNoRoom v
  bare = bare_of v idle

  -- the first chunk is taken, and its high bound was looked at
  takes : Runs (TakesRoom z v low.room lower.held) v q
  takes = taken_works z v a q low.room lower.held (front_or v a low.room lower.words lower.front.held) lower.alone works.words

  -- no range is above the first one, which was opened again
  module _ (u : PassState) (o : OpensFront z call low.room lower.words [] [] q u) (end : high_bytes lower.words.high ≡ None) where
    pub apart_alone : ApartUpTo z call key None v u
    apart_alone = let k = opened_rewrites z call key low ys v a idle lower q front looked u o bytes is in let r = k.0 in let l = k.1 in record {
      stays = record {
        room = low.room;
        held = lower.held;
        opened = lower.words;
        rewrites = r;
        leaves = l;
        unclaimed = o.claims ∙ (works.stands.claims ∙ lower.claims);
        claims = claims_none z v u (o.claims ∙ (works.stands.claims ∙ lower.claims));
        ended = o.moment;
        why = inl (record {
          last = ap high_number (sym lower.rewritten.high) ∙ (high_number-is lower.words.high ∙ ap number_of end);
          alone = lone_rewrites z v q u low.room lower.held lower.words front.inside bare (bare_still v u bare l.rooms) o.moment (step_apart z call (on_rooms (open_room low.room)) v u r.opens.step) takes o.alone;
        });
      };
      ends = ap high_bytes (sym lower.rewritten.high) ∙ end;
      sweeps = opened_sweeps z call key low ys v a idle lower q front looked u o bytes is None end;
    }

  -- the one above it was busy, and the first one was opened again
  module _ (looks : ℕ) (h : List ℕ) (end : high_bytes lower.words.high ≡ Some h) (b u : PassState) (back : ComesBack z call q b) (busy : IsBusyFor z call looks h q b) (never : Runs (NeverElsewhere (key_number h) q) q b) (o : OpensFront z call low.room lower.words [] [] b u) where
    to_back : WorksBeside call a b
    to_back = works_both call a q b looked back.beside

    pub busy_above : GivesUpMerging z call looks key v u
    busy_above = let k = opened_rewrites z call key low ys v a idle lower b (front_kept z call low.room lower.words lower.range [] [] q b front back) to_back u o bytes is in record {
      busy = inr (record {
        room = low.room;
        held = lower.held;
        opened = lower.words;
        rewrites = k.0;
        above = h;
        begins = ap high_bytes (sym lower.rewritten.high) ∙ end;
        busy = chunk_busy z call looks v q b u (works_both call v a q lower.beside looked).met o.beside.met h busy;
      });
      leaves = k.1;
      unclaimed = o.claims ∙ (back.claims ∙ (works.stands.claims ∙ lower.claims));
      unwritten = none_written call v u k.1;
      idle = idle_still call v u idle k.1;
      alone = never_first (MovesWith z low.room HELD OPEN lower.words) v b u
          (never_last (TakesRoom z v low.room lower.held) v q b takes
          (unless_never (HasElsewhere (key_number h) q) q b (end_elsewhere z low.room lower.words lower.range q (key_number h) front (ap high_number (sym front.mirrors.high) ∙ (high_number-is lower.words.high ∙ ap number_of end))) never))
          o.alone;
    }

  -- the one above it was taken too
  module _ (h : List ℕ) (end : high_bytes lower.words.high ≡ Some h) (up : Taken) (xs : List SortSlot) (b : PassState) (upper : TakesChunk z call h up xs q b) where
    to_upper : WorksBeside call a b
    to_upper = works_both call a q b looked upper.beside

    to_both : WorksBeside call v b
    to_both = works_both call v a b lower.beside to_upper

    -- no room was claimed
    taken_unclaimed : b.findings.rebalances.claims ≡ v.findings.rebalances.claims
    taken_unclaimed = upper.claims ∙ (works.stands.claims ∙ lower.claims)

    -- the two are not one room
    rooms_apart : up.room ≢ low.room
    unfolding total
    rooms_apart e = let n = (pair_front z call key h low up ys xs v a q b lower front upper end).apart in let k = one_at-same low.room up.room (sym e) in absurd (omega arith)

    -- both were opened again
    module _ (d u : PassState) (n : OpensFront z call up.room upper.words q.rooms.held q.rooms.moving b d) (o : OpensFront z call low.room lower.words [] [] d u) where
      front_again : HoldsFront z low.room lower.words lower.range [] [] d
      front_again = front_back z call low.room up.room lower.words upper.words lower.range upper.range [] [] q b d front upper.front n

      between : WorksBeside call a d
      between = works_both call a b d to_upper n.beside

      -- the upper one begins at the key still
      upper_inside : within (copy_span upper.words) (key_number h) ≡ 1
      upper_inside = subst (λ (p : List ℕ × List ℕ). within (record { low = low_number p.0; high = high_number p.1; base = 0 }) (key_number h) ≡ 1) (λ i. (sym upper.rewritten.low i, sym upper.rewritten.high i)) upper.inside

      -- and was rewritten too
      upper_rewrites : Rewrites z call h up.room upper.held upper.words v u
      upper_rewrites = record {
        holds = held_in z call up.room upper.held v q b u (works_both call v a q lower.beside looked) (works_both call b d u n.beside o.beside) upper.came;
        inside = upper.inside;
        opens = record { step = step_in z call (on_rooms (open_room up.room)) v b d u to_both.met o.beside.met n.opens.step; copy_is = n.opens.copy_is };
        low = upper.rewritten.low;
        high = upper.rewritten.high;
        kept = upper.rewritten.kept;
        linked = upper.rewritten.linked;
        base = upper.rewritten.base;
        sorted = upper.rewritten.sorted;
        swept = sweeps_until call h v d u
            (sweeps_since call h v b d to_both.swept to_both.met (n.sweeps (mirrors_valued z upper.words upper.range upper.front.mirrors upper.rewritten.linked upper.has.valued) h (end_is_key z call key low ys v a idle lower h end) (high_are_bytes lower.words.high h end) upper_inside))
            o.beside.swept o.beside.met;
      }

      pub apart_full : z.entries / 2 < low.kept + up.kept → ApartUpTo z call key (Some h) v u
      apart_full many = let k = opened_rewrites z call key low ys v a idle lower d front_again between u o bytes is in let r = k.0 in let l = k.1 in record {
        stays = record {
          room = low.room;
          held = lower.held;
          opened = lower.words;
          rewrites = r;
          leaves = l;
          unclaimed = o.claims ∙ (n.claims ∙ taken_unclaimed);
          claims = claims_none z v u (o.claims ∙ (n.claims ∙ taken_unclaimed));
          ended = o.moment;
          why = inr (record {
            other = up.room;
            next = upper.held;
            reopened = upper.words;
            key = h;
            begins = ap high_bytes (sym lower.rewritten.high) ∙ end;
            rewrites = upper_rewrites;
            above = pair_above z call key h low up ys xs v a q b lower front upper end;
            many = let e = lower.kept_is in let f = upper.kept_is in omega (arith, many);
            alone = divided_runs z (RewritesBoth z low.room up.room lower.held lower.words upper.held upper.words) v u (step_apart z call (on_rooms (open_room low.room)) v u r.opens.step) (bare_still v u bare l.rooms) o.moment
                (rewrites_both z low.room up.room front.inside upper.front.inside rooms_apart lower.held upper.held lower.words v q b bare takes front.held upper.alone upper.words lower.words d u n.alone o.alone);
          });
        };
        ends = ap high_bytes (sym lower.rewritten.high) ∙ end;
        sweeps = opened_sweeps z call key low ys v a idle lower d front_again between u o bytes is (Some h) end;
      }

    -- they were joined, and opened as one
    module _ (d u : PassState) (joins : JoinsPair z call low up lower.range upper.range b d) (o : OpensFront z call low.room joins.opened [] [] d u) where
      all : WorksBeside call v u
      all = works_both call v b u to_both (works_both call b d u joins.beside o.beside)

      -- the range of both has the key
      joined_inside : within (copy_span joins.opened) (key_number key) ≡ 1
      joined_inside = let m = joins.front.mirrors in let f = pair_front z call key h low up ys xs v a q b lower front upper end in
          let s = spans upper.range lower.range (range_stands z b f.moment 0 upper.range (ap (λ gs. get_elem? gs 0) f.moving)) (range_stands z b f.moment 1 lower.range (ap (λ gs. get_elem? gs 1) f.moving)) (pair_below z call key h low up ys xs v a q b lower front upper end) (key_number key) in
          let l = within-le (range_span (joined_by upper.range lower.range)) (key_number key) in
          let i : within (range_span lower.range) (key_number key) ≡ 1 = subst (λ (p : List ℕ × List ℕ). within (record { low = low_number p.0; high = high_number p.1; base = 0 }) (key_number key) ≡ 1) (λ i. (lower.front.mirrors.low i, lower.front.mirrors.high i)) (inside_still z call key low ys v a idle lower) in
          let j : within (range_span (joined_by upper.range lower.range)) (key_number key) ≡ 1 = omega arith in
          subst (λ (p : List ℕ × List ℕ). within (record { low = low_number p.0; high = high_number p.1; base = 0 }) (key_number key) ≡ 1) (λ i. (sym m.low i, sym m.high i)) j

      -- the pass has no room again
      idle_again : u.rooms ≡ v.rooms
      idle_again = none_left z call low.room joins.opened (joined_by upper.range lower.range) v d u idle joins.front o

      -- its base is the greater one
      base_is : joins.opened.base ≡ greater (base_without upper.held) (base_without lower.held)
      base_is = let x = sym upper.front.mirrors.base ∙ upper.rewritten.base in let y = sym lower.front.mirrors.base ∙ lower.rewritten.base in joins.front.mirrors.base ∙ (λ i. greater (x i) (y i))

      -- it has the entries of both that had a value
      both_kept : (f : ℕ → ℕ → ℕ) → total (λ (e : EntryWords). f e.word e.value) (entries_held joins.opened) ≡ total (λ (e : EntryWords). names_header e.value * f e.word e.value) (linked_held lower.held) + total (λ (e : EntryWords). names_header e.value * f e.word e.value) (linked_held upper.held)
      both_kept f = let x = joins.front.mirrors.entries f in let t = total_append (λ (c : Carried). f c.word c.value) lower.range.carried upper.range.carried in
          let m = lower.front.mirrors.entries f in let n = upper.front.mirrors.entries f in let i = lower.rewritten.kept f in let j = upper.rewritten.kept f in
          let F : EntryWords → ℕ = λ e. f e.word e.value in let p = ap (total F) (linked_are joins.opened joins.linked) in let q = ap (total F) (linked_are lower.words lower.rewritten.linked) in let r = ap (total F) (linked_are upper.words upper.rewritten.linked) in omega arith

      pub merged_chunks : low.kept + up.kept ≤ z.entries / 2 → Merges z call key v u
      merged_chunks few = let e = lower.kept_is in let f = upper.kept_is in record {
        room = low.room;
        other = up.room;
        held = lower.held;
        next = upper.held;
        holds = held_in z call low.room lower.held v v a u (works_none call v) (works_both call a b u to_upper (works_both call b d u joins.beside o.beside)) lower.came;
        holds_next = held_in z call up.room upper.held v q b u (works_both call v a q lower.beside looked) (works_both call b d u joins.beside o.beside) upper.came;
        inside = lower.inside;
        above = pair_above z call key h low up ys xs v a q b lower front upper end;
        few = omega (arith, few);
        retires = step_in z call (on_rooms (retire_room up.room)) v b d u to_both.met o.beside.met joins.retires;
        opened = joins.opened;
        opens = opens_since z call low.room joins.opened v d u (works_both call v b d to_both joins.beside) o.opens;
        low = joins.front.mirrors.low ∙ (sym lower.front.mirrors.low ∙ lower.rewritten.low);
        high = joins.front.mirrors.high ∙ (sym upper.front.mirrors.high ∙ upper.rewritten.high);
        base = base_is;
        kept = both_kept;
        linked = joins.linked;
        sorted = subst (λ (n : ℕ). IsSorted n joins.opened) (λ i. e i + f i) joins.sorted;
        swept = sweeps_since call key v d u (works_both call v b d to_both joins.beside).swept (works_both call v b d to_both joins.beside).met (o.sweeps (mirrors_valued z joins.opened (joined_by upper.range lower.range) joins.front.mirrors joins.linked joins.valued) key is bytes joined_inside);
        leaves = leaves_of call v u all idle_again;
        unclaimed = o.claims ∙ (joins.claims ∙ taken_unclaimed);
        claims = claims_none z v u (o.claims ∙ (joins.claims ∙ taken_unclaimed));
        alone = divided_runs z (JoinsRooms z low.room up.room lower.held upper.held joins.opened) v u (step_apart z call (on_rooms (open_room low.room)) v u (opens_since z call low.room joins.opened v d u (works_both call v b d to_both joins.beside) o.opens).step) (bare_still v u bare idle_again) o.moment
            (joins_rooms z low.room up.room front.inside upper.front.inside rooms_apart lower.held upper.held lower.words v q b bare takes front.held upper.alone joins.opened d u joins.alone o.alone);
      }
