-- A call that puts is full, where its pass is alone: what it noted, in rooms as settling leaves them.
use Rattle.std.proofs.Common.{◌≡◌, ◌≢◌, ℕ, Bool, true, false, List, Option, Some, None, inl, ⊎_elim, sym, refl, ap, ◌∙◌, subst, arith}
use Rattle.oak_model.specs.declared.cells.CellCall.{CellCall}
use Rattle.oak_model.specs.declared.replies.Lack.{Lack}
use Rattle.oak_model.specs.declared.replies.Lack.TheVariants.{Room}
use Rattle.oak_model.specs.declared.replies.Pair.{Pair}
use Rattle.oak_model.specs.declared.replies.Wrote.TheVariants.{Full}
use Rattle.oak_model.specs.Cell.{state_after}
use Rattle.oak_model.specs.KeyNumber.{key_number}
use Rattle.oak_model.specs.Limits.{Sizes}
use Rattle.oak_model.specs.State.{State}
use Rattle.chunk_core.specs.declared.holds.RoomCopy.{RoomCopy}
use Rattle.chunk_core.specs.KeyWords.{high_number, low_number}
use Rattle.chunk_core.specs.LinkedEntries.{entries_in}
use Rattle.chunk_core.specs.Spans.{within}
use Rattle.oak_core.specs.declared.states.PassState.{PassState}
use Rattle.oak_core.specs.AloneWords.{LeavesWords, Moment, RunsTo}
use Rattle.oak_core.specs.Memory.{memory}
use Rattle.oak_core.specs.Noting.{Notes}
use Rattle.oak_core.specs.PassState.{HoldsNothing, IsAlone, seen_of}
use Rattle.oak_core.specs.Step.{note_full}
use Rattle.oak_core.proofs.seats.AloneRuns.{moment_before, note_runs}
use Rattle.chunk_ops.specs.FindsAlone.{IsLinked, linked_key}
use Rattle.lone_counts.specs.Lacks.{new_lack}
use Rattle.lone_counts.specs.LoneTable.{LoneTable, retired_in}
use Rattle.lone_counts.specs.Maps.{IsMapOf, last_states}
use Rattle.point_ops.specs.LoneReplies.{SameAlone}
use Rattle.point_ops.proofs.LoneHistories.{alone_later}
use Rattle.rebalance.specs.Calls.{FindsNoRoom}
use Rattle.rebalance.specs.Copies.{copy_span}
use Rattle.rebalance.specs.LoneCalls.{AllOpen, Divided, IsSettled, RewritesRoom}
use Rattle.rebalance.specs.LoneWords.{IsOpen, room_in}
use Rattle.rebalance.proofs.LoneChunks.{ended_at}
use Rattle.oak_map.specs.LonePuts.{FullAsLacks, FullBy, HasNoRoomFor, PutsAlone}
use Rattle.oak_map.specs.LoneRetrying.{AreMany, FitsNow, LoneGoing, StaysSettled}
use Rattle.oak_map.specs.MakingRoom.{IsRefused}
use Rattle.oak_map.proofs.LoneWays.{NothingLacks}
use Rattle.oak_map.proofs.SettledSplits.{FullRoom, agrees, opens_still, rewritten_settled}
use Rattle.oak_map.proofs.SettledStays.{retired_same}

-- ---- behind the last try

-- Once it had settled: at a moment of the rule the pass is alone, holds nothing, and no history changed since the call.
pub record LoneEnd (z : Sizes) (key : List ℕ) (ask : CellCall) (u : PassState) (c : List ℕ) (w : PassState) : Type 0 where
  pub table : LoneTable z c w
  pub same : (q : ℕ) → seen_of q w.knowledge ≡ seen_of q u.knowledge
  pub stays : StaysSettled z key ask u c

-- `Full` is what the map says, and the rooms are as settling leaves them
pub record FullAt (z : Sizes) (key : List ℕ) (ask : CellCall) (u : PassState) (lack : Lack) (c : List ℕ) : Type 0 where
  pub says : (m : List Pair) → IsMapOf (last_states u) m → FullAsLacks z m (retired_in z c) key (HasNoRoomFor z key c) (last_states u key) (state_after (last_states u key) ask) (Full lack)
  pub many : AreMany z c

module _ (z : Sizes) (key : List ℕ) (ask : CellCall) (settled : Bool) (u v w : PassState) (numbers : v.numbers ≡ u.numbers) (later : w.numbers ≡ v.numbers) (idle : HoldsNothing w) (going : LoneGoing z key ask settled u v) (same : SameAlone z v w) where
  pub was_alone : IsAlone w → IsAlone u
  was_alone alone = alone_later w u (sym (later ∙ numbers)) alone

  pub lone_end : IsAlone u → (c : List ℕ) → LeavesWords c w → StaysSettled z key ask u c → LoneEnd z key ask u c w
  lone_end alone c l s = let t = same (alone_later u v numbers alone) in let e = ended_at z w c (t.ended.words, t.ended.moment) l in record {
    table = record { moment = e.0; alone = e.1; idle = idle };
    same = λ q. t.same q ∙ going.seen alone q;
    stays = s;
  }

-- ---- what it noted

abbrev lack_of : Lack → Option Lack → Lack
lack_of other None = other
lack_of other (Some lack) = lack

-- it had settled, and noted that it lacks what it answers
pub record IsNoted (z : Sizes) (call : ℕ) (settled : Bool) (lack answer : Lack) (v w : PassState) : Type 0 where
  pub had : settled ≡ true
  pub is : lack ≡ answer
  pub notes : Notes z call lack v w

pub refused_noted : (z : Sizes) (call : ℕ) (settled then : Bool) (lack answer : Lack) (o : Option Lack) (v w : PassState) → IsRefused z call settled then lack o v w → o ≡ Some answer → IsNoted z call settled lack answer v w
refused_noted z call true then lack answer o v w r e = record { had = refl; is = ap (lack_of lack) (sym (r.full refl).0 ∙ e); notes = (r.full refl).1 }
refused_noted z call false then lack answer o v w r e = let f : None ≡ Some answer = sym (r.again refl).0 ∙ e in absurd cc

-- the pass was alone then, and left the words as they were
module _ (z : Sizes) (call : ℕ) (lack : Lack) (v w : PassState) (n : Notes z call lack v w) (c : List ℕ) (l : LeavesWords c v) where
  pub noted_alone : IsAlone v
  noted_alone = (n.told.rule.alone n.told.seat v n.told.here l.met l.finding l.last l.alone).1

  pub noted_moment : Moment z c v
  noted_moment = moment_before z call (note_full lack n.began) v n.number w c l n.told

  pub noted_words : RunsTo (λ a b. b ≡ a) c w
  noted_words = (note_runs z call lack n.began v n.number w n.told).goes c l

-- ---- the words behind it

module _ (z : Sizes) (key : List ℕ) (ask : CellCall) (u : PassState) where
  -- what it lacks is not a room
  pub full_of : (lack : Lack) (a c : List ℕ) → retired_in z c ≡ retired_in z a → StaysSettled z key ask u c → FullAt z key ask u lack c → PutsAlone z key ask u (Full lack) a c
  full_of lack a c e s f = record {
    full = λ m is. subst (λ (n : ℕ). FullAsLacks z m n key (HasNoRoomFor z key c) (last_states u key) (state_after (last_states u key) ask) (Full lack)) e (f.says m is);
    settled = λ _. record { divides = s.divides; valued = s.valued; linked = s.linked; many = f.many };
    retired = e;
  }

  -- neighbours are as settling leaves them where the room of the key is full
  pub many_there : (c : List ℕ) → IsAlone u → StaysSettled z key ask u c → FullRoom z key c → AreMany z c
  many_there c alone s f = ⊎_elim (λ (m : AreMany z c). m)
      (λ (g : IsAlone u → FitsNow z key ask u c). let n = g alone in let e = s.divides.once (key_number key) f.room n.room f.is_open n.is_open f.covers n.covers in
      let k = ap (λ (r : ℕ). entries_in (room_in z c r).count) e in let i = f.full in let j = n.left in absurd (omega arith))
      s.rooms

  -- it lacks a room: the chunk of the key was rewritten, from c to d
  module _ (value : List ℕ) (makes : state_after None ask ≡ Some value) (call : ℕ) (w t : PassState) (f : FindsNoRoom z call key w t) (a c d : List ℕ) (e : retired_in z c ≡ retired_in z a) (r : Divided z (RewritesRoom z f.compacts.room f.compacts.held f.compacts.opened) c d) (all_open : AllOpen z c c)
      (s : StaysSettled z key ask u c) (many : AreMany z c) (room : FullRoom z key c) (n : NothingLacks z key value u c)
      (missing : IsSettled z d → (q : ℕ) → IsOpen z d q → entries_in (room_in z d q).count ≡ z.entries → within (copy_span (room_in z d q)) (key_number key) ≡ 1 → (i : ℕ) → IsLinked (memory z d) q i → key_number (linked_key (memory z d) q i) ≢ key_number key) where
    count_same : entries_in f.compacts.opened.count ≡ entries_in f.compacts.held.count
    count_same = let i = f.compacts.rewrites.sorted.count in let j = f.compacts.count_is in omega arith

    span_same : within (copy_span f.compacts.opened) (key_number key) ≡ within (copy_span f.compacts.held) (key_number key)
    span_same = let p = f.compacts.rewrites.low in let q = f.compacts.rewrites.high in λ i. within (record { low = low_number (p i); high = high_number (q i); base = 0 }) (key_number key)

    settled_there : IsSettled z d
    settled_there = rewritten_settled z call key f.compacts.room f.compacts.held f.compacts.opened w t f.compacts.rewrites c d r count_same s.valued s.linked many

    still_open : IsOpen z d room.room
    still_open = opens_still z call key f.compacts.room f.compacts.held f.compacts.opened w t f.compacts.rewrites c d r count_same room.room room.is_open

    still_covers : within (copy_span (room_in z d room.room)) (key_number key) ≡ 1
    still_covers = agrees z call key f.compacts.room f.compacts.held f.compacts.opened w t f.compacts.rewrites c d r count_same (λ (k : RoomCopy). within (copy_span k) (key_number key)) span_same room.room ∙ room.covers

    still_full : entries_in (room_in z d room.room).count ≡ z.entries
    still_full = agrees z call key f.compacts.room f.compacts.held f.compacts.opened w t f.compacts.rewrites c d r count_same (λ (k : RoomCopy). entries_in k.count) count_same room.room ∙ room.full

    roomless : HasNoRoomFor z key d
    roomless = record {
      all_open = λ q lt. r.does.leaves.states q (λ x. x) ∙ all_open q lt;
      room = room.room;
      is_open = still_open;
      covers = still_covers;
      full = still_full;
      linked = settled_there.linked room.room still_open;
      valued = settled_there.valued room.room still_open;
      missing = missing settled_there room.room still_open still_full still_covers;
    }

    retired_there : retired_in z d ≡ retired_in z a
    retired_there = retired_same z c d r.does.leaves.headers ∙ e

    says : (m : List Pair) → IsMapOf (last_states u) m → FullAsLacks z m (retired_in z a) key (HasNoRoomFor z key d) (last_states u key) (state_after (last_states u key) ask) (Full Room)
    says m is = let y = Full Room in subst (λ (x : State). FullAsLacks z m (retired_in z a) key (HasNoRoomFor z key d) x (state_after x ask) y) (sym n.absent)
        (subst (λ (x : State). FullAsLacks z m (retired_in z a) key (HasNoRoomFor z key d) None x y) (sym makes)
        (subst (λ (o : Option Lack). FullBy o (HasNoRoomFor z key d) y) (sym (subst (λ (k : ℕ). new_lack z m k key value ≡ None) e (n.lacks m is))) (inl (refl, roomless))))

    pub full_of_rooms : PutsAlone z key ask u (Full Room) a d
    full_of_rooms = record { full = says; settled = λ _. settled_there; retired = retired_there }
