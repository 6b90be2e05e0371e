-- How many chunks end behind a key, in words of the table. A call that goes from the lowest chunk on has one less of them ahead with each that it goes over, so a pass that is alone comes to the end.
use Rattle.std.proofs.Common.{◌≡◌, ℕ, zero, suc, ◌+◌, ◌-◌, ◌*◌, ◌<◌, ◌≤◌, ⊎_elim, List, length, length-append, sym, ap, ◌∙◌, subst, arith, Some}
use mathlib.Core.Logic.{dite}
use native.Mathlib.Decide.{ℕ_discrete}
use Rattle.oak_model.specs.Counts.{below, one_at}
use Rattle.oak_model.specs.KeyNumber.{key_number}
use Rattle.oak_model.specs.Limits.{Sizes}
use Rattle.oak_model.proofs.Counting.{below_at, one_at-le, one_at-other, one_at-same}
use Rattle.oak_model.proofs.SumLaws.{below_le, times-none, times-one, times_le}
use Rattle.chunk_core.specs.declared.holds.RoomCopy.{RoomCopy}
use Rattle.chunk_core.specs.declared.states.TheConstants.{FREE, OPEN}
use Rattle.chunk_core.specs.KeyWords.{high_number, low_number}
use Rattle.chunk_core.specs.Spans.{past_high, within}
use Rattle.chunk_core.proofs.SpanLaws.{high-none, high-some, past-le}
use Rattle.oak_core.specs.declared.states.PassState.{PassState}
use Rattle.oak_core.specs.AloneWords.{Runs}
use Rattle.oak_core.proofs.memory.MetLists.{at_inside}
use Rattle.oak_core.proofs.seats.AloneRuns.{Then, runs_as, runs_none, runs_then}
use Rattle.chunk_ops.specs.AddsAlone.{Never}
use Rattle.chunk_ops.specs.LoneRooms.{HasNoRoom}
use Rattle.chunk_ops.specs.RoomPins.{HadMoment}
use Rattle.rebalance.specs.Calls.{HasMuchAbove, IsLast, Merges, SweepsKey}
use Rattle.rebalance.specs.Copies.{copy_span}
use Rattle.rebalance.specs.LoneCalls.{Divided, JoinsRooms, RewritesBoth}
use Rattle.rebalance.specs.LoneWords.{Divides, IsOpen, room_in, state_in}
use Rattle.rebalance.specs.Merging.{ApartUpTo}
use Rattle.rebalance.proofs.LoneChunks.{ends_divided}
use Rattle.rebalance.proofs.RangeKeys.{high_number-is, number_of}
use Rattle.rebalance.proofs.SettledCalls.{both_still, still_kept}
use Rattle.rebalance.proofs.SettledWords.{IsStill, ends_after, not_past, past_by, past_some, past_when}

-- ---- sums

fewer : (f g : ℕ → ℕ) (n i : ℕ) → i < n → ((k : ℕ) → g k ≤ f k) → g i < f i → below g n < below f n
unfolding below
fewer f g zero i lt le less = absurd (omega arith)
fewer f g (suc n) i lt le less = let here = le n in dite (ℕ_discrete i n)
    (λ e. let b = below_le g f n le in let x = ap f e in let y = ap g e in omega arith) (λ ne. let t = fewer f g n i (omega arith) le less in omega arith)

at_most : (f : ℕ → ℕ) (n : ℕ) → ((k : ℕ) → f k ≤ 1) → below f n ≤ n
unfolding below
at_most f zero le = omega arith
at_most f (suc n) le = let here = le n in let t = at_most f n le in omega arith

-- ---- chunks ahead

high_le : (h k : ℕ) → past_high h k ≤ 1
high_le h k = dite (ℕ_discrete h 0) (λ e. let n = ap (λ (t : ℕ). past_high t k) e ∙ high-none k in omega arith) (λ ne. let s = high-some h k ne in let p = past-le (h - 1) k in omega arith)

-- what ends at or before a key ends before a greater one
high_more : (h k n : ℕ) → k ≤ n → past_high h k ≤ past_high h n
high_more h k n le = dite (ℕ_discrete (past_high h k) 1) (λ e. let b = past_by h k e in let w = past_when h n (past_some h k e) (omega arith) in omega arith) (λ ne. let l = high_le h k in omega arith)

-- 1 where a room is in this state and, with these words, does not end at or before k
abbrev counted : ℕ → ℕ → RoomCopy → ℕ
counted k s w = one_at s OPEN * (1 - past_high (high_number w.high) k)

-- so it is of each room of the table's words
abbrev pub ends_behind : Sizes → List ℕ → ℕ → ℕ → ℕ
ends_behind z words k r = one_at (state_in z words r) OPEN * (1 - past_high (high_number (room_in z words r).high) k)

-- i of as many chunks as the table has rooms are not ahead
pub record GoesOver (z : Sizes) (k i : ℕ) (before after : List ℕ) : Type 0 where
  pub few : below (ends_behind z after k) z.chunks + i ≤ z.chunks

module _ (z : Sizes) (b : List ℕ) (k : ℕ) where
  ends_le : (r : ℕ) → ends_behind z b k r ≤ 1
  ends_le r = let o = one_at-le (state_in z b r) OPEN in dite (ℕ_discrete (one_at (state_in z b r) OPEN) 0)
      (λ e. let t = times-none (one_at (state_in z b r) OPEN) (1 - past_high (high_number (room_in z b r).high) k) e in omega arith)
      (λ ne. let t = times-one (one_at (state_in z b r) OPEN) (1 - past_high (high_number (room_in z b r).high) k) (omega arith) in omega arith)

  ends_one : (r : ℕ) → IsOpen z b r → past_high (high_number (room_in z b r).high) k ≡ 0 → ends_behind z b k r ≡ 1
  ends_one r o e = let t = times-one (one_at (state_in z b r) OPEN) (1 - past_high (high_number (room_in z b r).high) k) (one_at-same (state_in z b r) OPEN o.state) in omega arith

  ends_none : (r : ℕ) → past_high (high_number (room_in z b r).high) k ≡ 1 → ends_behind z b k r ≡ 0
  ends_none r e = ap (λ (n : ℕ). one_at (state_in z b r) OPEN * (1 - n)) e ∙ (let q : one_at (state_in z b r) OPEN * 0 ≡ 0 = omega arith in q)

  ends_shut : (r : ℕ) → state_in z b r ≡ FREE → ends_behind z b k r ≡ 0
  ends_shut r e = times-none (one_at (state_in z b r) OPEN) (1 - past_high (high_number (room_in z b r).high) k) (one_at-other (state_in z b r) OPEN (λ q. let f : FREE ≡ OPEN = sym e ∙ q in absurd (omega arith)))

  -- a range that has the key ends behind it
  has_behind : (r : ℕ) → within (copy_span (room_in z b r)) k ≡ 1 → past_high (high_number (room_in z b r).high) k ≡ 0
  has_behind r inside = let p = past-le (copy_span (room_in z b r)).low k in omega arith

-- a room that begins where one with the key ends, ends behind the key too
next_behind : (z : Sizes) (b : List ℕ) (k r q : ℕ) → Divides z b → IsOpen z b q → within (copy_span (room_in z b r)) k ≡ 1 → high_number (room_in z b r).high ≡ low_number (room_in z b q).low + 1 → past_high (high_number (room_in z b q).high) k ≡ 0
next_behind z b k r q d o inside above = let e = ends_after (copy_span (room_in z b r)) k inside (λ n. absurd (omega arith)) in
    not_past (high_number (room_in z b q).high) k (λ ne. let l = ends_after (copy_span (room_in z b q)) (low_number (room_in z b q).low) (d.begun q o) ne in omega arith)

-- ---- the call

-- a key that was swept is in one range more
pub swept_more : (key : List ℕ) (v w : PassState) → SweepsKey key v w → length v.findings.swept + 1 ≤ length w.findings.swept
swept_more key v w s = let e = ap length s.swept in let l = length-append v.findings.swept s.more in let i = at_inside s.more s.place s.range s.there in omega arith

-- at its beginning
pub none_over : (z : Sizes) (k : ℕ) (v : PassState) → Runs (GoesOver z k 0) v v
none_over z k v = runs_none (GoesOver z k 0) v (λ a. record { few = let m = at_most (ends_behind z a k) z.chunks (ends_le z a k) in omega arith })

module _ (z : Sizes) (call : ℕ) (key : List ℕ) (i : ℕ) (u v w : PassState) (first : Runs (GoesOver z (key_number key) i) u v) where
  abbrev k : ℕ
  k = key_number key

  -- two chunks became one
  pub joined_over : Merges z call key v w → Runs (GoesOver z (key_number key) (i + 1)) u w
  joined_over m = let J = Divided z (JoinsRooms z m.room m.other m.held m.next m.opened) in runs_as (Then (GoesOver z k i) J) (GoesOver z k (i + 1)) u w (λ x c t. record { few = let f = t.1.few in let n = over t.0 c t.2.divided t.2.does in omega arith }) (runs_then (GoesOver z k i) J u v w first m.alone)
    where
      over : (b c : List ℕ) → Divides z b → JoinsRooms z m.room m.other m.held m.next m.opened b c → below (ends_behind z c k) z.chunks < below (ends_behind z b k) z.chunks
      over b c d j = fewer (ends_behind z b k) (ends_behind z c k) z.chunks m.other j.upper_is_open.inside
          (λ y. dite (ℕ_discrete y m.other)
          (λ same. let gone = ap (ends_behind z c k) same ∙ ends_shut z c k m.other j.freed in omega arith)
          (λ no. dite (ℕ_discrete y m.room)
          (λ same. let one = ap (ends_behind z b k) same ∙ ends_one z b k m.room j.is_open (has_behind z b k m.room inside) in let l = ends_le z c k y in omega arith)
          (λ ne. let s = j.leaves.states y no in let t = j.leaves.words y (⊎_elim ne no) in let e : ends_behind z c k y ≡ ends_behind z b k y = (λ i. counted k (s i) (t i)) in omega arith)))
          (let gone = ends_shut z c k m.other j.freed in let one = ends_one z b k m.other j.upper_is_open (next_behind z b k m.room m.other d j.upper_is_open inside above) in omega arith)
        where
          inside : within (copy_span (room_in z b m.room)) k ≡ 1
          inside = subst (λ (x : RoomCopy). within (copy_span x) k ≡ 1) (sym j.was) m.inside

          above : high_number (room_in z b m.room).high ≡ low_number (room_in z b m.other).low + 1
          above = ap (λ (x : RoomCopy). high_number x.high) j.was ∙ (m.above ∙ ap (λ (x : RoomCopy). low_number x.low + 1) (sym j.was_upper))

  -- the one with the key was rewritten, and the next one begins at this one
  pub next_over : (h : List ℕ) → ApartUpTo z call key (Some h) v w → Runs (GoesOver z (key_number h) (i + 1)) u w
  next_over h a = ⊎_elim
      (λ (l : IsLast z a.stays.room a.stays.held a.stays.opened v w). let e = l.last in let f = ends in absurd (omega arith))
      (λ (m : HasMuchAbove z call a.stays.room a.stays.held a.stays.opened v w). both m)
      a.stays.why
    where
      ends : high_number a.stays.held.high ≡ key_number h + 1
      ends = high_number-is a.stays.held.high ∙ ap number_of a.ends

      both : HasMuchAbove z call a.stays.room a.stays.held a.stays.opened v w → Runs (GoesOver z (key_number h) (i + 1)) u w
      both m = let B = Divided z (RewritesBoth z a.stays.room m.other a.stays.held a.stays.opened m.next m.reopened) in
          runs_as (Then (GoesOver z k i) B) (GoesOver z (key_number h) (i + 1)) u w (λ x c t. record { few = let f = t.1.few in let n = over t.0 c t.2.does in omega arith }) (runs_then (GoesOver z k i) B u v w first m.alone)
        where
          over : (b c : List ℕ) → RewritesBoth z a.stays.room m.other a.stays.held a.stays.opened m.next m.reopened b c → below (ends_behind z c (key_number h)) z.chunks < below (ends_behind z b k) z.chunks
          over b c j = fewer (ends_behind z b k) (ends_behind z c (key_number h)) z.chunks a.stays.room j.is_open.inside
              (λ y. let s = j.leaves.states y (λ n. n) in let m = behind in let l = high_more (high_number (room_in z b y).high) k (key_number h) (omega arith) in
              let e : ends_behind z c (key_number h) y ≡ one_at (state_in z b y) OPEN * (1 - past_high (high_number (room_in z b y).high) (key_number h)) = (λ i. one_at (s i) OPEN * (1 - past_high (high_number ((still y).high i)) (key_number h))) in
              let t = times_le (one_at (state_in z b y) OPEN) (1 - past_high (high_number (room_in z b y).high) (key_number h)) (1 - past_high (high_number (room_in z b y).high) k) (omega arith) in omega arith)
              (let gone = ends_none z c (key_number h) a.stays.room (let e = ended in past_when (high_number (room_in z c a.stays.room).high) (key_number h) (λ n. absurd (omega arith)) (omega arith)) in
              let one = ends_one z b k a.stays.room j.is_open (has_behind z b k a.stays.room inside) in omega arith)
            where
              still : (y : ℕ) → IsStill (room_in z b y) (room_in z c y)
              still = both_still z b c a.stays.room m.other a.stays.held a.stays.opened m.next m.reopened (still_kept z call key a.stays.room a.stays.held a.stays.opened v w a.stays.rewrites) (still_kept z call m.key m.other m.next m.reopened v w m.rewrites) j

              inside : within (copy_span (room_in z b a.stays.room)) k ≡ 1
              inside = subst (λ (x : RoomCopy). within (copy_span x) k ≡ 1) (sym j.was) a.stays.rewrites.inside

              ended : high_number (room_in z c a.stays.room).high ≡ key_number h + 1
              ended = ap high_number (still a.stays.room).high ∙ (ap (λ (x : RoomCopy). high_number x.high) j.was ∙ ends)

              behind : k < key_number h
              behind = let f = ap high_number (still a.stays.room).high in let g = ended in let e = ends_after (copy_span (room_in z b a.stays.room)) k inside (λ n. absurd (omega arith)) in omega arith

-- as many chunks as the table has rooms, and still one ahead: a pass that is alone does not come to that
pub never_over : (z : Sizes) (k : ℕ) (v w : PassState) → (v ≡ w → ⊥) → HasNoRoom w → HadMoment z w → Runs (GoesOver z k z.chunks) v w → Runs Never v w
never_over z k v w apart bare had r = runs_as (λ a b. GoesOver z k z.chunks a b × Divides z b) Never v w
    (λ a b d. let o = d.1.covered k in let one = ends_one z b k o.0 o.1 (has_behind z b k o.0 o.2) in let l = below_at (ends_behind z b k) z.chunks o.0 o.1.inside in let f = d.0.few in absurd (omega arith))
    (ends_divided z (GoesOver z k z.chunks) v w apart bare had r)
