-- What is settled while one chunk after the other is merged, by a pass that is alone.
use Rattle.std.proofs.Common.{◌≡◌, ℕ, ◌+◌, ◌-◌, ◌*◌, ◌≤◌, ⊎_elim, List, [], ◌∷◌, sym, refl, ap, ◌∙◌, subst, arith, Some, None}
use mathlib.Core.Logic.{dite}
use native.Mathlib.Decide.{ℕ_discrete}
use Rattle.oak_model.specs.Counts.{total}
use Rattle.oak_model.specs.KeyNumber.{key_number}
use Rattle.oak_model.specs.Limits.{Sizes}
use Rattle.oak_model.proofs.SumLaws.{times-none, times-one}
use Rattle.chunk_core.specs.declared.holds.EntryWords.{EntryWords}
use Rattle.chunk_core.specs.declared.holds.RoomCopy.{RoomCopy}
use Rattle.chunk_core.specs.declared.states.TheConstants.{FREE, OPEN}
use Rattle.chunk_core.specs.KeyWords.{high_number, low_number}
use Rattle.chunk_core.specs.Spans.{within}
use Rattle.chunk_core.specs.ValueWord.{names_header}
use Rattle.oak_core.specs.declared.states.PassState.{PassState}
use Rattle.oak_core.specs.AloneWords.{Runs}
use Rattle.oak_core.proofs.seats.AloneRuns.{Then, runs_as, runs_none, runs_then}
use Rattle.rebalance.specs.Calls.{HasMuchAbove, IsLast, Merges, Rewrites}
use Rattle.rebalance.specs.Copies.{IsTidy, copy_span, linked_held, values_in}
use Rattle.rebalance.specs.LoneCalls.{Divided, JoinsRooms, NoneOpened, RewritesBoth, RewritesRoom, SettlesWords}
use Rattle.rebalance.specs.LoneWords.{IsOpen, room_in, state_in}
use Rattle.rebalance.specs.Merging.{ApartUpTo}
use Rattle.rebalance.specs.Settling.{SettledBelow, SettlesBelow}
use Rattle.rebalance.proofs.LinkedCopies.{linked_are}
use Rattle.rebalance.proofs.RangeKeys.{high_number-is, number_of}
use Rattle.rebalance.proofs.SettledWords.{IsStill, names_le, settled_all, settled_joined, settled_least, settled_next, settled_still}

-- ---- values that are kept

-- each named header counts once
times_itself : (n : ℕ) → n ≤ 1 → n * n ≡ n
times_itself n le = dite (ℕ_discrete n 0) (λ e. times-none n n e ∙ sym e) (λ ne. times-one n n (omega arith))

-- and has nothing to lack
times_lack : (n : ℕ) → n ≤ 1 → n * (1 - n) ≡ 0
times_lack n le = dite (ℕ_discrete n 0) (λ e. times-none n (1 - n) e) (λ ne. times-one n (1 - n) (omega arith) ∙ (omega arith))

-- so it is in a sum over entries
values_once : (es : List EntryWords) → total (λ (e : EntryWords). names_header e.value * names_header e.value) es ≡ total (λ (e : EntryWords). names_header e.value) es
unfolding total
values_once [] = refl
values_once (e ∷ es) = let h = times_itself (names_header e.value) (names_le e.value) in let t = values_once es in omega arith

-- and those with a value lack none
lacks_none : (es : List EntryWords) → total (λ (e : EntryWords). names_header e.value * (1 - names_header e.value)) es ≡ 0
unfolding total
lacks_none [] = refl
lacks_none (e ∷ es) = let h = times_lack (names_header e.value) (names_le e.value) in let t = lacks_none es in omega arith

-- a chunk that was rewritten has its values
values_kept : (z : Sizes) (call : ℕ) (key : List ℕ) (r : ℕ) (held opened : RoomCopy) (v w : PassState) → Rewrites z call key r held opened v w → values_in opened ≡ values_in held
values_kept z call key r held opened v w h = ap (total (λ (e : EntryWords). names_header e.value)) (linked_are opened h.linked) ∙ (h.kept (λ _ n. names_header n) ∙ values_once (linked_held held))

-- each entry is linked, and has one
rewritten_tidy : (z : Sizes) (call : ℕ) (key : List ℕ) (r : ℕ) (held opened : RoomCopy) (v w : PassState) → Rewrites z call key r held opened v w → IsTidy opened
rewritten_tidy z call key r held opened v w h = record { linked = h.linked; valued = h.kept (λ _ n. 1 - names_header n) ∙ lacks_none (linked_held held) }

-- so it has the range that it had, and no fewer values
pub still_kept : (z : Sizes) (call : ℕ) (key : List ℕ) (r : ℕ) (held opened : RoomCopy) (v w : PassState) → Rewrites z call key r held opened v w → IsStill held opened
still_kept z call key r held opened v w h = let e = values_kept z call key r held opened v w h in record { low = h.low; high = h.high; values = omega arith; tidy = λ _. rewritten_tidy z call key r held opened v w h }

-- it has the key
still_inside : (z : Sizes) (call : ℕ) (key : List ℕ) (r : ℕ) (held opened : RoomCopy) (v w : PassState) → Rewrites z call key r held opened v w → within (copy_span opened) (key_number key) ≡ 1
still_inside z call key r held opened v w h = subst (λ (p : List ℕ × List ℕ). within (record { low = low_number p.0; high = high_number p.1; base = 0 }) (key_number key) ≡ 1) (λ i. (sym h.low i, sym h.high i)) h.inside

-- the same is true of words that stay
still_same : (w x : RoomCopy) → x ≡ w → IsStill w x
still_same w x e = subst (IsStill w) (sym e) (record { low = refl; high = refl; values = omega arith; tidy = λ t. t })

-- so has one that was joined with the next one
values_joined : (z : Sizes) (call : ℕ) (key : List ℕ) (v w : PassState) → (m : Merges z call key v w) → values_in m.opened ≡ values_in m.held + values_in m.next
values_joined z call key v w m = let a = m.kept (λ _ n. names_header n) in let b = values_once (linked_held m.held) in let c = values_once (linked_held m.next) in let l = ap (total (λ (e : EntryWords). names_header e.value)) (linked_are m.opened m.linked) in omega arith

-- ---- the settling call

-- nothing is below the least key
pub least_settles : (z : Sizes) (key : List ℕ) (v : PassState) → key ≡ 0 ∷ [] → Runs (SettlesBelow z (key_number key)) v v
least_settles z key v least = runs_none (SettlesBelow z (key_number key)) v (λ a. record { settled = λ d. subst (λ (n : ℕ). SettledBelow z n a) (ap key_number (sym least)) (settled_least z a d); opened = λ r there. (there, refl); headers = refl })

-- a free room is not open
not_free : (z : Sizes) (b : List ℕ) (q : ℕ) → state_in z b q ≡ FREE → IsOpen z b q → ⊥
not_free z b q free o = let e : FREE ≡ OPEN = sym free ∙ o.state in absurd (omega arith)

-- rooms that were open, and whose ranges begin where they did, open none
opened_then : (z : Sizes) (a b c : List ℕ) → NoneOpened z a b → ((r : ℕ) → IsOpen z c r → IsOpen z b r) → ((r : ℕ) → IsOpen z c r → (room_in z c r).low ≡ (room_in z b r).low) → NoneOpened z a c
opened_then z a b c n opens low r there = let f = n r (opens r there) in (f.0, low r there ∙ f.1)

-- a room whose state stays was open
was_open : (z : Sizes) (b c : List ℕ) (r : ℕ) → state_in z c r ≡ state_in z b r → IsOpen z c r → IsOpen z b r
was_open z b c r e there = record { inside = there.inside; state = sym e ∙ there.state }

-- where one room was rewritten, each begins where it did
rewritten_still : (z : Sizes) (b c : List ℕ) (r : ℕ) (held opened : RoomCopy) → IsStill held opened → RewritesRoom z r held opened b c → (y : ℕ) → IsStill (room_in z b y) (room_in z c y)
rewritten_still z b c r held opened still j y = dite (ℕ_discrete y r)
    (λ same. subst (λ (x : ℕ). IsStill (room_in z b x) (room_in z c x)) (sym same) (subst (λ (p : RoomCopy × RoomCopy). IsStill p.0 p.1) (λ i. (sym j.was i, sym j.is i)) still))
    (λ no. still_same (room_in z b y) (room_in z c y) (j.leaves.words y no))

-- so it is where two were
pub both_still : (z : Sizes) (b c : List ℕ) (r q : ℕ) (held opened next reopened : RoomCopy) → IsStill held opened → IsStill next reopened → RewritesBoth z r q held opened next reopened b c → (y : ℕ) → IsStill (room_in z b y) (room_in z c y)
both_still z b c r q held opened next reopened low up j y = dite (ℕ_discrete y r)
    (λ same. subst (λ (x : ℕ). IsStill (room_in z b x) (room_in z c x)) (sym same) (subst (λ (p : RoomCopy × RoomCopy). IsStill p.0 p.1) (λ i. (sym j.was i, sym j.is i)) low))
    (λ ne. dite (ℕ_discrete y q)
    (λ same. subst (λ (x : ℕ). IsStill (room_in z b x) (room_in z c x)) (sym same) (subst (λ (p : RoomCopy × RoomCopy). IsStill p.0 p.1) (λ i. (sym j.was_upper i, sym j.is_upper i)) up))
    (λ no. still_same (room_in z b y) (room_in z c y) (j.leaves.words y (⊎_elim ne no))))

-- of two joined rooms the one begins where it did, and the other is not open
joined_low : (z : Sizes) (b c : List ℕ) (r q : ℕ) (held next opened : RoomCopy) → opened.low ≡ held.low → JoinsRooms z r q held next opened b c → (y : ℕ) → IsOpen z c y → (room_in z c y).low ≡ (room_in z b y).low
joined_low z b c r q held next opened low j y there = dite (ℕ_discrete y r)
    (λ same. subst (λ (x : ℕ). (room_in z c x).low ≡ (room_in z b x).low) (sym same) (ap (λ (k : RoomCopy). k.low) j.is ∙ (low ∙ ap (λ (k : RoomCopy). k.low) (sym j.was))))
    (λ ne. ap (λ (k : RoomCopy). k.low) (j.leaves.words y (⊎_elim ne (λ same. not_free z c q j.freed (subst (IsOpen z c) same there)))))

module _ (z : Sizes) (call : ℕ) (key : List ℕ) (u v w : PassState) (first : Runs (SettlesBelow z (key_number key)) u v) where
  -- a chunk with the key was merged with the one above it
  pub joined_settles : Merges z call key v w → Runs (SettlesBelow z (key_number key)) u w
  joined_settles m = let J = Divided z (JoinsRooms z m.room m.other m.held m.next m.opened) in runs_as (Then (SettlesBelow z (key_number key)) J) (SettlesBelow z (key_number key)) u w
      (λ x c t. let s = t.1 in let d = t.2 in let j = d.does in record {
        settled = λ after. settled_joined z t.0 c d.divided after (key_number key) m.room m.other j.is_open j.upper_is_open
            (subst (λ (k : RoomCopy). within (copy_span k) (key_number key) ≡ 1) (sym j.was) m.inside)
            (ap (λ (k : RoomCopy). high_number k.high) j.was ∙ (m.above ∙ ap (λ (k : RoomCopy). low_number k.low + 1) (sym j.was_upper)))
            (ap (λ (k : RoomCopy). k.low) j.is ∙ (m.low ∙ ap (λ (k : RoomCopy). k.low) (sym j.was)))
            (ap (λ (k : RoomCopy). k.high) j.is ∙ (m.high ∙ ap (λ (k : RoomCopy). k.high) (sym j.was_upper)))
            (let e = ap values_in j.was in let f = ap values_in j.is in let g = values_joined z call key v w m in omega arith)
            (λ y there. was_open z t.0 c y (j.leaves.states y (λ same. not_free z c m.other j.freed (subst (IsOpen z c) same there))) there)
            (not_free z c m.other j.freed)
            (λ y n o. j.leaves.words y (⊎_elim n o))
            (s.settled d.divided);
        opened = opened_then z x t.0 c s.opened
            (λ y there. was_open z t.0 c y (j.leaves.states y (λ same. not_free z c m.other j.freed (subst (IsOpen z c) same there))) there)
            (joined_low z t.0 c m.room m.other m.held m.next m.opened m.low j);
        headers = j.leaves.headers ∙ s.headers;
      })
      (runs_then (SettlesBelow z (key_number key)) J u v w first m.alone)

  -- it was rewritten, and the one above it too
  pub next_settles : (h : List ℕ) → ApartUpTo z call key (Some h) v w → Runs (SettlesBelow z (key_number h)) u w
  next_settles h a = ⊎_elim
      (λ (l : IsLast z a.stays.room a.stays.held a.stays.opened v w). let e = l.last in let f = ends in absurd (omega arith))
      (λ (m : HasMuchAbove z call a.stays.room a.stays.held a.stays.opened v w). both m)
      a.stays.why
    where
      ends : high_number a.stays.held.high ≡ key_number h + 1
      ends = high_number-is a.stays.held.high ∙ ap number_of a.ends

      both : HasMuchAbove z call a.stays.room a.stays.held a.stays.opened v w → Runs (SettlesBelow z (key_number h)) u w
      both m = let s = a.stays in let B = Divided z (RewritesBoth z s.room m.other s.held s.opened m.next m.reopened) in let low = still_kept z call key s.room s.held s.opened v w s.rewrites in let up = still_kept z call m.key m.other m.next m.reopened v w m.rewrites in
          runs_as (Then (SettlesBelow z (key_number key)) B) (SettlesBelow z (key_number h)) u w
          (λ x c t. let f = t.1 in let d = t.2 in let j = d.does in record {
            settled = λ after. settled_next z c after (key_number key) (key_number h) s.room m.other
                (settled_still z t.0 c (key_number key) (λ y there. was_open z t.0 c y (j.leaves.states y (λ n. n)) there)
                (both_still z t.0 c s.room m.other s.held s.opened m.next m.reopened low up j)
                (f.settled d.divided))
                (record { inside = j.is_open.inside; state = j.leaves.states s.room (λ n. n) ∙ j.is_open.state })
                (record { inside = j.upper_is_open.inside; state = j.leaves.states m.other (λ n. n) ∙ j.upper_is_open.state })
                (subst (λ (k : RoomCopy). within (copy_span k) (key_number key) ≡ 1) (sym j.is) (still_inside z call key s.room s.held s.opened v w s.rewrites))
                (subst IsTidy (sym j.is) (rewritten_tidy z call key s.room s.held s.opened v w s.rewrites))
                (ap (λ (k : RoomCopy). high_number k.high) j.is ∙ (ap high_number low.high ∙ ends))
                (let e = ap (λ (k : RoomCopy). low_number k.low) j.is_upper in let g = ap low_number up.low in let i = m.above in let k = ends in omega arith)
                (let e = ap values_in j.is in let g = ap values_in j.is_upper in let i = low.values in let k = up.values in let n = m.many in omega arith);
            opened = opened_then z x t.0 c f.opened (λ y there. was_open z t.0 c y (j.leaves.states y (λ n. n)) there) (λ y there. (both_still z t.0 c s.room m.other s.held s.opened m.next m.reopened low up j y).low);
            headers = j.leaves.headers ∙ f.headers;
          })
          (runs_then (SettlesBelow z (key_number key)) B u v w first m.alone)

  -- or none is above it
  pub all_settles : ApartUpTo z call key None v w → Runs (SettlesWords z) u w
  all_settles a = ⊎_elim
      (λ (l : IsLast z a.stays.room a.stays.held a.stays.opened v w). last l)
      (λ (m : HasMuchAbove z call a.stays.room a.stays.held a.stays.opened v w). let e = m.above in let f = high_number-is a.stays.held.high ∙ ap number_of a.ends in absurd (omega arith))
      a.stays.why
    where
      last : IsLast z a.stays.room a.stays.held a.stays.opened v w → Runs (SettlesWords z) u w
      last l = let s = a.stays in let R = Divided z (RewritesRoom z s.room s.held s.opened) in let low = still_kept z call key s.room s.held s.opened v w s.rewrites in
          runs_as (Then (SettlesBelow z (key_number key)) R) (SettlesWords z) u w
          (λ x c t. let f = t.1 in let d = t.2 in let j = d.does in record {
            settled = settled_all z c d.divides (key_number key) s.room
                (settled_still z t.0 c (key_number key) (λ y there. was_open z t.0 c y (j.leaves.states y (λ n. n)) there)
                (rewritten_still z t.0 c s.room s.held s.opened low j)
                (f.settled d.divided))
                (record { inside = j.is_open.inside; state = j.leaves.states s.room (λ n. n) ∙ j.is_open.state })
                (subst (λ (k : RoomCopy). within (copy_span k) (key_number key) ≡ 1) (sym j.is) (still_inside z call key s.room s.held s.opened v w s.rewrites))
                (subst IsTidy (sym j.is) (rewritten_tidy z call key s.room s.held s.opened v w s.rewrites))
                (ap (λ (k : RoomCopy). high_number k.high) j.is ∙ (ap high_number low.high ∙ l.last));
            opened = opened_then z x t.0 c f.opened (λ y there. was_open z t.0 c y (j.leaves.states y (λ n. n)) there) (λ y there. (rewritten_still z t.0 c s.room s.held s.opened low j y).low);
            headers = j.leaves.headers ∙ f.headers;
          })
          (runs_then (SettlesBelow z (key_number key)) R u v w first l.alone)
