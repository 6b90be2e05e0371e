-- A room comes to be held, and its range moves with the pass; a held room is retired, and its range joins the one just below.
use Rattle.std.proofs.Common.{◌≡◌, ◌≢◌, ℕ, ◌+◌, ◌*◌, ◌<◌, ◌≤◌, cond, true, List, [], ◌∷◌, ◌++◌, map, refl, ap, arith, Some}
use Rattle.std.proofs.lemmas.Option.{none-some, same_Some}
use Rattle.chunk_core.specs.declared.holds.Carried.{Carried}
use Rattle.chunk_core.specs.declared.holds.MovingRange.{MovingRange}
use Rattle.chunk_core.specs.declared.holds.RoomHolds.{RoomHolds}
use Rattle.oak_model.specs.Counts.{one_at, one_if, total}
use Rattle.oak_model.specs.Limits.{Sizes}
use Rattle.oak_model.proofs.Changes.{Change}
use Rattle.oak_model.proofs.Counting.{decided, le-cases, one_at-same, one_at-other, total_map, total_append, test-cases}
use Rattle.oak_model.proofs.RowLaws.{total_le}
use Rattle.oak_model.proofs.SumLaws.{plus_times, times_le}
use Rattle.chunk_core.specs.CoverSums.{weight, stray, all_of}
use Rattle.chunk_core.specs.Covers.{Entry, Cover, cover_at, span_in, entry_from, cover_from}
use Rattle.chunk_core.specs.KeyWords.{low_number, high_number}
use Rattle.chunk_core.specs.LinkedEntries.{linked}
use Rattle.chunk_core.specs.MovingRanges.{joined_by, greater, is_below, joined_range, range_of, ranges_without}
use Rattle.chunk_core.specs.RoomReads.{carried_at, moving_at}
use Rattle.chunk_core.specs.Rooms.{RoomMemory}
use Rattle.chunk_core.specs.Spans.{Span, past_high, within}
use Rattle.chunk_core.proofs.CoverLaws.{all_out}
use Rattle.chunk_core.proofs.Ranges.{Parted}
use Rattle.chunk_core.proofs.SpanLaws.{joined_span}

map_twice : {A B C : Type 0} (f : A → B) (g : B → C) (xs : List A) → map g (map f xs) ≡ map (λ x. g (f x)) xs
map_twice f g [] = refl
map_twice f g (x ∷ xs) = ap (λ (l : List _). g (f x) ∷ l) (map_twice f g xs)

-- the range that is taken with a room is the cover that the room was
pub moving_cover : (m : RoomMemory) (content : ℕ → List ℕ) (r : ℕ) → cover_from (moving_at m content r) ≡ cover_at m content r
moving_cover m content r = ap (λ (xs : List Entry). record { span = span_in m r; entries = xs }) (map_twice (carried_at m content r) entry_from (linked m r))

-- nothing that is added up over the covers changes
pub hold_still : (z : Sizes) (m m' : RoomMemory) (content : ℕ → List ℕ) (hs hs' : List RoomHolds) (a b : RoomHolds) (c : Change hs hs' (a ∷ []) (b ∷ [])) (r : ℕ) → r < z.chunks → ((j : ℕ) → j ≢ r → m'.pin j ≡ m.pin j) → ((j : ℕ) → j ≢ r → cover_at m' content j ≡ cover_at m content j)
    → weight (m.pin r) ≡ 1 → weight (m'.pin r) ≡ 0 → b.moving ≡ moving_at m content r ∷ a.moving → (F : Cover → ℕ) → all_of z m' content hs' F ≡ all_of z m content hs F
unfolding total
hold_still z m m' content hs hs' a b c r l pins same w w' moving F = let s = all_out z m m' content hs hs' (a ∷ []) (b ∷ []) c r l pins same w w' F in
    let e = ap (λ (gs : List MovingRange). total F (map cover_from gs)) moving in let f = ap F (moving_cover m content r) in omega arith

pub greater-cases : (a b : ℕ) (P : ℕ → Type 0) → (a ≤ b → P b) → (b < a → P a) → P (greater a b)
greater-cases a b P high low = le-cases a b (λ t. P (cond t b a)) high low

greater_left : (a b : ℕ) → a ≤ greater a b
greater_left a b = greater-cases a b (λ t. a ≤ t) (λ l. l) (λ _. omega arith)

greater_right : (a b : ℕ) → b ≤ greater a b
greater_right a b = greater-cases a b (λ t. b ≤ t) (λ _. omega arith) (λ l. omega arith)

-- the range g joins h, which is just below it
module _ (g h : MovingRange) (below : high_number h.high ≡ low_number g.low + 1) (above : low_number h.low ≤ low_number g.low) (under : past_high (high_number g.high) (low_number g.low) ≡ 0) where
  abbrev both : MovingRange
  both = joined_by g h

  spans : (k : ℕ) → within (cover_from both).span k ≡ within (cover_from h).span k + within (cover_from g).span k
  spans = joined_span (cover_from h).span (cover_from g).span (cover_from both).span refl below refl above under

  entries : (f : Entry → ℕ) → total f (map entry_from both.carried) ≡ total f (map entry_from h.carried) + total f (map entry_from g.carried)
  entries f = let a = total_map entry_from f both.carried in let b = total_map entry_from f h.carried in let c = total_map entry_from f g.carried in let s = total_append (λ (x : Carried). f (entry_from x)) h.carried g.carried in omega arith

  stray_less : (s : Span) (xs : List Entry) → ((k : ℕ) → within s k ≤ within (cover_from both).span k) → total (stray (cover_from both).span) xs ≤ total (stray s) xs
  stray_less s xs l = total_le (stray (cover_from both).span) (stray s) xs (λ x. let e = l x.key in omega arith)

  pub joined_parted : Parted (cover_from h ∷ cover_from g ∷ []) (cover_from both ∷ [])
  unfolding total
  joined_parted = record {
    spans = λ k. let s = spans k in omega arith;
    entries = λ f. let e = entries f in omega arith;
    inside = λ none. let e = entries (stray (cover_from both).span) in let a = stray_less (cover_from h).span (map entry_from h.carried) (λ k. let s = spans k in omega arith) in let b = stray_less (cover_from g).span (map entry_from g.carried) (λ k. let s = spans k in omega arith) in omega arith;
    base = λ k. let s = ap (λ (t : ℕ). t * greater g.base h.base) (spans k) in let p = plus_times (within (cover_from h).span k) (within (cover_from g).span k) (greater g.base h.base) in
        let x = times_le (within (cover_from h).span k) h.base (greater g.base h.base) (greater_right g.base h.base) in let y = times_le (within (cover_from g).span k) g.base (greater g.base h.base) (greater_left g.base h.base) in omega arith;
    begun = λ e. let s = spans (low_number h.low) in omega arith;
    keyed = λ e. omega arith;
    bases = λ G e. greater-cases g.base h.base (λ t. G t + 0 ≡ 0) (λ _. omega arith) (λ _. omega arith);
  }

-- lists of ranges, as sums

ranges_same : (F : MovingRange → ℕ) (r : ℕ) (gs : List MovingRange) → total (λ (g : MovingRange). one_at g.room r) gs ≡ 0 → total F (ranges_without r gs) ≡ total F gs
unfolding total ranges_without
ranges_same F r [] z = refl
ranges_same F r (x ∷ xs) z = let t = ranges_same F r xs (omega arith) in decided x.room r (λ b. total F (cond b (ranges_without r xs) (x ∷ ranges_without r xs)) ≡ F x + total F xs) (λ e. let o = one_at-same x.room r e in absurd (omega arith)) (λ _. omega arith)

pub ranges_apart : (F : MovingRange → ℕ) (r : ℕ) (gs : List MovingRange) (g : MovingRange) → total (λ (h : MovingRange). one_at h.room r) gs ≤ 1 → range_of r gs ≡ Some g → total F gs ≡ F g + total F (ranges_without r gs)
unfolding total range_of ranges_without
ranges_apart F r [] g one is = absurd (none-some g is)
ranges_apart F r (x ∷ xs) g one is = decided x.room r (λ b. cond b (Some x) (range_of r xs) ≡ Some g → F x + total F xs ≡ F g + total F (cond b (ranges_without r xs) (x ∷ ranges_without r xs)))
    (λ e q. let o = one_at-same x.room r e in let t = ranges_same F r xs (omega arith) in let y = ap F (same_Some x g q) in omega arith) (λ n q. let o = one_at-other x.room r n in let t = ranges_apart F r xs g (omega arith) q in omega arith) is

none_joined : (F : MovingRange → ℕ) (g : MovingRange) (gs : List MovingRange) → total (λ (h : MovingRange). one_if (is_below g h)) gs ≡ 0 → total F (map (joined_range g) gs) ≡ total F gs
unfolding total
none_joined F g [] z = refl
none_joined F g (x ∷ xs) z = let t = none_joined F g xs (omega arith) in test-cases (is_below g x) (λ b. one_if b ≡ 0 → F (cond b (record x { base = greater g.base x.base; high = g.high; carried = x.carried ++ g.carried }) x) + total F (map (joined_range g) xs) ≡ F x + total F xs) (λ _ p. absurd (omega arith)) (λ _ _. omega arith) (omega arith)

-- the one that is just below is joined
pub one_joined : (g : MovingRange) (gs : List MovingRange) → total (λ (h : MovingRange). one_if (is_below g h)) gs ≡ 1 → (h : MovingRange) × (is_below g h ≡ true) × ((F : MovingRange → ℕ) → (F h ≤ total F gs) × (total F (map (joined_range g) gs) + F h ≡ total F gs + F (joined_by g h)))
unfolding total
one_joined g [] one = absurd (omega arith)
one_joined g (x ∷ xs) one = test-cases (is_below g x) (λ b. (is_below g x ≡ b) → one_if b + total (λ (h : MovingRange). one_if (is_below g h)) xs ≡ 1
    → (h : MovingRange) × (is_below g h ≡ true) × ((F : MovingRange → ℕ) → (F h ≤ F x + total F xs) × (F (cond b (joined_by g x) x) + total F (map (joined_range g) xs) + F h ≡ F x + total F xs + F (joined_by g h))))
    (λ _ e o. (x, e, (λ F. let t = none_joined F g xs (omega arith) in (omega arith, omega arith)))) (λ _ e o. let t = one_joined g xs (omega arith) in (t.0, t.1, (λ F. let q = t.2 F in let q0 = q.0 in let q1 = q.1 in (omega arith, omega arith)))) refl one
