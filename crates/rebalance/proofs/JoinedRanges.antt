-- Moving ranges that have no key in common, of which one may lie just below the other, and the range that they are together.
use Rattle.std.proofs.Common.{◌≡◌, ◌≢◌, ℕ, zero, suc, ◌+◌, ◌-◌, ◌<◌, ◌≤◌, ◌==◌, ◌⊎◌, cond, Bool, true, List, [], ◌∷◌, ◌++◌, sym, refl, ap, ◌∙◌, inl, inr, ⊎_elim, arith, eqb-true, Option, Some}
use mathlib.Core.Logic.{dite}
use mathlib.Core.Option.{some}
use native.Mathlib.Decide.{dec_lt}
use lib.ListN.{get_elem?}
use Rattle.oak_model.specs.Counts.{one_at, total, Each, Has}
use Rattle.oak_model.proofs.Counting.{one_at-true, test-cases, total_append}
use Rattle.oak_model.proofs.Lists.{at_map, each_append}
use Rattle.oak_model.proofs.MemberLaws.{each_has, has_some}
use Rattle.chunk_core.specs.declared.holds.Carried.{Carried}
use Rattle.chunk_core.specs.declared.holds.MovingRange.{MovingRange}
use Rattle.chunk_core.specs.KeyWords.{key_in, low_number, high_number}
use Rattle.chunk_core.specs.MovingRanges.{is_below, joined_by, joined_range, joined_to, range_of, ranges_without, ranges_joined, range_without}
use Rattle.chunk_core.specs.Spans.{Span, past, past_high, within}
use Rattle.chunk_core.specs.ValueWord.{names_header}
use Rattle.chunk_core.proofs.RangeMoves.{greater-cases}
use Rattle.chunk_core.proofs.SpanLaws.{past-le, past-cases, within-le, high-some, ends_behind, joined_span}
use Rattle.oak_core.specs.EntryOwners.{is_key_word}
use Rattle.rebalance.specs.declared.entries.Entry.{Entry}
use Rattle.rebalance.specs.DroppedRange.{sum_of, sum_carried, dropped_range}
use Rattle.rebalance.specs.Entries.{lacks_value, dropped}
use Rattle.rebalance.specs.Mirrors.{RangeStands, range_span, carried_key}
use Rattle.rebalance.proofs.DroppedRange.{filter_has, keeps_all}
use Rattle.rebalance.proofs.MirroredEntries.{carried_for, each_of}

-- a member of two lists that were joined is one of either
pub has_parts : {A : Type 0} (x : A) (xs ys : List A) → Has x (xs ++ ys) → Has x xs ⊎ Has x ys
has_parts x [] ys h = inr h
has_parts x (y ∷ xs) ys (inl e) = inl (inl e)
has_parts x (y ∷ xs) ys (inr h) = ⊎_elim (λ a. inl (inr a)) (λ b. inr b) (has_parts x xs ys h)

has_place : {A : Type 0} (xs : List A) (x : A) → Has x xs → (i : ℕ) × (get_elem? xs i ≡ some x)
has_place [] x h = absurd h
has_place (y ∷ xs) x (inl e) = (zero, ap some (sym e))
has_place (y ∷ xs) x (inr h) = let t = has_place xs x h in (suc t.0, t.1)

-- a key of a range that ends behind a number is not past it
pub within_high : (s : Span) (b k : ℕ) → s.high ≡ b + 1 → within s k ≡ 1 → k < b
within_high s b k e i = let p = past-le s.low k in let a = high-some s.high k (λ z. absurd (omega arith)) in let q : past (s.high - 1) k ≡ past b k = ap (λ (n : ℕ). past n k) (let r : s.high - 1 ≡ b = omega arith in r) in
    past-cases b k (λ (t : ℕ). past b k ≡ t → k < b) (λ _ y. absurd (omega arith)) (λ l _. l) refl

-- A range has at most one entry of each of its keys, and none of another.
pub once_within : (g : MovingRange) → RangeStands g → (k : ℕ) → total (λ (c : Carried). one_at (carried_key c) k) g.carried ≤ within (range_span g) k
once_within g stands k = let o = stands.once k in dite (dec_lt 0 (total (λ (c : Carried). one_at (carried_key c) k) g.carried))
    (λ l. let t = has_some (λ (c : Carried). one_at (carried_key c) k) g.carried l in
    let i = each_has (λ (c : Carried). within (range_span g) (carried_key c) ≡ 1) g.carried t.0 stands.inside t.1 in let e = ap (within (range_span g)) (one_at-true (carried_key t.0) k t.2) in omega arith)
    (λ n. omega arith)

-- where no carried entry has one of these words, none is dropped
drops_none : (h : MovingRange) (ds : List Entry) → ((e : Entry) → Has e ds → total (λ (c : Carried). one_at c.word e.place) h.carried ≡ 0) → dropped_range ds h ≡ h
unfolding dropped_range
drops_none h [] none = refl
drops_none h (d ∷ ds) none = ap (dropped_range ds) (test-cases (d.place == 0) (λ b. cond b h (range_without d.place h) ≡ h) (λ _. refl) (λ _. let k = keeps_all d.place h.base h.carried (none d (inl refl)) in λ i. record h { base = k.1 i; carried = k.0 i })) ∙ drops_none h ds (λ e m. none e (inr m))

-- Two ranges without a key in common, whose carried words are those of the blocks: what is dropped of one is not of the other.
module _ (content : ℕ → List ℕ) (g h : MovingRange) (true_g : Each (λ (c : Carried). content c.word ≡ c.words) g.carried) (true_h : Each (λ (c : Carried). content c.word ≡ c.words) h.carried) (stands_g : RangeStands g) (stands_h : RangeStands h)
    (apart : (k : ℕ) → within (range_span g) k + within (range_span h) k ≤ 1) where
  -- no key word is carried by both
  pub words_apart : (c d : Carried) → Has c g.carried → Has d h.carried → c.word ≢ d.word
  words_apart c d ch dh e = let same : carried_key c ≡ carried_key d = ap (key_in c.word) (sym (each_has (λ (x : Carried). content x.word ≡ x.words) g.carried c true_g ch)) ∙ (ap (λ (w : ℕ). key_in w (content w)) e ∙ ap (key_in d.word) (each_has (λ (x : Carried). content x.word ≡ x.words) h.carried d true_h dh)) in
      let a = each_has (λ (x : Carried). within (range_span g) (carried_key x) ≡ 1) g.carried c stands_g.inside ch in let b = each_has (λ (x : Carried). within (range_span h) (carried_key x) ≡ 1) h.carried d stands_h.inside dh in
      let s = ap (within (range_span h)) same in let n = apart (carried_key c) in omega arith

  -- the words of entries of the one are none of the other
  words_else : (es : List Entry) → ((f : ℕ → ℕ → ℕ) → sum_of f es ≡ sum_carried f g.carried) → (e : Entry) → Has e es → total (λ (c : Carried). one_at c.word e.place) h.carried ≡ 0
  words_else es same e m = let at = has_place es e m in let c = carried_for es g same at.0 e at.1 in dite (dec_lt 0 (total (λ (x : Carried). one_at x.word e.place) h.carried))
      (λ l. let t = has_some (λ (x : Carried). one_at x.word e.place) h.carried l in absurd (words_apart c.0 t.0 c.1 t.1 (c.2 ∙ sym (one_at-true t.0.word e.place t.2))))
      (λ n. omega arith)

  -- so the other range stays as it is
  pub dropped_beside : (es : List Entry) → ((f : ℕ → ℕ → ℕ) → sum_of f es ≡ sum_carried f g.carried) → dropped_range (dropped es) h ≡ h
  dropped_beside es same = drops_none h (dropped es) (λ e m. words_else es same e (filter_has lacks_value es e m))

-- The range h lies just below g.
module _ (g h : MovingRange) (stands_g : RangeStands g) (stands_h : RangeStands h) (below : is_below g h ≡ true) where
  -- it ends where g begins
  pub below_is : high_number h.high ≡ low_number g.low + 1
  below_is = eqb-true (high_number h.high) (low_number g.low + 1) below

  -- the two have the keys that they have together
  pub spans : (k : ℕ) → within (range_span (joined_by g h)) k ≡ within (range_span h) k + within (range_span g) k
  spans k = let e = ends_behind (range_span h) (low_number g.low) below_is stands_h.begun in let p = past-le (low_number g.low) (low_number g.low) in let b = stands_g.begun in
      joined_span (range_span h) (range_span g) (range_span (joined_by g h)) refl below_is refl e (let z : past_high (high_number g.high) (low_number g.low) ≡ 0 = omega arith in z) k

  -- they have no key in common
  pub below_apart : (k : ℕ) → within (range_span g) k + within (range_span h) k ≤ 1
  below_apart k = let s = spans k in let l = within-le (range_span (joined_by g h)) k in omega arith

  -- what the rule says of both it says of what they are together
  pub joined_stands : RangeStands (joined_by g h)
  joined_stands = let whole : (k : ℕ) → 1 ≤ within (range_span h) k + within (range_span g) k → within (range_span (joined_by g h)) k ≡ 1 = λ k l. let s = spans k in let m = within-le (range_span (joined_by g h)) k in omega arith in record {
    inside = each_of (λ (c : Carried). within (range_span (joined_by g h)) (carried_key c) ≡ 1) (h.carried ++ g.carried) (λ c m. ⊎_elim
        (λ (a : Has c h.carried). whole (carried_key c) (let i = each_has (λ (x : Carried). within (range_span h) (carried_key x) ≡ 1) h.carried c stands_h.inside a in omega arith))
        (λ (a : Has c g.carried). whole (carried_key c) (let i = each_has (λ (x : Carried). within (range_span g) (carried_key x) ≡ 1) g.carried c stands_g.inside a in omega arith)) (has_parts c h.carried g.carried m));
    begun = whole (low_number h.low) (let b = stands_h.begun in omega arith);
    once = λ k. let a = once_within h stands_h k in let b = once_within g stands_g k in let l = below_apart k in let t = total_append (λ (c : Carried). one_at (carried_key c) k) h.carried g.carried in omega arith;
    placed = each_append (λ (c : Carried). is_key_word c.word ≡ 1) h.carried g.carried stands_h.placed stands_g.placed;
    floor = greater-cases g.base h.base (λ n. names_header n ≡ 0) (λ _. stands_h.floor) (λ _. stands_g.floor);
  }

  -- and that stands in the place of the lower one once the room of the upper one is retired
  pub joined_there : (r : ℕ) (gs : List MovingRange) (i : ℕ) → range_of r gs ≡ Some g → get_elem? (ranges_without r gs) i ≡ some h → get_elem? (ranges_joined r gs) i ≡ some (joined_by g h)
  joined_there r gs i is at = ap (λ (o : Option MovingRange). get_elem? (joined_to o (ranges_without r gs)) i) is ∙ (at_map (joined_range g) (ranges_without r gs) i h at ∙ ap (λ (b : Bool). some (cond b (joined_by g h) h)) below)
