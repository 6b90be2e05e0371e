-- Ranges and entries are cut otherwise: a room takes all of a moving range, or its upper part. What is added up over the covers stays, and no base falls.
use Rattle.std.proofs.Common.{eqb-true, ◌≡◌, ℕ, zero, suc, ◌+◌, ◌-◌, ◌*◌, ◌<◌, ◌≤◌, ◌==◌, cond, Bool, true, false, List, [], ◌∷◌, ◌++◌, map, sym, refl, ap, ◌∙◌, arith, le-leb}
use Rattle.std.specs.Prelude.{not, filter, nat_le}
use mathlib.Core.Option.{some, some-injective, some-ne-none}
use lib.ListN.{get_elem?}
use Rattle.chunk_core.specs.declared.holds.Carried.{Carried}
use Rattle.chunk_core.specs.declared.holds.MovingRange.{MovingRange}
use Rattle.chunk_core.specs.declared.holds.RoomCopy.{RoomCopy}
use Rattle.chunk_core.specs.declared.holds.RoomHolds.{RoomHolds}
use Rattle.std.proofs.lemmas.Bool.{leb-true, leb-false, not-true}
use Rattle.oak_model.specs.Counts.{one_at, total}
use Rattle.oak_model.specs.Limits.{Sizes}
use Rattle.oak_model.proofs.Counting.{total_append, total_map, both_true}
use Rattle.oak_model.proofs.SumLaws.{plus_times}
use Rattle.oak_model.proofs.MemberLaws.{total_split, total_passed, filter_all}
use Rattle.chunk_core.specs.CoverRule.{CoversPartition}
use Rattle.chunk_core.specs.CoverSums.{each, is_in, base_for, keyless, stray, naming, names, all_of, word_of, base_of}
use Rattle.chunk_core.specs.Covers.{Entry, Cover, entry_from, cover_from}
use Rattle.chunk_core.specs.KeyWords.{key_in, least_number, low_number, high_number, high_from}
use Rattle.chunk_core.specs.MovingRanges.{takes, is_upper, upper_of, left_of, ranges_left}
use Rattle.chunk_core.specs.Rooms.{RoomMemory}
use Rattle.chunk_core.specs.Spans.{Span, past_high, within}
use Rattle.chunk_core.specs.ValueWord.{names_header}
use Rattle.chunk_core.proofs.SpanLaws.{cut_span, ends_past, upper_at, lower_at, high_from-is, past-le, past-cases}

-- the same ranges and entries, cut otherwise
pub record Parted (gs gs' : List Cover) : Type 0 where
  pub spans : (k : ℕ) → total (is_in k) gs' ≡ total (is_in k) gs
  pub entries : (f : Entry → ℕ) → total (each (λ _ x. f x)) gs' ≡ total (each (λ _ x. f x)) gs
  pub inside : total (each stray) gs ≡ 0 → total (each stray) gs' ≡ 0
  pub base : (k : ℕ) → total (base_for k) gs ≤ total (base_for k) gs'
  pub begun : total (λ (c : Cover). 1 - within c.span c.span.low) gs ≡ 0 → total (λ (c : Cover). 1 - within c.span c.span.low) gs' ≡ 0
  pub keyed : total (λ (c : Cover). keyless c.span) gs ≡ 0 → total (λ (c : Cover). keyless c.span) gs' ≡ 0
  pub bases : (G : ℕ → ℕ) → total (λ (c : Cover). G c.span.base) gs ≡ 0 → total (λ (c : Cover). G c.span.base) gs' ≡ 0

pub parted_same : (gs : List Cover) → Parted gs gs
parted_same gs = record { spans = λ _. refl; entries = λ _. refl; inside = λ e. e; base = λ _. omega arith; begun = λ e. e; keyed = λ e. e; bases = λ _ e. e }

-- what it leaves of the covers
module _ (z : Sizes) (m m' : RoomMemory) (content : ℕ → List ℕ) (is_key_word : ℕ → ℕ) (hs hs' : List RoomHolds) (gs gs' : List Cover) (parted : Parted gs gs')
    (step : (F : Cover → ℕ) → all_of z m' content hs' F + total F gs ≡ all_of z m content hs F + total F gs') where
  -- nothing that is added up over entries changes
  pub entries_still : (f : Entry → ℕ) → all_of z m' content hs' (each (λ _ x. f x)) ≡ all_of z m content hs (each (λ _ x. f x))
  entries_still f = let s = step (each (λ _ x. f x)) in let e = parted.entries f in omega arith

  pub base_more : (k : ℕ) → base_of z m content hs k ≤ base_of z m' content hs' k
  base_more k = let s = step (base_for k) in let e = parted.base k in omega arith

  pub word_still : (k : ℕ) → word_of z m' content hs' k ≡ word_of z m content hs k
  word_still k = entries_still (λ x. one_at x.key k * (x.value + 1))

  pub names_still : (h : ℕ) → all_of z m' content hs' (each (naming h)) ≡ all_of z m content hs (each (naming h))
  names_still h = entries_still (λ x. names h x.value)

  pub parted_covers : (total (λ (c : Cover). 1 - within c.span c.span.low) gs ≡ 0) → (total (λ (c : Cover). keyless c.span) gs ≡ 0) → (total (each stray) gs ≡ 0) → (total (λ (c : Cover). names_header c.span.base) gs ≡ 0) → CoversPartition z m content is_key_word hs → CoversPartition z m' content is_key_word hs'
  parted_covers all_begun all_keyed no_stray no_name c = record {
    covered = λ k. let s = step (is_in k) in let e = parted.spans k in let t = c.covered k in omega arith;
    once = λ k. let s = entries_still (λ x. one_at x.key k) in let t = c.once k in omega arith;
    inside = let s = step (each stray) in let e = parted.inside no_stray in let t = c.inside in omega arith;
    placed = let s = entries_still (λ x. 1 - is_key_word x.word) in let t = c.placed in omega arith;
    begun = let s = step (λ u. 1 - within u.span u.span.low) in let e = parted.begun all_begun in let t = c.begun in omega arith;
    keyed = let s = step (λ u. keyless u.span) in let e = parted.keyed all_keyed in let t = c.keyed in omega arith;
    bases = let s = step (λ u. names_header u.span.base) in let e = parted.bases names_header no_name in let t = c.bases in omega arith;
  }

-- the range that is taken is the one at its place, and of it what is left stays
pub ranges_left-is : (w : RoomCopy) (F : Cover → ℕ) (gs : List MovingRange) (i : ℕ) (g : MovingRange) → get_elem? gs i ≡ some g → takes w g ≡ true → ((j : ℕ) (h : MovingRange) → get_elem? gs j ≡ some h → j < i → takes w h ≡ false)
    → total F (map cover_from (ranges_left w gs)) + F (cover_from g) ≡ total F (map cover_from gs) + total F (map cover_from (left_of w g))
unfolding total ranges_left
ranges_left-is w F [] i g at taken first = absurd (some-ne-none g (sym at))
ranges_left-is w F (h ∷ hs) zero g at taken first = let e : h ≡ g = some-injective h g at in let n = ap (λ (t : MovingRange). F (cover_from t)) e in
    let is : total F (map cover_from (cond (takes w h) (left_of w h ++ hs) (h ∷ ranges_left w hs))) ≡ total F (map cover_from (left_of w g ++ hs)) = ap (λ (b : Bool). total F (map cover_from (cond b (left_of w h ++ hs) (h ∷ ranges_left w hs)))) (ap (takes w) e ∙ taken) ∙ ap (λ (t : MovingRange). total F (map cover_from (left_of w t ++ hs))) e in
    let a = total_map cover_from F (left_of w g ++ hs) in let b = total_append (λ (t : MovingRange). F (cover_from t)) (left_of w g) hs in let c = total_map cover_from F (left_of w g) in let d = total_map cover_from F hs in omega arith
ranges_left-is w F (h ∷ hs) (suc i) g at taken first = let r = ranges_left-is w F hs i g at taken (λ j x e l. first (suc j) x e (omega arith)) in
    let is : total F (map cover_from (cond (takes w h) (left_of w h ++ hs) (h ∷ ranges_left w hs))) ≡ F (cover_from h) + total F (map cover_from (ranges_left w hs)) = ap (λ (b : Bool). total F (map cover_from (cond b (left_of w h ++ hs) (h ∷ ranges_left w hs)))) (first zero h refl (omega arith)) in omega arith

-- A cover with the copy's bounds and base, and the entries of the upper part of a range: with what is left of the range it is the range.
module _ (w : RoomCopy) (g : MovingRange) (c : Cover) (taken : takes w g ≡ true) (base : w.base ≡ g.base) (under : within (record { low = low_number g.low; high = high_number g.high; base = 0 }) (low_number w.low) ≡ 1)
    (c_low : c.span.low ≡ low_number w.low) (c_high : c.span.high ≡ high_number w.high) (c_base : c.span.base ≡ w.base)
    (entries : (f : Entry → ℕ) → total f c.entries ≡ total f (map entry_from (upper_of w g))) (no_stray : each stray (cover_from g) ≡ 0) where
  high_same : c.span.high ≡ high_number g.high
  high_same = c_high ∙ eqb-true (high_number w.high) (high_number g.high) (both_true (high_number w.high == high_number g.high) (nat_le (low_number g.low) (low_number w.low)) taken).0

  stray_on : total (λ (x : Carried). stray (cover_from g).span (entry_from x)) g.carried ≡ 0
  stray_on = sym (total_map entry_from (stray (cover_from g).span) g.carried) ∙ no_stray

  within-one : (k : ℕ) → 1 - within (cover_from g).span k ≡ 0 → within (cover_from g).span k ≡ 1
  within-one k e = let p = past-le (low_number g.low) k in omega arith

  module _ (whole : low_number w.low ≡ low_number g.low) where
    all_upper : upper_of w g ≡ g.carried
    all_upper = filter_all (is_upper w) (λ (x : Carried). stray (cover_from g).span (entry_from x)) g.carried (λ x e. le-leb (low_number w.low) (key_in x.word x.words) (at_least (key_in x.word x.words) (within-one (key_in x.word x.words) e))) stray_on
      where
        at_least : (k : ℕ) → within (cover_from g).span k ≡ 1 → low_number w.low ≤ k
        at_least k e = past-cases (low_number g.low) k (λ (t : ℕ). t - past_high (high_number g.high) k ≡ 1 → low_number w.low ≤ k) (λ l _. omega arith) (λ _ q. absurd (omega arith)) e

    span_same : c.span ≡ (cover_from g).span
    span_same = λ i. record { low = (c_low ∙ whole) i; high = high_same i; base = (c_base ∙ base) i }

    pub whole_parted : Parted (cover_from g ∷ []) (c ∷ [])
    unfolding total
    whole_parted = record {
      spans = λ k. let e = ap (λ (s : Span). within s k) span_same in omega arith;
      entries = λ f. let e = entries f in let u = ap (λ (l : List Carried). total f (map entry_from l)) all_upper in omega arith;
      inside = λ _. let e = entries (stray c.span) in let u = ap (λ (l : List Carried). total (stray c.span) (map entry_from l)) all_upper in let s = ap (λ (t : Span). total (stray t) (map entry_from g.carried)) span_same in let n = no_stray in omega arith;
      base = λ k. let e = ap (λ (s : Span). within s k * s.base) span_same in omega arith;
      begun = λ e. let s = ap (λ (t : Span). 1 - within t t.low) span_same in omega arith;
      keyed = λ e. let s = ap keyless span_same in omega arith;
      bases = λ G e. let s = ap (λ (t : Span). G t.base) span_same in omega arith;
    }

  lower : MovingRange
  lower = record g { high = high_from w.low; carried = filter (λ x. not (is_upper w x)) g.carried }

  abbrev rest : Cover
  rest = cover_from (record g { high = high_from w.low; carried = filter (λ x. not (is_upper w x)) g.carried })

  spans_cut : (k : ℕ) → within rest.span k + within c.span k ≡ within (cover_from g).span k
  spans_cut = cut_span (record { low = low_number g.low; high = high_number g.high; base = 0 }) rest.span c.span (low_number w.low) refl (high_from-is w.low) c_low high_same under

  entries_cut : (f : Entry → ℕ) → total f rest.entries + total f c.entries ≡ total f (map entry_from g.carried)
  entries_cut f = let e = entries f in let a = total_map entry_from f (filter (is_upper w) g.carried) in let b = total_map entry_from f (filter (λ x. not (is_upper w x)) g.carried) in let t = total_map entry_from f g.carried in
      let s = total_split (is_upper w) (λ (x : Carried). f (entry_from x)) g.carried in omega arith

  upper_in : total (stray c.span) c.entries ≡ 0
  upper_in = entries (stray c.span) ∙ (total_map entry_from (stray c.span) (filter (is_upper w) g.carried)
      ∙ total_passed (is_upper w) (λ (x : Carried). stray (cover_from g).span (entry_from x)) (λ (x : Carried). stray c.span (entry_from x)) g.carried (λ x passed e. let i = within-one (key_in x.word x.words) e in
      let u = upper_at (record { low = low_number g.low; high = high_number g.high; base = 0 }) rest.span c.span (low_number w.low) refl (high_from-is w.low) c_low high_same under (key_in x.word x.words) i (leb-true (low_number w.low) (key_in x.word x.words) passed) in omega arith) stray_on)

  lower_in : total (stray rest.span) rest.entries ≡ 0
  lower_in = total_map entry_from (stray rest.span) (filter (λ x. not (is_upper w x)) g.carried)
      ∙ total_passed (λ x. not (is_upper w x)) (λ (x : Carried). stray (cover_from g).span (entry_from x)) (λ (x : Carried). stray rest.span (entry_from x)) g.carried (λ x passed e. let i = within-one (key_in x.word x.words) e in
      let u = lower_at (record { low = low_number g.low; high = high_number g.high; base = 0 }) rest.span c.span (low_number w.low) refl (high_from-is w.low) c_low high_same under (key_in x.word x.words) i (leb-false (low_number w.low) (key_in x.word x.words) (not-true (is_upper w x) passed)) in omega arith) stray_on

  pub upper_parted : low_number g.low < low_number w.low → least_number < low_number w.low → Parted (cover_from g ∷ []) (c ∷ rest ∷ [])
  unfolding total
  upper_parted lower_low some_key = record {
    spans = λ k. let e = spans_cut k in omega arith;
    entries = λ f. let e = entries_cut f in omega arith;
    inside = λ _. let a = upper_in in let b = lower_in in omega arith;
    base = λ k. let e = spans_cut k in let t = ap (λ (y : ℕ). y * g.base) e in let p = plus_times (within rest.span k) (within c.span k) g.base in let q = ap (λ (y : ℕ). within c.span k * y) (c_base ∙ base) in omega arith;
    begun = λ e. let a = upper_at (record { low = low_number g.low; high = high_number g.high; base = 0 }) rest.span c.span (low_number w.low) refl (high_from-is w.low) c_low high_same under (low_number w.low) under (omega arith) in let b = ap (within c.span) c_low in
        let d = lower_at (record { low = low_number g.low; high = high_number g.high; base = 0 }) rest.span c.span (low_number w.low) refl (high_from-is w.low) c_low high_same under (low_number g.low) (within-one (low_number g.low) (omega arith)) lower_low in omega arith;
    keyed = λ e. let s = ap (λ (y : ℕ). past_high y least_number) high_same in let p = ap (λ (y : ℕ). past_high y least_number) (high_from-is w.low) in let q = ends_past (low_number w.low) least_number some_key in omega arith;
    bases = λ G e. let s = ap G (c_base ∙ base) in omega arith;
  }
