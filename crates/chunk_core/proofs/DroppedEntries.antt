-- A key word is taken away from a held room: the carried entries of that word without a value are dropped, and the base of their range rises to their floors.
use Rattle.std.proofs.Common.{eqb-true, ◌≡◌, ◌≢◌, ℕ, ◌+◌, ◌-◌, ◌*◌, ◌<◌, ◌≤◌, ◌==◌, cond, Bool, true, List, [], ◌∷◌, map, sym, refl, ap, ◌∙◌, subst, inl, inr, arith}
use Rattle.std.specs.Prelude.{filter, not}
use mathlib.Core.Option.{some}
use lib.ListN.{get_elem?}
use Rattle.chunk_core.specs.declared.holds.Carried.{Carried}
use Rattle.chunk_core.specs.declared.holds.MovingRange.{MovingRange}
use Rattle.chunk_core.specs.declared.holds.RoomHolds.{RoomHolds}
use Rattle.oak_model.specs.Counts.{one_at, total, Each, Has}
use Rattle.oak_model.specs.Limits.{Sizes}
use Rattle.oak_model.proofs.Counting.{one_at-same, one_at-other, test-cases, both_true, total_map, total_at, total_some, below_at}
use Rattle.oak_model.proofs.Lists.{at_map}
use Rattle.oak_model.proofs.MemberLaws.{each_at, total_has, has_filter, filter-cases, total_split}
use Rattle.oak_model.proofs.SumLaws.{times-one, times-none, times_le, total_none}
use Rattle.chunk_core.specs.CoverRule.{CoversPartition}
use Rattle.chunk_core.specs.CoverSums.{weight, each, is_in, base_for, stray, naming, names, all_of, word_of, base_of, keyless}
use Rattle.chunk_core.specs.Covers.{Entry, Cover, cover_at, span_in, key_at, entry_from, cover_from, moving_of}
use Rattle.chunk_core.specs.KeyWords.{key_in, low_number}
use Rattle.chunk_core.specs.MovingRanges.{is_dropped, greater, base_with, range_without}
use Rattle.chunk_core.specs.RoomRule.{AreTrueRanges}
use Rattle.chunk_core.specs.Rooms.{RoomMemory}
use Rattle.chunk_core.specs.Spans.{Span, within}
use Rattle.chunk_core.specs.ValueWord.{names_header, header_in}
use Rattle.chunk_core.proofs.CoverFacts.{word_is}
use Rattle.chunk_core.proofs.CoverLaws.{moves, covers_parts, moves_le, range_le}
use Rattle.chunk_core.proofs.Lookups.{no_word}
use Rattle.chunk_core.proofs.RangeMoves.{greater-cases}
use Rattle.chunk_core.proofs.SpanLaws.{past-le}

-- the base of a range of which entries are dropped

pub base_rises : (word base : ℕ) (cs : List Carried) → base ≤ base_with word base cs
unfolding base_with
base_rises word base [] = omega arith
base_rises word base (c ∷ cs) = let r = base_rises word base cs in test-cases (is_dropped word c) (λ t. base ≤ cond t (greater c.value (base_with word base cs)) (base_with word base cs)) (λ _. greater-cases c.value (base_with word base cs) (λ t. base ≤ t) (λ _. r) (λ l. omega arith)) (λ _. r)

pub floor_under : (word base : ℕ) (cs : List Carried) (c : Carried) → Has c cs → is_dropped word c ≡ true → c.value ≤ base_with word base cs
unfolding base_with
floor_under word base [] c h d = absurd h
floor_under word base (x ∷ xs) c (inl e) d = let v = ap (λ (t : Carried). t.value) e in subst (λ (t : Bool). c.value ≤ cond t (greater x.value (base_with word base xs)) (base_with word base xs)) (sym (sym (ap (is_dropped word) e) ∙ d))
    (greater-cases x.value (base_with word base xs) (λ t. c.value ≤ t) (λ l. omega arith) (λ l. omega arith))
floor_under word base (x ∷ xs) c (inr h) d = let r = floor_under word base xs c h d in test-cases (is_dropped word x) (λ t. c.value ≤ cond t (greater x.value (base_with word base xs)) (base_with word base xs)) (λ _. greater-cases x.value (base_with word base xs) (λ t. c.value ≤ t) (λ _. r) (λ l. omega arith)) (λ _. r)

pub dropped_is : (word : ℕ) (c : Carried) → is_dropped word c ≡ true → (c.word ≡ word) × (names_header c.value ≡ 0)
dropped_is word c e = let t = both_true (c.word == word) (names_header c.value == 0) e in (eqb-true c.word word t.0, eqb-true (names_header c.value) 0 t.1)

-- what holds of the base and of the floors holds of the base afterwards
pub base_has : (P : ℕ → Type 0) (word base : ℕ) (cs : List Carried) → P base → ((c : Carried) → is_dropped word c ≡ true → P c.value) → P (base_with word base cs)
unfolding base_with
base_has P word base [] p f = p
base_has P word base (c ∷ cs) p f = let r = base_has P word base cs p f in test-cases (is_dropped word c) (λ t. P (cond t (greater c.value (base_with word base cs)) (base_with word base cs))) (λ d. greater-cases c.value (base_with word base cs) P (λ _. r) (λ _. f c d)) (λ _. r)

-- what the dropped entries added

abbrev pub dropped_by : (Entry → ℕ) → ℕ → MovingRange → ℕ
dropped_by f word g = total (λ (c : Carried). f (entry_from c)) (filter (is_dropped word) g.carried)

pub range_split : (f : Entry → ℕ) (word : ℕ) (g : MovingRange) → total f (map entry_from (range_without word g).carried) + dropped_by f word g ≡ total f (map entry_from g.carried)
range_split f word g = let a = total_map entry_from f (filter (λ c. not (is_dropped word c)) g.carried) in let b = total_map entry_from f g.carried in let s = total_split (is_dropped word) (λ (c : Carried). f (entry_from c)) g.carried in omega arith

pub ranges_split : (f : Entry → ℕ) (word : ℕ) (gs : List MovingRange) → total (each (λ _ x. f x)) (map cover_from (map (range_without word) gs)) + total (dropped_by f word) gs ≡ total (each (λ _ x. f x)) (map cover_from gs)
unfolding total
ranges_split f word [] = refl
ranges_split f word (g ∷ gs) = let a = range_split f word g in let t = ranges_split f word gs in omega arith

ranges_span : (f : ℕ → ℕ → ℕ) (word : ℕ) (gs : List MovingRange) → total (λ (c : Cover). f c.span.low c.span.high) (map cover_from (map (range_without word) gs)) ≡ total (λ (c : Cover). f c.span.low c.span.high) (map cover_from gs)
unfolding total
ranges_span f word [] = refl
ranges_span f word (g ∷ gs) = let t = ranges_span f word gs in omega arith

-- the rest of the entries are no more stray than all
ranges_stray : (word : ℕ) (gs : List MovingRange) → total (each stray) (map cover_from (map (range_without word) gs)) ≤ total (each stray) (map cover_from gs)
unfolding total
ranges_stray word [] = omega arith
ranges_stray word (g ∷ gs) = let t = ranges_stray word gs in let a = range_split (stray (cover_from g).span) word g in
    let same : each stray (cover_from (range_without word g)) ≡ total (stray (cover_from g).span) (map entry_from (range_without word g).carried) = refl in omega arith

-- and their bases are no lower
pub ranges_base : (k word : ℕ) (gs : List MovingRange) → total (base_for k) (map cover_from gs) ≤ total (base_for k) (map cover_from (map (range_without word) gs))
unfolding total
ranges_base k word [] = omega arith
ranges_base k word (g ∷ gs) = let t = ranges_base k word gs in let l = times_le (within (cover_from g).span k) g.base (base_with word g.base g.carried) (base_rises word g.base g.carried) in omega arith

ranges_names : (word : ℕ) (gs : List MovingRange) → total (λ (c : Cover). names_header c.span.base) (map cover_from gs) ≡ 0 → total (λ (c : Cover). names_header c.span.base) (map cover_from (map (range_without word) gs)) ≡ 0
unfolding total
ranges_names word [] e = refl
ranges_names word (g ∷ gs) e = let t = ranges_names word gs (omega arith) in let b = base_has (λ n. names_header n ≡ 0) word g.base g.carried (omega arith) (λ c d. (dropped_is word c d).1) in omega arith

none_of : (content : ℕ → List ℕ) (word : ℕ) (f : Entry → ℕ) → ((c : Carried) → is_dropped word c ≡ true → content c.word ≡ c.words → f (entry_from c) ≡ 0) → (cs : List Carried) → Each (λ (c : Carried). content c.word ≡ c.words) cs → total (λ (c : Carried). f (entry_from c)) (filter (is_dropped word) cs) ≡ 0
unfolding total
none_of content word f h [] t = refl
none_of content word f h (c ∷ cs) t = let r = none_of content word f h cs t.1 in filter-cases (is_dropped word) c cs (λ l. total (λ (y : Carried). f (entry_from y)) l ≡ 0) (λ d. let e = h c d t.0 in omega arith) (λ _. r)

none_dropped : (content : ℕ → List ℕ) (word : ℕ) (f : Entry → ℕ) → ((c : Carried) → is_dropped word c ≡ true → content c.word ≡ c.words → f (entry_from c) ≡ 0) → (gs : List MovingRange) → AreTrueRanges content gs → total (dropped_by f word) gs ≡ 0
unfolding total
none_dropped content word f h [] t = refl
none_dropped content word f h (g ∷ gs) t = let a = none_of content word f h g.carried t.0 in let r = none_dropped content word f h gs t.1 in omega arith

one_of : (content : ℕ → List ℕ) (word : ℕ) (cs : List Carried) → Each (λ (c : Carried). content c.word ≡ c.words) cs → 0 < total (λ (c : Carried). 1) (filter (is_dropped word) cs) → (c : Carried) × Has c cs × (is_dropped word c ≡ true) × (content c.word ≡ c.words)
unfolding total
one_of content word [] t p = absurd (omega arith)
one_of content word (c ∷ cs) t p = filter-cases (is_dropped word) c cs (λ l. 0 < total (λ (y : Carried). 1) l → (y : Carried) × Has y (c ∷ cs) × (is_dropped word y ≡ true) × (content y.word ≡ y.words)) (λ d _. (c, inl refl, d, t.0)) (λ _ q. let r = one_of content word cs t.1 q in (r.0, inr r.1, r.2, r.3)) p

dropped_one : (content : ℕ → List ℕ) (word : ℕ) (gs : List MovingRange) (i : ℕ) (g : MovingRange) → get_elem? gs i ≡ some g → AreTrueRanges content gs → 0 < dropped_by (λ _. 1) word g → (c : Carried) × Has c g.carried × (is_dropped word c ≡ true) × (content c.word ≡ c.words)
dropped_one content word gs i g at t p = one_of content word g.carried (each_at (λ (y : MovingRange). Each (λ (c : Carried). content c.word ≡ c.words) y.carried) gs t i g at) p

-- A key word is taken away from a held room: the covers afterwards.
module _ (z : Sizes) (m m' : RoomMemory) (content : ℕ → List ℕ) (is_key_word : ℕ → ℕ) (hs hs' : List RoomHolds) (parts : CoversPartition z m content is_key_word hs) (seat : ℕ) (a b : RoomHolds) (here : get_elem? hs seat ≡ some a) (true_to : AreTrueRanges content a.moving)
    (word : ℕ) (moving : b.moving ≡ map (range_without word) a.moving) (step : (F : Cover → ℕ) → all_of z m' content hs' F + total F (moving_of a) ≡ all_of z m content hs F + total F (moving_of b)) where
  abbrev k0 : ℕ
  k0 = key_at content word

  abbrev pub dropped : (Entry → ℕ) → ℕ
  dropped f = total (dropped_by f word) a.moving

  moving_is : (F : Cover → ℕ) → total F (moving_of b) ≡ total F (map cover_from (map (range_without word) a.moving))
  moving_is F = ap (λ (gs : List MovingRange). total F (map cover_from gs)) moving

  -- what was added up is what is, and what was dropped
  pub with_dropped : (f : Entry → ℕ) → all_of z m' content hs' (each (λ _ x. f x)) + dropped f ≡ all_of z m content hs (each (λ _ x. f x))
  with_dropped f = let s = step (each (λ _ x. f x)) in let r = ranges_split f word a.moving in let e = moving_is (each (λ _ x. f x)) in omega arith

  spans_still : (f : ℕ → ℕ → ℕ) → all_of z m' content hs' (λ c. f c.span.low c.span.high) ≡ all_of z m content hs (λ c. f c.span.low c.span.high)
  spans_still f = let s = step (λ c. f c.span.low c.span.high) in let r = ranges_span f word a.moving in let e = moving_is (λ c. f c.span.low c.span.high) in omega arith

  pub base_more : (k : ℕ) → base_of z m content hs k ≤ base_of z m' content hs' k
  base_more k = let s = step (base_for k) in let r = ranges_base k word a.moving in let e = moving_is (base_for k) in omega arith

  -- what a pass's ranges add is no more than all
  ranges_le : (F : Cover → ℕ) → total F (moving_of a) ≤ all_of z m content hs F
  ranges_le F = moves_le z.chunks m.pin (cover_at m content) hs F seat a here

  pub dropped_partition : CoversPartition z m' content is_key_word hs'
  dropped_partition = record {
    covered = λ k. spans_still (λ low high. within (record { low = low; high = high; base = 0 }) k) ∙ parts.covered k;
    once = λ k. let d = with_dropped (λ x. one_at x.key k) in let o = parts.once k in omega arith;
    inside = let s = step (each stray) in let r = ranges_stray word a.moving in let e = moving_is (each stray) in let i = parts.inside in omega arith;
    placed = let d = with_dropped (λ x. 1 - is_key_word x.word) in let p = parts.placed in omega arith;
    begun = spans_still (λ low high. 1 - within (record { low = low; high = high; base = 0 }) low) ∙ parts.begun;
    keyed = spans_still (λ low high. keyless (record { low = low; high = high; base = 0 })) ∙ parts.keyed;
    bases = let s = step (λ c. names_header c.span.base) in let l = ranges_le (λ c. names_header c.span.base) in let n = parts.bases in let r = ranges_names word a.moving (omega arith) in let e = moving_is (λ c. names_header c.span.base) in omega arith;
  }

  -- all that is dropped is of the key that the word names
  dropped_zero : (f : Entry → ℕ) → ((c : Carried) → is_dropped word c ≡ true → content c.word ≡ c.words → f (entry_from c) ≡ 0) → dropped f ≡ 0
  dropped_zero f h = none_dropped content word f h a.moving true_to

  key_is : (c : Carried) → is_dropped word c ≡ true → content c.word ≡ c.words → key_in c.word c.words ≡ k0
  key_is c d t = ap (key_in c.word) (sym t) ∙ ap (λ (y : ℕ). key_at content y) (dropped_is word c d).0

  pub word_else : (k : ℕ) → k ≢ k0 → word_of z m' content hs' k ≡ word_of z m content hs k
  word_else k ne = let d = with_dropped (λ x. one_at x.key k * (x.value + 1)) in let n = dropped_zero (λ x. one_at x.key k * (x.value + 1)) (λ c y t. times-none (one_at (key_in c.word c.words) k) (c.value + 1) (one_at-other (key_in c.word c.words) k (λ e. ne (sym e ∙ key_is c y t)))) in omega arith

  -- what is dropped names no header
  pub names_still : (h : ℕ) → all_of z m' content hs' (each (naming h)) ≡ all_of z m content hs (each (naming h))
  names_still h = let d = with_dropped (λ x. names h x.value) in let n = dropped_zero (λ x. names h x.value) (λ c y t. times-none (names_header c.value) (one_at (header_in c.value) h) (dropped_is word c y).1) in omega arith

  -- nothing is dropped
  pub none_same : dropped (λ _. 1) ≡ 0 → (k : ℕ) → word_of z m' content hs' k ≡ word_of z m content hs k
  none_same e k = let d = with_dropped (λ x. one_at x.key k * (x.value + 1)) in let n = all_none (λ x. one_at x.key k * (x.value + 1)) e in omega arith
    where
      all_none : (f : Entry → ℕ) → dropped (λ _. 1) ≡ 0 → dropped f ≡ 0
      all_none f e = total_none (dropped_by (λ _. 1) word) (dropped_by f word) a.moving (λ g q. total_none (λ (c : Carried). 1) (λ (c : Carried). f (entry_from c)) (filter (is_dropped word) g.carried) (λ c y. absurd (omega arith)) q) e

  -- an entry is dropped: of its key nothing is left, and the base of its cover is not below its floor
  pub which : 0 < dropped (λ _. 1) → (i : ℕ) × (g : MovingRange) × (get_elem? a.moving i ≡ some g) × ((c : Carried) × Has c g.carried × (is_dropped word c ≡ true) × (content c.word ≡ c.words))
  which l = let t = total_some (dropped_by (λ _. 1) word) a.moving l in (t.0, t.1, t.2, dropped_one content word a.moving t.0 t.1 t.2 true_to t.3)

  module _ (i : ℕ) (g : MovingRange) (range : get_elem? a.moving i ≡ some g) (c0 : Carried) (has : Has c0 g.carried) (drop : is_dropped word c0 ≡ true) (true_word : content c0.word ≡ c0.words) where
    pub floor : names_header c0.value ≡ 0
    floor = (dropped_is word c0 drop).1

    key0 : key_in c0.word c0.words ≡ k0
    key0 = key_is c0 drop true_word

    adds : (f : Span → Entry → ℕ) → f (cover_from g).span (entry_from c0) ≤ all_of z m content hs (each f)
    adds f = let l = range_le z.chunks m.pin (cover_at m content) hs (each f) seat a here i g range in let h = total_has (λ (c : Carried). f (cover_from g).span (entry_from c)) g.carried c0 has in let e = total_map entry_from (f (cover_from g).span) g.carried in omega arith

    pub word_was : word_of z m content hs k0 ≡ c0.value + 1
    word_was = word_is z m content hs parts.once (cover_from g).span (entry_from c0) k0 adds key0

    pub word_now : word_of z m' content hs' k0 ≡ 0
    word_now = no_word z m' content hs' k0 (let d = with_dropped (λ x. one_at x.key k0) in let o = parts.once k0 in let s = dropped_some in omega arith)
      where
        dropped_some : 0 < dropped (λ x. one_at x.key k0)
        dropped_some = let t = total_at (dropped_by (λ x. one_at x.key k0) word) a.moving i g range in
            let h = total_has (λ (c : Carried). one_at (key_in c.word c.words) k0) (filter (is_dropped word) g.carried) c0 (has_filter (is_dropped word) g.carried c0 has drop) in let o = one_at-same (key_in c0.word c0.words) k0 key0 in omega arith

    inside0 : within (cover_from g).span k0 ≡ 1
    inside0 = let s = adds stray in let pi = parts.inside in let p = past-le (low_number g.low) k0 in let e = ap (within (cover_from g).span) key0 in omega arith

    pub base_now : c0.value ≤ base_of z m' content hs' k0
    base_now = let f = floor_under word g.base g.carried c0 has drop in let s = step (base_for k0) in let l = ranges_le (base_for k0) in let e = moving_is (base_for k0) in
        let t = total_at (λ (y : MovingRange). base_for k0 (cover_from (range_without word y))) a.moving i g range in
        let q = total_map (range_without word) (λ (y : MovingRange). base_for k0 (cover_from y)) a.moving in let r = total_map cover_from (base_for k0) (map (range_without word) a.moving) in
        let in0 = inside0 in let w : base_for k0 (cover_from (range_without word g)) ≡ base_with word g.base g.carried = times-one (within (cover_from g).span k0) (base_with word g.base g.carried) in0 in omega arith

    -- no room covers the key
    pub no_room : (r : ℕ) → r < z.chunks → weight (m.pin r) ≡ 1 → within (span_in m r) k0 ≡ 1 → ⊥
    no_room r l w in0 = let p = covers_parts z.chunks m.pin (cover_at m content) hs (is_in k0) in let t = total_at (moves (is_in k0)) hs seat a here in let q = total_at (is_in k0) (moving_of a) i (cover_from g) (at_map cover_from a.moving i g range) in
        let b = below_at (λ j. weight (m.pin j) * is_in k0 (cover_at m content j)) z.chunks r l in let n = times-one (weight (m.pin r)) (within (span_in m r) k0) w in let c = parts.covered k0 in let y = inside0 in omega arith
