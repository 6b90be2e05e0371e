-- What is left of a range whose room had its entries, after those without a value were dropped.
use Rattle.std.proofs.Common.{◌≡◌, ℕ, ◌+◌, ◌<◌, ◌≤◌, ◌==◌, ◌&&◌, not, max, cond, Bool, true, false, List, [], ◌∷◌, map, sym, refl, ap, ◌∙◌, inl, inr, arith, eq-eqb, eqb-true}
use mathlib.Core.Option.{some}
use lib.ListN.{get_elem?}
use Rattle.oak_model.specs.Counts.{one_at, one_if, total, Each, Has}
use Rattle.oak_model.proofs.Counting.{one_at-same, decided, test-cases, both_true}
use Rattle.oak_model.proofs.Lists.{at_map}
use Rattle.oak_model.proofs.MemberLaws.{each_has, has_some, total_has, filter-cases}
use Rattle.arena_core.specs.Place.{length_in}
use Rattle.chunk_core.specs.declared.holds.Carried.{Carried}
use Rattle.chunk_core.specs.declared.holds.MovingRange.{MovingRange}
use Rattle.chunk_core.specs.KeyWords.{key_in, low_number, high_number}
use Rattle.chunk_core.specs.MovingRanges.{range_without, ranges_with}
use Rattle.chunk_core.specs.Spans.{within}
use Rattle.chunk_core.specs.ValueWord.{names_header}
use Rattle.chunk_core.proofs.RangeMoves.{greater-cases}
use Rattle.chunk_ops.proofs.KeyPlaces.{key_place}
use Rattle.oak_core.specs.EntryOwners.{is_key_word}
use Rattle.rebalance.specs.declared.entries.Entry.{Entry}
use Rattle.rebalance.specs.DroppedRange.{sum_of, sum_carried, bare, range_with, dropped_range, WordsDiffer, DropsAll}
use Rattle.rebalance.specs.Dropping.{dropped_ranges}
use Rattle.rebalance.specs.Entries.{greatest, has_value, kept, dropped}
use Rattle.rebalance.specs.Mirrors.{RangeStands, range_span, carried_key}
use Rattle.rebalance.proofs.DroppedRange.{drops_all, dropped_sum, parted_sum, named-cases}
use Rattle.rebalance.proofs.PassedOnes.{has_at}

-- what holds of each member
pub each_of : {A : Type 0} (P : A → Type 0) (xs : List A) → ((x : A) → Has x xs → P x) → Each P xs
each_of P [] h = tt
each_of P (x ∷ xs) h = (h x (inl refl), each_of P xs (λ y m. h y (inr m)))

-- a key word is not 0
pub key_some : (word : ℕ) → is_key_word word ≡ 1 → 0 < word
unfolding length_in
key_some word e = let s = (key_place word e).some_byte in omega arith

module _ (g : MovingRange) (stands : RangeStands g) where
  -- no key word of its entries is 0
  pub words_some : Each (λ (c : Carried). 0 < c.word) g.carried
  words_some = each_of (λ (c : Carried). 0 < c.word) g.carried (λ c h. key_some c.word (each_has (λ (x : Carried). is_key_word x.word ≡ 1) g.carried c stands.placed h))

  -- where the words kept with the entries are those of the blocks, one key word has one key
  pub words_differ : (content : ℕ → List ℕ) → Each (λ (c : Carried). content c.word ≡ c.words) g.carried → WordsDiffer g
  unfolding total one_at
  words_differ content same k = let o = stands.once (key_in k (content k)) in let l = below_keys g.carried same in omega arith
    where
      below_keys : (cs : List Carried) → Each (λ (c : Carried). content c.word ≡ c.words) cs → total (λ (c : Carried). one_at c.word k) cs ≤ total (λ (c : Carried). one_at (carried_key c) (key_in k (content k))) cs
      below_keys [] e = omega arith
      below_keys (c ∷ cs) e = let t = below_keys cs e.1 in decided c.word k (λ b. cond b 1 0 + total (λ (x : Carried). one_at x.word k) cs ≤ one_at (carried_key c) (key_in k (content k)) + total (λ (x : Carried). one_at (carried_key x) (key_in k (content k))) cs)
          (λ q. let s = one_at-same (carried_key c) (key_in k (content k)) (ap (key_in c.word) (sym e.0) ∙ ap (λ (w : ℕ). key_in w (content w)) q) in omega arith) (λ _. omega arith)

-- the floors of dropped entries name no header
pub greatest_bare : (b : ℕ) (es : List Entry) → names_header b ≡ 0 → names_header (greatest b (dropped es)) ≡ 0
unfolding greatest
greatest_bare b [] n = n
greatest_bare b (e ∷ es) n = let r = greatest_bare b es n in filter-cases (λ x. not (has_value x)) e es (λ l. names_header (greatest b l) ≡ 0) (λ p. max_has e.value (greatest b (dropped es)) (bare_value e p) r) (λ _. r)
  where
    bare_value : (e : Entry) → not (has_value e) ≡ true → names_header e.value ≡ 0
    bare_value e = named-cases e.value (λ t. not t ≡ true → names_header e.value ≡ 0) (λ _ q. absurd cc) (λ z _. z)

    max_has : (x y : ℕ) → names_header x ≡ 0 → names_header y ≡ 0 → names_header (max x y) ≡ 0
    max_has x y p q = greater-cases x y (λ t. t ≡ max x y → names_header (max x y) ≡ 0) (λ _ s. ap names_header (sym s) ∙ q) (λ _ s. ap names_header (sym s) ∙ p) (greater-cases x y (λ t. t ≡ max x y) (λ l. omega arith) (λ l. omega arith))

abbrev zero_if : Bool → ℕ
zero_if b = cond b 0 1

-- 1 where there is no value
abbrev lacking : ℕ → ℕ → ℕ
lacking w v = zero_if (names_header v == 1)

both_one : (n : ℕ) → n ≡ 1 → n ≡ 0 → ⊥
both_one n a b = omega arith

-- A room had the entries es of the range.
module _ (es : List Entry) (g : MovingRange) (stands : RangeStands g) (differ : WordsDiffer g) (same : (f : ℕ → ℕ → ℕ) → sum_of f es ≡ sum_carried f g.carried) where
  -- those without a value are dropped, and no others
  pub drops : DropsAll (dropped es) g (dropped_range (dropped es) g)
  drops = drops_all (dropped es) g differ (words_some g stands) (λ f. sym (same (bare f)) ∙ sym (dropped_sum f es))

  -- those with a value are left
  pub kept_left : (f : ℕ → ℕ → ℕ) → sum_of f (kept es) ≡ sum_carried f (dropped_range (dropped es) g).carried
  kept_left f = let d = drops.sums f in let p = parted_sum f es in let s = same f in omega arith

  -- each that is left has a value
  pub all_valued : (c : Carried) → Has c (dropped_range (dropped es) g).carried → names_header c.value ≡ 1
  unfolding total
  all_valued c h = let k = kept_left lacking in let n = none es in let t = total_has (λ (x : Carried). lacking x.word x.value) (dropped_range (dropped es) g).carried c h in
      named-cases c.value (λ b. zero_if b ≡ 0 → names_header c.value ≡ 1) (λ e _. e) (λ _ e. absurd (both_one 1 refl e)) (let z : lacking c.word c.value ≡ 0 = omega arith in z)
    where
      none : (es : List Entry) → sum_of lacking (kept es) ≡ 0
      none [] = refl
      none (e ∷ es) = let t = none es in filter-cases has_value e es (λ l. sum_of lacking l ≡ 0) (λ p. let z : lacking e.place e.value ≡ 0 = ap zero_if p in omega arith) (λ _. t)

  -- and the rule says of the range what it said
  pub dropped_stands : RangeStands (dropped_range (dropped es) g)
  dropped_stands = let d = drops in let g' : MovingRange = dropped_range (dropped es) g in
      let span : (k : ℕ) → within (range_span g) k ≡ 1 → within (range_span g') k ≡ 1 = λ k e. ap (λ (ws : List ℕ). within (record { low = low_number ws; high = high_number g'.high; base = 0 }) k) d.low ∙ (ap (λ (ws : List ℕ). within (record { low = low_number g.low; high = high_number ws; base = 0 }) k) d.high ∙ e) in record {
        inside = each_of (λ (c : Carried). within (range_span g') (carried_key c) ≡ 1) g'.carried (λ c h. span (carried_key c) (each_has (λ (x : Carried). within (range_span g) (carried_key x) ≡ 1) g.carried c stands.inside (d.some c h)));
        begun = span (low_number g'.low) (ap (λ (ws : List ℕ). within (range_span g) (low_number ws)) d.low ∙ stands.begun);
        once = λ k. let o = stands.once k in let f = d.fewer (λ (c : Carried). one_at (carried_key c) k) in omega arith;
        placed = each_of (λ (c : Carried). is_key_word c.word ≡ 1) g'.carried (λ c h. each_has (λ (x : Carried). is_key_word x.word ≡ 1) g.carried c stands.placed (d.some c h));
        floor = ap names_header d.base ∙ greatest_bare g.base es stands.floor;
      }

-- an entry among them is carried
pub carried_has : (es : List Entry) (g : MovingRange) → ((f : ℕ → ℕ → ℕ) → sum_of f es ≡ sum_carried f g.carried) → (e : Entry) → Has e es → (c : Carried) × Has c g.carried × (c.word ≡ e.place) × (c.value ≡ e.value)
carried_has es g same e m = let f : ℕ → ℕ → ℕ = λ w v. one_if ((w == e.place) && (v == e.value)) in
    let own : f e.place e.value ≡ 1 = (λ t. one_if (eq-eqb e.place e.place refl t && (e.value == e.value))) ∙ ap one_if (eq-eqb e.value e.value refl) in
    let a = total_has (λ (x : Entry). f x.place x.value) es e m in let b = same f in
    let t = has_some (λ (c : Carried). f c.word c.value) g.carried (omega arith) in
    let p = both_true (t.0.word == e.place) (t.0.value == e.value) (positive ((t.0.word == e.place) && (t.0.value == e.value)) t.2) in
    (t.0, t.1, eqb-true t.0.word e.place p.0, eqb-true t.0.value e.value p.1)
  where
    positive : (b : Bool) → 0 < one_if b → b ≡ true
    positive true l = refl
    positive false l = absurd (omega arith)

-- so is the one that stands somewhere
pub carried_for : (es : List Entry) (g : MovingRange) → ((f : ℕ → ℕ → ℕ) → sum_of f es ≡ sum_carried f g.carried) → (i : ℕ) (e : Entry) → get_elem? es i ≡ some e → (c : Carried) × Has c g.carried × (c.word ≡ e.place) × (c.value ≡ e.value)
carried_for es g same i e at = carried_has es g same e (has_at es i e at)

map_same : (gs : List MovingRange) → map (λ g. g) gs ≡ gs
map_same [] = refl
map_same (g ∷ gs) = ap (λ (l : List MovingRange). g ∷ l) (map_same gs)

-- the fold over all ranges is that over each
pub dropped_each : (es : List Entry) (gs : List MovingRange) → dropped_ranges es gs ≡ map (dropped_range es) gs
unfolding dropped_ranges dropped_range
dropped_each [] gs = sym (map_same gs)
dropped_each (e ∷ es) gs = dropped_each es (ranges_with e.place gs) ∙ (ap (map (dropped_range es)) (test-cases (e.place == 0) (λ b. cond b gs (map (range_without e.place) gs) ≡ map (λ g. cond b g (range_without e.place g)) gs) (λ _. sym (map_same gs)) (λ _. refl)) ∙ map_twice gs)
  where
    map_twice : (gs : List MovingRange) → map (dropped_range es) (map (range_with e.place) gs) ≡ map (λ g. dropped_range es (range_with e.place g)) gs
    map_twice [] = refl
    map_twice (g ∷ gs) = ap (λ (l : List MovingRange). dropped_range es (range_with e.place g) ∷ l) (map_twice gs)

-- so a range is dropped from in its place
pub dropped_there : (es : List Entry) (gs : List MovingRange) (i : ℕ) (g : MovingRange) → get_elem? gs i ≡ some g → get_elem? (dropped_ranges es gs) i ≡ some (dropped_range es g)
dropped_there es gs i g at = ap (λ (hs : List MovingRange). get_elem? hs i) (dropped_each es gs) ∙ at_map (dropped_range es) gs i g at
