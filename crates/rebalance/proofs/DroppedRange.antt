-- A range after entries of it were dropped: it has the others, and its base is the greatest of its own and of their floors.
use Rattle.std.proofs.Common.{◌≡◌, ◌≢◌, ℕ, ◌+◌, ◌/◌, ◌^◌, ◌<◌, ◌≤◌, ◌==◌, ◌&&◌, not, max, cond, Bool, true, false, List, [], ◌∷◌, sym, refl, ap, ◌∙◌, subst, inl, inr, ⊎_elim, arith, eq-eqb, ne_eqb, eqb-true}
use Rattle.std.specs.List.{filter}
use Rattle.oak_model.specs.Counts.{one_at, one_if, total, Each, Has}
use Rattle.oak_model.proofs.Counting.{one_at-same, one_at-le, test-cases, both_true, decided}
use Rattle.oak_model.proofs.MemberLaws.{each_has, has_some, total_has, filter-cases, each_filter, total_split}
use Rattle.chunk_core.specs.declared.holds.Carried.{Carried}
use Rattle.chunk_core.specs.declared.holds.MovingRange.{MovingRange}
use Rattle.chunk_core.specs.MovingRanges.{greater, is_dropped, base_with, range_without}
use Rattle.chunk_core.specs.ValueWord.{names_header}
use Rattle.chunk_core.proofs.RangeMoves.{greater-cases}
use Rattle.rebalance.specs.declared.entries.Entry.{Entry}
use Rattle.rebalance.specs.DroppedRange.{sum_of, sum_carried, bare, range_with, dropped_range, WordsDiffer, DropsAll}
use Rattle.rebalance.specs.Entries.{greatest, has_value, lacks_value, kept, dropped}

-- what is added up over those that pass a test
pub total_filter : {A : Type 0} (p : A → Bool) (f : A → ℕ) (xs : List A) → total f (filter p xs) ≡ total (λ x. cond (p x) (f x) 0) xs
unfolding total
total_filter p f [] = refl
total_filter p f (x ∷ xs) = let t = total_filter p f xs in test-cases (p x) (λ b. total f (cond b (x ∷ filter p xs) (filter p xs)) ≡ cond b (f x) 0 + total (λ y. cond (p y) (f y) 0) xs) (λ _. omega arith) (λ _. omega arith)

-- a word says that it names a header, or that it does not
pub named-cases : (v : ℕ) (P : Bool → Type 0) → (names_header v ≡ 1 → P true) → (names_header v ≡ 0 → P false) → P (names_header v == 1)
unfolding names_header
named-cases v P yes_one no_one = decided (names_header v) 1 P yes_one (λ ne. no_one (let l = one_at-le (v / 2 ^ 63) 1 in omega arith))

-- a value word without a value names no header
pub lacks-bare : (v : ℕ) → not (names_header v == 1) ≡ true → names_header v ≡ 0
lacks-bare v = named-cases v (λ b. not b ≡ true → names_header v ≡ 0) (λ _ e. absurd cc) (λ e _. e)

-- and one that names no header is without a value
pub bare-lacks : (v : ℕ) → names_header v ≡ 0 → not (names_header v == 1) ≡ true
bare-lacks v e = named-cases v (λ b. not b ≡ true) (λ h. absurd (omega arith)) (λ _. refl)

-- what is added up over the entries without a value
pub dropped_sum : (f : ℕ → ℕ → ℕ) (es : List Entry) → sum_of f (dropped es) ≡ sum_of (bare f) es
dropped_sum f es = total_filter lacks_value (λ (e : Entry). f e.place e.value) es

-- those with a value and those without are all
pub parted_sum : (f : ℕ → ℕ → ℕ) (es : List Entry) → sum_of f (kept es) + sum_of f (dropped es) ≡ sum_of f es
parted_sum f es = total_split has_value (λ (e : Entry). f e.place e.value) es

-- a number that was taken first counts as one more
pub greatest_first : (b x : ℕ) (es : List Entry) → greatest (max x b) es ≡ max x (greatest b es)
unfolding greatest
greatest_first b x [] = refl
greatest_first b x (e ∷ es) = let h = greatest_first b x es in omega arith

greater_max : (a b : ℕ) → greater a b ≡ max a b
greater_max a b = greater-cases a b (λ t. t ≡ max a b) (λ l. omega arith) (λ l. omega arith)

-- 1 where the words are those of the entry
same_words : Entry → ℕ → ℕ → ℕ
same_words e w v = one_if ((w == e.place) && (v == e.value))

same_words-own : (e : Entry) → same_words e e.place e.value ≡ 1
unfolding same_words
same_words-own e = (λ i. one_if (eq-eqb e.place e.place refl i && (e.value == e.value))) ∙ ap one_if (eq-eqb e.value e.value refl)

same_words-is : (e : Entry) (w v : ℕ) → 0 < bare (same_words e) w v → (w ≡ e.place) × (v ≡ e.value) × (names_header v ≡ 0)
unfolding same_words
same_words-is e w v = named-cases v (λ b. 0 < cond (not b) (one_if ((w == e.place) && (v == e.value))) 0 → (w ≡ e.place) × (v ≡ e.value) × (names_header v ≡ 0)) (λ _ l. absurd (omega arith))
    (λ n l. let t = both_true (w == e.place) (v == e.value) (positive ((w == e.place) && (v == e.value)) l) in (eqb-true w e.place t.0, eqb-true v e.value t.1, n))
  where
    positive : (b : Bool) → 0 < one_if b → b ≡ true
    positive true l = refl
    positive false l = absurd (omega arith)

-- of entries that have not the word none is dropped with it
module _ (word base : ℕ) where
  other : (c : Carried) → c.word ≢ word → is_dropped word c ≡ false
  other c ne = ap (λ (b : Bool). b && (names_header c.value == 0)) (ne_eqb c.word word ne)

  -- they all stay, and so does the base
  pub keeps_all : (cs : List Carried) → total (λ (c : Carried). one_at c.word word) cs ≡ 0 → (filter (λ c. not (is_dropped word c)) cs ≡ cs) × (base_with word base cs ≡ base)
  unfolding total base_with
  keeps_all [] e = (refl, refl)
  keeps_all (c ∷ cs) e = let t = keeps_all cs (omega arith) in let o = other c (λ q. let s = one_at-same c.word word q in absurd (omega arith)) in (
    ap (λ (b : Bool). cond (not b) (c ∷ filter (λ y. not (is_dropped word y)) cs) (filter (λ y. not (is_dropped word y)) cs)) o ∙ ap (λ (l : List Carried). c ∷ l) t.0,
    ap (λ (b : Bool). cond b (greater c.value (base_with word base cs)) (base_with word base cs)) o ∙ t.1,
  )

  -- the one that has it is dropped, where it has no value
  drops_one : (f : ℕ → ℕ → ℕ) (cs : List Carried) (x : Carried) → Has x cs → x.word ≡ word → names_header x.value ≡ 0 → total (λ (c : Carried). one_at c.word word) cs ≤ 1
      → (sum_carried f (filter (λ c. not (is_dropped word c)) cs) + f x.word x.value ≡ sum_carried f cs) × (base_with word base cs ≡ max x.value base)
  unfolding total base_with
  drops_one f [] x h e n l = absurd h
  drops_one f (c ∷ cs) x (inl q) e n l = let w = ap (λ (y : Carried). y.word) q in let v = ap (λ (y : Carried). y.value) q in let s = one_at-same c.word word (sym w ∙ e) in let t = keeps_all cs (omega arith) in
      let d : is_dropped word c ≡ true = (λ i. eq-eqb c.word word (sym w ∙ e) i && (names_header c.value == 0)) ∙ eq-eqb (names_header c.value) 0 (ap names_header (sym v) ∙ n) in (
        (let a : sum_carried f (cond (not (is_dropped word c)) (c ∷ filter (λ y. not (is_dropped word y)) cs) (filter (λ y. not (is_dropped word y)) cs)) ≡ sum_carried f cs
            = ap (λ (b : Bool). sum_carried f (cond (not b) (c ∷ filter (λ y. not (is_dropped word y)) cs) (filter (λ y. not (is_dropped word y)) cs))) d ∙ ap (sum_carried f) t.0 in
            let g : f x.word x.value ≡ f c.word c.value = ap (λ (y : Carried). f y.word y.value) q in omega arith),
        ap (λ (b : Bool). cond b (greater c.value (base_with word base cs)) (base_with word base cs)) d ∙ (greater_max c.value (base_with word base cs) ∙ (λ i. max (sym v i) (t.1 i))),
      )
  drops_one f (c ∷ cs) x (inr h) e n l = let one = total_has (λ (y : Carried). one_at y.word word) cs x h in let s = one_at-same x.word word e in let t = drops_one f cs x h e n (omega arith) in
      let o = other c (λ q. let u = one_at-same c.word word q in absurd (omega arith)) in (
        (let t0 = t.0 in let a : sum_carried f (cond (not (is_dropped word c)) (c ∷ filter (λ y. not (is_dropped word y)) cs) (filter (λ y. not (is_dropped word y)) cs)) ≡ f c.word c.value + sum_carried f (filter (λ y. not (is_dropped word y)) cs)
            = ap (λ (b : Bool). sum_carried f (cond (not b) (c ∷ filter (λ y. not (is_dropped word y)) cs) (filter (λ y. not (is_dropped word y)) cs))) o in omega arith),
        ap (λ (b : Bool). cond b (greater c.value (base_with word base cs)) (base_with word base cs)) o ∙ t.1,
      )

-- what passes a test is among all
pub filter_has : {A : Type 0} (p : A → Bool) (xs : List A) (y : A) → Has y (filter p xs) → Has y xs
filter_has p [] y = λ h. h
filter_has p (x ∷ xs) y = filter-cases p x xs (λ l. Has y l → Has y (x ∷ xs)) (λ _ h. ⊎_elim (λ e. inl e) (λ r. inr (filter_has p xs y r)) h) (λ _ h. inr (filter_has p xs y h))

-- what follows for each range of which these entries are those without a value
abbrev DropsIn : List Entry → Type 0
DropsIn ds = (g : MovingRange) → WordsDiffer g → Each (λ (c : Carried). 0 < c.word) g.carried → ((f : ℕ → ℕ → ℕ) → sum_carried (bare f) g.carried ≡ sum_of f ds) → DropsAll ds g (dropped_range ds g)

-- where a range's entries without a value are these, they are all dropped by them
pub drops_all : (ds : List Entry) (g : MovingRange) → WordsDiffer g → Each (λ (c : Carried). 0 < c.word) g.carried → ((f : ℕ → ℕ → ℕ) → sum_carried (bare f) g.carried ≡ sum_of f ds) → DropsAll ds g (dropped_range ds g)
unfolding dropped_range greatest total
drops_all [] g differ some_word same = record { room = refl; low = refl; high = refl; base = refl; sums = λ f. omega arith; fewer = λ F. omega arith; some = λ c h. h }
drops_all (d ∷ ds) g differ some_word same = found (drops_all ds) (has_some (λ (c : Carried). bare (same_words d) c.word c.value) g.carried (let s = same (same_words d) in let o = same_words-own d in omega arith))
  where
    found : DropsIn ds → (c : Carried) × Has c g.carried × (0 < bare (same_words d) c.word c.value) → DropsAll (d ∷ ds) g (dropped_range ds (range_with d.place g))
    found more (c, has, l) = let is = same_words-is d c.word c.value l in let g1 : MovingRange = range_without d.place g in
        let one : (f : ℕ → ℕ → ℕ) → (sum_carried f g1.carried + f c.word c.value ≡ sum_carried f g.carried) × (base_with d.place g.base g.carried ≡ max c.value g.base) = λ f. drops_one d.place g.base f g.carried c has is.0 is.2 (differ d.place) in
        let given : (f : ℕ → ℕ → ℕ) → f c.word c.value ≡ f d.place d.value = λ f i. f (is.0 i) (is.1 i) in
        let at : range_with d.place g ≡ g1 = ap (λ (b : Bool). cond b g g1) (ne_eqb d.place 0 (λ e. let p = each_has (λ (y : Carried). 0 < y.word) g.carried c some_word has in let q = is.0 in absurd (omega arith))) in
        let rest : DropsAll ds g1 (dropped_range ds g1) = more g1
        (λ k. let a = (one (λ w v. one_at w k)).0 in let b = differ k in omega arith)
        (each_filter (λ (y : Carried). not (is_dropped d.place y)) (λ (y : Carried). 0 < y.word) g.carried some_word)
        (λ f. let a = (one (bare f)).0 in let b = same f in let e = given (bare f) in let q : bare f d.place d.value ≡ f d.place d.value = ap (λ (t : Bool). cond t (f d.place d.value) 0) (bare-lacks d.value (ap names_header (sym is.1) ∙ is.2)) in omega arith) in
        subst (λ (t : MovingRange). DropsAll (d ∷ ds) g (dropped_range ds t)) (sym at) record {
          room = rest.room;
          low = rest.low;
          high = rest.high;
          base = rest.base ∙ (ap (λ (b : ℕ). greatest b ds) ((one (λ w v. 0)).1 ∙ ap (λ (v : ℕ). max v g.base) is.1) ∙ greatest_first g.base d.value ds);
          sums = λ f. let a = (one f).0 in let b = rest.sums f in let e = given f in omega arith;
          fewer = λ F. let a = rest.fewer F in let b = total_split (λ (x : Carried). not (is_dropped d.place x)) F g.carried in omega arith;
          some = λ y h. filter_has (λ (x : Carried). not (is_dropped d.place x)) g.carried y (rest.some y h);
        }
