-- The keys of slots that have the entries of a moving range, and what such slots add up to when they are cut in two.
use Rattle.std.proofs.Common.{◌≡◌, ℕ, zero, suc, ◌+◌, ◌-◌, ◌<◌, ◌≤◌, not, nat_le, cond, Bool, true, List, [], ◌∷◌, ◌++◌, map, take, drop, length, get_or, sym, refl, ap, ◌∙◌, subst, inl, inr, arith, le-leb}
use Rattle.std.specs.List.{filter, slice_index_or}
use Rattle.std.proofs.lemmas.Bool.{lt-leb}
use Rattle.std.proofs.lemmas.List.{take-append-drop, get_or-take, get_or-drop, length-take-le, length-drop}
use mathlib.Core.Option.{some}
use lib.ListN.{get_elem?}
use Rattle.oak_model.specs.Counts.{total, Has}
use Rattle.oak_model.specs.Key.{AreBytes, IsKey, IsKeyBefore}
use Rattle.oak_model.specs.KeyNumber.{key_number}
use Rattle.oak_model.proofs.Counting.{total_append, total_map}
use Rattle.oak_model.proofs.Lists.{at_map}
use Rattle.oak_model.proofs.MemberLaws.{each_has}
use Rattle.oak_model.proofs.NumberLaws.{key_number_rises}
use Rattle.chunk_core.specs.declared.holds.Carried.{Carried}
use Rattle.chunk_core.specs.declared.holds.MovingRange.{MovingRange}
use Rattle.chunk_core.specs.KeyWords.{key_in}
use Rattle.chunk_core.specs.Spans.{Span, past_high, within}
use Rattle.chunk_core.proofs.SpanLaws.{past-cases}
use Rattle.oak_core.specs.declared.sorting.SortSlot.{SortSlot}
use Rattle.rebalance.specs.declared.entries.Entry.{Entry}
use Rattle.rebalance.specs.CarriedKeys.{HasKey}
use Rattle.rebalance.specs.Compacted.{KeysRise}
use Rattle.rebalance.specs.DroppedRange.{sum_of, sum_carried}
use Rattle.rebalance.specs.Mirrors.{RangeStands, range_span, carried_key}
use Rattle.rebalance.specs.SlotRanges.{SlotsHave}
use Rattle.rebalance.specs.Slots.{entry_of}
use Rattle.rebalance.proofs.DroppedRange.{total_filter}
use Rattle.rebalance.proofs.MirroredEntries.{carried_for}

-- a key of a range is not below its low bound
pub within_low : (s : Span) (k : ℕ) → within s k ≡ 1 → s.low ≤ k
within_low s k = past-cases s.low k (λ (t : ℕ). t - past_high s.high k ≡ 1 → s.low ≤ k) (λ l _. l) (λ _ e. absurd (omega arith))

-- an element stands in its place
pub element_there : {A : Type 0} (xs : List A) (i : ℕ) (d : A) → i < length xs → get_elem? xs i ≡ some (get_or xs i d)
element_there [] i d l = absurd (omega arith)
element_there (x ∷ xs) zero d l = refl
element_there (x ∷ xs) (suc i) d l = element_there xs i d (omega arith)

-- sums whose parts agree, element by element
pub total_each : {A : Type 0} (f g : A → ℕ) (xs : List A) (d : A) → ((i : ℕ) → i < length xs → f (get_or xs i d) ≡ g (get_or xs i d)) → total f xs ≡ total g xs
unfolding total
total_each f g [] d h = refl
total_each f g (x ∷ xs) d h = let a = h zero (omega arith) in let t = total_each f g xs d (λ i l. h (suc i) (omega arith)) in let b : f x ≡ g x = a in omega arith

-- and member by member
pub total_members : {A : Type 0} (f g : A → ℕ) (xs : List A) → ((x : A) → Has x xs → f x ≡ g x) → total f xs ≡ total g xs
unfolding total
total_members f g [] h = refl
total_members f g (x ∷ xs) h = let a = h x (inl refl) in let t = total_members f g xs (λ y m. h y (inr m)) in omega arith

total_nothing : {A : Type 0} (xs : List A) → total (λ (x : A). 0) xs ≡ 0
unfolding total
total_nothing [] = refl
total_nothing (x ∷ xs) = let t = total_nothing xs in omega arith

-- where all members pass, the list is what passes
pub filter_every : {A : Type 0} (p : A → Bool) (xs : List A) → ((x : A) → Has x xs → p x ≡ true) → filter p xs ≡ xs
filter_every p [] h = refl
filter_every p (x ∷ xs) h = ap (λ (b : Bool). cond b (x ∷ filter p xs) (filter p xs)) (h x (inl refl)) ∙ ap (λ (l : List _). x ∷ l) (filter_every p xs (λ y m. h y (inr m)))

-- of slots whose keys rise the first do
pub rise_front : (keys : ℕ → List ℕ) (xs : List SortSlot) (h : ℕ) → h ≤ length xs → KeysRise keys xs → KeysRise keys (take h xs)
rise_front keys xs h le rise i j d lt l = let n = length-take-le h xs le in
    subst (λ (p : SortSlot × SortSlot). IsKeyBefore (keys p.0.key) (keys p.1.key)) (λ t. (sym (get_or-take h xs i d (omega arith)) t, sym (get_or-take h xs j d (omega arith)) t)) (rise i j d lt (omega arith))

-- and the others
pub rise_back : (keys : ℕ → List ℕ) (xs : List SortSlot) (h : ℕ) → h ≤ length xs → KeysRise keys xs → KeysRise keys (drop h xs)
rise_back keys xs h le rise i j d lt l = let n = length-drop h xs in
    subst (λ (p : SortSlot × SortSlot). IsKeyBefore (keys p.0.key) (keys p.1.key)) (λ t. (sym (get_or-drop h xs i d) t, sym (get_or-drop h xs j d) t)) (rise (h + i) (h + j) d (omega arith) (omega arith))

-- f of the words whose key is not below a number
pub over : (ℕ → List ℕ) → ℕ → (ℕ → ℕ → ℕ) → ℕ → ℕ → ℕ
over keys mid f w v = cond (nat_le mid (key_number (keys w))) (f w v) 0

-- and of those whose key is
pub under : (ℕ → List ℕ) → ℕ → (ℕ → ℕ → ℕ) → ℕ → ℕ → ℕ
under keys mid f w v = cond (not (nat_le mid (key_number (keys w)))) (f w v) 0

module _ (keys : ℕ → List ℕ) (xs : List SortSlot) (g : MovingRange) (slots : SlotsHave keys xs g) where
  -- a slot's entry is carried
  pub slot_carried : (i : ℕ) (d : SortSlot) → i < length xs → (c : Carried) × Has c g.carried × (c.word ≡ (slice_index_or xs i d).key) × HasKey keys c
  slot_carried i d l = let t = carried_for (map entry_of xs) g slots.sums i (entry_of (slice_index_or xs i d)) (at_map entry_of xs i (slice_index_or xs i d) (element_there xs i d l)) in
      (t.0, t.1, t.2, slots.have t.0 t.1 (slots.valued t.0 t.1))

  -- the number of a carried entry's key
  pub carried_number : (c : Carried) → Has c g.carried → carried_key c ≡ key_number (keys c.word)
  unfolding key_in
  carried_number c h = ap key_number (sym (slots.have c h (slots.valued c h)).is)

  -- the numbers of the keys rise
  pub slots_rise : (i j : ℕ) (d : SortSlot) → i < j → j < length xs → key_number (keys (slice_index_or xs i d).key) < key_number (keys (slice_index_or xs j d).key)
  slots_rise i j d lt l = let a = slot_carried i d (omega arith) in let b = slot_carried j d l in
      key_number_rises (keys (slice_index_or xs i d).key) (keys (slice_index_or xs j d).key) (subst (λ (w : ℕ). AreBytes (keys w)) a.2 a.3.named.bytes) (subst (λ (w : ℕ). AreBytes (keys w)) b.2 b.3.named.bytes) (subst (λ (w : ℕ). IsKey (keys w)) b.2 b.3.named.key) (slots.rise i j d lt l)

  -- and they lie in the range
  pub slot_inside : RangeStands g → (i : ℕ) (d : SortSlot) → i < length xs → within (range_span g) (key_number (keys (slice_index_or xs i d).key)) ≡ 1
  slot_inside stands i d l = let t = slot_carried i d l in
      subst (λ (n : ℕ). within (range_span g) n ≡ 1) (carried_number t.0 t.1 ∙ ap (λ (w : ℕ). key_number (keys w)) t.2) (each_has (λ (c : Carried). within (range_span g) (carried_key c) ≡ 1) g.carried t.0 stands.inside t.1)

  parts_sum : (f : ℕ → ℕ → ℕ) (h : ℕ) → sum_carried f g.carried ≡ total (λ (s : SortSlot). f s.key s.value) (take h xs) + total (λ (s : SortSlot). f s.key s.value) (drop h xs)
  parts_sum f h = let F : SortSlot → ℕ = λ s. f s.key s.value in let a = slots.sums f in let b = total_map entry_of (λ (e : Entry). f e.place e.value) xs in
      let c : total F xs ≡ total F (take h xs ++ drop h xs) = ap (total F) (sym (take-append-drop h xs)) in let e = total_append F (take h xs) (drop h xs) in omega arith

  -- The slots from h on have the keys that are not below the number.
  module _ (mid h : ℕ) (d : SortSlot) (le : h ≤ length xs) (below : (i : ℕ) → i < h → key_number (keys (slice_index_or xs i d).key) < mid) (above : (i : ℕ) → h ≤ i → i < length xs → mid ≤ key_number (keys (slice_index_or xs i d).key)) where
    part_sum : (f : ℕ → ℕ → ℕ) (ys : List SortSlot) → sum_of f (map entry_of ys) ≡ total (λ (s : SortSlot). f s.key s.value) ys
    part_sum f ys = total_map entry_of (λ (e : Entry). f e.place e.value) ys

    -- what is added up over the entries with those keys
    pub upper_sum : (f : ℕ → ℕ → ℕ) → sum_carried (over keys mid f) g.carried ≡ sum_of f (map entry_of (drop h xs))
    unfolding over
    upper_sum f = let G : SortSlot → ℕ = λ s. over keys mid f s.key s.value in let F : SortSlot → ℕ = λ s. f s.key s.value in let p = parts_sum (over keys mid f) h in let n = length-take-le h xs le in let k = length-drop h xs in
        let a : total G (take h xs) ≡ total (λ (s : SortSlot). 0) (take h xs) = total_each G (λ (s : SortSlot). 0) (take h xs) d (λ i l. ap G (get_or-take h xs i d (omega arith))
        ∙ ap (λ (b : Bool). cond b (F (slice_index_or xs i d)) 0) (lt-leb mid (key_number (keys (slice_index_or xs i d).key)) (below i (omega arith)))) in
        let z = total_nothing (take h xs) in
        let b : total G (drop h xs) ≡ total F (drop h xs) = total_each G F (drop h xs) d (λ i l. ap G (get_or-drop h xs i d)
        ∙ (ap (λ (b : Bool). cond b (F (slice_index_or xs (h + i) d)) 0) (le-leb mid (key_number (keys (slice_index_or xs (h + i) d).key)) (above (h + i) (omega arith) (omega arith))) ∙ ap F (sym (get_or-drop h xs i d)))) in
        let s = part_sum f (drop h xs) in omega arith

    -- and over the others
    pub lower_sum : (f : ℕ → ℕ → ℕ) → sum_carried (under keys mid f) g.carried ≡ sum_of f (map entry_of (take h xs))
    unfolding under
    lower_sum f = let G : SortSlot → ℕ = λ s. under keys mid f s.key s.value in let F : SortSlot → ℕ = λ s. f s.key s.value in let p = parts_sum (under keys mid f) h in let n = length-take-le h xs le in let k = length-drop h xs in
        let a : total G (take h xs) ≡ total F (take h xs) = total_each G F (take h xs) d (λ i l. ap G (get_or-take h xs i d (omega arith))
        ∙ (ap (λ (b : Bool). cond (not b) (F (slice_index_or xs i d)) 0) (lt-leb mid (key_number (keys (slice_index_or xs i d).key)) (below i (omega arith))) ∙ ap F (sym (get_or-take h xs i d (omega arith))))) in
        let b : total G (drop h xs) ≡ total (λ (s : SortSlot). 0) (drop h xs) = total_each G (λ (s : SortSlot). 0) (drop h xs) d (λ i l. ap G (get_or-drop h xs i d)
        ∙ ap (λ (b : Bool). cond (not b) (F (slice_index_or xs (h + i) d)) 0) (le-leb mid (key_number (keys (slice_index_or xs (h + i) d).key)) (above (h + i) (omega arith) (omega arith)))) in
        let z = total_nothing (drop h xs) in let s = part_sum f (take h xs) in omega arith

  -- the same of the carried entries whose keys are not below it
  pub carried_over : (mid : ℕ) (f : ℕ → ℕ → ℕ) → sum_carried f (filter (λ (c : Carried). nat_le mid (carried_key c)) g.carried) ≡ sum_carried (over keys mid f) g.carried
  unfolding over
  carried_over mid f = total_filter (λ (c : Carried). nat_le mid (carried_key c)) (λ (c : Carried). f c.word c.value) g.carried
      ∙ total_members (λ (c : Carried). cond (nat_le mid (carried_key c)) (f c.word c.value) 0) (λ (c : Carried). over keys mid f c.word c.value) g.carried (λ c h. ap (λ (n : ℕ). cond (nat_le mid n) (f c.word c.value) 0) (carried_number c h))

  -- and of those whose keys are
  pub carried_under : (mid : ℕ) (f : ℕ → ℕ → ℕ) → sum_carried f (filter (λ (c : Carried). not (nat_le mid (carried_key c))) g.carried) ≡ sum_carried (under keys mid f) g.carried
  unfolding under
  carried_under mid f = total_filter (λ (c : Carried). not (nat_le mid (carried_key c))) (λ (c : Carried). f c.word c.value) g.carried
      ∙ total_members (λ (c : Carried). cond (not (nat_le mid (carried_key c))) (f c.word c.value) 0) (λ (c : Carried). under keys mid f c.word c.value) g.carried (λ c h. ap (λ (n : ℕ). cond (not (nat_le mid n)) (f c.word c.value) 0) (carried_number c h))
