-- How a scan goes on from mark to mark, in either direction.
use Rattle.std.proofs.Common.{◌≡◌, ℕ, suc, ◌<◌, ◌≤◌, Bool, true, false, List, [], ◌∷◌, ◌++◌, Some, None, refl, sym, ap, subst, arith, ◌⊎◌, inl, inr}
use Rattle.std.specs.Prelude.{MatchBool}
use Rattle.std.specs.List.{AllByRecursion}
use Rattle.std.specs.List.Sorted.{IsStrictlySortedBy}
use Rattle.std.specs.Ordering.{flip_args}
use Rattle.std.specs.declared.cmp.Ordering.{Ordering}
use Rattle.std.specs.declared.cmp.Ordering.TheVariants.{Less}
use Rattle.std.proofs.lemmas.Bool.{cases_Bool}
use mathlib.Core.Logic.{dite}
use native.Mathlib.Decide.{dec_lt}
use Rattle.oak_model.specs.declared.replies.Pair.{Pair}
use Rattle.oak_model.specs.Key.{is_key, key_cmp}
use Rattle.oak_model.specs.KeyNumber.{key_number}
use Rattle.oak_model.specs.Scan.{pair_keys}
use Rattle.scan_cursor.specs.declared.ways.Way.{Way}
use Rattle.scan_cursor.specs.declared.ways.Way.TheVariants.{Up, Down}
use Rattle.scan_cursor.specs.Scanned.{Scanned, within}
use Rattle.scan_cursor.specs.Views.{Absents, Later, ReadsKey, View}
use Rattle.scan_cursor.specs.Marks.{read_from, read_past, Come, InBounds}
use Rattle.scan_cursor.proofs.KeyWindows.{within_is, is_within, one_key, key_before}
use Rattle.scan_cursor.proofs.ReadingViews.{later_self, later_both, read_before}
use Rattle.scan_cursor.proofs.ScanLaws.{scan_starts, scan_stays, grow_absent, grow_pair}

-- ---- order

sorted_end : (c : List ℕ → List ℕ → Ordering) (ks : List (List ℕ)) (k : List ℕ) → AllByRecursion (λ y. c y k ≡ Less) ks → IsStrictlySortedBy c ks → IsStrictlySortedBy c (ks ++ k ∷ [])
unfolding IsStrictlySortedBy
sorted_end c [] k a s = (tt, tt)
sorted_end c (x ∷ xs) k a s = (all_end (λ y. c x y ≡ Less) xs k s.0 a.0, sorted_end c xs k a.1 s.1)
  where
    all_end : (P : List ℕ → Type 0) (ys : List (List ℕ)) (y : List ℕ) → AllByRecursion P ys → P y → AllByRecursion P (ys ++ y ∷ [])
    all_end P [] y h e = (e, tt)
    all_end P (z ∷ zs) y h e = (h.0, all_end P zs y h.1 e)

keys_end : (ps : List Pair) (x : Pair) → pair_keys (ps ++ x ∷ []) ≡ pair_keys ps ++ x.key ∷ []
keys_end [] x = refl
keys_end (p ∷ ps) x = ap (λ (ks : List (List ℕ)). p.key ∷ ks) (keys_end ps x)

keys_below : (f p n : ℕ) (ats : List ℕ → ℕ) (k : List ℕ) (ps : List Pair) → is_key k ≡ true → p ≤ key_number k
    → AllByRecursion (λ (x : Pair). (within f p x.key ≡ true) × (x.at ≡ ats x.key)) ps → AllByRecursion (λ y. key_cmp y k ≡ Less) (pair_keys ps)
keys_below f p n ats k [] e le t = tt
keys_below f p n ats k (x ∷ xs) e le t =
    let w = within_is f p x.key t.0.0 in
    (key_before x.key k w.key e (omega (arith, w.high)), keys_below f p n ats k xs e le t.1)

keys_above : (f p n : ℕ) (ats : List ℕ → ℕ) (k : List ℕ) (ps : List Pair) → is_key k ≡ true → key_number k < f
    → AllByRecursion (λ (x : Pair). (within f p x.key ≡ true) × (x.at ≡ ats x.key)) ps → AllByRecursion (λ y. flip_args key_cmp y k ≡ Less) (pair_keys ps)
keys_above f p n ats k [] e le t = tt
keys_above f p n ats k (x ∷ xs) e le t =
    let w = within_is f p x.key t.0.0 in
    (key_before k x.key e w.key (omega (arith, w.low)), keys_above f p n ats k xs e le t.1)

-- ---- the start, and a pass that only met more

pub come_starts : (way : Way) (lo hi : ℕ) (k : List ℕ) (a : View) → (way ≡ Up → key_number k ≡ lo) → (way ≡ Down → key_number k ≡ hi) → Come way lo hi false false k a a []
unfolding IsStrictlySortedBy
come_starts Up lo hi k a u d = record { later = later_self a; scanned = scan_starts a lo (key_number k) (omega (arith, u refl)); ordered = tt }
come_starts Down lo hi k a u d = record { later = later_self a; scanned = scan_starts a (suc (key_number k)) (suc hi) (omega (arith, d refl)); ordered = tt }

-- no key lies between the bounds
pub come_empty : (way : Way) (lo hi : ℕ) (past : Bool) (k : List ℕ) (a : View) → hi < lo → Come way lo hi past true k a a []
unfolding IsStrictlySortedBy
come_empty Up lo hi past k a lt = record { later = later_self a; scanned = scan_starts a lo (suc hi) (omega arith); ordered = tt }
come_empty Down lo hi past k a lt = record { later = later_self a; scanned = scan_starts a lo (suc hi) (omega arith); ordered = tt }

pub come_begins : (way : Way) (lo hi : ℕ) (ended : Bool) (k : List ℕ) (a : View) → ((way ≡ Up) × (key_number k ≡ lo)) ⊎ ((way ≡ Down) × (key_number k ≡ hi)) → MatchBool ended (hi < lo) (lo ≤ hi) → Come way lo hi false ended k a a []
come_begins way lo hi true k a e b = come_empty way lo hi false k a b
come_begins way lo hi false k a (inl e) b = come_starts way lo hi k a (λ _. e.1) (λ d. let u = e.0 in absurd cc)
come_begins way lo hi false k a (inr e) b = come_starts way lo hi k a (λ u. let d = e.0 in absurd cc) (λ _. e.1)

pub come_stays : (way : Way) (lo hi : ℕ) (past ended : Bool) (k : List ℕ) (a v w : View) (ps : List Pair) → Later v w → Come way lo hi past ended k a v ps → Come way lo hi past ended k a w ps
come_stays way lo hi past ended k a v w ps l c = record {
  later = later_both a v w c.later l;
  scanned = scan_stays a v w (read_from way lo past ended k) (read_past way hi past ended k) ps l c.scanned;
  ordered = c.ordered;
}

-- ---- the key itself

only_up : (f : ℕ) (k q : List ℕ) → is_key k ≡ true → within f (suc (key_number k)) q ≡ true → within f (key_number k) q ≡ false → q ≡ k
only_up f k q real e n =
    let w = within_is f (suc (key_number k)) q e in
    dite (dec_lt (key_number q) (key_number k))
    (λ lt. let t = is_within f (key_number k) q w.key w.low lt in absurd cc)
    (λ ge. one_key q k w.key real (omega (arith, w.high)))

only_down : (p : ℕ) (k q : List ℕ) → is_key k ≡ true → within (key_number k) p q ≡ true → within (suc (key_number k)) p q ≡ false → q ≡ k
only_down p k q real e n =
    let w = within_is (key_number k) p q e in
    dite (dec_lt (key_number k) (key_number q))
    (λ lt. let t = is_within (suc (key_number k)) p q w.key (omega arith) w.high in absurd cc)
    (λ ge. one_key q k w.key real (omega (arith, w.low)))

not_up : (f : ℕ) (k : List ℕ) → within f (key_number k) k ≡ false
not_up f k = elim (cases_Bool (within f (key_number k) k)) [ inl t ↦ let w = within_is f (key_number k) k t in absurd (omega (arith, w.high)) | inr e ↦ e ]

not_down : (p : ℕ) (k : List ℕ) → within (suc (key_number k)) p k ≡ false
not_down p k = elim (cases_Bool (within (suc (key_number k)) p k)) [ inl t ↦ let w = within_is (suc (key_number k)) p k t in absurd (omega (arith, w.low)) | inr e ↦ e ]

-- the key to which the scan had come was read absent
pub come_absent : (way : Way) (lo hi : ℕ) (k : List ℕ) (a v w : View) (at : ℕ) (ps : List Pair) → InBounds lo hi k → Later v w → ReadsKey a w k at None
    → Come way lo hi false false k a v ps → Come way lo hi true false k a w ps
come_absent Up lo hi k a v w at ps b l r c = record {
  later = later_both a v w c.later l;
  scanned = grow_absent a v w lo (key_number k) lo (suc (key_number k)) (λ _. at) ps l (omega arith) (omega arith) (λ q e n. subst (λ x. ReadsKey a w x at None) (sym (only_up lo k q b.key e n)) r) c.scanned;
  ordered = c.ordered;
}
come_absent Down lo hi k a v w at ps b l r c = record {
  later = later_both a v w c.later l;
  scanned = grow_absent a v w (suc (key_number k)) (suc hi) (key_number k) (suc hi) (λ _. at) ps l (omega arith) (omega arith) (λ q e n. subst (λ x. ReadsKey a w x at None) (sym (only_down (suc hi) k q b.key e n)) r) c.scanned;
  ordered = c.ordered;
}

-- it was read present
pub come_present : (way : Way) (lo hi : ℕ) (a v w : View) (x : Pair) (ps : List Pair) → InBounds lo hi x.key → Later v w → ReadsKey a w x.key x.at (Some x.value)
    → Come way lo hi false false x.key a v ps → Come way lo hi true false x.key a w (ps ++ x ∷ [])
come_present Up lo hi a v w x ps b l r c = record {
  later = later_both a v w c.later l;
  scanned = grow_pair a v w lo (key_number x.key) lo (suc (key_number x.key)) ps x l (omega arith) (omega arith)
      (is_within lo (suc (key_number x.key)) x.key b.key b.above (omega arith)) (not_up lo x.key) (λ q e n. only_up lo x.key q b.key e n) r c.scanned;
  ordered = subst (IsStrictlySortedBy key_cmp) (sym (keys_end ps x)) (sorted_end key_cmp (pair_keys ps) x.key (keys_below lo (key_number x.key) 0 c.scanned.ats x.key ps b.key (omega arith) c.scanned.told) c.ordered);
}
come_present Down lo hi a v w x ps b l r c = record {
  later = later_both a v w c.later l;
  scanned = grow_pair a v w (suc (key_number x.key)) (suc hi) (key_number x.key) (suc hi) ps x l (omega arith) (omega arith)
      (is_within (key_number x.key) (suc hi) x.key b.key (omega arith) (omega (arith, b.below))) (not_down (suc hi) x.key) (λ q e n. only_down (suc hi) x.key q b.key e n) r c.scanned;
  ordered = subst (IsStrictlySortedBy (flip_args key_cmp)) (sym (keys_end ps x)) (sorted_end (flip_args key_cmp) (pair_keys ps) x.key (keys_above (suc (key_number x.key)) (suc hi) 0 c.scanned.ats x.key ps b.key (omega arith) c.scanned.told) c.ordered);
}

-- ---- the keys behind it, none of which has an entry

-- what is new in a window that was lengthened
new_up : (f p r : ℕ) (q : List ℕ) → within f r q ≡ true → within f p q ≡ false → p ≤ key_number q
new_up f p r q e n =
    let w = within_is f r q e in
    dite (dec_lt (key_number q) p)
    (λ lt. let t = is_within f p q w.key w.low lt in absurd cc)
    (λ ge. omega arith)

new_down : (g f p : ℕ) (q : List ℕ) → within g p q ≡ true → within f p q ≡ false → key_number q < f
new_down g f p q e n =
    let w = within_is g p q e in
    dite (dec_lt (key_number q) f)
    (λ lt. lt)
    (λ ge. let t = is_within f p q w.key (omega arith) w.high in absurd cc)

stretch-up : (a v w : View) (lo p r n : ℕ) (at : List ℕ → ℕ) (ps : List Pair) → Later a v → Later v w → p ≤ r → r ≤ n → Absents v w p n at → Scanned a v lo p ps → Scanned a w lo r ps
stretch-up a v w lo p r n at ps la l pr rn h s = grow_absent a v w lo p lo r at ps l (omega arith) pr
    (λ q e m. let x = within_is lo r q e in read_before q (at q) None a v w la (h q x.key (new_up lo p r q e m) (omega (arith, x.high)))) s

stretch-down : (a v w : View) (past f g n : ℕ) (at : List ℕ → ℕ) (ps : List Pair) → Later a v → Later v w → g ≤ f → n ≤ g → Absents v w n f at → Scanned a v f past ps → Scanned a w g past ps
stretch-down a v w past f g n at ps la l gf ng h s = grow_absent a v w f past g past at ps l gf (omega arith)
    (λ q e m. let x = within_is g past q e in read_before q (at q) None a v w la (h q x.key (omega (arith, x.low)) (new_down g f past q e m))) s

-- up to another key, which is not read yet
pub goes-up : (lo hi : ℕ) (at : List ℕ → ℕ) (k x : List ℕ) (a v w : View) (ps : List Pair) → Later v w → key_number k < key_number x → Absents v w (suc (key_number k)) (key_number x) at
    → Come Up lo hi true false k a v ps → Come Up lo hi false false x a w ps
goes-up lo hi at k x a v w ps l lt h c = record {
  later = later_both a v w c.later l;
  scanned = stretch-up a v w lo (suc (key_number k)) (key_number x) (key_number x) at ps c.later l (omega arith) (omega arith) h c.scanned;
  ordered = c.ordered;
}

-- up to the end of the range
pub ends-up : (lo hi : ℕ) (at : List ℕ → ℕ) (n : ℕ) (past : Bool) (k x : List ℕ) (a v w : View) (ps : List Pair) → Later v w → key_number k ≤ hi → hi < n → Absents v w (suc (key_number k)) n at
    → Come Up lo hi true false k a v ps → Come Up lo hi past true x a w ps
ends-up lo hi at n past k x a v w ps l le lt h c = record {
  later = later_both a v w c.later l;
  scanned = stretch-up a v w lo (suc (key_number k)) (suc hi) n at ps c.later l (omega arith) (omega arith) h c.scanned;
  ordered = c.ordered;
}

-- down to another key, which is not read yet
pub goes-down : (lo hi : ℕ) (at : List ℕ → ℕ) (k x : List ℕ) (a v w : View) (ps : List Pair) → Later v w → key_number x < key_number k → Absents v w (suc (key_number x)) (key_number k) at
    → Come Down lo hi true false k a v ps → Come Down lo hi false false x a w ps
goes-down lo hi at k x a v w ps l lt h c = record {
  later = later_both a v w c.later l;
  scanned = stretch-down a v w (suc hi) (key_number k) (suc (key_number x)) (suc (key_number x)) at ps c.later l (omega arith) (omega arith) h c.scanned;
  ordered = c.ordered;
}

-- down to a room's low bound, with which it is read
pub reaches-down : (lo hi : ℕ) (at : List ℕ → ℕ) (k x : List ℕ) (a v w : View) (ps : List Pair) → Later v w → key_number x ≤ key_number k → Absents v w (key_number x) (key_number k) at
    → Come Down lo hi true false k a v ps → Come Down lo hi true false x a w ps
reaches-down lo hi at k x a v w ps l lt h c = record {
  later = later_both a v w c.later l;
  scanned = stretch-down a v w (suc hi) (key_number k) (key_number x) (key_number x) at ps c.later l lt (omega arith) h c.scanned;
  ordered = c.ordered;
}

-- down to the end of the range
pub ends-down : (lo hi : ℕ) (at : List ℕ → ℕ) (n : ℕ) (past : Bool) (k x : List ℕ) (a v w : View) (ps : List Pair) → Later v w → lo ≤ key_number k → n ≤ lo → Absents v w n (key_number k) at
    → Come Down lo hi true false k a v ps → Come Down lo hi past true x a w ps
ends-down lo hi at n past k x a v w ps l le lt h c = record {
  later = later_both a v w c.later l;
  scanned = stretch-down a v w (suc hi) (key_number k) lo n at ps c.later l le lt h c.scanned;
  ordered = c.ordered;
}

-- ---- the same, where the keys behind were read before

lift_up : (a v : View) (lo p r n : ℕ) (at : List ℕ → ℕ) (ps : List Pair) → p ≤ r → r ≤ n → Absents a v p n at → Scanned a v lo p ps → Scanned a v lo r ps
lift_up a v lo p r n at ps pr rn h s = grow_absent a v v lo p lo r at ps (later_self v) (omega arith) pr
    (λ q e m. let x = within_is lo r q e in h q x.key (new_up lo p r q e m) (omega (arith, x.high))) s

lift_down : (a v : View) (past f g n : ℕ) (at : List ℕ → ℕ) (ps : List Pair) → g ≤ f → n ≤ g → Absents a v n f at → Scanned a v f past ps → Scanned a v g past ps
lift_down a v past f g n at ps gf ng h s = grow_absent a v v f past g past at ps (later_self v) gf (omega arith)
    (λ q e m. let x = within_is g past q e in h q x.key (omega (arith, x.low)) (new_down g f past q e m)) s

pub lifts_up : (lo hi n : ℕ) (at : List ℕ → ℕ) (k x : List ℕ) (a v : View) (ps : List Pair) → key_number k < key_number x → key_number x ≤ n → Absents a v (suc (key_number k)) n at → Come Up lo hi true false k a v ps → Come Up lo hi false false x a v ps
lifts_up lo hi n at k x a v ps lt le h c = record { later = c.later; scanned = lift_up a v lo (suc (key_number k)) (key_number x) n at ps (omega arith) le h c.scanned; ordered = c.ordered }

pub lifts_down : (lo hi n : ℕ) (at : List ℕ → ℕ) (k x : List ℕ) (a v : View) (ps : List Pair) → key_number x < key_number k → n ≤ suc (key_number x) → Absents a v n (key_number k) at → Come Down lo hi true false k a v ps → Come Down lo hi false false x a v ps
lifts_down lo hi n at k x a v ps lt le h c = record { later = c.later; scanned = lift_down a v (suc hi) (key_number k) (suc (key_number x)) n at ps (omega arith) le h c.scanned; ordered = c.ordered }

pub lifts_to : (lo hi n : ℕ) (at : List ℕ → ℕ) (k x : List ℕ) (a v : View) (ps : List Pair) → key_number x ≤ key_number k → n ≤ key_number x → Absents a v n (key_number k) at → Come Down lo hi true false k a v ps → Come Down lo hi true false x a v ps
lifts_to lo hi n at k x a v ps lt le h c = record { later = c.later; scanned = lift_down a v (suc hi) (key_number k) (key_number x) n at ps lt le h c.scanned; ordered = c.ordered }

pub lifts_end_up : (lo hi n : ℕ) (at : List ℕ → ℕ) (past : Bool) (k x : List ℕ) (a v : View) (ps : List Pair) → key_number k ≤ hi → hi < n → Absents a v (suc (key_number k)) n at → Come Up lo hi true false k a v ps → Come Up lo hi past true x a v ps
lifts_end_up lo hi n at past k x a v ps le lt h c = record { later = c.later; scanned = lift_up a v lo (suc (key_number k)) (suc hi) n at ps (omega arith) (omega arith) h c.scanned; ordered = c.ordered }

pub lifts_end_down : (lo hi n : ℕ) (at : List ℕ → ℕ) (past : Bool) (k x : List ℕ) (a v : View) (ps : List Pair) → lo ≤ key_number k → n ≤ lo → Absents a v n (key_number k) at → Come Down lo hi true false k a v ps → Come Down lo hi past true x a v ps
lifts_end_down lo hi n at past k x a v ps le lt h c = record { later = c.later; scanned = lift_down a v (suc hi) (key_number k) lo n at ps le lt h c.scanned; ordered = c.ordered }
