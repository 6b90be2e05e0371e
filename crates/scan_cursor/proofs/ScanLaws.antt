-- How what a scan has read grows: by keys that were read absent, or by one that was present.
use Rattle.std.proofs.Common.{◌≡◌, ℕ, ◌≤◌, Bool, true, false, cond, List, [], ◌∷◌, ◌++◌, Some, None, refl, sym, ap, ◌∙◌, arith, inl, inr}
use Rattle.std.specs.List.{AllByRecursion}
use Rattle.std.proofs.lemmas.Bool.{cases_Bool}
use Rattle.oak_model.specs.declared.replies.Pair.{Pair}
use Rattle.oak_model.specs.State.{State}
use Rattle.oak_model.specs.Key.{same_key}
use Rattle.oak_model.specs.Scan.{value_in}
use Rattle.oak_model.proofs.KeyLaws.{same_is, same_itself}
use Rattle.scan_cursor.specs.Views.{Later, ReadsKey, View}
use Rattle.scan_cursor.specs.Scanned.{Scanned, within}
use Rattle.scan_cursor.proofs.KeyWindows.{within_is, is_within}
use Rattle.scan_cursor.proofs.ReadingViews.{read_behind}

-- nothing is read yet
pub scan_starts : (a : View) (from past : ℕ) → past ≤ from → Scanned a a from past []
scan_starts a from past le = record {
  ats = λ _. 0;
  each = λ q e. let w = within_is from past q e in absurd (omega (arith, w.low, w.high));
  others = λ q e. refl;
  told = tt;
}

-- the pass only met more
pub scan_stays : (a b c : View) (from past : ℕ) (ps : List Pair) → Later b c → Scanned a b from past ps → Scanned a c from past ps
scan_stays a b c from past ps l s = record {
  ats = s.ats;
  each = λ q e. read_behind q (s.ats q) (value_in ps q) a b c l (s.each q e);
  others = s.others;
  told = s.told;
}

told_grows : (f p g r : ℕ) (ats bts : List ℕ → ℕ) (ps : List Pair) → ((q : List ℕ) → within f p q ≡ true → (within g r q ≡ true) × (bts q ≡ ats q))
    → AllByRecursion (λ (x : Pair). (within f p x.key ≡ true) × (x.at ≡ ats x.key)) ps → AllByRecursion (λ (x : Pair). (within g r x.key ≡ true) × (x.at ≡ bts x.key)) ps
told_grows f p g r ats bts [] h t = tt
told_grows f p g r ats bts (x ∷ xs) h t = let k = h x.key t.0.0 in ((k.0, t.0.1 ∙ sym k.1), told_grows f p g r ats bts xs h t.1)

not_within : (f p : ℕ) (q : List ℕ) → (within f p q ≡ true → ⊥) → within f p q ≡ false
not_within f p q n = elim (cases_Bool (within f p q)) [ inl t ↦ absurd (n t) | inr e ↦ e ]

wider : (f p g r : ℕ) (q : List ℕ) → g ≤ f → p ≤ r → within f p q ≡ true → within g r q ≡ true
wider f p g r q a b e = let w = within_is f p q e in is_within g r q w.key (omega (arith, w.low)) (omega (arith, w.high))

chosen : (b : Bool) (x y : ℕ) → b ≡ true → cond b x y ≡ x
chosen b x y e = rw e refl

abbrev ats_with : ℕ → ℕ → (List ℕ → ℕ) → ℕ → List ℕ → ℕ
ats_with f p ats at q = cond (within f p q) (ats q) at

-- The window grows, and each key that is new in it was read absent at the place of one number.
pub grow_absent : (a b c : View) (f p g r : ℕ) (at : List ℕ → ℕ) (ps : List Pair) → Later b c → g ≤ f → p ≤ r
    → ((q : List ℕ) → within g r q ≡ true → within f p q ≡ false → ReadsKey a c q (at q) None)
    → Scanned a b f p ps → Scanned a c g r ps
grow_absent a b c f p g r at ps l gf pr new s = record {
  ats = λ q. cond (within f p q) (s.ats q) (at q);
  each = λ q e. by q (within f p q) refl e;
  others = λ q e. s.others q (not_within f p q (λ t. let x = wider f p g r q gf pr t in cc));
  told = told_grows f p g r s.ats (λ q. cond (within f p q) (s.ats q) (at q)) ps (λ q e. (wider f p g r q gf pr e, chosen (within f p q) (s.ats q) (at q) e)) s.told;
}
  where
    by : (q : List ℕ) (x : Bool) → within f p q ≡ x → within g r q ≡ true → ReadsKey a c q (cond x (s.ats q) (at q)) (value_in ps q)
    by q true e t = read_behind q (s.ats q) (value_in ps q) a b c l (s.each q e)
    by q false e t = rw (s.others q e) (new q t e)

value_behind : (ps : List Pair) (x : Pair) (q : List ℕ) → same_key q x.key ≡ false → value_in (ps ++ x ∷ []) q ≡ value_in ps q
value_behind [] x q e = rw e refl
value_behind (p ∷ ps) x q e = ap (λ (s : State). cond (same_key q p.key) (Some p.value) s) (value_behind ps x q e)

value_new : (ps : List Pair) (x : Pair) (q : List ℕ) → same_key q x.key ≡ true → value_in ps q ≡ None → value_in (ps ++ x ∷ []) q ≡ Some x.value
value_new [] x q e n = rw e refl
value_new (p ∷ ps) x q e n = by (same_key q p.key) n (λ m. value_new ps x q e m)
  where
    by : (b : Bool) → cond b (Some p.value) (value_in ps q) ≡ None → (value_in ps q ≡ None → value_in (ps ++ x ∷ []) q ≡ Some x.value) → cond b (Some p.value) (value_in (ps ++ x ∷ []) q) ≡ Some x.value
    by true m h = absurd cc
    by false m h = h m

told_end : (P : Pair → Type 0) (ps : List Pair) (x : Pair) → AllByRecursion P ps → P x → AllByRecursion P (ps ++ x ∷ [])
told_end P [] x h e = (e, tt)
told_end P (y ∷ ys) x h e = (h.0, told_end P ys x h.1 e)

-- The window grows by one key, which was present.
pub grow_pair : (a b c : View) (f p g r : ℕ) (ps : List Pair) (x : Pair) → Later b c → g ≤ f → p ≤ r
    → within g r x.key ≡ true → within f p x.key ≡ false
    → ((q : List ℕ) → within g r q ≡ true → within f p q ≡ false → q ≡ x.key)
    → ReadsKey a c x.key x.at (Some x.value)
    → Scanned a b f p ps → Scanned a c g r (ps ++ x ∷ [])
grow_pair a b c f p g r ps x l gf pr inside new only read s = record {
  ats = ats_with f p s.ats x.at;
  each = λ q e. by q (within f p q) refl e;
  others = λ q e. let n = not_within f p q (λ t. let y = wider f p g r q gf pr t in cc) in value_behind ps x q (apart q (λ d. let m = ap (within g r) d in cc)) ∙ s.others q n;
  told = told_end (λ (y : Pair). (within g r y.key ≡ true) × (y.at ≡ ats_with f p s.ats x.at y.key)) ps x
      (told_grows f p g r s.ats (ats_with f p s.ats x.at) ps (λ q e. (wider f p g r q gf pr e, chosen (within f p q) (s.ats q) x.at e)) s.told)
      (inside, sym (rw new refl));
}
  where
    apart : (q : List ℕ) → (q ≡ x.key → ⊥) → same_key q x.key ≡ false
    apart q n = elim (cases_Bool (same_key q x.key)) [ inl t ↦ absurd (n (same_is q x.key t)) | inr e ↦ e ]

    by : (q : List ℕ) (y : Bool) → within f p q ≡ y → within g r q ≡ true → ReadsKey a c q (cond y (s.ats q) x.at) (value_in (ps ++ x ∷ []) q)
    by q true e t =
        let other : same_key q x.key ≡ false = apart q (λ d. let m = ap (within f p) d in cc) in
        rw (value_behind ps x q other) (read_behind q (s.ats q) (value_in ps q) a b c l (s.each q e))
    by q false e t =
        let d = only q t e in
        let same : same_key q x.key ≡ true = rw d (same_itself x.key) in
        rw (value_new ps x q same (s.others q e), d) read
