-- Two scans of one range, at one count of each key's writes in two runs whose states up to it are alike, print the same.
use Rattle.std.proofs.Common.{◌≡◌, ℕ, Bool, true, false, cond, List, [], ◌∷◌, Option, Some, None, refl, sym, ap, ◌∙◌, arith, inl, inr}
use Rattle.std.specs.List.{AllByRecursion}
use Rattle.std.specs.List.Sorted.{IsStrictlySortedBy}
use Rattle.std.specs.declared.cmp.Ordering.{Ordering}
use Rattle.std.proofs.lemmas.Bool.{cases_Bool}
use Rattle.oak_model.specs.declared.replies.Pair.{Pair}
use Rattle.oak_model.specs.declared.replies.Reply.{Reply}
use Rattle.oak_model.specs.declared.replies.Reply.TheVariants as replies
use Rattle.oak_model.specs.History.{Histories, place_of, state_at}
use Rattle.oak_model.specs.Key.{same_key}
use Rattle.oak_model.specs.Scan.{in_range, pair_keys, value_in}
use Rattle.oak_model.specs.State.{State}
use Rattle.oak_model.proofs.KeyLaws.{same_itself}
use Rattle.oak_script.specs.declared.scripts.Call.{Call}
use Rattle.oak_script.specs.Text.{reply_text}
use Rattle.oak_run.specs.Scans.{PairsFit, RangeFits}
use Rattle.oak_run.specs.Told.{ask_of}
use Rattle.oak_run.specs.Turn.{Turn}
use Rattle.oak_run.proofs.AlikeTurns.{AreAlike, none-counted, places_by}
use Rattle.oak_run.proofs.PairTexts.{IsOneWay, are-one, one-read}
use Rattle.oak_run.proofs.TurnCounts.{Counts, IsCounted}

-- ---- each pair's key is one of which something is said

said-more : (p : Pair) (ps : List Pair) (k : List ℕ) → (b : List ℕ) × (value_in ps k ≡ Some b) → (b : List ℕ) × (value_in (p ∷ ps) k ≡ Some b)
said-more p ps k s = by (same_key k p.key)
  where
    by : (x : Bool) → (b : List ℕ) × (cond x (Some p.value) (value_in ps k) ≡ Some b)
    by true = (p.value, refl)
    by false = s

all-more : (p : Pair) (ps rs : List Pair) → AllByRecursion (λ (r : Pair). (b : List ℕ) × (value_in ps r.key ≡ Some b)) rs → AllByRecursion (λ (r : Pair). (b : List ℕ) × (value_in (p ∷ ps) r.key ≡ Some b)) rs
all-more p ps [] all = tt
all-more p ps (r ∷ rs) all = (said-more p ps r.key all.0, all-more p ps rs all.1)

all-said : (ps : List Pair) → AllByRecursion (λ (p : Pair). (b : List ℕ) × (value_in ps p.key ≡ Some b)) ps
all-said [] = tt
all-said (p ∷ ps) = ((p.value, ap (λ (x : Bool). cond x (Some p.value) (value_in ps p.key)) (same_itself p.key)), all-more p ps ps (all-said ps))

-- ---- one scan

module _ (h : Histories) (n : Counts) (low high : Option (List ℕ)) (ps : List Pair) (t : Turn) (none : ask_of t.call ≡ None) (in_count : IsCounted n t) (f : PairsFit h low high ps t) where
  -- a key of the range was read at its count
  read-count : (q : List ℕ) → in_range low high q ≡ true → f.reads q ≡ n q
  read-count q inside = in_count.places q (f.reads q) (f.places q ∙ ap (λ (b : Bool). cond b (Some (f.reads q)) None) inside) ∙ none-counted n t none q

  pub says-count : (q : List ℕ) → value_in ps q ≡ cond (in_range low high q) (state_at (h q) (n q)) None
  says-count q = f.fits.reads q ∙ elim (cases_Bool (in_range low high q)) [
    | inl inside ↦ ap (λ (r : ℕ). cond (in_range low high q) (state_at (h q) r) None) (read-count q inside)
    | inr outside ↦ ap (λ (b : Bool). cond b (state_at (h q) (f.reads q)) None) outside ∙ sym (ap (λ (b : Bool). cond b (state_at (h q) (n q)) None) outside)
  ]

  inside-said : (q b : List ℕ) → value_in ps q ≡ Some b → in_range low high q ≡ true
  inside-said q b said = by (in_range low high q) (state_at (h q) (n q)) (sym (says-count q) ∙ said)
    where
      by : (x : Bool) (s : State) → cond x s None ≡ Some b → x ≡ true
      by true s e = refl
      by false s e = absurd cc

  each-count : (rs : List Pair) → AllByRecursion (λ (p : Pair). (b : List ℕ) × (value_in ps p.key ≡ Some b)) rs → AllByRecursion (λ (p : Pair). place_of (h p.key) p.at ≡ f.reads p.key) rs → AllByRecursion (λ (p : Pair). place_of (h p.key) p.at ≡ n p.key) rs
  each-count [] said each = tt
  each-count (r ∷ rs) said each = (each.0 ∙ read-count r.key (inside-said r.key said.0.0 said.0.1), each-count rs said.1 each.1)

  pub pairs-count : AllByRecursion (λ (p : Pair). place_of (h p.key) p.at ≡ n p.key) ps
  pairs-count = each-count ps (all-said ps) f.fits.each

-- ---- two

module _ (cmp : List ℕ → List ℕ → Ordering) (one_way : IsOneWay cmp) (h e : Histories) (n : Counts) (c : Call) (low high : Option (List ℕ)) (t u : Turn)
    (alike : AreAlike n h e) (t_none : ask_of t.call ≡ None) (u_none : ask_of u.call ≡ None) (t_counted : IsCounted n t) (u_counted : IsCounted n u) where
  pairs-lines : (ps qs : List Pair) → IsStrictlySortedBy cmp (pair_keys ps) → IsStrictlySortedBy cmp (pair_keys qs) → PairsFit h low high ps t → PairsFit e low high qs u → reply_text (places_by h) c (replies.Pairs ps) ≡ reply_text (places_by e) c (replies.Pairs qs)
  pairs-lines ps qs p_sorted q_sorted f g =
      let says : ((q : List ℕ) → value_in ps q ≡ value_in qs q) = λ q. says-count h n low high ps t t_none t_counted f q ∙ (ap (λ (s : State). cond (in_range low high q) s None) (alike q (n q) (omega arith)) ∙ sym (says-count e n low high qs u u_none u_counted g q)) in
      one-read h e n ps qs (pairs-count h n low high ps t t_none t_counted f) (pairs-count e n low high qs u u_none u_counted g) (are-one cmp one_way ps qs p_sorted q_sorted says)

  pub range-lines : (y z : Reply) → RangeFits h (λ ps. IsStrictlySortedBy cmp (pair_keys ps)) low high t y → RangeFits e (λ ps. IsStrictlySortedBy cmp (pair_keys ps)) low high u z → reply_text (places_by h) c y ≡ reply_text (places_by e) c z
  range-lines (replies.Pairs ps) (replies.Pairs qs) f g = pairs-lines ps qs f.0 g.0 f.1 g.1
  range-lines (replies.Pairs ps) (replies.Wrote w) f g = absurd g
  range-lines (replies.Pairs ps) (replies.Value key value at) f g = absurd g
  range-lines (replies.Pairs ps) (replies.Held at) f g = absurd g
  range-lines (replies.Pairs ps) replies.Gone f g = absurd g
  range-lines (replies.Pairs ps) replies.Unheld f g = absurd g
  range-lines (replies.Wrote w) z f g = absurd f
  range-lines (replies.Value key value at) z f g = absurd f
  range-lines (replies.Held at) z f g = absurd f
  range-lines replies.Gone z f g = absurd f
  range-lines replies.Unheld z f g = absurd f
