-- Numbers that states keep for words, where one word changes or one state keeps others.
use Rattle.std.proofs.Common.{◌≡◌, ◌≢◌, ℕ, ◌+◌, ◌<◌, ◌≤◌, cond, Bool, false, List, [], ◌∷◌, ◌++◌, set, refl, ap, ◌∙◌, subst, arith, ⊎_elim}
use mathlib.Core.Option.{some}
use lib.ListN.{get_elem?}
use Rattle.oak_model.specs.Counts.{one_if, total}
use Rattle.oak_model.specs.Kept.{KeptWord, keeps, AreTrueTo, KeptNumbersStand, restored}
use Rattle.oak_model.proofs.Lists.{at_set, every_snoc}
use Rattle.oak_model.proofs.Counting.{test-cases, total_at, total_two, total_set, total_snoc}

module _ {P : Type 0} (same : P → P → Bool) where
  -- none of the words is p
  unkept : (p : P) (w : KeptWord P) (ws : List (KeptWord P)) → keeps same p (w ∷ ws) ≡ 0 → (same w.spot p ≡ false) × (keeps same p ws ≡ 0)
  unfolding total
  unkept p w ws e = (test-cases (same w.spot p) (λ b. one_if b + keeps same p ws ≡ 0 → b ≡ false) (λ t h. absurd (omega arith)) (λ f h. refl) e, (omega arith))

  -- one state keeps other words, or other numbers for them
  pub kept_put : (read : P → ℕ) (ks : List (List (KeptWord P))) (id : ℕ) (ws ws' : List (KeptWord P)) → get_elem? ks id ≡ some ws → AreTrueTo read ws'
      → ((q : P) → total (keeps same q) ks + keeps same q ws' ≤ 1 + keeps same q ws) → KeptNumbersStand same read ks → KeptNumbersStand same read (set ks id ws')
  kept_put read ks id ws ws' at true_to few r = record {
    true_to = λ j v e. ⊎_elim (λ (t : (j ≡ id) × (ws' ≡ v)). subst (AreTrueTo read) t.1 true_to) (λ (t : (j ≢ id) × (get_elem? ks j ≡ some v)). r.true_to j v t.1) (at_set ks id j ws' v e);
    once = λ q. let t = total_set (keeps same q) ks id ws ws' at in let f = few q in omega arith;
  }

  -- one more state that keeps nothing
  pub kept_idle : (read : P → ℕ) (ks : List (List (KeptWord P))) → KeptNumbersStand same read ks → KeptNumbersStand same read (ks ++ [] ∷ [])
  unfolding total
  kept_idle read ks r = record {
    true_to = every_snoc (AreTrueTo read) ks [] r.true_to tt;
    once = λ q. let t = total_snoc (keeps same q) ks [] in let o = r.once q in omega arith;
  }

  -- the word p becomes x
  module _ (read read' : P → ℕ) (p : P) (x : ℕ) (after : (q : P) → read' q ≡ cond (same q p) x (read q)) where
    still_true : (ws : List (KeptWord P)) → keeps same p ws ≡ 0 → AreTrueTo read ws → AreTrueTo read' ws
    still_true [] e t = tt
    still_true (w ∷ ws) e t = let u = unkept p w ws e in (after w.spot ∙ (ap (λ (b : Bool). cond b x (read w.spot)) u.0 ∙ t.0), still_true ws u.1 t.1)

    -- which no state keeps
    pub kept_unkept : (ks : List (List (KeptWord P))) → total (keeps same p) ks ≡ 0 → KeptNumbersStand same read ks → KeptNumbersStand same read' ks
    kept_unkept ks none r = record {
      true_to = λ j ws e. still_true ws (let t = total_at (keeps same p) ks j ws e in omega arith) (r.true_to j ws e);
      once = r.once;
    }

    pub now_true : (ws : List (KeptWord P)) → AreTrueTo read ws → AreTrueTo read' (restored same p x ws)
    now_true [] t = tt
    now_true (w ∷ ws) t = (after w.spot ∙ ap (λ (n : ℕ). cond (same w.spot p) x n) t.0, now_true ws t.1)

    pub same_spots : (q : P) (ws : List (KeptWord P)) → keeps same q (restored same p x ws) ≡ keeps same q ws
    unfolding total
    same_spots q [] = refl
    same_spots q (w ∷ ws) = ap (λ (n : ℕ). one_if (same w.spot q) + n) (same_spots q ws)

    -- which one state keeps; it keeps it with its number then, and no word more often than it did
    pub kept_own-put : (ks : List (List (KeptWord P))) (id : ℕ) (ws ws' : List (KeptWord P)) → get_elem? ks id ≡ some ws → 0 < keeps same p ws → AreTrueTo read' ws' → ((q : P) → keeps same q ws' ≤ keeps same q ws) → KeptNumbersStand same read ks → KeptNumbersStand same read' (set ks id ws')
    kept_own-put ks id ws ws' at mine true_to few r = record {
      true_to = λ j v e. ⊎_elim (λ (t : (j ≡ id) × (ws' ≡ v)). subst (AreTrueTo read') t.1 true_to)
          (λ (t : (j ≢ id) × (get_elem? ks j ≡ some v)). still_true v (let o = r.once p in let two = total_two (keeps same p) ks j id v ws t.0 t.1 at in omega arith) (r.true_to j v t.1)) (at_set ks id j ws' v e);
      once = λ q. let t = total_set (keeps same q) ks id ws ws' at in let f = few q in let o = r.once q in omega arith;
    }

    pub kept_own : (ks : List (List (KeptWord P))) (id : ℕ) (ws : List (KeptWord P)) → get_elem? ks id ≡ some ws → 0 < keeps same p ws → KeptNumbersStand same read ks → KeptNumbersStand same read' (set ks id (restored same p x ws))
    kept_own ks id ws at mine r = kept_own-put ks id ws (restored same p x ws) at mine (now_true ws (r.true_to id ws at)) (λ q. let s = same_spots q ws in omega arith) r
