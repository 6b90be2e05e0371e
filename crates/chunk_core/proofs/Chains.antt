-- Links that are followed: how a chain goes on, that it ends, what lies between two of its entries, and what it has where an entry is linked behind another.
use Rattle.std.proofs.Common.{◌≡◌, ◌≢◌, ℕ, zero, suc, ◌+◌, ◌-◌, ◌*◌, ◌<◌, ◌≤◌, ◌⊎◌, ◌==◌, cond, Bool, List, [], ◌∷◌, sym, refl, ap, ◌∙◌, subst, ⊎_elim, arith, eq-eqb, ne_eqb}
use Rattle.std.specs.Prelude.{length}
use mathlib.Core.Logic.{dite}
use native.Mathlib.Decide.{ℕ_discrete}
use Rattle.oak_model.specs.Counts.{one_at, total, put, Each}
use Rattle.oak_model.proofs.Counting.{one_at-same, one_at-other}
use Rattle.oak_model.proofs.Lists.{each_map}
use Rattle.oak_model.proofs.PutLaws.{put-here, put-else}
use Rattle.oak_model.proofs.SumLaws.{times-one, times-none, plus_times, total_sum}
use Rattle.chunk_core.specs.LinkedEntries.{first_numbers, chain, farthest, reached, Rises}
use Rattle.chunk_core.proofs.EntryNumbers.{each_at, each_of}

-- Numbers below n, none twice.

-- what is added up over them, by the numbers below n
pub total_spread : (f : ℕ → ℕ) (n : ℕ) (xs : List ℕ) → Each (λ i. i < n) xs → total f xs ≡ total (λ i. total (λ j. one_at j i) xs * f i) (first_numbers n)
unfolding total first_numbers
total_spread f n [] h = sym (zeros n)
  where
    zeros : (n : ℕ) → total (λ i. 0 * f i) (first_numbers n) ≡ 0
    zeros zero = refl
    zeros (suc n) = let t = zeros n in let q = times-none 0 (f n) refl in omega arith
total_spread f n (x ∷ xs) h = let t = total_spread f n xs h.1 in let o = one n x h.0 in
    let s = total_sum (λ i. (one_at x i + total (λ j. one_at j i) xs) * f i) (λ i. one_at x i * f i) (λ i. total (λ j. one_at j i) xs * f i) (first_numbers n) (λ i. plus_times (one_at x i) (total (λ j. one_at j i) xs) (f i)) in omega arith
  where
    away : (n x : ℕ) → n ≤ x → total (λ i. one_at x i * f i) (first_numbers n) ≡ 0
    away zero x l = refl
    away (suc n) x l = let t = away n x (omega arith) in let q = times-none (one_at x n) (f n) (one_at-other x n (λ e. absurd (omega arith))) in omega arith

    one : (n x : ℕ) → x < n → total (λ i. one_at x i * f i) (first_numbers n) ≡ f x
    one zero x l = absurd (omega arith)
    one (suc n) x l = dite (ℕ_discrete x n) (λ e. let q = times-one (one_at x n) (f n) (one_at-same x n e) in let t = away n x (omega arith) in let s = ap f e in omega arith)
        (λ ne. let q = times-none (one_at x n) (f n) (one_at-other x n ne) in let t = one n x (omega arith) in omega arith)

-- they are n at most
pub few_below : (n : ℕ) (xs : List ℕ) → Each (λ i. i < n) xs → ((i : ℕ) → total (λ j. one_at j i) xs ≤ 1) → length xs ≤ n
unfolding total first_numbers
few_below n xs h once = let s = total_spread (λ i. 1) n xs h in let l = ones xs in let m = most n in omega arith
  where
    ones : (xs : List ℕ) → total (λ i. 1) xs ≡ length xs
    ones [] = refl
    ones (x ∷ xs) = let t = ones xs in omega arith

    most : (n : ℕ) → total (λ i. total (λ j. one_at j i) xs * 1) (first_numbers n) ≤ n
    most zero = omega arith
    most (suc n) = let t = most n in let o = once n in omega arith

-- Numbers that rise are each there once.
pub rises_once : (f : ℕ → ℕ) (xs : List ℕ) → Rises f xs → (i : ℕ) → total (λ j. one_at j i) xs ≤ 1
unfolding total
rises_once f [] h i = omega arith
rises_once f (x ∷ xs) h i = dite (ℕ_discrete x i) (λ e. let o = one_at-same x i e in let n = none xs (subst (λ (t : ℕ). Each (λ j. f t < f j) xs) e h.0) in omega arith) (λ ne. let o = one_at-other x i ne in let r = rises_once f xs h.1 i in omega arith)
  where
    none : (ys : List ℕ) → Each (λ j. f i < f j) ys → total (λ j. one_at j i) ys ≡ 0
    none [] h = refl
    none (y ∷ ys) h = let t = none ys h.1 in let o = one_at-other y i (λ e. let s = ap f e in let l = h.0 in absurd (omega arith)) in omega arith

pub rises_same : (f g : ℕ → ℕ) (xs : List ℕ) → Each (λ i. g i ≡ f i) xs → Rises f xs → Rises g xs
rises_same f g [] h r = tt
rises_same f g (x ∷ xs) h r = (below xs h.1 r.0, rises_same f g xs h.1 r.1)
  where
    below : (ys : List ℕ) → Each (λ i. g i ≡ f i) ys → Each (λ j. f x < f j) ys → Each (λ j. g x < g j) ys
    below [] t l = tt
    below (y ∷ ys) t l = (let a = h.0 in let b = t.0 in let c = l.0 in omega arith, below ys t.1 l.1)

-- A chain by its first link.

pub chain-none : (n : ℕ) (next : ℕ → ℕ) → chain n next 0 ≡ []
unfolding chain
chain-none zero next = refl
chain-none (suc n) next = refl

pub chain-some : (n : ℕ) (next : ℕ → ℕ) (i : ℕ) → i ≢ 0 → chain (suc n) next i ≡ (i - 1) ∷ chain n next (next (i - 1))
unfolding chain
chain-some n next i ne = ap (λ (b : Bool). cond b [] ((i - 1) ∷ chain n next (next (i - 1)))) (ne_eqb i 0 ne)

-- one that is shorter than it might be ended, and is the same with one step less
pub chain_less : (n : ℕ) (next : ℕ → ℕ) (i : ℕ) → length (chain (suc n) next i) < suc n → chain n next i ≡ chain (suc n) next i
chain_less zero next i l = dite (ℕ_discrete i 0) (λ e. ap (chain 0 next) e ∙ (chain-none 0 next ∙ (sym (chain-none 1 next) ∙ ap (chain 1 next) (sym e)))) (λ ne. let s = ap length (chain-some zero next i ne) in absurd (omega arith))
chain_less (suc n) next i l = dite (ℕ_discrete i 0) (λ e. ap (chain (suc n) next) e ∙ (chain-none (suc n) next ∙ (sym (chain-none (suc (suc n)) next) ∙ ap (chain (suc (suc n)) next) (sym e))))
    (λ ne. let s = ap length (chain-some (suc n) next i ne) in chain-some n next i ne ∙ (ap (λ (t : List ℕ). (i - 1) ∷ t) (chain_less n next (next (i - 1)) (omega arith)) ∙ sym (chain-some (suc n) next i ne)))

-- links of others are not followed
pub chain_same : (n : ℕ) (next next' : ℕ → ℕ) (i : ℕ) → Each (λ j. next' j ≡ next j) (chain n next i) → chain n next' i ≡ chain n next i
unfolding chain
chain_same zero next next' i h = refl
chain_same (suc n) next next' i h = dite (ℕ_discrete i 0) (λ e. ap (chain (suc n) next') e ∙ (chain-none (suc n) next' ∙ (sym (chain-none (suc n) next) ∙ ap (chain (suc n) next) (sym e))))
    (λ ne. let t = subst (Each (λ j. next' j ≡ next j)) (chain-some n next i ne) h in
    chain-some n next' i ne ∙ (ap (λ (k : ℕ). (i - 1) ∷ chain n next' k) t.0 ∙ (ap (λ (xs : List ℕ). (i - 1) ∷ xs) (chain_same n next next' (next (i - 1)) t.1) ∙ sym (chain-some n next i ne))))

-- the link of one that is not there is not followed
pub chain_put : (n : ℕ) (next : ℕ → ℕ) (p x i : ℕ) → total (λ j. one_at j p) (chain n next i) ≡ 0 → chain n (put next p x) i ≡ chain n next i
chain_put n next p x i none = chain_same n next (put next p x) i (each_of (λ j. put next p x j ≡ next j) (chain n next i) (λ j l. put-else next p x j (λ e. let s = ap (λ (t : ℕ). total (λ j. one_at j t) (chain n next i)) e in absurd (omega arith))))

-- An entry e behind an entry p.

unfoldable pub behind : ℕ → ℕ → List ℕ → List ℕ
behind p e [] = []
behind p e (x ∷ xs) = x ∷ cond (x == p) (e ∷ xs) (behind p e xs)

behind-here : (p e x : ℕ) (xs : List ℕ) → x ≡ p → behind p e (x ∷ xs) ≡ x ∷ e ∷ xs
unfolding behind
behind-here p e x xs h = ap (λ (b : Bool). x ∷ cond b (e ∷ xs) (behind p e xs)) (eq-eqb x p h)

behind-else : (p e x : ℕ) (xs : List ℕ) → x ≢ p → behind p e (x ∷ xs) ≡ x ∷ behind p e xs
unfolding behind
behind-else p e x xs h = ap (λ (b : Bool). x ∷ cond b (e ∷ xs) (behind p e xs)) (ne_eqb x p h)

pub behind_total : (f : ℕ → ℕ) (p e : ℕ) (xs : List ℕ) → 0 < total (λ j. one_at j p) xs → total f (behind p e xs) ≡ total f xs + f e
unfolding total
behind_total f p e [] l = absurd (omega arith)
behind_total f p e (x ∷ xs) l = dite (ℕ_discrete x p) (λ h. let b = ap (total f) (behind-here p e x xs h) in omega arith)
    (λ ne. let b = ap (total f) (behind-else p e x xs ne) in let o = one_at-other x p ne in let t = behind_total f p e xs (omega arith) in omega arith)

pub behind_each : (P : ℕ → Type 0) (p e : ℕ) (xs : List ℕ) → Each P xs → P e → Each P (behind p e xs)
unfolding behind
behind_each P p e [] h q = tt
behind_each P p e (x ∷ xs) h q = dite (ℕ_discrete x p) (λ s. subst (Each P) (sym (behind-here p e x xs s)) (h.0, (q, h.1))) (λ ne. subst (Each P) (sym (behind-else p e x xs ne)) (h.0, behind_each P p e xs h.1 q))

-- they rise where e is above p, and below all that are above p
pub behind_rises : (f : ℕ → ℕ) (p e : ℕ) (xs : List ℕ) → Rises f xs → f p < f e → Each (λ x. f p < f x → suc (f e) ≤ f x) xs → Rises f (behind p e xs)
unfolding behind total
behind_rises f p e [] r l h = tt
behind_rises f p e (x ∷ xs) r l h = dite (ℕ_discrete x p)
    (λ s. let same = ap f s in subst (Rises f) (sym (behind-here p e x xs s)) ((omega arith, r.0), (above xs (subst (λ (t : ℕ). Each (λ j. f t < f j) xs) s r.0) h.1, r.1)))
    (λ ne. subst (Rises f) (sym (behind-else p e x xs ne)) (
      dite (ℕ_discrete (total (λ j. one_at j p) xs) 0)
          (λ none. subst (λ (t : List ℕ). Each (λ j. f x < f j) t) (sym (gone xs none)) r.0)
          (λ there. behind_each (λ j. f x < f j) p e xs r.0 (let q = each_at (λ j. f x < f j) xs p r.0 (omega arith) in omega arith)),
      behind_rises f p e xs r.1 l h.1,
    ))
  where
    above : (ys : List ℕ) → Each (λ j. f p < f j) ys → Each (λ y. f p < f y → suc (f e) ≤ f y) ys → Each (λ j. f e < f j) ys
    above [] a b = tt
    above (y ∷ ys) a b = (let q = b.0 a.0 in omega arith, above ys a.1 b.1)

    gone : (ys : List ℕ) → total (λ j. one_at j p) ys ≡ 0 → behind p e ys ≡ ys
    gone [] n = refl
    gone (y ∷ ys) n = let ne : y ≢ p = (λ q. let o = one_at-same y p q in absurd (omega arith)) in behind-else p e y ys ne ∙ ap (λ (t : List ℕ). y ∷ t) (gone ys (omega arith))

-- A link of p comes to name e, whose own is the one that p had: the chain has e behind p.

-- where p is the first
behind_first : (n : ℕ) (next : ℕ → ℕ) (p e i : ℕ) → next e ≡ next p → e ≢ p → i ≢ 0 → i - 1 ≡ p → total (λ j. one_at j p) (chain n next (next (i - 1))) ≡ 0 → length (chain n next (next (i - 1))) < n
    → chain (suc n) (put next p (e + 1)) i ≡ behind p e (chain (suc n) next i)
behind_first zero next p e i same ne s q c l = absurd (omega arith)
behind_first (suc n) next p e i same ne s q c l = let less = chain_less n next (next (i - 1)) l in let cl = ap (total (λ j. one_at j p)) less in let up = ap next q in
    let away = chain_put n next p (e + 1) (next (i - 1)) (omega arith) in
    chain-some (suc n) (put next p (e + 1)) i s ∙ (ap (λ (t : ℕ). (i - 1) ∷ chain (suc n) (put next p (e + 1)) t) (put-here next p (e + 1) (i - 1) q)
    ∙ (ap (λ (t : List ℕ). (i - 1) ∷ t) (chain-some n (put next p (e + 1)) (e + 1) (λ z. absurd (omega arith)))
    ∙ (ap (λ (t : ℕ). (i - 1) ∷ t ∷ chain n (put next p (e + 1)) (put next p (e + 1) t)) (let u : e + 1 - 1 ≡ e = omega arith in u)
    ∙ (ap (λ (t : ℕ). (i - 1) ∷ e ∷ chain n (put next p (e + 1)) t) (put-else next p (e + 1) e ne ∙ (same ∙ sym up))
    ∙ (ap (λ (t : List ℕ). (i - 1) ∷ e ∷ t) (away ∙ less)
    ∙ (sym (behind-here p e (i - 1) (chain (suc n) next (next (i - 1))) q) ∙ ap (behind p e) (sym (chain-some (suc n) next i s))))))))

pub chain_behind : (n : ℕ) (next : ℕ → ℕ) (p e i : ℕ) → next e ≡ next p → e ≢ p → total (λ j. one_at j e) (chain n next i) ≡ 0 → total (λ j. one_at j p) (chain n next i) ≡ 1 → length (chain n next i) < n
    → chain n (put next p (e + 1)) i ≡ behind p e (chain n next i)
unfolding chain total
chain_behind zero next p e i same ne none once l = absurd (omega arith)
chain_behind (suc n) next p e i same ne none once l = dite (ℕ_discrete i 0) (λ z. absurd (let c = ap (total (λ j. one_at j p)) (ap (chain (suc n) next) z ∙ chain-none (suc n) next) in omega arith))
    (λ s. let cp = ap (total (λ j. one_at j p)) (chain-some n next i s) in let ce = ap (total (λ j. one_at j e)) (chain-some n next i s) in let cl = ap length (chain-some n next i s) in dite (ℕ_discrete (i - 1) p)
    (λ q. let o = one_at-same (i - 1) p q in behind_first n next p e i same ne s q (omega arith) (omega arith))
    (λ m. let o = one_at-other (i - 1) p m in
    chain-some n (put next p (e + 1)) i s ∙ (ap (λ (t : ℕ). (i - 1) ∷ chain n (put next p (e + 1)) t) (put-else next p (e + 1) (i - 1) m)
    ∙ (ap (λ (t : List ℕ). (i - 1) ∷ t) (chain_behind n next p e (next (i - 1)) same ne (omega arith) (omega arith) (omega arith))
    ∙ (sym (behind-else p e (i - 1) (chain n next (next (i - 1))) m) ∙ ap (behind p e) (sym (chain-some n next i s)))))))

-- The first link comes to name e, whose own is the one that was first.
pub chain_front : (n : ℕ) (next : ℕ → ℕ) (e i : ℕ) → next e ≡ i → length (chain n next i) < n → chain n next (e + 1) ≡ e ∷ chain n next i
chain_front zero next e i same l = absurd (omega arith)
chain_front (suc n) next e i same l = chain-some n next (e + 1) (λ z. absurd (omega arith)) ∙ (ap (λ (t : ℕ). t ∷ chain n next (next t)) (let u : e + 1 - 1 ≡ e = omega arith in u) ∙ (ap (λ (t : ℕ). e ∷ chain n next t) same ∙ ap (λ (t : List ℕ). e ∷ t) (chain_less n next i l)))

-- What lies behind a link.

-- the first link names the first
pub first_there : (n : ℕ) (next : ℕ → ℕ) (y i : ℕ) → i ≡ y + 1 → length (chain n next i) < n → 0 < total (λ j. one_at j y) (chain n next i)
unfolding total
first_there zero next y i e l = absurd (omega arith)
first_there (suc n) next y i e l = let c = ap (total (λ j. one_at j y)) (chain-some n next i (λ z. absurd (omega arith))) in let o = one_at-same (i - 1) y (omega arith) in omega arith

-- the link of one names another
pub next_there : (n : ℕ) (next : ℕ → ℕ) (p y i : ℕ) → next p ≡ y + 1 → 0 < total (λ j. one_at j p) (chain n next i) → length (chain n next i) < n → 0 < total (λ j. one_at j y) (chain n next i)
unfolding total chain
next_there zero next p y i e there l = absurd (omega arith)
next_there (suc n) next p y i e there l = dite (ℕ_discrete i 0) (λ z. absurd (let c = ap (total (λ j. one_at j p)) (ap (chain (suc n) next) z ∙ chain-none (suc n) next) in omega arith))
    (λ s. let cp = ap (total (λ j. one_at j p)) (chain-some n next i s) in let cy = ap (total (λ j. one_at j y)) (chain-some n next i s) in let cl = ap length (chain-some n next i s) in
    dite (ℕ_discrete (i - 1) p) (λ q. let f = first_there n next y (next (i - 1)) (ap next q ∙ e) (omega arith) in omega arith)
    (λ m. let o = one_at-other (i - 1) p m in let t = next_there n next p y (next (i - 1)) e (omega arith) (omega arith) in omega arith))

-- all are at or above what the first link names
pub first_least : (f : ℕ → ℕ) (b n : ℕ) (next : ℕ → ℕ) (i : ℕ) → Rises f (chain n next i) → (i ≡ 0) ⊎ (b ≤ f (i - 1)) → Each (λ x. b ≤ f x) (chain n next i)
unfolding chain
first_least f b zero next i r h = tt
first_least f b (suc n) next i r h = dite (ℕ_discrete i 0) (λ z. subst (Each (λ x. b ≤ f x)) (sym (ap (chain (suc n) next) z ∙ chain-none (suc n) next)) tt)
    (λ s. let rs = subst (Rises f) (chain-some n next i s) r in let low : b ≤ f (i - 1) = ⊎_elim (λ (z : i ≡ 0). absurd (s z)) (λ (l : b ≤ f (i - 1)). l) h in
    subst (Each (λ x. b ≤ f x)) (sym (chain-some n next i s)) (low, each_map (λ j. f (i - 1) < f j) (λ x. b ≤ f x) (chain n next (next (i - 1))) (λ x l. omega arith) rs.0))

-- all above p are at or above what its link names
pub next_least : (f : ℕ → ℕ) (b n : ℕ) (next : ℕ → ℕ) (p i : ℕ) → Rises f (chain n next i) → (next p ≡ 0) ⊎ (b ≤ f (next p - 1)) → 0 < total (λ j. one_at j p) (chain n next i) → Each (λ x. f p < f x → b ≤ f x) (chain n next i)
unfolding total chain
next_least f b zero next p i r h there = tt
next_least f b (suc n) next p i r h there = dite (ℕ_discrete i 0) (λ z. subst (Each (λ x. f p < f x → b ≤ f x)) (sym (ap (chain (suc n) next) z ∙ chain-none (suc n) next)) tt)
    (λ s. let rs = subst (Rises f) (chain-some n next i s) r in let cp = ap (total (λ j. one_at j p)) (chain-some n next i s) in
    subst (Each (λ x. f p < f x → b ≤ f x)) (sym (chain-some n next i s)) (dite (ℕ_discrete (i - 1) p)
    (λ q. (
      λ l. absurd (let e = ap f q in omega arith),
      each_map (λ x. b ≤ f x) (λ x. f p < f x → b ≤ f x) (chain n next (next (i - 1))) (λ x l _. l)
          (first_least f b n next (next (i - 1)) rs.1 (subst (λ (t : ℕ). (next t ≡ 0) ⊎ (b ≤ f (next t - 1))) (sym q) h)),
    ))
    (λ m. let o = one_at-other (i - 1) p m in let inside : 0 < total (λ j. one_at j p) (chain n next (next (i - 1))) = omega arith in let below_p = each_at (λ j. f (i - 1) < f j) (chain n next (next (i - 1))) p rs.0 inside in
    (λ l. absurd (omega arith), next_least f b n next p (next (i - 1)) rs.1 h inside))))

-- As far as links are followed they end, where the linked entries are below a count of 16 bits and none is there twice.
pub reached_ends : (n : ℕ) (next : ℕ → ℕ) (i : ℕ) → n < 65536 → Each (λ j. j < n) (reached next i) → ((j : ℕ) → total (λ k. one_at k j) (reached next i) ≤ 1) → length (reached next i) < farthest
unfolding farthest
reached_ends n next i small h once = let f = few_below n (chain 65536 next i) h once in omega arith
