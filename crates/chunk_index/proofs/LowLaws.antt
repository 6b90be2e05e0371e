-- Pairs that rise, and of which no two have one room, still do where one is set among them; and what halving finds in them.
use Rattle.std.proofs.Common.{◌≡◌, ◌≢◌, ℕ, suc, zero, ◌-◌, ◌<◌, ◌≤◌, Bool, true, false, List, [], ◌∷◌, length, get_or, Option, Some, None, refl, sym, ap, subst, ◌∙◌, ⊎_elim, arith, Ordering, Less, Equal, Greater}
use Rattle.std.specs.Prelude.{MatchOption, MatchResult, filter, fold, if◌then◌else◌}
use Rattle.std.specs.List.{All, AllPairs, HoldsAt, insert}
use Rattle.std.specs.List.Sorted.{IsPartitionPoint, IsPartitionedBy}
use Rattle.std.specs.Ordering.{is_eq, is_le, is_lt, ordering_reverse}
use Rattle.std.specs.declared.result.Result.{Result}
use Rattle.std.specs.declared.result.Result.TheVariants.{Ok, Err}
use Rattle.std.specs.Cmp.Lexicographic.{nat_list_cmp_total}
use Rattle.std.proofs.lemmas.Bool.{and_parts, cases_eq, cases_lt, cond_both, eqb-false, false≢true, not-true}
use Rattle.std.proofs.lemmas.Cmp.{alike_right}
use Rattle.std.proofs.lemmas.List.{get_or_default}
use Rattle.std.proofs.lemmas.List.Elements.{All-cons, All-head, All-nil, All-tail, filter_passes}
use Rattle.std.proofs.lemmas.List.Kept.{AllPairs-cons, AllPairs-filter}
use Rattle.oak_model.specs.Key.{IsKeyBefore, key_cmp, same_key}
use Rattle.chunk_index.specs.Lows.{Low, IsOnePerRoom, IsRising, NamesGreatest, comes, comes_before, comes_upto, is_apart, put_low, set_low}

-- ---- orders

less_from : (o : Ordering) → is_lt o ≡ true → o ≡ Less
less_from Less e = refl
less_from Equal e = absurd (false≢true e)
less_from Greater e = absurd (false≢true e)

greater_from : (o : Ordering) → is_lt o ≡ false → is_eq o ≡ false → o ≡ Greater
greater_from Less e f = absurd (false≢true (sym e))
greater_from Equal e f = absurd (false≢true (sym f))
greater_from Greater e f = refl

-- a key that is before one that comes up to k comes up to k
upto_from : (a b k : List ℕ) (o : Ordering) → key_cmp b k ≡ o → is_le o ≡ true → IsKeyBefore a b → is_le (key_cmp a k) ≡ true
upto_from a b k Less is e less = ap is_le (nat_list_cmp_total.trans a b k less is)
upto_from a b k Equal is e less = ap is_le (sym (alike_right nat_list_cmp_total b k a is) ∙ less)
upto_from a b k Greater is e less = absurd (false≢true e)

-- the other way round
before_from : (a b : List ℕ) → key_cmp b a ≡ Greater → IsKeyBefore a b
before_from a b e = nat_list_cmp_total.antisymm a b ∙ ap ordering_reverse e

not_both : (a b : List ℕ) → IsKeyBefore a b → IsKeyBefore b a → ⊥
not_both a b less more = less_greater (key_cmp a b) less (nat_list_cmp_total.antisymm a b ∙ ap ordering_reverse more)
  where
    less_greater : (o : Ordering) → o ≡ Less → o ≡ Greater → ⊥
    less_greater o l g = cc

-- ---- a pair is put among others

all_put : (P : Low → Type 0) (p : Low) (qs : List Low) → P p → All P qs → All P (put_low p qs)
all_put P p [] one all = All-cons P p [] one all
all_put P p (q ∷ qs) one all =
    cond_both (comes_before p.0 q) (q ∷ put_low p qs) (p ∷ q ∷ qs) (All P) (λ _. All-cons P q (put_low p qs) (All-head P q qs all) (all_put P p qs one (All-tail P q qs all))) (λ _. All-cons P p (q ∷ qs) one all)

module _ (R : Low → Low → Type 0) where
  head_pairs : (q : Low) (qs : List Low) → AllPairs R (q ∷ qs) → All (R q) qs
  head_pairs q qs pairs k d within = pairs zero (suc k) d (omega arith) (omega arith)

  tail_pairs : (q : Low) (qs : List Low) → AllPairs R (q ∷ qs) → AllPairs R qs
  tail_pairs q qs pairs i j d lt within = pairs (suc i) (suc j) d (omega arith) (omega arith)

rooms_put : (p : Low) (qs : List Low) → All (λ q. q.1 ≢ p.1) qs → IsOnePerRoom qs → IsOnePerRoom (put_low p qs)
rooms_put p [] apart one = AllPairs-cons (λ a b. a.1 ≢ b.1) p [] (All-nil (λ b. p.1 ≢ b.1)) one
rooms_put p (q ∷ qs) apart one =
    let R : Low → Low → Type 0 = λ a b. a.1 ≢ b.1 in
    let rest = rooms_put p qs (All-tail (λ (a : Low). a.1 ≢ p.1) q qs apart) (tail_pairs R q qs one) in
    let front : All (R p) (q ∷ qs) = λ k d within e. apart k d within (sym e) in
    cond_both (comes_before p.0 q) (q ∷ put_low p qs) (p ∷ q ∷ qs) (AllPairs R)
    (λ _. AllPairs-cons R q (put_low p qs) (all_put (R q) p qs (All-head (λ (a : Low). a.1 ≢ p.1) q qs apart) (head_pairs R q qs one)) rest)
    (λ _. AllPairs-cons R p (q ∷ qs) front one)

rising_put : (p : Low) (qs : List Low) → All (λ q. same_key q.0 p.0 ≡ false) qs → IsRising qs → IsRising (put_low p qs)
rising_put p [] apart up = AllPairs-cons (λ a b. IsKeyBefore a.0 b.0) p [] (All-nil (λ b. IsKeyBefore p.0 b.0)) up
rising_put p (q ∷ qs) apart up =
    let R : Low → Low → Type 0 = λ a b. IsKeyBefore a.0 b.0 in
    let other = All-head (λ (a : Low). same_key a.0 p.0 ≡ false) q qs apart in
    let rest = rising_put p qs (All-tail (λ (a : Low). same_key a.0 p.0 ≡ false) q qs apart) (tail_pairs R q qs up) in
    let head = head_pairs R q qs up in
    let above : comes_before p.0 q ≡ false → IsKeyBefore p.0 q.0 = λ e. before_from p.0 q.0 (greater_from (key_cmp q.0 p.0) e other) in
    let front : comes_before p.0 q ≡ false → All (R p) (q ∷ qs) = λ e. All-cons (R p) q qs (above e) (λ k d within. nat_list_cmp_total.trans p.0 q.0 (get_or qs k d).0 (above e) (head k d within)) in
    cond_both (comes_before p.0 q) (q ∷ put_low p qs) (p ∷ q ∷ qs) (AllPairs R)
    (λ e. AllPairs-cons R q (put_low p qs) (all_put (R q) p qs (less_from (key_cmp q.0 p.0) e) head) rest)
    (λ e. AllPairs-cons R p (q ∷ qs) (front e) up)

-- ---- a pair is set

pub rising_kept : (p : Low) (ps : List Low) → IsRising ps → IsRising (filter (is_apart p) ps)
rising_kept p ps up = AllPairs-filter (λ a b. IsKeyBefore a.0 b.0) (is_apart p) ps up

pub rooms_kept : (p : Low) (ps : List Low) → IsOnePerRoom ps → IsOnePerRoom (filter (is_apart p) ps)
rooms_kept p ps one = AllPairs-filter (λ a b. a.1 ≢ b.1) (is_apart p) ps one

pub rising_set : (p : Low) (ps : List Low) → IsRising ps → IsRising (set_low ps p)
rising_set p ps up = rising_put p (filter (is_apart p) ps) (λ k d within. not-true _ (and_parts _ _ (filter_passes (is_apart p) ps k d within)).1) (rising_kept p ps up)

pub rooms_set : (p : Low) (ps : List Low) → IsOnePerRoom ps → IsOnePerRoom (set_low ps p)
rooms_set p ps one = rooms_put p (filter (is_apart p) ps) (λ k d within. eqb-false _ _ (not-true _ (and_parts _ _ (filter_passes (is_apart p) ps k d within)).0)) (rooms_kept p ps one)

pub rising_fold : (ps qs : List Low) → IsRising ps → IsRising (fold set_low ps qs)
rising_fold ps [] up = up
rising_fold ps (q ∷ qs) up = rising_fold (set_low ps q) qs (rising_set q ps up)

pub rooms_fold : (ps qs : List Low) → IsOnePerRoom ps → IsOnePerRoom (fold set_low ps qs)
rooms_fold ps [] one = one
rooms_fold ps (q ∷ qs) one = rooms_fold (set_low ps q) qs (rooms_set q ps one)

-- what holds of a list as long as pairs are set holds of what is published, whether it is or not
pub published_still : {A E : Type 0} (P : List Low → Type 0) (r : Result A E) (old new ps : List Low) (Q R : Type 0) → P old → P (fold set_low old ps) → MatchResult r (λ _. (new ≡ fold set_low old ps) × Q) (λ _. (new ≡ old) × R) → P new
published_still P (Ok a) old new ps Q R before after is = subst P (sym is.0) after
published_still P (Err e) old new ps Q R before after is = subst P (sym is.0) before

-- the place that halving finds is the pair's
pub put_low-at : (p : Low) (ps : List Low) (n : ℕ) → n ≤ length ps → IsPartitionPoint (λ q. comes_before p.0 q ≡ true) (λ q. comes_before p.0 q ≡ false) ps n → put_low p ps ≡ insert ps n p
put_low-at p [] zero within point = refl
put_low-at p [] (suc n) within point = absurd (omega arith)
put_low-at p (q ∷ qs) zero within point = ap (λ (b : Bool). if b then q ∷ put_low p qs else p ∷ q ∷ qs) (point.1 zero q (omega arith) (omega arith))
put_low-at p (q ∷ qs) (suc n) within point =
    let rest = put_low-at p qs n (omega arith) (λ k d low high. point.0 (suc k) d (omega arith) (omega arith), λ k d low high. point.1 (suc k) d (omega arith) (omega arith)) in
    ap (λ (b : Bool). if b then q ∷ put_low p qs else p ∷ q ∷ qs) (point.0 zero q (omega arith) (omega arith)) ∙ ap (λ l. q ∷ l) rest

-- so the pair is set by an insertion there
pub set_low-by_place : (ps kept items : List Low) (low : Low) (minimum : List ℕ) (place : ℕ) (done : Bool) → kept ≡ filter (is_apart low) ps → minimum ≡ low.0 → place ≤ length kept
    → IsPartitionPoint (λ q. comes_before minimum q ≡ true) (λ q. comes_before minimum q ≡ false) kept place → items ≡ (if done then insert kept place low else kept) → done ≡ true → items ≡ set_low ps low
set_low-by_place ps kept items low minimum place done are is within point inserted ok =
    let here = subst (λ k. IsPartitionPoint (λ q. comes_before k q ≡ true) (λ q. comes_before k q ≡ false) kept place) is point in
    inserted ∙ ap (λ (b : Bool). if b then insert kept place low else kept) ok ∙ sym (put_low-at low kept place within here) ∙ ap (put_low low) are

-- ---- a search halves the pairs

pub before_come_first : (key : List ℕ) (ps : List Low) → IsRising ps → IsPartitionedBy (comes_before key) ps
before_come_first key ps up i j d le within passes =
    ⊎_elim
    (λ same. subst (λ n. comes_before key (get_or ps n d) ≡ true) (sym same) passes)
    (λ apart. ap is_lt (nat_list_cmp_total.trans (get_or ps i d).0 (get_or ps j d).0 key (up i j d (omega arith) within) (less_from (key_cmp (get_or ps j d).0 key) passes)))
    (cases_eq i j)

pub upto_come_first : (key : List ℕ) (ps : List Low) → IsRising ps → IsPartitionedBy (comes_upto key) ps
upto_come_first key ps up i j d le within passes =
    ⊎_elim
    (λ same. subst (λ n. comes_upto key (get_or ps n d) ≡ true) (sym same) passes)
    (λ apart. upto_from (get_or ps i d).0 (get_or ps j d).0 key (key_cmp (get_or ps j d).0 key) refl passes (up i j d (omega arith) within))
    (cases_eq i j)

pub comes_first : (equal : Bool) (key : List ℕ) (ps : List Low) → IsRising ps → IsPartitionedBy (comes equal key) ps
comes_first true key ps up = upto_come_first key ps up
comes_first false key ps up = before_come_first key ps up

-- a minimum before the key passes, whether the key itself would or not
pub comes_less : (equal : Bool) (key : List ℕ) (p : Low) → key_cmp p.0 key ≡ Less → comes equal key p ≡ true
comes_less true key p is = ap is_le is
comes_less false key p is = ap is_lt is

-- and one behind it does not
pub comes_greater : (equal : Bool) (key : List ℕ) (p : Low) → key_cmp p.0 key ≡ Greater → comes equal key p ≡ false
comes_greater true key p is = ap is_le is
comes_greater false key p is = ap is_lt is

-- the two beside a place show that it parts those that pass from the others
pub point_between : (t : Low → Bool) (ps : List Low) (n : ℕ) (d : Low) → IsPartitionedBy t ps → n ≤ length ps → (0 < n → t (get_or ps (n - 1) d) ≡ true) → (n < length ps → t (get_or ps n d) ≡ false) → IsPartitionPoint (λ p. t p ≡ true) (λ p. t p ≡ false) ps n
point_between t ps n d parted within below above = (first, λ k e high here. by k e high here (t (get_or ps k e)) refl)
  where
    first : (k : ℕ) (e : Low) → 0 ≤ k → k < n → t (get_or ps k e) ≡ true
    first k e some low =
        let last = n - 1 in
        let one : 0 < n = omega (arith, low) in
        let inside : last < length ps = omega (arith, one) in
        let upto : k ≤ last = omega (arith, low) in
        parted k last e upto inside (ap t (sym (get_or_default ps last d e inside)) ∙ below one)

    by : (k : ℕ) (e : Low) → n ≤ k → k < length ps → (b : Bool) → t (get_or ps k e) ≡ b → t (get_or ps k e) ≡ false
    by k e high here false is = is
    by k e high here true is =
        let inside : n < length ps = omega (arith, high, here) in
        absurd (false≢true (sym (above inside) ∙ ap t (get_or_default ps n d e inside) ∙ parted n k e high here is))

-- the last of those that pass has the greatest minimum of them
pub last_is_greatest : (t : Low → Bool) (ps : List Low) (n : ℕ) (room : Option ℕ) → IsRising ps → n ≤ length ps → IsPartitionPoint (λ p. t p ≡ true) (λ p. t p ≡ false) ps n
    → MatchOption room (n ≡ 0) (λ r. (0 < n) × HoldsAt (λ p. p.1 ≡ r) ps (n - 1)) → NamesGreatest t ps room
last_is_greatest t ps n None up within point is = λ k d inside. point.1 k d (omega arith) inside
last_is_greatest t ps n (Some r) up within point is =
    let last = n - 1 in
    let p = get_or ps last ([], 0) in
    let inside : last < length ps = omega (arith, is.0) in
    let low : last < n = omega (arith, is.0) in
    let passes : t p ≡ true = point.0 last ([], 0) (omega arith) low in
    let none_above : All (λ (q : Low). t q ≡ true → IsKeyBefore p.0 q.0 → ⊥) ps = λ k d here good less.
    let at : p ≡ get_or ps last d = get_or_default ps last ([], 0) d inside in
    let less' : IsKeyBefore (get_or ps last d).0 (get_or ps k d).0 = subst (λ (a : Low). IsKeyBefore a.0 (get_or ps k d).0) at less in
    ⊎_elim
    (λ below. ⊎_elim
    (λ same. not_both (get_or ps last d).0 (get_or ps last d).0 (subst (λ m. IsKeyBefore (get_or ps last d).0 (get_or ps m d).0) same less') (subst (λ m. IsKeyBefore (get_or ps last d).0 (get_or ps m d).0) same less'))
    (λ apart. not_both (get_or ps last d).0 (get_or ps k d).0 less' (up k last d (omega arith) inside))
    (cases_eq k last))
    (λ behind. false≢true (sym (point.1 k d behind here) ∙ good))
    (cases_lt k n) in
    (last, p, inside, get_or_default ps last p ([], 0) inside, (is.1 ([], 0), (passes, none_above)))
