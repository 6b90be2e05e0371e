-- How keys compare, and on which side of a place they lie.
use Rattle.std.proofs.Common.{◌≡◌, ℕ, Bool, true, false, List, Option, Some, None, sym, refl, ap, ◌∙◌, subst}
use Rattle.std.specs.declared.cmp.Ordering.{Ordering}
use Rattle.std.specs.declared.cmp.Ordering.TheVariants.{Less, Equal, Greater}
use Rattle.std.specs.Cmp.Lexicographic.{nat_list_cmp_total}
use Rattle.std.specs.Ordering.{ordering_reverse, is_eq}
use Rattle.std.proofs.lemmas.Cmp.{tied_itself}
use Rattle.oak_model.specs.Key.{key_cmp, IsKeyBefore}
use Rattle.oak_model.proofs.KeyLaws.{same_is}
use Rattle.link_search.specs.declared.ties.Tie.{Tie}
use Rattle.link_search.specs.declared.ties.Tie.TheVariants.{Passed, Reached}
use Rattle.link_search.specs.Nearest.{IsAbove, IsBelow}
use Rattle.link_search.specs.Ties.{passes, IsPassed, IsReached}

pub before_trans : (a b c : List ℕ) → IsKeyBefore a b → IsKeyBefore b c → IsKeyBefore a c
before_trans a b c p q = nat_list_cmp_total.trans a b c p q

pub not_before : (a : List ℕ) → IsKeyBefore a a → ⊥
not_before a l = let f : Less ≡ Equal = sym l ∙ tied_itself nat_list_cmp_total a in cc

pub turned : (a b : List ℕ) → key_cmp a b ≡ Greater → IsKeyBefore b a
turned a b e = nat_list_cmp_total.antisymm b a ∙ ap ordering_reverse e

pub turned_back : (a b : List ℕ) → IsKeyBefore b a → key_cmp a b ≡ Greater
turned_back a b e = nat_list_cmp_total.antisymm a b ∙ ap ordering_reverse e

pub tied : (a b : List ℕ) → b ≡ a → key_cmp a b ≡ Equal
tied a b e = ap (key_cmp a) e ∙ tied_itself nat_list_cmp_total a

pub one_key : (a b : List ℕ) → key_cmp a b ≡ Equal → b ≡ a
one_key a b e = sym (same_is a b (ap is_eq e))

pub not_both : (b : Bool) → b ≡ true → b ≡ false → ⊥
not_both b t f = let e : true ≡ false = sym t ∙ f in cc

-- a walk that passes no entry of the key itself

reached_order : (o : Ordering) → passes Reached o ≡ true → o ≡ Greater
reached_order Less e = absurd (not_both false e refl)
reached_order Equal e = absurd (not_both false e refl)
reached_order Greater e = refl

reached_less : (o : Ordering) → passes Reached o ≡ false → is_eq o ≡ false → o ≡ Less
reached_less Less e f = refl
reached_less Equal e f = absurd (not_both true refl f)
reached_less Greater e f = absurd (not_both true refl e)

pub passed_below : (k q : List ℕ) → IsPassed Reached (Some k) q → IsKeyBefore q k
passed_below k q e = turned k q (reached_order (key_cmp k q) e)

pub below_passed : (k q : List ℕ) → IsKeyBefore q k → IsPassed Reached (Some k) q
below_passed k q l = ap (passes Reached) (turned_back k q l)

pub reached_above : (k q : List ℕ) (o : Ordering) → IsReached Reached (Some k) q → key_cmp k q ≡ o → is_eq o ≡ false → IsKeyBefore k q
reached_above k q o e s f = reached_less (key_cmp k q) e (ap is_eq s ∙ f)

equal_order : (o : Ordering) → is_eq o ≡ true → o ≡ Equal
equal_order Less e = absurd (not_both false e refl)
equal_order Equal e = refl
equal_order Greater e = absurd (not_both false e refl)

pub same_order : (k q : List ℕ) (o : Ordering) → key_cmp k q ≡ o → is_eq o ≡ true → q ≡ k
same_order k q o s e = one_key k q (s ∙ equal_order o e)

pub less_is_no : (o : Ordering) → o ≡ Less → is_eq o ≡ true → ⊥
less_is_no o e t = not_both (is_eq o) t (ap is_eq e)

-- the same in the words of a search for the nearest

passed_order : (o : Ordering) → passes Passed o ≡ false → o ≡ Less
passed_order Less e = refl
passed_order Equal e = absurd (not_both true refl e)
passed_order Greater e = absurd (not_both true refl e)

pub reached_is_above : (tie : Tie) (k q : List ℕ) → IsReached tie (Some k) q → IsAbove tie (Some k) q
reached_is_above Passed k q e = passed_order (key_cmp k q) e
reached_is_above Reached k q e = λ l. not_both (passes Reached (key_cmp k q)) (below_passed k q l) e

pub passed_not_above : (tie : Tie) (k q : List ℕ) → IsPassed tie (Some k) q → IsAbove tie (Some k) q → ⊥
passed_not_above Passed k q e a = not_both (passes Passed (key_cmp k q)) e (ap (passes Passed) a)
passed_not_above Reached k q e a = a (passed_below k q e)

-- where q is not above the bound, and k is
pub above_orders : (tie : Tie) (b : Option (List ℕ)) (q k : List ℕ) → (IsAbove tie b q → ⊥) → IsAbove tie b k → IsKeyBefore q k
above_orders tie None q k n a = absurd (n tt)
above_orders Passed (Some b) q k n a = lower (key_cmp b q) refl
  where
    lower : (o : Ordering) → key_cmp b q ≡ o → IsKeyBefore q k
    lower Less e = absurd (n e)
    lower Equal e = subst (λ (x : List ℕ). IsKeyBefore x k) (sym (one_key b q e)) a
    lower Greater e = before_trans q b k (turned b q e) a
above_orders Reached (Some b) q k n a = lower (key_cmp q b) refl
  where
    upper : IsKeyBefore q b → (o : Ordering) → key_cmp k b ≡ o → IsKeyBefore q k
    upper l Less e = absurd (a e)
    upper l Equal e = subst (IsKeyBefore q) (one_key k b e) l
    upper l Greater e = before_trans q b k l (turned k b e)

    lower : (o : Ordering) → key_cmp q b ≡ o → IsKeyBefore q k
    lower Less e = upper e (key_cmp k b) refl
    lower Equal e = absurd (n (λ l. let f : Less ≡ Equal = sym l ∙ e in cc))
    lower Greater e = absurd (n (λ l. let f : Less ≡ Greater = sym l ∙ e in cc))

-- where q is below the bound, and k is not
pub below_orders : (b : Option (List ℕ)) (q k : List ℕ) → IsBelow b q → (IsBelow b k → ⊥) → IsKeyBefore q k
below_orders None q k a n = absurd (n tt)
below_orders (Some b) q k a n = upper (key_cmp k b) refl
  where
    upper : (o : Ordering) → key_cmp k b ≡ o → IsKeyBefore q k
    upper Less e = absurd (n e)
    upper Equal e = subst (IsKeyBefore q) (one_key k b e) a
    upper Greater e = before_trans q b k a (turned k b e)

pub reached_not_below : (b : Option (List ℕ)) (q : List ℕ) → IsReached Reached b q → IsBelow b q → ⊥
reached_not_below None q e a = not_both true refl e
reached_not_below (Some k) q e a = not_both (passes Reached (key_cmp k q)) (below_passed k q a) e

pub passed_is_below : (b : Option (List ℕ)) (q : List ℕ) → IsPassed Reached b q → IsBelow b q
passed_is_below None q e = tt
passed_is_below (Some k) q e = passed_below k q e
