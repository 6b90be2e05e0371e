-- What an order tells of the keys of a sorted prefix.
use Rattle.std.proofs.Common.{◌≡◌, ℕ, ◌+◌, ◌<◌, ◌≤◌, List, sym, ap, ◌∙◌, subst, arith}
use Rattle.std.specs.declared.cmp.Ordering.{Ordering}
use mathlib.Core.Logic.{dite}
use native.Mathlib.Decide.{dec_lt}
use Rattle.oak_model.specs.Key.{key_cmp, IsKeyBefore}
use Rattle.link_search.specs.Linked.{Linked, IsFront}
use Rattle.link_search.proofs.OrderLaws.{before_trans}
use Rattle.chunk_ops.specs.Room.{Room, key_at}

-- an order found in a room that is that one
pub order_at : (r now : Room) (k : List ℕ) (m : ℕ) (o p : Ordering) → now ≡ r → o ≡ p → p ≡ key_cmp k (key_at now m) → key_cmp k (key_at r m) ≡ o
order_at r now k m o p s i e = sym (i ∙ (e ∙ ap (λ (q : Room). key_cmp k (key_at q m)) s))

module _ (r : Linked) (front : IsFront r) (k : List ℕ) (m : ℕ) (lt : m < r.prefix) where
  pub all_above : IsKeyBefore k (r.key m) → (j : ℕ) → m ≤ j → j < r.prefix → IsKeyBefore k (r.key j)
  all_above b j le l = dite (dec_lt m j) (λ h. before_trans k (r.key m) (r.key j) b (front.rises m j h l))
      (λ n. subst (λ (i : ℕ). IsKeyBefore k (r.key i)) (let e : m ≡ j = omega arith in e) b)

  pub all_below : IsKeyBefore (r.key m) k → (j : ℕ) → j < m + 1 → IsKeyBefore (r.key j) k
  all_below b j l = dite (dec_lt j m) (λ h. before_trans (r.key j) (r.key m) k (front.rises j m h lt) b)
      (λ n. subst (λ (i : ℕ). IsKeyBefore (r.key i) k) (let e : m ≡ j = omega arith in e) b)
