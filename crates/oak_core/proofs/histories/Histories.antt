-- The history of a key is the longest that any pass has seen of it, and all that a pass has seen is its beginning.
use Rattle.std.proofs.Common.{◌≡◌, ℕ, zero, suc, ◌<◌, ◌≤◌, List, [], ◌∷◌, ◌++◌, map, length, sym, refl, ap, ◌∙◌, subst, arith, ⊎_elim}
use mathlib.Core.Logic.{dite}
use mathlib.Core.Option.{some, some-ne-none}
use native.Mathlib.Decide.{dec_le}
use lib.ListN.{get_elem?}
use Rattle.oak_model.specs.Counts.{Every, Each, Begins, longest}
use Rattle.oak_model.proofs.Changes.{Change, Among, AmongOf}
use Rattle.oak_model.proofs.Lists.{at_map, at_unmap, each_map_list, begins_whole, longest_begins, longest_le, longest-cases, longest_append}
use Rattle.oak_core.specs.declared.states.KeyedWrite.{KeyedWrite}
use Rattle.oak_core.specs.declared.states.Knowledge.{Knowledge}
use Rattle.oak_core.specs.PassState.{of_key, seen_of, history}
use Rattle.oak_core.specs.Rule.{HistoriesStand}

pub each_of_every : {A : Type 0} (P : A → Type 0) (xs : List A) → Every P xs → Each P xs
each_of_every P [] h = tt
each_of_every P (x ∷ xs) h = (h zero x refl, each_of_every P xs (λ j y e. h (suc j) y e))

pub none_long : {A : Type 0} (y : List A) → length y ≤ 0 → y ≡ []
none_long [] h = refl
none_long (u ∷ us) h = absurd (omega arith)

-- the longest is one of them
longest_among : {A : Type 0} (xs : List (List A)) (i : ℕ) (x : List A) → get_elem? xs i ≡ some x → (j : ℕ) × (get_elem? xs j ≡ some (longest xs))
unfolding longest
longest_among [] i x e = absurd (some-ne-none x (sym e))
longest_among (y ∷ []) i x e = longest-cases y [] (λ s. (j : ℕ) × (get_elem? (y ∷ []) j ≡ some s)) (λ l. (zero, ap some (none_long y l))) (λ _. (zero, refl))
longest_among (y ∷ (u ∷ us)) i x e = let r = longest_among (u ∷ us) zero u refl in longest-cases y (u ∷ us) (λ s. (j : ℕ) × (get_elem? (y ∷ (u ∷ us)) j ≡ some s)) (λ _. (suc r.0, r.1)) (λ _. (zero, refl))

-- what a pass has seen of a key is one of its logs' part, or nothing
pub seen_begins : (k : ℕ) (H : List KeyedWrite) (q : Knowledge) → Each (λ (l : List KeyedWrite). Begins (of_key k l) H) q.seen → Begins (seen_of k q) H
seen_begins k H q h = longest_begins H (map (of_key k) q.seen) (each_map_list (of_key k) (λ s. Begins s H) q.seen h)

-- so it is the beginning of the history
pub seen_stands : (qs : List Knowledge) → HistoriesStand qs → (k i : ℕ) (q : Knowledge) → get_elem? qs i ≡ some q → Begins (seen_of k q) (history k qs)
seen_stands qs r k i q e = seen_begins k (history k qs) q (r k i q e)

module _ {before after gone fresh : List Knowledge} (c : Change before after gone fresh) (i : ℕ) (q : Knowledge) (there : get_elem? before i ≡ some q) (r : HistoriesStand before)
    (new : (k : ℕ) → Each (λ (w : Knowledge). Each (λ (l : List KeyedWrite). Begins (of_key k l) (history k before)) w.seen) fresh)
    (kept : (k : ℕ) (y : Knowledge) → AmongOf gone y → (w : Knowledge) × Among after w × (length (seen_of k y) ≤ length (seen_of k w))) where
  all_begin : (k : ℕ) → Every (λ (w : Knowledge). Each (λ (l : List KeyedWrite). Begins (of_key k l) (history k before)) w.seen) after
  all_begin k = c.every (λ (w : Knowledge). Each (λ (l : List KeyedWrite). Begins (of_key k l) (history k before)) w.seen) (new k) (λ j x s e. r k j x e)

  -- no history changes
  pub history_same : (k : ℕ) → history k after ≡ history k before
  history_same k = begins_whole (history k after) (history k before)
      (longest_begins (history k before) (map (seen_of k) after) (each_map_list (seen_of k) (λ s. Begins s (history k before)) after
      (each_of_every (λ w. Begins (seen_of k w) (history k before)) after (λ j w e. seen_begins k (history k before) w (all_begin k j w e)))))
      long
    where
      top : (j : ℕ) × (get_elem? (map (seen_of k) before) j ≡ some (history k before))
      top = longest_among (map (seen_of k) before) i (seen_of k q) (at_map (seen_of k) before i q there)

      holder : (x : Knowledge) × (get_elem? before top.0 ≡ some x) × (seen_of k x ≡ history k before)
      holder = at_unmap (seen_of k) before top.0 (history k before) top.1

      reached : (w : Knowledge) → Among after w → length (history k before) ≤ length (seen_of k w) → length (history k before) ≤ length (history k after)
      reached w a l = let m = longest_le (map (seen_of k) after) a.0 (seen_of k w) (at_map (seen_of k) after a.0 w a.1) in omega arith

      long : length (history k before) ≤ length (history k after)
      long = let n = ap length holder.2 in ⊎_elim (λ (a : Among after holder.0). reached holder.0 a (omega arith))
          (λ (g : AmongOf gone holder.0). let t = kept k holder.0 g in let l = t.2 in reached t.0 t.1 (omega arith)) (c.stay top.0 holder.0 holder.1)

  pub histories_frame : HistoriesStand after
  histories_frame k = subst (λ (H : List KeyedWrite). Every (λ (w : Knowledge). Each (λ (l : List KeyedWrite). Begins (of_key k l) H) w.seen) after) (sym (history_same k)) (all_begin k)

-- what is seen of two passes together

map_append : {A B : Type 0} (f : A → B) (xs ys : List A) → map f (xs ++ ys) ≡ map f xs ++ map f ys
map_append f [] ys = refl
map_append f (x ∷ xs) ys = ap (λ (l : List _). f x ∷ l) (map_append f xs ys)

module _ (k : ℕ) (p q both : Knowledge) (e : both.seen ≡ p.seen ++ q.seen) where
  split_up : seen_of k both ≡ longest (map (of_key k) p.seen ++ map (of_key k) q.seen)
  split_up = ap (λ (l : List (List KeyedWrite)). longest (map (of_key k) l)) e ∙ ap longest (map_append (of_key k) p.seen q.seen)

  -- it is the longer of what each has seen
  pub seen_later : length (seen_of k p) ≤ length (seen_of k q) → seen_of k both ≡ seen_of k q
  seen_later l = split_up ∙ (longest_append (map (of_key k) p.seen) (map (of_key k) q.seen)).0 l

  pub seen_first : length (seen_of k q) < length (seen_of k p) → seen_of k both ≡ seen_of k p
  seen_first l = split_up ∙ (longest_append (map (of_key k) p.seen) (map (of_key k) q.seen)).1 l

  pub seen_both : (length (seen_of k p) ≤ length (seen_of k both)) × (length (seen_of k q) ≤ length (seen_of k both))
  seen_both = dite (dec_le (length (seen_of k p)) (length (seen_of k q))) (λ l. let n = ap length (seen_later l) in (omega arith, omega arith)) (λ no. let n = ap length (seen_first (omega arith)) in (omega arith, omega arith))
