-- What a step does to a list of parts of states: some go, others come in their places, and the rest stay. One seat's step, a split and a join are changes.
use Rattle.std.proofs.Common.{◌≡◌, ◌≢◌, ℕ, ◌+◌, ◌≤◌, ◌⊎◌, List, [], ◌∷◌, ◌++◌, map, set, length, sym, ap, ◌∙◌, subst, arith, ⊎_elim, inl, inr}
use mathlib.Core.Option.{some, some-injective}
use mathlib.Core.Logic.{dite}
use native.Mathlib.Decide.{ℕ_discrete}
use lib.ListN.{get_elem?}
use Rattle.oak_model.specs.Counts.{total, Every, Each}
use Rattle.oak_model.proofs.Lists.{at_set, set_there, set_else, at_longer, at_last, at_snoc, at_map, at_unmap}
use Rattle.oak_model.proofs.Counting.{total_set, total_snoc, total_map}

abbrev pub Among : {A : Type 0} → List A → A → Type 0
Among xs x = (j : ℕ) × (get_elem? xs j ≡ some x)

abbrev pub AmongOf : {A : Type 0} → List A → A → Type 0
AmongOf [] x = ⊥
AmongOf (y ∷ ys) x = (y ≡ x) ⊎ AmongOf ys x

pub record Change {A : Type 0} (before after gone fresh : List A) : Type 1 where
  -- the places of those that stay
  pub Stays : ℕ → Type 0
  pub sums : (f : A → ℕ) → total f after + total f gone ≡ total f before + total f fresh
  pub every : (P : A → Type 0) → Each P fresh → ((j : ℕ) (x : A) → Stays j → get_elem? before j ≡ some x → P x) → Every P after
  -- what does not go stays, and what comes is there
  pub stay : (j : ℕ) (x : A) → get_elem? before j ≡ some x → Among after x ⊎ AmongOf gone x
  pub come : Each (Among after) fresh

module _ {A : Type 0} where
  -- one seat's step
  abbrev pub stepped : (xs : List A) (id : ℕ) (v w : A) → get_elem? xs id ≡ some v → Change xs (set xs id w) (v ∷ []) (w ∷ [])
  unfolding total
  stepped xs id v w here = record {
    Stays = λ j. j ≢ id;
    sums = λ f. let h = total_set f xs id v w here in omega arith;
    every = λ P fresh rest j x at. ⊎_elim (λ (t : (j ≡ id) × (w ≡ x)). subst P t.1 fresh.0) (λ (t : (j ≢ id) × (get_elem? xs j ≡ some x)). rest j x t.0 t.1) (at_set xs id j w x at);
    stay = λ j x at. dite (ℕ_discrete j id) (λ e. inr (inl (some-injective v x (sym here ∙ (ap (get_elem? xs) (sym e) ∙ at))))) (λ ne. inl (j, set_else xs id j w ne ∙ at));
    come = ((id, set_there xs id v w here), tt);
  }

  -- a seat is split in two
  abbrev pub divided : (xs : List A) (id : ℕ) (v left right : A) → get_elem? xs id ≡ some v → Change xs (set xs id left ++ right ∷ []) (v ∷ []) (left ∷ right ∷ [])
  unfolding total
  divided xs id v left right here = record {
    Stays = λ j. j ≢ id;
    sums = λ f. let h = total_set f xs id v left here in let g = total_snoc f (set xs id left) right in omega arith;
    every = λ P fresh rest j x at. ⊎_elim (λ (t : get_elem? (set xs id left) j ≡ some x). ⊎_elim (λ (t : (j ≡ id) × (left ≡ x)). subst P t.1 fresh.0) (λ (t : (j ≢ id) × (get_elem? xs j ≡ some x)). rest j x t.0 t.1) (at_set xs id j left x t))
        (λ (t : right ≡ x). subst P t fresh.1.0) (at_snoc (set xs id left) right x j at);
    stay = λ j x at. dite (ℕ_discrete j id) (λ e. inr (inl (some-injective v x (sym here ∙ (ap (get_elem? xs) (sym e) ∙ at))))) (λ ne. inl (j, at_longer (set xs id left) (right ∷ []) j x (set_else xs id j left ne ∙ at)));
    come = ((id, at_longer (set xs id left) (right ∷ []) id left (set_there xs id v left here)), ((length (set xs id left), at_last (set xs id left) right), tt));
  }

  -- a seat takes in another
  abbrev pub joined : (xs : List A) (id other : ℕ) (v w both spent : A) → get_elem? xs id ≡ some v → get_elem? xs other ≡ some w → other ≢ id
      → Change xs (set (set xs id both) other spent) (v ∷ w ∷ []) (both ∷ spent ∷ [])
  unfolding total
  joined xs id other v w both spent here there apart = let there_still : get_elem? (set xs id both) other ≡ some w = set_else xs id other both apart ∙ there in record {
    Stays = λ j. (j ≢ id) × (j ≢ other);
    sums = λ f. let h = total_set f xs id v both here in let g = total_set f (set xs id both) other w spent there_still in omega arith;
    every = λ P fresh rest j x at. ⊎_elim (λ (t : (j ≡ other) × (spent ≡ x)). subst P t.1 fresh.1.0)
        (λ (t : (j ≢ other) × (get_elem? (set xs id both) j ≡ some x)). ⊎_elim (λ (u : (j ≡ id) × (both ≡ x)). subst P u.1 fresh.0) (λ (u : (j ≢ id) × (get_elem? xs j ≡ some x)). rest j x (u.0, t.0) u.1) (at_set xs id j both x t.1))
        (at_set (set xs id both) other j spent x at);
    stay = λ j x at. dite (ℕ_discrete j id) (λ e. inr (inl (some-injective v x (sym here ∙ (ap (get_elem? xs) (sym e) ∙ at))))) (λ ne. dite (ℕ_discrete j other)
        (λ e. inr (inr (inl (some-injective w x (sym there ∙ (ap (get_elem? xs) (sym e) ∙ at))))))
        (λ ne2. inl (j, set_else (set xs id both) other j spent ne2 ∙ (set_else xs id j both ne ∙ at))));
    come = ((id, set_else (set xs id both) other id spent (λ e. apart (sym e)) ∙ set_there xs id v both here), ((other, set_there (set xs id both) other w spent there_still), tt));
  }

-- what goes counts as much as what comes
pub change_level : {A : Type 0} {before after gone fresh : List A} (c : Change before after gone fresh) (f : A → ℕ) → total f fresh ≡ total f gone → total f after ≡ total f before
change_level c f e = let h = c.sums f in omega arith

-- what comes counts no less than what goes
pub change_more : {A : Type 0} {before after gone fresh : List A} (c : Change before after gone fresh) (f : A → ℕ) → total f gone ≤ total f fresh → total f before ≤ total f after
change_more c f e = let h = c.sums f in omega arith

-- parts of what changes
module _ {A B : Type 0} (g : A → B) where
  pub among_map : (xs : List A) (x : A) → Among xs x → Among (map g xs) (g x)
  among_map xs x h = (h.0, at_map g xs h.0 x h.1)

  pub among_of_map : (xs : List A) (x : A) → AmongOf xs x → AmongOf (map g xs) (g x)
  among_of_map [] x h = absurd h
  among_of_map (y ∷ ys) x h = ⊎_elim (λ (e : y ≡ x). inl (ap g e)) (λ (r : AmongOf ys x). inr (among_of_map ys x r)) h

  pub come_map : (after fresh : List A) → Each (Among after) fresh → Each (Among (map g after)) (map g fresh)
  come_map after [] h = tt
  come_map after (x ∷ xs) h = (among_map after x h.0, come_map after xs h.1)

  pub each_unmap : (P : B → Type 0) (xs : List A) → Each P (map g xs) → Each (λ x. P (g x)) xs
  each_unmap P [] h = tt
  each_unmap P (x ∷ xs) h = (h.0, each_unmap P xs h.1)

  abbrev pub change_parts : {before after gone fresh : List A} → Change before after gone fresh → Change (map g before) (map g after) (map g gone) (map g fresh)
  change_parts {before} {after} {gone} {fresh} c = record {
    Stays = c.Stays;
    sums = λ f. let h = c.sums (λ x. f (g x)) in let a = total_map g f after in let b = total_map g f gone in let d = total_map g f before in let e = total_map g f fresh in omega arith;
    every = λ P new rest j y at. let t = at_unmap g after j y at in subst P t.2 (c.every (λ x. P (g x)) (each_unmap P fresh new) (λ i x s e. rest i (g x) s (at_map g before i x e)) j t.0 t.1);
    stay = λ j y at. let t = at_unmap g before j y at in subst (λ (z : B). Among (map g after) z ⊎ AmongOf (map g gone) z) t.2
        (⊎_elim (λ (a : Among after t.0). inl (among_map after t.0 a)) (λ (o : AmongOf gone t.0). inr (among_of_map gone t.0 o)) (c.stay j t.0 t.1));
    come = come_map after fresh c.come;
  }
