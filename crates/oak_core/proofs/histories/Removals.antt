-- What a removal in a history says: it is not above the last stamp, the key is absent at its place, and it is the one that a step reads off the history.
use Rattle.std.specs.Prelude.{fold, take, ◌==◌, ◌&&◌}
use Rattle.std.proofs.Common.{◌≡◌, ℕ, suc, ◌-◌, ◌<◌, ◌≤◌, cond, Bool, true, List, [], ◌∷◌, length, sym, refl, ap, ◌∙◌, subst, inl, inr, arith, le-leb, eqb-true, eq-eqb, Some, None, ◌==◌}
use Rattle.oak_model.specs.Counts.{Has}
use Rattle.oak_model.specs.History.{History, StampsRise, place_of, state_at}
use Rattle.oak_model.specs.State.{State}
use Rattle.oak_model.specs.declared.writes.Write.{Write}
use Rattle.oak_model.proofs.Counting.{test-cases, both_true, true_both}
use Rattle.oak_core.specs.declared.states.KeyedWrite.{KeyedWrite}
use Rattle.oak_core.specs.KeyHistories.{writes_of, stamp_behind, before, IsRemovedAt, is_absent, removed_at, last_of}
use Rattle.oak_core.proofs.known.KnownPlaces.{place_length}
use Rattle.oak_core.proofs.histories.WritesBelow.{before-cases}

-- a write's stamp is at most the last one
pub stamp_within : (s : ℕ) (h : List KeyedWrite) (w : KeyedWrite) → StampsRise s (writes_of h) → Has w h → (w.write.stamp ≤ last_of (λ x. x.write.stamp) s h) × (s ≤ last_of (λ x. x.write.stamp) s h)
unfolding last_of
stamp_within s [] w r m = absurd m
stamp_within s (x ∷ xs) w r (inl e) = let l = least x.write.stamp xs r.1 in let lt = r.0 in let same = ap (λ (y : KeyedWrite). y.write.stamp) e in (omega arith, omega arith)
  where
    least : (s : ℕ) (h : List KeyedWrite) → StampsRise s (writes_of h) → s ≤ last_of (λ x. x.write.stamp) s h
    least s [] r = omega arith
    least s (x ∷ xs) r = let t = least x.write.stamp xs r.1 in let lt = r.0 in omega arith
stamp_within s (x ∷ xs) w r (inr m) = let t = stamp_within x.write.stamp xs w r.1 m in let a = t.0 in let b = t.1 in let lt = r.0 in (omega arith, omega arith)

-- the stamp of a removal, where its header is dead or was
pub removal_within : (home stamp : ℕ) (h : List KeyedWrite) → StampsRise 0 (writes_of h) → IsRemovedAt home stamp h → stamp ≤ stamp_behind h
removal_within home stamp h r x = let t = stamp_within 0 h x.write r x.there in let l = t.0 in let e = x.stamp_is in omega arith

-- the state at the place of a write's own stamp is the one that it leaves

none_at : (n : ℕ) (h : List KeyedWrite) → StampsRise n (writes_of h) → place_of (writes_of h) n ≡ 0
unfolding before
none_at n h r = place_length n h ∙ ap length (above (suc n) n h r (omega arith))
  where
    above : (m n : ℕ) (h : List KeyedWrite) → StampsRise n (writes_of h) → m ≤ suc n → before m h ≡ []
    above m n [] r l = refl
    above m n (x ∷ xs) r l = let lt = r.0 in before-cases m x xs (λ t. t ≡ []) (λ low. absurd (omega arith)) (λ _. above m x.write.stamp xs r.1 (omega arith))

pub stamp_above : (s : ℕ) (h : List KeyedWrite) (w : KeyedWrite) → StampsRise s (writes_of h) → Has w h → s < w.write.stamp
stamp_above s [] w r m = absurd m
stamp_above s (x ∷ xs) w r (inl e) = let lt = r.0 in let same = ap (λ (y : KeyedWrite). y.write.stamp) e in omega arith
stamp_above s (x ∷ xs) w r (inr m) = let lt = r.0 in let t = stamp_above x.write.stamp xs w r.1 m in omega arith

state_from : State → History → State
state_from t h = fold (λ (x : State) (y : Write). y.after) t h

at_stamp : (s : ℕ) (h : List KeyedWrite) (w : KeyedWrite) → StampsRise s (writes_of h) → Has w h → (t : State) → state_from t (take (place_of (writes_of h) w.write.stamp) (writes_of h)) ≡ w.write.after
unfolding state_from
at_stamp s [] w r m t = absurd m
at_stamp s (x ∷ xs) w r (inl e) t = let same = ap (λ (y : KeyedWrite). y.write.stamp) e in
    subst (λ (b : Bool). state_from t (take (cond b (suc (place_of (writes_of xs) w.write.stamp)) (place_of (writes_of xs) w.write.stamp)) (x.write ∷ writes_of xs)) ≡ w.write.after) (sym (le-leb x.write.stamp w.write.stamp (omega arith)))
    (ap (λ (n : ℕ). state_from x.write.after (take n (writes_of xs))) (none_at w.write.stamp xs (subst (λ (n : ℕ). StampsRise n (writes_of xs)) (sym same) r.1)) ∙ ap (λ (y : KeyedWrite). y.write.after) (sym e))
at_stamp s (x ∷ xs) w r (inr m) t = let lt = stamp_above x.write.stamp xs w r.1 m in
    subst (λ (b : Bool). state_from t (take (cond b (suc (place_of (writes_of xs) w.write.stamp)) (place_of (writes_of xs) w.write.stamp)) (x.write ∷ writes_of xs)) ≡ w.write.after) (sym (le-leb x.write.stamp w.write.stamp (omega arith)))
    (at_stamp x.write.stamp xs w r.1 m x.write.after)

-- so it is absent at the place of a removal
pub removed_state : (home n : ℕ) (h : List KeyedWrite) → StampsRise 0 (writes_of h) → IsRemovedAt home n h → state_at (writes_of h) (place_of (writes_of h) n) ≡ None
unfolding state_from
removed_state home n h r x = ap (λ (t : ℕ). state_at (writes_of h) (place_of (writes_of h) t)) (sym x.stamp_is) ∙ (at_stamp 0 h x.write r x.there None ∙ x.after)

-- The removal that a step finds in a history.

absent-after : (s : State) → is_absent s ≡ true → s ≡ None
absent-after None e = refl
absent-after (Some b) e = absurd cc

pub removed_at_is : (home : ℕ) (h : List KeyedWrite) → 0 < removed_at home h → IsRemovedAt home (removed_at home h - 1) h
unfolding removed_at
removed_at_is home [] l = absurd (omega arith)
removed_at_is home (w ∷ ws) l = test-cases ((w.home == home) && is_absent w.write.after) (λ t. 0 < cond t (suc w.write.stamp) (removed_at home ws) → IsRemovedAt home (cond t (suc w.write.stamp) (removed_at home ws) - 1) (w ∷ ws))
    (λ e _. let b = both_true (w.home == home) (is_absent w.write.after) e in record { write = w; there = inl refl; home_is = eqb-true w.home home b.0; after = absent-after w.write.after b.1; stamp_is = omega arith })
    (λ _ p. let t = removed_at_is home ws p in record { write = t.write; there = inr t.there; home_is = t.home_is; after = t.after; stamp_is = t.stamp_is }) l

pub removed_at_some : (home : ℕ) (h : List KeyedWrite) (w : KeyedWrite) → Has w h → w.home ≡ home → w.write.after ≡ None → 0 < removed_at home h
unfolding removed_at
removed_at_some home [] w m e a = absurd m
removed_at_some home (x ∷ xs) w (inl same) e a = let hit : ((x.home == home) && is_absent x.write.after) ≡ true = true_both (x.home == home) (is_absent x.write.after) (eq-eqb x.home home (ap (λ (t : KeyedWrite). t.home) (sym same) ∙ e)) (ap is_absent (ap (λ (t : KeyedWrite). t.write.after) (sym same) ∙ a)) in
    subst (λ (t : Bool). 0 < cond t (suc x.write.stamp) (removed_at home xs)) (sym hit) (omega arith)
removed_at_some home (x ∷ xs) w (inr m) e a = let t = removed_at_some home xs w m e a in test-cases ((x.home == home) && is_absent x.write.after) (λ b. 0 < cond b (suc x.write.stamp) (removed_at home xs)) (λ _. omega arith) (λ _. t)
