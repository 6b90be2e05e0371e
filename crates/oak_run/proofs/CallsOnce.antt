-- Where the call numbers of a pass's writes rise, no two of its writes are of one call.
use Rattle.std.proofs.Common.{◌≡◌, ℕ, zero, suc, ◌<◌, List, [], ◌∷◌, ◌⊎◌, Some, refl, sym, ap, ◌∙◌, subst, arith, inl, inr}
use Rattle.std.specs.List.{slice_get}
use Rattle.oak_model.specs.declared.writes.Write.{Write}
use Rattle.oak_model.specs.Counts.{Each, Has}
use Rattle.oak_model.specs.KeyNumber.{key_number}
use Rattle.oak_model.proofs.MemberLaws.{each_has}
use Rattle.oak_core.specs.declared.states.KeyedWrite.{KeyedWrite}
use Rattle.oak_core.specs.Callers.{CallsRise}
use Rattle.oak_core.specs.KeyHistories.{writes_of}
use Rattle.oak_core.specs.PassState.{of_key}
use Rattle.oak_core.proofs.lessons.Teaching.{of_key-cases}

-- each of a key's writes is one of all, and of the key
pub of_key_has : (k : ℕ) (ws : List KeyedWrite) (w : KeyedWrite) → Has w (of_key k ws) → Has w ws × (key_number w.key ≡ k)
unfolding of_key
of_key_has k [] w = λ h. absurd h
of_key_has k (x ∷ xs) w = of_key-cases k x xs (λ l. Has w l → Has w (x ∷ xs) × (key_number w.key ≡ k)) (λ e h. first e (of_key_has k xs w) h) (λ _ h. let r = of_key_has k xs w h in (inr r.0, r.1))
  where
    first : key_number x.key ≡ k → (Has w (of_key k xs) → Has w xs × (key_number w.key ≡ k)) → (w ≡ x) ⊎ Has w (of_key k xs) → Has w (x ∷ xs) × (key_number w.key ≡ k)
    first e rest (inl same) = (inl same, ap (λ (y : KeyedWrite). key_number y.key) same ∙ e)
    first e rest (inr later) = let r = rest later in (inr r.0, r.1)

-- two of one call are the same
pub one_call : (ws : List KeyedWrite) (v w : KeyedWrite) → CallsRise ws → Has v ws → Has w ws → v.write.call ≡ w.write.call → v ≡ w
one_call [] v w rise a b e = absurd a
one_call (x ∷ xs) v w rise (inl a) (inl b) e = a ∙ sym b
one_call (x ∷ xs) v w rise (inl a) (inr b) e = let l = each_has (λ (u : KeyedWrite). x.write.call < u.write.call) xs w rise.0 b in let q = ap (λ (u : KeyedWrite). u.write.call) a in absurd (omega arith)
one_call (x ∷ xs) v w rise (inr a) (inl b) e = let l = each_has (λ (u : KeyedWrite). x.write.call < u.write.call) xs v rise.0 a in let q = ap (λ (u : KeyedWrite). u.write.call) b in absurd (omega arith)
one_call (x ∷ xs) v w rise (inr a) (inr b) e = one_call xs v w rise.1 a b e

-- the write at a place is one of the list
pub at_write : (ws : List KeyedWrite) (i : ℕ) (v : Write) → slice_get (writes_of ws) i ≡ Some v → (u : KeyedWrite) × Has u ws × (u.write ≡ v)
at_write [] i v e = absurd cc
at_write (x ∷ xs) zero v e = (x, inl refl, cc)
at_write (x ∷ xs) (suc i) v e = let r = at_write xs i v e in (r.0, inr r.1, r.2)

-- a part of them rises too
part_each : (k n : ℕ) (ws : List KeyedWrite) → Each (λ (u : KeyedWrite). n < u.write.call) ws → Each (λ (u : KeyedWrite). n < u.write.call) (of_key k ws)
unfolding of_key
part_each k n [] each = tt
part_each k n (x ∷ xs) each = of_key-cases k x xs (λ l. Each (λ (u : KeyedWrite). n < u.write.call) l) (λ _. (each.0, part_each k n xs each.1)) (λ _. part_each k n xs each.1)

pub part_rises : (k : ℕ) (ws : List KeyedWrite) → CallsRise ws → CallsRise (of_key k ws)
unfolding of_key
part_rises k [] rise = tt
part_rises k (x ∷ xs) rise = of_key-cases k x xs CallsRise (λ _. (part_each k x.write.call xs rise.0, part_rises k xs rise.1)) (λ _. part_rises k xs rise.1)

later_call : (x : KeyedWrite) (xs : List KeyedWrite) (j : ℕ) (v w : Write) → Each (λ (u : KeyedWrite). x.write.call < u.write.call) xs → x.write ≡ v → slice_get (writes_of xs) j ≡ Some w → v.call ≡ w.call → ⊥
later_call x xs j v w each here there e =
    let r = at_write xs j w there in
    let l = each_has (λ (u : KeyedWrite). x.write.call < u.write.call) xs r.0 each r.1 in
    let p = ap (λ (u : Write). u.call) here in let q = ap (λ (u : Write). u.call) r.2 in omega arith

one_place : (ws : List KeyedWrite) (i j : ℕ) (v w : Write) → CallsRise ws → slice_get (writes_of ws) i ≡ Some v → slice_get (writes_of ws) j ≡ Some w → v.call ≡ w.call → i ≡ j
one_place [] i j v w rise a b e = absurd cc
one_place (x ∷ xs) zero zero v w rise a b e = refl
one_place (x ∷ xs) zero (suc j) v w rise a b e = let here : x.write ≡ v = cc in absurd (later_call x xs j v w rise.0 here b e)
one_place (x ∷ xs) (suc i) zero v w rise a b e = let here : x.write ≡ w = cc in absurd (later_call x xs i w v rise.0 here a (sym e))
one_place (x ∷ xs) (suc i) (suc j) v w rise a b e = ap suc (one_place xs i j v w rise.1 a b e)

-- two writes of one call are of one key, at one place among the key's writes
pub one_write : (mine : List KeyedWrite) (a b i j : ℕ) (v w : Write) → CallsRise mine → slice_get (writes_of (of_key a mine)) i ≡ Some v → slice_get (writes_of (of_key b mine)) j ≡ Some w → v.call ≡ w.call → (a ≡ b) × (i ≡ j)
one_write mine a b i j v w rise there here e =
    let p = at_write (of_key a mine) i v there in
    let q = at_write (of_key b mine) j w here in
    let s = of_key_has a mine p.0 p.1 in
    let t = of_key_has b mine q.0 q.1 in
    let call : p.0.write.call ≡ q.0.write.call = ap (λ (u : Write). u.call) p.2 ∙ (e ∙ sym (ap (λ (u : Write). u.call) q.2)) in
    let same : a ≡ b = sym s.1 ∙ (ap (λ (u : KeyedWrite). key_number u.key) (one_call mine p.0 q.0 rise s.0 t.0 call) ∙ t.1) in
    (same, one_place (of_key b mine) i j v w (part_rises b mine rise) (subst (λ (k : ℕ). slice_get (writes_of (of_key k mine)) i ≡ Some v) same there) here e)
