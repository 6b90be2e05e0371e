-- Where each caller's writes are those of a list whose call numbers rise, no two writes are of one caller and call.
use Rattle.std.proofs.Common.{◌≡◌, ℕ, zero, suc, ◌<◌, List, [], ◌∷◌, Some, refl, sym, ap, ◌∙◌, subst, arith}
use Rattle.std.specs.List.{slice_get}
use Rattle.oak_model.specs.declared.writes.Write.{Write}
use Rattle.oak_model.specs.Counts.{Has}
use Rattle.oak_model.specs.History.{AreDistinctCalls, History}
use Rattle.oak_model.specs.KeyNumber.{key_number}
use Rattle.oak_model.proofs.KeyLaws.{is_key-is}
use Rattle.oak_model.proofs.MemberLaws.{each_has}
use Rattle.oak_model.proofs.NumberLaws.{key_number_is}
use Rattle.oak_core.specs.declared.states.KeyedWrite.{KeyedWrite}
use Rattle.oak_core.specs.Callers.{AreWritesOf, CallsRise, of_caller}
use Rattle.oak_core.specs.KeyHistories.{writes_of}
use Rattle.oak_core.proofs.histories.CallerWrites.{caller-cases}
use Rattle.oak_run.specs.Behind.{histories}
use Rattle.oak_run.proofs.CallerParts.{has_caller}
use Rattle.oak_run.proofs.CallsOnce.{at_write, of_key_has, one_call, part_rises}
use Rattle.oak_run.proofs.ClosedRuns.{at_key, key_there}

-- a later write of the caller is of another call
later_call : (a : ℕ) (x : KeyedWrite) (xs : List KeyedWrite) (j : ℕ) (v w : Write) → CallsRise (of_caller a (x ∷ xs)) → x.write ≡ v → v.caller ≡ a → slice_get (writes_of xs) j ≡ Some w → w.caller ≡ a → v.call ≡ w.call → ⊥
later_call a x xs j v w rise here first there other call =
    let u = at_write xs j w there in
    let its : u.0.write.caller ≡ a = ap (λ (y : Write). y.caller) u.2 ∙ other in
    let mine : x.write.caller ≡ a = ap (λ (y : Write). y.caller) here ∙ first in
    let m = has_caller a xs u.0 u.1 its in
    caller-cases a x xs (λ l. CallsRise l → ⊥)
    (λ _ r. let l = each_has (λ (y : KeyedWrite). x.write.call < y.write.call) (of_caller a xs) u.0 r.0 m in
    let p = ap (λ (y : Write). y.call) here in let q = ap (λ (y : Write). y.call) u.2 in omega arith)
    (λ ne _. ne mine) rise

-- the rest of the caller's calls rise too
rest_rises : (a : ℕ) (x : KeyedWrite) (xs : List KeyedWrite) → CallsRise (of_caller a (x ∷ xs)) → CallsRise (of_caller a xs)
rest_rises a x xs rise = caller-cases a x xs (λ l. CallsRise l → CallsRise (of_caller a xs)) (λ _ r. r.1) (λ _ r. r) rise

one_place : (a : ℕ) (h : List KeyedWrite) (i j : ℕ) (v w : Write) → CallsRise (of_caller a h) → slice_get (writes_of h) i ≡ Some v → slice_get (writes_of h) j ≡ Some w → v.caller ≡ a → w.caller ≡ a → v.call ≡ w.call → i ≡ j
one_place a [] i j v w rise there here first other call = absurd cc
one_place a (x ∷ xs) zero zero v w rise there here first other call = refl
one_place a (x ∷ xs) zero (suc j) v w rise there here first other call = let e : x.write ≡ v = cc in absurd (later_call a x xs j v w rise e first here other call)
one_place a (x ∷ xs) (suc i) zero v w rise there here first other call = let e : x.write ≡ w = cc in absurd (later_call a x xs i w v rise e other there first (sym call))
one_place a (x ∷ xs) (suc i) (suc j) v w rise there here first other call = ap suc (one_place a xs i j v w (rest_rises a x xs rise) there here first other call)

module _ (hs : ℕ → List KeyedWrite) (mine : ℕ → List KeyedWrite) (all : (a : ℕ) → AreWritesOf hs a (mine a)) where
  -- a write of a history is one of its caller's list, and of the history's key
  of_mine : (a k i : ℕ) (v : Write) → slice_get (writes_of (hs k)) i ≡ Some v → v.caller ≡ a → (u : KeyedWrite) × Has u (mine a) × (key_number u.key ≡ k) × (u.write ≡ v)
  of_mine a k i v there caller =
      let u = at_write (hs k) i v there in
      let m = has_caller a (hs k) u.0 u.1 (ap (λ (y : Write). y.caller) u.2 ∙ caller) in
      let r = of_key_has k (mine a) u.0 (subst (Has u.0) ((all a).same k) m) in
      (u.0, r.0, r.1, u.2)

  one_key : (a k l i j : ℕ) (v w : Write) → slice_get (writes_of (hs k)) i ≡ Some v → slice_get (writes_of (hs l)) j ≡ Some w → v.caller ≡ a → w.caller ≡ a → v.call ≡ w.call → k ≡ l
  one_key a k l i j v w there here first other call =
      let p = of_mine a k i v there first in
      let q = of_mine a l j w here other in
      let same : p.0.write.call ≡ q.0.write.call = ap (λ (y : Write). y.call) p.3 ∙ (call ∙ sym (ap (λ (y : Write). y.call) q.3)) in
      sym p.2 ∙ (ap (λ (u : KeyedWrite). key_number u.key) (one_call (mine a) p.0 q.0 (all a).rise p.1 q.1 same) ∙ q.2)

  rises : (a k : ℕ) → CallsRise (of_caller a (hs k))
  rises a k = subst CallsRise (sym ((all a).same k)) (part_rises k (mine a) (all a).rise)

  pub distinct_calls : AreDistinctCalls (histories hs)
  distinct_calls k l i j v w there here caller call =
      let a = key_there hs k i v there in
      let b = key_there hs l j w here in
      let first : slice_get (writes_of (hs (key_number k))) i ≡ Some v = subst (λ (x : History). slice_get x i ≡ Some v) (at_key hs k a) there in
      let other : slice_get (writes_of (hs (key_number l))) j ≡ Some w = subst (λ (x : History). slice_get x j ≡ Some w) (at_key hs l b) here in
      let same : key_number k ≡ key_number l = one_key v.caller (key_number k) (key_number l) i j v w first other refl (sym caller) call in
      let p = is_key-is k a in
      let q = is_key-is l b in (
        key_number_is k l p.1 q.1 p.0 q.0 same,
        one_place v.caller (hs (key_number l)) i j v w (rises v.caller (key_number l)) (subst (λ (n : ℕ). slice_get (writes_of (hs n)) i ≡ Some v) same first) other refl (sym caller) call,
      )
