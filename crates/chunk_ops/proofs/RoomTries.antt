-- How many rooms a pass pinned, part by part of a call.
use Rattle.std.proofs.Common.{◌≡◌, ℕ, zero, suc, ◌+◌, ◌-◌, ◌%◌, ◌^◌, inl, inr, min, List, [], ◌∷◌, ◌++◌, sym, refl, ap, ◌∙◌, subst, arith, Option, Some, None, append_assoc, append-nil}
use Rattle.oak_model.specs.Limits.{Sizes}
use Rattle.oak_core.specs.declared.states.Finding.{Finding}
use Rattle.oak_core.specs.declared.states.PassState.{PassState}
use Rattle.oak_core.specs.declared.table.Pass.{Pass}
use Rattle.oak_core.specs.Memory.{Spot}
use Rattle.oak_core.specs.Passes.{state, tries}
use Rattle.oak_core.specs.RoomCalls.{PinsRoomWord, UnpinsRoomWord}
use Rattle.oak_core.specs.Step.{load, Told}
use Rattle.oak_core.specs.Tries.{ManyHave, PinsARoom, PinsRooms, raised}

many_append : (P : Finding → Type 0) (a b : ℕ) (xs ys : List Finding) → ManyHave P a xs → ManyHave P b ys → ManyHave P (a + b) (xs ++ ys)
many_append P a b [] ys h k = let n : a ≡ 0 = h in let e : b ≡ a + b = omega arith in subst (λ (m : ℕ). ManyHave P m ys) e k
many_append P a b (x ∷ xs) ys (inl g) k = inl (g.0, many_append P a b xs ys g.1 k)
many_append P a b (x ∷ xs) ys (inr g) k = let m = g.1.0 in let n : a ≡ m + 1 = g.1.1 in let e : a + b ≡ m + b + 1 = omega arith in inr (g.0, (m + b, e, many_append P m b xs ys g.1.2 k))

raised_both : (n a b : ℕ) → raised (raised n a) b ≡ raised n (a + b)
raised_both n a zero = let e : a ≡ a + 0 = omega arith in ap (raised n) e
raised_both n a (suc b) = let e : suc (a + b) ≡ a + suc b = omega arith in ap (λ (k : ℕ). min (k + 1) (2 ^ 64 - 1)) (raised_both n a b) ∙ ap (raised n) e

pub pins_none : (z : Sizes) (p : Pass) → PinsRooms z 0 p p
pins_none z p = record { more = []; met = sym (append-nil (state p).findings.met); many = refl; tries = refl }

pub pins_both : (z : Sizes) (a b : ℕ) (p q r : Pass) → PinsRooms z a p q → PinsRooms z b q r → PinsRooms z (a + b) p r
pins_both z a b p q r x y = record {
  more = x.more ++ y.more;
  met = y.met ∙ (ap (λ (l : List Finding). l ++ y.more) x.met ∙ append_assoc (state p).findings.met x.more y.more);
  many = many_append (PinsARoom z) a b x.more y.more x.many y.many;
  tries = y.tries ∙ (ap (λ (n : ℕ). raised n b) x.tries ∙ raised_both (tries p) a b);
}

-- ---- one step

abbrev number_in : Option ℕ → ℕ
number_in None = 0
number_in (Some n) = n

not_up : (z : Sizes) (f : Finding) (n : ℕ) → f.found ≡ Some n → (f.left ≡ (n + 1) % 2 ^ 64 → ⊥) → PinsARoom z f → ⊥
not_up z f n e other p = other (p.left ∙ ap (λ (k : ℕ). (k + 1) % 2 ^ 64) (ap number_in (sym p.found ∙ e)))

-- neither a word that stays nor one that goes one down goes one up

stays_no_up : (n : ℕ) → n ≡ (n + 1) % 2 ^ 64 → ⊥
stays_no_up n e = omega arith

down_no_up : (n : ℕ) → (n + (2 ^ 64 - 1)) % 2 ^ 64 ≡ (n + 1) % 2 ^ 64 → ⊥
down_no_up n e = omega arith

pub pins_load : (z : Sizes) (call : ℕ) (s : Spot) (n : ℕ) (p q : Pass) → Told z call (load s) (state p) n (state q) → tries q ≡ tries p → PinsRooms z 0 p q
pins_load z call s n p q t e = record { more = _ ∷ []; met = ap (λ (y : PassState). y.findings.met) t.after; many = inl (not_up z _ _ refl (stays_no_up _), refl); tries = e }

pub pins_pin : (z : Sizes) (call r n : ℕ) (p q : Pass) → PinsRoomWord z call r (state p) n (state q) → tries q ≡ raised (tries p) 1 → PinsRooms z 1 p q
pins_pin z call r n p q t e = record { more = _ ∷ []; met = ap (λ (y : PassState). y.findings.met) t.after; many = inr (record { room = r; inside = t.may.inside.0; word = refl; number = _; found = refl; left = refl }, (0, refl, refl)); tries = e }

pub pins_unpin : (z : Sizes) (call r n : ℕ) (p q : Pass) → UnpinsRoomWord z call r (state p) n (state q) → tries q ≡ tries p → PinsRooms z 0 p q
pins_unpin z call r n p q t e = record { more = _ ∷ []; met = ap (λ (y : PassState). y.findings.met) t.after; many = inl (not_up z _ _ refl (down_no_up _), refl); tries = e }
