-- A pass that was alone at its last step is alone still, and no other pass stored meanwhile.
use Rattle.std.proofs.Common.{false, true≢false, ◌≡◌, ◌≢◌, ℕ, zero, suc, ◌<◌, Bool, true, nat_lt, List, [], ◌∷◌, ◌++◌, set, sym, refl, ap, ◌∙◌, subst, ⊎_elim}
use Rattle.std.specs.List.{list_all}
use Rattle.std.proofs.lemmas.Bool.{ltb-true}
use mathlib.Core.Option.{some, some-injective, some-ne-none}
use lib.ListN.{get_elem?}
use Rattle.oak_model.specs.Limits.{Sizes}
use Rattle.oak_model.specs.Counts.{one_at, Every}
use Rattle.oak_model.proofs.Counting.{both_true, total_some, one_at-true}
use Rattle.oak_model.proofs.Lists.{at_set}
use Rattle.oak_core.specs.declared.states.Finding.{Finding}
use Rattle.oak_core.specs.declared.states.PassState.{PassState}
use Rattle.oak_core.specs.Memory.{index}
use Rattle.oak_core.specs.PassState.{IsAlone, is_alone, rooted}
use Rattle.oak_core.specs.TableState.{TableState}
use Rattle.oak_core.specs.Rule.{Rule, AloneStands}
use Rattle.oak_core.specs.Step.{Step, load, give_number, on_arena, on_headers, on_rooms, store_locked, note_full, spot, effect, found, state_after}
use Rattle.oak_core.proofs.seats.Alone.{others_spent}

-- the last of a list that ends so
pub last_is : {A : Type 0} (xs ys : List A) (x y : A) → xs ++ x ∷ [] ≡ ys ++ y ∷ [] → x ≡ y
last_is [] [] x y e = cc
last_is [] (b ∷ []) x y e = absurd cc
last_is [] (b ∷ (c ∷ ys)) x y e = absurd cc
last_is (a ∷ []) [] x y e = absurd cc
last_is (a ∷ (c ∷ xs)) [] x y e = absurd cc
last_is (a ∷ xs) (b ∷ ys) x y e = last_is xs ys x y cc

none_last : {A : Type 0} (ys : List A) (y : A) → [] ≡ ys ++ y ∷ [] → ⊥
none_last [] y e = cc
none_last (b ∷ ys) y e = cc

-- the test says so
all_at : (p : ℕ → Bool) (xs : List ℕ) (i x : ℕ) → list_all p xs ≡ true → get_elem? xs i ≡ some x → p x ≡ true
all_at p [] i x h e = absurd (some-ne-none x (sym e))
all_at p (y ∷ ys) zero x h e = subst (λ (k : ℕ). p k ≡ true) (some-injective y x e) (both_true (p y) (list_all p ys) h).0
all_at p (y ∷ ys) (suc i) x h e = all_at p ys i x (both_true (p y) (list_all p ys) h).1 e

pub alone_is : (v : PassState) → is_alone v.numbers ≡ true → IsAlone v
alone_is v e = let b = both_true (nat_lt 0 (rooted 0 v.numbers)) (list_all (λ (k : ℕ). nat_lt 0 (rooted k v.numbers)) v.numbers.made) e in record {
  first = ltb-true 0 (rooted 0 v.numbers) b.0;
  others = λ k h. let t = total_some (λ (m : ℕ). one_at m k) v.numbers.made h in let same : t.1 ≡ k = one_at-true t.1 k t.3 in
      subst (λ (m : ℕ). 0 < rooted m v.numbers) same (ltb-true 0 (rooted t.1 v.numbers) (all_at (λ (m : ℕ). nat_lt 0 (rooted m v.numbers)) v.numbers.made t.0 t.1 b.1 t.2));
}

-- what a step appends says of its pass and of the words behind it what is so
pub record Appends (words : List ℕ) (v w : PassState) : Type 0 where
  pub finding : Finding
  pub met : w.findings.met ≡ v.findings.met ++ finding ∷ []
  pub says : finding.alone ≡ true → (words ≡ finding.words) × (is_alone w.numbers ≡ true)

pub appends : (z : Sizes) (call : ℕ) (x : Step) (s : TableState) (v : PassState) → Appends (set s.words (index z (spot x)) (effect x (found z x s))) v (state_after z call x s v)
appends z call (load p) s v = record { finding = _; met = refl; says = λ a. (refl, a) }
appends z call (give_number k) s v = record { finding = _; met = refl; says = λ a. absurd (true≢false (sym a)) }
appends z call (on_arena a) s v = record { finding = _; met = refl; says = λ a. (refl, a) }
appends z call (on_headers h) s v = record { finding = _; met = refl; says = λ a. (refl, a) }
appends z call (on_rooms h) s v = record { finding = _; met = refl; says = λ a. (refl, a) }
appends z call (store_locked h c b k x) s v = record { finding = _; met = refl; says = λ a. (refl, a) }
appends z call (note_full lack began) s v = record { finding = _; met = refl; says = λ a. (refl, a) }

-- the point holds of a pass that appended so
pub alone_last : (words : List ℕ) (v w : PassState) → Appends words v w → AloneStands words w
alone_last words v w a met f e alone =
    let same : a.finding ≡ f = last_is v.findings.met met a.finding f (sym a.met ∙ e) in
    let s = a.says (ap (λ (g : Finding). g.alone) same ∙ alone) in
    (s.0 ∙ ap (λ (g : Finding). g.words) same, alone_is w s.1)

-- of a pass that met nothing it says nothing
pub alone_fresh : (words : List ℕ) (w : PassState) → w.findings.met ≡ [] → AloneStands words w
alone_fresh words w e met f h alone = absurd (none_last met f (sym e ∙ h))

module _ (z : Sizes) (s : TableState) (r : Rule z s) (seat : ℕ) (v : PassState) (here : get_elem? s.states seat ≡ some v) (going : v.numbers.spent ≡ false) where
  -- beside a pass that is going no other is alone
  none_alone : (j : ℕ) (u : PassState) → j ≢ seat → get_elem? s.states j ≡ some u → IsAlone u → ⊥
  none_alone j u ne at a = true≢false (sym (others_spent z s r j u at a seat v (λ e. ne (sym e)) here) ∙ going)

  pub alone_steps : (call : ℕ) (x : Step) → Every (AloneStands (set s.words (index z (spot x)) (effect x (found z x s)))) (set s.states seat (state_after z call x s v))
  alone_steps call x = let w : PassState = state_after z call x s v in let words : List ℕ = set s.words (index z (spot x)) (effect x (found z x s)) in
      λ j u e. ⊎_elim (λ (t : (j ≡ seat) × (w ≡ u)). subst (AloneStands words) t.1 (alone_last words v w (appends z call x s v)))
      (λ (t : (j ≢ seat) × (get_elem? s.states j ≡ some u)) met f m alone. absurd (none_alone j u t.0 t.1 (r.alone j u t.1 met f m alone).1)) (at_set s.states seat j w u e)

  -- a pass that takes another in was not alone
  pub alone_joins : (other : ℕ) (w both : PassState) → get_elem? s.states other ≡ some w → other ≢ seat → w.numbers.spent ≡ false → both.findings.met ≡ v.findings.met → AloneStands s.words both
  alone_joins other w both there ne still same met f e alone = let a = (r.alone seat v here met f (sym same ∙ e) alone).1 in absurd (true≢false (sym (others_spent z s r seat v here a other w ne there) ∙ still))
