-- The refused calls of a closed table were found to lack what they name.
use Rattle.std.proofs.Common.{◌≡◌, ℕ, zero, suc, ◌≤◌, Bool, false, cond, List, [], ◌∷◌, map, sym, refl, ap, ◌∙◌, subst, arith, eq-eqb, ne_eqb}
use Rattle.std.proofs.lemmas.Nat.Bits.{bit_at-lt}
use mathlib.Core.Option.{some, some-injective, some-ne-none}
use mathlib.Core.Logic.{dite}
use native.Mathlib.Decide.{ℕ_discrete}
use lib.ListN.{get_elem?}
use Rattle.oak_model.specs.Counts.{Each, one_at, total}
use Rattle.oak_model.specs.Limits.{Sizes}
use Rattle.oak_model.proofs.Counting.{one_at-same, total_at}
use Rattle.oak_model.proofs.Lists.{at_map, each_append, each_map, each_map_list}
use Rattle.oak_core.specs.declared.states.Full.{Full}
use Rattle.oak_core.specs.declared.states.Joined.{Joined}
use Rattle.oak_core.specs.declared.states.PassState.{PassState}
use Rattle.oak_core.specs.Closing.{all_passes, findings_by, FullCall, fulls_of}
use Rattle.oak_core.specs.Lack.{Lacked, FullsStand}
use Rattle.oak_core.specs.Memory.{memory}
use Rattle.oak_core.specs.PassState.{numbers_of, findings_of, has_number}
use Rattle.oak_core.specs.Rule.{Rule}
use Rattle.oak_core.specs.TableState.{TableState}

abbrev FullFound : Sizes → List Joined → FullCall → Type 0
FullFound z js f = Lacked z f.call f.lack (findings_by f.pass js)

-- what each noted call lacked was found in it, by its pass
abbrev pub FullsFound : Sizes → PassState → Type 0
FullsFound z v = Each (FullFound z (all_passes v)) (fulls_of (all_passes v))

-- of passes whose numbers differ, each is the one with its number
found_by : (js : List Joined) (i : ℕ) (j : Joined) → total (λ (q : Joined). one_at q.number j.number) js ≤ 1 → get_elem? js i ≡ some j → findings_by j.number js ≡ j.findings
unfolding findings_by total
found_by [] i j once e = absurd (some-ne-none j (sym e))
found_by (x ∷ xs) zero j once e = let same : x ≡ j = some-injective x j e in
    ap (λ (t : Bool). cond t x.findings (findings_by j.number xs)) (eq-eqb x.number j.number (ap (λ (q : Joined). q.number) same)) ∙ ap (λ (q : Joined). q.findings) same
found_by (x ∷ xs) (suc i) j once e = dite (ℕ_discrete x.number j.number)
    (λ q. let t = total_at (λ (q : Joined). one_at q.number j.number) xs i j e in let a = one_at-same x.number j.number q in let b = one_at-same j.number j.number refl in absurd (omega arith))
    (λ ne. ap (λ (t : Bool). cond t x.findings (findings_by j.number xs)) (ne_eqb x.number j.number ne) ∙ found_by xs i j (omega arith) e)

each_both : {A : Type 0} (P Q : A → Type 0) (xs : List A) → Each P xs → ((i : ℕ) (x : A) → get_elem? xs i ≡ some x → Q x) → Each (λ x. P x × Q x) xs
each_both P Q [] h e = tt
each_both P Q (x ∷ xs) h e = ((h.0, e zero x refl), each_both P Q xs h.1 (λ i y at. e (suc i) y at))

module _ (z : Sizes) (js : List Joined) where
  fulls_found : (ks : List Joined) → Each (λ (j : Joined). FullsStand z j.findings × (findings_by j.number js ≡ j.findings)) ks → Each (FullFound z js) (fulls_of ks)
  unfolding fulls_of
  fulls_found [] h = tt
  fulls_found (k ∷ ks) h = let call_of : Full → FullCall = (λ f. record { pass = k.number; call = f.call; lack = f.lack }) in
      each_append (FullFound z js) (map call_of k.findings.fulls) (fulls_of ks)
      (each_map_list call_of (FullFound z js) k.findings.fulls
      (each_map (λ (f : Full). Lacked z f.call f.lack k.findings) (λ (f : Full). Lacked z f.call f.lack (findings_by k.number js)) k.findings.fulls (λ f q. subst (Lacked z f.call f.lack) (sym h.0.1) q) h.0.0))
      (fulls_found ks h.1)

module _ (z : Sizes) (s : TableState) (r : Rule z s) (seat : ℕ) (v : PassState) (here : get_elem? s.states seat ≡ some v) (going : v.numbers.spent ≡ false) where
  -- a pass and those joined into it have different numbers
  number_once : (k : ℕ) → total (λ (q : Joined). one_at q.number k) (all_passes v) ≤ 1
  unfolding total
  number_once k = let t = total_at (has_number k) (map numbers_of s.states) seat v.numbers (at_map numbers_of s.states seat v here) in let o = r.numbers.owned k in let l = bit_at-lt (memory z s.words).given k in
      let own : cond v.numbers.spent 0 (one_at v.numbers.number k) ≡ one_at v.numbers.number k = ap (λ (b : Bool). cond b 0 (one_at v.numbers.number k)) going in omega arith

  pub all_found : FullsFound z v
  all_found = fulls_found z (all_passes v) (all_passes v)
      (each_both (λ (j : Joined). FullsStand z j.findings) (λ (j : Joined). findings_by j.number (all_passes v) ≡ j.findings) (all_passes v) ((r.findings seat v.findings (at_map findings_of s.states seat v here)).noted, r.joined seat v here)
      (λ i j e. found_by (all_passes v) i j (number_once j.number) e))
