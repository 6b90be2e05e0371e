-- The value of a key that a workload writes is the number of its writes.
use Rattle.std.proofs.Common.{◌≡◌, ℕ, zero, suc, ◌+◌, ◌-◌, ◌%◌, ◌^◌, ◌<◌, ◌≤◌, Bool, false, cond, List, [], ◌∷◌, ◌++◌, length, map, take, drop, Option, Some, None, refl, sym, ap, subst, ◌∙◌, append-nil, arith}
use Rattle.std.specs.Prelude.{IsSomeAnd, nat_lt}
use Rattle.std.specs.Int.{w64, from_be_bytes, to_be_bytes}
use Rattle.std.specs.List.{AllByRecursion, slice_get}
use Rattle.std.specs.List.Sorted.{IsPermutation}
use Rattle.std.proofs.lemmas.List.{take_all, drop_all}
use Rattle.std.proofs.lemmas.List.Elements.{All-from_recursion, recursion_from_All}
use Rattle.std.proofs.lemmas.List.Sorted.{All-permutation, length_permutation}
use Rattle.std.proofs.lemmas.List.{length-map}
use Rattle.std.proofs.lemmas.Nat.{from_be_bytes-to_be_bytes_8}
use Rattle.oak_model.specs.declared.writes.Write.{Write}
use Rattle.oak_model.specs.Cell.{kind_of, state_after}
use Rattle.oak_model.specs.History.{AreDistinctCalls, Histories, History, last_state, state_at}
use Rattle.oak_model.specs.Recipe.{add_result}
use Rattle.oak_model.specs.State.{State}
use Rattle.oak_script.specs.Workload.{one_value}
use Rattle.oak_run.specs.Answers.{Mark, mark_of}
use Rattle.oak_run.proofs.DrawnTurns.{IsDrawnWrite, drawn_cell}

-- absent behind no write, and behind r writes the number r in eight bytes
abbrev pub Counts : ℕ → State → Type 0
Counts zero s = s ≡ None
Counts (suc r) s = (b : List ℕ) × (s ≡ Some b) × (length b ≡ 8) × (from_be_bytes w64 b ≡ suc r)

length-written : (n : ℕ) → length (to_be_bytes w64 n) ≡ 8
length-written n = refl

added : (b : List ℕ) → length b ≡ 8 → add_result 1 b ≡ to_be_bytes w64 ((from_be_bytes w64 b + 1) % 2 ^ 64)
added b e =
    let long : nat_lt (length b) 8 ≡ false = ap (λ (n : ℕ). nat_lt n 8) e in
    let whole : take 8 b ≡ b = take_all 8 b (omega arith) in
    let none : drop 8 b ≡ [] = drop_all 8 b (omega arith) in
    ap (λ (t : Bool). cond t b (to_be_bytes w64 ((from_be_bytes w64 (take 8 b) + 1) % 2 ^ 64) ++ drop 8 b)) long
    ∙ (ap (λ (x : List ℕ). to_be_bytes w64 ((from_be_bytes w64 x + 1) % 2 ^ 64) ++ drop 8 b) whole
    ∙ (ap (λ (x : List ℕ). to_be_bytes w64 ((from_be_bytes w64 b + 1) % 2 ^ 64) ++ x) none
    ∙ append-nil (to_be_bytes w64 ((from_be_bytes w64 b + 1) % 2 ^ 64))))

one-more : (r : ℕ) (s : State) → suc r < 2 ^ 64 → Counts r s → Counts (suc r) (state_after s drawn_cell)
one-more zero s small c = (one_value, ap (λ (x : State). state_after x drawn_cell) c, refl, refl)
one-more (suc r) s small c =
    let b = c.0 in
    let sum : (from_be_bytes w64 b + 1) % 2 ^ 64 ≡ suc (suc r) = omega (arith, c.3) in
    let is : add_result 1 b ≡ to_be_bytes w64 (suc (suc r)) = added b c.2 ∙ ap (to_be_bytes w64) sum in
    (to_be_bytes w64 (suc (suc r)), ap (λ (x : State). state_after x drawn_cell) c.1 ∙ ap Some is, length-written (suc (suc r)), from_be_bytes-to_be_bytes_8 (suc (suc r)) small)

some-and : {A : Type 0} (o : Option A) (P : A → Type 0) → IsSomeAnd o P → (x : A) × (o ≡ Some x) × P x
some-and None P h = absurd h
some-and (Some x) P h = (x, refl, h)

at-mark : (P : Mark → Type 0) (ws : History) (i : ℕ) (w : Write) → AllByRecursion P (map mark_of ws) → slice_get ws i ≡ Some w → P (mark_of w)
at-mark P [] i w all e = absurd cc
at-mark P (x ∷ xs) zero w all e = let same : x ≡ w = cc in subst (λ (y : Write). P (mark_of y)) same all.0
at-mark P (x ∷ xs) (suc i) w all e = at-mark P xs i w all.1 e

there : (ws : History) (i : ℕ) → i < length ws → (w : Write) × (slice_get ws i ≡ Some w)
there [] i l = absurd (omega arith)
there (x ∷ xs) zero l = (x, refl)
there (x ∷ xs) (suc i) l = there xs i (omega arith)

module _ (h : Histories) (distinct : AreDistinctCalls h) (q : List ℕ) (marks : List Mark) (drawn : AllByRecursion (IsDrawnWrite h q) marks) (once : IsPermutation marks (map mark_of (h q))) where
  all-writes : AllByRecursion (IsDrawnWrite h q) (map mark_of (h q))
  all-writes = recursion_from_All (IsDrawnWrite h q) (map mark_of (h q)) (All-permutation (IsDrawnWrite h q) marks (map mark_of (h q)) once (All-from_recursion (IsDrawnWrite h q) marks drawn))

  -- each write of the key is by one of the workload's calls
  step : (i : ℕ) → i < length (h q) → state_after (state_at (h q) i) drawn_cell ≡ state_at (h q) (suc i)
  step i l =
      let w = there (h q) i l in
      let m = at-mark (IsDrawnWrite h q) (h q) i w.0 all-writes w.1 in
      let written = some-and (slice_get (h q) (m.place - 1)) (λ (v : Write). (v.caller ≡ w.0.caller) × (v.call ≡ w.0.call) × (kind_of drawn_cell ≡ Some v.kind)) m.fits.write in
      let same = (distinct q q i (m.place - 1) w.0 written.0 w.1 written.1 (sym written.2.0) (sym written.2.1)).1 in
      let before : m.place - 1 ≡ i = sym same in
      let here : m.place ≡ suc i = (let first = m.fits.first in omega arith) in
      ap (λ (r : ℕ). state_after (state_at (h q) r) drawn_cell) (sym before) ∙ (m.fits.after ∙ ap (state_at (h q)) here)

  pub as-many : length (h q) ≡ length marks
  as-many = sym (length-map (h q) mark_of) ∙ length_permutation marks (map mark_of (h q)) once

  counted : (r : ℕ) → r ≤ length (h q) → length (h q) < 2 ^ 64 → Counts r (state_at (h q) r)
  counted zero l small = refl
  counted (suc r) l small = subst (Counts (suc r)) (step r (omega arith)) (one-more r (state_at (h q) r) (omega arith) (counted r (omega arith) small))

  pub last-counted : length marks < 2 ^ 64 → Counts (length marks) (last_state (h q))
  last-counted small =
      let few : length (h q) < 2 ^ 64 = (let e = as-many in omega arith) in
      let whole : take (length (h q)) (h q) ≡ h q = take_all (length (h q)) (h q) (omega arith) in
      subst (λ (r : ℕ). Counts r (last_state (h q))) as-many (subst (λ (x : History). Counts (length (h q)) (last_state x)) whole (counted (length (h q)) (omega arith) few))
