-- What a pass has into which threads were joined: their numbers, writes and findings, and all that they saw and learned.
use Rattle.std.proofs.Common.{◌≡◌, ◌≢◌, ℕ, suc, ◌+◌, ◌≤◌, cond, List, [], ◌∷◌, ◌++◌, length, map, refl, sym, ap, ◌∙◌, arith, append_assoc, append-nil}
use Rattle.oak_model.specs.Counts.{Each}
use Rattle.oak_model.proofs.Counting.{decided}
use Rattle.oak_model.proofs.Lists.{each_map}
use Rattle.oak_core.specs.declared.states.Findings.{Findings}
use Rattle.oak_core.specs.declared.states.Joined.{Joined}
use Rattle.oak_core.specs.declared.states.KeyedWrite.{KeyedWrite}
use Rattle.oak_core.specs.declared.states.PassState.{PassState}
use Rattle.oak_core.specs.Closing.{findings_by}
use Rattle.oak_core.specs.KnownPlaces.{Remembers}
use Rattle.oak_core.specs.PassState.{both_state, joined_from}
use Rattle.oak_core.proofs.known.Remembering.{join_remembers, remembers_self, remembers_then}
use Rattle.oak_run.specs.ThreadsRun.{AreNumbered, ThreadEnd, joined_all}
use Rattle.oak_run.proofs.EndedWrites.{mine-cases, mine_in}

abbrev pub joined_of : List ThreadEnd → List Joined
joined_of ts = map (λ (t : ThreadEnd). joined_from t.state) ts

-- ---- the pass keeps its number and its own writes

pub first_number : (v : PassState) (ts : List ThreadEnd) → (joined_all v ts).numbers.number ≡ v.numbers.number
first_number v [] = refl
first_number v (t ∷ ts) = first_number (both_state v t.state) ts

pub first_mine : (v : PassState) (ts : List ThreadEnd) → (joined_all v ts).knowledge.mine ≡ v.knowledge.mine
first_mine v [] = refl
first_mine v (t ∷ ts) = first_mine (both_state v t.state) ts

pub all_joined : (n : ℕ) (v : PassState) (ts : List ThreadEnd) → AreNumbered n ts → (joined_all v ts).numbers.joined ≡ v.numbers.joined ++ joined_of ts
all_joined n v [] are = sym (append-nil v.numbers.joined)
all_joined n v (t ∷ ts) are = all_joined (suc n) (both_state v t.state) ts are.2
    ∙ (ap (λ (l : List Joined). (v.numbers.joined ++ joined_from t.state ∷ l) ++ joined_of ts) are.1
    ∙ append_assoc v.numbers.joined (joined_from t.state ∷ []) (joined_of ts))

-- ---- what they saw and learned

pub each_parts : (P : List KeyedWrite → Type 0) (xs ys : List (List KeyedWrite)) → Each P (xs ++ ys) → Each P xs × Each P ys
each_parts P [] ys all = (tt, all)
each_parts P (x ∷ xs) ys all = let r = each_parts P xs ys all.1 in ((all.0, r.0), r.1)

-- what holds of all that the pass has seen then holds of what each thread has seen
pub each_saw : (P : List KeyedWrite → Type 0) (v : PassState) (ts : List ThreadEnd) → Each P (joined_all v ts).knowledge.seen → Each P v.knowledge.seen × Each (λ (t : ThreadEnd). Each P t.state.knowledge.seen) ts
each_saw P v [] all = (all, tt)
each_saw P v (t ∷ ts) all =
    let r = each_saw P (both_state v t.state) ts all in
    let s = each_parts P v.knowledge.seen t.state.knowledge.seen r.0 in
    (s.0, (s.1, r.1))

pub each_learned : (v : PassState) (ts : List ThreadEnd) → Remembers v.knowledge (joined_all v ts).knowledge × Each (λ (t : ThreadEnd). Remembers t.state.knowledge (joined_all v ts).knowledge) ts
each_learned v [] = (remembers_self v.knowledge, tt)
each_learned v (t ∷ ts) =
    let r = each_learned (both_state v t.state) ts in
    let j = join_remembers v t.state in
    let q = (joined_all v (t ∷ ts)).knowledge in
    (remembers_then v.knowledge (both_state v t.state).knowledge q j.0 r.0, (remembers_then t.state.knowledge (both_state v t.state).knowledge q j.1 r.0, r.1))

-- ---- by its number each thread is found again

pub findings-cases : (i : ℕ) (j : Joined) (js : List Joined) (P : Findings → Type 0) → (j.number ≡ i → P j.findings) → (j.number ≢ i → P (findings_by i js)) → P (findings_by i (j ∷ js))
unfolding findings_by
findings-cases i j js P same other = decided j.number i (λ b. P (cond b j.findings (findings_by i js))) same other

-- it is found among these, and has no lower number
pub record IsFound (n : ℕ) (js : List Joined) (t : ThreadEnd) : Type 0 where
  pub from : n ≤ t.state.numbers.number
  pub findings : findings_by t.state.numbers.number js ≡ t.state.findings
  pub mine : mine_in t.state.numbers.number js ≡ t.state.knowledge.mine

found_here : (n : ℕ) (t : ThreadEnd) (js : List Joined) → t.state.numbers.number ≡ n → IsFound n (joined_from t.state ∷ js) t
found_here n t js e = record {
  from = omega arith;
  findings = findings-cases t.state.numbers.number (joined_from t.state) js (λ f. f ≡ t.state.findings) (λ _. refl) (λ ne. absurd (ne refl));
  mine = mine-cases t.state.numbers.number (joined_from t.state) js (λ l. l ≡ t.state.knowledge.mine) (λ _. refl) (λ ne. absurd (ne refl));
}

-- behind one with a lower number, too
found_behind : (n : ℕ) (j : Joined) (js : List Joined) (t : ThreadEnd) → j.number ≡ n → IsFound (suc n) js t → IsFound n (j ∷ js) t
found_behind n j js t e f = let from = f.from in record {
  from = omega arith;
  findings = findings-cases t.state.numbers.number j js (λ x. x ≡ t.state.findings) (λ same. absurd (omega arith)) (λ _. f.findings);
  mine = mine-cases t.state.numbers.number j js (λ l. l ≡ t.state.knowledge.mine) (λ same. absurd (omega arith)) (λ _. f.mine);
}

pub each_found : (n : ℕ) (ts : List ThreadEnd) → AreNumbered n ts → Each (IsFound n (joined_of ts)) ts
each_found n [] are = tt
each_found n (t ∷ ts) are = (
  found_here n t (joined_of ts) are.0,
  each_map (IsFound (suc n) (joined_of ts)) (IsFound n (joined_from t.state ∷ joined_of ts)) ts (λ u f. found_behind n (joined_from t.state) (joined_of ts) u are.0 f) (each_found (suc n) ts are.2),
)

-- a number behind theirs is none's
pub none_behind : (n i : ℕ) (ts : List ThreadEnd) → AreNumbered n ts → n + length ts ≤ i → mine_in i (joined_of ts) ≡ []
none_behind n i [] are l = refl
none_behind n i (t ∷ ts) are l = let e = are.0 in mine-cases i (joined_from t.state) (joined_of ts) (λ x. x ≡ []) (λ same. absurd (omega arith)) (λ _. none_behind (suc n) i ts are.2 (omega arith))
