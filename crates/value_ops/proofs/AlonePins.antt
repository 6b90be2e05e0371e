-- What loads, and steps on the pin word of a header, do to the words of a table, where their pass is alone.
use Rattle.std.proofs.Common.{◌≡◌, ℕ, ◌+◌, ◌-◌, ◌<◌, List, length, get_or, set, sym, refl, ap, ◌∙◌, subst, arith, get_or-set_same}
use Rattle.std.proofs.lemmas.List.{set-set, set_past}
use lib.Seq.{set-get_or}
use mathlib.Core.Logic.{dite}
use native.Mathlib.Decide.{dec_lt}
use Rattle.oak_model.specs.Limits.{Sizes}
use Rattle.header_core.specs.Headers.{HeaderSpot, at_pin}
use Rattle.header_core.specs.HeaderStep.{HeaderStep, header_spot, header_effect}
use Rattle.oak_core.specs.declared.states.PassState.{PassState}
use Rattle.oak_core.specs.AloneWords.{Runs}
use Rattle.oak_core.specs.Memory.{Spot, in_headers, index, IsInside, memory}
use Rattle.oak_core.specs.Splitting.{Loads}
use Rattle.oak_core.specs.Step.{on_headers, Told}
use Rattle.oak_core.proofs.seats.AloneRuns.{DoesStep, Then, step_runs, load_runs, runs_then, runs_as, runs_none}
use Rattle.oak_core.proofs.memory.Words.{index_apart, memory_read}
use Rattle.value_ops.specs.AloneLocks.{FindsWord}
use Rattle.value_ops.specs.Claiming.{pin_spot, ChangesPin}
use Rattle.value_ops.specs.Pinning.{WordsStay}
use Rattle.value_ops.proofs.StepLeft.{inside}

-- loads

-- a load finds what stands at its spot
pub load_finds : (z : Sizes) (call word n : ℕ) (v w : PassState) (q : Spot) → IsInside z q → word ≡ index z q → Loads z call word v n w → Runs (FindsWord z q n) v w
load_finds z call word n v w q in_table is l = let same = index_apart z l.spot q l.inside in_table (l.at ∙ is) in
    runs_as (λ a b. (n ≡ get_or a (index z l.spot) 0) × (b ≡ a)) (FindsWord z q n) v w
    (λ a b d. (subst (λ (p : Spot). n ≡ get_or a (index z p) 0) same d.0 ∙ sym (memory_read z a q in_table), d.1)) (load_runs z call l.spot v n w l.told)

pub load_stays : (z : Sizes) (call word n : ℕ) (v w : PassState) → Loads z call word v n w → Runs WordsStay v w
load_stays z call word n v w l = runs_as (λ a b. (n ≡ get_or a (index z l.spot) 0) × (b ≡ a)) WordsStay v w (λ a b d. d.1) (load_runs z call l.spot v n w l.told)

pub none_stays : (v : PassState) → Runs WordsStay v v
none_stays v = runs_none WordsStay v (λ a. refl)

pub both_stay : (u v w : PassState) → Runs WordsStay u v → Runs WordsStay v w → Runs WordsStay u w
both_stay u v w a b = runs_as (Then WordsStay WordsStay) WordsStay u w (λ x y d. d.2 ∙ d.1) (runs_then WordsStay WordsStay u v w a b)

-- what is done behind loads is done to the words before them
pub stays_then : (P : List ℕ → List ℕ → Type 0) (u v w : PassState) → Runs WordsStay u v → Runs P v w → Runs P u w
stays_then P u v w a b = runs_as (Then WordsStay P) P u w (λ x y d. subst (λ (m : List ℕ). P m y) d.1 d.2) (runs_then WordsStay P u v w a b)

-- steps on a pin word

module _ (z : Sizes) (call : ℕ) (x : HeaderStep) (h : ℕ) (is : header_spot x ≡ at_pin h) (v : PassState) (n : ℕ) (w : PassState) (t : Told z call (on_headers x) v n w) where
  -- the number found has P, and becomes f of it
  pub pin_changes : (P : ℕ → Type 0) (f : ℕ → ℕ) → P n → header_effect x n ≡ f n → Runs (ChangesPin z h P f) v w
  pin_changes P f p becomes = runs_as (DoesStep z (on_headers x) n) (ChangesPin z h P f) v w
      (λ a b d. let e = found_in a d.0 in (subst P (sym e) p, d.1 ∙ ((λ i. set a (index z (in_headers (is i))) (header_effect x (sym d.0 i))) ∙ ap (set a (index z (pin_spot h))) (becomes ∙ ap f (sym e)))))
      (step_runs z call (on_headers x) v n w tt t)
    where
      found_in : (a : List ℕ) → n ≡ get_or a (index z (in_headers (header_spot x))) 0 → (memory z a).headers.pin h ≡ n
      found_in a e = memory_read z a (pin_spot h) (inside z call x h is v n w t) ∙ sym (subst (λ (q : HeaderSpot). n ≡ get_or a (index z (in_headers q)) 0) is e)

-- a pin that is undone leaves the words as they were

back : (a : List ℕ) (i n m : ℕ) → n ≡ get_or a i 0 → m ≡ get_or (set a i (n + 1)) i 0 → set (set a i (n + 1)) i (m - 1) ≡ a
back a i n m e f = set-set a i (n + 1) (m - 1) ∙ dite (dec_lt i (length a))
    (λ l. let s : get_or (set a i (n + 1)) i 0 ≡ n + 1 = get_or-set_same a i (n + 1) 0 l in let d : m - 1 ≡ n = omega arith in ap (set a i) (d ∙ e) ∙ set-get_or a i 0)
    (λ k. set_past a i (m - 1) (omega arith))

module _ (z : Sizes) (h : ℕ) (lt : h < z.headers) where
  pub undone : (a b d : List ℕ) (P Q : ℕ → Type 0) → ChangesPin z h P (λ n. n + 1) a b → ChangesPin z h Q (λ n. n - 1) b d → d ≡ a
  undone a b d P Q up down = let p : (memory z a).headers.pin h ≡ get_or a (index z (pin_spot h)) 0 = memory_read z a (pin_spot h) lt in
      let q : (memory z b).headers.pin h ≡ get_or b (index z (pin_spot h)) 0 = memory_read z b (pin_spot h) lt in
      down.1 ∙ ((λ i. set (up.1 i) (index z (pin_spot h)) ((memory z b).headers.pin h - 1))
      ∙ back a (index z (pin_spot h)) ((memory z a).headers.pin h) ((memory z b).headers.pin h) p (q ∙ ap (λ (ws : List ℕ). get_or ws (index z (pin_spot h)) 0) up.1))
