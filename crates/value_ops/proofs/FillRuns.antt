-- What the three steps that fill a header do to the words of a table, where their pass is alone.
use Rattle.std.proofs.Common.{◌≡◌, ℕ, ◌+◌, ◌<◌, List, set, sym, ap, ◌∙◌, refl, arith, get_or-set_other}
use Rattle.pin_word.specs.PinWord.{state_of, STATE}
use Rattle.oak_model.specs.Limits.{Sizes}
use Rattle.header_core.specs.declared.states.TheConstants.{OWNED}
use Rattle.header_core.specs.Headers.{at_place, at_stamp}
use Rattle.header_core.specs.HeaderStep.{store_place, store_stamp, open_header}
use Rattle.oak_core.specs.declared.states.PassState.{PassState}
use Rattle.oak_core.specs.AloneWords.{Runs}
use Rattle.oak_core.specs.HeaderCalls.{StoresPlace, StoresStamp, Opens}
use Rattle.oak_core.specs.Memory.{Spot, in_headers, index, IsInside, memory}
use Rattle.oak_core.specs.Step.{on_headers}
use Rattle.oak_core.proofs.seats.AloneRuns.{DoesStep, Then, step_runs, runs_then, runs_as}
use Rattle.oak_core.proofs.memory.Words.{index_apart, memory_read}
use Rattle.arena_ops.specs.Taking.{SetsWord}
use Rattle.value_ops.specs.Claiming.{pin_spot, ChangesPin}
use Rattle.value_ops.specs.Filling.{FillsWords}
use Rattle.value_ops.proofs.ExchangeFacts.{state_fits}
use Rattle.value_ops.proofs.AlonePins.{pin_changes}
use Rattle.value_ops.proofs.StepLeft.{small}

module _ (z : Sizes) (h : ℕ) (inside : h < z.headers) where
  -- a store elsewhere leaves the pin word
  pub pin_kept : (a : List ℕ) (q : Spot) (x : ℕ) → IsInside z q → (q ≡ pin_spot h → ⊥) → (memory z (set a (index z q) x)).headers.pin h ≡ (memory z a).headers.pin h
  pin_kept a q x lt apart = memory_read z (set a (index z q) x) (pin_spot h) inside
      ∙ (get_or-set_other a (index z q) (index z (pin_spot h)) x 0 (λ e. apart (index_apart z q (pin_spot h) lt inside (sym e))) ∙ sym (memory_read z a (pin_spot h) inside))

  not_place : in_headers (at_place h) ≡ pin_spot h → ⊥
  not_place e = cc

  not_stamp : in_headers (at_stamp h) ≡ pin_spot h → ⊥
  not_stamp e = cc

  module _ (call place stamp : ℕ) (v u y : PassState) (n : ℕ) (w : PassState) (t1 : StoresPlace z call h place v u) (t2 : StoresStamp z call h stamp u y) (t3 : Opens z call h y n w) (owned : state_of n ≡ OWNED) where
    places : Runs (SetsWord z (in_headers (at_place h)) place) v u
    places = runs_as (DoesStep z (on_headers (store_place h place)) t1.0) (SetsWord z (in_headers (at_place h)) place) v u (λ a b d. d.1) (step_runs z call (on_headers (store_place h place)) v t1.0 u tt t1.1)

    stamps : Runs (SetsWord z (in_headers (at_stamp h)) stamp) u y
    stamps = runs_as (DoesStep z (on_headers (store_stamp h stamp)) t2.0) (SetsWord z (in_headers (at_stamp h)) stamp) u y (λ a b d. d.1) (step_runs z call (on_headers (store_stamp h stamp)) u t2.0 y tt t2.1)

    abbrev Opened : List ℕ → List ℕ → Type 0
    Opened = ChangesPin z h (λ k. state_of k ≡ OWNED) (λ k. k + STATE)

    opens : Runs Opened y w
    opens = pin_changes z call (open_header h) h refl y n w t3 (λ k. state_of k ≡ OWNED) (λ k. k + STATE) owned
        (let f = state_fits n (small z call (open_header h) h refl y n w t3) (omega arith) in omega arith)

    pub fill_runs : Runs (FillsWords z h place stamp) v w
    fill_runs = runs_as (Then (SetsWord z (in_headers (at_place h)) place) (Then (SetsWord z (in_headers (at_stamp h)) stamp) Opened)) (FillsWords z h place stamp) v w
        (λ a e d. let b = d.0 in let c = d.2.0 in
        let stored : c ≡ set (set a (index z (in_headers (at_place h))) place) (index z (in_headers (at_stamp h))) stamp = d.2.1 ∙ ap (λ (ws : List ℕ). set ws (index z (in_headers (at_stamp h))) stamp) d.1 in
        let same : (memory z c).headers.pin h ≡ (memory z a).headers.pin h = ap (λ (ws : List ℕ). (memory z ws).headers.pin h) stored
        ∙ (pin_kept (set a (index z (in_headers (at_place h))) place) (in_headers (at_stamp h)) stamp inside not_stamp ∙ pin_kept a (in_headers (at_place h)) place inside not_place) in
        (ap state_of (sym same) ∙ d.2.2.0, d.2.2.1 ∙ (λ i. set (stored i) (index z (pin_spot h)) (same i + STATE))))
        (runs_then (SetsWord z (in_headers (at_place h)) place) (Then (SetsWord z (in_headers (at_stamp h)) stamp) Opened) v u w places (runs_then (SetsWord z (in_headers (at_stamp h)) stamp) Opened u y w stamps opens))
