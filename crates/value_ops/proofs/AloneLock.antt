-- A try to lock a header, by a pass that is alone: the second look finds what the first one found.
use Rattle.std.proofs.Common.{◌≡◌, ◌≢◌, ℕ, ◌+◌, ◌<◌, true, false, List, get_or, set, sym, ap, ◌∙◌, eq-eqb}
use prog.Atomic.{either}
use Rattle.oak_model.specs.Limits.{Sizes}
use Rattle.pin_word.specs.PinWord.{STATE}
use Rattle.header_core.specs.HeaderStep.{lock_header}
use Rattle.oak_core.specs.declared.states.PassState.{PassState}
use Rattle.oak_core.specs.AloneWords.{Runs}
use Rattle.oak_core.specs.HeaderCalls.{Locks}
use Rattle.oak_core.specs.Memory.{index}
use Rattle.oak_core.specs.Splitting.{Loads}
use Rattle.oak_core.specs.Step.{on_headers}
use Rattle.oak_core.proofs.seats.AloneRuns.{Then, runs_then, runs_as}
use Rattle.oak_core.proofs.memory.Words.{memory_read}
use Rattle.value_ops.specs.AloneLocks.{pin_in, LocksPin, RefusesPin}
use Rattle.value_ops.specs.Claiming.{pin_spot}
use Rattle.value_ops.specs.Locking.{may_lock, refusal}
use Rattle.value_ops.proofs.AloneSteps.{DoesAt, LoadsAt, load_does, header_does}

module _ (z : Sizes) (call h g : ℕ) (inside : h < z.headers) (word n : ℕ) (v u : PassState) (at : word ≡ index z (pin_spot h)) (l : Loads z call word v n u) where
  looks : Runs (LoadsAt z (pin_spot h) v n) v u
  looks = load_does z call word n v u (pin_spot h) inside at l

  pub refuses_first : may_lock n g ≡ false → Runs (RefusesPin z h g (refusal n g)) v u
  refuses_first not_so = runs_as (LoadsAt z (pin_spot h) v n) (RefusesPin z h g (refusal n g)) v u
      (λ a b d. (ap (λ (k : ℕ). may_lock k g) (sym d.finds) ∙ not_so, ap (λ (k : ℕ). refusal k g) (sym d.finds), d.stays)) looks

  module _ (k : ℕ) (w : PassState) (t : Locks z call h n u k w) where
    abbrev Both : List ℕ → List ℕ → Type 0
    Both = Then (LoadsAt z (pin_spot h) v n) (DoesAt z (on_headers (lock_header h n)) u k)

    both : Runs Both v w
    both = runs_then (LoadsAt z (pin_spot h) v n) (DoesAt z (on_headers (lock_header h n)) u k) v u w looks (header_does z call (lock_header h n) u k w t)

    abbrev at_pin_word : ℕ
    at_pin_word = index z (pin_spot h)

    same_word : (a b : List ℕ) → Both a b → k ≡ n
    same_word a b d = d.2.finds ∙ (ap (λ (ws : List ℕ). get_or ws at_pin_word 0) d.1.stays ∙ (sym (memory_read z a (pin_spot h) inside) ∙ sym d.1.finds))

    -- so it loses no exchange
    pub never_lost : k ≢ n → (P : List ℕ → List ℕ → Type 0) → Runs P v w
    never_lost ne P = runs_as Both P v w (λ a b d. absurd (ne (same_word a b d))) both

    pub locks_alone : k ≡ n → may_lock n g ≡ true → Runs (LocksPin z h g) v w
    locks_alone same is_so = runs_as Both (LocksPin z h g) v w (λ a b d. (ap (λ (m : ℕ). may_lock m g) (sym d.1.finds) ∙ is_so, became a b d)) both
      where
        became : (a b : List ℕ) → Both a b → b ≡ set a at_pin_word (pin_in z h a + STATE)
        became a b d = d.2.leaves ∙ ((λ i. set (d.1.stays i) at_pin_word (either (eq-eqb k n same i) (n + STATE) k)) ∙ ap (λ (m : ℕ). set a at_pin_word (m + STATE)) d.1.finds)
