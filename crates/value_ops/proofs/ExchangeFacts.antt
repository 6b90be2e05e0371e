-- What an exchange of a header's pin word leaves, by which a pass comes to hold the header.
use Rattle.std.proofs.Common.{List, ◌≡◌, ◌≢◌, ℕ, ◌+◌, ◌^◌, ◌<◌, ◌==◌, Bool, true, cond, ◌∷◌, slice_index, ap, ◌∙◌, arith, Some, eq-eqb, ne_eqb}
use prog.Atomic.{either}
use Rattle.pin_word.specs.PinWord.{state_of, STATE}
use Rattle.oak_model.specs.Limits.{Sizes}
use Rattle.header_core.specs.declared.states.TheConstants.{RETIRED}
use Rattle.header_core.specs.declared.holds.HeldHeader.{HeldHeader}
use Rattle.oak_core.specs.declared.states.Finding.{Finding}
use Rattle.oak_core.specs.declared.states.PassState.{PassState}
use Rattle.oak_core.specs.Memory.{Memory, index, memory}
use Rattle.oak_core.specs.Finding.{finding, noted}
use Rattle.oak_core.specs.TableState.{TableState}
use Rattle.oak_core.proofs.memory.Words.{memory_read}
use Rattle.value_ops.specs.Claiming.{pin_spot}

-- a word has room for one state more
pub state_fits : (n : ℕ) → n < 2 ^ 64 → state_of n < RETIRED → n + STATE < 2 ^ 64
unfolding state_of
state_fits n lt low = omega arith

module _ (z : Sizes) (call h : ℕ) (inside : h < z.headers) (old : ℕ) (front : Memory → HeldHeader) where
  -- the number n was met
  abbrev pub met_word : ℕ → List ℕ → PassState → Finding
  met_word n words v = finding z call (pin_spot h) (Some n) (either (n == old) (old + STATE) n) words v

  -- where it was the old one, the header came in front
  abbrev pub with_test : Memory → List ℕ → ℕ → PassState → Bool → PassState
  with_test m words n v hit = record (noted (met_word n words v) v) { headers = record v.headers { held = cond hit (front m ∷ v.headers.held) v.headers.held } }

  module _ (s : TableState) (n : ℕ) (v w : PassState) (finds : slice_index s.words (index z (pin_spot h)) ≡ n)
      (after : w ≡ with_test (memory z s.words) s.words (slice_index s.words (index z (pin_spot h))) v ((memory z s.words).headers.pin h == old)) where
    pub word_is : (memory z s.words).headers.pin h ≡ n
    word_is = memory_read z s.words (pin_spot h) inside ∙ finds

    tested : w ≡ with_test (memory z s.words) s.words n v (n == old)
    tested = after ∙ (λ i. with_test (memory z s.words) s.words (finds i) v (word_is i == old))

    pub hit : n ≡ old → w ≡ with_test (memory z s.words) s.words n v true
    hit e = tested ∙ ap (with_test (memory z s.words) s.words n v) (eq-eqb n old e)

    pub missed : n ≢ old → w ≡ noted (met_word n s.words v) v
    missed ne = tested ∙ ap (with_test (memory z s.words) s.words n v) (ne_eqb n old ne)
