-- Steps of a pass that is alone, with the moment before each of them.
use Rattle.std.proofs.Common.{◌≡◌, ℕ, ◌+◌, ◌%◌, ◌^◌, ◌<◌, ◌≤◌, List, get_or, set, sym, refl, ap, ◌∙◌, subst, inr, arith}
use lib.Seq.{set-get_or}
use Rattle.pin_word.specs.PinWord.{state_of}
use Rattle.oak_model.specs.Limits.{Sizes}
use Rattle.header_core.specs.declared.states.TheConstants.{RETIRED}
use Rattle.header_core.specs.HeaderStep.{pin_header}
use Rattle.oak_core.specs.declared.states.PassState.{PassState}
use Rattle.oak_core.specs.AloneWords.{Moment, Runs}
use Rattle.oak_core.specs.HeaderCalls.{Pins}
use Rattle.oak_core.specs.Memory.{Spot, IsInside, index, memory, read}
use Rattle.oak_core.specs.PassState.{IsAlone}
use Rattle.oak_core.specs.Splitting.{Loads}
use Rattle.oak_core.specs.Step.{Step, load, on_headers, spot, effect, Told}
use Rattle.oak_core.proofs.seats.AloneRuns.{DoesStep, Keeps, moment_before, runs_as, step_runs, step_starts}
use Rattle.oak_core.proofs.memory.Words.{index_apart, memory_read}
use Rattle.value_ops.specs.Claiming.{ChangesPin, pin_spot}
use Rattle.value_ops.proofs.StepLeft.{pin_found, small}

-- the pass was alone in the state v, at a moment at which the rule held, and the step found the number n and left what becomes of it
abbrev pub StepsAlone : Sizes → Step → PassState → ℕ → (before after : List ℕ) → Type 0
StepsAlone z x v n before after = Moment z before v × IsAlone v × DoesStep z x n before after

pub step_moment : (z : Sizes) (call : ℕ) (x : Step) (v : PassState) (n : ℕ) (w : PassState) → Keeps x → Told z call x v n w → Runs (StepsAlone z x v n) v w
step_moment z call x v n w k t = record {
  goes = λ before l. let r = (step_runs z call x v n w k t).goes before l in record {
    after = r.after;
    leaves = r.leaves;
    does = (moment_before z call x v n w before l t, (t.rule.alone t.seat v t.here l.met l.finding l.last l.alone).1, r.does);
  };
  starts = λ alone. inr (
    t.table.words,
    record {
      after = set t.table.words (index z (spot x)) (effect x (get_or t.table.words (index z (spot x)) 0));
      leaves = step_starts z call x v n w k alone t;
      does = (record { states = t.table.states; rule = t.rule; seat = t.seat; here = t.here }, alone, (sym t.finds, refl));
    },
  );
}

-- so a load finds what stands at its spot, in words that stay
abbrev pub LoadsAlone : Sizes → Spot → PassState → ℕ → (before after : List ℕ) → Type 0
LoadsAlone z p v n before after = Moment z before v × IsAlone v × (n ≡ read (memory z before) p) × (after ≡ before)

pub load_moment : (z : Sizes) (call word n : ℕ) (v w : PassState) (p : Spot) → IsInside z p → word ≡ index z p → Loads z call word v n w → Runs (LoadsAlone z p v n) v w
load_moment z call word n v w p inside at l = let same = index_apart z l.spot p l.inside inside (l.at ∙ at) in
    runs_as (StepsAlone z (load l.spot) v n) (LoadsAlone z p v n) v w
    (λ a b d. (
      d.0,
      d.1,
      d.2.0 ∙ (ap (λ (q : Spot). get_or a (index z q) 0) same ∙ sym (memory_read z a p inside)),
      d.2.1 ∙ set-get_or a (index z l.spot) 0,
    ))
    (step_moment z call (load l.spot) v n w tt l.told)

-- and a pin of a header adds one to its pin word, which it found
abbrev pub PinsAlone : Sizes → ℕ → PassState → ℕ → (before after : List ℕ) → Type 0
PinsAlone z h v n before after = Moment z before v × IsAlone v × ChangesPin z h (λ k. k ≡ n) (λ k. k + 1) before after

more_fits : (n : ℕ) → n < 2 ^ 64 → state_of n ≤ RETIRED → (n + 1) % 2 ^ 64 ≡ n + 1
unfolding state_of
more_fits n lt low = omega arith

pub pin_moment : (z : Sizes) (call h g n : ℕ) (v w : PassState) → Pins z call h g v n w → Runs (PinsAlone z h v n) v w
pin_moment z call h g n v w t = runs_as (StepsAlone z (on_headers (pin_header h g)) v n) (PinsAlone z h v n) v w
    (λ a b d. let e = found_in a d.2.0 in (d.0, d.1, (e, d.2.1 ∙ ap (set a (index z (pin_spot h))) (ap (λ (k : ℕ). (k + 1) % 2 ^ 64) (sym d.2.0) ∙ (fits ∙ ap (λ (k : ℕ). k + 1) (sym e))))))
    (step_moment z call (on_headers (pin_header h g)) v n w tt t)
  where
    fits : (n + 1) % 2 ^ 64 ≡ n + 1
    fits = more_fits n (small z call (pin_header h g) h refl v n w t) (subst (λ (k : ℕ). state_of k ≤ RETIRED) (pin_found z call (pin_header h g) h refl v n w t) (t.rule.headers.six h))

    found_in : (a : List ℕ) → n ≡ get_or a (index z (pin_spot h)) 0 → (memory z a).headers.pin h ≡ n
    found_in a e = memory_read z a (pin_spot h) t.may.0.inside ∙ sym e
