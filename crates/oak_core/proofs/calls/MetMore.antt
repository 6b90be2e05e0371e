-- States that only met more, and the same step of the same state in the same call.
use Rattle.std.proofs.Common.{◌≡◌, ℕ, ◌+◌, List, [], ◌++◌, length, length-append, sym, ap, ◌∙◌, subst, append_assoc, append-nil}
use mathlib.Core.Option.{some}
use Rattle.oak_model.specs.Limits.{Sizes}
use Rattle.oak_core.specs.declared.states.Finding.{Finding}
use Rattle.oak_core.specs.declared.states.PassState.{PassState}
use Rattle.oak_core.specs.Finding.{grown}
use Rattle.oak_core.specs.Step.{Step, May, state_after, Told}

pub grown_twice : (v : PassState) (first second : List Finding) → grown second (grown first v) ≡ grown (first ++ second) v
grown_twice v first second = ap (λ (l : List Finding). record v { findings = record v.findings { met = l } }) (append_assoc v.findings.met first second)

pub grown_none : (v : PassState) → v ≡ grown [] v
grown_none v = ap (λ (l : List Finding). record v { findings = record v.findings { met = l } }) (sym (append-nil v.findings.met))

module _ (v w : PassState) (more : List Finding) (after : w ≡ grown more v) where
  pub grown_met : w.findings.met ≡ v.findings.met ++ more
  grown_met = ap (λ (y : PassState). y.findings.met) after

  pub grown_length : length w.findings.met ≡ length v.findings.met + length more
  grown_length = ap (λ (l : List Finding). length l) grown_met ∙ length-append v.findings.met more

abbrev pub told_of : (z : Sizes) (call : ℕ) (x : Step) (v v' : PassState) → v ≡ v' → (n : ℕ) (w : PassState) → Told z call x v n w → Told z call x v' n w
told_of z call x v v' same n w t = record {
  table = t.table;
  seat = t.seat;
  rule = t.rule;
  here = t.here ∙ ap some same;
  going = ap (λ (y : PassState). y.numbers.spent) (sym same) ∙ t.going;
  may = subst (May z call x) same t.may;
  finds = t.finds;
  after = t.after ∙ ap (state_after z call x t.table) same;
}

pub told_in : (z : Sizes) (first now : ℕ) (x : Step) (v : PassState) (n : ℕ) (w : PassState) → now ≡ first → Told z now x v n w → Told z first x v n w
told_in z first now x v n w e t = subst (λ (k : ℕ). Told z k x v n w) e t
