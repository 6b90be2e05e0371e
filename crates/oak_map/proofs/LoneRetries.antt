-- A pass that is alone is refused never: where it tries again, it was not alone.
use Rattle.std.proofs.Common.{◌≡◌, ℕ, List, [], ◌⊎◌, inl, inr, sym, subst}
use Rattle.oak_core.specs.declared.states.PassState.{PassState}
use Rattle.oak_core.specs.AloneWords.{LeavesWords, Runs, RunsTo}
use Rattle.oak_core.specs.PassState.{IsAlone}
use Rattle.chunk_ops.specs.AddsAlone.{Never}

-- the pass is alone, or was so at its last step
abbrev pub IsLone : PassState → Type 0
IsLone v = IsAlone v ⊎ ((words : List ℕ) × LeavesWords words v)

-- from u to v the call was only refused, so a pass that is alone made no step
abbrev pub Waits : PassState → PassState → Type 0
Waits u v = IsLone u → v ≡ u

pub never_refused : (v w : PassState) → Runs Never v w → IsLone v → ⊥
never_refused v w r (inl alone) = by (r.starts alone)
  where
    by : ((v ≡ w) × ((words : List ℕ) → Never words words)) ⊎ ((before : List ℕ) × RunsTo Never before w) → ⊥
    by (inl s) = s.1 []
    by (inr s) = s.1.does
never_refused v w r (inr l) = (r.goes l.0 l.1).does

pub waits_again : (u v w : PassState) → Waits u v → Runs Never v w → Waits u w
waits_again u v w e r lone = absurd (never_refused v w r (subst IsLone (sym (e lone)) lone))

-- what a pass that is alone does on the last try it does from the call's begin on

pub lone_since : (P : PassState → Type 0) (u v : PassState) → Waits u v → (IsAlone v → P v) → IsAlone u → P u
lone_since P u v e f alone = subst P (e (inl alone)) (f (subst IsAlone (sym (e (inl alone))) alone))

pub runs_since : (P : List ℕ → List ℕ → Type 0) (u v w : PassState) → Waits u v → Runs P v w → Runs P u w
runs_since P u v w e r = record {
  goes = λ before l. r.goes before (subst (LeavesWords before) (sym (e (inr (before, l)))) l);
  starts = lone_since (λ (x : PassState). ((x ≡ w) × ((words : List ℕ) → P words words)) ⊎ ((before : List ℕ) × RunsTo P before w)) u v e r.starts;
}
