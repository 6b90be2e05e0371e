-- Parts of a call in turn, and calls that have them.
use Rattle.std.proofs.Common.{◌≡◌, ℕ, suc, ◌+◌, subst, arith}
use Rattle.oak_core.specs.declared.states.PassState.{PassState}
use Rattle.oak_core.specs.CallSteps.{MetMore}
use Rattle.oak_core.proofs.calls.CallSteps.{met_both}
use Rattle.rebalance.specs.Repeating.{Repeats, RepeatsIn}

-- one more
pub repeats_more : (P : PassState → PassState → Type 0) (n : ℕ) (u v w : PassState) → Repeats P u n v → P v w → Repeats P u (n + 1) w
repeats_more P n u v w r p = subst (λ (m : ℕ). Repeats P u m w) (let e : suc n ≡ n + 1 = omega arith in e) (v, r, p)

-- a call from u to t, with a part from v to w that has them
pub repeats_within : (P : PassState → PassState → Type 0) (call n : ℕ) (u v w t : PassState) → MetMore call u v → MetMore call w t → RepeatsIn P call n v w → RepeatsIn P call n u t
repeats_within P call n u v w t before after r = record { from = r.from; to = r.to; begun = met_both call u v r.from before r.begun; parts = r.parts; ended = met_both call r.to w t r.ended after }
