-- Tries in turn, each of which was refused, add up to a call that gives up; to a pass that is alone it never comes.
use Rattle.std.proofs.Common.{◌≡◌, ◌⊎◌, ℕ, ◌+◌, ◌<◌, ◌≤◌, List, refl, subst, arith}
use Rattle.oak_model.specs.declared.cells.CellCall.{CellCall}
use Rattle.oak_model.specs.Limits.{Sizes}
use Rattle.oak_core.specs.declared.states.PassState.{PassState}
use Rattle.oak_core.specs.AloneWords.{Runs}
use Rattle.chunk_ops.specs.AddsAlone.{Never}
use Rattle.point_ops.specs.declared.halts.Halt.{Halt}
use Rattle.point_ops.specs.declared.halts.Halt.TheVariants.{Busy, Moved}
use Rattle.point_ops.specs.Halting.{Halts}
use Rattle.point_ops.specs.Replies.{Refuses}
use Rattle.rebalance.specs.Repeating.{Repeats}
use Rattle.rebalance.proofs.Repeated.{repeats_more}
use Rattle.oak_map.specs.GivingUp.{IsHalted, TriesInVain}
use Rattle.oak_map.proofs.FoundValues.{refuses_none}
use Rattle.oak_map.proofs.LoneRetries.{Waits, runs_since, waits_again}
use Rattle.oak_map.proofs.RepliesSince.{refuses_both}

-- from u to v the call made so many tries
pub record Tried (P : PassState → PassState → Type 0) (call n : ℕ) (u v : PassState) : Type 0 where
  pub tries : Repeats P u n v
  pub refused : Refuses call u v
  pub waits : Waits u v
  pub never : 0 < n → Runs Never u v

pub tried_first : (P : PassState → PassState → Type 0) (call : ℕ) (u : PassState) → Tried P call 0 u u
tried_first P call u = record { tries = refl; refused = refuses_none call u; waits = λ _. refl; never = λ l. absurd (omega arith) }

pub tried_more : (P : PassState → PassState → Type 0) (call n : ℕ) (u v w : PassState) → Tried P call n u v → P v w → Refuses call v w → Runs Never v w → Tried P call (n + 1) u w
tried_more P call n u v w t p r never = record {
  tries = repeats_more P n u v w t.tries p;
  refused = refuses_both call u v w t.refused r;
  waits = waits_again u v w t.waits never;
  never = λ _. runs_since Never u v w t.waits never;
}

-- the call made all of its tries
pub tried_all : (P : PassState → PassState → Type 0) (call n looks : ℕ) (u w : PassState) → 0 < looks → n ≤ looks → looks ≤ n → Tried P call n u w → TriesInVain P call looks u w
tried_all P call n looks u w some few done t = let all : n ≡ looks = omega arith in subst (λ (k : ℕ). TriesInVain P call k u w) all record { tries = t.tries; refused = t.refused; alone = t.never (omega arith) }

-- a try of a call is one of the same call, which asks the same
pub halted_as : (z : Sizes) (now call : ℕ) (key : List ℕ) (told ask : CellCall) (why : Halt) (v w : PassState) → now ≡ call → told ≡ ask → Halts why z now key told v w → (why ≡ Busy) ⊎ (why ≡ Moved) → Refuses now v w → IsHalted z call key ask v w
halted_as z now call key told ask why v w e f h o r = subst (λ (i : ℕ × CellCall). IsHalted z i.0 key i.1 v w) (λ j. (e j, f j)) record { why = why; halts = h; either = o; refused = r }
