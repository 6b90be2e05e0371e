-- What a pass's calls that write nothing leave as it was, and when a pass is the only thread of a run.
use Rattle.std.specs.Prelude.{◌≡◌, []}
use Rattle.oak_model.specs.Counts.{Begins, Each}
use Rattle.oak_core.specs.declared.states.Joined.{Joined}
use Rattle.oak_core.specs.declared.states.PassState.{PassState}
use Rattle.oak_core.specs.KnownPlaces.{Remembers}
use Rattle.oak_core.specs.PassState.{Extends, IsAlone}
use Rattle.oak_run.specs.Shown.{FindsMore}

-- the pass wrote nothing, and lost nothing that it had met, seen, found or learned
pub record OnlyReads (v w : PassState) : Type 0 where
  pub met : Begins v.findings.met w.findings.met
  pub extends : Extends v w
  pub remembers : Remembers v.knowledge w.knowledge
  pub finds : FindsMore v.findings w.findings
  pub numbers : w.numbers ≡ v.numbers
  pub mine : w.knowledge.mine ≡ v.knowledge.mine

-- the pass has the number 1, those that were joined into it wrote nothing, and no other is left
pub record IsOnlyThread (v : PassState) : Type 0 where
  pub number : v.numbers.number ≡ 1
  pub idle : Each (λ (j : Joined). j.mine ≡ []) v.numbers.joined
  pub alone : IsAlone v
