use Rattle.std.proofs.Common.{◌≡◌, ℕ, ◌-◌, List, length}
use Rattle.oak_model.specs.declared.limits.TheConstants.{GREATEST_ENTRIES}
use Rattle.oak_model.specs.Counts.{Each}
use Rattle.oak_model.specs.Key.{IsKeyBefore}
use Rattle.link_search.specs.Linked.{IsAboveFrom, IsCut}
use Rattle.link_search.specs.Ties.{IsPassed, bytes_in_option}
use Rattle.link_search.specs.Walks.{Walks}
use Rattle.link_search.proofs.walking.walk.Given as goal

abbrev pub invariant-loop-tie : goal.invariant-loop-tie
invariant-loop-tie g l = let r = g.R.LinkedRoom.view l.room in record {
  walks : Walks g.R.LinkedRoom.pinned g.R.LinkedRoom.view g.R.LinkedRoom.meets l.fn.from (IsPassed l.tie (bytes_in_option l.bound)) 0 l.fn.room l.room;
  many : length walks.passed ≡ l.passed;
  cut : IsCut r l.before (IsPassed l.tie (bytes_in_option l.bound));
  since : (q : List ℕ) → IsAboveFrom r l.before q → IsAboveFrom r l.fn.from q;
  tops : (q : List ℕ) → IsAboveFrom r l.before q → Each (λ j. IsKeyBefore (r.key j) q) walks.passed;
}

abbrev pub decreases-loop-tie : goal.decreases-loop-tie
decreases-loop-tie g l = GREATEST_ENTRIES - l.passed
