-- What a scan does to the words of the table where its pass is alone: nothing, but for the pin of the present value.
use Rattle.std.specs.Prelude.{ℕ, List, Option, Some, None}
use Rattle.oak_model.specs.Limits.{Sizes}
use Rattle.oak_core.proofs.seats.AloneRuns.{Then}
use Rattle.chunk_ops.specs.PinRecords.{WordsStay}
use Rattle.value_ops.specs.declared.pinned_value.PinnedValue.{PinnedValue}
use Rattle.value_ops.specs.Pinning.{AddsPin, DropsPin}
use Rattle.scan_cursor.specs.declared.walking.Stepped.{Stepped}
use Rattle.scan_cursor.specs.declared.walking.Stepped.TheVariants.{Given, Ended, Passed, Again}

-- the value's header was live, and its word counts one pin more
abbrev pub AddsPinOf : Sizes → PinnedValue → List ℕ → List ℕ → Type 0
AddsPinOf z x before after = (g : ℕ) × AddsPin z x.header g before after

-- by the value that was pinned before, and the one that is pinned then: the pin of the one is undone, and behind that the other is pinned
abbrev pub LeavesValue : Sizes → Option PinnedValue → Option PinnedValue → List ℕ → List ℕ → Type 0
LeavesValue z None None = WordsStay
LeavesValue z None (Some y) = AddsPinOf z y
LeavesValue z (Some x) None = DropsPin z x.header
LeavesValue z (Some x) (Some y) = Then (DropsPin z x.header) (AddsPinOf z y)

-- the value that a step of a scan pinned, if it gave a pair
abbrev pub given_by : Stepped → Option PinnedValue
given_by (Given x) = Some x
given_by Ended = None
given_by Passed = None
given_by Again = None
