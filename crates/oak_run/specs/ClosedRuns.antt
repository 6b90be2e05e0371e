-- What a closed table shows of the run that it was made for.
use Rattle.oak_core.specs.declared.closing.Closed.{Closed}
use Rattle.oak_core.specs.Closing.{closed_findings, closed_key, closed_state, closed_words}
use Rattle.oak_core.specs.Memory.{memory}
use Rattle.oak_core.specs.PassState.{seen_of}
use Rattle.oak_core.specs.Usage.{usage_of, used_chunks}
use Rattle.oak_model.specs.declared.shapes.Usage.{Usage}
use Rattle.lone_counts.specs.LoneTable.{retired_in}
use Rattle.oak_run.specs.Closing.{Closing}
use Rattle.oak_run.specs.Shown.{closing_by}

-- what is used of it
abbrev pub closed_usage : Closed → Usage
closed_usage c = usage_of (closed_key c) (memory (closed_key c) (closed_words c))

abbrev pub closing_of : Closed → Closing
closing_of c = closing_by (closed_findings c) (λ k. seen_of k (closed_state c).knowledge) (closed_usage c) (closed_key c) (retired_in (closed_key c) (closed_words c)) (used_chunks (closed_key c) (memory (closed_key c) (closed_words c)))
