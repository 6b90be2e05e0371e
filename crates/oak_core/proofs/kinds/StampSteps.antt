-- What any load of a header's stamp word leaves of what its pass knows.
use Rattle.std.proofs.Common.{◌≡◌, ℕ, map, ap}
use Rattle.oak_model.specs.Limits.{Sizes}
use Rattle.header_core.specs.Headers.{at_stamp}
use Rattle.oak_core.specs.declared.states.PassState.{PassState}
use Rattle.oak_core.specs.CallSteps.{Learns}
use Rattle.oak_core.specs.Learning.{taught_where}
use Rattle.oak_core.specs.Memory.{in_headers, memory}
use Rattle.oak_core.specs.PassState.{knowledge_of}
use Rattle.oak_core.specs.StampLoads.{counts_stamp, shows_stamp, stamp_taught}
use Rattle.oak_core.specs.Step.{load, Told}
use Rattle.oak_core.proofs.lessons.TaughtSteps.{load_learns}

-- whatever the pass has pinned, and whichever lives it knows
module _ (z : Sizes) (call h : ℕ) (v : PassState) (n : ℕ) (w : PassState) (t : Told z call (load (in_headers (at_stamp h))) v n w) where
  pub stamp_knows : w.knowledge ≡ taught_where (shows_stamp h v.headers.pin v.knowledge) (stamp_taught h ((memory z t.table.words).headers.stamp h) v.headers.pin v.knowledge) (map knowledge_of t.table.states) v.knowledge
  stamp_knows = ap (λ (x : PassState). x.knowledge) t.after

  pub stamp_learns : Learns call v w
  stamp_learns = load_learns z call (in_headers (at_stamp h)) v n w t (shows_stamp h v.headers.pin v.knowledge) (stamp_taught h ((memory z t.table.words).headers.stamp h) v.headers.pin v.knowledge) stamp_knows (counts_stamp call h v.headers.pin v.knowledge) (ap (λ (x : PassState). x.findings.sights) t.after)
