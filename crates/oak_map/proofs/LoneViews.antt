-- A view to a pass that is alone.
use Rattle.std.proofs.Common.{ℕ, ap, ◌∙◌}
use Rattle.pin_word.specs.PinWord.{state_of}
use Rattle.oak_model.specs.Limits.{Sizes}
use Rattle.header_core.specs.Headers.{at_pin}
use Rattle.oak_core.specs.declared.states.PassState.{PassState}
use Rattle.oak_core.specs.Memory.{in_headers}
use Rattle.oak_core.specs.PassState.{HoldsNothing, IsAlone}
use Rattle.oak_core.proofs.memory.Words.{memory_read}
use Rattle.value_ops.specs.declared.views.NoRead.TheVariants.{Busy}
use Rattle.value_ops.specs.Views.{NotRead, Viewed}
use Rattle.lone_counts.proofs.TableCounts.{none_locked}

-- No header is locked, so it can always be pinned or is gone.
pub never_busy : (z : Sizes) (call : ℕ) (x : Viewed) (v w : PassState) → IsAlone v → HoldsNothing v → NotRead z call x Busy v w → ⊥
never_busy z call x v w alone idle n = let t = n.dud.told in
    none_locked z t.table.words v (record { moment = record { states = t.table.states; rule = t.rule; seat = t.seat; here = t.here }; alone = alone; idle = idle }) x.header
    (ap state_of (memory_read z t.table.words (in_headers (at_pin x.header)) t.may.0.inside ∙ t.finds) ∙ n.reason.1)
