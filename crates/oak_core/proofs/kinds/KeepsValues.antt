-- A pass that sets its fresh header as the value of an entry, or unlinks the one that it buries, keeps the rule.
use Rattle.std.proofs.Common.{◌≡◌, ℕ, ◌==◌, false, subst}
use prog.Atomic.{either}
use mathlib.Core.Option.{some}
use lib.ListN.{get_elem?}
use Rattle.oak_model.specs.Limits.{Sizes}
use Rattle.oak_model.specs.declared.writes.Kind.{Kind}
use Rattle.chunk_core.specs.RoomStep.{set_value, unlink_entry}
use Rattle.chunk_core.specs.Rooms.{at_value}
use Rattle.oak_core.specs.declared.states.PassState.{PassState}
use Rattle.oak_core.specs.Memory.{in_rooms, memory}
use Rattle.oak_core.specs.Rule.{Rule}
use Rattle.oak_core.specs.Step.{MaySetValue, MayUnlinkEntry, on_rooms, state_after, table_after}
use Rattle.oak_core.specs.TableState.{TableState}
use Rattle.oak_core.proofs.told.SetOwed.{set_owed}
use Rattle.oak_core.proofs.told.UnlinkOwed.{unlink_owed}
use Rattle.oak_core.proofs.kinds.ValueSteps.{Behind, behind_rule, value_behind}
use Rattle.oak_core.proofs.memory.Words.{memory_read}

module _ (z : Sizes) (s : TableState) (seat : ℕ) (v : PassState) (r : Rule z s) (here : get_elem? s.states seat ≡ some v) (call : ℕ) (going : v.numbers.spent ≡ false) where
  pub set_keeps : (k i old new : ℕ) (kind : Kind) → MaySetValue z call k i old new kind v → Rule z (table_after z call (on_rooms (set_value k i old new kind)) seat v s)
  set_keeps k i old new kind may = let n : ℕ = (memory z s.words).rooms.value k i in
      behind_rule z s seat v r here call going (set_value k i old new kind) may.inside
      (subst (λ (t : ℕ). Behind z s seat v r here (at_value k i) (either (t == old) new t) (state_after z call (on_rooms (set_value k i old new kind)) s v)) (memory_read z s.words (in_rooms (at_value k i)) may.inside)
      (value_behind z s seat v r here call going k i may.set.pinned may.set.entry may.set.finds (either (n == old) new n) (state_after z call (on_rooms (set_value k i old new kind)) s v) (set_owed z s seat v r here call going k i old new kind may)))

  pub unlink_keeps : (k i x : ℕ) → MayUnlinkEntry z k i x v → Rule z (table_after z call (on_rooms (unlink_entry k i x)) seat v s)
  unlink_keeps k i x may = behind_rule z s seat v r here call going (unlink_entry k i x) may.inside
      (value_behind z s seat v r here call going k i may.unlink.pinned may.unlink.entry may.unlink.finds x (state_after z call (on_rooms (unlink_entry k i x)) s v) (unlink_owed z s seat v r here call k i x may))
