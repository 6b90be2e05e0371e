-- Each load keeps the rule.
use Rattle.std.proofs.Common.{◌≡◌, ℕ, false, map, refl}
use mathlib.Core.Option.{some}
use lib.ListN.{get_elem?}
use Rattle.oak_model.specs.Limits.{Sizes}
use Rattle.oak_core.specs.declared.states.PassState.{PassState}
use Rattle.oak_core.specs.Memory.{Spot, memory, IsInside}
use Rattle.oak_core.specs.PassState.{knowledge_of}
use Rattle.oak_core.specs.Rule.{Rule}
use Rattle.oak_core.specs.Step.{load, table_after}
use Rattle.oak_core.specs.TableState.{TableState}
use Rattle.oak_core.proofs.kinds.KeepsCounts.{count_keeps}
use Rattle.oak_core.proofs.kinds.KeepsLinkLoads.{link_keeps}
use Rattle.oak_core.proofs.kinds.KeepsLoads.{quiet_keeps}
use Rattle.oak_core.proofs.kinds.KeepsStampLoads.{stamp_keeps}
use Rattle.oak_core.proofs.kinds.KeepsValueLoads.{value_keeps}
use Rattle.oak_core.proofs.told.PlainLoads.{plain_or_taught, plain_teaches}

-- one clause for each kind of word
pub load_keeps : (z : Sizes) (s : TableState) (call seat : ℕ) (v : PassState) → Rule z s → get_elem? s.states seat ≡ some v → v.numbers.spent ≡ false → (p : Spot) → IsInside z p → Rule z (table_after z call (load p) seat v s)
load_keeps z s call seat v r here going = plain_or_taught (λ p. IsInside z p → Rule z (table_after z call (load p) seat v s))
    (λ p plain inside. quiet_keeps z s call seat v r here going p inside (plain_teaches call (memory z s.words) (map knowledge_of s.states) v p plain))
    (λ k inside. count_keeps z s call seat v r here going k inside v.rooms.pin refl)
    (λ k from inside. link_keeps z s call seat v r here going k from inside v.rooms.pin refl)
    (λ k i inside. value_keeps z s call seat v r here going k i inside)
    (λ h inside. stamp_keeps z s call seat v r here going h inside)
