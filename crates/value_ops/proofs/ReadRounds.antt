-- A value is read: the header is pinned, its value read, and the pin undone. The pass only learns, and holds what it held.
use Rattle.std.proofs.Common.{◌≡◌, ℕ, ap, ◌∙◌, None}
use Rattle.oak_model.specs.Limits.{Sizes}
use Rattle.header_core.specs.declared.holds.HeaderHolds.{HeaderHolds}
use Rattle.oak_core.specs.declared.states.PassState.{PassState}
use Rattle.value_ops.specs.Pinning.{with_pin, MeetsMore, OnlyLearns, PinsLive}
use Rattle.value_ops.specs.PinnedValues.{OnlyLoads}
use Rattle.value_ops.proofs.LearnFacts.{learned_both, learned_met, learned_only, learned_pin, only_learned}
use Rattle.value_ops.proofs.PinFacts.{loads_meet, unpinned_is}

pub read_round : (z : Sizes) (call h g : ℕ) (v w q x u : PassState) → v.headers.pin ≡ None → PinsLive z call h g v w → OnlyLearns z call w q → OnlyLoads z call q x → MeetsMore z call (with_pin None x) u → OnlyLearns z call v u
read_round z call h g v w q x u none pins reading loads undone = only_learned z call v u
    (learned_both z call v w u (learned_pin z call h g pins.number v w pins.told) (learned_both z call w q u (learned_only z call w q reading)
    (learned_both z call q x u (learned_met z call q x q.headers.pin (loads_meet z call q x loads)) (learned_met z call x u None undone))))
    (ap (λ (y : PassState). y.headers) undone.after ∙ (ap (λ (a : HeaderHolds). record a { pin = None }) (ap (λ (y : PassState). y.headers) loads.loads.after ∙ (reading.headers ∙ ap (λ (y : PassState). y.headers) pins.after))
    ∙ ap (λ (y : PassState). y.headers) (unpinned_is v none)))
