-- What steps on the rooms were: none took a block, and those that left their word are quiet.
use Rattle.std.proofs.Common.{◌≡◌, ℕ, [], ◌∷◌, refl, ap, inl, Some}
use Rattle.oak_model.specs.Limits.{Sizes}
use Rattle.chunk_core.specs.RoomStep.{RoomStep, room_effect, room_found}
use Rattle.oak_core.specs.declared.states.PassState.{PassState}
use Rattle.oak_core.specs.QuietSteps.{MetOnly, Quiet, TookNone}
use Rattle.oak_core.specs.Step.{on_rooms, Told}

module _ (z : Sizes) (call : ℕ) (x : RoomStep) (v : PassState) (n : ℕ) (w : PassState) (t : Told z call (on_rooms x) v n w) where
  pub took_none : MetOnly TookNone v w
  took_none = record { more = _ ∷ []; met = ap (λ (y : PassState). y.findings.met) t.after; each = (refl, tt) }

  -- where the number that it found stays
  pub left_quiet : ((i : ℕ) → i ≡ n → room_found x i ≡ Some (room_effect x i)) → Quiet v w
  left_quiet stays = record { more = _ ∷ []; met = ap (λ (y : PassState). y.findings.met) t.after; each = ((refl, inl (stays _ t.finds)), tt) }
