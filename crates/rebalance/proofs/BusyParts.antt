-- What a part of a call found busy, as found in the call.
use Rattle.std.proofs.Common.{ℕ, ◌⊎◌, inl, inr, ⊎_elim, List}
use Rattle.oak_model.specs.Limits.{Sizes}
use Rattle.chunk_core.specs.Rooms.{at_room_pin}
use Rattle.chunk_core.specs.RoomStep.{hold_room}
use Rattle.oak_core.specs.declared.states.PassState.{PassState}
use Rattle.oak_core.specs.CallSteps.{MetMore}
use Rattle.oak_core.specs.Memory.{in_rooms}
use Rattle.oak_core.specs.Step.{load, on_rooms}
use Rattle.oak_core.proofs.calls.CallSteps.{step_in}
use Rattle.chunk_ops.specs.AskedRanges.{CoversKey}
use Rattle.chunk_ops.specs.RoomPins.{FoundMoved}
use Rattle.chunk_ops.proofs.FoundRooms.{moved_within}
use Rattle.rebalance.specs.Busy.{HoldsOff, IsBusyFor}
use Rattle.rebalance.specs.Holding.{FindsChanged, FindsFrozen, FindsPinned, IsBusy}
use Rattle.rebalance.specs.Repeating.{RepeatsIn}
use Rattle.rebalance.proofs.Repeated.{repeats_within}

-- ---- what was busy

-- The part is from v to t, the call from u to s.
module _ (z : Sizes) (call looks : ℕ) (u v t s : PassState) (before : MetMore call u v) (after : MetMore call t s) where
  -- a room
  pub room_busy : (r : ℕ) → IsBusy z call looks r v t → IsBusy z call looks r u s
  room_busy r = ⊎_elim
      (λ (b : FindsFrozen z call r v t). inl record { step = step_in z call (load (in_rooms (at_room_pin r))) u v t s before after b.step; frozen = b.frozen })
      (⊎_elim
      (λ (b : RepeatsIn (FindsChanged z call r) call looks v t). inr (inl (repeats_within (FindsChanged z call r) call looks u v t s before after b)))
      (λ (b : RepeatsIn (FindsPinned z call r) call looks v t). inr (inr (repeats_within (FindsPinned z call r) call looks u v t s before after b))))

  -- one that came to be held without the key
  off_busy : (key : List ℕ) (r : ℕ) → HoldsOff z call key r v t → HoldsOff z call key r u s
  off_busy key r o = let c = o.came in record { copy = o.copy; came = record { old = c.old; step = step_in z call (on_rooms (hold_room r c.old)) u v t s before after c.step; found_is = c.found_is; copy_is = c.copy_is; linked = c.linked }; off = o.off }

  -- each, as none had the key
  moved_busy : (key : List ℕ) → FoundMoved z call (CoversKey key) v t → FoundMoved z call (CoversKey key) u s
  moved_busy key = moved_within z call (CoversKey key) u v t s before after

  -- so a chunk
  pub chunk_busy : (key : List ℕ) → IsBusyFor z call looks key v t → IsBusyFor z call looks key u s
  chunk_busy key = ⊎_elim (λ (f : FoundMoved z call (CoversKey key) v t). inl (moved_busy key f))
      (λ (h : (r : ℕ) × (IsBusy z call looks r v t ⊎ HoldsOff z call key r v t)). inr (h.0, ⊎_elim (λ (b : IsBusy z call looks h.0 v t). inl (room_busy h.0 b)) (λ (o : HoldsOff z call key h.0 v t). inr (off_busy key h.0 o)) h.1))
