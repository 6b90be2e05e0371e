-- Which steps are those of a rebalance, and what a pass keeps of them: as each of them, done or tried in vain, is kept, a call that leaves the list as it was made none.
use Rattle.std.specs.Prelude.{◌≡◌, cond, Bool, true, false, [], ◌∷◌, ◌++◌, length}
use Rattle.chunk_core.specs.RoomStep.{RoomStep, freeze_room, thaw_room, hold_room, claim_room, store_room, open_room, retire_room}
use Rattle.oak_core.specs.declared.states.PassState.{PassState}
use Rattle.oak_core.specs.declared.states.Rebalanced.{Rebalanced}

-- the step is one of a rebalance: it freezes a room, opens it again, holds or claims one, stores to one that is held, or opens or retires it
abbrev pub is_rebalance : RoomStep → Bool
is_rebalance (freeze_room r old) = true
is_rebalance (thaw_room r) = true
is_rebalance (hold_room r old) = true
is_rebalance (claim_room r old) = true
is_rebalance (store_room p x) = true
is_rebalance (open_room r) = true
is_rebalance (retire_room r) = true
is_rebalance _ = false

-- among them those that claim a room
abbrev pub is_claim : RoomStep → Bool
is_claim (claim_room r old) = true
is_claim _ = false

-- those that the pass has made after a step, each by how many findings it had met before it
abbrev pub rebalances_by : RoomStep → PassState → Rebalanced
rebalances_by x v = record {
  steps = cond (is_rebalance x) (v.findings.rebalances.steps ++ length v.findings.met ∷ []) v.findings.rebalances.steps;
  claims = cond (is_claim x) (v.findings.rebalances.claims ++ length v.findings.met ∷ []) v.findings.rebalances.claims;
}

-- from the one state to the other the pass made no step of a rebalance, nor tried one
abbrev pub KeepsRooms : PassState → PassState → Type 0
KeepsRooms v w = w.findings.rebalances ≡ v.findings.rebalances
