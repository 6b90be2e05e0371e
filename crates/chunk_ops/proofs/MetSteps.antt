-- What was met on a pinned room was met in the call.
use Rattle.std.proofs.Common.{ℕ, List, [], ◌∷◌, sym, subst}
use Rattle.oak_model.specs.Limits.{Sizes}
use Rattle.chunk_core.specs.LinkWords.{link_spot}
use Rattle.chunk_core.specs.RoomStep.{claim_entry, link_entry, of_key, of_next, of_value, own_entry}
use Rattle.chunk_core.specs.Rooms.{at_count}
use Rattle.link_search.specs.Met.{Met, met_count, met_link, met_key, tried_count, tried_link, stored_value, stored_link, stored_key, gave_up}
use Rattle.oak_core.specs.declared.states.PassState.{PassState}
use Rattle.oak_core.specs.CallSteps.{MetMore}
use Rattle.oak_core.specs.Memory.{in_rooms}
use Rattle.oak_core.specs.Step.{load, on_rooms}
use Rattle.oak_core.proofs.calls.CallSteps.{met_both, met_none, step_met}
use Rattle.chunk_ops.specs.LinkedTable.{DoesEach, DoesMet}
use Rattle.chunk_ops.specs.Reads as reads
use Rattle.chunk_ops.specs.RoomLoads.{LoadsEach, number_of, spot_of}

words_met : (z : Sizes) (call r : ℕ) (ms : List reads.Met) (v w : PassState) → LoadsEach z call r ms v w → MetMore call v w
words_met z call r [] v w d = subst (MetMore call v) (sym d) (met_none call v)
words_met z call r (m ∷ ms) v w d = met_both call v d.0 w (step_met z call (load (spot_of r m)) v (number_of m) d.0 d.1) (words_met z call r ms d.0 w d.2)

module _ (z : Sizes) (call r base place : ℕ) where
  one_met : (m : Met) (v w : PassState) → DoesMet z call r base place m v w → MetMore call v w
  one_met (met_count n) v w d = step_met z call (load (in_rooms (at_count r))) v n w d
  one_met (met_link from n) v w d = step_met z call (load (in_rooms (link_spot r from))) v n w d
  one_met (met_key i) v w d = words_met z call r d.met v w d.loads
  one_met (tried_count o n) v w d = step_met z call (on_rooms (claim_entry r o)) v n w d
  one_met (tried_link f i o n) v w d = step_met z call (on_rooms (link_entry r f i o)) v n w d
  one_met (stored_value i) v w d = step_met z call (on_rooms (own_entry of_value r i base)) v d.0 w d.1
  one_met (stored_link i x) v w d = step_met z call (on_rooms (own_entry of_next r i x)) v d.0 w d.1
  one_met (stored_key i) v w d = step_met z call (on_rooms (own_entry of_key r i place)) v d.0 w d.1
  one_met (gave_up i) v w d = step_met z call (on_rooms (own_entry of_key r i 0)) v d.0 w d.1

  pub each_met : (ms : List Met) (v w : PassState) → DoesEach z call r base place ms v w → MetMore call v w
  each_met [] v w d = subst (MetMore call v) (sym d) (met_none call v)
  each_met (m ∷ ms) v w d = met_both call v d.0 w (one_met m v d.0 d.1) (each_met ms d.0 w d.2)
