-- The steps of a call that adds an entry leave a word as it was found: loads each word, and steps elsewhere a link.
use Rattle.std.proofs.Common.{◌≢◌, ℕ, List, [], ◌∷◌, sym, refl, ap, Option}
use Rattle.oak_model.specs.Counts.{Each}
use Rattle.oak_model.specs.Limits.{Sizes}
use Rattle.chunk_core.specs.LinkWords.{link_spot}
use Rattle.chunk_core.specs.RoomStep.{RoomStep, claim_entry, link_entry, of_key, of_next, of_value, own_entry, room_spot}
use Rattle.chunk_core.specs.Rooms.{RoomSpot, IsInRooms, at_count, at_key, at_next, at_value}
use Rattle.link_search.specs.Met.{Met, met_count, met_link, met_key, tried_count, tried_link, stored_value, stored_link, stored_key, gave_up, IsLoad, LeavesLink}
use Rattle.oak_core.specs.declared.states.PassState.{PassState}
use Rattle.oak_core.specs.Memory.{Spot, in_rooms, index}
use Rattle.oak_core.specs.QuietSteps.{MetOnly}
use Rattle.oak_core.specs.Step.{load, on_rooms, Told}
use Rattle.oak_core.proofs.calls.QuietCalls.{only_both, only_none}
use Rattle.chunk_ops.specs.Adds.{LeavesWord}
use Rattle.chunk_ops.specs.LinkedTable.{DoesEach, DoesMet}
use Rattle.chunk_ops.specs.OwnLinks.{count_apart, key_apart, link_same, next_same, other, value_apart}
use Rattle.chunk_ops.specs.Reads as reads
use Rattle.chunk_ops.specs.RoomLoads.{LoadsEach, number_of, spot_of}

-- a load leaves each word, and a step at another word this one

load_left : (z : Sizes) (call : ℕ) (p : Spot) (v : PassState) (n : ℕ) (w : PassState) → Told z call (load p) v n w → (q : RoomSpot) → MetOnly (LeavesWord z q) v w
load_left z call p v n w t q = record { more = _ ∷ []; met = ap (λ (y : PassState). y.findings.met) t.after; each = (λ _. refl, tt) }

step_left : (z : Sizes) (call : ℕ) (x : RoomStep) (v : PassState) (n : ℕ) (w : PassState) → Told z call (on_rooms x) v n w → (q : RoomSpot) → index z (in_rooms q) ≢ index z (in_rooms (room_spot x)) → MetOnly (LeavesWord z q) v w
step_left z call x v n w t q ne = record { more = _ ∷ []; met = ap (λ (y : PassState). y.findings.met) t.after; each = (λ e. absurd (ne (sym e)), tt) }

module _ (z : Sizes) (call r base place : ℕ) where
  reads_left : (ms : List reads.Met) (v w : PassState) → LoadsEach z call r ms v w → (q : RoomSpot) → MetOnly (LeavesWord z q) v w
  reads_left [] v w e q = only_none (LeavesWord z q) v w (ap (λ (y : PassState). y.findings.met) e)
  reads_left (m ∷ ms) v w d q = only_both (LeavesWord z q) v d.0 w (load_left z call (spot_of r m) v (number_of m) d.0 d.1 q) (reads_left ms d.0 w d.2 q)

  loaded_left : (m : Met) (v w : PassState) → IsLoad m → DoesMet z call r base place m v w → (q : RoomSpot) → MetOnly (LeavesWord z q) v w
  loaded_left (met_count n) v w l d q = load_left z call (in_rooms (at_count r)) v n w d q
  loaded_left (met_link f n) v w l d q = load_left z call (in_rooms (link_spot r f)) v n w d q
  loaded_left (met_key i) v w l d q = reads_left d.met v w d.loads q
  loaded_left (tried_count o n) v w l d q = absurd l
  loaded_left (tried_link f i o n) v w l d q = absurd l
  loaded_left (stored_value i) v w l d q = absurd l
  loaded_left (stored_link i x) v w l d q = absurd l
  loaded_left (stored_key i) v w l d q = absurd l
  loaded_left (gave_up i) v w l d q = absurd l

  pub loads_left : (ms : List Met) (v w : PassState) → Each IsLoad ms → DoesEach z call r base place ms v w → (q : RoomSpot) → MetOnly (LeavesWord z q) v w
  loads_left [] v w l e q = only_none (LeavesWord z q) v w (ap (λ (y : PassState). y.findings.met) e)
  loads_left (m ∷ ms) v w l d q = only_both (LeavesWord z q) v d.0 w (loaded_left m v d.0 l.0 d.1 q) (loads_left ms d.0 w l.1 d.2 q)

  -- a link, by steps that change no link but others
  module _ (from : Option ℕ) (inside : IsInRooms z (link_spot r from)) where
    abbrev at : RoomSpot
    at = link_spot r from

    link_left : (m : Met) (v w : PassState) → LeavesLink from m → DoesMet z call r base place m v w → MetOnly (LeavesWord z at) v w
    link_left (met_count n) v w k d = loaded_left (met_count n) v w tt d at
    link_left (met_link f n) v w k d = loaded_left (met_link f n) v w tt d at
    link_left (met_key i) v w k d = loaded_left (met_key i) v w tt d at
    link_left (tried_count o n) v w k d = step_left z call (claim_entry r o) v n w d at (other z r from inside (at_count r) d.may.inside (count_apart r from))
    link_left (tried_link f i o n) v w k d = step_left z call (link_entry r f i o) v n w d at (other z r from inside (link_spot r f) d.may.inside (λ e. k (link_same r from f e)))
    link_left (stored_value i) v w k d = step_left z call (own_entry of_value r i base) v d.0 w d.1 at (other z r from inside (at_value r i) d.1.may.inside (value_apart r i from))
    link_left (stored_link i x) v w k d = step_left z call (own_entry of_next r i x) v d.0 w d.1 at (other z r from inside (at_next r i) d.1.may.inside (λ e. k (next_same r i from e)))
    link_left (stored_key i) v w k d = step_left z call (own_entry of_key r i place) v d.0 w d.1 at (other z r from inside (at_key r i) d.1.may.inside (key_apart r i from))
    link_left (gave_up i) v w k d = step_left z call (own_entry of_key r i 0) v d.0 w d.1 at (other z r from inside (at_key r i) d.1.may.inside (key_apart r i from))

    pub links_left : (ms : List Met) (v w : PassState) → Each (LeavesLink from) ms → DoesEach z call r base place ms v w → MetOnly (LeavesWord z (link_spot r from)) v w
    links_left [] v w k e = only_none (LeavesWord z at) v w (ap (λ (y : PassState). y.findings.met) e)
    links_left (m ∷ ms) v w k d = only_both (LeavesWord z at) v d.0 w (link_left m v d.0 k.0 d.1) (links_left ms d.0 w k.1 d.2)
