-- The words of the entry that a pass has claimed are those that it keeps.
use Rattle.std.proofs.Common.{◌≡◌, ℕ, ◌++◌, map, subst, Option, Some}
use mathlib.Core.Option.{some}
use lib.ListN.{get_elem?}
use Rattle.oak_model.specs.Kept.{AreTrueTo}
use Rattle.oak_model.specs.Limits.{Sizes}
use Rattle.oak_model.proofs.Lists.{at_map}
use Rattle.chunk_core.specs.declared.holds.Claim.{Claim}
use Rattle.chunk_core.specs.declared.holds.RoomHolds.{RoomHolds}
use Rattle.chunk_core.specs.KeptRooms.{kept_of_claim, kept_of_rooms, kept_of_rooms_held}
use Rattle.chunk_core.specs.Rooms.{read_room}
use Rattle.oak_core.specs.Memory.{memory}
use Rattle.oak_core.specs.PassState.{rooms_held}
use Rattle.oak_core.specs.Rule.{Rule}
use Rattle.oak_core.specs.TableState.{TableState}

module _ (z : Sizes) (s : TableState) (r : Rule z s) (j : ℕ) (u : RoomHolds) (c : Claim) (at : get_elem? (map rooms_held s.states) j ≡ some u) (is : u.claim ≡ Some c) where
  kept_words : AreTrueTo (read_room (memory z s.words).rooms) (kept_of_claim (Some c) ++ kept_of_rooms_held u.held)
  kept_words = subst (λ (o : Option Claim). AreTrueTo (read_room (memory z s.words).rooms) (kept_of_claim o ++ kept_of_rooms_held u.held)) is (r.kept_in_rooms.true_to j (kept_of_rooms u) (at_map kept_of_rooms (map rooms_held s.states) j u at))

  pub claimed_key : (memory z s.words).rooms.key c.room c.number ≡ c.entry.word
  claimed_key = kept_words.0

  pub claimed_value : (memory z s.words).rooms.value c.room c.number ≡ c.entry.value
  claimed_value = kept_words.1.0

  pub claimed_next : (memory z s.words).rooms.next c.room c.number ≡ c.entry.next
  claimed_next = kept_words.1.1.0
