-- What the steps leave by which a pass claims an entry, stores its words, and links it.
use Rattle.std.proofs.Common.{◌≡◌, ◌≢◌, ℕ, ◌==◌, Bool, cond, refl, ap, ◌∙◌, eq-eqb, ne_eqb, Option, Some, None}
use Rattle.oak_model.specs.Limits.{Sizes}
use Rattle.arena_core.specs.Place.{content}
use Rattle.chunk_core.specs.declared.holds.Claim.{Claim}
use Rattle.chunk_core.specs.declared.holds.PinnedRoom.{PinnedRoom}
use Rattle.chunk_core.specs.declared.holds.RoomHolds.{RoomHolds}
use Rattle.chunk_core.specs.LinkedEntries.{entries_in}
use Rattle.chunk_core.specs.LinkWords.{link_spot, link_word}
use Rattle.chunk_core.specs.RoomCopies.{claim_after}
use Rattle.chunk_core.specs.RoomReads.{claimed_at}
use Rattle.chunk_core.specs.RoomStep.{RoomStep, EntryField, of_key, of_value, of_next, claim_entry, own_entry, link_entry}
use Rattle.chunk_core.specs.Rooms.{at_count}
use Rattle.chunk_core.specs.RoomsAfter.{linked_pin}
use Rattle.oak_core.specs.declared.states.PassState.{PassState}
use Rattle.oak_core.specs.CallSteps.{Stands}
use Rattle.oak_core.specs.Memory.{in_rooms, memory}
use Rattle.oak_core.specs.RebalanceSteps.{rebalances_by}
use Rattle.oak_core.specs.RoomCalls.{ClaimsEntry, LinksEntry}
use Rattle.oak_core.specs.Step.{blocks_owned, on_rooms, Told}
use Rattle.oak_core.specs.Sweeping.{swept_by}
use Rattle.oak_core.proofs.calls.CallSteps.{step_met}
use Rattle.oak_core.proofs.memory.Words.{memory_read}

-- what a pass has of rooms, with that claim
abbrev pub with_claim : Option Claim → RoomHolds → RoomHolds
with_claim o a = record a { claim = o }

-- a step on the rooms that teaches nothing, sweeps nothing, and is none of a rebalance
pub stands_on : (z : Sizes) (call : ℕ) (x : RoomStep) (v : PassState) (n : ℕ) (w : PassState) → Told z call (on_rooms x) v n w → w.knowledge ≡ v.knowledge → swept_by x v ≡ v.findings.swept → rebalances_by x v ≡ v.findings.rebalances → Stands call v w
stands_on z call x v n w t same none kept = record {
  met = step_met z call (on_rooms x) v n w t;
  numbers = ap (λ (y : PassState). y.numbers) t.after;
  knowledge = same;
  fulls = ap (λ (y : PassState). y.findings.fulls) t.after;
  rebalances = ap (λ (y : PassState). y.findings.rebalances) t.after ∙ kept;
  swept = ap (λ (y : PassState). y.findings.swept) t.after ∙ none;
  sights = ap (λ (y : PassState). y.findings.sights) t.after;
  gones = ap (λ (y : PassState). y.findings.gones) t.after;
}

-- the claim of the entry past the count
module _ (z : Sizes) (call r old : ℕ) (v : PassState) (n : ℕ) (w : PassState) (t : ClaimsEntry z call r old v n w) where
  abbrev made : Claim
  made = claimed_at (memory z t.table.words).rooms (content (memory z t.table.words).arena.bytes) r (entries_in old)

  pub claim_count : (memory z t.table.words).rooms.count r ≡ n
  claim_count = memory_read z t.table.words (in_rooms (at_count r)) t.may.inside ∙ t.finds

  claim_rooms : w.rooms ≡ with_claim (cond (n == old) (Some made) v.rooms.claim) v.rooms
  claim_rooms = ap (λ (y : PassState). y.rooms) t.after ∙ ap (λ (k : ℕ). with_claim (cond (k == old) (Some made) v.rooms.claim) v.rooms) claim_count

  pub claim_stands : Stands call v w
  claim_stands = stands_on z call (claim_entry r old) v n w t (ap (λ (y : PassState). y.knowledge) t.after) refl refl

  pub claim_blocks : w.blocks ≡ v.blocks
  claim_blocks = ap (λ (y : PassState). y.blocks) t.after

  pub claim_headers : w.headers ≡ v.headers
  claim_headers = ap (λ (y : PassState). y.headers) t.after

  pub claim_made : n ≡ old → w.rooms ≡ with_claim (Some (claimed_at (memory z t.table.words).rooms (content (memory z t.table.words).arena.bytes) r (entries_in old))) v.rooms
  claim_made e = claim_rooms ∙ ap (λ (b : Bool). with_claim (cond b (Some made) v.rooms.claim) v.rooms) (eq-eqb n old e)

  -- where the count was another, nothing is claimed
  pub claim_lost : n ≢ old → w.rooms ≡ v.rooms
  claim_lost ne = claim_rooms ∙ ap (λ (b : Bool). with_claim (cond b (Some made) v.rooms.claim) v.rooms) (ne_eqb n old ne)

-- a store to the claimed entry
module _ (z : Sizes) (call : ℕ) (f : EntryField) (r i x : ℕ) (v : PassState) (n : ℕ) (w : PassState) (t : Told z call (on_rooms (own_entry f r i x)) v n w) where
  pub own_rooms : w.rooms ≡ with_claim (claim_after (content (memory z t.table.words).arena.bytes) f x v.rooms.claim) v.rooms
  own_rooms = ap (λ (y : PassState). y.rooms) t.after

  pub own_stands : Stands call v w
  own_stands = stands_on z call (own_entry f r i x) v n w t (ap (λ (y : PassState). y.knowledge) t.after) refl refl

  pub own_headers : w.headers ≡ v.headers
  own_headers = ap (λ (y : PassState). y.headers) t.after

pub value_blocks : (z : Sizes) (call r i x : ℕ) (v : PassState) (n : ℕ) (w : PassState) → Told z call (on_rooms (own_entry of_value r i x)) v n w → w.blocks ≡ v.blocks
value_blocks z call r i x v n w t = ap (λ (y : PassState). y.blocks) t.after

pub next_blocks : (z : Sizes) (call r i x : ℕ) (v : PassState) (n : ℕ) (w : PassState) → Told z call (on_rooms (own_entry of_next r i x)) v n w → w.blocks ≡ v.blocks
next_blocks z call r i x v n w t = ap (λ (y : PassState). y.blocks) t.after

pub key_blocks : (z : Sizes) (call r i x : ℕ) (v : PassState) (n : ℕ) (w : PassState) → (t : Told z call (on_rooms (own_entry of_key r i x)) v n w) → w.blocks ≡ blocks_owned ((memory z t.table.words).rooms.key r i) x (memory z t.table.words) v.blocks
key_blocks z call r i x v n w t = ap (λ (y : PassState). y.blocks) t.after

-- the link to the claimed entry
module _ (z : Sizes) (call r : ℕ) (from : Option ℕ) (i old : ℕ) (v : PassState) (n : ℕ) (w : PassState) (t : LinksEntry z call r from i old v n w) where
  abbrev pin_then : Option PinnedRoom
  pin_then = linked_pin (memory z t.table.words).rooms (content (memory z t.table.words).arena.bytes) r i v.rooms.pin

  pub link_number : link_word (memory z t.table.words).rooms r from ≡ n
  link_number = memory_read z t.table.words (in_rooms (link_spot r from)) t.may.inside ∙ t.finds

  link_rooms : w.rooms ≡ record v.rooms { claim = cond (n == old) None v.rooms.claim; pin = cond (n == old) pin_then v.rooms.pin }
  link_rooms = ap (λ (y : PassState). y.rooms) t.after ∙ ap (λ (k : ℕ). record v.rooms { claim = cond (k == old) None v.rooms.claim; pin = cond (k == old) pin_then v.rooms.pin }) link_number

  pub link_stands : Stands call v w
  link_stands = stands_on z call (link_entry r from i old) v n w t (ap (λ (y : PassState). y.knowledge) t.after) refl refl

  pub link_blocks : w.blocks ≡ v.blocks
  link_blocks = ap (λ (y : PassState). y.blocks) t.after

  pub link_headers : w.headers ≡ v.headers
  link_headers = ap (λ (y : PassState). y.headers) t.after

  pub link_made : n ≡ old → w.rooms ≡ record v.rooms { claim = None; pin = linked_pin (memory z t.table.words).rooms (content (memory z t.table.words).arena.bytes) r i v.rooms.pin }
  link_made e = link_rooms ∙ ap (λ (b : Bool). record v.rooms { claim = cond b None v.rooms.claim; pin = cond b pin_then v.rooms.pin }) (eq-eqb n old e)

  -- where the link was another, nothing is linked
  pub link_lost : n ≢ old → w.rooms ≡ v.rooms
  link_lost ne = link_rooms ∙ ap (λ (b : Bool). record v.rooms { claim = cond b None v.rooms.claim; pin = cond b pin_then v.rooms.pin }) (ne_eqb n old ne)
