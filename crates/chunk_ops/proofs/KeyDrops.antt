-- The key word of a claimed entry becomes 0: its block is the pass's again, with the key.
use Rattle.std.proofs.Common.{◌≡◌, ℕ, ◌<◌, Bool, cond, List, ◌∷◌, length, take, sym, refl, ap, ◌∙◌, subst, arith, inl, lt-ltb, Option, None}
use Rattle.std.specs.Prelude.{map, true}
use Rattle.oak_model.specs.declared.classes.Class.{Class}
use Rattle.oak_model.specs.Class.{class_number}
use Rattle.oak_model.specs.Counts.{one_if, rows}
use Rattle.oak_model.specs.Limits.{Sizes}
use Rattle.oak_model.specs.WordBytes.{bytes_of}
use Rattle.oak_model.proofs.Lists.{at_map}
use Rattle.oak_model.proofs.MemberLaws.{total_has}
use Rattle.arena_core.specs.declared.blocks.HeldBlock.{HeldBlock}
use Rattle.arena_core.specs.declared.blocks.HeldBlocks.{HeldBlocks}
use Rattle.arena_core.specs.Arena.{block_words, blocks}
use Rattle.arena_core.specs.Blocks.{HoldsBlock, block_from, is_block, words_held}
use Rattle.arena_core.specs.Place.{block_in, class_from, class_in, content}
use Rattle.arena_core.proofs.HeldLists.{here, is_block-true}
use Rattle.chunk_core.specs.declared.holds.Claim.{Claim}
use Rattle.chunk_core.specs.declared.holds.PinnedRoom.{PinnedRoom}
use Rattle.chunk_core.specs.declared.holds.RoomHolds.{RoomHolds}
use Rattle.chunk_core.specs.PinnedRooms.{span_of}
use Rattle.chunk_core.specs.RoomCopies.{claim_after}
use Rattle.chunk_core.specs.RoomRule.{ClaimStands}
use Rattle.chunk_core.specs.RoomStep.{of_key, own_entry}
use Rattle.chunk_core.proofs.Claims.{claim_stands as claim_is_true}
use Rattle.oak_core.specs.declared.states.PassState.{PassState}
use Rattle.oak_core.specs.Memory.{Memory, memory}
use Rattle.oak_core.specs.PassState.{rooms_held}
use Rattle.oak_core.specs.Step.{blocks_owned, on_rooms, Told}
use Rattle.oak_core.proofs.covers.ClaimedEntries.{claimed_key}
use Rattle.arena_ops.specs.Storing.{HasBytes}
use Rattle.chunk_ops.specs.AskedRanges.{CoversKey}
use Rattle.chunk_ops.specs.LinkedTable.{ClaimsIn, HoldsIn}
use Rattle.chunk_ops.proofs.ClaimSteps.{key_blocks, own_rooms, with_claim}
use Rattle.chunk_ops.proofs.EntryKeys.{key_length-is}
use Rattle.chunk_ops.proofs.KeyClaims.{pin_stays, some_place}

module _ (z : Sizes) (call r i base place : ℕ) (k : List ℕ) (v : PassState) (h : ClaimsIn z r i base place k v.rooms) (n : ℕ) (w : PassState) (t : Told z call (on_rooms (own_entry of_key r i 0)) v n w) where
  abbrev m : Memory
  m = memory z t.table.words

  abbrev bytes : ℕ → List ℕ
  bytes = content m.arena.bytes

  abbrev class : Class
  class = class_from (class_in place)

  -- the block as it comes back
  abbrev back : HeldBlock
  back = block_from m.arena.bytes class (block_in place)

  some_word : 0 < place
  some_word = some_place z place k h.names

  pub drop_rooms : w.rooms ≡ with_claim None v.rooms
  drop_rooms = own_rooms z call of_key r i 0 v n w t ∙ ap (λ (o : Option Claim). with_claim (claim_after bytes of_key 0 o) v.rooms) h.has.is

  word_there : m.rooms.key r i ≡ place
  word_there = (λ j. m.rooms.key (sym h.has.room j) (sym h.has.number j)) ∙ (claimed_key z t.table t.rule t.seat v.rooms h.claim (at_map rooms_held t.table.states t.seat v t.here) h.has.is ∙ h.word)

  pub drop_blocks : w.blocks ≡ record v.blocks { held = block_from (memory z t.table.words).arena.bytes (class_from (class_in place)) (block_in place) ∷ v.blocks.held }
  drop_blocks = key_blocks z call r i 0 v n w t ∙ (ap (λ (y : ℕ). blocks_owned y 0 m v.blocks) word_there ∙ ap (λ (b : Bool). record v.blocks { held = cond b (back ∷ v.blocks.held) v.blocks.held }) (lt-ltb 0 place some_word))

  stands : ClaimStands m.rooms bytes h.claim
  stands = claim_is_true z m.rooms bytes (map rooms_held t.table.states) t.rule.rooms t.seat v.rooms h.claim (at_map rooms_held t.table.states t.seat v t.here) h.has.is

  words_are : back.words ≡ h.claim.words
  words_are = (λ j. rows 0 (block_words (sym h.names.class j)) (m.arena.bytes (sym h.names.class j) (block_in place))) ∙ (ap bytes (sym h.word) ∙ stands.words (let s = some_word in let e = h.word in omega arith))

  is_back : is_block (class_number class) (block_in place) back ≡ true
  is_back = is_block-true (class_number class) (block_in place) back refl refl

  -- it has the key
  has_key : take (length k) (bytes_of h.claim.words) ≡ k
  has_key = ap (λ (y : ℕ). take y (bytes_of h.claim.words)) (sym (key_length-is place ∙ h.names.long)) ∙ h.key

  block_back : HoldsBlock z (class_number class) (block_in place) (record v.blocks { held = back ∷ v.blocks.held })
  block_back = record {
    held = let a = total_has (here (class_number class) (block_in place)) (back ∷ v.blocks.held) back (inl refl) in let e = ap one_if is_back in omega arith;
    inside = subst (λ (y : ℕ). block_in place < blocks z y) h.names.class h.names.inside;
  }

  has_bytes : HasBytes z class (block_in place) k w
  has_bytes = record {
    block = subst (HoldsBlock z (class_number class) (block_in place)) (sym drop_blocks) block_back;
    bytes_are = ap (λ (a : HeldBlocks). take (length k) (bytes_of (words_held (class_number class) (block_in place) a.held))) drop_blocks
        ∙ (ap (λ (b : Bool). take (length k) (bytes_of (cond b back.words (words_held (class_number class) (block_in place) v.blocks.held)))) is_back ∙ (ap (λ (xs : List ℕ). take (length k) (bytes_of xs)) words_are ∙ has_key));
    fits = h.names.fits;
  }

  pub holds_again : HoldsIn z base place k w
  holds_again = record {
    none = ap (λ (a : RoomHolds). a.claim) drop_rooms;
    base = h.base ∙ ap (λ (q : PinnedRoom). q.base) (sym (pin_stays z r v w None drop_rooms));
    may = record { is_key = h.names.is_key; block = has_bytes; covers = subst (λ (q : PinnedRoom). CoversKey k (span_of q)) (sym (pin_stays z r v w None drop_rooms)) h.covers };
    names = h.names;
  }
