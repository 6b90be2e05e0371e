-- A pass that stores to a word of the entry that it has claimed keeps the rule: the block of a key word passes to the entry, and back where the word becomes 0.
use Rattle.std.specs.Prelude.{not}
use Rattle.std.proofs.Common.{◌≡◌, ℕ, Bool, ◌+◌, ◌*◌, ◌^◌, ◌<◌, ◌⊎◌, cond, false, List, ◌∷◌, map, set, get_or, sym, refl, ap, ◌∙◌, subst, arith, inl, inr, ⊎_elim, Option, Some, None, nat_lt, lt-ltb, ne_eqb}
use mathlib.Core.Logic.{dite}
use mathlib.Core.Option.{some}
use native.Mathlib.Decide.{ℕ_discrete}
use lib.ListN.{get_elem?}
use Rattle.oak_model.specs.Counts.{one_if, total}
use Rattle.oak_model.specs.Kept.{KeptNumbersStand}
use Rattle.oak_model.specs.Limits.{Sizes}
use Rattle.oak_model.proofs.Changes.{stepped}
use Rattle.oak_model.proofs.Counting.{decided}
use Rattle.oak_model.proofs.Lists.{at_map, map_set, map_set_same}
use Rattle.oak_model.proofs.SumLaws.{times-none, times-one}
use Rattle.arena_core.specs.declared.blocks.HeldBlocks.{HeldBlocks}
use Rattle.arena_core.specs.Blocks.{BlocksAreOwned, block_from, holds, without}
use Rattle.arena_core.specs.Place.{block_in, class_from, class_in, content, names_block}
use Rattle.arena_core.proofs.ArenaSteps.{held_once}
use Rattle.arena_core.proofs.HeldLists.{whole_without}
use Rattle.arena_core.proofs.KeptBlocks.{true_without}
use Rattle.arena_core.proofs.OwnedBlocks.{blocks_frame}
use Rattle.header_core.specs.declared.holds.HeaderHolds.{HeaderHolds}
use Rattle.chunk_core.specs.declared.holds.Claim.{Claim}
use Rattle.chunk_core.specs.declared.holds.PinnedRoom.{PinnedRoom}
use Rattle.chunk_core.specs.declared.holds.RoomHolds.{RoomHolds}
use Rattle.chunk_core.specs.CoverSums.{all_of, owners_in_rooms}
use Rattle.chunk_core.specs.Covers.{Cover}
use Rattle.chunk_core.specs.KeptRooms.{kept_of_rooms}
use Rattle.chunk_core.specs.MayOnRooms.{HasClaim, MayOwn}
use Rattle.chunk_core.specs.RoomCopies.{claim_after, claim_with}
use Rattle.chunk_core.specs.RoomStep.{EntryField, of_key, of_value, of_next, entry_spot, own_entry, put_room}
use Rattle.chunk_core.specs.Rooms.{IsInRooms, at_key, read_room, same_room_spot}
use Rattle.chunk_core.proofs.KeptClaims.{kept_owned}
use Rattle.chunk_core.proofs.KeptValues.{value_owners}
use Rattle.chunk_core.proofs.OwnEntry.{own_covers, own_owners, own_partition, own_rooms}
use Rattle.chunk_core.proofs.RoomOwners.{owners_idle}
use Rattle.oak_core.specs.declared.states.PassState.{PassState}
use Rattle.oak_core.specs.EntryOwners.{all_others, entry_owners, is_key_word}
use Rattle.oak_core.specs.Finding.{finding}
use Rattle.oak_core.specs.Known.{known}
use Rattle.oak_core.specs.Memory.{Memory, in_arena, in_rooms, index, memory, read, same_spot, write}
use Rattle.oak_core.specs.Owners.{HeadersAreHeld}
use Rattle.oak_core.specs.PassState.{blocks_of, headers_held, kept_of, knowledge_of, rooms_held}
use Rattle.oak_core.specs.Rule.{ClaimHasKey, Rule}
use Rattle.oak_core.specs.Step.{blocks_by_room, blocks_owned, block_back, on_rooms, MayGiveKey, MayOwnEntry, state_after, table_after}
use Rattle.oak_core.specs.TableState.{TableState}
use Rattle.oak_core.proofs.covers.ClaimedEntries.{claimed_key}
use Rattle.oak_core.proofs.covers.RoomBundles.{RoomBundles}
use Rattle.oak_core.proofs.keyed.KeyBundles.{keys_idle, keys_now}
use Rattle.oak_core.proofs.keyed.KeyPlaces.{key_class}
use Rattle.oak_core.proofs.kinds.Keeps.{elsewhere_rule}
use Rattle.oak_core.proofs.calls.Growing.{swept_grows}
use Rattle.oak_core.proofs.kinds.KeepsRoomPins.{at_rooms}
use Rattle.oak_core.proofs.known.PinsKnown.{pins_same}
use Rattle.oak_core.proofs.owners.BlocksDropped.{back_kept, back_owned}
use Rattle.oak_core.proofs.owners.BlocksWithHeaders.{held_named, owned_alike}
use Rattle.oak_core.proofs.owners.HeaderSums.{headers_own}
use Rattle.oak_core.proofs.owners.KeptInArena.{fewer}
use Rattle.oak_core.proofs.owners.KeptWords.{kept_with, parts_put, still_true, times_in_rooms, unkept_by_all}

-- the claim behind a store: its key word is x, or what it was
claim_key : (content : ℕ → List ℕ) (f : EntryField) (x : ℕ) (o : Option Claim) → (f ≡ of_key → 0 < x → is_key_word x ≡ 1) → ClaimHasKey o → ClaimHasKey (claim_after content f x o)
claim_key content f x None new h = tt
claim_key content f x (Some c) new h = go f new
  where
    go : (f : EntryField) → (f ≡ of_key → 0 < x → is_key_word x ≡ 1) → ClaimHasKey (claim_after content f x (Some c))
    go of_key new = decided x 0 (λ (t : Bool). ClaimHasKey (cond (not t) (Some (claim_with content of_key x c)) None)) (λ _. tt) (λ ne. inr (new refl (omega arith)))
    go of_value new = h
    go of_next new = h

module _ (z : Sizes) (s : TableState) (seat : ℕ) (v : PassState) (r : Rule z s) (here : get_elem? s.states seat ≡ some v) where
  abbrev m : Memory
  m = memory z s.words

  abbrev bytes : ℕ → List ℕ
  bytes = content m.arena.bytes

  abbrev hs : List RoomHolds
  hs = map rooms_held s.states

  own : get_elem? hs seat ≡ some v.rooms
  own = at_rooms z s seat v r here

  at_blocks : get_elem? (map blocks_of s.states) seat ≡ some v.blocks
  at_blocks = at_map blocks_of s.states seat v here

  -- what the pass has of rooms then
  abbrev held : EntryField → ℕ → RoomHolds
  held f x = record v.rooms { claim = claim_after bytes f x v.rooms.claim }

  -- what stands behind a store of x to a word of the entry i of the room k, where the pass has the blocks a
  record Owns (f : EntryField) (k i x : ℕ) (a : HeldBlocks) : Type 0 where
    bundles : RoomBundles z (write m (in_rooms (entry_spot f k i)) x).rooms m.arena.bytes (set hs seat (record v.rooms { claim = claim_after bytes f x v.rooms.claim }))
    blocks : BlocksAreOwned z m.arena.bits (all_others z (write m (in_rooms (entry_spot f k i)) x) (set hs seat (record v.rooms { claim = claim_after bytes f x v.rooms.claim }))) (set (map blocks_of s.states) seat a)
    kept : KeptNumbersStand same_spot (read (write m (in_rooms (entry_spot f k i)) x)) (set (map kept_of s.states) seat (kept_with a v.headers))
    covers : (F : Cover → ℕ) → all_of z (write m (in_rooms (entry_spot f k i)) x).rooms bytes (set hs seat (record v.rooms { claim = claim_after bytes f x v.rooms.claim })) F ≡ all_of z m.rooms bytes hs F

  module _ (c : Claim) (has : v.rooms.claim ≡ Some c) (f : EntryField) (x : ℕ) where
    abbrev m' : Memory
    m' = write m (in_rooms (entry_spot f c.room c.number)) x

    abbrev hs' : List RoomHolds
    hs' = set hs seat (held f x)

    bundles_then : RoomBundles z m'.rooms m.arena.bytes hs'
    bundles_then = record {
      rooms = own_rooms z m.rooms bytes is_key_word hs r.rooms r.covers seat v.rooms own c has f x;
      covers = own_partition z m.rooms bytes is_key_word hs r.rooms r.covers seat v.rooms own c has f x;
      kept = subst (KeptNumbersStand same_room_spot (read_room m'.rooms)) (sym (map_set kept_of_rooms hs seat (held f x))) (kept_owned z m.rooms bytes hs r.rooms r.kept_in_rooms seat v.rooms own f x c has);
    }

    -- the pass has the blocks that it had
    still_kept : KeptNumbersStand same_spot (read m') (set (map kept_of s.states) seat (kept_with v.blocks v.headers))
    still_kept = let p = in_rooms (entry_spot f c.room c.number) in let unkept = unkept_by_all p (times_in_rooms (entry_spot f c.room c.number)) s.states in
        parts_put m s.states seat v here r.kept p x unkept v.blocks v.headers (still_true m s.states seat v here r.kept p x unkept) (λ q. let o = r.kept.once q in omega arith)

    owns_still : ((names_it : ℕ → ℕ) → owners_in_rooms z m'.rooms bytes hs' names_it ≡ owners_in_rooms z m.rooms bytes hs names_it) → Owns f c.room c.number x v.blocks
    owns_still same = record {
      bundles = bundles_then;
      blocks = owned_alike z m.arena.bits (all_others z m hs) (all_others z m' hs') (map blocks_of s.states) seat v.blocks at_blocks (λ d b. let e = same (names_block d b) in omega arith) r.blocks;
      kept = still_kept;
      covers = own_covers z m.rooms bytes is_key_word hs r.rooms r.covers seat v.rooms own c has f x;
    }

  module _ (c : Claim) (has : v.rooms.claim ≡ Some c) where
    -- a value word or a link has no block
    owns_value : (x : ℕ) → Owns of_value c.room c.number x v.blocks
    owns_value x = owns_still c has of_value x (λ names_it. value_owners z m.rooms bytes (set hs seat (held of_value x)) names_it c.room c.number x ∙ owners_idle z m.rooms bytes hs seat v.rooms (held of_value x) own refl names_it)

    owns_next : (x : ℕ) → Owns of_next c.room c.number x v.blocks
    owns_next x = owns_still c has of_next x (λ names_it. owners_idle z m.rooms bytes hs seat v.rooms (held of_next x) own refl names_it)

    abbrev word : ℕ
    word = m.rooms.key c.room c.number

    word_is : m.rooms.key c.room c.number ≡ c.entry.word
    word_is = claimed_key z s r seat v.rooms c own has

    -- what of the owners of a block a key word adds
    adds : (ℕ → ℕ) → ℕ → ℕ
    adds names_it w = one_if (nat_lt 0 w) * names_it w

    none_added : (names_it : ℕ → ℕ) (w : ℕ) → w ≡ 0 → one_if (nat_lt 0 w) * names_it w ≡ 0
    none_added names_it w e = times-none (one_if (nat_lt 0 w)) (names_it w) (ap (λ (t : ℕ). one_if (nat_lt 0 t)) e)

    one_added : (names_it : ℕ → ℕ) (w : ℕ) → 0 < w → one_if (nat_lt 0 w) * names_it w ≡ names_it w
    one_added names_it w l = times-one (one_if (nat_lt 0 w)) (names_it w) (ap one_if (lt-ltb 0 w l))

    owners : (x : ℕ) (names_it : ℕ → ℕ) → owners_in_rooms z (put_room m.rooms (at_key c.room c.number) x) bytes (set hs seat (held of_key x)) names_it + one_if (nat_lt 0 (m.rooms.key c.room c.number)) * names_it (m.rooms.key c.room c.number) ≡ owners_in_rooms z m.rooms bytes hs names_it + one_if (nat_lt 0 x) * names_it x
    owners x names_it = own_owners z m.rooms bytes is_key_word hs r.rooms r.covers seat v.rooms own c has of_key x refl names_it

    -- a key word comes into an entry that has none: its block was the pass's, which has it no more
    module _ (x : ℕ) (some_word : 0 < x) (bare : m.rooms.key c.room c.number ≡ 0) (key : is_key_word x ≡ 1) (mine : holds (class_in x) (block_in x) v.blocks ≡ 1) where
      abbrev given : HeldBlocks
      given = record v.blocks { held = without (class_in x) (block_in x) v.blocks.held }

      more : (d b : ℕ) → all_others z (write m (in_rooms (at_key c.room c.number)) x) (set hs seat (held of_key x)) d b ≡ all_others z m hs d b + names_block d b x
      more d b = let e = owners x (names_block d b) in let n = none_added (names_block d b) (m.rooms.key c.room c.number) bare in let o = one_added (names_block d b) x some_word in omega arith

      given_kept : KeptNumbersStand same_spot (read (write m (in_rooms (at_key c.room c.number)) x)) (set (map kept_of s.states) seat (kept_with given v.headers))
      given_kept = let p = in_rooms (at_key c.room c.number) in let unkept = unkept_by_all p (times_in_rooms (at_key c.room c.number)) s.states in let t = still_true m s.states seat v here r.kept p x unkept in
          parts_put m s.states seat v here r.kept p x unkept given v.headers
          record { blocks = true_without (λ q. read (write m p x) (in_arena q)) (class_in x) (block_in x) v.blocks.held t.blocks; within = t.within; headers = t.headers }
          (λ q. let f = fewer z m (all_others z m hs) s.states seat v here r.blocks (λ c b. let o = headers_own z s r c b in omega arith) r.kept v.blocks (class_in x) (block_in x) q in let o = r.kept.once q in omega arith)

      owns_given : Owns of_key c.room c.number x given
      unfolding total
      owns_given = record {
        bundles = bundles_then c has of_key x;
        blocks = blocks_frame z m.arena.bits (all_others z m hs) (all_others z (write m (in_rooms (at_key c.room c.number)) x) (set hs seat (held of_key x))) (stepped (map blocks_of s.states) seat v.blocks given at_blocks) r.blocks
            (whole_without (class_in x) (block_in x) v.blocks.held (r.blocks.whole seat v.blocks at_blocks), tt)
            (λ d b. let o = more d b in let e = held_named d b x v.blocks.held (key_class x key) mine in omega arith);
        kept = given_kept;
        covers = own_covers z m.rooms bytes is_key_word hs r.rooms r.covers seat v.rooms own c has of_key x;
      }

    -- a key word becomes 0: its block comes back to the pass
    module _ (some_word : 0 < m.rooms.key c.room c.number) (key : is_key_word (m.rooms.key c.room c.number) ≡ 1) where
      less : (d b : ℕ) → entry_owners z (write m (in_rooms (at_key c.room c.number)) 0).rooms bytes (set hs seat (held of_key 0)) d b + names_block d b (m.rooms.key c.room c.number) ≡ entry_owners z m.rooms bytes hs d b
      less d b = let e = owners 0 (names_block d b) in let n = none_added (names_block d b) 0 refl in let o = one_added (names_block d b) (m.rooms.key c.room c.number) some_word in omega arith

      owns_back : Owns of_key c.room c.number 0 (block_back m.arena.bytes (m.rooms.key c.room c.number) v.blocks)
      owns_back = record {
        bundles = bundles_then c has of_key 0;
        blocks = back_owned z s seat v r here (at_key c.room c.number) 0 (set hs seat (held of_key 0)) (m.rooms.key c.room c.number) (key_class (m.rooms.key c.room c.number) key) less;
        kept = back_kept z s seat v r here (at_key c.room c.number) 0 (set hs seat (held of_key 0)) (m.rooms.key c.room c.number) (key_class (m.rooms.key c.room c.number) key) less;
        covers = own_covers z m.rooms bytes is_key_word hs r.rooms r.covers seat v.rooms own c has of_key 0;
      }

    -- a key word of 0 has no block
    owns_none : m.rooms.key c.room c.number ≡ 0 → Owns of_key c.room c.number 0 v.blocks
    owns_none bare = owns_still c has of_key 0 (λ names_it. let e = owners 0 names_it in let n = none_added names_it 0 refl in let o = none_added names_it (m.rooms.key c.room c.number) bare in omega arith)

    -- the key word of the claimed entry is 0, or one of a key
    word_key : (m.rooms.key c.room c.number ≡ 0) ⊎ (is_key_word (m.rooms.key c.room c.number) ≡ 1)
    word_key = ⊎_elim (λ (e : c.entry.word ≡ 0). inl (word_is ∙ e)) (λ (e : is_key_word c.entry.word ≡ 1). inr (ap is_key_word word_is ∙ e)) (subst ClaimHasKey has (r.passes seat v here).claim)

    owns_zero : Owns of_key c.room c.number 0 (blocks_owned (m.rooms.key c.room c.number) 0 m v.blocks)
    owns_zero = dite (ℕ_discrete (m.rooms.key c.room c.number) 0)
        (λ e. subst (λ (t : Bool). Owns of_key c.room c.number 0 (record v.blocks { held = cond t (block_from m.arena.bytes (class_from (class_in word)) (block_in word) ∷ v.blocks.held) v.blocks.held })) (sym (ap (nat_lt 0) e)) (owns_none e))
        (λ ne. subst (λ (t : Bool). Owns of_key c.room c.number 0 (record v.blocks { held = cond t (block_from m.arena.bytes (class_from (class_in word)) (block_in word) ∷ v.blocks.held) v.blocks.held })) (sym (lt-ltb 0 (m.rooms.key c.room c.number) (omega arith)))
        (owns_back (omega arith) (⊎_elim (λ (e : m.rooms.key c.room c.number ≡ 0). absurd (ne e)) (λ (e : is_key_word (m.rooms.key c.room c.number) ≡ 1). e) word_key)))

    owns_key : (x : ℕ) → MayOwn of_key x c → MayGiveKey z of_key x v.blocks → Owns of_key c.room c.number x (blocks_owned (m.rooms.key c.room c.number) x m v.blocks)
    owns_key x may gives = dite (ℕ_discrete x 0) (λ e. subst (λ (y : ℕ). Owns of_key c.room c.number y (blocks_owned (m.rooms.key c.room c.number) y m v.blocks)) (sym e) owns_zero)
        (λ ne. subst (λ (t : Bool). Owns of_key c.room c.number x (record v.blocks { held = cond t (cond (nat_lt 0 word) (block_from m.arena.bytes (class_from (class_in word)) (block_in word) ∷ v.blocks.held) v.blocks.held) (without (class_in x) (block_in x) v.blocks.held) })) (sym (ne_eqb x 0 ne))
        (let g = gives (omega arith) in owns_given x (omega arith) (⊎_elim (λ (e : x ≡ 0). absurd (ne e)) (λ (e : c.entry.word ≡ 0). word_is ∙ e) may) g.0
        (held_once z m.arena (all_others z m hs) (map blocks_of s.states) seat v.blocks at_blocks r.blocks (class_in x) (block_in x) g.1.held).2))

  -- the rule stands behind it
  module _ (call : ℕ) (going : v.numbers.spent ≡ false) where
    owned_rule : (f : EntryField) (k i x : ℕ) → IsInRooms z (entry_spot f k i) → x < 2 ^ 64 → Owns f k i x (blocks_by_room (own_entry f k i x) m v.rooms v.blocks) → ClaimHasKey (claim_after bytes f x v.rooms.claim) → Rule z (table_after z call (on_rooms (own_entry f k i x)) seat v s)
    owned_rule f k i x inside small o key = let n : ℕ = get_or s.words (index z (in_rooms (entry_spot f k i))) 0 in let w : PassState = state_after z call (on_rooms (own_entry f k i x)) s v in let y : Memory = write m (in_rooms (entry_spot f k i)) x in
        elsewhere_rule z s call seat v r here going (on_rooms (own_entry f k i x)) (finding z call (in_rooms (entry_spot f k i)) None x s.words v) inside small refl refl (record { met = refl; swept = swept_grows (own_entry f k i x) v; fulls = refl }) refl refl
        (subst (λ (bs : List HeldBlocks). BlocksAreOwned z m.arena.bits (all_others z y (map rooms_held (set s.states seat w))) bs) (sym (map_set blocks_of s.states seat w))
        (subst (λ (rs : List RoomHolds). BlocksAreOwned z m.arena.bits (all_others z y rs) (set (map blocks_of s.states) seat w.blocks)) (sym (map_set rooms_held s.states seat w)) o.blocks))
        (subst (λ (hh : List HeaderHolds). HeadersAreHeld m.headers m.arena.bytes (known (map knowledge_of s.states)) hh) (sym (map_set_same headers_held s.states seat v w here refl)) r.headers)
        (subst (RoomBundles z y.rooms m.arena.bytes) (sym (map_set rooms_held s.states seat w)) o.bundles)
        (keys_idle z m y s.states seat v w here (keys_now z s r) (λ F. ap (λ (rs : List RoomHolds). all_of z y.rooms bytes rs F) (map_set rooms_held s.states seat w) ∙ o.covers F) refl refl refl refl (λ h _. refl) (pins_same v w refl refl (r.heard.pins seat v here)))
        (subst (KeptNumbersStand same_spot (read y)) (sym (map_set kept_of s.states seat w)) o.kept)
        (record { pin = (r.passes seat v here).pin; whole = (r.passes seat v here).whole; claim = key })

    -- in the room that the claim is in, of the entry that it is of
    at_claim : (f : EntryField) (k i x : ℕ) (p : PinnedRoom) (c : Claim) → HasClaim k i v.rooms p c → Owns f c.room c.number x (blocks_by_room (own_entry f c.room c.number x) m v.rooms v.blocks) → Owns f k i x (blocks_by_room (own_entry f k i x) m v.rooms v.blocks)
    at_claim f k i x p c h = subst (λ (t : ℕ × ℕ). Owns f t.0 t.1 x (blocks_by_room (own_entry f t.0 t.1 x) m v.rooms v.blocks)) (λ q. (h.room q, h.number q))

    pub own_entry_keeps : (f : EntryField) (k i x : ℕ) → MayOwnEntry z f k i x v → Rule z (table_after z call (on_rooms (own_entry f k i x)) seat v s)
    own_entry_keeps of_key k i x may = owned_rule of_key k i x may.inside may.rooms.4 (at_claim of_key k i x may.rooms.0 may.rooms.1 may.rooms.2 (owns_key may.rooms.1 may.rooms.2.is x may.rooms.3 may.block)) (claim_key bytes of_key x v.rooms.claim (λ _ l. (may.block l).0) (r.passes seat v here).claim)
    own_entry_keeps of_value k i x may = owned_rule of_value k i x may.inside may.rooms.4 (at_claim of_value k i x may.rooms.0 may.rooms.1 may.rooms.2 (owns_value may.rooms.1 may.rooms.2.is x)) (claim_key bytes of_value x v.rooms.claim (λ e. absurd (apart e)) (r.passes seat v here).claim)
      where
        apart : of_value ≡ of_key → ⊥
        apart e = cc
    own_entry_keeps of_next k i x may = owned_rule of_next k i x may.inside may.rooms.4 (at_claim of_next k i x may.rooms.0 may.rooms.1 may.rooms.2 (owns_next may.rooms.1 may.rooms.2.is x)) (claim_key bytes of_next x v.rooms.claim (λ e. absurd (apart e)) (r.passes seat v here).claim)
      where
        apart : of_next ≡ of_key → ⊥
        apart e = cc
