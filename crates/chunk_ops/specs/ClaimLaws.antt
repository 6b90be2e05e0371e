-- What loads leave of a block that a pass holds, and of an entry that it has claimed.
use Rattle.std.proofs.Common.{◌≡◌, ℕ, cond, List, [], ◌∷◌, map, length, take, sym, refl, ap, ◌∙◌, subst, arith, Option, Some, None}
use Rattle.pin_word.specs.PinWord.{state_of}
use Rattle.oak_model.specs.declared.classes.Class.{Class}
use Rattle.oak_model.specs.Class.{class_number}
use Rattle.oak_model.specs.Counts.{Each, one_at, total}
use Rattle.oak_model.specs.Limits.{Sizes}
use Rattle.oak_model.specs.WordBytes.{bytes_of}
use Rattle.oak_model.proofs.Counting.{test-cases}
use Rattle.oak_model.proofs.Lists.{at_map}
use Rattle.arena_core.specs.Blocks.{HoldsBlock, words_held}
use Rattle.arena_core.specs.Place.{content}
use Rattle.chunk_core.specs.declared.holds.Claim.{Claim}
use Rattle.chunk_core.specs.declared.holds.PinnedRoom.{PinnedRoom}
use Rattle.chunk_core.specs.declared.holds.RoomHolds.{RoomHolds}
use Rattle.chunk_core.specs.KeyWords.{high_number, low_number}
use Rattle.chunk_core.specs.LinkWords.{link_spot, link_word}
use Rattle.chunk_core.specs.LinkedEntries.{linked}
use Rattle.chunk_core.specs.MayOnRooms.{HasClaim, PinsRoom}
use Rattle.chunk_core.specs.PinnedRooms.{IsGoodRoom, OnRoomPin, RoomPinHolds, found_in, span_of}
use Rattle.chunk_core.specs.RoomStep.{of_value}
use Rattle.chunk_core.specs.Rooms.{RoomMemory, at_count}
use Rattle.chunk_core.specs.RoomsAfter.{counted_pin, pin_walked, pin_with, walked_pin}
use Rattle.chunk_core.proofs.OwnEntry.{unlinked}
use Rattle.chunk_core.proofs.RoomLinks.{found_stands}
use Rattle.link_search.specs.Linked.{IsFound}
use Rattle.link_search.specs.Met.{Met, met_count, met_link, met_key, tried_count, tried_link, stored_value, stored_link, stored_key, gave_up, IsEntryLoad, IsLoad}
use Rattle.oak_core.specs.declared.states.PassState.{PassState}
use Rattle.oak_core.specs.AloneWords.{Moment}
use Rattle.oak_core.specs.EntryOwners.{is_key_word}
use Rattle.oak_core.specs.LinkTeaching.{is_pinned, shows_link}
use Rattle.oak_core.specs.Loading.{rooms_by_load}
use Rattle.oak_core.specs.Memory.{Memory, Spot, in_rooms, memory}
use Rattle.oak_core.specs.PassState.{rooms_held}
use Rattle.oak_core.specs.Passes.{state, key as sizes, call_of}
use Rattle.oak_core.specs.Step.{load, Told}
use Rattle.oak_core.proofs.seats.AloneRuns.{moment_after}
use Rattle.oak_core.proofs.told.PlainLoads.{plain_or_taught, plain_teaches, rooms_linked}
use Rattle.arena_ops.specs.Storing.{HasBytes}
use Rattle.chunk_ops.specs.declared.pinned_table.PinnedTable.{PinnedTable}
use Rattle.chunk_ops.specs.Adds.{MayAdd}
use Rattle.chunk_ops.specs.AskedRanges.{CoversKey}
use Rattle.chunk_ops.specs.FoundNumbers.{found_numbered}
use Rattle.chunk_ops.specs.LinkedTable.{ClaimsIn, ClaimsKey, DoesEach, DoesMet, HoldsIn, HoldsKey, MeetsInTable}
use Rattle.chunk_ops.specs.PinRecords.{pin_or, room_pin}
use Rattle.chunk_ops.specs.Reads as reads
use Rattle.chunk_ops.specs.RoomLoads.{LoadsEach, linked_in, number_of, spot_of, view_of}

-- ---- what a pass has claimed is linked nowhere

-- a good pin stands at each moment at which the rule holds
pub pin_stands : (z : Sizes) (r : ℕ) (words : List ℕ) (v : PassState) → Moment z words v → PinsRoom r v.rooms (room_pin v) → RoomPinHolds z (memory z words).rooms (content (memory z words).arena.bytes) (room_pin v)
pin_stands z r words v t pin = let m : Memory = memory z words in
    subst (OnRoomPin (λ q. IsGoodRoom q → RoomPinHolds z m.rooms (content m.arena.bytes) q)) pin.is (t.rule.rooms.good t.seat v.rooms (at_map rooms_held t.states t.seat v t.here)) pin.good

-- so the pin found no entry of that number
pub apart_now : (z : Sizes) (r i : ℕ) (words : List ℕ) (v : PassState) → Moment z words v → (c : Claim) → HasClaim r i v.rooms (room_pin v) c → IsFound (linked_in (room_pin v)) i → ⊥
apart_now z r i words v t c h found = let m : Memory = memory z words in let q : PinnedRoom = room_pin v in let f = found_numbered i (found_in q) found in
    let s = found_stands z m.rooms (content m.arena.bytes) q (pin_stands z r words v t h.pin) f.entry f.has in
    let u = unlinked z m.rooms (content m.arena.bytes) is_key_word (map rooms_held t.states) t.rule.rooms t.rule.covers t.seat v.rooms (at_map rooms_held t.states t.seat v t.here) c h.is of_value 0 in
    let e : total (λ j. one_at j c.number) (linked m.rooms c.room) ≡ total (λ j. one_at j f.entry.number) (linked m.rooms q.room) = (λ n. total (λ j. one_at j ((h.number ∙ sym f.number) n)) (linked m.rooms ((h.room ∙ sym h.pin.room) n))) in
    let o = s.linked in absurd (omega arith)

-- ---- loads

-- the later pin is of the same room, with the same range and base
record PinAgrees (o q : Option PinnedRoom) : Type 0 where
  is : o ≡ Some (pin_or o) → q ≡ Some (pin_or q)
  room : (pin_or q).room ≡ (pin_or o).room
  found : (pin_or q).found ≡ (pin_or o).found
  base : (pin_or q).base ≡ (pin_or o).base
  low : (pin_or q).low ≡ (pin_or o).low
  high : (pin_or q).high ≡ (pin_or o).high

-- and the claim is the same
record RoomsAgree (a b : RoomHolds) : Type 0 where
  claim : b.claim ≡ a.claim
  pin : PinAgrees a.pin b.pin

agrees : (o : Option PinnedRoom) → PinAgrees o o
agrees o = record { is = λ e. e; room = refl; found = refl; base = refl; low = refl; high = refl }

-- so it is behind each load

count_agrees : (m : RoomMemory) (bytes : ℕ → List ℕ) (k : ℕ) (o : Option PinnedRoom) → PinAgrees o (counted_pin m bytes k o)
count_agrees m bytes k None = agrees None
count_agrees m bytes k (Some p) = test-cases (is_pinned k p) (λ b. PinAgrees (Some p) (Some (cond b (pin_with m bytes (m.count k) p) p)))
    (λ _. record { is = λ _. refl; room = refl; found = refl; base = refl; low = refl; high = refl }) (λ _. agrees (Some p))

walk_agrees : (m : RoomMemory) (bytes : ℕ → List ℕ) (k : ℕ) (from : Option ℕ) (o : Option PinnedRoom) → PinAgrees o (walked_pin m bytes k from o)
walk_agrees m bytes k from None = agrees None
walk_agrees m bytes k from (Some p) = test-cases (shows_link k from p) (λ b. PinAgrees (Some p) (Some (cond b (pin_walked m bytes (link_word m k from) p) p)))
    (λ _. record { is = λ _. refl; room = refl; found = refl; base = refl; low = refl; high = refl }) (λ _. agrees (Some p))

load_agrees : (m : Memory) (v : PassState) (p : Spot) → RoomsAgree v.rooms (rooms_by_load p m v)
load_agrees m v = plain_or_taught (λ p. RoomsAgree v.rooms (rooms_by_load p m v))
    (λ p plain. subst (RoomsAgree v.rooms) (sym (plain_teaches 0 m [] v p plain).rooms) (record { claim = refl; pin = agrees v.rooms.pin }))
    (λ k. record { claim = refl; pin = count_agrees m.rooms (content m.arena.bytes) k v.rooms.pin })
    (λ k from. subst (RoomsAgree v.rooms) (sym (rooms_linked m v k from)) (record { claim = refl; pin = walk_agrees m.rooms (content m.arena.bytes) k from v.rooms.pin }))
    (λ k i. record { claim = refl; pin = agrees v.rooms.pin }) (λ h. record { claim = refl; pin = agrees v.rooms.pin })

span_agrees : (a b : RoomHolds) → RoomsAgree a b → span_of (pin_or b.pin) ≡ span_of (pin_or a.pin)
span_agrees a b s = λ i. record { low = low_number (s.pin.low i); high = high_number (s.pin.high i); base = s.pin.base i }

-- the key may be added as long as the pass holds what it held, and its pin has the range that it had
pub add_still : (z : Sizes) (c : Class) (b : ℕ) (key : List ℕ) (v w : PassState) → w.blocks ≡ v.blocks → span_of (room_pin w) ≡ span_of (room_pin v) → MayAdd z c b key v → MayAdd z c b key w
add_still z c b key v w blocks span m = record {
  is_key = m.is_key;
  block = let h : HasBytes z c b key v = m.block in record { block = subst (HoldsBlock z (class_number c) b) (sym blocks) h.block; bytes_are = (λ i. take (length key) (bytes_of (words_held (class_number c) b (blocks i).held))) ∙ h.bytes_are; fits = h.fits };
  covers = subst (CoversKey key) (sym span) m.covers;
}

module _ (z : Sizes) (base place : ℕ) (k : List ℕ) (v w : PassState) where
  holds_agree : RoomsAgree v.rooms w.rooms → w.blocks ≡ v.blocks → HoldsIn z base place k v → HoldsIn z base place k w
  holds_agree s blocks h = record {
    none = s.claim ∙ h.none;
    base = h.base ∙ sym s.pin.base;
    may = add_still z _ _ k v w blocks (span_agrees v.rooms w.rooms s) h.may;
    names = h.names;
  }

  -- so it is where nothing changed
  pub holds_same : w.rooms ≡ v.rooms → w.blocks ≡ v.blocks → HoldsIn z base place k v → HoldsIn z base place k w
  holds_same e = holds_agree (subst (RoomsAgree v.rooms) (sym e) (record { claim = refl; pin = agrees v.rooms.pin }))

-- what each load keeps, loads keep
module _ (z : Sizes) (call r base place : ℕ) (P : PassState → Type 0) (keeps : (p : Spot) (v : PassState) (n : ℕ) (w : PassState) → Told z call (load p) v n w → P v → P w) where
  loads_keep : (ms : List reads.Met) (v w : PassState) → LoadsEach z call r ms v w → P v → P w
  loads_keep [] v w e h = subst P (sym e) h
  loads_keep (m ∷ ms) v w l h = loads_keep ms l.0 w l.2 (keeps (spot_of r m) v (number_of m) l.0 l.1 h)

  met_keeps : (m : Met) (v w : PassState) → IsLoad m → DoesMet z call r base place m v w → P v → P w
  met_keeps (met_count n) v w l d h = keeps (in_rooms (at_count r)) v n w d h
  met_keeps (met_link from n) v w l d h = keeps (in_rooms (link_spot r from)) v n w d h
  met_keeps (met_key i) v w l d h = loads_keep d.met v w d.loads h
  met_keeps (tried_count old n) v w l d h = absurd l
  met_keeps (tried_link from i old n) v w l d h = absurd l
  met_keeps (stored_value i) v w l d h = absurd l
  met_keeps (stored_link i x) v w l d h = absurd l
  met_keeps (stored_key i) v w l d h = absurd l
  met_keeps (gave_up i) v w l d h = absurd l

  each_keeps : (ms : List Met) (v w : PassState) → Each IsLoad ms → DoesEach z call r base place ms v w → P v → P w
  each_keeps [] v w l e h = subst P (sym e) h
  each_keeps (m ∷ ms) v w l d h = each_keeps ms d.0 w l.1 d.2 (met_keeps m v d.0 l.0 d.1 h)

-- a load of an entry is a load
entry_loads : (m : Met) → IsEntryLoad m → IsLoad m
entry_loads (met_count n) l = tt
entry_loads (met_link from n) l = tt
entry_loads (met_key i) l = tt
entry_loads (tried_count old n) l = l
entry_loads (tried_link from i old n) l = l
entry_loads (stored_value i) l = l
entry_loads (stored_link i x) l = l
entry_loads (stored_key i) l = l
entry_loads (gave_up i) l = l

each_entry : (ms : List Met) → Each IsEntryLoad ms → Each IsLoad ms
each_entry [] l = tt
each_entry (m ∷ ms) l = (entry_loads m l.0, each_entry ms l.1)

load_rooms : (z : Sizes) (call : ℕ) (p : Spot) (v : PassState) (n : ℕ) (w : PassState) → Told z call (load p) v n w → RoomsAgree v.rooms w.rooms
load_rooms z call p v n w t = subst (RoomsAgree v.rooms) (sym (ap (λ (y : PassState). y.rooms) t.after)) (load_agrees (memory z t.table.words) v p)

load_holds : (z : Sizes) (call base place : ℕ) (k : List ℕ) (p : Spot) (v : PassState) (n : ℕ) (w : PassState) → Told z call (load p) v n w → HoldsIn z base place k v → HoldsIn z base place k w
load_holds z call base place k p v n w t h = holds_agree z base place k v w (load_rooms z call p v n w t) (ap (λ (y : PassState). y.blocks) t.after) h

load_claims : (z : Sizes) (call r i base place : ℕ) (k : List ℕ) (p : Spot) (v : PassState) (n : ℕ) (w : PassState) → Told z call (load p) v n w → ClaimsIn z r i base place k v.rooms → ClaimsIn z r i base place k w.rooms
load_claims z call r i base place k p v n w t h = let s = load_rooms z call p v n w t in
    let has : HasClaim r i w.rooms (room_pin w) h.claim = record { is = s.claim ∙ h.has.is; room = h.has.room; number = h.has.number; pin = record { is = s.pin.is h.has.pin.is; room = s.pin.room ∙ h.has.pin.room; good = ap state_of s.pin.found ∙ h.has.pin.good } } in record {
      claim = h.claim;
      has = has;
      value = h.value;
      word = h.word;
      key = h.key;
      base = h.base ∙ sym s.pin.base;
      covers = subst (CoversKey k) (sym (span_agrees v.rooms w.rooms s)) h.covers;
      names = h.names;
      entry = h.entry;
      apart = apart_now z r i _ w (moment_after z call (load p) v n w t) h.claim has;
    }

-- ---- the laws

pub holds_still : (s t : PinnedTable) (ms : List Met) (k : List ℕ) → MeetsInTable s t ms → Each IsLoad ms → HoldsKey s k → HoldsKey t k
holds_still s t ms k m l h = subst (λ (q : Sizes × ℕ × ℕ). HoldsIn q.0 q.1 q.2 k (state t.pass.now)) (λ j. (sizes (sym m.same.table j).now, sym m.same.base j, sym m.same.place j))
    (each_keeps (sizes s.table.now) (call_of s.pass.now) s.room s.base s.place (HoldsIn (sizes s.table.now) s.base s.place k) (load_holds (sizes s.table.now) (call_of s.pass.now) s.base s.place k) ms (state s.pass.now) (state t.pass.now) l m.does h)

pub claims_still : (s t : PinnedTable) (ms : List Met) (i : ℕ) (k : List ℕ) → MeetsInTable s t ms → Each IsEntryLoad ms → ClaimsKey s i k → ClaimsKey t i k
claims_still s t ms i k m l h = subst (λ (q : Sizes × ℕ × ℕ × ℕ). ClaimsIn q.0 q.1 i q.2 q.3 k (state t.pass.now).rooms) (λ j. (sizes (sym m.same.table j).now, sym m.same.room j, sym m.same.base j, sym m.same.place j))
    (each_keeps (sizes s.table.now) (call_of s.pass.now) s.room s.base s.place (λ (v : PassState). ClaimsIn (sizes s.table.now) s.room i s.base s.place k v.rooms) (load_claims (sizes s.table.now) (call_of s.pass.now) s.room i s.base s.place k) ms (state s.pass.now) (state t.pass.now) (each_entry ms l) m.does h)

pub claim_apart : (s : PinnedTable) (i : ℕ) (k : List ℕ) → ClaimsKey s i k → IsFound (view_of s) i → ⊥
claim_apart s i k h = h.apart
