-- Loads of words of a pinned room, which find what the pin recorded.
use Rattle.std.proofs.Common.{◌≡◌, ℕ, ◌+◌, ◌/◌, ◌^◌, ◌<◌, List, map, [], ◌∷◌, get_or, sym, refl, ap, ◌∙◌, subst, arith}
use mathlib.Core.Logic.{dite}
use native.Mathlib.Decide.{dec_lt}
use Rattle.oak_model.specs.Limits.{Sizes}
use Rattle.oak_model.proofs.Counting.{one_at-same}
use Rattle.oak_model.proofs.Lists.{at_map, rows_at}
use Rattle.oak_model.proofs.MemberLaws.{each_has}
use Rattle.arena_core.specs.Place.{content}
use Rattle.chunk_core.specs.declared.layout.TheConstants.{BOUND_WORDS}
use Rattle.chunk_core.specs.PinnedRooms.{OnRoomPin, IsGoodRoom, RoomPinHolds, found_in}
use Rattle.chunk_core.specs.CoverSums.{weight}
use Rattle.chunk_core.specs.Covers.{Cover}
use Rattle.chunk_core.specs.Rooms.{at_base, IsInRooms}
use Rattle.chunk_core.specs.ValueWord.{names_header}
use Rattle.chunk_core.proofs.Lookups.{all_at}
use Rattle.oak_core.specs.declared.states.PassState.{PassState}
use Rattle.oak_core.specs.CallSteps.{Stands}
use Rattle.oak_core.specs.Memory.{Memory, Spot, in_rooms, index, IsInside, memory, read}
use Rattle.oak_core.specs.PassState.{rooms_held}
use Rattle.oak_core.specs.Splitting.{Loads}
use Rattle.oak_core.specs.Step.{Step, load, Told}
use Rattle.oak_core.proofs.seats.AloneRuns.{load_runs, runs_as}
use Rattle.oak_core.proofs.calls.CallSteps.{step_alone}
use Rattle.oak_core.proofs.calls.QuietCalls.{quiet_load}
use Rattle.oak_core.proofs.memory.Words.{index_apart, memory_read}
use Rattle.chunk_ops.specs.declared.bounds.Bound.{Bound}
use Rattle.chunk_ops.specs.declared.bounds.Bound.TheVariants.{Low, High}
use Rattle.chunk_ops.specs.PinnedBounds.{bound_spot, bound_words}
use Rattle.chunk_ops.specs.PinRecords.{HasEntry, HasRoomPin, IsFoundWell, OnlyMeets, WordsStay, room_pin}
use Rattle.chunk_ops.specs.RoomWords.{FindsBase}
use Rattle.oak_core.specs.Loading.{IsPlain}
use Rattle.oak_core.proofs.told.PlainLoads.{met_at}

-- the load of a plain word only adds its finding
pub only_loaded : (z : Sizes) (call word n : ℕ) (v w : PassState) (q : Spot) → IsInside z q → IsPlain q → word ≡ index z q → Loads z call word v n w → OnlyMeets call v w
only_loaded z call word n v w q inside plain at l = let met = met_at z call word n v w q inside plain at l in record {
  stands = subst (Stands call v) (sym met) (record { met = record { more = _ ∷ []; met = refl; calls = (refl, tt) }; numbers = refl; knowledge = refl; fulls = refl; swept = refl; sights = refl; gones = refl; rebalances = refl });
  quiet = quiet_load z call l.spot v n w l.told;
  blocks = ap (λ (y : PassState). y.blocks) met;
  headers = ap (λ (y : PassState). y.headers) met;
  rooms = ap (λ (y : PassState). y.rooms) met;
  still = runs_as (λ a b. (n ≡ get_or a (index z l.spot) 0) × (b ≡ a)) WordsStay v w (λ a b d. d.1) (load_runs z call l.spot v n w l.told);
}

-- it is one of the spot whose number the word is
pub load_at : (z : Sizes) (call word n : ℕ) (v w : PassState) (q : Spot) → IsInside z q → word ≡ index z q → Loads z call word v n w → Told z call (load q) v n w
load_at z call word n v w q inside at l = subst (λ (p : Spot). Told z call (load p) v n w) (index_apart z l.spot q l.inside inside (l.at ∙ at)) l.told

-- and finds what stands there
pub load_reads : (z : Sizes) (call n : ℕ) (v w : PassState) (q : Spot) → (t : Told z call (load q) v n w) → read (memory z t.table.words) q ≡ n
load_reads z call n v w q t = memory_read z t.table.words q t.may ∙ t.finds

-- what a good pin found stands at each step of its pass
module _ (z : Sizes) (call r : ℕ) (x : Step) (v : PassState) (n : ℕ) (w : PassState) (p : HasRoomPin z r v) (t : Told z call x v n w) where
  abbrev m : Memory
  m = memory z t.table.words

  pub pin_holds : RoomPinHolds z m.rooms (content m.arena.bytes) (room_pin v)
  pin_holds = subst (OnRoomPin (λ q. IsGoodRoom q → RoomPinHolds z m.rooms (content m.arena.bytes) q)) p.pin.is (t.rule.rooms.good t.seat v.rooms (at_map rooms_held t.table.states t.seat v t.here)) p.pin.good

pub bound_inside : (z : Sizes) (b : Bound) (r j : ℕ) → r < z.chunks → j < BOUND_WORDS → IsInRooms z (bound_spot b r j)
bound_inside z Low r j inside lt = (inside, lt)
bound_inside z High r j inside lt = (inside, lt)

pub bound_plain : (b : Bound) (r j : ℕ) → IsPlain (in_rooms (bound_spot b r j))
bound_plain Low r j = tt
bound_plain High r j = tt

module _ (z : Sizes) (call r n : ℕ) (v w : PassState) (p : HasRoomPin z r v) where
  -- a word of a bound
  pub bound_loaded : (b : Bound) (j : ℕ) → j < BOUND_WORDS → Told z call (load (in_rooms (bound_spot b r j))) v n w → n ≡ get_or (bound_words b (room_pin v)) j 0
  bound_loaded Low j lt t = let h = pin_holds z call r (load (in_rooms (bound_spot Low r j))) v n w p t in
      sym (ap (λ (ws : List ℕ). get_or ws j 0) (sym h.low) ∙ (rows_at 0 BOUND_WORDS j ((memory z t.table.words).rooms.low (room_pin v).room) 0 lt
      ∙ ((λ i. (memory z t.table.words).rooms.low (p.pin.room i) (let e : 0 + j ≡ j = omega arith in e i)) ∙ load_reads z call n v w (in_rooms (bound_spot Low r j)) t)))
  bound_loaded High j lt t = let h = pin_holds z call r (load (in_rooms (bound_spot High r j))) v n w p t in
      sym (ap (λ (ws : List ℕ). get_or ws j 0) (sym h.high) ∙ (rows_at 0 BOUND_WORDS j ((memory z t.table.words).rooms.high (room_pin v).room) 0 lt
      ∙ ((λ i. (memory z t.table.words).rooms.high (p.pin.room i) (let e : 0 + j ≡ j = omega arith in e i)) ∙ load_reads z call n v w (in_rooms (bound_spot High r j)) t)))

-- the base, which names no header

names_none : (n : ℕ) → n < 2 ^ 64 → names_header n ≡ 0 → n < 2 ^ 63
unfolding names_header
names_none n lt e = dite (dec_lt n (2 ^ 63)) (λ l. l) (λ g. let o = one_at-same (n / 2 ^ 63) 1 (omega arith) in absurd (omega arith))

pub base_loaded : (z : Sizes) (call r n : ℕ) (v w : PassState) → HasRoomPin z r v → Told z call (load (in_rooms (at_base r))) v n w → FindsBase z call r n v w
base_loaded z call r n v w p t = let h = pin_holds z call r (load (in_rooms (at_base r))) v n w p t in let reads = load_reads z call n v w (in_rooms (at_base r)) t in let m : Memory = memory z t.table.words in record {
  step = step_alone z call (load (in_rooms (at_base r))) v n w t;
  base_is = refl;
  pinned = sym reads ∙ ((λ i. m.rooms.base (sym p.pin.room i)) ∙ h.base);
  small = names_none n (subst (λ (k : ℕ). k < 2 ^ 64) t.finds (t.rule.words.small (index z (in_rooms (at_base r)))))
      (let weighs : weight (m.rooms.pin r) ≡ 1 = subst (λ (k : ℕ). weight (m.rooms.pin k) ≡ 1) p.pin.room h.cover in
      let a = all_at z m.rooms (content m.arena.bytes) (map rooms_held t.table.states) r (λ (c : Cover). names_header c.span.base) p.inside weighs in
      let none = t.rule.covers.bases in let same : names_header (m.rooms.base r) ≡ names_header n = ap names_header reads in omega arith);
}

-- an entry that the pin found is one of the room's
pub found_inside : (z : Sizes) (r i : ℕ) (k : List ℕ) (v : PassState) → HasRoomPin z r v → HasEntry r i k v → i < z.entries
found_inside z r i k v p e = let w = each_has (IsFoundWell z) (found_in (room_pin v)) e.entry p.found e.finds.there in let lt = w.number in let n = e.finds.number in omega arith
