-- The points on rooms after a store to a word of a held room.
use Rattle.std.proofs.Common.{◌≡◌, ◌≢◌, ℕ, zero, suc, ◌*◌, ◌<◌, ◌==◌, cond, List, [], ◌∷◌, map, length, set, sym, refl, ap, ◌∙◌, subst, arith, Some}
use Rattle.std.specs.Prelude.{not, nat_lt}
use Rattle.std.proofs.lemmas.List.{length-set}
use mathlib.Core.Path.{fun_ext}
use mathlib.Core.Option.{some}
use lib.ListN.{get_elem?}
use Rattle.pin_word.specs.PinWord.{state_of, generation_of, count_of}
use Rattle.oak_model.specs.Counts.{one_at, one_if, total, rows, Each}
use Rattle.oak_model.specs.Limits.{Sizes}
use Rattle.oak_model.proofs.Counting.{test-cases}
use Rattle.oak_model.proofs.Lists.{each_map}
use Rattle.oak_model.proofs.PutLaws.{put-cases}
use Rattle.oak_model.proofs.MemberLaws.{each_filter}
use Rattle.chunk_core.specs.declared.layout.TheConstants.{BOUND_WORDS}
use Rattle.chunk_core.specs.declared.holds.Carried.{Carried}
use Rattle.chunk_core.specs.declared.holds.FoundEntry.{FoundEntry}
use Rattle.chunk_core.specs.declared.holds.HeldRoom.{HeldRoom}
use Rattle.chunk_core.specs.declared.holds.Claim.{Claim}
use Rattle.chunk_core.specs.declared.holds.MovingRange.{MovingRange}
use Rattle.chunk_core.specs.declared.holds.PinnedRoom.{PinnedRoom}
use Rattle.chunk_core.specs.declared.holds.RoomCopy.{RoomCopy}
use Rattle.chunk_core.specs.declared.holds.RoomHeldAs.{RoomHeldAs}
use Rattle.chunk_core.specs.declared.holds.RoomHeldAs.TheVariants.{Frozen, Held}
use Rattle.chunk_core.specs.declared.holds.RoomHolds.{RoomHolds}
use Rattle.chunk_core.specs.CoverSums.{weight}
use Rattle.chunk_core.specs.LinkedEntries.{entries_in, linked}
use Rattle.chunk_core.specs.MayOnRooms.{IsRoomWord}
use Rattle.chunk_core.specs.MovingRanges.{is_dropped, range_without, ranges_with}
use Rattle.chunk_core.specs.PinnedRooms.{IsPrefixStill, EntryStands, RoomPinHolds}
use Rattle.chunk_core.specs.RoomCopies.{changed, copy_with, held_with, rooms_with, entry_with}
use Rattle.chunk_core.specs.RoomRule.{room_state, AreTrueRanges, ClaimStands, IsInOrder, IsWholeCopy, IsWholeHeld, RoomsStand}
use Rattle.chunk_core.specs.RoomStep.{of_key, of_value, of_next, put_room}
use Rattle.chunk_core.specs.Rooms.{RoomMemory, RoomSpot, at_room_pin, at_base, at_count, at_latch, at_first, at_low, at_high, at_key, at_value, at_next, room_at}
use Rattle.chunk_core.proofs.HeldRooms.{room_rows}
use Rattle.chunk_core.proofs.RoomFrames.{good_still, claim_still, rooms_stepped}
use Rattle.chunk_core.proofs.Claims.{claim_cover}
use Rattle.chunk_core.proofs.RoomStores.{linked_else, read_else}

-- what a pass keeps of the rooms that it has

changed_length : {A : Type 0} (i : ℕ) (f : A → A) (xs : List A) → length (changed i f xs) ≡ length xs
unfolding changed
changed_length i f [] = refl
changed_length zero f (x ∷ xs) = refl
changed_length (suc i) f (x ∷ xs) = ap suc (changed_length i f xs)

pub whole_with : (z : Sizes) (p : RoomSpot) (x : ℕ) (w : RoomCopy) → IsWholeCopy z w → IsWholeCopy z (copy_with p x w)
whole_with z (at_room_pin r) x w h = h
whole_with z (at_base r) x w h = record { low = h.low; high = h.high; entries = h.entries }
whole_with z (at_count r) x w h = record { low = h.low; high = h.high; entries = h.entries }
whole_with z (at_latch r) x w h = record { low = h.low; high = h.high; entries = h.entries }
whole_with z (at_first r) x w h = record { low = h.low; high = h.high; entries = h.entries }
whole_with z (at_low r j) x w h = record { low = length-set w.low j x ∙ h.low; high = h.high; entries = h.entries }
whole_with z (at_high r j) x w h = record { low = h.low; high = length-set w.high j x ∙ h.high; entries = h.entries }
whole_with z (at_key r i) x w h = record { low = h.low; high = h.high; entries = changed_length i (entry_with of_key x) w.entries ∙ h.entries }
whole_with z (at_value r i) x w h = record { low = h.low; high = h.high; entries = changed_length i (entry_with of_value x) w.entries ∙ h.entries }
whole_with z (at_next r i) x w h = record { low = h.low; high = h.high; entries = changed_length i (entry_with of_next x) w.entries ∙ h.entries }

whole_held : (z : Sizes) (p : RoomSpot) (x : ℕ) (s : RoomHeldAs) → IsWholeHeld z s → IsWholeHeld z (held_with p x s)
whole_held z p x Frozen h = h
whole_held z p x (Held w) h = whole_with z p x w h

pub whole_rooms : (z : Sizes) (p : RoomSpot) (x : ℕ) (hs : List HeldRoom) → Each (λ (h : HeldRoom). IsWholeHeld z h.held_as) hs → Each (λ (h : HeldRoom). IsWholeHeld z h.held_as) (rooms_with p x hs)
whole_rooms z p x [] e = tt
whole_rooms z p x (h ∷ hs) e = (test-cases (h.room == room_at p) (λ t. IsWholeHeld z (cond t (held_with p x h.held_as) h.held_as)) (λ _. whole_held z p x h.held_as e.0) (λ _. e.0), whole_rooms z p x hs e.1)

state_with : (p : RoomSpot) (x : ℕ) (s : RoomHeldAs) → room_state (held_with p x s) ≡ room_state s
state_with p x Frozen = refl
state_with p x (Held w) = refl

pub rows_with : (p : RoomSpot) (x j s : ℕ) (hs : List HeldRoom) → room_rows j s (rooms_with p x hs) ≡ room_rows j s hs
unfolding room_rows total
rows_with p x j s [] = refl
rows_with p x j s (h ∷ hs) = let t = rows_with p x j s hs in let e : room_state (cond (h.room == room_at p) (held_with p x h.held_as) h.held_as) ≡ room_state h.held_as = test-cases (h.room == room_at p) (λ b. room_state (cond b (held_with p x h.held_as) h.held_as) ≡ room_state h.held_as) (λ _. state_with p x h.held_as) (λ _. refl) in
    let q = ap (λ (y : ℕ). one_at h.room j * one_at y s) e in omega arith

-- the ranges that lose entries are true still
pub true_dropped : (content : ℕ → List ℕ) (word : ℕ) (gs : List MovingRange) → AreTrueRanges content gs → AreTrueRanges content (ranges_with word gs)
true_dropped content word gs h = test-cases (word == 0) (λ t. AreTrueRanges content (cond t gs (map (range_without word) gs))) (λ _. h) (λ _. each gs h)
  where
    each : (gs : List MovingRange) → AreTrueRanges content gs → AreTrueRanges content (map (range_without word) gs)
    each [] h = tt
    each (g ∷ gs) h = (each_filter (λ c. not (is_dropped word c)) (λ (c : Carried). content c.word ≡ c.words) g.carried h.0, each gs h.1)

-- a store changes no pin word, and the latch word of a held room is free before and after
pub pin_still : (m : RoomMemory) (p : RoomSpot) (x : ℕ) → IsRoomWord p x → (j : ℕ) → (put_room m p x).pin j ≡ m.pin j
pin_still m (at_room_pin r) x is j = absurd is
pin_still m (at_base r) x is j = refl
pin_still m (at_count r) x is j = refl
pin_still m (at_latch r) x is j = refl
pin_still m (at_first r) x is j = refl
pin_still m (at_low r i) x is j = refl
pin_still m (at_high r i) x is j = refl
pin_still m (at_key r i) x is j = refl
pin_still m (at_value r i) x is j = refl
pin_still m (at_next r i) x is j = refl

latch_still : (m : RoomMemory) (p : RoomSpot) (x : ℕ) → IsRoomWord p x → m.latch (room_at p) ≡ 0 → (j : ℕ) → (put_room m p x).latch j ≡ m.latch j
latch_still m (at_room_pin r) x is free j = absurd is
latch_still m (at_base r) x is free j = refl
latch_still m (at_count r) x is free j = refl
latch_still m (at_latch r) x is free j = put-cases m.latch r x j (λ (t : ℕ). t ≡ m.latch j) (λ e. is ∙ sym (ap m.latch e ∙ free)) (λ _. refl)
latch_still m (at_first r) x is free j = refl
latch_still m (at_low r i) x is free j = refl
latch_still m (at_high r i) x is free j = refl
latch_still m (at_key r i) x is free j = refl
latch_still m (at_value r i) x is free j = refl
latch_still m (at_next r i) x is free j = refl

module _ (z : Sizes) (m : RoomMemory) (content : ℕ → List ℕ) (hs : List RoomHolds) (rule : RoomsStand z m content hs) (seat : ℕ) (a : RoomHolds) (here : get_elem? hs seat ≡ some a)
    (p : RoomSpot) (x : ℕ) (word : IsRoomWord p x) (none : weight (m.pin (room_at p)) ≡ 0) (moving : List MovingRange) (true_ranges : AreTrueRanges content moving) where
  abbrev m' : RoomMemory
  m' = put_room m p x

  abbrev b : RoomHolds
  b = record a { held = rooms_with p x a.held; moving = moving }

  pins : (j : ℕ) → m'.pin j ≡ m.pin j
  pins = pin_still m p x word

  -- a cover is another room
  other : (j : ℕ) → weight (m.pin j) ≡ 1 → j ≢ room_at p
  other j w e = absurd (let q = ap (λ (t : ℕ). weight (m.pin t)) e in let n = none in omega arith)

  entry_else : (j : ℕ) → j ≢ room_at p → (e : FoundEntry) → EntryStands (linked m j) (m.key j) content e → EntryStands (linked m' j) (m'.key j) content e
  entry_else j ne e t = record { linked = ap (total (λ k. one_at k e.number)) (linked_else m p x j ne) ∙ t.linked; word = read_else m p x (at_key j e.number) ne ∙ t.word; words = t.words }

  -- a claim is of a cover
  claim_else : (j : ℕ) (u : RoomHolds) (c : Claim) → get_elem? hs j ≡ some u → u.claim ≡ Some c → ClaimStands m content c → ClaimStands m' content c
  claim_else j u c at is h = record { inside = subst (λ (n : ℕ). c.number < entries_in n) (sym (read_else m p x (at_count c.room) (other c.room (claim_cover z m content hs rule j u c at is)))) h.inside; words = h.words }

  pin_else : (q : PinnedRoom) → RoomPinHolds z m content q → RoomPinHolds z m' content q
  pin_else q h = let ne = other q.room h.cover in record {
    inside = h.inside;
    cover = ap weight (pins q.room) ∙ h.cover;
    base = read_else m p x (at_base q.room) ne ∙ h.base;
    low = ap (rows 0 BOUND_WORDS) (fun_ext (λ n. read_else m p x (at_low q.room n) ne)) ∙ h.low;
    high = ap (rows 0 BOUND_WORDS) (fun_ext (λ n. read_else m p x (at_high q.room n) ne)) ∙ h.high;
    counted = h.counted;
    prefix = subst (λ (t : ℕ). IsPrefixStill t q.count) (sym (read_else m p x (at_count q.room) ne)) h.prefix;
    entries = each_map (EntryStands (linked m q.room) (m.key q.room) content) (EntryStands (linked m' q.room) (m'.key q.room) content) q.entries (entry_else q.room ne) h.entries;
    walked = each_map (EntryStands (linked m q.room) (m.key q.room) content) (EntryStands (linked m' q.room) (m'.key q.room) content) q.walked (entry_else q.room ne) h.walked;
  }

  ordered : (j : ℕ) → j ≢ room_at p → IsInOrder z content (m.count j) (m.key j) (m.value j) (linked m j) (m.low j 0) (m.high j 0) → IsInOrder z content (m'.count j) (m'.key j) (m'.value j) (linked m' j) (m'.low j 0) (m'.high j 0)
  ordered j ne o = subst (λ (t : ℕ × (ℕ → ℕ) × (ℕ → ℕ) × List ℕ × ℕ × ℕ). IsInOrder z content t.0 t.1 t.2 t.3 t.4 t.5) (λ i. (sym (read_else m p x (at_count j) ne) i, sym (fun_ext (λ n. read_else m p x (at_key j n) ne)) i, sym (fun_ext (λ n. read_else m p x (at_value j n) ne)) i, sym (linked_else m p x j ne) i, sym (read_else m p x (at_low j 0) ne) i, sym (read_else m p x (at_high j 0) ne) i)) o

  pub store_rooms : RoomsStand z (put_room m p x) content (set hs seat (record a { held = rooms_with p x a.held; moving = moving }))
  unfolding room_rows
  store_rooms = rooms_stepped z m m' content hs seat a b here (record {
    pins = λ j. let e = ap count_of (pins j) in omega arith;
    held = λ j s is. let e = ap (λ (w : ℕ). one_at (state_of w) s) (pins j) in let t = rows_with p x j s a.held in omega arith;
    states = λ j. let e = ap state_of (pins j) in let o = rule.states j in omega arith;
    generations = λ j. ap generation_of (pins j);
    latches = λ j. latch_stays j ∙ rule.latches j;
    either = λ j i n w e. let was = sym (ap weight (pins j)) ∙ w in let q = rule.either j i was in let l = ap (total (λ k. one_at k i)) (linked_else m p x j (other j was)) in omega arith;
    keyed = λ j i n w l e. let was = sym (ap weight (pins j)) ∙ w in let ne = other j was in let q = rule.keyed j i was (subst (λ (t : ℕ). i < entries_in t) (read_else m p x (at_count j) ne) l) in let g = ap (total (λ k. one_at k i)) (linked_else m p x j ne) in
        let y = ap (λ (t : ℕ). one_if (nat_lt 0 t)) (read_else m p x (at_key j i) ne) in omega arith;
    claims = λ j u c ne at is h. claim_else j u c at is h;
    own_claim = claim_still m m' content content a.claim (λ c is h. claim_else seat a c here is h) (rule.claimed seat a here);
    ordered = λ j w. let was = sym (ap weight (pins j)) ∙ w in ordered j (other j was) (rule.ordered j was);
    others = λ j u q ne at is h. pin_else q h;
    own = good_still z m m' content content a.pin (λ q _ h. pin_else q h) (rule.good seat a here);
    carried = true_ranges;
    stands = record { claim = (rule.passes seat a here).claim; whole = whole_rooms z p x a.held (rule.passes seat a here).whole };
  }) rule
    where
      latch_stays : (j : ℕ) → m'.latch j ≡ m.latch j
      latch_stays = latch_still m p x word (rule.latches (room_at p))
