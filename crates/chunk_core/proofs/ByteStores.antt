-- The words of a block change that no entry has: no key changes, and what passes keep of keys stays true.
use Rattle.std.proofs.Common.{Some, ◌≡◌, ℕ, suc, ◌+◌, ◌-◌, ◌*◌, ◌<◌, List, [], ◌∷◌, map, sym, refl, ap, ◌∙◌, subst, arith}
use Rattle.std.specs.Prelude.{nat_lt}
use Rattle.std.proofs.lemmas.Bool.{lt-ltb}
use mathlib.Core.Logic.{dite}
use mathlib.Core.Option.{some}
use native.Mathlib.Decide.{ℕ_discrete}
use lib.ListN.{get_elem?}
use Rattle.chunk_core.specs.declared.holds.Carried.{Carried}
use Rattle.chunk_core.specs.declared.holds.Claim.{Claim}
use Rattle.chunk_core.specs.declared.holds.FoundEntry.{FoundEntry}
use Rattle.chunk_core.specs.declared.holds.MovingRange.{MovingRange}
use Rattle.chunk_core.specs.declared.holds.PinnedRoom.{PinnedRoom}
use Rattle.chunk_core.specs.declared.holds.RoomHolds.{RoomHolds}
use Rattle.oak_model.specs.Counts.{one_if, Has}
use Rattle.oak_model.specs.Limits.{Sizes}
use Rattle.oak_model.proofs.Counting.{total_map}
use Rattle.oak_model.proofs.Lists.{each_map}
use Rattle.oak_model.proofs.MemberLaws.{each_in, total_has}
use Rattle.oak_model.proofs.SumLaws.{times-one, times-none, total_in}
use Rattle.chunk_core.specs.CoverRule.{CoversPartition}
use Rattle.chunk_core.specs.CoverSums.{covers, weight, each, all_of, owning, owners_in_rooms}
use Rattle.chunk_core.specs.Covers.{Entry, Cover, cover_at, used_at, span_in, entry_at, key_at, entry_from, cover_from, moving_of}
use Rattle.chunk_core.specs.KeyWords.{key_in}
use Rattle.chunk_core.specs.LinkedEntries.{linked, in_use, entries_in, first_numbers}
use Rattle.chunk_core.specs.PinnedRooms.{EntryStands, RoomPinHolds}
use Rattle.chunk_core.specs.RoomRule.{AreTrueRanges, ClaimStands, RoomsStand}
use Rattle.chunk_core.specs.Rooms.{RoomMemory}
use Rattle.chunk_core.proofs.CoverLaws.{covers_same, weight-le, room_le, range_le}
use Rattle.chunk_core.proofs.CoverFrames.{partition_same}
use Rattle.chunk_core.proofs.EntryNumbers.{each_of, map_each, numbers_once}
use Rattle.chunk_core.proofs.RoomFrames.{claim_still, good_still}
use Rattle.chunk_core.proofs.RoomLinks.{IsLinked, linked_below}
use Rattle.chunk_core.proofs.Chains.{rises_same}
use Rattle.chunk_core.proofs.Claims.{claim_cover}

-- a word that is not 0 does not name the block, where its entry has it not
apart_of : (n word : ℕ) → 0 < word → one_if (nat_lt 0 word) * n ≡ 0 → n ≡ 0
apart_of n word l e = sym (times-one (one_if (nat_lt 0 word)) n (ap one_if (lt-ltb 0 word l))) ∙ e

-- `names_it` says which key words name the block
module _ (z : Sizes) (m : RoomMemory) (content content' : ℕ → List ℕ) (hs : List RoomHolds) (names_it is_key_word : ℕ → ℕ) (apart : (word : ℕ) → names_it word ≡ 0 → content' word ≡ content word) (key_some : (word : ℕ) → 0 < is_key_word word → 0 < word)
    (inside_of : (r : ℕ) → weight (m.pin r) ≡ 1 → r < z.chunks) (none : owners_in_rooms z m content hs names_it ≡ 0) (parts : CoversPartition z m content is_key_word hs) where
  nothing_at : (cover : ℕ → Cover) (F : Cover → ℕ) → covers z.chunks m.pin cover (map moving_of hs) F ≡ 0 → (r : ℕ) → r < z.chunks → weight (m.pin r) ≡ 1 → F (cover r) ≡ 0
  nothing_at cover F e r l w = let t = room_le z.chunks m.pin cover (map moving_of hs) F r l w in omega arith

  -- no entry in use of a room that has a key has the block
  used_word : (r : ℕ) → r < z.chunks → weight (m.pin r) ≡ 1 → (i : ℕ) → i < entries_in (m.count r) → 0 < m.key r i → content' (m.key r i) ≡ content (m.key r i)
  used_word r l w i lt some_key = let a = nothing_at (used_at m content) (each (owning names_it)) none r l w in let t = total_map (entry_at m content r) (owning names_it (span_in m r)) (in_use m r) in
      let s = total_in (λ j. owning names_it (span_in m r) (entry_at m content r j)) i (first_numbers (entries_in (m.count r))) (let n = numbers_once (entries_in (m.count r)) i lt in omega arith) in
      apart (m.key r i) (apart_of (names_it (m.key r i)) (m.key r i) some_key (omega arith))

  -- a carried entry has not the block either
  carried_word : (j : ℕ) (a : RoomHolds) (i : ℕ) (g : MovingRange) (x : Carried) → get_elem? hs j ≡ some a → get_elem? a.moving i ≡ some g → Has x g.carried → content' x.word ≡ content x.word
  carried_word j a i g x at range has = let l = range_le z.chunks m.pin (used_at m content) hs (each (owning names_it)) j a at i g range in
      let s = total_map entry_from (owning names_it (cover_from g).span) g.carried in let h = total_has (λ (y : Carried). owning names_it (cover_from g).span (entry_from y)) g.carried x has in
      let l2 = range_le z.chunks m.pin (cover_at m content) hs (each (λ s y. 1 - is_key_word y.word)) j a at i g range in
      let s2 = total_map entry_from (λ (y : Entry). 1 - is_key_word y.word) g.carried in let h2 = total_has (λ (y : Carried). 1 - is_key_word y.word) g.carried x has in let pl = parts.placed in
      apart x.word (apart_of (names_it x.word) x.word (key_some x.word (omega arith)) (omega arith))

  module _ (s : RoomsStand z m content hs) where
    -- nor has a linked one
    room_word : (r : ℕ) → r < z.chunks → weight (m.pin r) ≡ 1 → (i : ℕ) → IsLinked m r i → content' (m.key r i) ≡ content (m.key r i)
    room_word r l w i there = let p = nothing_at (cover_at m content) (each (λ s x. 1 - is_key_word x.word)) parts.placed r l w in let q = total_map (entry_at m content r) (λ (x : Entry). 1 - is_key_word x.word) (linked m r) in
        let y = total_in (λ j. 1 - is_key_word (m.key r j)) i (linked m r) there in used_word r l w i (linked_below z m content r (s.ordered r w) i there) (key_some (m.key r i) (omega arith))

    cover_still : (r : ℕ) → r < z.chunks → weight (m.pin r) ≡ 1 → cover_at m content' r ≡ cover_at m content r
    cover_still r l w = ap (λ (xs : List Entry). record { span = span_in m r; entries = xs }) (map_each (entry_at m content' r) (entry_at m content r) (linked m r)
        (each_of (λ i. entry_at m content' r i ≡ entry_at m content r i) (linked m r) (λ i there. ap (λ (ws : List ℕ). record { word = m.key r i; value = m.value r i; key = key_in (m.key r i) ws }) (room_word r l w i there))))

    -- nothing that is added up over the covers changes
    pub bytes_covers : (F : Cover → ℕ) → all_of z m content' hs F ≡ all_of z m content hs F
    bytes_covers F = covers_same z.chunks m.pin m.pin (cover_at m content) (cover_at m content') (map moving_of hs) F (λ r l. dite (ℕ_discrete (weight (m.pin r)) 0)
        (λ e. times-none (weight (m.pin r)) (F (cover_at m content' r)) e ∙ sym (times-none (weight (m.pin r)) (F (cover_at m content r)) e)) (λ ne. ap (λ (t : Cover). weight (m.pin r) * F t) (cover_still r l (let q = weight-le (m.pin r) in omega arith))))

    pub bytes_partition : CoversPartition z m content' is_key_word hs
    bytes_partition = partition_same z m m content content' is_key_word hs hs bytes_covers parts

    entry_same : (r : ℕ) → r < z.chunks → weight (m.pin r) ≡ 1 → (e : FoundEntry) → EntryStands (linked m r) (m.key r) content e → EntryStands (linked m r) (m.key r) content' e
    entry_same r l w e t = record { linked = t.linked; word = t.word; words = subst (λ (y : ℕ). content' y ≡ content y) t.word (room_word r l w e.number (let q = t.linked in omega arith)) ∙ t.words }

    -- what is claimed with a key is in use
    claim_same : (j : ℕ) (u : RoomHolds) (c : Claim) → get_elem? hs j ≡ some u → u.claim ≡ Some c → m.key c.room c.number ≡ c.entry.word → ClaimStands m content c → ClaimStands m content' c
    claim_same j u c at is word h = record {
      inside = h.inside;
      words = λ l. let w = claim_cover z m content hs s j u c at is in
          subst (λ (y : ℕ). content' y ≡ content y) word (used_word c.room (inside_of c.room w) w c.number h.inside (subst (λ (y : ℕ). 0 < y) (sym word) l)) ∙ h.words l;
    }

    entry_on : (p : PinnedRoom) → RoomPinHolds z m content p → RoomPinHolds z m content' p
    entry_on p h = record {
      inside = h.inside;
      cover = h.cover;
      base = h.base;
      low = h.low;
      high = h.high;
      counted = h.counted;
      prefix = h.prefix;
      entries = each_map (EntryStands (linked m p.room) (m.key p.room) content) (EntryStands (linked m p.room) (m.key p.room) content') p.entries (λ e t. entry_same p.room h.inside h.cover e t) h.entries;
      walked = each_map (EntryStands (linked m p.room) (m.key p.room) content) (EntryStands (linked m p.room) (m.key p.room) content') p.walked (λ e t. entry_same p.room h.inside h.cover e t) h.walked;
    }

    -- the points on rooms, where the key words that passes keep of claimed entries are true
    pub bytes_rooms : ((j : ℕ) (u : RoomHolds) (c : Claim) → get_elem? hs j ≡ some u → u.claim ≡ Some c → m.key c.room c.number ≡ c.entry.word) → RoomsStand z m content' hs
    bytes_rooms kept = record {
      counted = s.counted;
      held = s.held;
      states = s.states;
      generations = s.generations;
      latches = s.latches;
      ordered = λ r w. let o = s.ordered r w in let inside = inside_of r w in record {
        few = o.few;
        prefix = o.prefix;
        sorted = λ i j lt k. subst (λ (t : ℕ × ℕ). t.0 < t.1) (λ q. (sym (same r inside w i (let f = o.front i (omega arith) in omega arith)) q, sym (same r inside w j (let f = o.front j k in omega arith)) q)) (o.sorted i j lt k);
        used = o.used;
        rises = rises_same (λ i. key_at content (m.key r i)) (λ i. key_at content' (m.key r i)) (linked m r) (each_of (λ i. key_at content' (m.key r i) ≡ key_at content (m.key r i)) (linked m r) (λ i there. same r inside w i there)) o.rises;
        front = o.front;
        zeros = o.zeros;
        bounds = o.bounds;
      };
      either = s.either;
      keyed = s.keyed;
      claimed = λ j a at. claim_still m m content content' a.claim (λ c is h. claim_same j a c at is (kept j a c at is) h) (s.claimed j a at);
      good = λ j a at. good_still z m m content content' a.pin (λ p _ h. entry_on p h) (s.good j a at);
      carried = λ j a at. ranges j a at a.moving 0 (λ i g e. subst (λ (t : ℕ). get_elem? a.moving t ≡ some g) (let q : i ≡ 0 + i = omega arith in q) e) (s.carried j a at);
      passes = s.passes;
    }
      where
        same : (r : ℕ) → r < z.chunks → weight (m.pin r) ≡ 1 → (i : ℕ) → IsLinked m r i → key_at content' (m.key r i) ≡ key_at content (m.key r i)
        same r l w i there = ap (key_in (m.key r i)) (room_word r l w i there)

        ranges : (j : ℕ) (a : RoomHolds) → get_elem? hs j ≡ some a → (gs : List MovingRange) (n : ℕ) → ((i : ℕ) (g : MovingRange) → get_elem? gs i ≡ some g → get_elem? a.moving (n + i) ≡ some g) → AreTrueRanges content gs → AreTrueRanges content' gs
        ranges j a at [] n sub t = tt
        ranges j a at (g ∷ gs) n sub t = (
          each_in (λ (x : Carried). content x.word ≡ x.words) (λ (x : Carried). content' x.word ≡ x.words) g.carried (λ x has e. carried_word j a (n + 0) g x at (sub 0 g refl) has ∙ e) t.0,
          ranges j a at gs (suc n) (λ i y e. subst (λ (q : ℕ). get_elem? a.moving q ≡ some y) (let q : n + suc i ≡ suc n + i = omega arith in q) (sub (suc i) y e)) t.1,
        )
