-- Words change that are in no cover: those of an entry that is not linked.
use Rattle.std.proofs.Common.{◌≡◌, ℕ, ◌*◌, ◌<◌, ◌≤◌, ◌==◌, ◌&&◌, cond, Bool, false, List, map, set, sym, refl, ap, ◌∙◌, subst, arith, ne_eqb}
use mathlib.Core.Logic.{dite}
use mathlib.Core.Option.{some}
use native.Mathlib.Decide.{ℕ_discrete}
use lib.ListN.{get_elem?}
use Rattle.std.proofs.lemmas.Bool.{and_right}
use Rattle.oak_model.specs.Counts.{one_at, total, rows}
use Rattle.oak_model.specs.Limits.{Sizes}
use Rattle.oak_model.proofs.Lists.{each_map}
use Rattle.chunk_core.specs.declared.layout.TheConstants.{BOUND_WORDS}
use Rattle.chunk_core.specs.declared.holds.FoundEntry.{FoundEntry}
use Rattle.chunk_core.specs.declared.holds.PinnedRoom.{PinnedRoom}
use Rattle.chunk_core.specs.declared.holds.RoomHolds.{RoomHolds}
use Rattle.chunk_core.specs.CoverSums.{all_of, weight}
use Rattle.chunk_core.specs.Covers.{Entry, Cover, cover_at, entry_at, key_at, span_in}
use Rattle.chunk_core.specs.KeyWords.{low_number, high_number}
use Rattle.chunk_core.specs.LinkedEntries.{linked, reached, farthest, entries_in, prefix_in}
use Rattle.chunk_core.specs.PinnedRooms.{IsPrefixStill, EntryStands, RoomPinHolds}
use Rattle.chunk_core.specs.RoomRule.{IsInOrder}
use Rattle.chunk_core.specs.RoomStep.{EntryField, of_key, of_value, of_next, entry_spot, put_room}
use Rattle.chunk_core.specs.Rooms.{RoomMemory}
use Rattle.chunk_core.proofs.CoverLaws.{all_still}
use Rattle.chunk_core.proofs.EntryNumbers.{each_of, map_each}
use Rattle.chunk_core.proofs.RoomLinks.{IsLinked}
use Rattle.chunk_core.proofs.Chains.{chain_same, rises_same}

-- no word changes that a cover, or a pin, has: those of entries that are not linked may, but for the key words and value words past the count
pub record StaysLinked (m m' : RoomMemory) : Type 0 where
  pub pin : (j : ℕ) → m'.pin j ≡ m.pin j
  pub base : (j : ℕ) → m'.base j ≡ m.base j
  pub count : (j : ℕ) → m'.count j ≡ m.count j
  pub low : (j : ℕ) → m'.low j ≡ m.low j
  pub high : (j : ℕ) → m'.high j ≡ m.high j
  pub latch : (j : ℕ) → m'.latch j ≡ m.latch j
  pub first : (j : ℕ) → m'.first j ≡ m.first j
  pub key : (j k : ℕ) → IsLinked m j k → m'.key j k ≡ m.key j k
  pub value : (j k : ℕ) → IsLinked m j k → m'.value j k ≡ m.value j k
  pub next : (j k : ℕ) → IsLinked m j k → m'.next j k ≡ m.next j k
  pub zeros : (j k : ℕ) → entries_in (m.count j) ≤ k → (m'.key j k ≡ m.key j k) × (m'.value j k ≡ m.value j k)

module _ (z : Sizes) (m m' : RoomMemory) (content : ℕ → List ℕ) (s : StaysLinked m m') where
  pub linked_stay : (j : ℕ) → linked m' j ≡ linked m j
  linked_stay j = ap (reached (m'.next j)) (s.first j) ∙ chain_same farthest (m.next j) (m'.next j) (m.first j) (each_of (λ k. m'.next j k ≡ m.next j k) (linked m j) (λ k l. s.next j k l))

  entry_stays : (j k : ℕ) → IsLinked m j k → entry_at m' content j k ≡ entry_at m content j k
  entry_stays j k l = λ i. record { word = s.key j k l i; value = s.value j k l i; key = key_at content (s.key j k l i) }

  pub cover_stays : (j : ℕ) → cover_at m' content j ≡ cover_at m content j
  cover_stays j = (λ i. record {
    span = record { low = low_number (rows 0 BOUND_WORDS (s.low j i)); high = high_number (rows 0 BOUND_WORDS (s.high j i)); base = s.base j i };
    entries = map (entry_at m' content j) (linked_stay j i);
  }) ∙ ap (λ (xs : List Entry). record { span = span_in m j; entries = xs }) (map_each (entry_at m' content j) (entry_at m content j) (linked m j) (each_of (λ k. entry_at m' content j k ≡ entry_at m content j k) (linked m j) (λ k l. entry_stays j k l)))

  pub stays_covers : (hs : List RoomHolds) (seat : ℕ) (a b : RoomHolds) → get_elem? hs seat ≡ some a → b.moving ≡ a.moving → (F : Cover → ℕ) → all_of z m' content (set hs seat b) F ≡ all_of z m content hs F
  stays_covers hs seat a b here moving F = all_still z m m' content content hs seat a b here moving F (λ j _. λ i. weight (s.pin j i) * F (cover_stays j i))

  entry_on : (j : ℕ) (e : FoundEntry) → EntryStands (linked m j) (m.key j) content e → EntryStands (linked m' j) (m'.key j) content e
  entry_on j e t = record { linked = ap (total (λ k. one_at k e.number)) (linked_stay j) ∙ t.linked; word = s.key j e.number (let l = t.linked in omega arith) ∙ t.word; words = t.words }

  pub pin_stays : (p : PinnedRoom) → RoomPinHolds z m content p → RoomPinHolds z m' content p
  pin_stays p h = record {
    inside = h.inside;
    cover = ap weight (s.pin p.room) ∙ h.cover;
    base = s.base p.room ∙ h.base;
    low = ap (rows 0 BOUND_WORDS) (s.low p.room) ∙ h.low;
    high = ap (rows 0 BOUND_WORDS) (s.high p.room) ∙ h.high;
    counted = h.counted;
    prefix = subst (λ (t : ℕ). IsPrefixStill t p.count) (sym (s.count p.room)) h.prefix;
    entries = each_map (EntryStands (linked m p.room) (m.key p.room) content) (EntryStands (linked m' p.room) (m'.key p.room) content) p.entries (entry_on p.room) h.entries;
    walked = each_map (EntryStands (linked m p.room) (m.key p.room) content) (EntryStands (linked m' p.room) (m'.key p.room) content) p.walked (entry_on p.room) h.walked;
  }

  pub order_stays : (j : ℕ) → IsInOrder z content (m.count j) (m.key j) (m.value j) (linked m j) (m.low j 0) (m.high j 0) → IsInOrder z content (m'.count j) (m'.key j) (m'.value j) (linked m' j) (m'.low j 0) (m'.high j 0)
  order_stays j o = subst (λ (t : ℕ × List ℕ × (ℕ → ℕ) × (ℕ → ℕ)). IsInOrder z content t.0 (m'.key j) (m'.value j) t.1 (t.2 0) (t.3 0)) (λ i. (sym (s.count j) i, sym (linked_stay j) i, sym (s.low j) i, sym (s.high j) i)) (record {
    few = o.few;
    prefix = o.prefix;
    sorted = λ i k lt k_in. subst (λ (t : ℕ × ℕ). t.0 < t.1) (λ q. (key_at content (sym (s.key j i (front i (omega arith))) q), key_at content (sym (s.key j k (front k k_in)) q))) (o.sorted i k lt k_in);
    used = o.used;
    rises = rises_same (λ i. key_at content (m.key j i)) (λ i. key_at content (m'.key j i)) (linked m j) (each_of (λ i. key_at content (m'.key j i) ≡ key_at content (m.key j i)) (linked m j) (λ i l. ap (key_at content) (s.key j i l))) o.rises;
    front = o.front;
    zeros = λ i l inside. let e = s.zeros j i l in let q = o.zeros i l inside in (e.0 ∙ q.0, e.1 ∙ q.1);
    bounds = o.bounds;
  })
    where
      front : (i : ℕ) → i < prefix_in (m.count j) → IsLinked m j i
      front i l = let f = o.front i l in omega arith

-- a word of an entry in use that is not linked

not_it : (m : RoomMemory) (r i j k : ℕ) (P : ℕ → ℕ → Type 0) → P j k → (P r i → ⊥) → ((k == i) && (j == r)) ≡ false
not_it m r i j k P h none = dite (ℕ_discrete j r)
    (λ e. ap (λ (t : Bool). t && (j == r)) (ne_eqb k i (λ q. absurd (none (subst (λ (t : ℕ × ℕ). P t.0 t.1) (λ u. (e u, q u)) h)))))
    (λ ne. and_right (k == i) (j == r) (ne_eqb j r ne))

pub stays_unlinked : (m : RoomMemory) (f : EntryField) (r i x : ℕ) → total (λ j. one_at j i) (linked m r) ≡ 0 → i < entries_in (m.count r) → StaysLinked m (put_room m (entry_spot f r i) x)
stays_unlinked m f r i x none low = go f
  where
    linked_not : (j k : ℕ) → IsLinked m j k → ((k == i) && (j == r)) ≡ false
    linked_not j k l = not_it m r i j k (IsLinked m) l (λ q. omega arith)

    past_not : (j k : ℕ) → entries_in (m.count j) ≤ k → ((k == i) && (j == r)) ≡ false
    past_not j k l = not_it m r i j k (λ j k. entries_in (m.count j) ≤ k) l (λ q. omega arith)

    go : (f : EntryField) → StaysLinked m (put_room m (entry_spot f r i) x)
    go of_key = record { pin = λ j. refl; base = λ j. refl; count = λ j. refl; low = λ j. refl; high = λ j. refl; latch = λ j. refl; first = λ j. refl; key = λ j k l. ap (λ (t : Bool). cond t x (m.key j k)) (linked_not j k l); value = λ j k l. refl; next = λ j k l. refl; zeros = λ j k l. (ap (λ (t : Bool). cond t x (m.key j k)) (past_not j k l), refl) }
    go of_value = record { pin = λ j. refl; base = λ j. refl; count = λ j. refl; low = λ j. refl; high = λ j. refl; latch = λ j. refl; first = λ j. refl; key = λ j k l. refl; value = λ j k l. ap (λ (t : Bool). cond t x (m.value j k)) (linked_not j k l); next = λ j k l. refl; zeros = λ j k l. (refl, ap (λ (t : Bool). cond t x (m.value j k)) (past_not j k l)) }
    go of_next = record { pin = λ j. refl; base = λ j. refl; count = λ j. refl; low = λ j. refl; high = λ j. refl; latch = λ j. refl; first = λ j. refl; key = λ j k l. refl; value = λ j k l. refl; next = λ j k l. ap (λ (t : Bool). cond t x (m.next j k)) (linked_not j k l); zeros = λ j k l. (refl, refl) }
