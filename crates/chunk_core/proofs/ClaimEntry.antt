-- A pass claims the entry past the count: it is in use from then on, with no key, and no cover changes.
use Rattle.std.proofs.Common.{◌≡◌, ◌≢◌, ℕ, suc, ◌+◌, ◌*◌, ◌^◌, ◌<◌, ◌≤◌, List, map, set, sym, refl, ap, ◌∙◌, subst, arith, Option, Some, None}
use Rattle.std.specs.Prelude.{nat_lt}
use mathlib.Core.Logic.{dite}
use mathlib.Core.Option.{some}
use native.Mathlib.Decide.{ℕ_discrete}
use lib.ListN.{get_elem?}
use Rattle.oak_model.specs.Counts.{one_if, one_at, total}
use Rattle.oak_model.specs.Limits.{Sizes}
use Rattle.oak_model.proofs.Counting.{one_at-same, one_at-other, total_map}
use Rattle.oak_model.proofs.Lists.{each_map, map_set_same}
use Rattle.oak_model.proofs.PutLaws.{put-here, put-else}
use Rattle.oak_model.proofs.SumLaws.{times-one, times-none}
use Rattle.chunk_core.specs.declared.holds.PinnedRoom.{PinnedRoom}
use Rattle.chunk_core.specs.declared.holds.RoomHolds.{RoomHolds}
use Rattle.chunk_core.specs.CoverRule.{CoversPartition}
use Rattle.chunk_core.specs.CoverSums.{covers, all_of, weight, each, owning, owners_in_rooms}
use Rattle.chunk_core.specs.Covers.{Cover, used_at, entry_at, span_in, moving_of}
use Rattle.chunk_core.specs.LinkedEntries.{linked, first_numbers, entries_in, prefix_in}
use Rattle.chunk_core.specs.PinnedRooms.{OnRoomPin, IsGoodRoom, IsPrefixStill, RoomPinHolds}
use Rattle.chunk_core.specs.RoomHolds.{claims_of, claims_on}
use Rattle.chunk_core.specs.RoomReads.{claimed_at}
use Rattle.chunk_core.specs.RoomRule.{IsInOrder, ClaimIsPinned, RoomsStand}
use Rattle.chunk_core.specs.RoomStep.{put_room}
use Rattle.chunk_core.specs.Rooms.{RoomMemory, at_count}
use Rattle.chunk_core.proofs.Claims.{claim_stands, unclaimed_past}
use Rattle.chunk_core.proofs.CoverFrames.{partition_same}
use Rattle.chunk_core.proofs.CoverLaws.{all_still, covers_same}
use Rattle.chunk_core.proofs.EntryNumbers.{count_more}
use Rattle.chunk_core.proofs.RoomFrames.{good_still, rooms_stepped}
use Rattle.chunk_core.proofs.RoomLinks.{linked_below}

module _ (z : Sizes) (m : RoomMemory) (content : ℕ → List ℕ) (is_key_word : ℕ → ℕ) (hs : List RoomHolds) (rule : RoomsStand z m content hs) (parts : CoversPartition z m content is_key_word hs) (seat : ℕ) (a : RoomHolds) (here : get_elem? hs seat ≡ some a)
    (p : PinnedRoom) (is : a.pin ≡ Some p) (good : IsGoodRoom p) (none : a.claim ≡ None) (few : entries_in (m.count p.room) < z.entries) (room : entries_in (m.count p.room) + 1 < 2 ^ 16) where
  abbrev r : ℕ
  r = p.room

  abbrev n : ℕ
  n = entries_in (m.count p.room)

  abbrev m' : RoomMemory
  m' = put_room m (at_count p.room) (m.count p.room + 1)

  abbrev b : RoomHolds
  b = record a { claim = Some (claimed_at m content p.room (entries_in (m.count p.room))) }

  holds : RoomPinHolds z m content p
  holds = subst (OnRoomPin (λ q. IsGoodRoom q → RoomPinHolds z m content q)) is (rule.good seat a here) good

  order : IsInOrder z content (m.count p.room) (m.key p.room) (m.value p.room) (linked m p.room) (m.low p.room 0) (m.high p.room 0)
  order = rule.ordered p.room holds.cover

  pub claim_covers : (F : Cover → ℕ) → all_of z (put_room m (at_count p.room) (m.count p.room + 1)) content (set hs seat (record a { claim = Some (claimed_at m content p.room (entries_in (m.count p.room))) })) F ≡ all_of z m content hs F
  claim_covers F = all_still z m m' content content hs seat a b here refl F (λ j _. refl)

  pub claim_partition : CoversPartition z (put_room m (at_count p.room) (m.count p.room + 1)) content is_key_word (set hs seat (record a { claim = Some (claimed_at m content p.room (entries_in (m.count p.room))) }))
  claim_partition = partition_same z m m' content content is_key_word hs (set hs seat b) claim_covers parts

  -- counts of another room stay, and of this one there is one more
  count_cases : (j : ℕ) (P : ℕ → ℕ → Type 0) → (j ≡ p.room → P (suc (entries_in (m.count p.room))) (prefix_in (m.count p.room))) → (j ≢ p.room → P (entries_in (m.count j)) (prefix_in (m.count j))) → P (entries_in (m'.count j)) (prefix_in (m'.count j))
  count_cases j P one other = let c = count_more (m.count p.room) room in dite (ℕ_discrete j p.room)
      (λ e. subst (λ (t : ℕ × ℕ). P t.0 t.1) (λ k. (sym (ap entries_in (put-here m.count p.room (m.count p.room + 1) j e) ∙ c.0) k, sym (ap prefix_in (put-here m.count p.room (m.count p.room + 1) j e) ∙ c.1) k)) (one e))
      (λ ne. subst (λ (t : ℕ). P (entries_in t) (prefix_in t)) (sym (put-else m.count p.room (m.count p.room + 1) j ne)) (other ne))

  below_still : (j i : ℕ) → i < entries_in (m.count j) → i < entries_in (m'.count j)
  below_still j i l = count_cases j (λ e _. i < e) (λ e. let q = ap (λ (t : ℕ). entries_in (m.count t)) e in omega arith) (λ _. l)

  prefix_still : (j : ℕ) → prefix_in (m'.count j) ≡ prefix_in (m.count j)
  prefix_still j = count_cases j (λ _ q. q ≡ prefix_in (m.count j)) (λ e. ap (λ (t : ℕ). prefix_in (m.count t)) (sym e)) (λ _. refl)

  still_prefix : (j : ℕ) (o : Option ℕ) → IsPrefixStill (m.count j) o → IsPrefixStill (m'.count j) o
  still_prefix j None h = tt
  still_prefix j (Some c) h = prefix_still j ∙ h

  still_holds : (q : PinnedRoom) → RoomPinHolds z m content q → RoomPinHolds z m' content q
  still_holds q h = record { inside = h.inside; cover = h.cover; base = h.base; low = h.low; high = h.high; counted = h.counted; prefix = still_prefix q.room q.count h.prefix; entries = h.entries; walked = h.walked }

  -- the entry past the count is nobody's
  unlinked : total (λ k. one_at k n) (linked m p.room) ≡ 0
  unlinked = dite (ℕ_discrete (total (λ k. one_at k n) (linked m p.room)) 0) (λ e. e) (λ ne. absurd (let l = linked_below z m content p.room order n (omega arith) in omega arith))

  pub unclaimed : total (claims_on p.room (entries_in (m.count p.room))) hs ≡ 0
  unclaimed = unclaimed_past z m content hs rule p.room n (λ j u c at e s. λ q. let l = (claim_stands z m content hs rule j u c at e).inside in let t = ap (λ (y : ℕ). entries_in (m.count y)) s in absurd (omega arith))

  claims_now : (j i : ℕ) → claims_on j i b ≡ one_at p.room j * one_at n i
  claims_now j i = refl

  no_claims : (j i : ℕ) → claims_on j i a ≡ 0
  no_claims j i = ap (claims_of j i) none

  either_now : (j i k : ℕ) → weight (m.pin j) ≡ 1 → k + claims_on j i a ≡ total (claims_on j i) hs + claims_on j i b → total (λ l. one_at l i) (linked m j) + k ≤ 1
  either_now j i k w e = let q = rule.either j i w in let y = no_claims j i in dite (ℕ_discrete p.room j)
      (λ d. dite (ℕ_discrete n i)
      (λ g. let u : total (λ l. one_at l i) (linked m j) ≡ 0 = subst (λ (t : ℕ × ℕ). total (λ l. one_at l t.1) (linked m t.0) ≡ 0) (λ o. (d o, g o)) unlinked in
      let v : total (claims_on j i) hs ≡ 0 = subst (λ (t : ℕ × ℕ). total (claims_on t.0 t.1) hs ≡ 0) (λ o. (d o, g o)) unclaimed in let s = one_at-same n i g in let t = times-one (one_at p.room j) (one_at n i) (one_at-same p.room j d) in omega arith)
      (λ g. let s = one_at-other n i g in let t = times-one (one_at p.room j) (one_at n i) (one_at-same p.room j d) in omega arith))
      (λ d. let t = times-none (one_at p.room j) (one_at n i) (one_at-other p.room j d) in omega arith)

  keyed_now : (j i k : ℕ) → weight (m.pin j) ≡ 1 → i < entries_in (m'.count j) → k + claims_on j i a ≡ total (claims_on j i) hs + claims_on j i b → one_if (nat_lt 0 (m.key j i)) ≤ total (λ l. one_at l i) (linked m j) + k
  keyed_now j i k w l e = count_cases j (λ c _. i < c → one_if (nat_lt 0 (m.key j i)) ≤ total (λ l. one_at l i) (linked m j) + k)
      (λ d low. let y = no_claims j i in let c = ap (λ (t : ℕ). entries_in (m.count t)) d in dite (ℕ_discrete i n)
      (λ g. let o = (order.zeros n (let q : n ≤ n = omega arith in q) few).0 in let u : m.key j i ≡ 0 = (λ q. m.key (d q) (g q)) ∙ o in let v = ap (λ (t : ℕ). one_if (nat_lt 0 t)) u in omega arith)
      (λ g. let q = rule.keyed j i w (omega arith) in omega arith))
      (λ d low. let y = no_claims j i in let q = rule.keyed j i w low in omega arith) l

  pub claim_rooms : RoomsStand z (put_room m (at_count p.room) (m.count p.room + 1)) content (set hs seat (record a { claim = Some (claimed_at m content p.room (entries_in (m.count p.room))) }))
  claim_rooms = rooms_stepped z m m' content hs seat a b here (record {
    pins = λ j. refl;
    held = λ j s t. refl;
    states = rule.states;
    generations = λ j. refl;
    latches = rule.latches;
    ordered = λ j w. ordered j (rule.ordered j w);
    either = either_now;
    keyed = keyed_now;
    claims = λ j u c ne at e h. record { inside = below_still c.room c.number h.inside; words = h.words };
    own_claim = record { inside = count_cases p.room (λ c _. n < c) (λ _. let q : n < suc n = omega arith in q) (λ ne. absurd (ne refl)); words = λ _. refl };
    others = λ j u q ne at t h. still_holds q h;
    own = good_still z m m' content content a.pin (λ q _ h. still_holds q h) (rule.good seat a here);
    carried = rule.carried seat a here;
    stands = record { claim = subst (λ o. ClaimIsPinned o b.claim) (sym is) (refl, good); whole = (rule.passes seat a here).whole };
  }) rule
    where
      ordered : (j : ℕ) → IsInOrder z content (m.count j) (m.key j) (m.value j) (linked m j) (m.low j 0) (m.high j 0) → IsInOrder z content (m'.count j) (m'.key j) (m'.value j) (linked m' j) (m'.low j 0) (m'.high j 0)
      ordered j o = let same = prefix_still j in let l = o.prefix in record {
        few = count_cases j (λ e _. e ≤ z.entries) (λ _. omega arith) (λ _. o.few);
        prefix = count_cases j (λ e q. q ≤ e) (λ e. let a = ap (λ (t : ℕ). entries_in (m.count t)) e in let b = ap (λ (t : ℕ). prefix_in (m.count t)) e in omega arith) (λ _. o.prefix);
        sorted = λ i k lt k_in. o.sorted i k lt (omega arith);
        used = each_map (λ i. i < entries_in (m.count j)) (λ i. i < entries_in (m'.count j)) (linked m j) (λ i l. below_still j i l) o.used;
        rises = o.rises;
        front = λ i l. o.front i (omega arith);
        zeros = λ i l inside. o.zeros i (count_cases j (λ e _. e ≤ i → entries_in (m.count j) ≤ i) (λ e h. let a = ap (λ (t : ℕ). entries_in (m.count t)) e in omega arith) (λ _ h. h) l) inside;
        bounds = o.bounds;
      }

  -- it has no block
  pub claim_owners : (names_it : ℕ → ℕ) → owners_in_rooms z (put_room m (at_count p.room) (m.count p.room + 1)) content (set hs seat (record a { claim = Some (claimed_at m content p.room (entries_in (m.count p.room))) })) names_it ≡ owners_in_rooms z m content hs names_it
  unfolding total first_numbers
  claim_owners names_it = covers_same z.chunks m.pin m'.pin (used_at m content) (used_at m' content) (map moving_of (set hs seat b)) (each (owning names_it)) (λ j _. ap (λ (t : ℕ). weight (m.pin j) * t) (same j))
      ∙ ap (λ (ms : List (List Cover)). covers z.chunks m.pin (used_at m content) ms (each (owning names_it))) (map_set_same moving_of hs seat a b here refl)
    where
      up_to : (j k : ℕ) → ℕ
      up_to j k = total (λ i. owning names_it (span_in m j) (entry_at m content j i)) (first_numbers k)

      used_is : (k j : ℕ) → each (owning names_it) (record { span = span_in m j; entries = map (entry_at m content j) (first_numbers k) }) ≡ up_to j k
      used_is k j = total_map (entry_at m content j) (owning names_it (span_in m j)) (first_numbers k)

      one_more : (j : ℕ) → j ≡ p.room → up_to j (suc (entries_in (m.count p.room))) ≡ up_to j (entries_in (m.count j))
      one_more j e = let o = (order.zeros n (let q : n ≤ n = omega arith in q) few).0 in let u : m.key j n ≡ 0 = ap (λ (t : ℕ). m.key t n) e ∙ o in
          let v = times-none (one_if (nat_lt 0 (m.key j n))) (names_it (m.key j n)) (ap (λ (t : ℕ). one_if (nat_lt 0 t)) u) in let s = ap (λ (t : ℕ). up_to j (entries_in (m.count t))) e in omega arith

      same : (j : ℕ) → each (owning names_it) (used_at m' content j) ≡ each (owning names_it) (used_at m content j)
      same j = used_is (entries_in (m'.count j)) j ∙ (count_cases j (λ k _. up_to j k ≡ up_to j (entries_in (m.count j))) (one_more j) (λ _. refl) ∙ sym (used_is (entries_in (m.count j)) j))
