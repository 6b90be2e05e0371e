-- A pass stores to a word of the entry that it claimed: no cover changes, and the claim is true to it. With a key word of 0 it is claimed no more.
use Rattle.std.proofs.Common.{◌≡◌, ◌≢◌, ℕ, ◌+◌, ◌*◌, ◌<◌, ◌≤◌, ◌⊎◌, ◌==◌, ◌&&◌, cond, Bool, false, List, [], ◌∷◌, map, set, sym, refl, ap, ◌∙◌, subst, arith, inl, inr, ⊎_elim, Option, Some, None, eq-eqb, ne_eqb}
use Rattle.std.specs.Prelude.{nat_lt, not}
use mathlib.Core.Logic.{dite}
use mathlib.Core.Option.{some}
use native.Mathlib.Decide.{ℕ_discrete}
use lib.ListN.{get_elem?}
use Rattle.pin_word.specs.PinWord.{state_of, generation_of, count_of}
use Rattle.oak_model.specs.Counts.{one_if, one_at, total}
use Rattle.oak_model.specs.Limits.{Sizes}
use Rattle.oak_model.proofs.Counting.{total_at, one_if_le, test-cases, true_both}
use Rattle.oak_model.proofs.SumLaws.{times-one}
use Rattle.chunk_core.specs.declared.holds.Claim.{Claim}
use Rattle.chunk_core.specs.declared.holds.PinnedRoom.{PinnedRoom}
use Rattle.chunk_core.specs.declared.holds.RoomHolds.{RoomHolds}
use Rattle.chunk_core.specs.CoverRule.{CoversPartition}
use Rattle.chunk_core.specs.CoverSums.{all_of, weight, each, owning, owners_in_rooms}
use Rattle.chunk_core.specs.Covers.{Cover, used_at, entry_at, span_in, key_at}
use Rattle.chunk_core.specs.LinkedEntries.{linked, entries_in, in_use, first_numbers}
use Rattle.chunk_core.specs.RoomCopies.{claim_after, claim_with, stays_claimed}
use Rattle.chunk_core.specs.RoomHolds.{claims_of, claims_on}
use Rattle.chunk_core.specs.RoomRule.{ClaimIsPinned, OnClaim, ClaimStands, RoomsStand}
use Rattle.chunk_core.specs.RoomStep.{EntryField, of_key, of_value, of_next, entry_spot, put_room}
use Rattle.chunk_core.specs.Rooms.{RoomMemory, at_key}
use Rattle.chunk_core.proofs.Claims.{claim_here, claim_cover, claim_stands, claim_inside, claim_le, claim_is}
use Rattle.std.proofs.lemmas.Bool.{and_right}
use Rattle.oak_model.proofs.Changes.{stepped}
use Rattle.oak_model.proofs.Counting.{total_map}
use Rattle.oak_model.proofs.SumLaws.{total_put}
use Rattle.chunk_core.proofs.CoverLaws.{covers_step}
use Rattle.chunk_core.proofs.EntryNumbers.{numbers_once}
use Rattle.chunk_core.proofs.CoverFrames.{partition_same}
use Rattle.chunk_core.proofs.RoomFrames.{good_still, rooms_stepped}
use Rattle.chunk_core.proofs.UnlinkedWords.{StaysLinked, stays_unlinked, stays_covers, pin_stays, order_stays, linked_stay}

-- what is claimed stays pinned, and stays where it is
after_pinned : (content : ℕ → List ℕ) (f : EntryField) (x : ℕ) (o : Option PinnedRoom) (l : Option Claim) → ClaimIsPinned o l → ClaimIsPinned o (claim_after content f x l)
after_pinned content f x o None h = h
after_pinned content f x None (Some c) h = absurd h
after_pinned content f x (Some p) (Some c) h = test-cases (stays_claimed f x) (λ b. ClaimIsPinned (Some p) (cond b (Some (claim_with content f x c)) None)) (λ _. same f) (λ _. tt)
  where
    same : (f : EntryField) → ClaimIsPinned (Some p) (Some (claim_with content f x c))
    same of_key = h
    same of_value = h
    same of_next = h

with_claims : (content : ℕ → List ℕ) (f : EntryField) (x r i : ℕ) (c : Claim) → claims_of r i (Some (claim_with content f x c)) ≡ claims_of r i (Some c)
with_claims content of_key x r i c = refl
with_claims content of_value x r i c = refl
with_claims content of_next x r i c = refl

-- it is claimed as often, or no more: where a key word is 0
after_claims : (content : ℕ → List ℕ) (f : EntryField) (x : ℕ) (c : Claim) → ((r i : ℕ) → claims_of r i (claim_after content f x (Some c)) ≡ claims_of r i (Some c)) ⊎ ((f ≡ of_key) × (x ≡ 0) × ((r i : ℕ) → claims_of r i (claim_after content f x (Some c)) ≡ 0))
after_claims content of_key x c = dite (ℕ_discrete x 0)
    (λ e. inr (refl, e, λ r i. ap (λ (b : Bool). claims_of r i (cond (not b) (Some (claim_with content of_key x c)) None)) (eq-eqb x 0 e)))
    (λ ne. inl (λ r i. ap (λ (b : Bool). claims_of r i (cond (not b) (Some (claim_with content of_key x c)) None)) (ne_eqb x 0 ne)))
after_claims content of_value x c = inl (λ r i. refl)
after_claims content of_next x c = inl (λ r i. refl)

module _ (z : Sizes) (m : RoomMemory) (content : ℕ → List ℕ) (is_key_word : ℕ → ℕ) (hs : List RoomHolds) (rule : RoomsStand z m content hs) (parts : CoversPartition z m content is_key_word hs) (seat : ℕ) (a : RoomHolds) (here : get_elem? hs seat ≡ some a)
    (c : Claim) (has : a.claim ≡ Some c) (f : EntryField) (x : ℕ) where
  abbrev r : ℕ
  r = c.room

  abbrev i : ℕ
  i = c.number

  abbrev m' : RoomMemory
  m' = put_room m (entry_spot f c.room c.number) x

  abbrev b : RoomHolds
  b = record a { claim = claim_after content f x a.claim }

  mine : (j k : ℕ) → claims_on j k a ≡ claims_of j k (Some c)
  mine j k = ap (claims_of j k) has

  pub unlinked : total (λ k. one_at k c.number) (linked m c.room) ≡ 0
  unlinked = let e = rule.either c.room c.number (claim_cover z m content hs rule seat a c here has) in let t = total_at (claims_on c.room c.number) hs seat a here in let q = mine c.room c.number in let o = claim_here c in omega arith

  stays : StaysLinked m m'
  stays = stays_unlinked m f c.room c.number x unlinked (claim_stands z m content hs rule seat a c here has).inside

  pub own_covers : (F : Cover → ℕ) → all_of z (put_room m (entry_spot f c.room c.number) x) content (set hs seat (record a { claim = claim_after content f x a.claim })) F ≡ all_of z m content hs F
  own_covers F = stays_covers z m m' content stays hs seat a b here refl F

  pub own_partition : CoversPartition z (put_room m (entry_spot f c.room c.number) x) content is_key_word (set hs seat (record a { claim = claim_after content f x a.claim }))
  own_partition = partition_same z m m' content content is_key_word hs (set hs seat b) own_covers parts

  -- a key word that is stored is of the claimed entry, or is as it was
  key_else : (f : EntryField) (j k : ℕ) → (f ≢ of_key) ⊎ (claims_of j k (Some c) ≡ 0) → (put_room m (entry_spot f c.room c.number) x).key j k ≡ m.key j k
  key_else of_value j k h = refl
  key_else of_next j k h = refl
  key_else of_key j k h = dite (ℕ_discrete k c.number)
      (λ e. dite (ℕ_discrete j c.room) (λ d. absurd (⊎_elim (λ (n : of_key ≢ of_key). n refl) (λ (n : claims_of j k (Some c) ≡ 0). let o = claim_here c in let q : claims_of j k (Some c) ≡ claims_of c.room c.number (Some c) = (λ u. claims_of (d u) (e u) (Some c)) in omega arith) h))
      (λ ne. ap (λ (t : Bool). cond ((k == c.number) && t) x (m.key j k)) (ne_eqb j c.room ne) ∙ test-cases (k == c.number) (λ t. cond (t && false) x (m.key j k) ≡ m.key j k) (λ _. refl) (λ _. refl)))
      (λ ne. ap (λ (t : Bool). cond (t && (j == c.room)) x (m.key j k)) (ne_eqb k c.number ne))

  claims_after : (j k n : ℕ) → n + claims_on j k a ≡ total (claims_on j k) hs + claims_on j k b → n ≤ total (claims_on j k) hs
  claims_after j k n e = let q = mine j k in let s = ap (λ (o : Option Claim). claims_of j k (claim_after content f x o)) has in
      ⊎_elim (λ (t : (r i : ℕ) → claims_of r i (claim_after content f x (Some c)) ≡ claims_of r i (Some c)). let u = t j k in omega arith)
      (λ (t : (f ≡ of_key) × (x ≡ 0) × ((r i : ℕ) → claims_of r i (claim_after content f x (Some c)) ≡ 0)). let u = t.2 j k in omega arith) (after_claims content f x c)

  -- a key word other than 0 is of an entry that is linked or claimed
  keyed_after : (j k n : ℕ) → weight (m.pin j) ≡ 1 → k < entries_in (m.count j) → n + claims_on j k a ≡ total (claims_on j k) hs + claims_on j k b → one_if (nat_lt 0 (m'.key j k)) ≤ total (λ l. one_at l k) (linked m j) + n
  keyed_after j k n w low e = let q = mine j k in let s = ap (λ (o : Option Claim). claims_of j k (claim_after content f x o)) has in let t = total_at (claims_on j k) hs seat a here in let was = rule.keyed j k w low in
      ⊎_elim
      (λ (u : (r i : ℕ) → claims_of r i (claim_after content f x (Some c)) ≡ claims_of r i (Some c)). let v = u j k in dite (ℕ_discrete (claims_of j k (Some c)) 0)
      (λ none. let d = ap (λ (y : ℕ). one_if (nat_lt 0 y)) (key_else f j k (inr none)) in omega arith)
      (λ some_claim. let l = one_if_le (nat_lt 0 (m'.key j k)) in omega arith))
      (λ (u : (f ≡ of_key) × (x ≡ 0) × ((r i : ℕ) → claims_of r i (claim_after content f x (Some c)) ≡ 0)). let v = u.2 j k in dite (ℕ_discrete (claims_of j k (Some c)) 0)
      (λ none. let d = ap (λ (y : ℕ). one_if (nat_lt 0 y)) (key_else f j k (inr none)) in omega arith)
      (λ some_claim. let z : one_if (nat_lt 0 (m'.key j k)) ≡ 0 = now_zero u.0 u.1 j k (let le = claim_le j k (Some c) in omega arith) in omega arith))
      (after_claims content f x c)
    where
      now_zero : f ≡ of_key → x ≡ 0 → (j k : ℕ) → claims_of j k (Some c) ≡ 1 → one_if (nat_lt 0 ((put_room m (entry_spot f c.room c.number) x).key j k)) ≡ 0
      now_zero fe xe j k one = let at = claim_is j k c (omega arith) in
          subst (λ (g : EntryField). one_if (nat_lt 0 ((put_room m (entry_spot g c.room c.number) x).key j k)) ≡ 0) (sym fe)
          (ap (λ (t : Bool). one_if (nat_lt 0 (cond t x (m.key j k)))) (true_both (k == c.number) (j == c.room) (eq-eqb k c.number (sym at.1)) (eq-eqb j c.room (sym at.0))) ∙ ap (λ (t : ℕ). one_if (nat_lt 0 t)) xe)

  content_claims : (d : Claim) → ClaimStands m content d → ClaimStands m' content d
  content_claims d h = record { inside = subst (λ (t : ℕ). d.number < entries_in t) (sym (stays.count d.room)) h.inside; words = h.words }

  own_stands : OnClaim (ClaimStands m' content) b.claim
  own_stands = subst (λ (o : Option Claim). OnClaim (ClaimStands m' content) (claim_after content f x o)) (sym has)
      (test-cases (stays_claimed f x) (λ t. OnClaim (ClaimStands m' content) (cond t (Some (claim_with content f x c)) None)) (λ _. with_f f (content_claims c (claim_stands z m content hs rule seat a c here has))) (λ _. tt))
    where
      with_f : (g : EntryField) → ClaimStands m' content c → ClaimStands m' content (claim_with content g x c)
      with_f of_key h = record { inside = h.inside; words = λ _. refl }
      with_f of_value h = record { inside = h.inside; words = h.words }
      with_f of_next h = record { inside = h.inside; words = h.words }

  pub own_rooms : RoomsStand z (put_room m (entry_spot f c.room c.number) x) content (set hs seat (record a { claim = claim_after content f x a.claim }))
  own_rooms = rooms_stepped z m m' content hs seat a b here (record {
    pins = λ j. let e = ap count_of (stays.pin j) in omega arith;
    held = λ j t is. let e = ap (λ (w : ℕ). one_at (state_of w) t) (stays.pin j) in omega arith;
    states = λ j. let e = ap state_of (stays.pin j) in let o = rule.states j in omega arith;
    generations = λ j. ap generation_of (stays.pin j);
    latches = λ j. stays.latch j ∙ rule.latches j;
    ordered = λ j w. order_stays z m m' content stays j (rule.ordered j (sym (ap weight (stays.pin j)) ∙ w));
    either = λ j k n w e. let q = rule.either j k (sym (ap weight (stays.pin j)) ∙ w) in let l = ap (total (λ t. one_at t k)) (linked_stay z m m' content stays j) in let g = claims_after j k n e in omega arith;
    keyed = λ j k n w low e. let l = ap (total (λ t. one_at t k)) (linked_stay z m m' content stays j) in let g = keyed_after j k n (sym (ap weight (stays.pin j)) ∙ w) (subst (λ (t : ℕ). k < entries_in t) (stays.count j) low) e in omega arith;
    claims = λ j u d ne at is h. content_claims d h;
    own_claim = own_stands;
    others = λ j u p ne at is h. pin_stays z m m' content stays p h;
    own = good_still z m m' content content a.pin (λ p _ h. pin_stays z m m' content stays p h) (rule.good seat a here);
    carried = rule.carried seat a here;
    stands = record { claim = after_pinned content f x a.pin a.claim (rule.passes seat a here).claim; whole = (rule.passes seat a here).whole };
  }) rule

  -- the block of the key word that was there has an owner less, and that of the word that comes one more
  module _ (g : f ≡ of_key) where
    abbrev names_word : (ℕ → ℕ) → ℕ → ℕ
    names_word names_it word = one_if (nat_lt 0 word) * names_it word

    at_entry : (names_it : ℕ → ℕ) → each (owning names_it) (used_at (put_room m (at_key c.room c.number) x) content c.room) + names_word names_it (m.key c.room c.number) ≡ each (owning names_it) (used_at m content c.room) + names_word names_it x
    at_entry names_it = let n = entries_in (m.count c.room) in let low = (claim_stands z m content hs rule seat a c here has).inside in let F : (ℕ → ℕ) → ℕ → ℕ = (λ key j. names_word names_it (key j)) in
        let t = total_put (F (m.key c.room)) (F ((put_room m (at_key c.room c.number) x).key c.room)) c.number (first_numbers n) (λ j ne. ap (names_word names_it) (ap (λ (b : Bool). cond (b && (c.room == c.room)) x (m.key c.room j)) (ne_eqb j c.number ne))) (numbers_once n c.number low) in
        let here_is : (put_room m (at_key c.room c.number) x).key c.room c.number ≡ x = ap (λ (b : Bool). cond b x (m.key c.room c.number)) (true_both (c.number == c.number) (c.room == c.room) (eq-eqb c.number c.number refl) (eq-eqb c.room c.room refl)) in let e = ap (names_word names_it) here_is in
        let u = total_map (entry_at m content c.room) (owning names_it (span_in m c.room)) (in_use m c.room) in let w = total_map (entry_at (put_room m (at_key c.room c.number) x) content c.room) (owning names_it (span_in m c.room)) (in_use m c.room) in omega arith

    keys : (j : ℕ) → j ≢ c.room → (k : ℕ) → (put_room m (at_key c.room c.number) x).key j k ≡ m.key j k
    keys j ne k = ap (λ (t : Bool). cond t x (m.key j k)) (and_right (k == c.number) (j == c.room) (ne_eqb j c.room ne))

    pub own_owners : (names_it : ℕ → ℕ) → owners_in_rooms z (put_room m (at_key c.room c.number) x) content (set hs seat (record a { claim = claim_after content f x a.claim })) names_it + names_word names_it (m.key c.room c.number) ≡ owners_in_rooms z m content hs names_it + names_word names_it x
    unfolding total
    own_owners names_it = let w = claim_cover z m content hs rule seat a c here has in let h = at_entry names_it in
        let lr = (claim_inside z m content hs rule seat a c here has) in
        let s = covers_step z.chunks m.pin m.pin (used_at m content) (used_at (put_room m (at_key c.room c.number) x) content) hs (set hs seat b) (a ∷ []) (b ∷ []) (stepped hs seat a b here) c.room (each (owning names_it)) lr (λ j ne. refl) (λ j ne. else_same j ne) in
        let p = times-one (weight (m.pin c.room)) (each (owning names_it) (used_at m content c.room)) w in let q = times-one (weight (m.pin c.room)) (each (owning names_it) (used_at (put_room m (at_key c.room c.number) x) content c.room)) w in omega arith
      where
        else_same : (j : ℕ) → j ≢ c.room → used_at (put_room m (at_key c.room c.number) x) content j ≡ used_at m content j
        else_same j ne = λ i. record { span = span_in m j; entries = map (λ k. record { word = keys j ne k i; value = m.value j k; key = key_at content (keys j ne k i) }) (in_use m j) }
