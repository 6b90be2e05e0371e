-- A link comes to name an entry, whose own link is what that one was: links reach it too then, in the order of the keys.
use Rattle.std.proofs.Common.{◌≡◌, ◌≢◌, ℕ, suc, ◌+◌, ◌-◌, ◌<◌, ◌≤◌, ◌⊎◌, ◌==◌, ◌&&◌, cond, Bool, List, ◌∷◌, sym, refl, ap, ◌∙◌, subst, inl, inr, ⊎_elim, arith, eq-eqb, ne_eqb}
use Rattle.std.specs.Prelude.{length}
use Rattle.oak_model.specs.Counts.{one_at, total, put, Each}
use Rattle.oak_model.proofs.Counting.{test-cases}
use Rattle.oak_model.proofs.Lists.{each_map}
use Rattle.oak_model.proofs.PutLaws.{put-here, put-else}
use Rattle.chunk_core.specs.Covers.{key_at}
use Rattle.chunk_core.specs.LinkedEntries.{entries_in, reached, chain, farthest, Rises}
use Rattle.chunk_core.specs.RoomStep.{put_room}
use Rattle.chunk_core.specs.Rooms.{RoomMemory, at_first, at_next}
use Rattle.chunk_core.proofs.ChainLinks.{reached_few}
use Rattle.chunk_core.proofs.Chains.{behind, behind_each, behind_rises, behind_total, chain_behind, chain_front, chain_same, first_least, next_least}
use Rattle.chunk_core.proofs.EntryNumbers.{each_of, few_entries}

-- the first links of rooms with x at one room
abbrev pub first_with : RoomMemory → (r x : ℕ) → ℕ → ℕ
first_with m r x j = cond (j == r) x (m.first j)

-- the links of entries with x at one entry
abbrev pub next_with : RoomMemory → (r q x : ℕ) → ℕ → ℕ → ℕ
next_with m r q x j k = cond ((k == q) && (j == r)) x (m.next j k)

-- these are the words behind a store to a first link, and to the link of an entry
pub put_first : (m : RoomMemory) (r x : ℕ) → put_room m (at_first r) x ≡ record m { first = first_with m r x }
put_first m r x = refl

pub put_next : (m : RoomMemory) (r q x : ℕ) → put_room m (at_next r q) x ≡ record m { next = next_with m r q x }
put_next m r q x = refl

-- a key below that of the entry that a link names, or of none, is at the most just below it
just_below : (key : ℕ → ℕ) (link k : ℕ) → (link ≡ 0) ⊎ (k < key (link - 1)) → (link ≡ 0) ⊎ (suc k ≤ key (link - 1))
just_below key link k = ⊎_elim (λ (n : link ≡ 0). inl n) (λ (l : k < key (link - 1)). inr (let q = l in omega arith))

-- the entry e of the room, in use and not reached
module _ (m : RoomMemory) (content : ℕ → List ℕ) (r e : ℕ) (used : Each (λ i. i < entries_in (m.count r)) (reached (m.next r) (m.first r))) (rises : Rises (λ i. key_at content (m.key r i)) (reached (m.next r) (m.first r)))
    (unreached : total (λ j. one_at j e) (reached (m.next r) (m.first r)) ≡ 0) (low : e < entries_in (m.count r)) where
  abbrev key : ℕ → ℕ
  key i = key_at content (m.key r i)

  abbrev was : List ℕ
  was = reached (m.next r) (m.first r)

  ends : length (reached (m.next r) (m.first r)) < farthest
  ends = reached_few (entries_in (m.count r)) (few_entries (m.count r)) key (m.next r) (m.first r) used rises

  -- named by the first link
  module _ (same : m.next r e ≡ m.first r) (before : (m.first r ≡ 0) ⊎ (key_at content (m.key r e) < key_at content (m.key r (m.first r - 1)))) where
    pub front_is : reached (m.next r) (first_with m r (e + 1) r) ≡ e ∷ reached (m.next r) (m.first r)
    front_is = ap (reached (m.next r)) (put-here m.first r (e + 1) r refl) ∙ chain_front farthest (m.next r) e (m.first r) same ends

    -- no other room's links are changed
    pub front_apart : (j : ℕ) → j ≢ r → reached (m.next j) (first_with m r (e + 1) j) ≡ reached (m.next j) (m.first j)
    front_apart j ne = ap (reached (m.next j)) (put-else m.first r (e + 1) j ne)

    pub front_more : (f : ℕ → ℕ) → total f (reached (m.next r) (first_with m r (e + 1) r)) ≡ total f (reached (m.next r) (m.first r)) + f e
    unfolding total
    front_more f = let s = ap (total f) front_is in omega arith

    pub front_used : Each (λ i. i < entries_in (m.count r)) (reached (m.next r) (first_with m r (e + 1) r))
    front_used = subst (Each (λ i. i < entries_in (m.count r))) (sym front_is) (low, used)

    pub front_rises : Rises (λ i. key_at content (m.key r i)) (reached (m.next r) (first_with m r (e + 1) r))
    front_rises = subst (Rises key) (sym front_is) (each_map (λ x. suc (key e) ≤ key x) (λ x. key e < key x) was (λ x l. let q = l in omega arith) (first_least key (suc (key e)) farthest (m.next r) (m.first r) rises (just_below key (m.first r) (key e) before)), rises)

  -- named by the link of an entry that is reached
  module _ (q : ℕ) (there : total (λ j. one_at j q) (reached (m.next r) (m.first r)) ≡ 1) (same : m.next r e ≡ m.next r q) (above : key_at content (m.key r q) < key_at content (m.key r e))
      (before : (m.next r q ≡ 0) ⊎ (key_at content (m.key r e) < key_at content (m.key r (m.next r q - 1)))) where
    apart_of : e ≢ q
    apart_of d = let l = ap key d in absurd (omega arith)

    here : (k : ℕ) → next_with m r q (e + 1) r k ≡ put (m.next r) q (e + 1) k
    here k = test-cases (k == q) (λ b. cond (b && (r == r)) (e + 1) (m.next r k) ≡ cond b (e + 1) (m.next r k)) (λ _. ap (λ (t : Bool). cond t (e + 1) (m.next r k)) (eq-eqb r r refl)) (λ _. refl)

    pub behind_is : reached (next_with m r q (e + 1) r) (m.first r) ≡ behind q e (reached (m.next r) (m.first r))
    behind_is = chain_same farthest (put (m.next r) q (e + 1)) (next_with m r q (e + 1) r) (m.first r) (each_of (λ j. next_with m r q (e + 1) r j ≡ put (m.next r) q (e + 1) j) (chain farthest (put (m.next r) q (e + 1)) (m.first r)) (λ k _. here k))
        ∙ chain_behind farthest (m.next r) q e (m.first r) same apart_of unreached there ends

    pub behind_apart : (j : ℕ) → j ≢ r → reached (next_with m r q (e + 1) j) (m.first j) ≡ reached (m.next j) (m.first j)
    behind_apart j ne = chain_same farthest (m.next j) (next_with m r q (e + 1) j) (m.first j) (each_of (λ k. next_with m r q (e + 1) j k ≡ m.next j k) (reached (m.next j) (m.first j)) (λ k _.
        test-cases (k == q) (λ b. cond (b && (j == r)) (e + 1) (m.next j k) ≡ m.next j k) (λ _. ap (λ (t : Bool). cond t (e + 1) (m.next j k)) (ne_eqb j r ne)) (λ _. refl)))

    pub behind_more : (f : ℕ → ℕ) → total f (reached (next_with m r q (e + 1) r) (m.first r)) ≡ total f (reached (m.next r) (m.first r)) + f e
    behind_more f = ap (total f) behind_is ∙ behind_total f q e was (omega arith)

    pub behind_used : Each (λ i. i < entries_in (m.count r)) (reached (next_with m r q (e + 1) r) (m.first r))
    behind_used = subst (Each (λ i. i < entries_in (m.count r))) (sym behind_is) (behind_each (λ i. i < entries_in (m.count r)) q e was used low)

    pub behind_rise : Rises (λ i. key_at content (m.key r i)) (reached (next_with m r q (e + 1) r) (m.first r))
    behind_rise = subst (Rises key) (sym behind_is) (behind_rises key q e was rises above (next_least key (suc (key e)) farthest (m.next r) q (m.first r) rises (just_below key (m.next r q) (key e) before) (omega arith)))
