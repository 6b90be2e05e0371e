-- What the points of the covers say together: the entry of a key, and the key of a header.
use Rattle.std.proofs.Common.{◌≡◌, ◌≢◌, ℕ, ◌+◌, ◌-◌, ◌*◌, ◌<◌, ◌≤◌, List, map, sym, refl, ◌∙◌, arith}
use mathlib.Core.Logic.{dite}
use native.Mathlib.Decide.{ℕ_discrete}
use Rattle.chunk_core.specs.declared.holds.RoomHolds.{RoomHolds}
use Rattle.oak_model.specs.Counts.{one_at, total}
use Rattle.oak_model.specs.Limits.{Sizes}
use Rattle.oak_model.proofs.Counting.{one_at-same, one_at-other, one_at-le, one_at-cases, one_at-true}
use Rattle.oak_model.proofs.SumLaws.{times-one, total_in}
use Rattle.chunk_core.specs.CoverSums.{each, weight, has_key, word_for, naming, names, all_of, word_of}
use Rattle.chunk_core.specs.Covers.{Entry, cover_at, span_in, entry_at, key_at, moving_of}
use Rattle.chunk_core.specs.LinkedEntries.{linked}
use Rattle.chunk_core.specs.Rooms.{RoomMemory}
use Rattle.chunk_core.specs.Spans.{Span}
use Rattle.chunk_core.proofs.CoverLaws.{room_total, covers_plus, each_plus}
use Rattle.chunk_core.proofs.Lookups.{picked, all_at, all_le, each_le}

module _ (z : Sizes) (m : RoomMemory) (content : ℕ → List ℕ) (hs : List RoomHolds) where
  -- what a linked entry adds
  pub entry_adds : (f : Span → Entry → ℕ) (r i : ℕ) → r < z.chunks → weight (m.pin r) ≡ 1 → total (λ j. one_at j i) (linked m r) ≡ 1 → f (span_in m r) (entry_at m content r i) ≤ all_of z m content hs (each f)
  entry_adds f r i l w once = let a = all_at z m content hs r (each f) l w in let b = room_total m content r f in let c = total_in (λ j. f (span_in m r) (entry_at m content r j)) i (linked m r) (omega arith) in omega arith

module _ (z : Sizes) (m : RoomMemory) (content : ℕ → List ℕ) (hs : List RoomHolds) (once : (k : ℕ) → all_of z m content hs (each (has_key k)) ≤ 1) where
  -- an entry that is added up is the entry of its key
  pub word_is : (s : Span) (x : Entry) (k : ℕ) → ((f : Span → Entry → ℕ) → f s x ≤ all_of z m content hs (each f)) → x.key ≡ k → word_of z m content hs k ≡ x.value + 1
  word_is s x k adds e = let o = one_at-same (x.key) k e in let q = λ (y : ℕ). times-one (one_at x.key k) y o in
      let a = adds (word_for k) in let qa = q (x.value + 1) in let W = word_of z m content hs k in let is : W ≡ (W - 1) + 1 = omega arith in
      let p = picked z m content hs k (W - 1) (λ y. one_at y x.value) (once k) is in let b = adds (λ s y. has_key k s y * one_at y.value x.value) in
      let qb = q (one_at x.value x.value) in let v = one_at-same x.value x.value refl in
      let same = one_at-true (W - 1) x.value (omega arith) in omega arith

  pub entry_word : (r i k : ℕ) → r < z.chunks → weight (m.pin r) ≡ 1 → total (λ j. one_at j i) (linked m r) ≡ 1 → key_at content (m.key r i) ≡ k → word_of z m content hs k ≡ m.value r i + 1
  entry_word r i k l w once e = word_is (span_in m r) (entry_at m content r i) k (λ f. entry_adds z m content hs f r i l w once) e

  -- two keys have no header in common
  pub named_once : (n k k' v v' : ℕ) → all_of z m content hs (each (naming n)) ≤ 1 → word_of z m content hs k ≡ v + 1 → word_of z m content hs k' ≡ v' + 1 → names n v ≡ 1 → names n v' ≡ 1 → k ≡ k'
  named_once n k k' v v' one e e' d d' = dite (ℕ_discrete k k') (λ q. q) (λ ne. absurd (both ne))
    where
      less : (o p q : ℕ) → o + p ≤ 1 → o * q + p * q ≤ q
      less o p q h = grind arith

      apart : k ≢ k' → (s : Span) (x : Entry) → has_key k s x + has_key k' s x ≤ 1
      apart ne s x = one_at-cases x.key k (λ (i : ℕ). i + has_key k' s x ≤ 1) (λ q. let o = one_at-other x.key k' (λ w. ne (sym q ∙ w)) in omega arith) (λ _. let o = one_at-le x.key k' in omega arith)

      both : k ≢ k' → ⊥
      both ne = let a = picked z m content hs k v (names n) (once k) e in let b = picked z m content hs k' v' (names n) (once k') e' in
          let p = covers_plus z.chunks m.pin (cover_at m content) (map moving_of hs) (each (λ s x. has_key k s x * names n x.value)) (each (λ s x. has_key k' s x * names n x.value)) in
          let q = all_le z m content hs (λ u. each (λ s x. has_key k s x * names n x.value) u + each (λ s x. has_key k' s x * names n x.value) u) (λ u. each (λ s x. has_key k s x * names n x.value + has_key k' s x * names n x.value) u)
          (λ u. let w = each_plus (λ s x. has_key k s x * names n x.value) (λ s x. has_key k' s x * names n x.value) u in omega arith) in
          let t = each_le z m content hs (λ s x. has_key k s x * names n x.value + has_key k' s x * names n x.value) (naming n) (λ s x. less (has_key k s x) (has_key k' s x) (names n x.value) (apart ne s x)) in omega arith
