-- The entry of a key, looked up by sums.
use Rattle.std.proofs.Common.{◌≡◌, ℕ, zero, suc, ◌+◌, ◌*◌, ◌<◌, ◌≤◌, eqb, cond, Bool, List, [], ◌∷◌, ◌++◌, map, sym, refl, ap, subst, arith, eq-eqb, ne_eqb}
use mathlib.Core.Logic.{dite}
use native.Mathlib.Decide.{ℕ_discrete}
use Rattle.chunk_core.specs.declared.holds.RoomHolds.{RoomHolds}
use Rattle.oak_model.specs.Counts.{total, below}
use Rattle.oak_model.specs.Limits.{Sizes}
use Rattle.oak_model.proofs.Counting.{total_append, total_map, total_at, total_some}
use Rattle.oak_model.proofs.RowLaws.{total_le}
use Rattle.oak_model.proofs.SumLaws.{times-one, times-none}
use Rattle.chunk_core.specs.CoverSums.{covers, each, weight, has_key, word_for, all_of, word_of}
use Rattle.chunk_core.specs.Covers.{Entry, Cover, cover_at, moving_of}
use Rattle.chunk_core.specs.Rooms.{RoomMemory}
use Rattle.chunk_core.specs.Spans.{Span}
use Rattle.chunk_core.proofs.CoverLaws.{weight-le, covers_le, room_le}

unfoldable entries_of : Cover → List (Span × Entry)
entries_of c = map (λ (x : Entry). (c.span, x)) c.entries

unfoldable moved : List Cover → List (Span × Entry)
moved [] = []
moved (c ∷ cs) = entries_of c ++ moved cs

unfoldable carried : List (List Cover) → List (Span × Entry)
carried [] = []
carried (g ∷ gs) = moved g ++ carried gs

unfoldable roomed : ℕ → (ℕ → ℕ) → (ℕ → Cover) → List (Span × Entry)
roomed zero pin cover = []
roomed (suc n) pin cover = cond (eqb (weight (pin n)) 0) [] (entries_of (cover n)) ++ roomed n pin cover

-- all linked entries of all covers, as one list
flat : ℕ → (ℕ → ℕ) → (ℕ → Cover) → List (List Cover) → List (Span × Entry)
flat n pin cover ms = roomed n pin cover ++ carried ms

module _ (f : Span → Entry → ℕ) where
  over : Span × Entry → ℕ
  over p = f p.0 p.1

  entries_flat : (c : Cover) → total over (entries_of c) ≡ each f c
  unfolding entries_of over
  entries_flat c = total_map (λ (x : Entry). (c.span, x)) (λ (p : Span × Entry). f p.0 p.1) c.entries

  moved_flat : (g : List Cover) → total over (moved g) ≡ total (each f) g
  unfolding moved total
  moved_flat [] = refl
  moved_flat (c ∷ cs) = let a = total_append over (entries_of c) (moved cs) in let b = entries_flat c in let t = moved_flat cs in omega arith

  carried_flat : (ms : List (List Cover)) → total over (carried ms) ≡ total (total (each f)) ms
  unfolding carried total
  carried_flat [] = refl
  carried_flat (g ∷ gs) = let a = total_append over (moved g) (carried gs) in let b = moved_flat g in let t = carried_flat gs in omega arith

  roomed_flat : (n : ℕ) (pin : ℕ → ℕ) (cover : ℕ → Cover) → total over (roomed n pin cover) ≡ below (λ r. weight (pin r) * each f (cover r)) n
  unfolding roomed below total
  roomed_flat zero pin cover = refl
  roomed_flat (suc n) pin cover = let w = weight (pin n) in let a = total_append over (cond (eqb w 0) [] (entries_of (cover n))) (roomed n pin cover) in let t = roomed_flat n pin cover in let b = one w (weight-le (pin n)) (cover n) in omega arith
    where
      one : (w : ℕ) → w ≤ 1 → (c : Cover) → total over (cond (eqb w 0) [] (entries_of c)) ≡ w * each f c
      one w l c = dite (ℕ_discrete w 0) (λ e. subst (λ (t : Bool). total over (cond t [] (entries_of c)) ≡ w * each f c) (sym (eq-eqb w 0 e)) (sym (times-none w (each f c) e)))
          (λ ne. subst (λ (t : Bool). total over (cond t [] (entries_of c)) ≡ w * each f c) (sym (ne_eqb w 0 ne)) (let q = times-one w (each f c) (omega arith) in let b = entries_flat c in omega arith))

  flat_total : (n : ℕ) (pin : ℕ → ℕ) (cover : ℕ → Cover) (ms : List (List Cover)) → covers n pin cover ms (each f) ≡ total over (flat n pin cover ms)
  unfolding covers flat
  flat_total n pin cover ms = let a = total_append over (roomed n pin cover) (carried ms) in let b = roomed_flat n pin cover in let c = carried_flat ms in omega arith

-- the one that is picked, in a list
module _ {A : Type 0} (pick value : A → ℕ) where
  none_picked : (g : ℕ → ℕ) (xs : List A) → total pick xs ≡ 0 → total (λ x. pick x * g (value x)) xs ≡ 0
  unfolding total
  none_picked g [] h = refl
  none_picked g (x ∷ xs) h = let t = none_picked g xs (omega arith) in let q = times-none (pick x) (g (value x)) (omega arith) in omega arith

  one_picked : (g : ℕ → ℕ) (xs : List A) (v : ℕ) → total pick xs ≤ 1 → total (λ x. pick x * (value x + 1)) xs ≡ v + 1 → total (λ x. pick x * g (value x)) xs ≡ g v
  unfolding total
  one_picked g [] v h e = absurd (omega arith)
  one_picked g (x ∷ xs) v h e = dite (ℕ_discrete (pick x) 0)
      (λ q. let a = times-none (pick x) (value x + 1) q in let b = times-none (pick x) (g (value x)) q in
      let t = one_picked g xs v (omega arith) (omega arith) in omega arith)
      (λ ne. let o : pick x ≡ 1 = omega arith in let a = times-one (pick x) (value x + 1) o in let b = times-one (pick x) (g (value x)) o in
      let n = none_picked (λ y. y + 1) xs (omega arith) in let k = none_picked g xs (omega arith) in let same : value x ≡ v = omega arith in let s = ap g same in omega arith)

module _ (z : Sizes) (m : RoomMemory) (content : ℕ → List ℕ) (hs : List RoomHolds) where
  as_list : (f : Span → Entry → ℕ) → all_of z m content hs (each f) ≡ total (over f) (flat z.chunks m.pin (cover_at m content) (map moving_of hs))
  as_list f = flat_total f z.chunks m.pin (cover_at m content) (map moving_of hs)

  -- of the entries of k, a number of the value word is that of the word found
  pub picked : (k v : ℕ) (g : ℕ → ℕ) → all_of z m content hs (each (has_key k)) ≤ 1 → word_of z m content hs k ≡ v + 1 → all_of z m content hs (each (λ s x. has_key k s x * g x.value)) ≡ g v
  unfolding over
  picked k v g once is = let a = as_list (has_key k) in let b = as_list (word_for k) in let c = as_list (λ s x. has_key k s x * g x.value) in
      let p = one_picked (λ (q : Span × Entry). has_key k q.0 q.1) (λ (q : Span × Entry). q.1.value) g (flat z.chunks m.pin (cover_at m content) (map moving_of hs)) v (omega arith) (omega arith) in omega arith

  -- no entry, no word
  pub no_word : (k : ℕ) → all_of z m content hs (each (has_key k)) ≡ 0 → word_of z m content hs k ≡ 0
  unfolding over
  no_word k none = let a = as_list (has_key k) in let b = as_list (word_for k) in
      let p = none_picked (λ (q : Span × Entry). has_key k q.0 q.1) (λ (q : Span × Entry). q.1.value) (λ y. y + 1) (flat z.chunks m.pin (cover_at m content) (map moving_of hs)) (omega arith) in omega arith

  pub all_le : (F G : Cover → ℕ) → ((c : Cover) → F c ≤ G c) → all_of z m content hs F ≤ all_of z m content hs G
  all_le F G h = covers_le z.chunks m.pin (cover_at m content) (map moving_of hs) F G h

  pub each_le : (f g : Span → Entry → ℕ) → ((s : Span) (x : Entry) → f s x ≤ g s x) → all_of z m content hs (each f) ≤ all_of z m content hs (each g)
  each_le f g h = all_le (each f) (each g) (λ c. total_le (f c.span) (g c.span) c.entries (h c.span))

  -- what a room adds
  pub all_at : (r : ℕ) (F : Cover → ℕ) → r < z.chunks → weight (m.pin r) ≡ 1 → F (cover_at m content r) ≤ all_of z m content hs F
  all_at r F l e = room_le z.chunks m.pin (cover_at m content) (map moving_of hs) F r l e

  -- where entries add something, one of them does, and it is added up at each number
  pub entry_some : (f : Span → Entry → ℕ) → 0 < all_of z m content hs (each f) → (s : Span) × (x : Entry) × (0 < f s x) × ((g : Span → Entry → ℕ) → g s x ≤ all_of z m content hs (each g))
  unfolding over
  entry_some f l = let a = as_list f in let t = total_some (λ (p : Span × Entry). f p.0 p.1) (flat z.chunks m.pin (cover_at m content) (map moving_of hs)) (omega arith) in
      (t.1.0, t.1.1, t.3, (λ g. let b = as_list g in let q = total_at (λ (p : Span × Entry). g p.0 p.1) (flat z.chunks m.pin (cover_at m content) (map moving_of hs)) t.0 t.1 t.2 in omega arith))
