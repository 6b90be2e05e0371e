-- What concerns a key is read off the room that covers it.
use Rattle.std.proofs.Common.{◌≡◌, ◌≢◌, ℕ, ◌+◌, ◌*◌, ◌<◌, List, [], ◌∷◌, map, refl, ap, ◌∙◌, arith}
use mathlib.Core.Logic.{dite}
use native.Mathlib.Decide.{ℕ_discrete}
use Rattle.pin_word.specs.PinWord.{state_of}
use Rattle.chunk_core.specs.declared.holds.RoomHolds.{RoomHolds}
use Rattle.chunk_core.specs.declared.states.TheConstants.{OPEN, FROZEN}
use Rattle.oak_model.specs.Counts.{one_at, total, put}
use Rattle.oak_model.specs.Limits.{Sizes}
use Rattle.oak_model.proofs.Counting.{one_at-same, one_at-other}
use Rattle.oak_model.proofs.PutLaws.{put-here, put-else}
use Rattle.oak_model.proofs.SumLaws.{times-one, times-none, below_set, total_none, below_none}
use Rattle.chunk_core.specs.CoverRule.{CoversPartition}
use Rattle.chunk_core.specs.CoverSums.{covers, each, weight, is_in, base_for, has_key, stray, all_of, base_of}
use Rattle.chunk_core.specs.Covers.{Entry, Cover, cover_at, span_in, key_at, moving_of}
use Rattle.chunk_core.specs.Rooms.{RoomMemory}
use Rattle.chunk_core.specs.Spans.{Span, within}
use Rattle.chunk_core.proofs.CoverLaws.{covers_plus}

-- where F adds nothing, and G is nothing where F is, G adds nothing
pub covers_none : (n : ℕ) (pin : ℕ → ℕ) (cover : ℕ → Cover) (ms : List (List Cover)) (F G : Cover → ℕ) → ((c : Cover) → F c ≡ 0 → G c ≡ 0) → covers n pin cover ms F ≡ 0 → covers n pin cover ms G ≡ 0
unfolding covers
covers_none n pin cover ms F G h e = let a = below_none (λ j. weight (pin j) * F (cover j)) (λ j. weight (pin j) * G (cover j)) n (λ j. times (weight (pin j)) (F (cover j)) (G (cover j)) (h (cover j))) (omega arith) in
    let b = total_none (total F) (total G) ms (λ g. total_none F G g h) (omega arith) in omega arith
  where
    times : (w x y : ℕ) → (x ≡ 0 → y ≡ 0) → w * x ≡ 0 → w * y ≡ 0
    times w x y f e = dite (ℕ_discrete w 0) (λ z. times-none w y z) (λ ne. let x0 : x ≡ 0 = nil w x ne e in ap (λ (t : ℕ). w * t) (f x0) ∙ (let u : w * 0 ≡ 0 = omega arith in u))
      where
        nil : (w x : ℕ) → w ≢ 0 → w * x ≡ 0 → x ≡ 0
        nil w x ne e = grind arith

-- a word of 0 is that of no cover
pub closed : weight 0 ≡ 0
unfolding state_of
closed = let a = one_at-other (state_of 0) OPEN (λ q. absurd (omega arith)) in let b = one_at-other (state_of 0) FROZEN (λ q. absurd (omega arith)) in omega arith

-- the rooms without one of them, and that one
pub split_room : (n : ℕ) (pin : ℕ → ℕ) (cover : ℕ → Cover) (ms : List (List Cover)) (r : ℕ) (F : Cover → ℕ) → r < n → weight (pin r) ≡ 1 → covers n pin cover ms F ≡ covers n (put pin r 0) cover ms F + F (cover r)
unfolding covers
split_room n pin cover ms r F l w = let s = below_set (λ j. weight (put pin r 0 j) * F (cover j)) (λ j. weight (pin j) * F (cover j)) n r l (λ j ne. ap (λ (t : ℕ). weight t * F (cover j)) (put-else pin r 0 j ne)) in
    let a = times-one (weight (pin r)) (F (cover r)) w in let b = times-none (weight (put pin r 0 r)) (F (cover r)) (ap weight (put-here pin r 0 r refl) ∙ closed) in omega arith

module _ (z : Sizes) (m : RoomMemory) (content : ℕ → List ℕ) (hs : List RoomHolds) (is_key_word : ℕ → ℕ) (c : CoversPartition z m content is_key_word hs) (r k : ℕ) (l : r < z.chunks) (w : weight (m.pin r) ≡ 1) (inside : within (span_in m r) k ≡ 1) where
  -- what is nothing where the key is outside and no entry is stray, is what the room adds
  pub of_room : (G : Cover → ℕ) → ((u : Cover) → is_in k u ≡ 0 → each (stray) u ≡ 0 → G u ≡ 0) → all_of z m content hs G ≡ G (cover_at m content r)
  of_room G h = let ms : List (List Cover) = map moving_of hs in let a = split_room z.chunks m.pin (cover_at m content) ms r G l w in let b = split_room z.chunks m.pin (cover_at m content) ms r (is_in k) l w in let d = split_room z.chunks m.pin (cover_at m content) ms r (each (stray)) l w in
      let p = covers_plus z.chunks (put m.pin r 0) (cover_at m content) ms (is_in k) (each (stray)) in let one = c.covered k in let none = c.inside in
      let q = covers_none z.chunks (put m.pin r 0) (cover_at m content) ms (λ u. is_in k u + each (stray) u) G (λ u e. h u (omega arith) (omega arith)) (omega arith) in omega arith

  -- an entry of the key adds where the key is inside
  apart : (g : Span → Entry → ℕ) → ((s : Span) (x : Entry) → x.key ≢ k → g s x ≡ 0) → (u : Cover) → is_in k u ≡ 0 → each (stray) u ≡ 0 → each g u ≡ 0
  apart g h u out e = total_none (stray u.span) (g u.span) u.entries (λ x q. h u.span x (λ same. let o = ap (within u.span) same in omega arith)) e

  pub entry_of_room : (g : Span → Entry → ℕ) → ((s : Span) (x : Entry) → x.key ≢ k → g s x ≡ 0) → all_of z m content hs (each g) ≡ each g (cover_at m content r)
  entry_of_room g h = of_room (each g) (apart g h)

  pub base_of_room : base_of z m content hs k ≡ m.base r
  base_of_room = of_room (base_for k) (λ u out _. times-none (is_in k u) u.span.base out) ∙ times-one (within (span_in m r) k) (m.base r) inside

  pub count_of_room : all_of z m content hs (each (has_key k)) ≡ each (has_key k) (cover_at m content r)
  count_of_room = entry_of_room (has_key k) (λ s x ne. one_at-other (x.key) k ne)

-- the room has no entry of the key, where no linked number has it
pub none_there : (m : RoomMemory) (content : ℕ → List ℕ) (r k : ℕ) (xs : List ℕ) → ((i : ℕ) → 0 < total (λ j. one_at j i) xs → key_at content (m.key r i) ≢ k) → total (λ i. one_at (key_at content (m.key r i)) k) xs ≡ 0
unfolding total
none_there m content r k [] h = refl
none_there m content r k (i ∷ is) h = let a = one_at-other (key_at content (m.key r i)) k (h i (let o = one_at-same i i refl in omega arith)) in let t = none_there m content r k is (λ j p. h j (omega arith)) in omega arith
