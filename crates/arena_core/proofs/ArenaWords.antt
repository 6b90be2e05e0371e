-- The words of the arena lie apart, and one behind the other.
use Rattle.std.proofs.Common.{◌≡◌, ℕ, ◌+◌, ◌-◌, ◌*◌, ◌<◌, true, sym, refl, ap, ◌∙◌, subst, arith, lt-ltb, ltb-true, eqb-true, eq-eqb}
use mathlib.Core.Logic.{dite}
use native.Mathlib.Decide.{dec_lt}
use Rattle.oak_model.specs.declared.limits.TheConstants.{CLASSES}
use Rattle.oak_model.specs.Limits.{Sizes}
use Rattle.oak_model.specs.Counts.{below}
use Rattle.oak_model.proofs.Counting.{both_true, true_both, below_inside, below_apart, below_covers, even_inside, even_apart, even_covers}
use Rattle.arena_core.specs.Arena.{block_words, blocks, bit_words, byte_words, arena_words, ArenaSpot, at_bits, at_bytes, same_arena_spot, read_arena, arena_of, IsInArena, is_in_arena, arena_index}

pub same_arena_spot-is : (p q : ArenaSpot) → same_arena_spot p q ≡ true → p ≡ q
same_arena_spot-is (at_bits c i) (at_bits d j) e = let t = both_true _ _ e in λ k. at_bits (eqb-true c d t.0 k) (eqb-true i j t.1 k)
same_arena_spot-is (at_bytes c b k) (at_bytes d e l) h = let t = both_true _ _ h in let u = both_true _ _ t.1 in λ i. at_bytes (eqb-true c d t.0 i) (eqb-true b e u.0 i) (eqb-true k l u.1 i)
same_arena_spot-is (at_bits c i) (at_bytes d e l) h = absurd cc
same_arena_spot-is (at_bytes c b k) (at_bits d j) h = absurd cc

pub same_arena_spot-self : (p : ArenaSpot) → same_arena_spot p p ≡ true
same_arena_spot-self (at_bits c i) = true_both _ _ (eq-eqb c c refl) (eq-eqb i i refl)
same_arena_spot-self (at_bytes c b k) = true_both _ _ (eq-eqb c c refl) (true_both _ _ (eq-eqb b b refl) (eq-eqb k k refl))

pub read_arena-of : (f : ArenaSpot → ℕ) (p : ArenaSpot) → read_arena (arena_of f) p ≡ f p
read_arena-of f (at_bits c i) = refl
read_arena-of f (at_bytes c b k) = refl

pub in_arena : (z : Sizes) (p : ArenaSpot) → is_in_arena z p ≡ true → IsInArena z p
in_arena z (at_bits c i) h = let t = both_true _ _ h in (ltb-true _ _ t.0, ltb-true _ _ t.1)
in_arena z (at_bytes c b k) h = let t = both_true _ _ h in let u = both_true _ _ t.1 in (ltb-true _ _ t.0, ltb-true _ _ u.0, ltb-true _ _ u.1)

pub arena_in : (z : Sizes) (p : ArenaSpot) → IsInArena z p → is_in_arena z p ≡ true
arena_in z (at_bits c i) h = true_both _ _ (lt-ltb _ _ h.0) (lt-ltb _ _ h.1)
arena_in z (at_bytes c b k) h = true_both _ _ (lt-ltb _ _ h.0) (true_both _ _ (lt-ltb _ _ h.1) (lt-ltb _ _ h.2))

byte_place : (z : Sizes) (c b k : ℕ) → b < blocks z c → k < block_words c → b * block_words c + k < byte_words z c
byte_place z c b k lb lk = even_inside (block_words c) b (blocks z c) k lk lb

pub arena_below : (z : Sizes) (p : ArenaSpot) → IsInArena z p → arena_index z p < arena_words z
unfolding arena_index
arena_below z (at_bits c i) h = let a = below_inside (bit_words z) c CLASSES i h.0 h.1 in omega arith
arena_below z (at_bytes c b k) h = let a = below_inside (byte_words z) c CLASSES (b * block_words c + k) h.0 (byte_place z c b k h.1 h.2) in
    let x : ℕ = below (bit_words z) CLASSES in let y : ℕ = below (byte_words z) c + (b * block_words c + k) in let y' : y < below (byte_words z) CLASSES = a in let r : x + y < x + below (byte_words z) CLASSES = omega arith in r

pub arena_apart : (z : Sizes) (p q : ArenaSpot) → IsInArena z p → IsInArena z q → arena_index z p ≡ arena_index z q → p ≡ q
unfolding arena_index
arena_apart z (at_bits c i) (at_bits d j) h g e = let t = below_apart (bit_words z) c d i j h.1 g.1 e in λ k. at_bits (t.0 k) (t.1 k)
arena_apart z (at_bits c i) (at_bytes d b k) h g e = let a = below_inside (bit_words z) c CLASSES i h.0 h.1 in let y : ℕ = below (byte_words z) d + (b * block_words d + k) in
    let e' : below (bit_words z) c + i ≡ below (bit_words z) CLASSES + y = e in absurd (omega arith)
arena_apart z (at_bytes d b k) (at_bits c i) h g e = let a = below_inside (bit_words z) c CLASSES i g.0 g.1 in let y : ℕ = below (byte_words z) d + (b * block_words d + k) in
    let e' : below (bit_words z) CLASSES + y ≡ below (bit_words z) c + i = e in absurd (omega arith)
arena_apart z (at_bytes c b k) (at_bytes d a l) h g e =
    let x : ℕ = b * block_words c + k in let y : ℕ = a * block_words d + l in let f : ℕ = below (bit_words z) CLASSES in
    let e' : f + (below (byte_words z) c + x) ≡ f + (below (byte_words z) d + y) = e in
    let t = below_apart (byte_words z) c d x y (byte_place z c b k h.1 h.2) (byte_place z d a l g.1 g.2) (omega arith) in
    let w : block_words d ≡ block_words c = ap block_words (sym t.0) in
    let u = even_apart (block_words c) b a k l h.2 (subst (λ (n : ℕ). l < n) w g.2) (t.1 ∙ ap (λ (n : ℕ). a * n + l) w) in λ i. at_bytes (t.0 i) (u.0 i) (u.1 i)

pub arena_covers : (z : Sizes) (i : ℕ) → i < arena_words z → (p : ArenaSpot) × IsInArena z p × (arena_index z p ≡ i)
unfolding arena_index
arena_covers z i h = let f : ℕ = below (bit_words z) CLASSES in let g : ℕ = below (byte_words z) CLASSES in let h' : i < f + g = h in
    dite (dec_lt i f)
    (λ l. let t = below_covers (bit_words z) CLASSES i l in (at_bits t.0 t.1, (t.2, t.3), t.4))
    (λ no. let t = below_covers (byte_words z) CLASSES (i - f) (omega arith) in let u = even_covers (block_words t.0) (blocks z t.0) t.1 t.3 in
    (at_bytes t.0 u.0 u.1, (t.2, u.2, u.3), ap (λ (n : ℕ). f + (below (byte_words z) t.0 + n)) u.4 ∙ (let e : below (byte_words z) t.0 + t.1 ≡ i - f = t.4 in let r : f + (below (byte_words z) t.0 + t.1) ≡ i = omega arith in r)))
