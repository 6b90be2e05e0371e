-- Sums over lists of blocks, of what a block counts by its class and its number.
use Rattle.std.proofs.Common.{◌≡◌, ℕ, ◌+◌, ◌*◌, ◌<◌, ◌==◌, ◌&&◌, cond, Bool, true, false, List, [], ◌∷◌, ◌++◌, refl, ap, ◌∙◌, sym, subst, arith, eq-eqb, ne_eqb}
use Rattle.oak_model.specs.Counts.{one_if, one_at, total, rows}
use Rattle.oak_model.specs.Kept.{KeptWord, keeps}
use Rattle.oak_model.specs.declared.classes.Class.{Class}
use Rattle.oak_model.specs.Class.{class_number}
use Rattle.oak_model.proofs.Counting.{test-cases, total_append}
use Rattle.arena_core.specs.declared.blocks.HeldBlock.{HeldBlock}
use Rattle.arena_core.specs.Arena.{ArenaSpot, same_arena_spot, block_words, at_bytes}
use Rattle.arena_core.specs.HeldBlocks.{kept_of_block, kept_of_blocks}
use Rattle.arena_core.specs.Blocks.{is_block, without}
use Rattle.arena_core.specs.Place.{class_in, block_in, class_from, names_block}
use Rattle.arena_core.proofs.HeldLists.{here, is_block-is}
use Rattle.arena_core.proofs.PlaceLaws.{same_class, class_number-from}

abbrev pub weigh : (Class → ℕ → ℕ) → List HeldBlock → ℕ
weigh F hs = total (λ (g : HeldBlock). F g.class g.number) hs

-- what is taken out counts as often as it was there
pub weigh_without : (F : Class → ℕ → ℕ) (c : Class) (b : ℕ) (hs : List HeldBlock) → weigh F (without (class_number c) b hs) + total (here (class_number c) b) hs * F c b ≡ weigh F hs
unfolding total
weigh_without F c b [] = omega arith
weigh_without F c b (h ∷ hs) = test-cases (is_block (class_number c) b h) (λ t. is_block (class_number c) b h ≡ t → weigh F (cond t (without (class_number c) b hs) (h ∷ without (class_number c) b hs)) + (one_if t + total (here (class_number c) b) hs) * F c b ≡ F h.class h.number + weigh F hs)
    (λ _ is. let p = is_block-is (class_number c) b h is in let same : F h.class h.number ≡ F c b = (λ i. F (same_class h.class c p.0 i) (p.1 i)) in
    let t = weigh_without F c b hs in let x : ℕ = total (here (class_number c) b) hs in let f : ℕ = F c b in let w : ℕ = weigh F (without (class_number c) b hs) in let w' : ℕ = weigh F hs in let t' : w + x * f ≡ w' = t in
    let d : (1 + x) * f ≡ f + x * f = grind arith in let fh : ℕ = F h.class h.number in let same' : fh ≡ f = same in let r : w + (1 + x) * f ≡ fh + w' = omega arith in r)
    (λ _ _. let t = weigh_without F c b hs in let x : ℕ = total (here (class_number c) b) hs in let f : ℕ = F c b in let w : ℕ = weigh F (without (class_number c) b hs) in let w' : ℕ = weigh F hs in let t' : w + x * f ≡ w' = t in
    let fh : ℕ = F h.class h.number in let p : ℕ = x * f in let z : (0 + x) * f ≡ x * f = refl_of x f in let q : ℕ = (0 + x) * f in let z' : q ≡ p = z in let t'' : w + p ≡ w' = t' in let r : (fh + w) + q ≡ fh + w' = omega arith in r) refl
  where
    refl_of : (x f : ℕ) → (0 + x) * f ≡ x * f
    refl_of x f = grind arith

-- how often the words of a block are kept does not depend on their numbers
abbrev pub keeping : ArenaSpot → Class → ℕ → ℕ
keeping q c b = keeps same_arena_spot q (kept_of_block record { class = c; number = b; words = [] })

spots_alone : (q : ArenaSpot) (c b : ℕ) (i n : ℕ) (f g : ℕ → ℕ)
    → keeps same_arena_spot q (rows i n (λ k. record { spot = at_bytes c b k; number = f k })) ≡ keeps same_arena_spot q (rows i n (λ k. record { spot = at_bytes c b k; number = g k }))
unfolding rows total
spots_alone q c b i Rattle.std.proofs.Common.zero f g = refl
spots_alone q c b i (Rattle.std.proofs.Common.suc n) f g = ap (λ (t : ℕ). one_if (same_arena_spot (at_bytes c b i) q) + t) (spots_alone q c b (Rattle.std.proofs.Common.suc i) n f g)

pub keeping_block : (q : ArenaSpot) (h : HeldBlock) → keeps same_arena_spot q (kept_of_block h) ≡ keeping q h.class h.number
keeping_block q h = spots_alone q (class_number h.class) h.number 0 (block_words (class_number h.class)) (λ k. Rattle.std.proofs.Common.get_or h.words k 0) (λ k. Rattle.std.proofs.Common.get_or [] k 0)

pub keeping_blocks : (q : ArenaSpot) (hs : List HeldBlock) → keeps same_arena_spot q (kept_of_blocks hs) ≡ weigh (keeping q) hs
unfolding kept_of_blocks total
keeping_blocks q [] = refl
keeping_blocks q (h ∷ hs) = let a = total_append (λ (w : KeptWord ArenaSpot). one_if (same_arena_spot w.spot q)) (kept_of_block h) (kept_of_blocks hs) in let b = keeping_block q h in let t = keeping_blocks q hs in omega arith

-- 1 for the block
abbrev pub only : ℕ → ℕ → Class → ℕ → ℕ
only c b d n = one_if ((class_number d == c) && (n == b))

pub only_named : (c b word : ℕ) → class_in word < 4 → only c b (class_from (class_in word)) (block_in word) ≡ names_block c b word
unfolding one_at
only_named c b word lt = ap (λ (n : ℕ). one_if ((n == c) && (block_in word == b))) (class_number-from (class_in word) lt) ∙ both (class_in word == c) (block_in word == b)
  where
    both : (s t : Bool) → one_if (s && t) ≡ one_if s * one_if t
    both true true = refl
    both true false = refl
    both false t = let x : ℕ = one_if t in let r : 0 ≡ 0 * x = omega arith in r
