-- The words that a pass keeps of a block that it holds are those of the table.
use Rattle.std.proofs.Common.{◌≡◌, ℕ, zero, suc, ◌+◌, ◌<◌, cond, List, [], ◌∷◌, get_or, sym, ap, ◌∙◌, subst, arith, refl, true, false, set, length}
use Rattle.oak_model.specs.Class.{class_number}
use Rattle.oak_model.specs.Counts.{one_if, total, rows, Each}
use Rattle.oak_model.specs.Kept.{KeptWord, AreTrueTo}
use Rattle.oak_model.proofs.Counting.{test-cases}
use Rattle.oak_model.proofs.Lists.{rows_length, rows_at, same_elements}
use Rattle.oak_model.proofs.RowLaws.{each_first, each_rest}
use Rattle.arena_core.specs.declared.blocks.HeldBlock.{HeldBlock}
use Rattle.arena_core.specs.Arena.{ArenaMemory, ArenaSpot, at_bytes, read_arena, block_words}
use Rattle.arena_core.specs.HeldBlocks.{kept_of_block, kept_of_blocks}
use Rattle.arena_core.specs.Blocks.{is_block, IsWhole, words_held, without, rewritten}
use Rattle.arena_core.proofs.HeldLists.{here, is_block-is}

-- what holds of each row holds of the row at a place
row_at : {A : Type 0} (P : A → Type 0) (i n : ℕ) (f : ℕ → A) → Each P (rows i n f) → (k : ℕ) → k < n → P (f (i + k))
unfolding rows
row_at P i zero f h k lt = absurd (omega arith)
row_at P i (suc n) f h zero lt = subst (λ (j : ℕ). P (f j)) (let e : i ≡ i + 0 = omega arith in e) h.0
row_at P i (suc n) f h (suc k) lt = subst (λ (j : ℕ). P (f j)) (let e : suc i + k ≡ i + suc k = omega arith in e) (row_at P (suc i) n f h.1 k (omega arith))

-- the words of a held block are those of the table
pub words_are : (m : ArenaMemory) (o : HeldBlock) → IsWhole o → AreTrueTo (read_arena m) (kept_of_block o) → rows 0 (block_words (class_number o.class)) (m.bytes (class_number o.class) o.number) ≡ o.words
words_are m o whole t = let n : ℕ = block_words (class_number o.class) in let f : ℕ → ℕ = m.bytes (class_number o.class) o.number in let wide = rows_length 0 n f in
    same_elements (rows 0 n f) o.words 0 (wide ∙ sym whole)
    (λ k lt. let lk : k < n = omega arith in rows_at 0 n k f 0 lk
    ∙ (row_at (λ (w : KeptWord ArenaSpot). read_arena m w.spot ≡ w.number) 0 n (λ l. record { spot = at_bytes (class_number o.class) o.number l; number = get_or o.words l 0 }) t k lk
    ∙ ap (λ (i : ℕ). get_or o.words i 0) (let e : 0 + k ≡ k = omega arith in e)))

pub held_words : (m : ArenaMemory) (c b : ℕ) (os : List HeldBlock) → Each IsWhole os → AreTrueTo (read_arena m) (kept_of_blocks os) → 0 < total (here c b) os → rows 0 (block_words c) (m.bytes c b) ≡ words_held c b os
unfolding total kept_of_blocks
held_words m c b [] whole t some_of = absurd (omega arith)
held_words m c b (o ∷ os) whole t some_of = let P = λ (w : KeptWord ArenaSpot). read_arena m w.spot ≡ w.number in
    test-cases (is_block c b o) (λ s. 0 < one_if s + total (here c b) os → rows 0 (block_words c) (m.bytes c b) ≡ cond s o.words (words_held c b os))
    (λ is _. let p = is_block-is c b o is in subst (λ (q : ℕ × ℕ). rows 0 (block_words q.0) (m.bytes q.0 q.1) ≡ o.words) (λ i. (p.0 i, p.1 i)) (words_are m o whole.0 (each_first P (kept_of_block o) (kept_of_blocks os) t)))
    (λ _ l. held_words m c b os whole.1 (each_rest P (kept_of_block o) (kept_of_blocks os) t) (omega arith)) some_of

-- word k of the block is stored to: its words are those, with that one, and the others are held as before

pub words_rewritten : (c b k x : ℕ) (os : List HeldBlock) → words_held c b (rewritten c b k x os) ≡ set (words_held c b os) k x
words_rewritten c b k x [] = refl
words_rewritten c b k x (o ∷ os) = elim (is_block c b o) as (λ t. cond t (cond t (set o.words k x) o.words) (words_held c b (rewritten c b k x os)) ≡ set (cond t o.words (words_held c b os)) k x) [ true ↦ refl | false ↦ words_rewritten c b k x os ]

pub without_rewritten : (c b k x : ℕ) (os : List HeldBlock) → without c b (rewritten c b k x os) ≡ without c b os
without_rewritten c b k x [] = refl
without_rewritten c b k x (o ∷ os) = elim (is_block c b o) as (λ t. cond t (without c b (rewritten c b k x os)) (record o { words = cond t (set o.words k x) o.words } ∷ without c b (rewritten c b k x os)) ≡ cond t (without c b os) (o ∷ without c b os))
    [ true ↦ without_rewritten c b k x os | false ↦ ap (λ (l : List HeldBlock). o ∷ l) (without_rewritten c b k x os) ]

-- a block that is held has all its words
pub words_whole : (c b : ℕ) (os : List HeldBlock) → Each IsWhole os → 0 < total (here c b) os → length (words_held c b os) ≡ block_words c
unfolding total
words_whole c b [] whole some_of = absurd (omega arith)
words_whole c b (o ∷ os) whole some_of = test-cases (is_block c b o) (λ s. 0 < one_if s + total (here c b) os → length (cond s o.words (words_held c b os)) ≡ block_words c)
    (λ is _. whole.0 ∙ ap block_words (is_block-is c b o is).0) (λ _ l. words_whole c b os whole.1 (omega arith)) some_of
