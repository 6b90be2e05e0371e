-- The words that are kept with held blocks.
use Rattle.std.proofs.Common.{◌≡◌, ℕ, ◌+◌, ◌<◌, ◌≤◌, ◌==◌, ◌&&◌, Bool, true, false, cond, List, [], ◌∷◌, ◌++◌, length, get_or, set, sym, refl, ap, ◌∙◌, arith, eq-eqb, ne_eqb, get_or-set_other, get_or-set_same}
use mathlib.Core.Logic.{dite}
use native.Mathlib.Decide.{ℕ_discrete}
use Rattle.oak_model.specs.Counts.{one_if, total, Each}
use Rattle.oak_model.specs.Kept.{KeptWord, keeps, AreTrueTo, restored}
use Rattle.oak_model.specs.declared.classes.Class.{Class}
use Rattle.oak_model.specs.Class.{class_number}
use Rattle.oak_model.proofs.Lists.{each_append, rows_at}
use Rattle.oak_model.proofs.Counting.{test-cases, total_append}
use Rattle.oak_model.proofs.RowLaws.{each_rows, rows_same, rows_map, rows_most, rows_some, restored_append, each_first, each_rest}
use Rattle.arena_core.specs.declared.blocks.HeldBlock.{HeldBlock}
use Rattle.arena_core.specs.Arena.{ArenaMemory, ArenaSpot, at_bits, at_bytes, same_arena_spot, read_arena, block_words}
use Rattle.arena_core.specs.HeldBlocks.{kept_of_block, kept_of_blocks}
use Rattle.arena_core.specs.Blocks.{is_block, IsWhole, block_from, without, rewritten}
use Rattle.arena_core.proofs.HeldLists.{here, is_block-is}

abbrev word_at : HeldBlock → ℕ → KeptWord ArenaSpot
word_at h l = record { spot = at_bytes (class_number h.class) h.number l; number = get_or h.words l 0 }

-- no word of bits is kept
pub block_keeps-bits : (c i : ℕ) (h : HeldBlock) → keeps same_arena_spot (at_bits c i) (kept_of_block h) ≡ 0
block_keeps-bits c i h = let m = rows_most (λ (w : KeptWord ArenaSpot). one_if (same_arena_spot w.spot (at_bits c i))) false 0 0 (block_words (class_number h.class)) (word_at h) (λ l. refl) in omega arith

pub keeps_bits : (c i : ℕ) (hs : List HeldBlock) → keeps same_arena_spot (at_bits c i) (kept_of_blocks hs) ≡ 0
unfolding kept_of_blocks total
keeps_bits c i [] = refl
keeps_bits c i (h ∷ hs) = let a = total_append (λ (w : KeptWord ArenaSpot). one_if (same_arena_spot w.spot (at_bits c i))) (kept_of_block h) (kept_of_blocks hs) in let b = block_keeps-bits c i h in let t = keeps_bits c i hs in omega arith

-- a word of a block is kept with that block
byte_word : (c b k : ℕ) (h : HeldBlock) (l : ℕ) → one_if (same_arena_spot (at_bytes (class_number h.class) h.number l) (at_bytes c b k)) ≡ one_if (is_block c b h && (l == k))
byte_word c b k h l = ap one_if (regroup (class_number h.class == c) (h.number == b) (l == k))
  where
    regroup : (p q r : Bool) → (p && (q && r)) ≡ ((p && q) && r)
    regroup true q r = refl
    regroup false q r = refl

pub block_keeps-most : (c b k : ℕ) (h : HeldBlock) → keeps same_arena_spot (at_bytes c b k) (kept_of_block h) ≤ here c b h
block_keeps-most c b k h = rows_most (λ (w : KeptWord ArenaSpot). one_if (same_arena_spot w.spot (at_bytes c b k))) (is_block c b h) k 0 (block_words (class_number h.class)) (word_at h) (byte_word c b k h)

pub keeps_most : (c b k : ℕ) (hs : List HeldBlock) → keeps same_arena_spot (at_bytes c b k) (kept_of_blocks hs) ≤ total (here c b) hs
unfolding kept_of_blocks total
keeps_most c b k [] = omega arith
keeps_most c b k (h ∷ hs) = let a = total_append (λ (w : KeptWord ArenaSpot). one_if (same_arena_spot w.spot (at_bytes c b k))) (kept_of_block h) (kept_of_blocks hs) in let m = block_keeps-most c b k h in let t = keeps_most c b k hs in omega arith

block_keeps-some : (c b k : ℕ) (h : HeldBlock) → is_block c b h ≡ true → k < block_words c → 0 < keeps same_arena_spot (at_bytes c b k) (kept_of_block h)
block_keeps-some c b k h is lt = let w : block_words (class_number h.class) ≡ block_words c = ap block_words (is_block-is c b h is).0 in
    rows_some (λ (w : KeptWord ArenaSpot). one_if (same_arena_spot w.spot (at_bytes c b k))) k 0 (block_words (class_number h.class)) (word_at h)
    (λ l. byte_word c b k h l ∙ ap (λ (t : Bool). one_if (t && (l == k))) is) (omega arith) (omega arith)

pub keeps_some : (c b k : ℕ) (hs : List HeldBlock) → 0 < total (here c b) hs → k < block_words c → 0 < keeps same_arena_spot (at_bytes c b k) (kept_of_blocks hs)
unfolding kept_of_blocks total
keeps_some c b k [] h lt = absurd (omega arith)
keeps_some c b k (h ∷ hs) some_of lt = let a = total_append (λ (w : KeptWord ArenaSpot). one_if (same_arena_spot w.spot (at_bytes c b k))) (kept_of_block h) (kept_of_blocks hs) in
    test-cases (is_block c b h) (λ t. one_if t + total (here c b) hs ≡ one_if t + total (here c b) hs → 0 < one_if t + total (here c b) hs → 0 < keeps same_arena_spot (at_bytes c b k) (kept_of_block h ++ kept_of_blocks hs))
    (λ is _ _. let s = block_keeps-some c b k h is lt in omega arith) (λ no _ p. let s = keeps_some c b k hs (omega arith) lt in omega arith) refl some_of

-- the numbers are those of the words

pub taken_true : (m : ArenaMemory) (c : Class) (b : ℕ) → AreTrueTo (read_arena m) (kept_of_block (block_from m.bytes c b))
taken_true m c b = each_rows (λ (w : KeptWord ArenaSpot). read_arena m w.spot ≡ w.number) 0 (block_words (class_number c)) (word_at (block_from m.bytes c b))
    (λ k le lt. sym (rows_at 0 (block_words (class_number c)) k (m.bytes (class_number c) b) 0 (omega arith) ∙ ap (m.bytes (class_number c) b) (omega arith)))

pub true_without : (read : ArenaSpot → ℕ) (c b : ℕ) (hs : List HeldBlock) → AreTrueTo read (kept_of_blocks hs) → AreTrueTo read (kept_of_blocks (without c b hs))
unfolding kept_of_blocks
true_without read c b [] t = tt
true_without read c b (h ∷ hs) t = let P = λ (w : KeptWord ArenaSpot). read w.spot ≡ w.number in let u = true_without read c b hs (each_rest P (kept_of_block h) (kept_of_blocks hs) t) in
    elim (is_block c b h) as (λ s. AreTrueTo read (kept_of_blocks (cond s (without c b hs) (h ∷ without c b hs))))
    [ true ↦ u | false ↦ each_append P (kept_of_block h) (kept_of_blocks (without c b hs)) (each_first P (kept_of_block h) (kept_of_blocks hs) t) u ]

pub keeps_without : (q : ArenaSpot) (c b : ℕ) (hs : List HeldBlock) → keeps same_arena_spot q (kept_of_blocks (without c b hs)) ≤ keeps same_arena_spot q (kept_of_blocks hs)
unfolding kept_of_blocks total
keeps_without q c b [] = omega arith
keeps_without q c b (h ∷ hs) = let f = λ (w : KeptWord ArenaSpot). one_if (same_arena_spot w.spot q) in let a = total_append f (kept_of_block h) (kept_of_blocks hs) in
    let d = total_append f (kept_of_block h) (kept_of_blocks (without c b hs)) in let t = keeps_without q c b hs in
    elim (is_block c b h) as (λ s. keeps same_arena_spot q (kept_of_blocks (cond s (without c b hs) (h ∷ without c b hs))) ≤ keeps same_arena_spot q (kept_of_block h ++ kept_of_blocks hs))
    [ true ↦ omega arith | false ↦ omega arith ]

-- a word that is written changes its number, with its block's others
module _ (c b k x : ℕ) (h : HeldBlock) (whole : IsWhole h) where
  abbrev h' : HeldBlock
  h' = record h { words = cond (is_block c b h) (set h.words k x) h.words }

  abbrev restore : KeptWord ArenaSpot → KeptWord ArenaSpot
  restore w = record { spot = w.spot; number = cond (same_arena_spot w.spot (at_bytes c b k)) x w.number }

  number_is : (p q : Bool) (l : ℕ) → l < length h.words → get_or (cond (p && q) (set h.words k x) h.words) l 0 ≡ cond (p && (q && (l == k))) x (get_or h.words l 0)
  number_is true true l lt = dite (ℕ_discrete l k)
      (λ e. ap (λ (n : ℕ). get_or (set h.words k x) n 0) e ∙ (get_or-set_same h.words k x 0 (omega arith) ∙ sym (ap (λ (t : Bool). cond t x (get_or h.words l 0)) (eq-eqb l k e))))
      (λ ne. get_or-set_other h.words k l x 0 ne ∙ sym (ap (λ (t : Bool). cond t x (get_or h.words l 0)) (ne_eqb l k ne)))
  number_is true false l lt = refl
  number_is false q l lt = refl

  same_word : (l : ℕ) → l < block_words (class_number h.class) → word_at h' l ≡ restore (word_at h l)
  same_word l lt = λ i. record { spot = at_bytes (class_number h.class) h.number l; number = number_is (class_number h.class == c) (h.number == b) l (let w = whole in omega arith) i }

  pub block_rewritten : kept_of_block h' ≡ restored same_arena_spot (at_bytes c b k) x (kept_of_block h)
  block_rewritten = rows_same 0 (block_words (class_number h.class)) (word_at h') (λ l. restore (word_at h l)) (λ l le lt. same_word l (omega arith)) ∙ sym (rows_map restore 0 (block_words (class_number h.class)) (word_at h))

pub kept_rewritten : (c b k x : ℕ) (hs : List HeldBlock) → Each IsWhole hs → kept_of_blocks (rewritten c b k x hs) ≡ restored same_arena_spot (at_bytes c b k) x (kept_of_blocks hs)
unfolding kept_of_blocks
kept_rewritten c b k x [] w = refl
kept_rewritten c b k x (h ∷ hs) w = (λ i. block_rewritten c b k x h w.0 i ++ kept_rewritten c b k x hs w.1 i) ∙ sym (restored_append same_arena_spot (at_bytes c b k) x (kept_of_block h) (kept_of_blocks hs))
