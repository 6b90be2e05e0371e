-- Each kind of step on the arena keeps one owner for each block.
use Rattle.std.proofs.Common.{◌≡◌, ◌≢◌, ℕ, ◌+◌, ◌-◌, ◌*◌, ◌/◌, ◌%◌, ◌^◌, ◌<◌, ◌≤◌, ◌==◌, Bool, true, false, cond, eqb, List, [], ◌∷◌, set, sym, refl, ap, ◌∙◌, subst, arith, eqb-true, eq-eqb, true≢false, w64, shl_exact, pow_mono}
use Rattle.std.specs.Prelude.{bit_and, bit_or}
use Rattle.std.specs.Int.{bit_at, bit_not}
use Rattle.std.proofs.lemmas.Nat.Bits.{bit_at_or, bit_at-pow_same, bit_at-pow_other, bit_at-lt, bit_at_clear_same, bit_at_clear_other}
use mathlib.Core.Option.{some}
use mathlib.Core.Logic.{dite}
use native.Mathlib.Decide.{ℕ_discrete}
use lib.ListN.{get_elem?}
use Rattle.oak_model.specs.Limits.{Sizes}
use Rattle.oak_model.specs.Counts.{one_if, total, Each}
use Rattle.oak_model.specs.declared.classes.Class.{Class}
use Rattle.oak_model.specs.Class.{class_number}
use Rattle.oak_model.proofs.Lists.{rows_length}
use Rattle.oak_model.proofs.Counting.{test-cases, total_at}
use Rattle.oak_model.proofs.Changes.{Change, stepped}
use Rattle.arena_core.specs.declared.blocks.HeldBlocks.{HeldBlocks}
use Rattle.arena_core.specs.Arena.{ArenaMemory, read_arena, block_words, blocks}
use Rattle.arena_core.specs.Blocks.{is_block, holds, IsWhole, BlocksAreOwned, block_from, without, rewritten}
use Rattle.arena_core.specs.ArenaStep.{ArenaStep, take_bit, clear_bit, store_word, arena_spot, bit_of, arena_effect, MayArena, blocks_after, put_arena}
use Rattle.arena_core.proofs.HeldLists.{here, is_block-is, is_block-true, without_none, without_others, rewritten_same, whole_without, whole_rewritten}
use Rattle.arena_core.proofs.OwnedBlocks.{blocks_frame, bit_changes}

pub bit_of_below : (b : ℕ) → bit_of b < 2 ^ 64
bit_of_below b = let a : 2 ^ (b % 64) ≤ 2 ^ 63 = pow_mono {i = b % 64} {j = 63} (omega arith) in omega arith

-- the mask of a bit, as it is computed
pub mask_is : (k : ℕ) → k < 64 → bit_not w64 (1 * 2 ^ k % 2 ^ 64) ≡ 2 ^ 64 - 1 - 2 ^ k
mask_is k lt = ap (λ (n : ℕ). 2 ^ 64 - 1 - n) shifted
  where
    shifted : 1 * 2 ^ k % 2 ^ 64 ≡ 2 ^ k
    shifted = let e : 1 * 2 ^ k % 2 ^ 64 ≡ 1 * 2 ^ k = shl_exact {a = 1} 1 k 64 (omega arith) (omega arith) in let x : ℕ = 2 ^ k in e ∙ (let r : 1 * x ≡ x = omega arith in r)

-- the word of a bit after it was set, and after it was cleared
module _ (n b : ℕ) where
  pub set_there : bit_at (bit_or n (bit_of b)) (b % 64) ≡ 1
  set_there = let e = bit_at_or n (bit_of b) (b % 64) in let f = bit_at-pow_same (b % 64) in let g = bit_at-lt n (b % 64) in omega arith

  pub set_others : (k : ℕ) → k ≢ b % 64 → bit_at (bit_or n (bit_of b)) k ≡ bit_at n k
  set_others k ne = let e = bit_at_or n (bit_of b) k in let f = bit_at-pow_other (b % 64) k ne in let g = bit_at-lt n k in omega arith

  pub clear_there : bit_at (bit_and n (2 ^ 64 - 1 - bit_of b)) (b % 64) ≡ 0
  clear_there = subst (λ (m : ℕ). bit_at (bit_and n m) (b % 64) ≡ 0) (mask_is (b % 64) (omega arith)) (bit_at_clear_same w64 n (b % 64) (omega arith))

  pub clear_others : (k : ℕ) → k < 64 → k ≢ b % 64 → bit_at (bit_and n (2 ^ 64 - 1 - bit_of b)) k ≡ bit_at n k
  clear_others k lt ne = subst (λ (m : ℕ). bit_at (bit_and n m) k ≡ bit_at n k) (mask_is (b % 64) (omega arith)) (bit_at_clear_other w64 n (b % 64) (omega arith) k lt ne)

module _ (z : Sizes) (m : ArenaMemory) (o : ℕ → ℕ → ℕ) (passes : List HeldBlocks) (seat : ℕ) (a : HeldBlocks) (there : get_elem? passes seat ≡ some a) (r : BlocksAreOwned z m.bits o passes) where
  abbrev step_of : (w : HeldBlocks) → Change passes (set passes seat w) (a ∷ []) (w ∷ [])
  step_of w = stepped passes seat a w there

  -- a block that a pass holds is owned once, by that pass
  pub held_once : (c b : ℕ) → 0 < holds c b a → (bit_at (m.bits c (b / 64)) (b % 64) ≡ 1) × (total (holds c b) passes ≡ 1) × (holds c b a ≡ 1) × (o c b ≡ 0)
  held_once c b h = let w = r.owned c b in let l = bit_at-lt (m.bits c (b / 64)) (b % 64) in let t = total_at (holds c b) passes seat a there in ((omega arith), (omega arith), (omega arith), (omega arith))

  -- and a block whose bit is clear is owned by none
  pub none_owns : (c b : ℕ) → bit_at (m.bits c (b / 64)) (b % 64) ≡ 0 → (total (holds c b) passes ≡ 0) × (o c b ≡ 0)
  none_owns c b e = let w = r.owned c b in ((omega arith), (omega arith))

  module _ (c : Class) (b : ℕ) (lb : b < blocks z (class_number c)) where
    abbrev n : ℕ
    n = m.bits (class_number c) (b / 64)

    abbrev held_now : Bool → HeldBlocks
    held_now t = record a { held = cond t (block_from m.bytes c b ∷ a.held) a.held }

    taken_whole : Each IsWhole (held_now (bit_at n (b % 64) == 0)).held
    taken_whole = elim (eqb (bit_at n (b % 64)) 0) as (λ t. Each IsWhole (held_now t).held)
        [ true ↦ (rows_length 0 (block_words (class_number c)) (m.bytes (class_number c) b), r.whole seat a there) | false ↦ r.whole seat a there ]

    taken_others : (d e : ℕ) → ¬ ((d ≡ class_number c) × (e ≡ b)) → (t : Bool) → holds d e (held_now t) ≡ holds d e a
    unfolding total
    taken_others d e ne true = let f : here d e (block_from m.bytes c b) ≡ 0 = test-cases (is_block d e (block_from m.bytes c b)) (λ t. one_if t ≡ 0)
        (λ t. let p = is_block-is d e (block_from m.bytes c b) t in absurd (ne (sym p.0, sym p.1))) (λ _. refl) in omega arith
    taken_others d e ne false = refl

    taken_here : bit_at n (b % 64) + holds (class_number c) b (held_now (bit_at n (b % 64) == 0)) ≡ 1 + holds (class_number c) b a
    unfolding total
    taken_here = let l = bit_at-lt n (b % 64) in test-cases (eqb (bit_at n (b % 64)) 0) (λ t. bit_at n (b % 64) + holds (class_number c) b (held_now t) ≡ 1 + holds (class_number c) b a)
        (λ t. let e : bit_at n (b % 64) ≡ 0 = eqb-true _ _ t in let f : here (class_number c) b (block_from m.bytes c b) ≡ 1 = ap one_if (is_block-true (class_number c) b (block_from m.bytes c b) refl refl) in omega arith)
        (λ f. dite (ℕ_discrete (bit_at n (b % 64)) 0) (λ e. absurd (true≢false (sym (eq-eqb _ _ e) ∙ f))) (λ ne. omega arith))

    pub take_owned : BlocksAreOwned z (put_arena m (arena_spot (take_bit c b)) (arena_effect (take_bit c b) n)).bits o (set passes seat (blocks_after m.bytes (take_bit c b) n a))
    unfolding total
    take_owned = let w : HeldBlocks = held_now (bit_at n (b % 64) == 0) in bit_changes z m.bits o o (step_of w) r (taken_whole, tt) (class_number c) b (bit_or n (bit_of b)) lb (λ k lt ne. set_others n b k ne)
        (λ d e ne. let t = taken_others d e ne (bit_at n (b % 64) == 0) in omega arith)
        (let s = set_there n b in let t = taken_here in omega arith)

    pub clear_owned : 0 < holds (class_number c) b a → BlocksAreOwned z (put_arena m (arena_spot (clear_bit c b)) (arena_effect (clear_bit c b) n)).bits o (set passes seat (blocks_after m.bytes (clear_bit c b) n a))
    unfolding total
    clear_owned some_of = let w : HeldBlocks = record a { held = without (class_number c) b a.held } in
        bit_changes z m.bits o o (step_of w) r (whole_without (class_number c) b a.held (r.whole seat a there), tt) (class_number c) b (bit_and n (2 ^ 64 - 1 - bit_of b)) lb (clear_others n b)
        (λ d e ne. let t = without_others (class_number c) b d e ne a.held in omega arith)
        (let s = clear_there n b in let t = without_none (class_number c) b a.held in let h = held_once (class_number c) b some_of in let h0 = h.0 in let h2 = h.2 in omega arith)

  pub store_owned : (c : Class) (b k x : ℕ) → BlocksAreOwned z m.bits o (set passes seat (blocks_after m.bytes (store_word c b k x) (m.bytes (class_number c) b k) a))
  unfolding total
  store_owned c b k x = blocks_frame z m.bits o o (step_of (record a { held = rewritten (class_number c) b k x a.held })) r (whole_rewritten (class_number c) b k x a.held (r.whole seat a there), tt)
      (λ d e. let t = rewritten_same (class_number c) b k x d e a.held in omega arith)

  -- one clause for each kind
  pub arena_owned : (x : ArenaStep) → MayArena z x a → let n = read_arena m (arena_spot x) in BlocksAreOwned z (put_arena m (arena_spot x) (arena_effect x n)).bits o (set passes seat (blocks_after m.bytes x n a))
  arena_owned (take_bit c b) may = take_owned c b may
  arena_owned (clear_bit c b) may = clear_owned c b may.inside may.held
  arena_owned (store_word c b k x) may = store_owned c b k x
