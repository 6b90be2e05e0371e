-- The numbers kept for words stand after a step on the arena.
use Rattle.std.proofs.Common.{◌≡◌, ℕ, ◌+◌, ◌/◌, ◌%◌, ◌<◌, ◌≤◌, cond, eqb, List, ◌∷◌, ◌++◌, map, set, sym, refl, ap, ◌∙◌, subst, arith, eqb-true}
use Rattle.std.specs.Int.{bit_at}
use mathlib.Core.Option.{some}
use lib.ListN.{get_elem?}
use Rattle.oak_model.specs.declared.classes.Class.{Class}
use Rattle.oak_model.specs.Limits.{Sizes}
use Rattle.oak_model.specs.Class.{class_number}
use Rattle.oak_model.specs.Counts.{total, one_if}
use Rattle.oak_model.specs.Kept.{KeptWord, keeps, AreTrueTo, KeptNumbersStand, renamed, restored}
use Rattle.oak_model.proofs.Lists.{at_map, each_append}
use Rattle.oak_model.proofs.Counting.{test-cases, total_append, total_at}
use Rattle.oak_model.proofs.KeptLaws.{kept_own}
use Rattle.oak_model.proofs.RowLaws.{renamed_none, renamed_keeps, renamed_restored, restored_else, restored_append, renamed_append}
use Rattle.arena_core.specs.declared.blocks.HeldBlock.{HeldBlock}
use Rattle.arena_core.specs.declared.blocks.HeldBlocks.{HeldBlocks}
use Rattle.arena_core.specs.Arena.{ArenaSpot, at_bits, at_bytes, same_arena_spot, read_arena, block_words}
use Rattle.arena_core.specs.HeldBlocks.{kept_of_block, kept_of_blocks}
use Rattle.arena_core.specs.Blocks.{holds, BlocksAreOwned, block_from, without, rewritten}
use Rattle.arena_core.specs.ArenaStep.{ArenaStep, take_bit, clear_bit, store_word, arena_spot, arena_effect, MayArena, blocks_after}
use Rattle.arena_core.proofs.ArenaSteps.{none_owns}
use Rattle.arena_core.proofs.KeptBlocks.{keeps_some, taken_true, true_without, keeps_without, kept_rewritten}
use Rattle.header_core.specs.HeaderHolds.{kept_of_headers}
use Rattle.oak_core.specs.declared.states.PassState.{PassState}
use Rattle.oak_core.specs.Memory.{Memory, Spot, at_given, in_arena, in_headers, in_rooms, same_spot, read, write}
use Rattle.oak_core.specs.Owners.{header_blocks, has_in_headers}
use Rattle.oak_core.specs.PassState.{blocks_of, headers_held, kept_of}
use Rattle.oak_core.proofs.memory.Words.{read-write}
use Rattle.chunk_core.proofs.KeptRoomWords.{restored_unkept}
use Rattle.oak_core.proofs.owners.KeptWords.{block_once, kept_with, times, times_of, times_in_arena, times_in_headers, bits_unkept, still_true, parts_put}

-- the words of a block that no pass has had are kept by none
module _ (z : Sizes) (m : Memory) (o : ℕ → ℕ → ℕ) (vs : List PassState) (seat : ℕ) (v : PassState) (there : get_elem? vs seat ≡ some v) (r : BlocksAreOwned z m.arena.bits o (map blocks_of vs))
    (own : (c b : ℕ) → total (has_in_headers c b) (map headers_held vs) ≤ o c b) (k : KeptNumbersStand same_spot (read m) (map kept_of vs)) where
  -- a block without an owner, whose words come to be kept
  pub fresh_once : (new : HeldBlock) → bit_at (m.arena.bits (class_number new.class) (new.number / 64)) (new.number % 64) ≡ 0 → (q : Spot) → total (times q) (map kept_of vs) + times q (renamed in_arena (kept_of_block new)) ≤ 1
  fresh_once new e = let none = none_owns z m.arena o (map blocks_of vs) seat v.blocks (at_map blocks_of vs seat v there) r (class_number new.class) new.number e in
      block_once m vs k new none.0 (let owned = own (class_number new.class) new.number in let none1 = none.1 in omega arith)

  -- a block more in front, kept besides what was
  pub times_more : (new : HeldBlock) (a : HeldBlocks) (q : Spot) → times q (kept_with (record a { held = new ∷ a.held }) v.headers) ≡ times q (renamed in_arena (kept_of_block new)) + times q (kept_with a v.headers)
  unfolding kept_of_blocks
  times_more new a q = let p = times_of q (record a { held = new ∷ a.held }) v.headers in let u = times_of q a v.headers in
      let parts : times q (renamed in_arena (kept_of_block new ++ kept_of_blocks a.held)) ≡ times q (renamed in_arena (kept_of_block new)) + times q (renamed in_arena (kept_of_blocks a.held)) =
      ap (times q) (renamed_append in_arena (kept_of_block new) (kept_of_blocks a.held)) ∙ total_append (λ (w : KeptWord Spot). one_if (same_spot w.spot q)) (renamed in_arena (kept_of_block new)) (renamed in_arena (kept_of_blocks a.held)) in omega arith

  -- without a block no word is kept more often
  pub fewer : (a : HeldBlocks) (c b : ℕ) (q : Spot) → times q (kept_with (record a { held = without c b a.held }) v.headers) ≤ times q (kept_with a v.headers)
  fewer a c b (in_arena q) = let s = times_in_arena q (record a { held = without c b a.held }) v.headers in let d = times_in_arena q a v.headers in let l = keeps_without q c b a.held in omega arith
  fewer a c b at_given = let s = times_of at_given (record a { held = without c b a.held }) v.headers in let d = times_of at_given a v.headers in
      let e = renamed_none in_arena same_spot at_given (kept_of_blocks (without c b a.held)) (λ p. refl) in omega arith
  fewer a c b (in_headers q) = let s = times_in_headers q (record a { held = without c b a.held }) v.headers in let d = times_in_headers q a v.headers in omega arith
  fewer a c b (in_rooms q) = let s = times_of (in_rooms q) (record a { held = without c b a.held }) v.headers in let d = times_of (in_rooms q) a v.headers in
      let e = renamed_none in_arena same_spot (in_rooms q) (kept_of_blocks (without c b a.held)) (λ p. refl) in omega arith

  module _ (c : Class) (b : ℕ) where
    abbrev n : ℕ
    n = m.arena.bits (class_number c) (b / 64)

    abbrev new : HeldBlock
    new = block_from m.arena.bytes c b

    abbrev p : Spot
    p = in_arena (at_bits (class_number c) (b / 64))

    abbrev Stand : ℕ → HeldBlocks → Type 0
    Stand y a = KeptNumbersStand same_spot (read (write m p y)) (set (map kept_of vs) seat (kept_with a v.headers))

    put_blocks : (y : ℕ) (a : HeldBlocks) → AreTrueTo (λ q. read (write m p y) (in_arena q)) (kept_of_blocks a.held) → ((q : Spot) → total (times q) (map kept_of vs) + times q (kept_with a v.headers) ≤ 1 + times q (kept_of v)) → Stand y a
    put_blocks y a true_to few = let t = still_true m vs seat v there k p y (bits_unkept (class_number c) (b / 64) vs) in
        parts_put m vs seat v there k p y (bits_unkept (class_number c) (b / 64) vs) a v.headers record { blocks = true_to; within = t.within; headers = t.headers } few

    was_true : (y : ℕ) → AreTrueTo (λ q. read (write m p y) (in_arena q)) (kept_of_blocks v.blocks.held)
    was_true y = (still_true m vs seat v there k p y (bits_unkept (class_number c) (b / 64) vs)).blocks

    pub take_kept : (y : ℕ) → Stand y (blocks_after m.arena.bytes (take_bit c b) n v.blocks)
    unfolding kept_of_blocks
    take_kept y = test-cases (eqb (bit_at n (b % 64)) 0) (λ t. Stand y (record v.blocks { held = cond t (new ∷ v.blocks.held) v.blocks.held }))
        (λ t. put_blocks y (record v.blocks { held = new ∷ v.blocks.held })
        (each_append (λ (w : KeptWord ArenaSpot). read (write m p y) (in_arena w.spot) ≡ w.number) (kept_of_block new) (kept_of_blocks v.blocks.held) (taken_true (write m p y).arena c b) (was_true y))
        (λ q. let e : bit_at n (b % 64) ≡ 0 = eqb-true _ _ t in let o1 = fresh_once new e q in let p1 = times_more new v.blocks q in omega arith))
        (λ f. put_blocks y v.blocks (was_true y) (λ q. let o1 = k.once q in omega arith))

    pub clear_kept : (y : ℕ) → Stand y (blocks_after m.arena.bytes (clear_bit c b) n v.blocks)
    clear_kept y = put_blocks y (record v.blocks { held = without (class_number c) b v.blocks.held })
        (true_without (λ q. read (write m p y) (in_arena q)) (class_number c) b v.blocks.held (was_true y))
        (λ q. let o1 = k.once q in let f = fewer v.blocks (class_number c) b q in omega arith)

    pub store_kept : (l x : ℕ) → 0 < holds (class_number c) b v.blocks → l < block_words (class_number c)
        → KeptNumbersStand same_spot (read (write m (in_arena (at_bytes (class_number c) b l)) x)) (set (map kept_of vs) seat (kept_with (record v.blocks { held = rewritten (class_number c) b l x v.blocks.held }) v.headers))
    store_kept l x some_of lt = let q : ArenaSpot = at_bytes (class_number c) b l in
        subst (λ (ws : List (KeptWord Spot)). KeptNumbersStand same_spot (read (write m (in_arena q) x)) (set (map kept_of vs) seat ws)) (sym same)
        (kept_own same_spot (read m) (read (write m (in_arena q) x)) (in_arena q) x (λ o. read-write m (in_arena q) o x) (map kept_of vs) seat (kept_of v) (at_map kept_of vs seat v there) (let t = of_blocks in omega arith) k)
      where
        of_blocks : (times (in_arena (at_bytes (class_number c) b l)) (kept_of v) ≡ keeps same_arena_spot (at_bytes (class_number c) b l) (kept_of_blocks v.blocks.held) + keeps same_arena_spot (at_bytes (class_number c) b l) (kept_of_blocks (header_blocks v.headers.held)))
            × (0 < keeps same_arena_spot (at_bytes (class_number c) b l) (kept_of_blocks v.blocks.held))
        of_blocks = (times_in_arena (at_bytes (class_number c) b l) v.blocks v.headers, keeps_some (class_number c) b l v.blocks.held some_of lt)

        not_fresh : keeps same_arena_spot (at_bytes (class_number c) b l) (kept_of_blocks (header_blocks v.headers.held)) ≡ 0
        not_fresh = let t = of_blocks in let t0 = t.0 in let t1 = t.1 in let o1 = k.once (in_arena (at_bytes (class_number c) b l)) in
            let mine = total_at (times (in_arena (at_bytes (class_number c) b l))) (map kept_of vs) seat (kept_of v) (at_map kept_of vs seat v there) in omega arith

        same : kept_with (record v.blocks { held = rewritten (class_number c) b l x v.blocks.held }) v.headers ≡ restored same_spot (in_arena (at_bytes (class_number c) b l)) x (kept_of v)
        same = let q : ArenaSpot = at_bytes (class_number c) b l in let A : List (KeptWord Spot) = renamed in_arena (kept_of_blocks v.blocks.held) in let F : List (KeptWord Spot) = renamed in_arena (kept_of_blocks (header_blocks v.headers.held)) in
            let H : List (KeptWord Spot) = renamed in_headers (kept_of_headers v.headers.held) in
            let F_same : restored same_spot (in_arena q) x F ≡ F = restored_unkept same_spot (in_arena q) x F (renamed_keeps in_arena same_arena_spot same_spot q (kept_of_blocks (header_blocks v.headers.held)) (λ p. refl) ∙ not_fresh) in
            let H_same : restored same_spot (in_arena q) x H ≡ H = restored_else in_headers same_spot (in_arena q) x (kept_of_headers v.headers.held) (λ p. refl) in
            ap (λ (ws : List (KeptWord ArenaSpot)). renamed in_arena ws ++ (F ++ H)) (kept_rewritten (class_number c) b l x v.blocks.held (r.whole seat v.blocks (at_map blocks_of vs seat v there)))
            ∙ (ap (λ (ws : List (KeptWord Spot)). ws ++ (F ++ H)) (sym (renamed_restored in_arena same_arena_spot same_spot q x (kept_of_blocks v.blocks.held) (λ p. refl)))
            ∙ (ap (λ (ws : List (KeptWord Spot)). restored same_spot (in_arena q) x A ++ ws) (sym (restored_append same_spot (in_arena q) x F H ∙ (λ i. F_same i ++ H_same i)))
            ∙ sym (restored_append same_spot (in_arena q) x A (F ++ H))))

  -- one clause for each kind
  pub arena_kept : (x : ArenaStep) → MayArena z x v.blocks → let i = read_arena m.arena (arena_spot x) in
      KeptNumbersStand same_spot (read (write m (in_arena (arena_spot x)) (arena_effect x i))) (set (map kept_of vs) seat (kept_with (blocks_after m.arena.bytes x i v.blocks) v.headers))
  arena_kept (take_bit c b) may = take_kept c b (arena_effect (take_bit c b) (n c b))
  arena_kept (clear_bit c b) may = clear_kept c b (arena_effect (clear_bit c b) (n c b))
  arena_kept (store_word c b l x) may = store_kept c b l x may.block.held may.word
