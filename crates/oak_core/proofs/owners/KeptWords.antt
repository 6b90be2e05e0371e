-- The words that a pass keeps, part by part: those of its blocks, those of the blocks of its headers, and those of its headers.
use Rattle.std.proofs.Common.{◌≡◌, ℕ, ◌+◌, ◌≤◌, List, [], ◌∷◌, ◌++◌, map, set, refl, ◌∙◌, subst, arith}
use mathlib.Core.Option.{some}
use lib.ListN.{get_elem?}
use Rattle.oak_model.specs.Class.{class_number}
use Rattle.oak_model.specs.Counts.{total, one_if}
use Rattle.oak_model.specs.Kept.{KeptWord, keeps, AreTrueTo, KeptNumbersStand, renamed}
use Rattle.oak_model.proofs.Lists.{at_map, each_append}
use Rattle.oak_model.proofs.Counting.{test-cases, total_append, total_map, total_zero}
use Rattle.oak_model.proofs.KeptLaws.{kept_put, kept_unkept}
use Rattle.oak_model.proofs.RowLaws.{total_le, renamed_true, true_renamed, renamed_none, renamed_keeps, each_first, each_rest}
use Rattle.arena_core.specs.declared.blocks.HeldBlock.{HeldBlock}
use Rattle.arena_core.specs.declared.blocks.HeldBlocks.{HeldBlocks}
use Rattle.arena_core.specs.Arena.{ArenaSpot, at_bits, at_bytes, same_arena_spot}
use Rattle.arena_core.specs.Blocks.{is_block, holds}
use Rattle.arena_core.specs.HeldBlocks.{kept_of_block, kept_of_blocks}
use Rattle.arena_core.proofs.HeldLists.{is_block-is}
use Rattle.arena_core.proofs.KeptBlocks.{block_keeps-bits, block_keeps-most, keeps_bits, keeps_most}
use Rattle.header_core.specs.declared.holds.HeaderHolds.{HeaderHolds}
use Rattle.header_core.specs.Headers.{HeaderSpot, same_header_spot}
use Rattle.header_core.specs.HeaderHolds.{kept_of_headers}
use Rattle.oak_core.specs.declared.states.PassState.{PassState}
use Rattle.oak_core.specs.Memory.{Memory, Spot, at_given, in_arena, in_headers, in_rooms, same_spot, read, write}
use Rattle.oak_core.specs.Owners.{header_blocks, has_in_headers}
use Rattle.oak_core.specs.PassState.{blocks_of, headers_held, kept_of}
use Rattle.oak_core.proofs.memory.Words.{read-write}

-- what is kept with these blocks and headers
abbrev pub kept_with : HeldBlocks → HeaderHolds → List (KeptWord Spot)
kept_with a h = renamed in_arena (kept_of_blocks a.held) ++ (renamed in_arena (kept_of_blocks (header_blocks h.held)) ++ renamed in_headers (kept_of_headers h.held))

-- how often a word is kept
abbrev pub times : Spot → List (KeptWord Spot) → ℕ
times q ws = keeps same_spot q ws

pub times_of : (q : Spot) (a : HeldBlocks) (h : HeaderHolds)
    → times q (kept_with a h) ≡ times q (renamed in_arena (kept_of_blocks a.held)) + (times q (renamed in_arena (kept_of_blocks (header_blocks h.held))) + times q (renamed in_headers (kept_of_headers h.held)))
times_of q a h = let f = λ (w : KeptWord Spot). one_if (same_spot w.spot q) in
    let s = total_append f (renamed in_arena (kept_of_blocks a.held)) (renamed in_arena (kept_of_blocks (header_blocks h.held)) ++ renamed in_headers (kept_of_headers h.held)) in
    let t = total_append f (renamed in_arena (kept_of_blocks (header_blocks h.held))) (renamed in_headers (kept_of_headers h.held)) in omega arith

pub times_in_arena : (q : ArenaSpot) (a : HeldBlocks) (h : HeaderHolds) → times (in_arena q) (kept_with a h) ≡ keeps same_arena_spot q (kept_of_blocks a.held) + keeps same_arena_spot q (kept_of_blocks (header_blocks h.held))
times_in_arena q a h = let t = times_of (in_arena q) a h in let b = renamed_keeps in_arena same_arena_spot same_spot q (kept_of_blocks a.held) (λ p. refl) in
    let f = renamed_keeps in_arena same_arena_spot same_spot q (kept_of_blocks (header_blocks h.held)) (λ p. refl) in
    let n = renamed_none in_headers same_spot (in_arena q) (kept_of_headers h.held) (λ p. refl) in omega arith

pub times_in_headers : (q : HeaderSpot) (a : HeldBlocks) (h : HeaderHolds) → times (in_headers q) (kept_with a h) ≡ keeps same_header_spot q (kept_of_headers h.held)
times_in_headers q a h = let t = times_of (in_headers q) a h in let b = renamed_none in_arena same_spot (in_headers q) (kept_of_blocks a.held) (λ p. refl) in
    let f = renamed_none in_arena same_spot (in_headers q) (kept_of_blocks (header_blocks h.held)) (λ p. refl) in
    let n = renamed_keeps in_headers same_header_spot same_spot q (kept_of_headers h.held) (λ p. refl) in omega arith

pub times_in_rooms : (q : Rattle.chunk_core.specs.Rooms.RoomSpot) (a : HeldBlocks) (h : HeaderHolds) → times (in_rooms q) (kept_with a h) ≡ 0
times_in_rooms q a h = let t = times_of (in_rooms q) a h in let b = renamed_none in_arena same_spot (in_rooms q) (kept_of_blocks a.held) (λ p. refl) in
    let f = renamed_none in_arena same_spot (in_rooms q) (kept_of_blocks (header_blocks h.held)) (λ p. refl) in
    let n = renamed_none in_headers same_spot (in_rooms q) (kept_of_headers h.held) (λ p. refl) in omega arith

pub times_given : (a : HeldBlocks) (h : HeaderHolds) → times at_given (kept_with a h) ≡ 0
times_given a h = let t = times_of at_given a h in let b = renamed_none in_arena same_spot at_given (kept_of_blocks a.held) (λ p. refl) in
    let f = renamed_none in_arena same_spot at_given (kept_of_blocks (header_blocks h.held)) (λ p. refl) in
    let n = renamed_none in_headers same_spot at_given (kept_of_headers h.held) (λ p. refl) in omega arith

-- a word that no blocks and no headers keep is kept by no pass
pub unkept_by_all : (q : Spot) → ((a : HeldBlocks) (h : HeaderHolds) → times q (kept_with a h) ≡ 0) → (vs : List PassState) → total (times q) (map kept_of vs) ≡ 0
unkept_by_all q none vs = total_map kept_of (times q) vs ∙ total_zero (λ (v : PassState). times q (kept_of v)) vs (λ j v _. none v.blocks v.headers)

pub given_unkept : (vs : List PassState) → total (times at_given) (map kept_of vs) ≡ 0
given_unkept vs = unkept_by_all at_given times_given vs

pub bits_unkept : (c i : ℕ) (vs : List PassState) → total (times (in_arena (at_bits c i))) (map kept_of vs) ≡ 0
bits_unkept c i vs = unkept_by_all (in_arena (at_bits c i)) (λ a h. let t = times_in_arena (at_bits c i) a h in let b = keeps_bits c i a.held in let f = keeps_bits c i (header_blocks h.held) in omega arith) vs

pub sum_of : (f g : PassState → ℕ) (xs : List PassState) → total (λ v. f v + g v) xs ≡ total f xs + total g xs
unfolding total
sum_of f g [] = refl
sum_of f g (x ∷ xs) = let t = sum_of f g xs in omega arith

-- a word of a block is kept only by passes that hold the block, or have it in a header
pub bytes_kept : (c b k : ℕ) (vs : List PassState) → total (times (in_arena (at_bytes c b k))) (map kept_of vs) ≤ total (holds c b) (map blocks_of vs) + total (has_in_headers c b) (map headers_held vs)
bytes_kept c b k vs = let a = total_map kept_of (times (in_arena (at_bytes c b k))) vs in let o = total_map blocks_of (holds c b) vs in let p = total_map headers_held (has_in_headers c b) vs in
    let q = sum_of (λ (v : PassState). holds c b v.blocks) (λ (v : PassState). has_in_headers c b v.headers) vs in
    let l = total_le (λ (v : PassState). times (in_arena (at_bytes c b k)) (kept_of v)) (λ (v : PassState). holds c b v.blocks + has_in_headers c b v.headers) vs
    (λ v. let t = times_in_arena (at_bytes c b k) v.blocks v.headers in let m = keeps_most c b k v.blocks.held in let n = keeps_most c b k (header_blocks v.headers.held) in omega arith) in omega arith

-- the words of a block that no pass holds, and that no pass has in a header, may come to be kept
pub block_once : (m : Memory) (vs : List PassState) (k : KeptNumbersStand same_spot (read m) (map kept_of vs)) (new : HeldBlock)
    → total (holds (class_number new.class) new.number) (map blocks_of vs) ≡ 0 → total (has_in_headers (class_number new.class) new.number) (map headers_held vs) ≡ 0 → (q : Spot) → total (times q) (map kept_of vs) + times q (renamed in_arena (kept_of_block new)) ≤ 1
block_once m vs k new held within at_given = let o = k.once at_given in let t = renamed_none in_arena same_spot at_given (kept_of_block new) (λ p. refl) in omega arith
block_once m vs k new held within (in_headers q) = let o = k.once (in_headers q) in let t = renamed_none in_arena same_spot (in_headers q) (kept_of_block new) (λ p. refl) in omega arith
block_once m vs k new held within (in_rooms q) = let o = k.once (in_rooms q) in let t = renamed_none in_arena same_spot (in_rooms q) (kept_of_block new) (λ p. refl) in omega arith
block_once m vs k new held within (in_arena (at_bits d i)) = let o = k.once (in_arena (at_bits d i)) in let t = renamed_keeps in_arena same_arena_spot same_spot (at_bits d i) (kept_of_block new) (λ p. refl) in let u = block_keeps-bits d i new in omega arith
block_once m vs k new held within (in_arena (at_bytes d f l)) = let o1 = k.once (in_arena (at_bytes d f l)) in let t = renamed_keeps in_arena same_arena_spot same_spot (at_bytes d f l) (kept_of_block new) (λ p. refl) in let u = block_keeps-most d f l new in
    test-cases (is_block d f new) (λ s. keeps same_arena_spot (at_bytes d f l) (kept_of_block new) ≤ one_if s → total (times (in_arena (at_bytes d f l))) (map kept_of vs) + times (in_arena (at_bytes d f l)) (renamed in_arena (kept_of_block new)) ≤ 1)
    (λ is le. let p = is_block-is d f new is in let n0 : total (holds d f) (map blocks_of vs) ≡ 0 = subst (λ (i : ℕ × ℕ). total (holds i.0 i.1) (map blocks_of vs) ≡ 0) (λ j. (p.0 j, p.1 j)) held in
    let n1 : total (has_in_headers d f) (map headers_held vs) ≡ 0 = subst (λ (i : ℕ × ℕ). total (has_in_headers i.0 i.1) (map headers_held vs) ≡ 0) (λ j. (p.0 j, p.1 j)) within in let most = bytes_kept d f l vs in omega arith)
    (λ other le. omega arith) u

-- the numbers of the three parts are true
pub record PartsAreTrue (m : Memory) (a : HeldBlocks) (h : HeaderHolds) : Type 0 where
  pub blocks : AreTrueTo (λ q. read m (in_arena q)) (kept_of_blocks a.held)
  pub within : AreTrueTo (λ q. read m (in_arena q)) (kept_of_blocks (header_blocks h.held))
  pub headers : AreTrueTo (λ q. read m (in_headers q)) (kept_of_headers h.held)

abbrev is_true : Memory → KeptWord Spot → Type 0
is_true m w = read m w.spot ≡ w.number

pub parts_of : (m : Memory) (a : HeldBlocks) (h : HeaderHolds) → AreTrueTo (read m) (kept_with a h) → PartsAreTrue m a h
parts_of m a h t = let A : List (KeptWord Spot) = renamed in_arena (kept_of_blocks a.held) in let F : List (KeptWord Spot) = renamed in_arena (kept_of_blocks (header_blocks h.held)) in let H : List (KeptWord Spot) = renamed in_headers (kept_of_headers h.held) in
    let rest = each_rest (is_true m) A (F ++ H) t in record {
      blocks = true_renamed in_arena (read m) (kept_of_blocks a.held) (each_first (is_true m) A (F ++ H) t);
      within = true_renamed in_arena (read m) (kept_of_blocks (header_blocks h.held)) (each_first (is_true m) F H rest);
      headers = true_renamed in_headers (read m) (kept_of_headers h.held) (each_rest (is_true m) F H rest);
    }

pub of_parts : (m : Memory) (a : HeldBlocks) (h : HeaderHolds) → PartsAreTrue m a h → AreTrueTo (read m) (kept_with a h)
of_parts m a h p = let A : List (KeptWord Spot) = renamed in_arena (kept_of_blocks a.held) in let F : List (KeptWord Spot) = renamed in_arena (kept_of_blocks (header_blocks h.held)) in let H : List (KeptWord Spot) = renamed in_headers (kept_of_headers h.held) in
    each_append (is_true m) A (F ++ H) (renamed_true in_arena (read m) (kept_of_blocks a.held) p.blocks)
    (each_append (is_true m) F H (renamed_true in_arena (read m) (kept_of_blocks (header_blocks h.held)) p.within) (renamed_true in_headers (read m) (kept_of_headers h.held) p.headers))

-- a word that no pass keeps becomes y, and one pass has other blocks and headers
module _ (m : Memory) (vs : List PassState) (seat : ℕ) (v : PassState) (there : get_elem? vs seat ≡ some v) (k : KeptNumbersStand same_spot (read m) (map kept_of vs)) (p : Spot) (y : ℕ) (unkept : total (times p) (map kept_of vs) ≡ 0) where
  written : KeptNumbersStand same_spot (read (write m p y)) (map kept_of vs)
  written = kept_unkept same_spot (read m) (read (write m p y)) p y (λ q. read-write m p q y) (map kept_of vs) unkept k

  -- what it kept is true still
  pub still_true : PartsAreTrue (write m p y) v.blocks v.headers
  still_true = parts_of (write m p y) v.blocks v.headers (written.true_to seat (kept_of v) (at_map kept_of vs seat v there))

  pub parts_put : (a : HeldBlocks) (h : HeaderHolds) → PartsAreTrue (write m p y) a h → ((q : Spot) → total (times q) (map kept_of vs) + times q (kept_with a h) ≤ 1 + times q (kept_of v))
      → KeptNumbersStand same_spot (read (write m p y)) (set (map kept_of vs) seat (kept_with a h))
  parts_put a h true_to few = kept_put same_spot (read (write m p y)) (map kept_of vs) seat (kept_of v) (kept_with a h) (at_map kept_of vs seat v there) (of_parts (write m p y) a h true_to) few written
