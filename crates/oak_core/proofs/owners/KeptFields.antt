-- The numbers kept for words stand after a place or a stamp word of a held header changes, and where that exchanges two blocks.
use Rattle.std.proofs.Common.{◌≡◌, ℕ, ◌+◌, ◌*◌, ◌<◌, ◌≤◌, List, ◌∷◌, map, sym, refl, ap, ◌∙◌, subst, arith, ◌==◌, ◌⊎◌, cond, true, false, true≢false, ⊎_elim, eqb-true}
use mathlib.Core.Option.{some}
use lib.ListN.{get_elem?}
use Rattle.oak_model.specs.Limits.{Sizes}
use Rattle.oak_model.specs.Counts.{total}
use Rattle.oak_model.specs.Kept.{KeptWord, keeps, AreTrueTo, restored}
use Rattle.oak_model.specs.declared.classes.Class.{Class}
use Rattle.oak_model.proofs.Lists.{at_map, each_append}
use Rattle.oak_model.proofs.KeptLaws.{kept_own-put, now_true, same_spots}
use Rattle.arena_core.specs.declared.blocks.HeldBlock.{HeldBlock}
use Rattle.arena_core.specs.declared.blocks.HeldBlocks.{HeldBlocks}
use Rattle.arena_core.specs.Arena.{ArenaSpot}
use Rattle.arena_core.specs.HeldBlocks.{kept_of_block, kept_of_blocks}
use Rattle.arena_core.specs.Blocks.{block_from, without}
use Rattle.arena_core.specs.Place.{class_in, block_in, class_from, content}
use Rattle.arena_core.proofs.BlockSums.{weigh, keeping, keeping_blocks}
use Rattle.arena_core.proofs.HeldLists.{here}
use Rattle.arena_core.proofs.KeptBlocks.{taken_true, true_without}
use Rattle.header_core.specs.declared.holds.HeldHeader.{HeldHeader}
use Rattle.header_core.specs.declared.holds.HeaderHolds.{HeaderHolds}
use Rattle.header_core.specs.Headers.{HeaderSpot, at_place, at_stamp, same_header_spot}
use Rattle.header_core.specs.HeaderHolds.{place_held, kept_of_headers}
use Rattle.header_core.specs.HeaderStep.{placed_at, stamped_at, changed_at}
use Rattle.header_core.proofs.HeldHeaders.{held_in, stocked_in}
use Rattle.header_core.proofs.HeaderFacts.{holds_split}
use Rattle.header_core.proofs.KeptHeaders.{keeps_place, keeps_stamp, kept_placed, kept_stamped, kept_changed}
use Rattle.oak_core.specs.declared.states.PassState.{PassState}
use Rattle.oak_core.specs.Memory.{Memory, Spot, in_arena, in_headers, same_spot, read, write, memory, at_given, in_rooms}
use Rattle.oak_core.specs.Owners.{header_blocks}
use Rattle.oak_core.specs.PassState.{kept_of}
use Rattle.oak_core.specs.TableState.{TableState}
use Rattle.oak_core.specs.Step.{same_block, block_exchanged}
use Rattle.oak_core.specs.Rule.{Rule}
use Rattle.oak_core.proofs.memory.Words.{read-write}
use Rattle.oak_core.proofs.owners.KeptWords.{kept_with, times, times_in_headers, times_in_arena, times_in_rooms, times_given, of_parts}
use Rattle.oak_core.proofs.owners.HeaderBlocks.{blocks_true, true_blocks, blocks_placed-same, blocks_stamped-same, true_changed}
use Rattle.oak_core.proofs.owners.HeaderWeights.{of_place, header_weight, weigh_headers, weight_changed}
use Rattle.oak_core.proofs.owners.BlocksWithHeaders.{held_alike}
use Rattle.oak_core.proofs.held.HeaderStanding.{content_true, parts, place_of}
use Rattle.oak_model.proofs.Counting.{test-cases, both_true}
use Rattle.oak_core.proofs.owners.KeptInHeaders.{Stand}

-- a block that is exchanged for the one that the place word w names counts with the pass's blocks as that one did
exchanged_alike : (F : Class → ℕ → ℕ) (bytes : ℕ → ℕ → ℕ → ℕ) (w x : ℕ) (a : HeldBlocks) → class_in x < 4 → (same_block x w ≡ true) ⊎ (total (here (class_in x) (block_in x)) a.held ≡ 1) → weigh F (block_exchanged bytes w x a).held + of_place F x ≡ weigh F a.held + of_place F w
unfolding total
exchanged_alike F bytes w x a lt may = test-cases (same_block x w)
    (λ t. same_block x w ≡ t → weigh F (cond t a.held (block_from bytes (class_from (class_in w)) (block_in w) ∷ without (class_in x) (block_in x) a.held)) + of_place F x ≡ weigh F a.held + of_place F w)
    (λ same _. let e = both_true (class_in x == class_in w) (block_in x == block_in w) same in let c = eqb-true (class_in x) (class_in w) e.0 in let b = eqb-true (block_in x) (block_in w) e.1 in ap (λ (n : ℕ). weigh F a.held + n) (λ i. F (class_from (c i)) (b i)))
    (λ other _. ⊎_elim (λ (same : same_block x w ≡ true). absurd (true≢false (sym same ∙ other)))
    (λ (once : total (here (class_in x) (block_in x)) a.held ≡ 1). let out = held_alike F x a.held lt once in let k : ℕ = of_place F x in let o : ℕ = of_place F w in
    let n : ℕ = weigh F (without (class_in x) (block_in x) a.held) in let y : ℕ = weigh F a.held in let out' : n + k ≡ y = out in let e : (o + n) + k ≡ y + o = omega arith in e) may) refl

-- and the block that it is exchanged for counts with the headers'
changed_alike : (F : Class → ℕ → ℕ) (h x : ℕ) (words : List ℕ) (rs : List HeldHeader) → held_in h rs ≤ 1 → stocked_in h rs ≡ 1 → weigh F (header_blocks (changed_at h x words rs)) + of_place F (place_held h rs) ≡ weigh F (header_blocks rs) + of_place F x
changed_alike F h x words rs few one = let f1 = weigh_headers F (changed_at h x words rs) in let f2 = weigh_headers F rs in let f3 = weight_changed F h x words rs few in
    let a : ℕ = weigh F (header_blocks (changed_at h x words rs)) in let b : ℕ = weigh F (header_blocks rs) in let a2 : ℕ = total (header_weight F) (changed_at h x words rs) in let b2 : ℕ = total (header_weight F) rs in
    let k : ℕ = of_place F (place_held h rs) in let o : ℕ = of_place F x in let ones : (n : ℕ) → stocked_in h rs * n ≡ n = (λ n. ap (λ (i : ℕ). i * n) one ∙ (let e : 1 * n ≡ n = omega arith in e)) in
    let u : ℕ = stocked_in h rs * k in let u' : u ≡ k = ones k in let t : ℕ = stocked_in h rs * o in let t' : t ≡ o = ones o in
    let f1' : a ≡ a2 = f1 in let f2' : b ≡ b2 = f2 in let f3' : a2 + u ≡ b2 + t = f3 in let e : a + k ≡ b + o = omega arith in e

module _ (z : Sizes) (s : TableState) (seat : ℕ) (v : PassState) (r : Rule z s) (at : get_elem? s.states seat ≡ some v) where
  abbrev m : Memory
  m = memory z s.words

  -- a word of a header, which the pass keeps, becomes x, and the pass holds these blocks and headers
  module _ (q : HeaderSpot) (x : ℕ) (keeps_it : 0 < keeps same_header_spot q (kept_of_headers v.headers.held)) where
    abbrev m' : Memory
    m' = write m (in_headers q) x

    module _ (a : HeldBlocks) (b : HeaderHolds) (headers : kept_of_headers b.held ≡ restored same_header_spot q x (kept_of_headers v.headers.held))
        (blocks : (o : ArenaSpot) → weigh (keeping o) a.held + weigh (keeping o) (header_blocks b.held) ≤ weigh (keeping o) v.blocks.held + weigh (keeping o) (header_blocks v.headers.held)) where
      headers_true : AreTrueTo (λ o. read m' (in_headers o)) (kept_of_headers b.held)
      headers_true = subst (AreTrueTo (λ o. read m' (in_headers o))) (sym headers)
          (now_true same_header_spot (λ o. read m (in_headers o)) (λ o. read m' (in_headers o)) q x (λ o. read-write m (in_headers q) (in_headers o) x) (kept_of_headers v.headers.held) (parts z s seat v r at).headers)

      -- no word is kept more often
      less : (o : Spot) → times o (kept_with a b) ≤ times o (kept_of v)
      less at_given = let t = times_given a b in omega arith
      less (in_rooms o) = let t = times_in_rooms o a b in omega arith
      less (in_headers o) = let t = times_in_headers o a b in let u = times_in_headers o v.blocks v.headers in let e = ap (keeps same_header_spot o) headers in
          let n = same_spots same_header_spot (λ o. read m (in_headers o)) (λ o. read m' (in_headers o)) q x (λ o. read-write m (in_headers q) (in_headers o) x) o (kept_of_headers v.headers.held) in omega arith
      less (in_arena o) = let t = times_in_arena o a b in let u = times_in_arena o v.blocks v.headers in let l = blocks o in
          let b1 = keeping_blocks o a.held in let b2 = keeping_blocks o (header_blocks b.held) in let b3 = keeping_blocks o v.blocks.held in let b4 = keeping_blocks o (header_blocks v.headers.held) in omega arith

      field_kept : AreTrueTo (λ o. read m' (in_arena o)) (kept_of_blocks a.held) → AreTrueTo (λ o. read m' (in_arena o)) (kept_of_blocks (header_blocks b.held)) → Stand z s seat v r at (in_headers q) x a b
      field_kept blocks_true within_true = kept_own-put same_spot (read m) (read m') (in_headers q) x (λ o. read-write m (in_headers q) o x) (map kept_of s.states) seat (kept_of v) (kept_with a b) (at_map kept_of s.states seat v at)
          (let t = times_in_headers q v.blocks v.headers in omega arith) (of_parts m' a b record { blocks = blocks_true; within = within_true; headers = headers_true }) less r.kept

    -- no block changes
    alone_kept : (b : HeaderHolds) → kept_of_headers b.held ≡ restored same_header_spot q x (kept_of_headers v.headers.held) → header_blocks b.held ≡ header_blocks v.headers.held → Stand z s seat v r at (in_headers q) x v.blocks b
    alone_kept b headers blocks = field_kept v.blocks b headers (λ o. let e = ap (weigh (keeping o)) blocks in omega arith) (parts z s seat v r at).blocks (subst (λ (gs : List HeldBlock). AreTrueTo (λ o. read m' (in_arena o)) (kept_of_blocks gs)) (sym blocks) (parts z s seat v r at).within)

  pub place_kept : (h x : ℕ) → 0 < held_in h v.headers.held → stocked_in h v.headers.held ≡ 0 → Stand z s seat v r at (in_headers (at_place h)) x v.blocks (record v.headers { held = placed_at h x v.headers.held })
  place_kept h x held none = alone_kept (at_place h) x (let k = keeps_place h v.headers.held in omega arith) (record v.headers { held = placed_at h x v.headers.held }) (kept_placed h x v.headers.held) (blocks_placed-same h x v.headers.held none)

  pub stamp_kept : (h x : ℕ) → 0 < held_in h v.headers.held → Stand z s seat v r at (in_headers (at_stamp h)) x v.blocks (record v.headers { held = stamped_at h x v.headers.held })
  stamp_kept h x held = alone_kept (at_stamp h) x (let k = keeps_stamp h v.headers.held in omega arith) (record v.headers { held = stamped_at h x v.headers.held }) (kept_stamped h x v.headers.held) (blocks_stamped-same h x v.headers.held)

  -- the place word of a locked header becomes x, and where that names another block, the two are exchanged
  module _ (h x : ℕ) (few : held_in h v.headers.held ≤ 1) (one : stocked_in h v.headers.held ≡ 1) (low : class_in x < 4) (may : (same_block x (m.headers.place h) ≡ true) ⊎ (total (here (class_in x) (block_in x)) v.blocks.held ≡ 1)) where
    abbrev w : ℕ
    w = m.headers.place h

    abbrev words : List ℕ
    words = content m.arena.bytes x

    abbrev new : HeldBlock
    new = block_from m.arena.bytes (class_from (class_in w)) (block_in w)

    held : 0 < held_in h v.headers.held
    held = let q = holds_split h v.headers in omega arith

    blocks_true_still : AreTrueTo (λ o. read m (in_arena o)) (kept_of_blocks (block_exchanged m.arena.bytes w x v.blocks).held)
    unfolding kept_of_blocks
    blocks_true_still = let t = (parts z s seat v r at).blocks in
        elim (same_block x w) as (λ t. AreTrueTo (λ o. read m (in_arena o)) (kept_of_blocks (cond t v.blocks.held (new ∷ without (class_in x) (block_in x) v.blocks.held)))) [
          | true ↦ t
          | false ↦ each_append (λ (k : KeptWord ArenaSpot). read m (in_arena k.spot) ≡ k.number) (kept_of_block new) (kept_of_blocks (without (class_in x) (block_in x) v.blocks.held)) (taken_true m.arena (class_from (class_in w)) (block_in w))
              (true_without (λ o. read m (in_arena o)) (class_in x) (block_in x) v.blocks.held t)
        ]

    same_sum : (o : ArenaSpot) → weigh (keeping o) (block_exchanged m.arena.bytes w x v.blocks).held + weigh (keeping o) (header_blocks (changed_at h x words v.headers.held)) ≤ weigh (keeping o) v.blocks.held + weigh (keeping o) (header_blocks v.headers.held)
    same_sum o = let e1 = exchanged_alike (keeping o) m.arena.bytes w x v.blocks low may in let e2 = changed_alike (keeping o) h x words v.headers.held few one in
        let k : ℕ = of_place (keeping o) w in let k' : ℕ = of_place (keeping o) (place_held h v.headers.held) in let is : k ≡ k' = ap (of_place (keeping o)) (place_of z s seat v r at h held) in let n : ℕ = of_place (keeping o) x in
        let wa : ℕ = weigh (keeping o) (block_exchanged m.arena.bytes w x v.blocks).held in let wb : ℕ = weigh (keeping o) (header_blocks (changed_at h x words v.headers.held)) in let va : ℕ = weigh (keeping o) v.blocks.held in
        let vb : ℕ = weigh (keeping o) (header_blocks v.headers.held) in let e1' : wa + n ≡ va + k = e1 in let e2' : wb + k' ≡ vb + n = e2 in let e : wa + wb ≤ va + vb = omega arith in e

    pub change_kept : Stand z s seat v r at (in_headers (at_place h)) x (block_exchanged m.arena.bytes w x v.blocks) (record v.headers { held = changed_at h x words v.headers.held })
    change_kept = field_kept (at_place h) x (let k = keeps_place h v.headers.held in let l = held in omega arith) (block_exchanged m.arena.bytes w x v.blocks) (record v.headers { held = changed_at h x words v.headers.held })
        (kept_changed h x words v.headers.held) same_sum blocks_true_still
        (true_blocks (λ o. read m (in_arena o)) (header_blocks (changed_at h x words v.headers.held))
        (true_changed (λ o. read m (in_arena o)) h x words v.headers.held (blocks_true (λ o. read m (in_arena o)) (header_blocks v.headers.held) (parts z s seat v r at).within) (content_true m.arena x low)))
