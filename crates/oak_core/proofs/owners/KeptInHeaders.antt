-- The numbers kept for words stand after a step on a word of a header.
use Rattle.std.proofs.Common.{◌≡◌, ℕ, ◌+◌, ◌*◌, ◌<◌, ◌≤◌, List, ◌∷◌, ◌++◌, map, set, sym, refl, ap, ◌∙◌, subst, arith}
use mathlib.Core.Option.{some}
use lib.ListN.{get_elem?}
use Rattle.oak_model.specs.Limits.{Sizes}
use Rattle.oak_model.specs.Counts.{total}
use Rattle.oak_model.specs.Kept.{KeptWord, keeps, AreTrueTo, KeptNumbersStand, renamed}
use Rattle.oak_model.specs.declared.classes.Class.{Class}
use Rattle.oak_model.proofs.Lists.{each_append}
use Rattle.arena_core.specs.declared.blocks.HeldBlock.{HeldBlock}
use Rattle.arena_core.specs.declared.blocks.HeldBlocks.{HeldBlocks}
use Rattle.arena_core.specs.Arena.{ArenaSpot}
use Rattle.arena_core.specs.HeldBlocks.{kept_of_block, kept_of_blocks}
use Rattle.arena_core.specs.Blocks.{block_from, without}
use Rattle.arena_core.specs.Place.{IsPlace, class_in, block_in, class_from, content}
use Rattle.arena_core.proofs.BlockSums.{weigh, keeping}
use Rattle.arena_core.proofs.HeldLists.{here}
use Rattle.arena_core.proofs.KeptBlocks.{taken_true, true_without}
use Rattle.header_core.specs.declared.states.TheConstants.{OWNED}
use Rattle.header_core.specs.declared.holds.HeldHeader.{HeldHeader}
use Rattle.header_core.specs.declared.holds.HeaderHolds.{HeaderHolds}
use Rattle.header_core.specs.Headers.{HeaderSpot, at_pin, same_header_spot}
use Rattle.header_core.specs.HeaderHolds.{in_state, place_held, without_header, kept_of_headers}
use Rattle.header_core.specs.HeaderStep.{owned_at, freshened}
use Rattle.header_core.proofs.HeldHeaders.{held_in, rows_in, stocked_in}
use Rattle.header_core.proofs.HeaderFacts.{holds_some, true_numbers}
use Rattle.header_core.proofs.KeptHeaders.{keeps_of, kept_freshened, keeps_without_header, true_without_header, kept_once, taken_once}
use Rattle.oak_core.specs.declared.states.PassState.{PassState}
use Rattle.oak_core.specs.Memory.{Memory, Spot, in_arena, in_headers, same_spot, read, write, memory}
use Rattle.oak_core.specs.Owners.{header_blocks}
use Rattle.oak_core.specs.PassState.{headers_held, kept_of}
use Rattle.oak_core.specs.TableState.{TableState}
use Rattle.oak_core.specs.Step.{block_back}
use Rattle.oak_core.specs.Rule.{Rule}
use Rattle.oak_core.proofs.owners.KeptWords.{kept_with, times, PartsAreTrue, still_true, parts_put}
use Rattle.oak_core.proofs.owners.HeaderBlocks.{IsTrueBlock, blocks_true, true_blocks, true_blocks_without, true_freshened}
use Rattle.oak_core.proofs.owners.HeaderWeights.{of_place, header_weight, weigh_headers, weight_without, weight_freshened}
use Rattle.oak_core.proofs.owners.OwnerLaws.{place_below}
use Rattle.oak_core.proofs.owners.BlocksWithHeaders.{held_alike}
use Rattle.oak_core.proofs.held.HeaderStanding.{content_true, knows, stand, parts, place_of, pin_unkept, few_kept}

-- the block that an owned header is opened with counts with the headers' as it did with the pass's
opened_alike : (F : Class → ℕ → ℕ) (h w : ℕ) (words : List ℕ) (bs : List HeldBlock) (rs : List HeldHeader) → class_in w < 4 → w ≡ place_held h rs → rows_in h OWNED rs ≡ 1 → held_in h rs ≤ 1 → total (here (class_in w) (block_in w)) bs ≡ 1
    → weigh F (without (class_in w) (block_in w) bs) + weigh F (header_blocks (freshened h words rs)) ≡ weigh F bs + weigh F (header_blocks rs)
opened_alike F h w words bs rs lt is one few once =
    let out = held_alike F w bs lt once in
    let k : ℕ = of_place F w in let g : ℕ = of_place F (place_held h rs) in let g' : k ≡ g = ap (of_place F) is in let u : ℕ = rows_in h OWNED rs * g in let u' : u ≡ g = ap (λ (i : ℕ). i * g) one ∙ (let e : 1 * g ≡ g = omega arith in e) in
    let f1 = weigh_headers F (freshened h words rs) in let f2 = weigh_headers F rs in let f3 = weight_freshened F h words rs few in
    let a : ℕ = weigh F (without (class_in w) (block_in w) bs) in let b : ℕ = weigh F bs in let c : ℕ = weigh F (header_blocks (freshened h words rs)) in let d : ℕ = weigh F (header_blocks rs) in
    let c2 : ℕ = total (header_weight F) (freshened h words rs) in let d2 : ℕ = total (header_weight F) rs in
    let out' : a + k ≡ b = out in let f1' : c ≡ c2 = f1 in let f2' : d ≡ d2 = f2 in let f3' : c2 ≡ d2 + u = f3 in let res : a + c ≡ b + d = omega arith in res

-- and the block of a header that is held no more counts with the headers' no more
without_alike : (F : Class → ℕ → ℕ) (h : ℕ) (rs : List HeldHeader) → held_in h rs ≤ 1 → weigh F (header_blocks (without_header h rs)) + stocked_in h rs * of_place F (place_held h rs) ≡ weigh F (header_blocks rs)
without_alike F h rs few = let f1 = weigh_headers F (without_header h rs) in let f2 = weigh_headers F rs in let f3 = weight_without F h rs few in
    let a : ℕ = weigh F (header_blocks (without_header h rs)) in let b : ℕ = weigh F (header_blocks rs) in let a2 : ℕ = total (header_weight F) (without_header h rs) in let b2 : ℕ = total (header_weight F) rs in let u : ℕ = stocked_in h rs * of_place F (place_held h rs) in
    let f1' : a ≡ a2 = f1 in let f2' : b ≡ b2 = f2 in let f3' : a2 + u ≡ b2 = f3 in let res : a + u ≡ b = omega arith in res

module _ (z : Sizes) (s : TableState) (seat : ℕ) (v : PassState) (r : Rule z s) (at : get_elem? s.states seat ≡ some v) where
  abbrev m : Memory
  m = memory z s.words

  abbrev hs : List HeaderHolds
  hs = map headers_held s.states

  -- the numbers kept are those of the words, where the word p becomes y and the pass holds these blocks and headers
  abbrev pub Stand : Spot → ℕ → HeldBlocks → HeaderHolds → Type 0
  Stand p y a b = KeptNumbersStand same_spot (read (write m p y)) (set (map kept_of s.states) seat (kept_with a b))

  -- no word of a block is kept twice then, and none of a header

  abbrev pub BlocksOnce : HeldBlocks → HeaderHolds → Type 0
  BlocksOnce a b = (q : ArenaSpot) → total (times (in_arena q)) (map kept_of s.states) + (weigh (keeping q) a.held + weigh (keeping q) (header_blocks b.held)) ≤ 1 + (weigh (keeping q) v.blocks.held + weigh (keeping q) (header_blocks v.headers.held))

  abbrev pub HeadersOnce : HeaderHolds → Type 0
  HeadersOnce b = (q : HeaderSpot) → total (keeps_of q) hs + keeps_of q b ≤ 1 + keeps_of q v.headers

  pub blocks_less : (a : HeldBlocks) (b : HeaderHolds) → ((q : ArenaSpot) → weigh (keeping q) a.held + weigh (keeping q) (header_blocks b.held) ≤ weigh (keeping q) v.blocks.held + weigh (keeping q) (header_blocks v.headers.held)) → BlocksOnce a b
  blocks_less a b le q = let o = r.kept.once (in_arena q) in let l = le q in omega arith

  pub headers_less : (b : HeaderHolds) → ((q : HeaderSpot) → keeps_of q b ≤ keeps_of q v.headers) → HeadersOnce b
  headers_less b le q = let o = kept_once m.headers (content m.arena.bytes) IsPlace (knows s) hs (stand z s seat v r at) q in let l = le q in omega arith

  -- the pin word of a header becomes y
  module _ (h y : ℕ) where
    abbrev p : Spot
    p = in_headers (at_pin h)

    abbrev m' : Memory
    m' = write m p y

    pub still : PartsAreTrue m' v.blocks v.headers
    still = still_true m s.states seat v at r.kept p y (pin_unkept z s seat v r at h)

    pub put_parts : (a : HeldBlocks) (b : HeaderHolds) → PartsAreTrue m' a b → BlocksOnce a b → HeadersOnce b → Stand p y a b
    put_parts a b true_to blocks headers = parts_put m s.states seat v at r.kept p y (pin_unkept z s seat v r at h) a b true_to (few_kept z s seat v r at a b blocks headers)

    -- the headers that the pass holds have the blocks and the words that they had
    pub alike_kept : (b : HeaderHolds) → header_blocks b.held ≡ header_blocks v.headers.held → kept_of_headers b.held ≡ kept_of_headers v.headers.held → Stand p y v.blocks b
    alike_kept b blocks words = subst (λ (ws : List (KeptWord Spot)). KeptNumbersStand same_spot (read m') (set (map kept_of s.states) seat (renamed in_arena (kept_of_blocks v.blocks.held) ++ ws)))
        (λ i. renamed in_arena (kept_of_blocks (sym blocks i)) ++ renamed in_headers (sym words i))
        (put_parts v.blocks v.headers still (blocks_less v.blocks v.headers (λ q. omega arith)) (headers_less v.headers (λ q. omega arith)))

    pub same_kept : (b : HeaderHolds) → b.held ≡ v.headers.held → Stand p y v.blocks b
    same_kept b same = alike_kept b (ap header_blocks same) (ap kept_of_headers same)

    -- a header that no pass holds comes to be owned
    pub claim_kept : total (λ (a : HeaderHolds). held_in h a.held) hs ≡ 0 → Stand p y v.blocks (record v.headers { held = owned_at m.headers h ∷ v.headers.held })
    unfolding kept_of_headers
    claim_kept none = let b : HeaderHolds = record v.headers { held = owned_at m.headers h ∷ v.headers.held } in
        put_parts v.blocks b record { blocks = still.blocks; within = still.within; headers = (refl, (refl, still.headers)) } (blocks_less v.blocks b (λ q. omega arith))
        (λ q. taken_once m.headers (content m.arena.bytes) IsPlace (knows s) hs (stand z s seat v r at) h (owned_at m.headers h) refl q v.headers.held none)

    -- one whose block the pass held is opened
    pub open_kept : in_state h OWNED v.headers ≡ 1 → held_in h v.headers.held ≤ 1 → IsPlace (m.headers.place h) → (let c = class_in (m.headers.place h) in let b = block_in (m.headers.place h) in total (here c b) v.blocks.held ≡ 1
        → Stand p y (record v.blocks { held = without c b v.blocks.held }) (record v.headers { held = freshened h (content m.arena.bytes (m.headers.place h)) v.headers.held }))
    open_kept one few place once = let w : ℕ = m.headers.place h in let words : List ℕ = content m.arena.bytes w in let lt = place_below w place in
        let a : HeldBlocks = record v.blocks { held = without (class_in w) (block_in w) v.blocks.held } in let b : HeaderHolds = record v.headers { held = freshened h words v.headers.held } in
        put_parts a b
        record {
          blocks = true_without (λ q. read m' (in_arena q)) (class_in w) (block_in w) v.blocks.held still.blocks;
          within = true_blocks (λ q. read m' (in_arena q)) (header_blocks b.held) (true_freshened (λ q. read m' (in_arena q)) h words v.headers.held (blocks_true (λ q. read m' (in_arena q)) (header_blocks v.headers.held) still.within)
              (λ x has e. let t = (true_numbers m.headers v.headers.held x (parts z s seat v r at).headers has).0 in
              subst (λ (w : ℕ). IsTrueBlock (λ q. read m' (in_arena q)) record { class = class_from (class_in w); number = block_in w; words = words }) (ap m.headers.place (sym e) ∙ t) (content_true m'.arena w lt)));
          headers = subst (AreTrueTo (λ q. read m' (in_headers q))) (sym (kept_freshened h words v.headers.held)) still.headers;
        }
        (blocks_less a b (λ q. let e = opened_alike (keeping q) h w words v.blocks.held v.headers.held lt (place_of z s seat v r at h (holds_some h OWNED v.headers (omega arith))) one few once in omega arith))
        (headers_less b (λ q. let e = ap (keeps same_header_spot q) (kept_freshened h words v.headers.held) in omega arith))

    -- one is held no more
    module _ (few : held_in h v.headers.held ≤ 1) where
      abbrev b : HeaderHolds
      b = record v.headers { held = without_header h v.headers.held }

      true_rest : AreTrueTo (λ q. read m' (in_arena q)) (kept_of_blocks (header_blocks b.held))
      true_rest = true_blocks (λ q. read m' (in_arena q)) (header_blocks b.held) (true_blocks_without (λ q. read m' (in_arena q)) h v.headers.held (blocks_true (λ q. read m' (in_arena q)) (header_blocks v.headers.held) still.within))

      pub without_kept : Stand p y v.blocks b
      without_kept = put_parts v.blocks b record { blocks = still.blocks; within = true_rest; headers = true_without_header (λ q. read m' (in_headers q)) h v.headers.held still.headers }
          (blocks_less v.blocks b (λ q. let e = without_alike (keeping q) h v.headers.held few in let u : ℕ = stocked_in h v.headers.held * of_place (keeping q) (place_held h v.headers.held) in
          let x : ℕ = weigh (keeping q) (header_blocks b.held) in let x' : ℕ = weigh (keeping q) (header_blocks v.headers.held) in let e' : x + u ≡ x' = e in let c : ℕ = weigh (keeping q) v.blocks.held in let le : c + x ≤ c + x' = omega arith in le))
          (headers_less b (λ q. keeps_without_header q h v.headers.held))

      -- and the pass holds the block that it had
      pub back_kept : stocked_in h v.headers.held ≡ 1 → m.headers.place h ≡ place_held h v.headers.held → Stand p y (block_back m.arena.bytes (m.headers.place h) v.blocks) b
      unfolding kept_of_blocks total
      back_kept one is = let w : ℕ = m.headers.place h in let new : HeldBlock = block_from m.arena.bytes (class_from (class_in w)) (block_in w) in
          put_parts (record v.blocks { held = new ∷ v.blocks.held }) b
          record {
            blocks = each_append (λ (k : KeptWord ArenaSpot). read m' (in_arena k.spot) ≡ k.number) (kept_of_block new) (kept_of_blocks v.blocks.held) (taken_true m'.arena (class_from (class_in w)) (block_in w)) still.blocks;
            within = true_rest;
            headers = true_without_header (λ q. read m' (in_headers q)) h v.headers.held still.headers;
          }
          (blocks_less (record v.blocks { held = new ∷ v.blocks.held }) b (λ q. let e = without_alike (keeping q) h v.headers.held few in let k : ℕ = of_place (keeping q) (place_held h v.headers.held) in
          let n : stocked_in h v.headers.held * k ≡ k = ap (λ (i : ℕ). i * k) one ∙ (let o : 1 * k ≡ k = omega arith in o) in let kw : ℕ = of_place (keeping q) w in let same : kw ≡ k = ap (of_place (keeping q)) is in
          let u : ℕ = stocked_in h v.headers.held * k in let n' : u ≡ k = n in let x : ℕ = weigh (keeping q) (header_blocks b.held) in let x' : ℕ = weigh (keeping q) (header_blocks v.headers.held) in let e' : x + u ≡ x' = e in
          let c : ℕ = weigh (keeping q) v.blocks.held in let le : (kw + c) + x ≤ c + x' = omega arith in le))
          (headers_less b (λ q. keeps_without_header q h v.headers.held))
