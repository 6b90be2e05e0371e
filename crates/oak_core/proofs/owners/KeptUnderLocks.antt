-- The numbers kept for words stand after a header is locked or buried, and after the place word of a locked one changes.
use Rattle.std.proofs.Common.{◌≡◌, ℕ, ◌+◌, ◌*◌, ◌/◌, ◌%◌, ◌<◌, ◌≤◌, List, ◌∷◌, map, sym, refl, subst, arith}
use Rattle.std.proofs.lemmas.Nat.Bits.{bit_at-lt}
use mathlib.Core.Option.{some}
use lib.ListN.{get_elem?}
use Rattle.pin_word.specs.PinWord.{state_of}
use Rattle.oak_model.specs.Limits.{Sizes}
use Rattle.oak_model.specs.Counts.{total}
use Rattle.oak_model.proofs.Counting.{one_at-same}
use Rattle.oak_model.proofs.RowLaws.{total_le, renamed_keeps}
use Rattle.arena_core.specs.Arena.{ArenaSpot, same_arena_spot}
use Rattle.arena_core.specs.HeldBlocks.{kept_of_block}
use Rattle.arena_core.specs.Blocks.{holds}
use Rattle.arena_core.specs.Place.{IsPlace, class_in, block_in, class_from, names_block, content}
use Rattle.arena_core.proofs.BlockSums.{weigh, keeping, keeping_block}
use Rattle.arena_core.proofs.PlaceLaws.{class_number-from}
use Rattle.header_core.specs.declared.states.TheConstants.{OWNED}
use Rattle.header_core.specs.declared.holds.HeldHeader.{HeldHeader}
use Rattle.header_core.specs.declared.holds.HeaderHolds.{HeaderHolds}
use Rattle.header_core.specs.Headers.{at_pin}
use Rattle.header_core.specs.HeaderHolds.{kept_of_headers}
use Rattle.header_core.specs.HeaderRule.{stocked}
use Rattle.header_core.specs.HeaderStep.{locked_at, buried_at}
use Rattle.header_core.proofs.HeldHeaders.{held_in, rows_in, stocked_in}
use Rattle.header_core.proofs.HeaderFacts.{holds_split}
use Rattle.header_core.proofs.KeptHeaders.{kept_buried, taken_once}
use Rattle.oak_core.specs.declared.states.PassState.{PassState}
use Rattle.oak_core.specs.Memory.{Memory, in_arena, in_headers, same_spot, read, write, memory}
use Rattle.oak_core.specs.Owners.{header_blocks, block_of_header, has_in_headers}
use Rattle.oak_core.specs.PassState.{blocks_of, headers_held, kept_of}
use Rattle.oak_core.specs.TableState.{TableState}
use Rattle.oak_core.specs.Rule.{Rule}
use Rattle.oak_core.proofs.owners.KeptWords.{times, block_once}
use Rattle.oak_core.proofs.owners.HeaderBlocks.{blocks_true, true_blocks, blocks_buried}
use Rattle.oak_core.proofs.owners.HeaderSums.{unheld_owns}
use Rattle.oak_core.proofs.owners.OwnerLaws.{place_below}
use Rattle.oak_core.proofs.held.HeaderStanding.{content_true, knows, stand}
use Rattle.oak_core.proofs.owners.KeptInHeaders.{Stand, still, put_parts, alike_kept}

module _ (z : Sizes) (s : TableState) (seat : ℕ) (v : PassState) (r : Rule z s) (at : get_elem? s.states seat ≡ some v) where
  abbrev m : Memory
  m = memory z s.words

  abbrev hs : List HeaderHolds
  hs = map headers_held s.states

  -- a header with a block, which no pass holds, comes to be locked
  module _ (h y : ℕ) (stock : stocked (state_of (m.headers.pin h)) ≡ 1) (none : total (λ (a : HeaderHolds). held_in h a.held) hs ≡ 0) where
    abbrev m' : Memory
    m' = write m (in_headers (at_pin h)) y

    abbrev w : ℕ
    w = m.headers.place h

    abbrev x : HeldHeader
    x = locked_at m.headers (content m.arena.bytes) h

    abbrev b : HeaderHolds
    b = record v.headers { held = x ∷ v.headers.held }

    low : class_in w < 4
    low = place_below w ((stand z s seat v r at).placed h (omega arith))

    -- its block is no pass's, and no pass has it in a header
    no_owner : (total (holds (class_in w) (block_in w)) (map blocks_of s.states) ≡ 0) × (total (has_in_headers (class_in w) (block_in w)) hs ≡ 0)
    no_owner = let l = total_le (λ (a : HeaderHolds). stocked_in h a.held) (λ (a : HeaderHolds). held_in h a.held) hs (λ a. let p = holds_split h a in omega arith) in
        let u = unheld_owns z s r h (class_in w) (block_in w) (omega arith) (omega arith) in let o = r.blocks.owned (class_in w) (block_in w) in let l = bit_at-lt (m.arena.bits (class_in w) (block_in w / 64)) (block_in w % 64) in
        let one : names_block (class_in w) (block_in w) w ≡ 1 = (λ i. one_at-same (class_in w) (class_in w) refl i * one_at-same (block_in w) (block_in w) refl i) in ((omega arith), (omega arith))

    once : (q : ArenaSpot) → total (times (in_arena q)) (map kept_of s.states) + keeping q (class_from (class_in w)) (block_in w) ≤ 1
    once q = let c = class_number-from (class_in w) low in
        let o = block_once m s.states r.kept (block_of_header x) (subst (λ (n : ℕ). total (holds n (block_in w)) (map blocks_of s.states) ≡ 0) (sym c) no_owner.0) (subst (λ (n : ℕ). total (has_in_headers n (block_in w)) hs ≡ 0) (sym c) no_owner.1) (in_arena q) in
        let t = renamed_keeps in_arena same_arena_spot same_spot q (kept_of_block (block_of_header x)) (λ p. refl) in let k = keeping_block q (block_of_header x) in omega arith

    pub lock_kept : Stand z s seat v r at (in_headers (at_pin h)) y v.blocks b
    unfolding kept_of_headers total
    lock_kept = let t = still z s seat v r at h y in put_parts z s seat v r at h y v.blocks b
        record {
          blocks = t.blocks;
          within = true_blocks (λ q. read m' (in_arena q)) (header_blocks b.held) (content_true m'.arena w low, blocks_true (λ q. read m' (in_arena q)) (header_blocks v.headers.held) t.within);
          headers = (refl, (refl, t.headers));
        }
        (λ q. let o = once q in let n : ℕ = keeping q (class_from (class_in w)) (block_in w) in let i : ℕ = total (times (in_arena q)) (map kept_of s.states) in let o' : i + n ≤ 1 = o in
        let c : ℕ = weigh (keeping q) v.blocks.held in let d : ℕ = weigh (keeping q) (header_blocks v.headers.held) in let e : i + (c + (n + d)) ≤ 1 + (c + d) = omega arith in e)
        (λ q. taken_once m.headers (content m.arena.bytes) IsPlace (knows s) hs (stand z s seat v r at) h x refl q v.headers.held none)

  -- a locked header is buried
  pub bury_kept : (h y : ℕ) → rows_in h OWNED v.headers.held ≡ 0 → Stand z s seat v r at (in_headers (at_pin h)) y v.blocks (record v.headers { held = buried_at h v.headers.held })
  bury_kept h y none = alike_kept z s seat v r at h y (record v.headers { held = buried_at h v.headers.held }) (blocks_buried h v.headers.held none) (kept_buried h v.headers.held)
