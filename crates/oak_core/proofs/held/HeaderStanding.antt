-- What the rule says of one pass and its headers, in the forms in which the steps on headers use it.
use Rattle.std.proofs.Common.{◌≡◌, ℕ, ◌+◌, ◌^◌, ◌<◌, ◌≤◌, cond, true, false, List, map, get_or, ◌∙◌, subst, arith}
use mathlib.Core.Logic.{dite}
use native.Mathlib.Decide.{dec_lt}
use mathlib.Core.Option.{some}
use lib.ListN.{get_elem?}
use Rattle.oak_model.specs.Limits.{Sizes}
use Rattle.oak_model.specs.Counts.{rows, total, Every}
use Rattle.oak_model.proofs.Lists.{at_map, at_unmap}
use Rattle.oak_model.proofs.Counting.{total_map}
use Rattle.oak_model.proofs.RowLaws.{total_le}
use Rattle.arena_core.specs.declared.blocks.HeldBlocks.{HeldBlocks}
use Rattle.arena_core.specs.Arena.{ArenaMemory, ArenaSpot, read_arena, block_words}
use Rattle.arena_core.specs.Place.{IsPlace, class_in, block_in, class_from, content}
use Rattle.arena_core.proofs.BlockSums.{weigh, keeping, keeping_blocks}
use Rattle.arena_core.proofs.KeptBlocks.{taken_true}
use Rattle.arena_core.proofs.PlaceLaws.{class_number-from}
use Rattle.header_core.specs.declared.holds.HeaderHolds.{HeaderHolds}
use Rattle.header_core.specs.Headers.{HeaderSpot, at_pin}
use Rattle.header_core.specs.HeaderHolds.{fresh_at, place_held}
use Rattle.header_core.specs.HeaderRule.{PinsWhatItKnows, HeadersStand}
use Rattle.header_core.specs.declared.holds.PinnedHeader.{PinnedHeader}
use Rattle.header_core.proofs.HeldHeaders.{held_in}
use Rattle.header_core.proofs.HeaderFacts.{place_is}
use Rattle.header_core.proofs.HeaderLaws.{on_pin}
use Rattle.header_core.proofs.KeptHeaders.{keeps_of, keeps_pin}
use Rattle.oak_core.specs.declared.states.PassState.{PassState}
use Rattle.oak_core.specs.Memory.{Memory, Spot, at_given, in_arena, in_headers, in_rooms, is_inside, index, number_at, memory}
use Rattle.oak_core.specs.Owners.{header_blocks}
use Rattle.oak_core.specs.PassState.{headers_held, knowledge_of, kept_of}
use Rattle.oak_core.specs.Known.{knows_life, known}
use Rattle.oak_core.specs.TableState.{TableState}
use Rattle.oak_core.specs.Rule.{Rule}
use Rattle.oak_core.proofs.owners.KeptWords.{kept_with, times, times_in_arena, times_in_headers, times_in_rooms, times_given, unkept_by_all, PartsAreTrue, parts_of}
use Rattle.oak_core.proofs.owners.HeaderBlocks.{IsTrueBlock}
use Rattle.oak_core.proofs.known.KnownLaws.{known_some}

-- each word of the memory is one of 64 bits
pub number_small : (z : Sizes) (ws : List ℕ) → ((i : ℕ) → get_or ws i 0 < 2 ^ 64) → (p : Spot) → number_at z ws p < 2 ^ 64
unfolding number_at
number_small z ws small p = elim (is_inside z p) as (λ t. cond t (get_or ws (index z p) 0) 0 < 2 ^ 64) [ true ↦ small (index z p) | false ↦ omega arith ]

-- the words of the block that a place word names, with what stands in them
pub content_true : (m : ArenaMemory) (word : ℕ) → class_in word < 4 → IsTrueBlock (read_arena m) record { class = class_from (class_in word); number = block_in word; words = content m.bytes word }
content_true m word lt = subst (λ (ws : List ℕ). IsTrueBlock (read_arena m) record { class = class_from (class_in word); number = block_in word; words = ws }) (λ i. content_of (class_number-from (class_in word) lt i)) (taken_true m (class_from (class_in word)) (block_in word))
  where
    content_of : ℕ → List ℕ
    content_of c = rows 0 (block_words c) (m.bytes c (block_in word))

-- 1 where some pass knows the header at the generation other than as its fresh one
abbrev pub knows : TableState → ℕ → ℕ → ℕ
knows s = known (map knowledge_of s.states)

module _ (z : Sizes) (s : TableState) (seat : ℕ) (v : PassState) (r : Rule z s) (here : get_elem? s.states seat ≡ some v) where
  abbrev m : Memory
  m = memory z s.words

  abbrev hs : List HeaderHolds
  hs = map headers_held s.states

  pub stand : HeadersStand m.headers (content m.arena.bytes) IsPlace (knows s) hs
  stand = r.headers

  -- what one pass knows is known
  pub pins : Every (PinsWhatItKnows (knows s)) hs
  pins j a at = let t = at_unmap headers_held s.states j a at in subst (PinsWhatItKnows (knows s)) t.2
      (on_pin (λ (p : PinnedHeader). 0 < fresh_at p.header p.wanted t.0.headers + knows_life p.header p.wanted t.0.knowledge) (λ (p : PinnedHeader). 0 < fresh_at p.header p.wanted t.0.headers + knows s p.header p.wanted) t.0.headers.pin
      (λ p _ known_so. dite (dec_lt 0 (knows_life p.header p.wanted t.0.knowledge))
      (λ some_of. let k = known_some p.header p.wanted (map knowledge_of s.states) j t.0.knowledge (at_map knowledge_of s.states j t.0 t.1) some_of in omega arith) (λ none. omega arith)) ((r.passes j t.0 t.1).pin))

  pub at_headers : get_elem? hs seat ≡ some v.headers
  at_headers = at_map headers_held s.states seat v here

  pub parts : PartsAreTrue m v.blocks v.headers
  parts = parts_of m v.blocks v.headers (r.kept.true_to seat (kept_of v) (at_map kept_of s.states seat v here))

  pub place_of : (h : ℕ) → 0 < held_in h v.headers.held → m.headers.place h ≡ place_held h v.headers.held
  place_of h some_of = place_is m.headers h v.headers.held parts.headers some_of

  pub small_pin : (h : ℕ) → m.headers.pin h < 2 ^ 64
  small_pin h = number_small z s.words r.words.small (in_headers (at_pin h))

  pub pin_unkept : (h : ℕ) → total (times (in_headers (at_pin h))) (map kept_of s.states) ≡ 0
  pin_unkept h = unkept_by_all (in_headers (at_pin h)) (λ a b. times_in_headers (at_pin h) a b ∙ keeps_pin h b.held) s.states

  headers_kept : (q : HeaderSpot) → total (times (in_headers q)) (map kept_of s.states) ≤ total (keeps_of q) hs
  headers_kept q = let a = total_map kept_of (times (in_headers q)) s.states in let b = total_map headers_held (keeps_of q) s.states in
      let l = total_le (λ (u : PassState). times (in_headers q) (kept_of u)) (λ (u : PassState). keeps_of q u.headers) s.states (λ u. let e = times_in_headers q u.blocks u.headers in omega arith) in omega arith

  -- other blocks and headers keep no word too often, where they keep neither those of blocks nor those of headers too often
  pub few_kept : (a : HeldBlocks) (h : HeaderHolds) → ((q : ArenaSpot) → total (times (in_arena q)) (map kept_of s.states) + (weigh (keeping q) a.held + weigh (keeping q) (header_blocks h.held)) ≤ 1 + (weigh (keeping q) v.blocks.held + weigh (keeping q) (header_blocks v.headers.held)))
      → ((q : HeaderSpot) → total (keeps_of q) hs + keeps_of q h ≤ 1 + keeps_of q v.headers) → (q : Spot) → total (times q) (map kept_of s.states) + times q (kept_with a h) ≤ 1 + times q (kept_of v)
  few_kept a h blocks headers at_given = let o = r.kept.once at_given in let t = times_given a h in omega arith
  few_kept a h blocks headers (in_rooms q) = let o = r.kept.once (in_rooms q) in let t = times_in_rooms q a h in omega arith
  few_kept a h blocks headers (in_headers q) = let o = headers_kept q in let t = times_in_headers q a h in let u = times_in_headers q v.blocks v.headers in let l = headers q in omega arith
  few_kept a h blocks headers (in_arena q) = let t = times_in_arena q a h in let u = times_in_arena q v.blocks v.headers in let l = blocks q in
      let b1 = keeping_blocks q a.held in let b2 = keeping_blocks q (header_blocks h.held) in let b3 = keeping_blocks q v.blocks.held in let b4 = keeping_blocks q (header_blocks v.headers.held) in omega arith
