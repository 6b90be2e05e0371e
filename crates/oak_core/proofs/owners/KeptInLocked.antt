-- The numbers kept for words stand after a store to a word of the block of a locked header.
use Rattle.std.proofs.Common.{◌≡◌, ℕ, ◌<◌, ◌==◌, cond, List, [], ◌∷◌, ◌++◌, map, set, sym, refl, ap, ◌∙◌, subst, arith}
use Rattle.std.proofs.lemmas.List.{map-append}
use mathlib.Core.Option.{some}
use lib.ListN.{get_elem?}
use Rattle.oak_model.specs.Counts.{one_at, Each}
use Rattle.oak_model.specs.Kept.{KeptWord, keeps, KeptNumbersStand, renamed, restored}
use Rattle.oak_model.proofs.Lists.{at_map}
use Rattle.oak_model.proofs.KeptLaws.{kept_own}
use Rattle.oak_model.proofs.RowLaws.{renamed_keeps, renamed_restored, restored_else, restored_append}
use Rattle.arena_core.specs.declared.blocks.HeldBlock.{HeldBlock}
use Rattle.arena_core.specs.Arena.{at_bytes, same_arena_spot}
use Rattle.arena_core.specs.HeldBlocks.{kept_of_blocks}
use Rattle.arena_core.specs.Blocks.{is_block, IsWhole, rewritten}
use Rattle.arena_core.specs.Place.{class_in, block_in, class_from}
use Rattle.arena_core.proofs.KeptBlocks.{kept_rewritten}
use Rattle.header_core.specs.declared.holds.HeldAs.{HeldAs}
use Rattle.header_core.specs.declared.holds.HeldAs.TheVariants.{Owned, Fresh, Locked, Buried}
use Rattle.header_core.specs.declared.holds.HeldHeader.{HeldHeader}
use Rattle.header_core.specs.declared.holds.HeaderHolds.{HeaderHolds}
use Rattle.header_core.specs.HeaderHolds.{held_state, kept_of_headers}
use Rattle.header_core.specs.HeaderRule.{stocked}
use Rattle.header_core.specs.HeaderStep.{reworded}
use Rattle.header_core.proofs.KeptHeaders.{kept_reworded}
use Rattle.oak_core.specs.declared.states.PassState.{PassState}
use Rattle.oak_core.specs.Memory.{Memory, Spot, in_arena, in_headers, same_spot, read, write}
use Rattle.oak_core.specs.Owners.{block_of_header, blocks_of_header, header_blocks}
use Rattle.oak_core.specs.PassState.{kept_of}
use Rattle.chunk_core.proofs.KeptRoomWords.{restored_unkept}
use Rattle.oak_core.proofs.owners.KeptWords.{kept_with, times_in_arena}
use Rattle.oak_core.proofs.memory.Words.{read-write}

-- of the headers that have a block, only h has this one
abbrev pub Agrees : (c b h : ℕ) → HeldHeader → Type 0
Agrees c b h r = stocked (held_state r.held_as) ≡ 1 → is_block c b (block_of_header r) ≡ (r.header == h)

-- so a store to the header's block is one to that block
module _ (c b k x h : ℕ) where
  abbrev store : HeldHeader → HeldHeader
  store r = record r { words = cond (r.header == h) (set r.words k x) r.words }

  block_reworded : (t : HeldAs) (r : HeldHeader) → (stocked (held_state t) ≡ 1 → is_block c b (block_of_header r) ≡ (r.header == h)) → blocks_of_header t (store r) ≡ rewritten c b k x (blocks_of_header t r)
  unfolding one_at
  block_reworded Owned r is = refl
  block_reworded Fresh r is = λ i. record { class = class_from (class_in r.place); number = block_in r.place; words = cond (sym (is refl) i) (set r.words k x) r.words } ∷ []
  block_reworded (Locked at) r is = λ i. record { class = class_from (class_in r.place); number = block_in r.place; words = cond (sym (is refl) i) (set r.words k x) r.words } ∷ []
  block_reworded Buried r is = λ i. record { class = class_from (class_in r.place); number = block_in r.place; words = cond (sym (is refl) i) (set r.words k x) r.words } ∷ []

  blocks_reworded : (rs : List HeldHeader) → Each (Agrees c b h) rs → header_blocks (reworded h k x rs) ≡ rewritten c b k x (header_blocks rs)
  blocks_reworded [] a = refl
  blocks_reworded (r ∷ rs) a = (λ i. block_reworded r.held_as r a.0 i ++ blocks_reworded rs a.1 i)
      ∙ sym (map-append (λ (g : HeldBlock). record g { words = cond (is_block c b g) (set g.words k x) g.words }) (blocks_of_header r.held_as r) (header_blocks rs))

-- the pass keeps the word with the header's block alone
module _ (m : Memory) (vs : List PassState) (seat : ℕ) (v : PassState) (there : get_elem? vs seat ≡ some v) (r : KeptNumbersStand same_spot (read m) (map kept_of vs)) (h c b k x : ℕ) (agree : Each (Agrees c b h) v.headers.held) (whole : Each IsWhole (header_blocks v.headers.held))
    (unkept : keeps same_arena_spot (at_bytes c b k) (kept_of_blocks v.blocks.held) ≡ 0) (kept : 0 < keeps same_arena_spot (at_bytes c b k) (kept_of_blocks (header_blocks v.headers.held))) where
  abbrev p : Spot
  p = in_arena (at_bytes c b k)

  abbrev b' : HeaderHolds
  b' = record v.headers { held = reworded h k x v.headers.held }

  abbrev A : List (KeptWord Spot)
  A = renamed in_arena (kept_of_blocks v.blocks.held)

  abbrev F : List (KeptWord Spot)
  F = renamed in_arena (kept_of_blocks (header_blocks v.headers.held))

  abbrev H : List (KeptWord Spot)
  H = renamed in_headers (kept_of_headers v.headers.held)

  same : restored same_spot p x (kept_of v) ≡ kept_with v.blocks b'
  same = restored_append same_spot p x A (F ++ H)
      ∙ ((λ i. restored_unkept same_spot p x A (renamed_keeps in_arena same_arena_spot same_spot (at_bytes c b k) (kept_of_blocks v.blocks.held) (λ _. refl) ∙ unkept) i ++ restored_append same_spot p x F H i)
      ∙ (λ i. A ++ ((renamed_restored in_arena same_arena_spot same_spot (at_bytes c b k) x (kept_of_blocks (header_blocks v.headers.held)) (λ _. refl) ∙ ap (renamed in_arena) (sym (ap kept_of_blocks (blocks_reworded c b k x h v.headers.held agree) ∙ kept_rewritten c b k x (header_blocks v.headers.held) whole))) i
      ++ (restored_else in_headers same_spot p x (kept_of_headers v.headers.held) (λ _. refl) ∙ ap (renamed in_headers) (sym (kept_reworded h k x v.headers.held))) i)))

  pub locked_kept : KeptNumbersStand same_spot (read (write m p x)) (set (map kept_of vs) seat (kept_with v.blocks b'))
  locked_kept = subst (λ (ws : List (KeptWord Spot)). KeptNumbersStand same_spot (read (write m p x)) (set (map kept_of vs) seat ws)) same
      (kept_own same_spot (read m) (read (write m p x)) p x (λ o. read-write m p o x) (map kept_of vs) seat (kept_of v) (at_map kept_of vs seat v there)
      (let t = times_in_arena (at_bytes c b k) v.blocks v.headers in omega arith) r)
