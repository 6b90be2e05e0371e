-- Who owns blocks beside the passes that hold them: the headers that have a block.
use Rattle.std.specs.Prelude.{◌≡◌, ℕ, ◌*◌, ◌<◌, List, [], ◌∷◌, ◌++◌, length}
use Rattle.pin_word.specs.PinWord.{state_of}
use Rattle.oak_model.specs.Limits.{Sizes}
use Rattle.oak_model.specs.Counts.{below, Each}
use Rattle.arena_core.specs.declared.blocks.HeldBlock.{HeldBlock}
use Rattle.arena_core.specs.Arena.{block_words}
use Rattle.arena_core.specs.Blocks.{holds}
use Rattle.arena_core.specs.Place.{IsPlace, class_in, block_in, class_from, names_block, content}
use Rattle.header_core.specs.declared.holds.HeldAs.{HeldAs}
use Rattle.header_core.specs.declared.holds.HeldAs.TheVariants.{Owned, Fresh, Locked, Buried}
use Rattle.header_core.specs.declared.holds.HeldHeader.{HeldHeader}
use Rattle.header_core.specs.declared.holds.HeaderHolds.{HeaderHolds}
use Rattle.header_core.specs.Headers.{HeaderMemory}
use Rattle.header_core.specs.HeaderHolds.{held_state}
use Rattle.header_core.specs.HeaderRule.{stocked, HeadersStand}

-- 1 where the header has the block
abbrev pub has_block : HeaderMemory → ℕ → ℕ → ℕ → ℕ
has_block m c b h = stocked (state_of (m.pin h)) * names_block c b (m.place h)

-- how many owners a block has beside the passes that hold it
abbrev pub other_owners : Sizes → HeaderMemory → ℕ → ℕ → ℕ
other_owners z m c b = below (has_block m c b) z.headers

-- the block of a held header, with the numbers of its words
abbrev pub block_of_header : HeldHeader → HeldBlock
block_of_header r = record { class = class_from (class_in r.place); number = block_in r.place; words = r.words }

-- an owned header has none
abbrev pub blocks_of_header : HeldAs → HeldHeader → List HeldBlock
blocks_of_header Owned r = []
blocks_of_header Fresh r = block_of_header r ∷ []
blocks_of_header (Locked at) r = block_of_header r ∷ []
blocks_of_header Buried r = block_of_header r ∷ []

abbrev pub header_blocks : List HeldHeader → List HeldBlock
header_blocks [] = []
header_blocks (r ∷ rs) = blocks_of_header r.held_as r ++ header_blocks rs

-- how often the block is that of a header that the pass holds
abbrev pub has_in_headers : ℕ → ℕ → HeaderHolds → ℕ
has_in_headers c b a = holds c b record { held = header_blocks a.held }

-- each word of the blocks of the headers that the pass holds has its number

abbrev pub IsWholeHeader : HeldHeader → Type 0
IsWholeHeader r = 0 < stocked (held_state r.held_as) → length r.words ≡ block_words (class_in r.place)

abbrev pub HeadersAreWhole : HeaderHolds → Type 0
HeadersAreWhole a = Each IsWholeHeader a.held

-- the points on headers, with the arena's bytes
abbrev pub HeadersAreHeld : HeaderMemory → (ℕ → ℕ → ℕ → ℕ) → (ℕ → ℕ → ℕ) → List HeaderHolds → Type 0
HeadersAreHeld m bytes known hs = HeadersStand m (content bytes) IsPlace known hs
