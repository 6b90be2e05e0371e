-- The entries of all open rooms as one list, and what is counted of them.
use Rattle.std.specs.Prelude.{ℕ, zero, suc, ◌+◌, ◌-◌, ◌*◌, List, [], ◌++◌}
use Rattle.oak_model.specs.Counts.{one_at, total}
use Rattle.oak_model.specs.Limits.{Sizes}
use Rattle.arena_core.specs.Place.{class_in, content, names_block}
use Rattle.chunk_core.specs.Covers.{Entry, cover_at}
use Rattle.chunk_core.specs.CoverSums.{weight}
use Rattle.chunk_core.specs.ValueWord.{header_in, names_header}
use Rattle.oak_core.specs.Memory.{Memory}

-- the list, as often as the number says
unfoldable pub times : {A : Type 0} → ℕ → List A → List A
times zero xs = []
times (suc n) xs = xs ++ times n xs

-- the lists 0, .., n - 1, each as often as its weight says
unfoldable pub gathered : {A : Type 0} → (ℕ → ℕ) → (ℕ → List A) → ℕ → List A
gathered w es zero = []
gathered w es (suc n) = gathered w es n ++ times (w n) (es n)

-- the linked entries of all rooms that are covers
abbrev pub entries_of : Sizes → Memory → List Entry
entries_of z m = gathered (λ r. weight (m.rooms.pin r)) (λ r. (cover_at m.rooms (content m.arena.bytes) r).entries) z.chunks

-- 1 where it has a value, and else 0
abbrev pub valued : Entry → ℕ
valued e = names_header e.value

-- 1 where it has a floor, and else 0
abbrev pub floored : Entry → ℕ
floored e = 1 - names_header e.value

-- 1 where it names the header
abbrev pub header_named : ℕ → Entry → ℕ
header_named h e = valued e * one_at (header_in e.value) h

-- 1 where the block is its key's
abbrev pub has_key_block : ℕ → ℕ → Entry → ℕ
has_key_block c b e = names_block c b e.word

-- 1 where its key's block is of the class
abbrev pub is_of_class : ℕ → Entry → ℕ
is_of_class c e = one_at (class_in e.word) c

-- 1 where it is the key's
abbrev pub at_key : ℕ → Entry → ℕ
at_key k e = one_at e.key k

-- the value word plus one of the entry of a key, or 0
abbrev pub word_in : List Entry → ℕ → ℕ
word_in es k = total (λ (x : Entry). one_at x.key k * (x.value + 1)) es

-- how many entries have a floor, and how many of them a key block of the class
abbrev pub floors : List Entry → ℕ
floors es = total floored es

abbrev pub floor_blocks : ℕ → List Entry → ℕ
floor_blocks c es = total (λ (e : Entry). floored e * is_of_class c e) es
