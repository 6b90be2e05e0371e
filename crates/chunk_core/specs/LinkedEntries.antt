-- The entries of a room that are in use, and those that are linked: that links reach. What a linked entry is stands here alone.
use Rattle.std.specs.Prelude.{ℕ, zero, suc, ◌-◌, ◌/◌, ◌%◌, ◌^◌, ◌<◌, ◌==◌, cond, List, [], ◌∷◌}
use Rattle.oak_model.specs.Counts.{Each}
use Rattle.chunk_core.specs.Rooms.{RoomMemory}

-- how many entries are in use, by the count
unfoldable pub entries_in : ℕ → ℕ
entries_in count = count % 2 ^ 16

-- how many of them are the sorted prefix
unfoldable pub prefix_in : ℕ → ℕ
prefix_in count = count / 2 ^ 16 % 2 ^ 16

-- n - 1, .., 0
unfoldable pub first_numbers : ℕ → List ℕ
first_numbers zero = []
first_numbers (suc n) = n ∷ first_numbers n

-- the numbers of the entries in use: those below the count
abbrev pub in_use : RoomMemory → ℕ → List ℕ
in_use m r = first_numbers (entries_in (m.count r))

-- A link is 0 for none, and else the number of the entry that it names plus one.

-- the entries that links reach from the link i on, n at most
unfoldable pub chain : ℕ → (ℕ → ℕ) → ℕ → List ℕ
chain zero next i = []
chain (suc n) next i = cond (i == 0) [] ((i - 1) ∷ chain n next (next (i - 1)))

-- as far as links are followed: further than a count can tell
unfoldable pub farthest : ℕ
farthest = 2 ^ 16

-- the entries that links reach from the link i on
abbrev pub reached : (ℕ → ℕ) → ℕ → List ℕ
reached next i = chain farthest next i

-- the numbers of the linked ones: those that links reach from the first link on
abbrev pub linked : RoomMemory → ℕ → List ℕ
linked m r = reached (m.next r) (m.first r)

-- each is below all that are behind it
abbrev pub Rises : (ℕ → ℕ) → List ℕ → Type 0
Rises f [] = Unit {0}
Rises f (i ∷ is) = Each (λ j. f i < f j) is × Rises f is
