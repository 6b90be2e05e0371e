-- What a pass keeps of a header that it holds: the stamp, the words of its block, and so the value.
use Rattle.std.specs.Prelude.{ℕ, ◌==◌, cond, List, [], ◌∷◌, take}
use Rattle.arena_core.specs.Place.{length_in}
use Rattle.header_core.specs.declared.holds.HeldHeader.{HeldHeader}
use Rattle.header_core.specs.HeaderHolds.{place_held}
use Rattle.oak_model.specs.WordBytes.{bytes_of}
use Rattle.header_core.specs.declared.holds.HeldAs.{HeldAs}
use Rattle.header_core.specs.declared.holds.HeldAs.TheVariants.{Owned, Fresh, Locked, Buried}

-- the stamp of the header
abbrev pub stamp_held : ℕ → List HeldHeader → ℕ
stamp_held h [] = 0
stamp_held h (r ∷ rs) = cond (r.header == h) r.stamp (stamp_held h rs)

-- the words of its block
abbrev pub words_in : ℕ → List HeldHeader → List ℕ
words_in h [] = []
words_in h (r ∷ rs) = cond (r.header == h) r.words (words_in h rs)

-- the value: of the bytes of the block as many as the place says
abbrev pub value_held : ℕ → List HeldHeader → List ℕ
value_held h rs = take (length_in (place_held h rs)) (bytes_of (words_in h rs))

-- the value that a header had when it was locked
abbrev pub value_at_lock : HeldAs → List ℕ
value_at_lock (Locked at) = take (length_in at.place) (bytes_of at.words)
value_at_lock Owned = []
value_at_lock Fresh = []
value_at_lock Buried = []

abbrev pub value_locked : ℕ → List HeldHeader → List ℕ
value_locked h [] = []
value_locked h (r ∷ rs) = cond (r.header == h) (value_at_lock r.held_as) (value_locked h rs)
