-- The moving ranges of a pass after its steps: entries are dropped, a room takes a range or its upper part, and two ranges are joined.
use Rattle.std.specs.Prelude.{ℕ, ◌+◌, ◌==◌, ◌&&◌, not, nat_le, cond, Bool, List, [], ◌∷◌, ◌++◌, map, filter, Option, Some, None}
use Rattle.oak_model.specs.Counts.{one_if, total}
use Rattle.chunk_core.specs.declared.holds.RoomCopy.{RoomCopy}
use Rattle.chunk_core.specs.declared.holds.Carried.{Carried}
use Rattle.chunk_core.specs.declared.holds.MovingRange.{MovingRange}
use Rattle.chunk_core.specs.Rooms.{RoomMemory, RoomSpot, at_key}
use Rattle.chunk_core.specs.ValueWord.{names_header}
use Rattle.chunk_core.specs.KeyWords.{key_in, low_number, high_number, high_from}

-- A store of 0 to a key word drops the carried entries of that word that have no value, and the base of their range rises to their floors.

-- the greater of the two
abbrev pub greater : ℕ → ℕ → ℕ
greater a b = cond (nat_le a b) b a

-- whether the entry is dropped with the key word
abbrev pub is_dropped : ℕ → Carried → Bool
is_dropped word c = (c.word == word) && (names_header c.value == 0)

-- the base, raised to the floors of those that are dropped
unfoldable pub base_with : ℕ → ℕ → List Carried → ℕ
base_with word base [] = base
base_with word base (c ∷ cs) = cond (is_dropped word c) (greater c.value (base_with word base cs)) (base_with word base cs)

-- the range without them
abbrev pub range_without : ℕ → MovingRange → MovingRange
range_without word g = record g { base = base_with word g.base g.carried; carried = filter (λ c. not (is_dropped word c)) g.carried }

-- how many entries are dropped
abbrev pub drops : ℕ → List MovingRange → ℕ
drops word gs = total (λ (g : MovingRange). total (λ (c : Carried). one_if (is_dropped word c)) g.carried) gs

-- the key word that a store takes away, or 0 where it takes none
abbrev pub word_dropped : RoomMemory → RoomSpot → ℕ → ℕ
word_dropped m (at_key r i) x = cond (x == 0) (m.key r i) 0
word_dropped m _ x = 0

-- the ranges after a key word was taken away
abbrev pub ranges_with : ℕ → List MovingRange → List MovingRange
ranges_with word gs = cond (word == 0) gs (map (range_without word) gs)

-- A room that is opened takes all of the range that has its high bound, or the upper part of it.

-- whether it is that range
abbrev pub takes : RoomCopy → MovingRange → Bool
takes w g = (high_number w.high == high_number g.high) && nat_le (low_number g.low) (low_number w.low)

-- whether the entry's key is not below the room's low bound
abbrev pub is_upper : RoomCopy → Carried → Bool
is_upper w c = nat_le (low_number w.low) (key_in c.word c.words)

-- the entries that the room takes
abbrev pub upper_of : RoomCopy → MovingRange → List Carried
upper_of w g = filter (is_upper w) g.carried

-- what is left of the range
abbrev pub left_of : RoomCopy → MovingRange → List MovingRange
left_of w g = cond (low_number w.low == low_number g.low) [] (record g { high = high_from w.low; carried = filter (λ c. not (is_upper w c)) g.carried } ∷ [])

-- the ranges that are left, where the first with the bound is taken
unfoldable pub ranges_left : RoomCopy → List MovingRange → List MovingRange
ranges_left w [] = []
ranges_left w (g ∷ gs) = cond (takes w g) (left_of w g ++ gs) (g ∷ ranges_left w gs)

-- those that are left by a room with these words; another takes none
abbrev pub ranges_opened : Option RoomCopy → List MovingRange → List MovingRange
ranges_opened None gs = gs
ranges_opened (Some w) gs = ranges_left w gs

-- The range that came with a room joins the one just below it, with the greater base.

-- the ranges but those that came with the room
unfoldable pub ranges_without : ℕ → List MovingRange → List MovingRange
ranges_without r [] = []
ranges_without r (g ∷ gs) = cond (g.room == r) (ranges_without r gs) (g ∷ ranges_without r gs)

-- the range that came with the room
unfoldable pub range_of : ℕ → List MovingRange → Option MovingRange
range_of r [] = None
range_of r (g ∷ gs) = cond (g.room == r) (Some g) (range_of r gs)

-- whether h lies just below g
abbrev pub is_below : MovingRange → MovingRange → Bool
is_below g h = high_number h.high == low_number g.low + 1

-- g and h as one range
abbrev pub joined_by : MovingRange → MovingRange → MovingRange
joined_by g h = record h { base = greater g.base h.base; high = g.high; carried = h.carried ++ g.carried }

-- h with g, where it lies just below g
abbrev pub joined_range : MovingRange → MovingRange → MovingRange
joined_range g h = cond (is_below g h) (joined_by g h) h

-- the ranges with one more joined to them
abbrev pub joined_to : Option MovingRange → List MovingRange → List MovingRange
joined_to None gs = gs
joined_to (Some g) gs = map (joined_range g) gs

-- the ranges after the room is retired
abbrev pub ranges_joined : ℕ → List MovingRange → List MovingRange
ranges_joined r gs = joined_to (range_of r gs) (ranges_without r gs)
