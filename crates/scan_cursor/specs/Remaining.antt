-- How many steps of a scan are left at most, where none is in vain.
use Rattle.std.specs.Prelude.{ℕ, suc, ◌+◌, ◌-◌, ◌*◌, Bool, true, false, List, Option}
use Rattle.oak_model.specs.declared.limits.TheConstants.{GREATEST_ENTRIES}
use Rattle.oak_model.specs.KeyNumber.{key_number}
use Rattle.scan_cursor.specs.declared.walking.Walk.{Walk}
use Rattle.scan_cursor.specs.declared.ways.Way.{Way}
use Rattle.scan_cursor.specs.declared.ways.Way.TheVariants.{Up, Down}
use Rattle.scan_cursor.specs.Holding.{high_end, low_end}

-- how many numbers of keys lie beyond the room whose entries are loaded, or from the key on
abbrev pub keys_left : Way → (high : ℕ) → (gathered : Bool) → List ℕ → Option (List ℕ) → ℕ
keys_left Up high true k bound = suc high - high_end bound
keys_left Up high false k bound = suc high - key_number k
keys_left Down high true k bound = low_end bound
keys_left Down high false k bound = key_number k

-- 1 where the key at the mark is not read yet
abbrev pub unread : (past : Bool) → ℕ
unread true = 0
unread false = 1

-- the slots that are left of the room, and its end
abbrev pub slots_left : (gathered : Bool) → (from to : ℕ) → ℕ
slots_left true from to = suc (to - from)
slots_left false from to = 0

-- each slot is taken, and its key may then be read anew
abbrev pub room_left : (gathered past : Bool) → (from to : ℕ) → ℕ
room_left gathered past from to = 2 * slots_left gathered from to + unread past

abbrev pub steps_left : Way → (high : ℕ) → Walk → ℕ
steps_left way high w = keys_left way high w.gathered w.mark.key w.bound * (2 * GREATEST_ENTRIES + 4) + room_left w.gathered w.mark.past w.from w.to
