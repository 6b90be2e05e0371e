-- What the load of an entry's value word teaches its pass, of an entry that it found under a good pin: where the word is a floor, all writes of the key up to it, and where it names a header, that life of the key.
use Rattle.std.specs.Prelude.{ℕ, ◌==◌, ◌&&◌, cond, Bool, List, [], ◌∷◌, ◌++◌, Option}
use Rattle.chunk_core.specs.declared.holds.PinnedRoom.{PinnedRoom}
use Rattle.chunk_core.specs.ValueWord.{names_header}
use Rattle.oak_core.specs.declared.states.Findings.{Findings}
use Rattle.oak_core.specs.declared.states.Knowledge.{Knowledge}
use Rattle.oak_core.specs.declared.states.KnownLife.{KnownLife}
use Rattle.oak_core.specs.declared.states.Sight.{Sight}
use Rattle.oak_core.specs.declared.states.Taught.{Taught}
use Rattle.oak_core.specs.FoundKeys.{pinned_key}
use Rattle.oak_core.specs.Learning.{of_key_to, taught_where}
use Rattle.oak_core.specs.LifeKeys.{key_or, is_known}
use Rattle.oak_core.specs.Sights.{sights_with}

-- the word n of the entry i of the room r is a floor of a key that the pin found
abbrev pub shows_floor : (r i n : ℕ) → Option PinnedRoom → Bool
shows_floor r i n pin = is_known (pinned_key r i pin) && (names_header n == 0)

-- or a header of such a key
abbrev pub shows_life : (r i n : ℕ) → Option PinnedRoom → Bool
shows_life r i n pin = is_known (pinned_key r i pin) && (names_header n == 1)

abbrev pub value_taught : (r i n : ℕ) → Option PinnedRoom → Taught
value_taught r i n pin = of_key_to (key_or (pinned_key r i pin)) n

abbrev pub life_shown : (call r i n : ℕ) → Option PinnedRoom → KnownLife
life_shown call r i n pin = record { call = call; key = key_or (pinned_key r i pin); home = n }

abbrev pub knows_value : (call r i n : ℕ) → Option PinnedRoom → List Knowledge → Knowledge → Knowledge
knows_value call r i n pin qs q = record (taught_where (shows_floor r i n pin) (value_taught r i n pin) qs q) { loaded = cond (shows_life r i n pin) (q.loaded ++ life_shown call r i n pin ∷ []) q.loaded }

abbrev pub sights_value : (r i n call : ℕ) → Option PinnedRoom → Findings → List Sight
sights_value r i n call pin fs = sights_with (shows_floor r i n pin) call (value_taught r i n pin) fs
