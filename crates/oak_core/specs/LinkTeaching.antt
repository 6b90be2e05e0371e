-- What the load of a link teaches its pass under a good pin, where the link leads on from what was found: it has found the entry that the link names, and knows of each key that the link steps over all that was written up to the base.
use Rattle.std.specs.Prelude.{ℕ, ◌==◌, ◌&&◌, Bool, List, Option, Some, None}
use Rattle.pin_word.specs.PinWord.{state_of}
use Rattle.chunk_core.specs.declared.states.TheConstants.{OPEN}
use Rattle.chunk_core.specs.declared.holds.PinnedRoom.{PinnedRoom}
use Rattle.chunk_core.specs.FoundLinks.{leads, found_from, found_by}
use Rattle.chunk_core.specs.LinkWords.{link_word}
use Rattle.chunk_core.specs.Rooms.{RoomMemory}
use Rattle.oak_core.specs.declared.states.Findings.{Findings}
use Rattle.oak_core.specs.declared.states.Gap.{Gap}
use Rattle.oak_core.specs.declared.states.Knowledge.{Knowledge}
use Rattle.oak_core.specs.declared.states.Sight.{Sight}
use Rattle.oak_core.specs.declared.states.Taught.TheVariants.{OfGap}
use Rattle.oak_core.specs.Learning.{taught_where}
use Rattle.oak_core.specs.Sights.{sights_with}

-- whether the pin is a good one of the room
abbrev pub is_pinned : ℕ → PinnedRoom → Bool
is_pinned r p = (p.room == r) && (state_of p.found == OPEN)

-- what the link steps over, as it stands then
abbrev pub gap_at : RoomMemory → (ℕ → List ℕ) → Option ℕ → PinnedRoom → Gap
gap_at m bytes from p = record { room = p; from = found_from from p; to = found_by m bytes p.room (link_word m p.room from) }

-- whether the pin is a good one of the room, and the link leads on from what was found under it
abbrev pub shows_link : ℕ → Option ℕ → PinnedRoom → Bool
shows_link r from p = is_pinned r p && leads from p

abbrev pub knows_link : RoomMemory → (ℕ → List ℕ) → ℕ → Option ℕ → Option PinnedRoom → List Knowledge → Knowledge → Knowledge
knows_link m bytes r from None qs q = q
knows_link m bytes r from (Some p) qs q = taught_where (shows_link r from p) (OfGap (gap_at m bytes from p)) qs q

abbrev pub sights_link : RoomMemory → (ℕ → List ℕ) → ℕ → Option ℕ → ℕ → Option PinnedRoom → Findings → List Sight
sights_link m bytes r from call None fs = fs.sights
sights_link m bytes r from call (Some p) fs = sights_with (shows_link r from p) call (OfGap (gap_at m bytes from p)) fs
