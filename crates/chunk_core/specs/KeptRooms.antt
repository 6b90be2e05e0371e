-- The words of rooms that no other pass may change, each with its number: those of the entry that the pass claimed, and all of a room that it holds but the pin word.
use Rattle.std.specs.Prelude.{ℕ, suc, List, [], ◌∷◌, ◌++◌, slice_index, Option, Some, None}
use Rattle.oak_model.specs.Counts.{rows}
use Rattle.oak_model.specs.Kept.{KeptWord}
use Rattle.chunk_core.specs.declared.layout.TheConstants.{BOUND_WORDS}
use Rattle.chunk_core.specs.declared.holds.EntryWords.{EntryWords}
use Rattle.chunk_core.specs.declared.holds.Claim.{Claim}
use Rattle.chunk_core.specs.declared.holds.RoomCopy.{RoomCopy}
use Rattle.chunk_core.specs.declared.holds.RoomHeldAs.{RoomHeldAs}
use Rattle.chunk_core.specs.declared.holds.RoomHeldAs.TheVariants.{Frozen, Held}
use Rattle.chunk_core.specs.declared.holds.HeldRoom.{HeldRoom}
use Rattle.chunk_core.specs.declared.holds.RoomHolds.{RoomHolds}
use Rattle.chunk_core.specs.Rooms.{RoomSpot, at_base, at_count, at_latch, at_first, at_low, at_high, at_key, at_value, at_next}

-- the three words of an entry
abbrev pub kept_of_entry : ℕ → ℕ → EntryWords → List (KeptWord RoomSpot)
kept_of_entry r i e = record { spot = at_key r i; number = e.word } ∷ record { spot = at_value r i; number = e.value } ∷ record { spot = at_next r i; number = e.next } ∷ []

-- with a claim its entry
abbrev pub kept_of_claim : Option Claim → List (KeptWord RoomSpot)
kept_of_claim None = []
kept_of_claim (Some c) = kept_of_entry c.room c.number c.entry

-- entries of a room, from the number i on
unfoldable pub kept_of_entries : ℕ → ℕ → List EntryWords → List (KeptWord RoomSpot)
kept_of_entries r i [] = []
kept_of_entries r i (e ∷ es) = kept_of_entry r i e ++ kept_of_entries r (suc i) es

-- all words of a room but the pin word
abbrev pub kept_of_copy : ℕ → RoomCopy → List (KeptWord RoomSpot)
kept_of_copy r w =
    record { spot = at_base r; number = w.base } ∷ record { spot = at_count r; number = w.count } ∷ record { spot = at_latch r; number = w.latch } ∷ record { spot = at_first r; number = w.first }
    ∷ (rows 0 BOUND_WORDS (λ j. record { spot = at_low r j; number = slice_index w.low j }) ++ (rows 0 BOUND_WORDS (λ j. record { spot = at_high r j; number = slice_index w.high j }) ++ kept_of_entries r 0 w.entries))

-- a frozen room's words are still changed by others
abbrev pub kept_of_held : ℕ → RoomHeldAs → List (KeptWord RoomSpot)
kept_of_held r Frozen = []
kept_of_held r (Held w) = kept_of_copy r w

-- those of all rooms that are frozen or held
unfoldable pub kept_of_rooms_held : List HeldRoom → List (KeptWord RoomSpot)
kept_of_rooms_held [] = []
kept_of_rooms_held (h ∷ hs) = kept_of_held h.room h.held_as ++ kept_of_rooms_held hs

-- all that a pass keeps of rooms
abbrev pub kept_of_rooms : RoomHolds → List (KeptWord RoomSpot)
kept_of_rooms a = kept_of_claim a.claim ++ kept_of_rooms_held a.held
