-- What a call found that lacks a room.
use Rattle.std.specs.Prelude.{◌≡◌, ◌≢◌, ℕ, ◌-◌, ◌<◌, ◌≤◌, false, List, ◌++◌, length, Some}
use mathlib.Core.Option.{some}
use lib.ListN.{get_elem?}
use Rattle.pin_word.specs.PinWord.{state_of, count_of}
use Rattle.oak_model.specs.Limits.{Sizes}
use Rattle.oak_model.specs.Counts.{total, Each}
use Rattle.chunk_core.specs.declared.states.TheConstants.{FROZEN, HELD}
use Rattle.chunk_core.specs.Rooms.{RoomMemory, at_room_pin, at_value}
use Rattle.chunk_core.specs.ValueWord.{names_header}
use Rattle.chunk_core.specs.Spans.{within}
use Rattle.chunk_core.specs.LinkedEntries.{linked}
use Rattle.chunk_core.specs.Covers.{span_in}
use Rattle.oak_core.specs.declared.states.Finding.{Finding}
use Rattle.oak_core.specs.declared.states.PassState.{PassState}
use Rattle.oak_core.specs.Memory.{in_rooms, index, memory}
use Rattle.oak_core.specs.Usage.{is_free}
use Rattle.oak_core.specs.FoundBehind.{FoundBehind}

-- the room was found not free, and the pass had nothing of it
abbrev pub FoundUsed : Sizes → ℕ → ℕ → List Finding → ℕ → Type 0
FoundUsed z behind ended met r = FoundBehind behind ended met (index z (in_rooms (at_room_pin r))) (λ n had. (is_free n ≡ false) × (had ≡ 0))

-- the room covers the key, and has as many linked entries as it can, each with a value
pub record IsFullFor (z : Sizes) (m : RoomMemory) (r k : ℕ) : Type 0 where
  pub covers : within (span_in m r) k ≡ 1
  pub full : total (λ _. 1) (linked m r) ≡ z.entries
  pub values : total (λ i. 1 - names_header (m.value r i)) (linked m r) ≡ 0

-- The pass came to hold the room by one of the findings, and from there on to the place `to` had no other at its pin word, so it held the room all the while. The words of the room were full for the key when it came to hold it.
pub record HeldFull (z : Sizes) (behind to : ℕ) (met : List Finding) (r k : ℕ) : Type 0 where
  pub held : ℕ
  pub after : behind ≤ held
  pub order : held ≤ to
  pub hold : Finding
  pub there : get_elem? met held ≡ some hold
  pub word_is : hold.word ≡ index z (in_rooms (at_room_pin r))
  pub number : ℕ
  pub found_is : hold.found ≡ Some number
  pub frozen : state_of number ≡ FROZEN
  pub unpinned : count_of number ≡ 0
  pub left_is : state_of hold.left ≡ HELD
  pub still : (i : ℕ) (f : Finding) → held < i → i < to → get_elem? met i ≡ some f → f.word ≢ hold.word
  pub full : IsFullFor z (memory z hold.words).rooms r k

-- so it held the room, and it found each entry with a value since
pub record FoundWhole (z : Sizes) (behind ended : ℕ) (met : List Finding) (r k : ℕ) : Type 0 where
  pub to : ℕ
  pub within : to ≤ ended
  pub holds : HeldFull z behind to met r k
  pub values : (i : ℕ) → i < z.entries → FoundBehind holds.held to met (index z (in_rooms (at_value r i))) (λ n had. names_header n ≡ 1)

-- the step at the place was made while the pass held a chunk that was full when it came to hold it
abbrev pub ClaimedFull : Sizes → ℕ → List Finding → ℕ → Type 0
ClaimedFull z behind met place = (place < length met) × (r : ℕ) × (k : ℕ) × HeldFull z behind place met r k

-- The rooms that the pass claimed, or tried to claim, from the one state to the other, it claimed while it held a chunk that was full when it came to hold it, which was between the two.
pub record ClaimsFull (z : Sizes) (v w : PassState) : Type 0 where
  pub more : List ℕ
  pub claims : w.findings.rebalances.claims ≡ v.findings.rebalances.claims ++ more
  pub full : Each (ClaimedFull z (length v.findings.met) w.findings.met) more

-- each other room was found not free, and the one that covers the key was held with a value in each of its entries
pub record RoomLackFound (z : Sizes) (behind ended : ℕ) (met : List Finding) (k : ℕ) : Type 0 where
  pub room : ℕ
  pub inside : room < z.chunks
  pub whole : FoundWhole z behind ended met room k
  pub others : (r : ℕ) → r < z.chunks → r ≢ room → FoundUsed z behind ended met r
