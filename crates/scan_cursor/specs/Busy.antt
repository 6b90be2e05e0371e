-- Scans that give up, since another pass keeps them from a room or from a value.
use Rattle.std.specs.Prelude.{ℕ, zero, suc, ◌⊎◌, List}
use Rattle.oak_model.specs.Limits.{Sizes}
use Rattle.oak_core.specs.declared.states.PassState.{PassState}
use Rattle.oak_core.specs.AloneWords.{Runs}
use Rattle.chunk_ops.specs.AskedRanges.{CoversKey, EndsUnder}
use Rattle.chunk_ops.specs.AddsAlone.{Never}
use Rattle.chunk_ops.specs.RoomPins.{FoundMoved}
use Rattle.value_ops.specs.declared.pinning.BadPin.TheVariants.{Locked, Other}
use Rattle.value_ops.specs.Pinning.{KnowsLife, PinsDud}
use Rattle.scan_cursor.specs.Marks.{InBounds}
use Rattle.scan_cursor.specs.Views.{Later, View}

-- the header was found locked, or of another generation
abbrev pub FindsTaken : Sizes → (call h g : ℕ) → PassState → PassState → Type 0
FindsTaken z call h g v w = PinsDud z call h g Locked v w ⊎ PinsDud z call h g Other v w

-- Each room was found not open, or without the key in its range, or without the keys next below it. Or the header was found so that the pass knew as the key's.
abbrev pub IsKeptFrom : List ℕ → View → View → Type 0
IsKeptFrom k a b = FoundMoved a.sizes a.call (CoversKey k) a.state b.state ⊎ (FoundMoved a.sizes a.call (EndsUnder k) a.state b.state ⊎ ((h : ℕ) × (g : ℕ) × KnowsLife h g k a.state.knowledge × FindsTaken a.sizes a.call h g a.state b.state))

-- Between the two the key was looked at in vain. To a pass that is alone that never comes.
pub record LooksInVain (k : List ℕ) (a b : View) : Type 0 where
  pub from : View
  pub to : View
  pub before : Later a from
  pub behind : Later to b
  pub cause : IsKeptFrom k from to
  pub alone : Runs Never a.state b.state

-- it was a key between the bounds
abbrev pub IsInVain : (low high : ℕ) → View → View → Type 0
IsInVain low high a b = (k : List ℕ) × InBounds low high k × LooksInVain k a b

-- so many looks were in vain, one behind the other
abbrev pub AreInVain : ℕ → (low high : ℕ) → View → View → Type 0
AreInVain zero low high a b = Later a b
AreInVain (suc n) low high a b = (m : View) × AreInVain n low high a m × IsInVain low high m b
