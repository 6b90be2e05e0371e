-- What calls that look for a room do where their pass is alone: at a moment at which the rule held, each room was off.
use Rattle.std.specs.Prelude.{◌≡◌, ◌≢◌, ℕ, ◌<◌, ◌⊎◌, List, []}
use Rattle.pin_word.specs.PinWord.{state_of}
use Rattle.oak_model.specs.Counts.{total}
use Rattle.oak_model.specs.Limits.{Sizes}
use Rattle.chunk_core.specs.declared.states.TheConstants.{FROZEN, OPEN}
use Rattle.chunk_core.specs.declared.holds.RoomHolds.{RoomHolds}
use Rattle.chunk_core.specs.CoverSums.{is_in}
use Rattle.chunk_core.specs.Covers.{moving_of, span_in}
use Rattle.chunk_core.specs.RoomRule.{in_room_state}
use Rattle.chunk_core.specs.Spans.{Span}
use Rattle.oak_core.specs.declared.states.PassState.{PassState}
use Rattle.oak_core.specs.AloneWords.{Moment}
use Rattle.oak_core.specs.Memory.{memory}
use Rattle.oak_core.specs.PassState.{IsAlone}

-- the room is not open, or its range has not P
abbrev pub IsOff : Sizes → ℕ → (Span → Type 0) → List ℕ → Type 0
IsOff z r P words = (state_of ((memory z words).rooms.pin r) ≢ OPEN) ⊎ (P (span_in (memory z words).rooms r) → ⊥)

abbrev pub IsShut : Sizes → ℕ → List ℕ → Type 0
IsShut z r words = state_of ((memory z words).rooms.pin r) ≢ OPEN

-- the pass was alone, the rule held, and the words have Q; it had h of rooms
pub record LoneMoment (z : Sizes) (Q : List ℕ → Type 0) (h : RoomHolds) (words : List ℕ) : Type 0 where
  pub says : Q words
  pub state : PassState
  pub rooms : state.rooms ≡ h
  pub alone : IsAlone state
  pub moment : Moment z words state

-- and the words stay
pub record LoneTry (z : Sizes) (Q : List ℕ → Type 0) (h : RoomHolds) (before after : List ℕ) : Type 0 where
  pub stay : after ≡ before
  pub at : LoneMoment z Q h before

-- each of the first k rooms was off so
pub record LoneTries (z : Sizes) (k : ℕ) (P : Span → Type 0) (h : RoomHolds) (before after : List ℕ) : Type 0 where
  pub stay : after ≡ before
  pub each : (r : ℕ) → r < k → LoneMoment z (IsOff z r P) h before

-- the pass has no room frozen or held, and no range that moves with it
pub record HasNoRoom (v : PassState) : Type 0 where
  pub held : v.rooms.held ≡ []
  pub moving : v.rooms.moving ≡ []

-- this does not come about where the pass is alone and has no room
abbrev pub NeverAlone : PassState → List ℕ → List ℕ → Type 0
NeverAlone v before after = HasNoRoom v → ⊥

-- the pass has no room frozen
abbrev pub FreezesNone : PassState → Type 0
FreezesNone v = (r : ℕ) → in_room_state r FROZEN v.rooms ≡ 0

-- this does not come about where the pass is alone and has no room frozen
abbrev pub NeverUnfrozen : PassState → List ℕ → List ℕ → Type 0
NeverUnfrozen v before after = FreezesNone v → ⊥

-- the pass has no room frozen, and no range that moves with it has the key of the number; it may hold rooms
pub record HasElsewhere (k : ℕ) (v : PassState) : Type 0 where
  pub frozen : FreezesNone v
  pub moving : total (is_in k) (moving_of v.rooms) ≡ 0

-- this does not come about where the pass is alone and has the key elsewhere
abbrev pub NeverElsewhere : ℕ → PassState → List ℕ → List ℕ → Type 0
NeverElsewhere k v before after = HasElsewhere k v → ⊥
