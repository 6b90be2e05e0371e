-- What a word and an operand name among the headers, and what the steps on them tell.
use Rattle.std.specs.Prelude.{◌≡◌, ℕ, ◌+◌, ◌*◌, ◌<◌}
use Rattle.oak_model.specs.declared.writes.Kind.{Kind}
use Rattle.oak_model.specs.Limits.{Sizes}
use Rattle.header_core.specs.declared.states.TheConstants.{FREE, LIVE}
use Rattle.header_core.specs.declared.holds.HeldAs.{HeldAs}
use Rattle.header_core.specs.Headers.{HeaderSpot, at_pin, at_place, at_stamp}
use Rattle.header_core.specs.HeaderHolds.{held_state}
use Rattle.pin_word.specs.PinWord.{STATE, HasNoPin}
use Rattle.header_core.specs.HeaderStep.{HeaderStep, claim_header, store_place, store_stamp, change_place, open_header, pin_header, unpin_header, release_header, lock_header, unlock_header, mark_dead, take_back}
use Rattle.oak_core.specs.declared.states.PassState.{PassState}
use Rattle.oak_core.specs.Memory.{in_headers, index}
use Rattle.oak_core.specs.Step.{on_headers, Told}

-- the words of a header to which the pass stores that owns it, or has it locked
pub data HeaderField : Type 0 where
  of_place : HeaderField
  of_stamp : HeaderField
  -- the place word of a locked header
  of_locked_place : HeaderField

abbrev pub field_spot : HeaderField → ℕ → HeaderSpot
field_spot of_place h = at_place h
field_spot of_stamp h = at_stamp h
field_spot of_locked_place h = at_place h

abbrev pub field_step : HeaderField → ℕ → ℕ → HeaderStep
field_step of_place h x = store_place h x
field_step of_stamp h x = store_stamp h x
field_step of_locked_place h x = change_place h x

-- the pin word of the header
pub record NamesPin (z : Sizes) (h word : ℕ) : Type 0 where
  pub inside : h < z.headers
  pub word_is : word ≡ index z (in_headers (at_pin h))

-- that word, and what the word of a header in the state s, without a pin, becomes where it is exchanged for the next state's
pub record NamesExchange (z : Sizes) (s h word old new : ℕ) : Type 0 where
  pub inside : h < z.headers
  pub word_is : word ≡ index z (in_headers (at_pin h))
  pub unpinned : HasNoPin s old
  pub new_is : new ≡ old + STATE

-- a free header is claimed, and a live one locked

abbrev pub NamesClaim : Sizes → ℕ → ℕ → ℕ → ℕ → Type 0
NamesClaim z h word old new = NamesExchange z FREE h word old new

abbrev pub NamesLock : Sizes → ℕ → ℕ → ℕ → ℕ → Type 0
NamesLock z h word old new = NamesExchange z LIVE h word old new

-- the place word or the stamp word of the header
pub record NamesField (z : Sizes) (f : HeaderField) (h word : ℕ) : Type 0 where
  pub inside : h < z.headers
  pub word_is : word ≡ index z (in_headers (field_spot f h))

-- the pin word, and the state in which the header is that is held so
pub record NamesRelease (z : Sizes) (h : ℕ) (s : HeldAs) (word operand : ℕ) : Type 0 where
  pub inside : h < z.headers
  pub word_is : word ≡ index z (in_headers (at_pin h))
  pub operand_is : operand ≡ held_state s * STATE

-- the header was claimed, where its word was the old one
abbrev pub Claims : Sizes → ℕ → ℕ → ℕ → PassState → ℕ → PassState → Type 0
Claims z call h old v n w = Told z call (on_headers (claim_header h old)) v n w

-- the place word became x
abbrev pub StoresPlace : Sizes → ℕ → ℕ → ℕ → PassState → PassState → Type 0
StoresPlace z call h x v w = (n : ℕ) × Told z call (on_headers (store_place h x)) v n w

-- the stamp word became x
abbrev pub StoresStamp : Sizes → ℕ → ℕ → ℕ → PassState → PassState → Type 0
StoresStamp z call h x v w = (n : ℕ) × Told z call (on_headers (store_stamp h x)) v n w

-- the place word of the locked header became x
abbrev pub ChangesPlace : Sizes → ℕ → ℕ → ℕ → PassState → PassState → Type 0
ChangesPlace z call h x v w = (n : ℕ) × Told z call (on_headers (change_place h x)) v n w

-- that of them became x
abbrev pub StoresField : Sizes → ℕ → HeaderField → ℕ → ℕ → PassState → PassState → Type 0
StoresField z call of_place h x v w = StoresPlace z call h x v w
StoresField z call of_stamp h x v w = StoresStamp z call h x v w
StoresField z call of_locked_place h x v w = ChangesPlace z call h x v w

-- the owned header became live
abbrev pub Opens : Sizes → ℕ → ℕ → PassState → ℕ → PassState → Type 0
Opens z call h v n w = Told z call (on_headers (open_header h)) v n w

-- the header was pinned, wanted at the generation g
abbrev pub Pins : Sizes → ℕ → ℕ → ℕ → PassState → ℕ → PassState → Type 0
Pins z call h g v n w = Told z call (on_headers (pin_header h g)) v n w

-- the pin was undone
abbrev pub Unpins : Sizes → ℕ → ℕ → PassState → ℕ → PassState → Type 0
Unpins z call h v n w = Told z call (on_headers (unpin_header h)) v n w

-- the header became free
abbrev pub Releases : Sizes → ℕ → ℕ → HeldAs → PassState → ℕ → PassState → Type 0
Releases z call h s v n w = Told z call (on_headers (release_header h s)) v n w

-- the header was locked, where its word was the old one
abbrev pub Locks : Sizes → ℕ → ℕ → ℕ → PassState → ℕ → PassState → Type 0
Locks z call h old v n w = Told z call (on_headers (lock_header h old)) v n w

-- the locked header became live
abbrev pub Unlocks : Sizes → ℕ → ℕ → Kind → PassState → ℕ → PassState → Type 0
Unlocks z call h kind v n w = Told z call (on_headers (unlock_header h kind)) v n w

-- the locked header became dead
abbrev pub MarksDead : Sizes → ℕ → ℕ → PassState → ℕ → PassState → Type 0
MarksDead z call h v n w = Told z call (on_headers (mark_dead h)) v n w

-- the buried header was taken back, by the number x
abbrev pub TakesBack : Sizes → ℕ → ℕ → ℕ → PassState → ℕ → PassState → Type 0
TakesBack z call h x v n w = Told z call (on_headers (take_back h x)) v n w
