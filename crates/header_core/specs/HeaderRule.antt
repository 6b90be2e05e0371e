-- Pins are counted, what a good pin found stands, and a header that is owned, fresh, locked or dead is one pass's.
use Rattle.std.specs.Prelude.{◌≡◌, ◌≢◌, ℕ, ◌+◌, ◌<◌, ◌≤◌, ◌⊎◌, List, Option, Some, None}
use Rattle.pin_word.specs.PinWord.{generation_of, state_of, count_of}
use Rattle.oak_model.specs.Counts.{one_at, total, Every, Each}
use Rattle.header_core.specs.declared.states.TheConstants.{FREE, LIVE, LOCKED, DEAD, RETIRED, LAST_GENERATION}
use Rattle.header_core.specs.declared.holds.HeldHeader.{HeldHeader}
use Rattle.header_core.specs.declared.holds.PinnedHeader.{PinnedHeader}
use Rattle.header_core.specs.declared.holds.HeaderHolds.{HeaderHolds}
use Rattle.header_core.specs.Headers.{HeaderMemory}
use Rattle.header_core.specs.HeaderHolds.{pins_on, in_state, fresh_at}

-- 1 where a header in this state has a block, the one that its place word names
abbrev pub stocked : ℕ → ℕ
stocked s = one_at s LIVE + one_at s LOCKED + one_at s DEAD

-- the pin found the header live, at the generation that was wanted
pub record IsGood (p : PinnedHeader) : Type 0 where
  pub live : state_of p.found ≡ LIVE
  pub wanted : generation_of p.found ≡ p.wanted

-- P holds of the pin, if there is one
abbrev pub OnPin : (PinnedHeader → Type 0) → Option PinnedHeader → Type 0
OnPin P None = Unit {0}
OnPin P (Some p) = P p

-- What a good pin found stands there still: the header is live at its generation, and its place, its stamp and the words of its block are those recorded. `content` gives the words of the block that a place word names.
pub record PinHolds (m : HeaderMemory) (content : ℕ → List ℕ) (p : PinnedHeader) : Type 0 where
  pub live : state_of (m.pin p.header) ≡ LIVE
  pub generation : generation_of (m.pin p.header) ≡ p.wanted
  pub place : m.place p.header ≡ p.place
  pub stamp : m.stamp p.header ≡ p.stamp
  pub words : content p.place ≡ p.words

abbrev pub GoodPinHolds : HeaderMemory → (ℕ → List ℕ) → PinnedHeader → Type 0
GoodPinHolds m content p = IsGood p → PinHolds m content p

-- the header is dead, or was taken back
abbrev pub IsOver : ℕ → Type 0
IsOver s = (s ≡ DEAD) ⊎ ((s ≡ FREE) ⊎ (s ≡ RETIRED))

-- while a pin that found a header dead stands, the stamp word is still that of the removal
pub record RemovalStands (m : HeaderMemory) (p : PinnedHeader) : Type 0 where
  pub over : IsOver (state_of (m.pin p.header))
  pub stamp : m.stamp p.header ≡ p.stamp

abbrev pub DeadPinHolds : HeaderMemory → PinnedHeader → Type 0
DeadPinHolds m p = state_of p.found ≡ DEAD → RemovalStands m p

-- The bundle of points on headers. `known` is 1 where a pass knows the header at the generation other than as its fresh one, and else 0; `IsPlace` says that a number names a block with the class of its length.
pub record HeadersStand (m : HeaderMemory) (content : ℕ → List ℕ) (IsPlace : ℕ → Type 0) (known : ℕ → ℕ → ℕ) (hs : List HeaderHolds) : Type 0 where
  -- the count of a header is the number of pins on it, duds among them
  pub counted : (h : ℕ) → total (pins_on h) hs ≡ count_of (m.pin h)
  -- a header is owned, locked or dead exactly where one pass holds it so
  pub held : (h s : ℕ) → 0 < s → s < RETIRED → s ≢ LIVE → total (in_state h s) hs ≡ one_at (state_of (m.pin h)) s
  -- a header that is fresh is live, and one pass's
  pub fresh : (h : ℕ) → total (in_state h LIVE) hs ≤ one_at (state_of (m.pin h)) LIVE
  -- a header that has a block is fresh, or known at its generation, and not both; one without a block is neither
  pub settled : (h : ℕ) → total (in_state h LIVE) hs + known h (generation_of (m.pin h)) ≡ stocked (state_of (m.pin h))
  -- a header that is known at a generation is at that one or at a greater one
  pub older : (h g : ℕ) → 0 < known h g → g ≤ generation_of (m.pin h)
  -- a header is in one of the six states
  pub six : (h : ℕ) → state_of (m.pin h) ≤ RETIRED
  -- a header is retired exactly where it is at the last generation
  pub retired : (h : ℕ) → one_at (state_of (m.pin h)) RETIRED ≡ one_at (generation_of (m.pin h)) LAST_GENERATION
  -- the place word of a header that has a block names one, with the class of its length
  pub placed : (h : ℕ) → 0 < stocked (state_of (m.pin h)) → IsPlace (m.place h)
  -- a held header is at its generation
  pub generations : Every (λ (a : HeaderHolds). Each (λ (r : HeldHeader). generation_of (m.pin r.header) ≡ r.generation) a.held) hs
  pub good : Every (λ (a : HeaderHolds). OnPin (GoodPinHolds m content) a.pin) hs
  pub dead : Every (λ (a : HeaderHolds). OnPin (DeadPinHolds m) a.pin) hs

-- the pass has a pin only on a header that it knows: it has it fresh, or knows it otherwise, as `knows` counts
abbrev pub PinsWhatItKnows : (ℕ → ℕ → ℕ) → HeaderHolds → Type 0
PinsWhatItKnows knows a = OnPin (λ (p : PinnedHeader). 0 < fresh_at p.header p.wanted a + knows p.header p.wanted) a.pin
