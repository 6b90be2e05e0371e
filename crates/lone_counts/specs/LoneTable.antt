-- A table whose pass is alone and holds nothing, at a moment at which the rule holds.
use Rattle.std.specs.Prelude.{◌≡◌, ℕ, ◌<◌, List}
use Rattle.pin_word.specs.PinWord.{state_of}
use Rattle.oak_model.specs.Counts.{below, one_at, total}
use Rattle.oak_model.specs.KeyNumber.{key_number}
use Rattle.oak_model.specs.Limits.{Sizes}
use Rattle.arena_core.specs.Place.{content}
use Rattle.chunk_core.specs.declared.states.TheConstants.{OPEN}
use Rattle.chunk_core.specs.Covers.{key_at, span_in}
use Rattle.chunk_core.specs.LinkedEntries.{entries_in, linked}
use Rattle.chunk_core.specs.RoomCopies.{word_held}
use Rattle.chunk_core.specs.RoomReads.{copy_at}
use Rattle.chunk_core.specs.Spans.{within}
use Rattle.chunk_core.specs.ValueWord.{names_header}
use Rattle.header_core.specs.declared.states.TheConstants.{RETIRED}
use Rattle.oak_core.specs.declared.states.PassState.{PassState}
use Rattle.oak_core.specs.AloneWords.{Moment}
use Rattle.oak_core.specs.Memory.{memory}
use Rattle.oak_core.specs.PassState.{HoldsNothing, IsAlone}
use Rattle.oak_core.specs.Sweeping.{valueless}

pub record LoneTable (z : Sizes) (words : List ℕ) (v : PassState) : Type 0 where
  pub moment : Moment z words v
  pub alone : IsAlone v
  pub idle : HoldsNothing v

-- the headers that are retired
abbrev pub retired_in : Sizes → List ℕ → ℕ
retired_in z words = below (λ h. one_at (state_of ((memory z words).headers.pin h)) RETIRED) z.headers

-- each entry of each open room has a value
abbrev pub AllValued : Sizes → List ℕ → Type 0
AllValued z words = (r : ℕ) → r < z.chunks → state_of ((memory z words).rooms.pin r) ≡ OPEN → valueless (copy_at z (memory z words).rooms r) ≡ 0

-- and each has a key, so that none was given up
abbrev pub AllKeyed : Sizes → List ℕ → Type 0
AllKeyed z words = (r : ℕ) → r < z.chunks → state_of ((memory z words).rooms.pin r) ≡ OPEN → (i : ℕ) → i < entries_in ((memory z words).rooms.count r) → 0 < word_held (copy_at z (memory z words).rooms r) i

-- an open room that has the key in its range has a linked entry of it with a value
pub record HasValue (z : Sizes) (words key : List ℕ) : Type 0 where
  pub room : ℕ
  pub inside : room < z.chunks
  pub open_is : state_of ((memory z words).rooms.pin room) ≡ OPEN
  pub covers : within (span_in (memory z words).rooms room) (key_number key) ≡ 1
  pub entry : ℕ
  pub linked : total (λ j. one_at j entry) (linked (memory z words).rooms room) ≡ 1
  pub key_is : key_at (content (memory z words).arena.bytes) ((memory z words).rooms.key room entry) ≡ key_number key
  pub named : names_header ((memory z words).rooms.value room entry) ≡ 1
