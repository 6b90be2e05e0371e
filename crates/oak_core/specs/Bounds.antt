-- How great stamps, floors and bases become, and what stands as long as nothing was removed.
use Rattle.std.specs.Prelude.{◌≡◌, ◌≢◌, ℕ, ◌-◌, ◌<◌, ◌≤◌, ◌==◌, cond, List}
use Rattle.pin_word.specs.PinWord.{generation_of, state_of}
use Rattle.oak_model.specs.Limits.{Sizes}
use Rattle.oak_model.specs.Counts.{total}
use Rattle.header_core.specs.declared.states.TheConstants.{DEAD, LAST_GENERATION}
use Rattle.chunk_core.specs.Spans.{Span}
use Rattle.chunk_core.specs.Covers.{Entry, Cover}
use Rattle.chunk_core.specs.CoverSums.{each}
use Rattle.chunk_core.specs.ValueWord.{names_header}
use Rattle.oak_core.specs.declared.states.PassState.{PassState}
use Rattle.oak_core.specs.Memory.{Memory}
use Rattle.oak_core.specs.KeyHistories.{stamp_behind}
use Rattle.oak_core.specs.KeyReads.{sum_now, history_now}
use Rattle.oak_core.specs.Callers.{made_by, made_of, removes}

-- the floor that a value word is, or 0 where it names a header
unfoldable pub floor_in : ℕ → ℕ
floor_in v = cond (names_header v == 0) v 0

-- by how much an entry's floor is above n
abbrev pub floor_over : ℕ → Span → Entry → ℕ
floor_over n s x = floor_in x.value - n

-- by how much a base is above n
abbrev pub base_over : ℕ → Cover → ℕ
base_over n c = c.span.base - n

-- no stamp, floor or base is above the number of all writes
pub record BasesBound (z : Sizes) (m : Memory) (vs : List PassState) : Type 0 where
  pub stamps : (k : ℕ) → stamp_behind (history_now vs k) ≤ total made_by vs
  pub floors : sum_now z m vs (each (floor_over (total made_by vs))) ≡ 0
  pub bases : sum_now z m vs (base_over (total made_by vs)) ≡ 0

-- while no write removed anything, no header is dead, and each is at the generation g of the opening
abbrev pub UntilRemoved : Sizes → ℕ → Memory → List PassState → Type 0
UntilRemoved z g m vs = total (made_of removes) vs ≡ 0 → (h : ℕ) → h < z.headers → (state_of (m.headers.pin h) ≢ DEAD) × (generation_of (m.headers.pin h) ≡ g)

-- there is a generation of the opening, not the last one, for which it stands
pub record HasOpened (z : Sizes) (m : Memory) (vs : List PassState) : Type 0 where
  pub generation : ℕ
  pub early : generation < LAST_GENERATION
  pub until : UntilRemoved z generation m vs
