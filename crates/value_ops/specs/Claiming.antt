-- What a search for a free header finds, and what a claim does.
use Rattle.std.specs.Prelude.{◌≡◌, ◌≢◌, ℕ, ◌+◌, ◌<◌, ◌⊎◌, true, false, slice_set, List, ◌∷◌, map}
use Rattle.pin_word.specs.PinWord.{generation_of, STATE}
use Rattle.oak_model.specs.Counts.{one_at, total, Each}
use Rattle.oak_model.specs.Limits.{Sizes}
use Rattle.header_core.specs.declared.holds.HeldHeader.{HeldHeader}
use Rattle.header_core.specs.declared.holds.HeaderHolds.{HeaderHolds}
use Rattle.header_core.specs.Headers.{at_pin}
use Rattle.header_core.specs.HeaderHolds.{pins_on}
use Rattle.header_core.specs.HeaderStep.{IsFreeWord, owned_at}
use Rattle.oak_core.specs.declared.states.Finding.{Finding}
use Rattle.oak_core.specs.declared.states.PassState.{PassState}
use Rattle.oak_core.specs.AloneWords.{Runs}
use Rattle.oak_core.specs.Memory.{Spot, in_headers, index, memory}
use Rattle.oak_core.specs.Finding.{grown, IsOf, IsLoadOf, FoundThere}
use Rattle.oak_core.specs.HeaderCalls.{Claims}
use Rattle.oak_core.specs.PassState.{headers_held}
use Rattle.oak_core.specs.Usage.{is_free}

abbrev pub pin_spot : ℕ → Spot
pin_spot h = in_headers (at_pin h)

-- how often the pass holds the header, in whatever state
abbrev pub holds_header : ℕ → HeaderHolds → ℕ
holds_header h a = total (λ (r : HeldHeader). one_at r.header h) a.held

-- one of the findings is of the call, and shows a number of the header's pin word that has P; the pass had there what v has there
abbrev pub FoundPin : Sizes → ℕ → ℕ → PassState → List Finding → (ℕ → Type 0) → Type 0
FoundPin z call h v met P = FoundThere z call (pin_spot h) v met P

-- the header was found not free
abbrev pub FoundUnfree : Sizes → ℕ → ℕ → PassState → List Finding → Type 0
FoundUnfree z call h v met = FoundPin z call h v met (λ n. is_free n ≡ false)

-- two different generations of the header were found
pub record FoundTwice (z : Sizes) (call h : ℕ) (v : PassState) (met : List Finding) : Type 0 where
  pub one : FoundPin z call h v met (λ _. Unit {0})
  pub other : FoundPin z call h v met (λ _. Unit {0})
  pub apart : generation_of one.number ≢ generation_of other.number

-- the words stay, and in them no header with P is free
abbrev pub NoneFree : Sizes → (ℕ → Type 0) → List ℕ → List ℕ → Type 0
NoneFree z P before after = (after ≡ before) × ((h : ℕ) → h < z.headers → P h → is_free ((memory z before).headers.pin h) ≡ false)

-- P held of the number of the header's pin word, which became f of it; no other word changed
abbrev pub ChangesPin : Sizes → ℕ → (ℕ → Type 0) → (ℕ → ℕ) → List ℕ → List ℕ → Type 0
ChangesPin z h P f before after = P ((memory z before).headers.pin h) × (after ≡ slice_set before (index z (pin_spot h)) (f ((memory z before).headers.pin h)))

-- the header was free, and is owned; no other word changed
abbrev pub OwnsPin : Sizes → ℕ → List ℕ → List ℕ → Type 0
OwnsPin z h = ChangesPin z h (λ n. is_free n ≡ true) (λ n. n + STATE)

-- The pass only met more, all in the call and by steps that left their words as they were found, and each header with P was found not free, or in two generations. To a pass that is alone none of them is free, all at once.
pub record Looked (z : Sizes) (call : ℕ) (v w : PassState) (P : ℕ → Type 0) : Type 0 where
  pub more : List Finding
  pub after : w ≡ grown more v
  pub looks : Each (IsLoadOf z call) more
  pub found : (h : ℕ) → h < z.headers → P h → FoundUnfree z call h v more ⊎ FoundTwice z call h v more
  pub still : Runs (NoneFree z P) v w

-- the pass only met more, and each header was found not free, or in two generations
abbrev pub FindsNoneFree : Sizes → ℕ → PassState → PassState → Type 0
FindsNoneFree z call v w = Looked z call v w (λ h. Unit {0})

-- The step that claimed the header, after others that only looked, found it free and without a pin. No pass held it or had it pinned at that moment. The pass owns it now, with the generation, the place and the stamp that it had then, and else only met more, all in the call.
pub record ClaimsHeader (z : Sizes) (call h : ℕ) (v w : PassState) : Type 0 where
  pub inside : h < z.headers
  pub before : List Finding
  pub looks : Each (IsLoadOf z call) before
  pub number : ℕ
  pub free : IsFreeWord number
  pub told : Claims z call h number (grown before v) number w
  pub unheld : total (holds_header h) (map headers_held told.table.states) ≡ 0
  pub unpinned : total (pins_on h) (map headers_held told.table.states) ≡ 0
  -- to a pass that is alone
  pub still : Runs (OwnsPin z h) v w
  pub more : List Finding
  pub calls : Each (IsOf z call) more
  pub after : w ≡ record (grown more v) { headers = record v.headers { held = owned_at (memory z told.table.words).headers h ∷ v.headers.held } }
