-- What the calls on a claimed header and on a fresh one do.
use Rattle.std.specs.Prelude.{◌≡◌, ℕ, ◌+◌, ◌-◌, ◌*◌, List, ◌∷◌, slice_set}
use mathlib.Core.Option.{some}
use lib.ListN.{get_elem?}
use Rattle.pin_word.specs.PinWord.{generation_of, state_of, count_of, STATE}
use Rattle.oak_model.specs.declared.classes.Class.{Class}
use Rattle.oak_model.specs.Class.{class_number}
use Rattle.oak_model.specs.Counts.{Each}
use Rattle.oak_model.specs.Limits.{Sizes}
use Rattle.arena_core.specs.Blocks.{without, words_held}
use Rattle.arena_core.specs.Place.{place_word, class_in, block_in}
use Rattle.header_core.specs.declared.states.TheConstants.{FREE, OWNED, LIVE}
use Rattle.header_core.specs.declared.holds.HeldAs.{HeldAs}
use Rattle.header_core.specs.declared.holds.HeldAs.TheVariants.{Owned, Fresh}
use Rattle.header_core.specs.HeaderHolds.{place_held, without_header}
use Rattle.header_core.specs.Headers.{at_place, at_stamp}
use Rattle.header_core.specs.HeaderStep.{HeaderStep, release_header, placed_at, stamped_at, freshened}
use Rattle.oak_core.specs.declared.states.Finding.{Finding}
use Rattle.oak_core.specs.declared.states.PassState.{PassState}
use Rattle.oak_core.specs.AloneWords.{Runs}
use Rattle.oak_core.specs.Memory.{in_headers, index, memory}
use Rattle.oak_core.specs.Finding.{grown, IsOf, IsLoadOf}
use Rattle.oak_core.specs.HeaderCalls.{StoresPlace, StoresStamp, Opens, Releases}
use Rattle.oak_core.specs.Rule.{Rule}
use Rattle.oak_core.specs.Step.{on_headers, table_after, Told}
use Rattle.oak_core.specs.TableState.{TableState}
use Rattle.value_ops.specs.Claiming.{pin_spot, ChangesPin}
use Rattle.value_ops.specs.HeldValue.{words_in}

-- the table right after a step on headers
abbrev pub table_behind : (z : Sizes) (call : ℕ) (x : HeaderStep) (v : PassState) (n : ℕ) (w : PassState) → Told z call (on_headers x) v n w → TableState
table_behind z call x v n w told = table_after z call (on_headers x) told.seat v told.table

-- In the table the rule holds, the pass is in the state w, and the header is in the state s at the generation g, with the pins that the word `number` says.
pub record IsLeft (z : Sizes) (h s g number seat : ℕ) (w : PassState) (table : TableState) : Type 0 where
  pub rule : Rule z table
  pub here : get_elem? table.states seat ≡ some w
  pub state : state_of ((memory z table.words).headers.pin h) ≡ s
  pub generation : generation_of ((memory z table.words).headers.pin h) ≡ g
  pub count : count_of ((memory z table.words).headers.pin h) ≡ count_of number

-- right after the step that released it, the header is free, at its generation
abbrev pub IsFreed : (z : Sizes) (call h : ℕ) (s : HeldAs) (v : PassState) (number : ℕ) (w : PassState) → Releases z call h s v number w → Type 0
IsFreed z call h s v number w told = IsLeft z h FREE (generation_of number) number told.seat w (table_behind z call (release_header h s) v number w told)

-- the header was in the state s, and is free; no other word changed
abbrev pub FreesPin : Sizes → ℕ → ℕ → List ℕ → List ℕ → Type 0
FreesPin z h s = ChangesPin z h (λ n. state_of n ≡ s) (λ n. n - s * STATE)

-- the header was owned; its place word and its stamp word became these, and then it was made live; no other word changed
abbrev pub FillsWords : Sizes → ℕ → ℕ → ℕ → List ℕ → List ℕ → Type 0
FillsWords z h place stamp before after = (state_of ((memory z before).headers.pin h) ≡ OWNED)
    × (after ≡ slice_set (slice_set (slice_set before (index z (in_headers (at_place h))) place) (index z (in_headers (at_stamp h))) stamp) (index z (pin_spot h)) ((memory z before).headers.pin h + STATE))

-- The one step that freed the header. The pass owns it no more, and else only met that step. The header is free after the step, which left its generation and the pins on it as they were.
pub record ReleasesOwned (z : Sizes) (call h : ℕ) (v w : PassState) : Type 0 where
  pub number : ℕ
  pub told : Releases z call h Owned v number w
  pub freed : IsFreed z call h Owned v number w told
  -- to a pass that is alone
  pub still : Runs (FreesPin z h OWNED) v w
  pub more : List Finding
  pub calls : Each (IsOf z call) more
  pub after : w ≡ record (grown more v) { headers = record v.headers { held = without_header h v.headers.held } }

-- the state of a pass that filled the owned header: it holds the block no more, and has the header fresh, with the place word of the block and the length, the stamp, and the words of the block
abbrev pub filled_state : ℕ → Class → ℕ → ℕ → ℕ → PassState → PassState
filled_state h c b len stamp v = record v {
  blocks = record v.blocks { held = without (class_number c) b v.blocks.held };
  headers = record v.headers { held = freshened h (words_held (class_number c) b v.blocks.held) (stamped_at h stamp (placed_at h (place_word (class_number c) b len) v.headers.held)) };
}

-- The place word and the stamp word of the header were stored, and then it was opened, at its generation. The state became the filled one, and the pass else only met more, all in the call.
pub record Fills (z : Sizes) (call h : ℕ) (c : Class) (b len stamp generation : ℕ) (v w : PassState) : Type 0 where
  pub placed : PassState
  pub stamped : PassState
  pub stores : StoresPlace z call h (place_word (class_number c) b len) v placed
  pub stamps : StoresStamp z call h stamp placed stamped
  pub number : ℕ
  pub told : Opens z call h stamped number w
  pub generation_is : generation_of number ≡ generation
  -- to a pass that is alone
  pub still : Runs (FillsWords z h (place_word (class_number c) b len) stamp) v w
  pub more : List Finding
  pub calls : Each (IsOf z call) more
  pub after : w ≡ grown more (filled_state h c b len stamp v)

-- The pass has the header no more, and holds the block that its place word named, with the words that it had under the header; else it only met more, all in the call. The header is free after the step, at its generation.
pub record Withdraws (z : Sizes) (call h : ℕ) (c : Class) (b : ℕ) (v w : PassState) : Type 0 where
  pub class_is : class_in (place_held h v.headers.held) ≡ class_number c
  pub block_is : block_in (place_held h v.headers.held) ≡ b
  pub before : List Finding
  pub looks : Each (IsLoadOf z call) before
  pub number : ℕ
  pub told : Releases z call h Fresh (grown before v) number w
  pub freed : IsFreed z call h Fresh (grown before v) number w told
  -- to a pass that is alone
  pub still : Runs (FreesPin z h LIVE) v w
  pub more : List Finding
  pub calls : Each (IsOf z call) more
  pub after : w ≡ record (grown more v) { blocks = record v.blocks { held = record { class = c; number = b; words = words_in h v.headers.held } ∷ v.blocks.held }; headers = record v.headers { held = without_header h v.headers.held } }
