-- What contracts see of a closed table.
use Rattle.std.specs.Prelude.{◌≡◌, ℕ, ◌==◌, cond, List, [], ◌∷◌, ◌++◌, map}
use Rattle.std.specs.Slots.{slots_items}
use mathlib.Core.Option.{some}
use lib.ListN.{get_elem?}
use Rattle.oak_model.specs.Counts.{Each}
use Rattle.oak_model.specs.Limits.{Sizes}
use Rattle.oak_model.specs.Key.{is_key}
use Rattle.oak_model.specs.KeyNumber.{key_number}
use Rattle.oak_model.specs.History.{History, last_state}
use Rattle.oak_model.specs.State.{State}
use Rattle.oak_model.specs.declared.replies.Lack.{Lack}
use Rattle.oak_core.specs.declared.closing.Closed.{Closed}
use Rattle.oak_core.specs.declared.states.Findings.{Findings}
use Rattle.oak_core.specs.declared.states.Full.{Full}
use Rattle.oak_core.specs.declared.states.Joined.{Joined}
use Rattle.oak_core.specs.declared.states.KeyedWrite.{KeyedWrite}
use Rattle.oak_core.specs.declared.states.PassState.{PassState}
use Rattle.oak_core.specs.Bounds.{UntilRemoved}
use Rattle.oak_core.specs.Lack.{Lacked}
use Rattle.oak_core.specs.Memory.{memory}
use Rattle.oak_core.specs.PassState.{seen_of, no_findings, joined_from}
use Rattle.oak_core.specs.Running.{IsReached}

abbrev pub closed_key : Closed → Sizes
closed_key c = c.shape

-- what the last pass has seen, done and taken over
abbrev pub closed_state : Closed → PassState
closed_state c = c.last.value.seat.me.0

abbrev pub closed_words : Closed → List ℕ
closed_words c = slots_items c.table.words

-- The history of a key. What is no key has none: the numbers of such lists are those of keys, too.
abbrev pub closed_history : Closed → List ℕ → History
closed_history c k = cond (is_key k) (map (λ (w : KeyedWrite). w.write) (seen_of (key_number k) (closed_state c).knowledge)) []

-- what the key holds at the end
abbrev pub closed_map : Closed → List ℕ → State
closed_map c k = last_state (closed_history c k)

-- the passes, as one list: the last, and those joined into it
abbrev pub all_passes : PassState → List Joined
all_passes v = joined_from v ∷ v.numbers.joined

-- what the pass with the number met, noted and swept
unfoldable pub findings_by : ℕ → List Joined → Findings
findings_by n [] = no_findings
findings_by n (j ∷ js) = cond (j.number == n) j.findings (findings_by n js)

abbrev pub closed_findings : Closed → ℕ → Findings
closed_findings c n = findings_by n (all_passes (closed_state c))

-- the refused calls, each with its pass's number
pub record FullCall : Type 0 where
  pub pass : ℕ
  pub call : ℕ
  pub lack : Lack

unfoldable pub fulls_of : List Joined → List FullCall
fulls_of [] = []
fulls_of (j ∷ js) = map (λ (f : Full). record { pass = j.number; call = f.call; lack = f.lack }) j.findings.fulls ++ fulls_of js

abbrev pub closed_fulls : Closed → List FullCall
closed_fulls c = fulls_of (all_passes (closed_state c))

-- each lacked what it names, by what its pass found in it
abbrev pub FullsLacked : Closed → Type 0
FullsLacked c = Each (λ (f : FullCall). Lacked (closed_key c) f.call f.lack (closed_findings c f.pass)) (closed_fulls c)

-- the closed words and the last pass stand at the end of a schedule from the opening at the generation g
pub record EndsFrom (g : ℕ) (c : Closed) : Type 0 where
  pub states : List PassState
  pub seat : ℕ
  pub here : get_elem? states seat ≡ some (closed_state c)
  pub reached : IsReached (closed_key c) g record { words = closed_words c; states = states }

-- where no pass removed anything, each header is at the generation g still, and not dead
abbrev pub IsUnworn : ℕ → Closed → Type 0
IsUnworn g c = UntilRemoved (closed_key c) g (memory (closed_key c) (closed_words c)) (closed_state c ∷ [])
